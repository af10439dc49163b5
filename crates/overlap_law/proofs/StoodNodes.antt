-- In each run in range a node that isn't lost is a member of each epoch since it joined, so members stay until they are lost.
use Rattle.std.proofs.Common.{◌≡◌, ◌⊎◌, inl, inr, ⊎_elim, arith, ℕ, zero, suc, ◌≤◌, ◌<◌, nat_le, Bool, true, false, ◌||◌, List, [], ◌∷◌}
use Rattle.std.proofs.Common.{◌++◌, length, Option, Some, None, is_some, refl, sym, ap, subst, ◌∙◌}
use Rattle.std.specs.Option.{option_map_or}
use Rattle.std.specs.FinMap as tree
use Rattle.std.proofs.lemmas.Bool.{cases_lt, le-leb}
use Rattle.std.proofs.lemmas.Option.{same_Some}
use Rattle.object_id.specs.declared.entry.Entry.{Entry}
use Rattle.epoch_log.specs.Members.{is_member}
use Rattle.epoch_log.specs.Epochs.{epoch_of, members_in}
use Rattle.cluster_script.specs.declared.statement.Statement.{Statement}
use Rattle.sheep_world.specs.World.{Host}
use Rattle.sheep_world.specs.Opening.{format_entry, initial_world}
use Rattle.sheep_world.specs.Began.{Began}
use Rattle.sheep_world.specs.LogHolds.{LogHolds}
use Rattle.sheep_world.proofs.LogAtOpening.{log-holds}
use Rattle.overlap_law.specs.Reached.{Hosts, has_come_in}
use Rattle.overlap_law.specs.Each.{EachUp}
use Rattle.overlap_law.specs.Past.{MomentWithPast, first_moment, run_with_past, run_on}
use Rattle.overlap_law.specs.MomentChanges.{MomentChange, RunsAreInRange, KeptByChanges}
use Rattle.overlap_law.specs.NodeEpochs.{TheUpAreMembers, TheUpHaveStayed, LeaversAreBeyond}
use Rattle.overlap_law.proofs.EpochsRise.{EpochsRise, epochs_rise}
use Rattle.overlap_law.proofs.LogsInMoments.{LogGrows, log_grows, same_members, epochs_grow, ends_or_same, WasUp, IsNew, ups_were_up}
use Rattle.overlap_law.proofs.NoRecoveredDue.{began-with_past}

-- since an epoch a node is a member; it was none before, or has come to that epoch
pub record StoodSince (log : List Entry) (n epoch : ℕ) : Type 0 where
  pub joined : ℕ
  pub begun : joined ≤ epoch_of log
  pub since : (k : ℕ) → joined ≤ k → k ≤ epoch_of log → is_member n (members_in log k) ≡ true
  pub before : (joined ≤ epoch) ⊎ ((k : ℕ) → k < joined → is_member n (members_in log k) ≡ false)

-- the up are members since they joined, and each member of an epoch is there
pub record TheUpHaveStood (log : List Entry) (hosts : Hosts) : Type 0 where
  pub some : 1 ≤ length log
  pub members : TheUpAreMembers log hosts
  pub seated : (n k : ℕ) → k ≤ epoch_of log → is_member n (members_in log k) ≡ true → is_some (tree.get hosts n) ≡ true
  pub stood : EachUp hosts (λ n node. StoodSince log n node.peer.epoch)

-- ---- what it says

module _ (log : List Entry) (hosts : Hosts) (holds : TheUpHaveStood log hosts) where
  pub have_stayed : TheUpHaveStayed log hosts
  have_stayed = record {
    each = λ n host there up epoch later member own from most.
        let stood = holds.stood n host there up in
        let joined : stood.joined ≤ epoch = ⊎_elim
        (λ (came : stood.joined ≤ host.node.peer.epoch). omega (arith, came, own))
        (λ (none : (k : ℕ) → k < stood.joined → is_member n (members_in log k) ≡ false). ⊎_elim
        (λ (below : epoch < stood.joined). let no = none epoch below in absurd (cc (no, member)))
        (λ (above : stood.joined ≤ epoch). above)
        (cases_lt epoch stood.joined))
        stood.before in
        stood.since later (omega (arith, joined, from)) most;
  }

  pub are_beyond : LeaversAreBeyond log hosts
  are_beyond = record {
    each = λ n host there epoch later member before most none.
        ap (λ (o : Option Host). option_map_or (has_come_in later) o true) there
        ∙ come n host there epoch later member before most none host.is_lost refl;
  }
    where
      come : (n : ℕ) (host : Host) → tree.get hosts n ≡ Some host → (epoch later : ℕ) → is_member n (members_in log epoch) ≡ true
          → epoch < later
          → later ≤ epoch_of log → is_member n (members_in log later) ≡ false → (b : Bool) → host.is_lost ≡ b
          → (b || nat_le later host.node.peer.epoch) ≡ true
      come n host there epoch later member before most none true lost = refl
      come n host there epoch later member before most none false up =
          let stood = holds.stood n host there up in
          let out : later < stood.joined = ⊎_elim
          (λ (below : later < stood.joined). below)
          (λ (above : stood.joined ≤ later). let yes = stood.since later above most in absurd (cc (yes, none)))
          (cases_lt later stood.joined) in
          ⊎_elim
          (λ (came : stood.joined ≤ host.node.peer.epoch). le-leb later host.node.peer.epoch (omega (arith, came, out)))
          (λ (never : (k : ℕ) → k < stood.joined → is_member n (members_in log k) ≡ false).
          let no = never epoch (omega (arith, before, out)) in absurd (cc (no, member)))
          stood.before

-- ---- how it is kept

module _ (log log_after : List Entry) (grows : LogGrows log log_after) (some : 1 ≤ length log) (n : ℕ)
    (now : is_member n (members_in log_after (epoch_of log_after)) ≡ true) where
  -- an epoch of the longer log is one of the shorter, or its newest
  old_or_newest : (k : ℕ) → k ≤ epoch_of log_after → (k ≤ epoch_of log) ⊎ (k ≡ epoch_of log_after)
  old_or_newest k within = ⊎_elim
      (λ (new : epoch_of log < k). let most = grows.most in inr (omega (arith, new, within, most)))
      (λ (old : k ≤ epoch_of log). inl old)
      (cases_lt (epoch_of log) k)

  stands_on : (epoch epoch_after : ℕ) → epoch ≤ epoch_after → StoodSince log n epoch → StoodSince log_after n epoch_after
  stands_on epoch epoch_after rises stood = record {
    joined = stood.joined;
    begun = (let begun = stood.begun in let more = epochs_grow log log_after grows in omega (arith, begun, more));
    since = λ k from most. ⊎_elim
        (λ (old : k ≤ epoch_of log). ap (is_member n) (same_members log log_after grows some k old) ∙ stood.since k from old)
        (λ (newest : k ≡ epoch_of log_after). ap (λ (q : ℕ). is_member n (members_in log_after q)) newest ∙ now)
        (old_or_newest k most);
    before = ⊎_elim
        (λ (came : stood.joined ≤ epoch). inl (omega (arith, came, rises)))
        (λ (none : (k : ℕ) → k < stood.joined → is_member n (members_in log k) ≡ false).
        inr (λ k below.
        let begun = stood.begun in
        let old : k ≤ epoch_of log = omega (arith, begun, below) in
        ap (is_member n) (same_members log log_after grows some k old) ∙ none k below))
        stood.before;
  }

module _ (script : List Statement) (range : RunsAreInRange script) where
  change_stood : (start before after : MomentWithPast) → Began script start.world → MomentChange script start before after
      → TheUpHaveStood before.world.log before.world.hosts → TheUpHaveStood after.world.log after.world.hosts
  change_stood start before after began change holds = record {
    some = longer;
    members = members_after;
    seated = seated_after (ends_or_same script began change);
    stood = λ n now there up. ⊎_elim (stands_still n now there up) (stands_anew n now there up)
        (ups_were_up script range began change n now there up);
  }
    where
      grows : LogGrows before.world.log after.world.log
      grows = log_grows script change

      longer : 1 ≤ length after.world.log
      longer = by_rest grows.rest grows.is
        where
          at_least : (log rest : List Entry) → 1 ≤ length log → 1 ≤ length (log ++ rest)
          at_least [] rest some = absurd (omega (arith, some))
          at_least (entry ∷ log) rest some = omega arith

          by_rest : (rest : List Entry) → after.world.log ≡ before.world.log ++ rest → 1 ≤ length after.world.log
          by_rest rest is = subst (λ (log : List Entry). 1 ≤ length log) (sym is) (at_least before.world.log rest holds.some)

      rises : EpochsRise before.world.hosts after.world.hosts
      rises = epochs_rise script range start began change

      by_ends : Began script after.world ⊎ (after.world.log ≡ before.world.log) → TheUpAreMembers after.world.log after.world.hosts
      by_ends (inl ended) =
          record { each = λ n host there up. ((log-holds script range.is_script range.room after.world ended).well n host there).stands up }
      by_ends (inr same) = record {
        each = λ n now there up. ⊎_elim
            (λ (was : WasUp before.world.hosts n).
            ap (λ (log : List Entry). is_member n (members_in log (epoch_of log))) same ∙ holds.members.each n was.0 was.1 was.2)
            (λ (new : IsNew before after n now). let begun = new.begun in let epochs = ap epoch_of same in absurd
            (omega (arith, begun, epochs))) (ups_were_up script range began change n now there up);
      }

      members_after : TheUpAreMembers after.world.log after.world.hosts
      members_after = by_ends (ends_or_same script began change)

      there_still : (n : ℕ) (o : Option Host) → tree.get before.world.hosts n ≡ o → is_some o ≡ true
          → is_some (tree.get after.world.hosts n) ≡ true
      there_still n None is there = absurd (cc (there))
      there_still n (Some host) is there = ap (λ (o : Option Host). is_some o) (rises n host is).1

      seated_before : (n k : ℕ) → k ≤ epoch_of before.world.log → is_member n (members_in after.world.log k) ≡ true
          → is_some (tree.get before.world.hosts n) ≡ true
      seated_before n k old member =
          holds.seated n k old (sym (ap (is_member n) (same_members before.world.log after.world.log grows holds.some k old)) ∙ member)

      seated_after : Began script after.world ⊎ (after.world.log ≡ before.world.log)
          → (n k : ℕ) → k ≤ epoch_of after.world.log → is_member n (members_in after.world.log k) ≡ true
          → is_some (tree.get after.world.hosts n) ≡ true
      seated_after ends n k within member = ⊎_elim
          (λ (new : epoch_of before.world.log < k). by_end ends (let most = grows.most in omega (arith, new, within, most)))
          (λ (old : k ≤ epoch_of before.world.log). there_still n (tree.get before.world.hosts n) refl (seated_before n k old member))
          (cases_lt (epoch_of before.world.log) k)
        where
          by_end : Began script after.world ⊎ (after.world.log ≡ before.world.log) → k ≡ epoch_of after.world.log
              → is_some (tree.get after.world.hosts n) ≡ true
          by_end (inl ended) newest =
              (log-holds script range.is_script range.room after.world ended).seated n
              (ap (λ (q : ℕ). is_member n (members_in after.world.log q)) (sym newest) ∙ member)
          by_end (inr same) newest =
              let old : k ≤ epoch_of before.world.log = (let epochs = ap epoch_of same in omega (arith, newest, epochs)) in
              there_still n (tree.get before.world.hosts n) refl (seated_before n k old member)

      stands_still : (n : ℕ) (now : Host) → tree.get after.world.hosts n ≡ Some now → now.is_lost ≡ false → WasUp before.world.hosts n
          → StoodSince after.world.log n now.node.peer.epoch
      stands_still n now there up was =
          let (later, at, more) = rises n was.0 was.1 in
          let same : later ≡ now = same_Some later now (sym at ∙ there) in
          stands_on before.world.log after.world.log grows holds.some n (members_after.each n now there up) was.0.node.peer.epoch
          now.node.peer.epoch (subst (λ (h : Host). was.0.node.peer.epoch ≤ h.node.peer.epoch) same more) (holds.stood n was.0 was.1 was.2)

      stands_anew : (n : ℕ) (now : Host) → tree.get after.world.hosts n ≡ Some now → now.is_lost ≡ false → IsNew before after n now
          → StoodSince after.world.log n now.node.peer.epoch
      stands_anew n now there up new = record {
        joined = epoch_of after.world.log;
        begun = omega arith;
        since = λ k from most.
            let newest : k ≡ epoch_of after.world.log = omega (arith, from, most) in
            ap (λ (q : ℕ). is_member n (members_in after.world.log q)) newest ∙ members_after.each n now there up;
        before = ⊎_elim
            (λ (none : is_some (tree.get before.world.hosts n) ≡ false). inr
            (λ k below. no_member k below none (is_member n (members_in after.world.log k)) refl))
            (λ (own : now.node.peer.epoch ≡ epoch_of after.world.log). inl (omega (arith, own)))
            new.fresh;
      }
        where
          no_member : (k : ℕ) → k < epoch_of after.world.log → is_some (tree.get before.world.hosts n) ≡ false → (b : Bool)
              → is_member n (members_in after.world.log k) ≡ b → is_member n (members_in after.world.log k) ≡ false
          no_member k below none true member =
              let old : k ≤ epoch_of before.world.log = (let begun = new.begun in omega (arith, begun, below)) in
              let seat = seated_before n k old member in
              absurd (cc (seat, none))
          no_member k below none false member = member

  -- before the first event
  opening_began : Began script (first_moment script).world
  unfolding run_with_past run_on
  opening_began = began-with_past script [] (first_moment script) refl

  -- the members of each epoch that has begun are the opening ones
  opening_members_in : (k : ℕ) → k ≤ 1 → members_in (format_entry script ∷ []) k ≡ members_in (format_entry script ∷ []) 1
  opening_members_in zero within = refl
  opening_members_in (suc zero) within = refl
  opening_members_in (suc (suc k)) within = absurd (omega (arith, within))

  opening_stood : TheUpHaveStood (first_moment script).world.log (first_moment script).world.hosts
  unfolding initial_world
  opening_stood =
      let holds : LogHolds (initial_world script) = log-holds script range.is_script range.room (initial_world script) opening_began in
      record {
        some = omega arith;
        members = record { each = λ n host there up. (holds.well n host there).stands up };
        seated = λ n k within member. holds.seated n (sym (ap (is_member n) (opening_members_in k within)) ∙ member);
        stood = λ n host there up. record {
          joined = 0;
          begun = omega arith;
          since = λ k from most. ap (is_member n) (opening_members_in k most) ∙ (holds.well n host there).stands up;
          before = inl (omega arith);
        };
      }

  pub kept_stood : KeptByChanges script (λ (moment : MomentWithPast). TheUpHaveStood moment.world.log moment.world.hosts)
  kept_stood =
      record { opens = opening_stood; keeps = λ start before after began change holds. change_stood start before after began change holds }
