-- At which level the nodes hold what was made, where recovered rows are kept and attempts are carried; and that a recovery whose list is
-- finished can find it there.
use Rattle.std.proofs.Common.{◌≡◌, ◌⊎◌, inl, inr, ⊎_elim, arith, ℕ, ◌≤◌, ◌<◌, ◌==◌, ◌&&◌, ◌||◌, nat_le, max, not, Bool, true, false, List}
use Rattle.std.proofs.Common.{[], ◌∷◌, ◌++◌, length, Option, Some, None, refl, sym, ap, subst, ◌∙◌, slice_get}
use Rattle.std.specs.List.{list_any}
use Rattle.std.specs.Option.{option_map_or}
use Rattle.std.specs.FinMap as tree
use Rattle.std.proofs.lemmas.Bool.{eqb-true, eq-eqb, leb-true, or_left, or_right}
use Rattle.std.proofs.lemmas.Option.{same_Some}
use Rattle.object_id.specs.declared.node.NodeId.{NodeId}
use Rattle.object_id.specs.declared.entry.Entry.{Entry}
use Rattle.object_id.specs.declared.entry.Member.{Member}
use Rattle.object_id.specs.declared.policy.Policy.{Policy}
use Rattle.epoch_log.specs.Members.{is_member_node, is_member}
use Rattle.epoch_log.specs.Epochs.{members_in, settled_of, has_recovered}
use Rattle.epoch_log.proofs.EpochLemmas.{settled_of-begun}
use Rattle.object_list.specs.Gathered.{has_node}
use Rattle.vdi_directory.specs.Decisions.{log_effects}
use Rattle.peer_proto.specs.Work.{policy_of}
use Rattle.recovery.specs.State.{is_listed}
use Rattle.cluster_script.specs.declared.statement.Statement.{Statement}
use Rattle.sheep_world.specs.World.{Host}
use Rattle.sheep_world.specs.RunsWithAsks.{Move}
use Rattle.overlap_law.specs.Attempts.{AttemptRecord, object_of}
use Rattle.overlap_law.specs.Words.{Hosts, is_made, is_doomed}
use Rattle.overlap_law.specs.Reached.{is_beyond, has_finished, is_dying}
use Rattle.overlap_law.specs.Holders.{targets_by, is_dead_by_log}
use Rattle.overlap_law.specs.Past.{MomentWithPast, run_with_past}
use Rattle.overlap_law.specs.Each.{EachHost, EachAttempt, has_reached, has_row_at, holds_level, policy_in}
use Rattle.overlap_law.specs.Fates.{AttemptsAreShaped, IdsAreKnown}
use Rattle.overlap_law.specs.NodeEpochs.{RecoveriesArePresent, AnswerersHaveCome}
use Rattle.overlap_law.specs.Rows.{IsMadeBy, ServedRowsStay, RecoveredRowsAreKept, AttemptsAreCarried, IsCarriedFrom}
use Rattle.overlap_law.specs.HeldLevels.{level_of, IsHeldAt, TheMadeIsHeld, TheMadeCanBeFound}
use Rattle.overlap_law.specs.MomentChanges.{MomentTrail, RunsAreInRange}
use Rattle.overlap_law.proofs.BaseLemmas.{made-served}
use Rattle.overlap_law.proofs.EpochsInRuns.{settled_less}
use Rattle.overlap_law.proofs.FateLemmas.{made-not_doomed}
use Rattle.overlap_law.proofs.FinishedInMoments.{TermsHold, kept_terms}
use Rattle.overlap_law.proofs.HolderLemmas.{target-member, greater}
use Rattle.overlap_law.proofs.OverlapLemmas.{settled-recovered, settled-stands}
use Rattle.overlap_law.proofs.ReadInMoments.{are_present}
use Rattle.overlap_law.proofs.RecoveredInMoments.{finished_by_log}
use Rattle.overlap_law.proofs.RunsByChanges.{on_the_way}
use Rattle.overlap_law.proofs.ServedPlaces.{served_at}
use Rattle.overlap_law.proofs.StayingRows.{RowsHold, kept_rows}

-- ---- the settled epoch isn't dying

none_dies : (hosts : Hosts) (log : List Entry) (epoch : ℕ) (members : List Member)
    → ((node : NodeId) → is_member node.0 members ≡ true → has_finished hosts log epoch node ≡ true)
    → list_any (λ (member : Member). not (has_finished hosts log epoch member.node) && is_beyond hosts epoch member.node) members ≡ false
none_dies hosts log epoch [] all = refl
none_dies hosts log epoch (member ∷ members) all =
    let done : has_finished hosts log epoch member.node ≡ true
    = all member.node (or_left (is_member_node member.node.0 member) (is_member member.node.0 members)
    (eq-eqb member.node.0 member.node.0 refl)) in
    ap (λ (b : Bool). (not b && is_beyond hosts epoch member.node)
    || list_any (λ (other : Member). not (has_finished hosts log epoch other.node) && is_beyond hosts epoch other.node) members) done
    ∙ none_dies hosts log epoch members
    (λ node among. all node (or_right (is_member_node node.0 member) (is_member node.0 members) among))

settled-not_dying : (log : List Entry) (hosts : Hosts) → 1 < settled_of log → is_dying hosts log (settled_of log) ≡ false
unfolding is_dying
settled-not_dying log hosts later =
    none_dies hosts log (settled_of log) (members_in log (settled_of log))
    (λ node member. (settled-recovered log hosts).each node later member)

-- ---- what was made

-- what it rests on
-- targets that have recovered in the settled epoch, by the log, have a row that covers it, of each object made by then
pub record SettledRowsAreKept (log : List Entry) (good : ℕ → Bool) (hosts : Hosts) (attempts : List AttemptRecord) : Type 0 where
  pub each : EachHost hosts (λ n host. (oid : ℕ) (policy : Policy) → good oid ≡ true → policy_in (log_effects log) oid ≡ Some policy
      → has_recovered log (settled_of log) n ≡ true → host.node.peer.settled ≤ settled_of log
      → has_node (record { 0 = n }) (targets_by log (settled_of log) oid policy) ≡ true → IsMadeBy attempts oid (settled_of log)
      → has_row_at host.node.peer.epoch host.node.peer.rows oid (settled_of log) ≡ true)

pub record HoldTheMade (log : List Entry) (live good : ℕ → Bool) (hosts : Hosts) (attempts : List AttemptRecord) : Type 0 where
  pub lives : (oid : ℕ) → good oid ≡ true → live oid ≡ true
  pub whole : EachAttempt attempts (λ j attempt. length attempt.fates ≡ length attempt.targets)
  pub shape : AttemptsAreShaped (targets_by log) log attempts
  pub known : IdsAreKnown log attempts
  pub settled : EachHost hosts (λ n host. host.node.peer.settled ≤ settled_of log)
  pub stays : ServedRowsStay live hosts attempts
  pub kept : SettledRowsAreKept log good hosts attempts
  pub carried : AttemptsAreCarried (targets_by log) log (log_effects log) good hosts attempts

module _ (log : List Entry) (live good : ℕ → Bool) (hosts : Hosts) (attempts : List AttemptRecord)
    (holds : HoldTheMade log live good hosts attempts) where
  module _ (j : ℕ) (attempt : AttemptRecord) (there : slice_get attempts j ≡ Some attempt) (made : is_made attempt ≡ true)
      (is_good : good (object_of attempt) ≡ true) where
    abbrev oid : ℕ
    oid = object_of attempt

    abbrev policy : Policy
    policy = policy_of attempt.work

    policy_so : policy_in (log_effects log) oid ≡ Some policy
    policy_so = holds.shape.policy j attempt there

    stands : is_doomed hosts attempt ≡ false
    stands = made-not_doomed hosts attempt made

    pub first : 1 ≤ attempt.epoch
    first =
        let reserved = holds.known.reserved j attempt there in
        let before = holds.known.before j attempt there in
        omega (arith, reserved, before)

    -- its targets have served it
    own_rows : settled_of log ≤ attempt.epoch
        → EachHost hosts (λ n host. has_node (record { 0 = n }) (targets_by log attempt.epoch oid policy) ≡ true
        → has_row_at host.node.peer.epoch host.node.peer.rows oid attempt.epoch ≡ true)
    own_rows later n host at placed =
        let own : has_node (record { 0 = n }) attempt.targets ≡ true
        = subst (λ (nodes : List NodeId). has_node (record { 0 = n }) nodes ≡ true) (sym (holds.shape.targets j attempt there)) placed in
        let read = holds.settled n host at in
        ⊎_elim
        (λ (covers : has_row_at host.node.peer.epoch host.node.peer.rows oid attempt.epoch ≡ true). covers)
        (λ (below : attempt.epoch < host.node.peer.settled). absurd (omega (arith, below, read, later)))
        (holds.stays.each j attempt there n host at (holds.lives oid is_good)
        (made-served (record { 0 = n }) attempt (holds.whole j attempt there) made own))

    -- or have recovered what it made
    settled_rows : attempt.epoch < settled_of log
        → EachHost hosts (λ n host. has_node (record { 0 = n }) (targets_by log (settled_of log) oid policy) ≡ true
        → has_row_at host.node.peer.epoch host.node.peer.rows oid (settled_of log) ≡ true)
    settled_rows later n host at placed =
        let least = first in
        holds.kept.each n host at oid policy is_good policy_so
        (settled-stands log n (omega (arith, later, least))
        (target-member log (settled_of log) oid policy (record { 0 = n }) placed))
        (holds.settled n host at) placed
        (record { place = j; attempt = attempt; there = there; object = refl; made = made; before = omega (arith, later) })

    settled_carried : attempt.epoch < settled_of log → IsCarriedFrom (targets_by log) log (settled_of log) oid policy
    settled_carried later =
        let least = first in
        holds.carried.later j attempt there policy (settled_of log) is_good policy_so stands (omega arith) later (settled_of-begun log).1
        (settled-not_dying log hosts (omega (arith, later, least)))

    at_level : (level : ℕ)
        → ((level ≡ attempt.epoch) × (settled_of log ≤ attempt.epoch)) ⊎ ((level ≡ settled_of log) × (attempt.epoch < settled_of log))
        → IsHeldAt (targets_by log) log hosts oid level policy
    at_level level (inl own) = subst (λ (l : ℕ). IsHeldAt (targets_by log) log hosts oid l policy) (sym own.0) (record {
      read = λ n host at. (let read = holds.settled n host at in let above = own.1 in omega (arith, read, above));
      rows = own_rows own.1;
      carried = holds.carried.own j attempt there policy is_good policy_so stands own.1;
    })
    at_level level (inr settled) = subst (λ (l : ℕ). IsHeldAt (targets_by log) log hosts oid l policy) (sym settled.0) (record {
      read = holds.settled;
      rows = settled_rows settled.1;
      carried = settled_carried settled.1;
    })

    pub held : (asked : Policy) → policy_in (log_effects log) oid ≡ Some asked
        → IsHeldAt (targets_by log) log hosts oid (level_of log attempt) asked
    held asked is =
        subst (λ (p : Policy). IsHeldAt (targets_by log) log hosts oid (level_of log attempt) p)
        (same_Some policy asked (sym policy_so ∙ is)) (at_level (level_of log attempt) (greater attempt.epoch (settled_of log)))

  pub made_held : TheMadeIsHeld (targets_by log) log (log_effects log) good hosts attempts
  made_held = record { each = λ j attempt there policy is_good is made. held j attempt there made is_good policy is }

-- ---- who asks for it

-- where a recovery's list is finished, each member of its epoch came to it
module _ (log : List Entry) (hosts : Hosts) (present : RecoveriesArePresent log hosts) (answered : AnswerersHaveCome hosts) where
  pub none_waits : (waiting : List NodeId) (node : NodeId) → (length waiting == 0) ≡ true → has_node node waiting ≡ false
  none_waits [] node listed = refl
  none_waits (other ∷ waiting) node listed =
      let no : length (other ∷ waiting) ≡ 0 = eqb-true (length (other ∷ waiting)) 0 listed in absurd (omega (arith, no))

  pub members_came : (n : ℕ) (host : Host) → tree.get hosts n ≡ Some host → is_listed host.node.recovery ≡ true
      → 1 < host.node.recovery.epoch
      → (other : NodeId) → is_member other.0 (members_in log host.node.recovery.epoch) ≡ true
      → has_reached hosts host.node.recovery.epoch other ≡ true
  members_came n host at listed later other member =
      answered.each n host at other (present.members n host at other later ∙ member)
      (none_waits host.node.recovery.lists.waiting other listed)

module _ (log : List Entry) (live good : ℕ → Bool) (hosts : Hosts) (attempts : List AttemptRecord)
    (holds : HoldTheMade log live good hosts attempts)
    (present : RecoveriesArePresent log hosts) (answered : AnswerersHaveCome hosts) where
  -- who came to an epoch is there
  held_there : (epoch oid level : ℕ) (target : NodeId) → 1 < epoch → has_reached hosts epoch target ≡ true
      → ((host : Host) → tree.get hosts target.0 ≡ Some host → has_row_at host.node.peer.epoch host.node.peer.rows oid level ≡ true)
      → holds_level (tree.get hosts target.0) oid level ≡ true
  held_there epoch oid level target later reached rows = by_host (tree.get hosts target.0) refl reached
    where
      by_host : (o : Option Host) → tree.get hosts target.0 ≡ o
          → nat_le epoch (option_map_or (λ (host : Host). host.node.peer.epoch) o 0) ≡ true
          → holds_level (tree.get hosts target.0) oid level ≡ true
      by_host None is came = let low : epoch ≤ 0 = leb-true epoch 0 came in absurd (omega (arith, low, later))
      by_host (Some host) is came = ap (λ (o : Option Host). holds_level o oid level) is ∙ rows host is

  pub can_be_found : TheMadeCanBeFound (targets_by log) log (log_effects log) good hosts attempts
  can_be_found = record {
    each = λ n host at j attempt there policy listed settled within is_good is made before.
        let epoch : ℕ = host.node.recovery.epoch in
        let oid : ℕ = object_of attempt in
        let level : ℕ = level_of log attempt in
        let least : 1 ≤ attempt.epoch = first log live good hosts attempts holds j attempt there made is_good in
        let later : 1 < host.node.recovery.epoch = omega (arith, least, before) in
        let below : max attempt.epoch (settled_of log) < host.node.recovery.epoch = omega (arith, before, settled) in
        let no_later : max attempt.epoch (settled_of log) ≤ host.node.recovery.epoch = omega (arith, below) in
        let is_held : IsHeldAt (targets_by log) log hosts (object_of attempt) (level_of log attempt) policy
        = held log live good hosts attempts holds j attempt there made is_good policy is in
        record {
          below = below;
          enough = is_held.carried host.node.recovery.epoch no_later within;
          came = λ target placed member. members_came log hosts present answered n host at listed later target member;
          rows = λ target placed member.
              held_there epoch oid level target later (members_came log hosts present answered n host at listed later target member)
              (λ other is_there. is_held.rows target.0 other is_there placed);
        };
  }

-- ---- at a moment of a run

-- what every run has of a moment, and what is carried along the way of an event
pub record HasMade (good : ℕ → Bool) (moment : MomentWithPast) : Type 0 where
  pub rows : RowsHold moment
  pub terms : TermsHold moment
  pub alive : (oid : ℕ) → good oid ≡ true → is_dead_by_log moment.world.log oid ≡ false
  pub kept : SettledRowsAreKept moment.world.log good moment.world.hosts moment.past.attempts
  pub carried : AttemptsAreCarried (targets_by moment.world.log) moment.world.log (log_effects moment.world.log) good moment.world.hosts
      moment.past.attempts

-- whether an object's id isn't dead
abbrev pub lives_by : List Entry → ℕ → Bool
lives_by log oid = not (is_dead_by_log log oid)

unless_dead : (b : Bool) → not b ≡ true → b ≡ false
unless_dead true is = absurd (cc (is))
unless_dead false is = refl

-- recovered rows are kept, so those of the settled epoch are
pub settled_kept : (log : List Entry) (good : ℕ → Bool) (hosts : Hosts) (attempts : List AttemptRecord)
    → RecoveredRowsAreKept (targets_by log) log (log_effects log) good hosts attempts → SettledRowsAreKept log good hosts attempts
settled_kept log good hosts attempts kept = record {
  each = λ n host at oid policy is_good policy_so recovered settled placed made.
      kept.each n host at oid (settled_of log) policy is_good policy_so (finished_by_log hosts log n (settled_of log) recovered) settled
      placed made;
}

pub has_made : (script : List Statement) → RunsAreInRange script → (events : List Move) (start moment : MomentWithPast)
    → run_with_past script events ≡ Some start → MomentTrail script start moment → (good : ℕ → Bool)
    → ((oid : ℕ) → good oid ≡ true → is_dead_by_log moment.world.log oid ≡ false)
    → RecoveredRowsAreKept (targets_by moment.world.log) moment.world.log (log_effects moment.world.log) good moment.world.hosts
    moment.past.attempts
    → AttemptsAreCarried (targets_by moment.world.log) moment.world.log (log_effects moment.world.log) good moment.world.hosts
    moment.past.attempts
    → HasMade good moment
has_made script range events start moment is trail good alive kept carried = record {
  rows = on_the_way script RowsHold (kept_rows script range) events start moment is trail;
  terms = on_the_way script TermsHold (kept_terms script range) events start moment is trail;
  alive = alive;
  kept = settled_kept moment.world.log good moment.world.hosts moment.past.attempts kept;
  carried = carried;
}

module _ (good : ℕ → Bool) (moment : MomentWithPast) (has : HasMade good moment) where
  pub holds_made : HoldTheMade moment.world.log (lives_by moment.world.log) good moment.world.hosts moment.past.attempts
  holds_made = record {
    lives = λ oid is. ap not (has.alive oid is);
    whole = has.rows.tied.fates.whole;
    shape = has.rows.shaped.shape;
    known = has.rows.shaped.known;
    settled = λ n host at.
        let read = (has.terms.sound.each n host at).read in
        let own : host.node.peer.settled ≡ settled_of host.node.peer.entries = read.settled_so in
        let less : settled_of host.node.peer.entries ≤ settled_of (host.node.peer.entries ++ read.front.rest)
        = settled_less host.node.peer.entries read.front.rest in
        let all : settled_of moment.world.log ≡ settled_of (host.node.peer.entries ++ read.front.rest) = ap settled_of read.front.is in
        omega (arith, own, less, all);
    stays = record {
      each = λ j attempt there n host got live served_so.
          let (place, target, among, served, own) = served_at (record { 0 = n }) attempt.targets attempt.fates served_so in
          has.rows.served j attempt there place target among served host (ap (tree.get moment.world.hosts) own ∙ got)
          (unless_dead (is_dead_by_log moment.world.log (object_of attempt)) live);
    };
    kept = has.kept;
    carried = has.carried;
  }

  pub gives-held : TheMadeIsHeld (targets_by moment.world.log) moment.world.log (log_effects moment.world.log) good moment.world.hosts
      moment.past.attempts
  gives-held = made_held moment.world.log (lives_by moment.world.log) good moment.world.hosts moment.past.attempts holds_made

  pub gives-found : TheMadeCanBeFound (targets_by moment.world.log) moment.world.log (log_effects moment.world.log) good moment.world.hosts
      moment.past.attempts
  gives-found =
      can_be_found moment.world.log (lives_by moment.world.log) good moment.world.hosts moment.past.attempts holds_made
      (are_present moment has.terms.sound) has.terms.answers.answered
