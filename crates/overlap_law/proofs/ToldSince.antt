-- Each change of a moment keeps that a row which a recovery was told has what it owes: it is told by a row that has, what its node serves
-- later is of the recovery's epoch or a later one, and an attempt of an earlier epoch that begins is doomed, as all came to the recovery's.
use Rattle.std.proofs.Common.{◌≡◌, ◌⊎◌, inl, inr, ⊎_elim, arith, ℕ, ◌≤◌, ◌<◌, ◌&&◌, ◌||◌, nat_le, nat_lt, Bool, true, false}
use Rattle.std.proofs.Common.{cond, List, [], ◌∷◌, length, slice_get, Option, Some, None, refl, sym, ap, subst, ◌∙◌}
use Rattle.std.specs.FinMap as tree
use Rattle.std.proofs.Math.Nat.{min-le_left, min-le_right}
use Rattle.std.proofs.lemmas.Bool.{and_from, and_parts, le-leb, leb-true, lt-ltb, ltb-true, or_cases, or_left, or_right}
use Rattle.std.proofs.lemmas.Option.{same_Some}
use Rattle.proof_tools.proofs.Booleans.{cond_either}
use Rattle.object_id.specs.declared.entry.Entry.{Entry}
use Rattle.object_id.specs.declared.node.Epoch.{Epoch}
use Rattle.object_id.specs.declared.node.NodeId.{NodeId}
use Rattle.object_id.specs.declared.policy.Policy.{Policy}
use Rattle.object_id.specs.Oid.{kind_of}
use Rattle.object_list.specs.Gathered.{has_node}
use Rattle.object_store.specs.declared.row.RowCopy.{RowCopy}
use Rattle.object_store.specs.Store.{SeenRow, row_bytes, copy_of}
use Rattle.object_store.proofs.CopyLaws.{row_bytes-copy_of}
use Rattle.epoch_log.specs.Members.{is_member}
use Rattle.epoch_log.specs.Epochs.{members_in}
use Rattle.gf256.specs.Part.{is_in_strips}
use Rattle.cluster_script.specs.declared.statement.Statement.{Statement}
use Rattle.peer_proto.specs.Work.{policy_of}
use Rattle.vdi_directory.specs.Decisions.{log_effects}
use Rattle.sheep_world.specs.World.{Host}
use Rattle.sheep_world.specs.Began.{Began}
use Rattle.overlap_law.specs.Attempts.{AttemptRecord, MessageFate, object_of, attempts_on}
use Rattle.overlap_law.specs.Reached.{is_beyond}
use Rattle.overlap_law.specs.Words.{has_served, is_doomed, is_mute}
use Rattle.overlap_law.specs.Each.{end_of_row, policy_in}
use Rattle.overlap_law.specs.Past.{MomentWithPast}
use Rattle.overlap_law.specs.MomentChanges.{MomentChange, RunsAreInRange}
use Rattle.overlap_law.specs.Searches.{ToldRowsAreSince}
use Rattle.overlap_law.specs.ShapedAttempts.{AreShaped}
use Rattle.overlap_law.specs.Since.{reading_of, owes_attempt, IsSince, RowsAreSince}
use Rattle.overlap_law.specs.TiedAttempts.{IsTied}
use Rattle.overlap_law.specs.ToldRows.{end_told, served_told}
use Rattle.overlap_law.specs.Traffic.{TrafficBetween, OpenAttemptsHaveMessages}
use Rattle.overlap_law.proofs.AllAnswersInMoments.{reached_at}
use Rattle.overlap_law.proofs.BegunInMoments.{AllCame}
use Rattle.overlap_law.proofs.BeyondInMoments.{got-among, come_leaves, doomed_later}
use Rattle.overlap_law.proofs.FinishedInMoments.{TermsHold}
use Rattle.overlap_law.proofs.GrownAttempts.{GoOn, traffic_goes_on, grows-object, goes_on-grows}
use Rattle.overlap_law.proofs.HolderLemmas.{target-member}
use Rattle.overlap_law.proofs.LinkedAttempts.{IsLinked, IsBehind, linked, served_before}
use Rattle.overlap_law.proofs.LogsInMoments.{LogGrows, log_grows}
use Rattle.overlap_law.proofs.OwedAttempts.{WasOwed, owed-later}
use Rattle.overlap_law.proofs.OwedBeyond.{vain_at, none_served}
use Rattle.overlap_law.proofs.PendingOfNodes.{policy_stays}
use Rattle.overlap_law.proofs.ReadingLaws.{readings}
use Rattle.overlap_law.proofs.SinceInSteps.{flying_mute, there_or_last, some_target}
use Rattle.overlap_law.proofs.ToldInMoments.{RowsToldSo, IsTelling, told-after}
use Rattle.overlap_law.proofs.TrafficAttempts.{HasBegun}
use Rattle.overlap_law.proofs.TrafficOfChanges.{traffic}
use Rattle.overlap_law.proofs.TrueRows.{IsToldTruly, TruthHolds, telling, staying}

-- ---- what a row that is told owes

-- it ends no later than the row in the store, and by the recovery's epoch
told_end : (epoch own : ℕ) (to : Option Epoch) → own ≡ epoch
    → (end_told epoch to ≤ end_of_row own to) × (served_told epoch to ≤ end_of_row own to)
told_end epoch own None same = (omega (arith, same), omega arith)
told_end epoch own (Some to) same = (
  min-le_left to.0 epoch,
  cond_either (λ (k : ℕ). k ≤ to.0) (nat_lt to.0 epoch) to.0 0 (omega arith) (omega arith),
)

end_within : (epoch : ℕ) (to : Option Epoch) → end_told epoch to ≤ epoch
end_within epoch None = omega arith
end_within epoch (Some to) = min-le_right to.0 epoch

served_within : (epoch level : ℕ) (to : Option Epoch) → level < epoch → served_told epoch to < epoch
served_within epoch level None below = omega (arith, below)
served_within epoch level (Some to) below = by_end (nat_lt to.0 epoch) refl
  where
    by_end : (b : Bool) → nat_lt to.0 epoch ≡ b → cond b to.0 0 < epoch
    by_end true is = ltb-true to.0 epoch is
    by_end false is = omega (arith, below)

-- what is owed up to an end is owed up to a later one
owes_more : (node : NodeId) (end served later : ℕ) (attempt : AttemptRecord) → end ≤ later → served ≤ later
    → owes_attempt node end served attempt ≡ true → owes_attempt node later later attempt ≡ true
owes_more node end served later attempt ends serves owed = ⊎_elim
    (λ (earlier : nat_lt attempt.epoch end ≡ true).
    let less = ltb-true attempt.epoch end earlier in
    or_left (nat_lt attempt.epoch later) (has_served node attempt && nat_le attempt.epoch later)
    (lt-ltb attempt.epoch later (omega (arith, less, ends))))
    (λ (own : (has_served node attempt && nat_le attempt.epoch served) ≡ true).
    let (has, most) = and_parts (has_served node attempt) (nat_le attempt.epoch served) own in
    let low = leb-true attempt.epoch served most in
    or_right (nat_lt attempt.epoch later) (has_served node attempt && nat_le attempt.epoch later)
    (and_from (has_served node attempt) (nat_le attempt.epoch later) has (le-leb attempt.epoch later (omega (arith, low, serves)))))
    (or_cases (nat_lt attempt.epoch end) (has_served node attempt && nat_le attempt.epoch served) owed)

-- ---- over a change of a moment

module _ (script : List Statement) (range : RunsAreInRange script) (start before after : MomentWithPast) (began : Began script start.world)
    (change : MomentChange script start before after) (good : ℕ → Bool) (truth : TruthHolds before)
    (tied : IsTied before) (shaped : AreShaped before) (terms : TermsHold before) (tied_after : IsTied after)
    (shaped_after : AreShaped after) (terms_after : TermsHold after) (have : OpenAttemptsHaveMessages after.world.hosts)
    (since : RowsAreSince (log_effects before.world.log) good before.world.hosts before.past.attempts) where
  -- a row that was told has what it owes
  abbrev HasItAt : MomentWithPast → NodeId → ℕ → ℕ → RowCopy → Type 0
  HasItAt moment from epoch oid row = (policy : Policy) → good oid ≡ true → policy_in (log_effects moment.world.log) oid ≡ Some policy
      → IsSince policy oid moment.world.hosts moment.past.attempts from row.index (end_told epoch row.to) (served_told epoch row.to)
      (row_bytes row)

  abbrev HasItTruly : MomentWithPast → NodeId → ℕ → ℕ → ℕ → RowCopy → Type 0
  HasItTruly moment from epoch oid level row = HasItAt moment from epoch oid row × IsToldTruly moment from epoch oid level row

  grows : LogGrows before.world.log after.world.log
  grows = log_grows script change

  way : TrafficBetween before after
  way = traffic script range start began change

  on : GoOn before.past.attempts after.past.attempts
  on = traffic_goes_on before.world.hosts after.world.hosts before.world.wire before.past.attempts way

  -- ---- it is told by a row that has it

  told_has : (from : NodeId) (epoch oid level : ℕ) (row : SeenRow) → IsTelling before from epoch oid level row
      → HasItAt before from epoch oid (copy_of row)
  told_has from epoch oid level row is policy is_good known =
      let had = since.each from.0 is.teller is.teller_there oid is.place row is.row_there policy is_good known in
      let (ends, serves) = told_end epoch is.teller.node.peer.epoch row.to is.own_epoch in
      subst (IsSince policy oid before.world.hosts before.past.attempts from row.index (end_told epoch row.to) (served_told epoch row.to))
      (sym (row_bytes-copy_of row)) (record {
        each = λ j attempt there unit covers owed.
            had.each j attempt there unit covers
            (owes_more from (end_told epoch row.to) (served_told epoch row.to) (end_of_row is.teller.node.peer.epoch row.to) attempt ends
            serves owed);
      })

  -- ---- an attempt that begins

  module _ (epoch : ℕ) (came : AllCame after.world.log after.world.hosts epoch) (place : ℕ) (attempt : AttemptRecord)
      (there : slice_get after.past.attempts place ≡ Some attempt)
      (new : HasBegun before.world.hosts after.world.hosts attempt) (less : attempt.epoch < epoch) where
    first_target : (nodes : List NodeId) → 1 ≤ length nodes → (target : NodeId) × (slice_get nodes 0 ≡ Some target)
    first_target [] some = absurd (omega (arith, some))
    first_target (node ∷ nodes) some = (node, refl)

    passed_by : (target : NodeId) → slice_get attempt.targets 0 ≡ Some target
        → is_beyond after.world.hosts attempt.epoch target ≡ true
    passed_by target got = by_test (is_beyond after.world.hosts attempt.epoch target) refl
      where
        member : is_member target.0 (members_in after.world.log attempt.epoch) ≡ true
        member =
            target-member after.world.log attempt.epoch (object_of attempt) (policy_of attempt.work) target
            (subst (λ (nodes : List NodeId). has_node target nodes ≡ true) (shaped_after.shape.targets place attempt there)
            (got-among attempt.targets 0 target got))

        by_test : (b : Bool) → is_beyond after.world.hosts attempt.epoch target ≡ b → b ≡ true
        by_test true is = refl
        by_test false is =
            absurd (come_leaves after terms_after epoch attempt.epoch target (λ other own. came.each other.0 own) came.begun less member is)

    new_mute : is_mute attempt ≡ true
    new_mute = flying_mute attempt.fates new.begun.flying

    new_doomed : is_doomed after.world.hosts attempt ≡ true
    new_doomed =
        let (target, got) = first_target attempt.targets
        (some_target before.world.hosts after.world.hosts have attempt new) in
        vain_at after.world.hosts attempt.epoch attempt.targets attempt.fates (tied_after.fates.whole place attempt there) 0 target got
        (passed_by target got) (none_served target attempt.targets attempt.fates new_mute)

  -- ---- it stays so

  module _ (from : NodeId) (epoch oid level : ℕ) (row : RowCopy) (is : IsToldTruly before from epoch oid level row) where
    abbrev end : ℕ
    end = end_told epoch row.to

    abbrev served_to : ℕ
    served_to = served_told epoch row.to

    now_true : IsToldTruly after from epoch oid level row
    now_true = staying script range start before after began change truth from epoch oid level row is

    -- what the node serves now isn't owed
    served_late : (attempt : AttemptRecord) → attempt.epoch ≤ served_to → (host : Host) → tree.get before.world.hosts from.0 ≡ Some host
        → host.node.peer.epoch ≡ attempt.epoch → ⊥
    served_late attempt most host there own =
        let within = served_within epoch level row.to is.below in
        let came = reached_at before.world.hosts epoch from host there is.reached in
        omega (arith, most, within, came, own)

    -- what is owed now was owed before
    owed_before : (was : AttemptRecord) (fates : List MessageFate) (place : ℕ) → slice_get before.past.attempts place ≡ Some was
        → slice_get after.past.attempts place ≡ Some (record was { fates = fates })
        → owes_attempt from end served_to (record was { fates = fates }) ≡ true → owes_attempt from end served_to was ≡ true
    owed_before was fates place was_there now_there owed = ⊎_elim
        (λ (earlier : nat_lt was.epoch end ≡ true).
        or_left (nat_lt was.epoch end) (has_served from was && nat_le was.epoch served_to) earlier)
        (λ (own : (has_served from (record was { fates = fates }) && nat_le was.epoch served_to) ≡ true).
        let (has, most) = and_parts (has_served from (record was { fates = fates })) (nat_le was.epoch served_to) own in
        or_right (nat_lt was.epoch end) (has_served from was && nat_le was.epoch served_to)
        (and_from (has_served from was) (nat_le was.epoch served_to) (⊎_elim
        (λ (had : has_served from was ≡ true). had)
        (λ (late : (host : Host) × (tree.get before.world.hosts from.0 ≡ Some host) × (host.node.peer.epoch ≡ was.epoch)).
        absurd (served_late was (leb-true was.epoch served_to most) late.0 late.1 late.2))
        (served_before before.world.hosts after.world.hosts before.world.wire before.past.attempts tied.fates tied.incarnations way place
        was fates was_there now_there from has))
        most))
        (or_cases (nat_lt was.epoch end) (has_served from (record was { fates = fates }) && nat_le was.epoch served_to) owed)

    abbrev DoomedOrOwed : ℕ → AttemptRecord → Type 0
    DoomedOrOwed j now = (is_doomed after.world.hosts now ≡ true)
        ⊎ WasOwed before.world.hosts after.world.hosts (attempts_on oid before.past.attempts) from end served_to j now

    by_link : (j : ℕ) (now : AttemptRecord) → owes_attempt from end served_to now ≡ true
        → IsLinked before.past.attempts after.past.attempts oid j now ⊎ IsBehind before.past.attempts after.past.attempts now
        → DoomedOrOwed j now
    by_link j now owed (inl link) =
        let (fates, there, muter) = (goes_on-grows before.past.attempts after.past.attempts on).stays link.place link.was link.was_there in
        let same : record link.was { fates = fates } ≡ now
        = same_Some (record link.was { fates = fates }) now (sym there ∙ link.now_there) in
        inr (record {
          was = link.was;
          there = link.at;
          work = ap (λ (a : AttemptRecord). a.work) same;
          owed = owed_before link.was fates link.place link.was_there there (ap (owes_attempt from end served_to) same ∙ owed);
          doomed = doomed_later script range start before after began change terms shaped tied link.place link.was now link.was_there
              link.now_there;
        })
    by_link j now owed (inr behind) = ⊎_elim
        (λ (old : behind.place < length before.past.attempts).
        let low = behind.behind in absurd (omega (arith, old, low)))
        (λ (own : (behind.place ≡ length before.past.attempts) × HasBegun before.world.hosts after.world.hosts now).
        let mute = flying_mute now.fates own.1.begun.flying in
        let unserved : has_served from now ≡ false = none_served from now.targets now.fates mute in
        let earlier : now.epoch < end
        = ltb-true now.epoch end (first_so (nat_lt now.epoch end) (has_served from now) (nat_le now.epoch served_to) unserved owed) in
        let most = end_within epoch row.to in
        inl (new_doomed epoch now_true.came behind.place now behind.there own.1 (omega (arith, earlier, most))))
        (there_or_last before.world.hosts after.world.hosts before.world.wire before.past.attempts way behind.place now behind.there)
      where
        first_so : (a b c : Bool) → b ≡ false → (a || (b && c)) ≡ true → a ≡ true
        first_so true b c none some = refl
        first_so false true c none some = absurd (cc (none))
        first_so false false c none some = absurd (cc (some))

    still_has : HasItAt before from epoch oid row → HasItAt after from epoch oid row
    still_has had policy is_good known =
        let same : is.policy ≡ policy
        = same_Some is.policy policy
        (sym (ap (λ (log : List Entry). policy_in (log_effects log) oid) grows.is
        ∙ policy_stays before.world.log grows.rest oid is.policy is.made) ∙ known) in
        let was_known : policy_in (log_effects before.world.log) oid ≡ Some policy = is.made ∙ ap (λ (p : Policy). Some p) same in
        owed-later (reading_of policy oid) (readings (is_in_strips policy (kind_of oid))) policy (kind_of oid) before.world.hosts
        after.world.hosts (attempts_on oid before.past.attempts) (attempts_on oid after.past.attempts)
        (grows-object oid before.past.attempts after.past.attempts on) from row.index end served_to end served_to (row_bytes row)
        (had policy is_good was_known)
        (λ j now there owed. by_link j now owed (linked oid before.past.attempts after.past.attempts on j now there))

  -- ---- each row that was told

  module _ (told : ToldRowsAreSince (log_effects before.world.log) good before.world.hosts before.world.wire before.past.attempts) where
    all_then : RowsToldSo HasItTruly before
    all_then = record {
      each = λ n host there up from epoch oid level row is_told. (
        λ policy is_good known. told.each n host there up from epoch oid level row policy is_told is_good known,
        truth.rows.each n host there up from epoch oid level row is_told,
      );
    }

    all_after : RowsToldSo HasItTruly after
    all_after =
        told-after HasItTruly script range start before after began change truth.told all_then
        (λ from epoch oid level row had. (
          still_has from epoch oid level row had.1 had.0,
          staying script range start before after began change truth from epoch oid level row had.1,
        ))
        (λ from epoch oid level row is. (told_has from epoch oid level row is, telling before truth from epoch oid level row is))

    pub told_since_after : ToldRowsAreSince (log_effects after.world.log) good after.world.hosts after.world.wire after.past.attempts
    told_since_after = record {
      each = λ n host there up from epoch oid level row policy is_told is_good known.
          (all_after.each n host there up from epoch oid level row is_told).0 policy is_good known;
    }
