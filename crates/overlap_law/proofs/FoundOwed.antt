-- What the rows owe that a recovery finds at a level: an attempt from before the recovery's epoch that isn't doomed was made, as each of
-- its targets went by; so it is of no later epoch than the level, which its rows were not passed by; and each row that covers the level
-- owes it, or its node was a target of it and went by, and so it is doomed.
use Rattle.std.proofs.Common.{◌≡◌, ⊎_elim, arith, ℕ, suc, ◌+◌, ◌≤◌, ◌<◌, ◌==◌, ◌||◌, nat_le, Bool, true, false, cond, List, [], ◌∷◌}
use Rattle.std.proofs.Common.{length, slice_get, Option, Some, None, refl, sym, ap, subst, ◌∙◌}
use Rattle.std.specs.List.{list_all}
use Rattle.std.specs.Option.{option_map_or}
use Rattle.std.specs.FinMap as tree
use Rattle.std.proofs.lemmas.Bool.{cases_lt, eqb-true, le-leb, leb-true, lt-ltb, or_parts}
use Rattle.std.proofs.lemmas.Option.{same_Some}
use Rattle.object_id.specs.declared.node.Epoch.{Epoch}
use Rattle.object_id.specs.declared.node.NodeId.{NodeId}
use Rattle.object_id.specs.declared.policy.Policy.{Policy}
use Rattle.object_id.specs.Oid.{kind_of}
use Rattle.object_list.specs.Gathered.{has_node}
use Rattle.object_store.specs.Rows.{reaches}
use Rattle.epoch_log.specs.Members.{is_member}
use Rattle.epoch_log.specs.Epochs.{members_in}
use Rattle.peer_proto.specs.Work.{policy_of}
use Rattle.vdi_directory.specs.Decisions.{log_effects}
use Rattle.sheep_world.specs.World.{Host}
use Rattle.overlap_law.specs.Attempts.{AttemptRecord, MessageFate, Flying, Served, Doomed, object_of, attempts_on}
use Rattle.overlap_law.specs.Words.{Hosts, is_served, is_made, is_one_in_vain, is_doomed, has_served, covers_unit, row_bytes_at}
use Rattle.overlap_law.specs.Reached.{has_come_in, is_beyond}
use Rattle.overlap_law.specs.Each.{has_reached, policy_in, index_of_part}
use Rattle.overlap_law.specs.Holders.{targets_by}
use Rattle.overlap_law.specs.Past.{MomentWithPast}
use Rattle.overlap_law.specs.Since.{reading_of, owes_attempt, IsSince}
use Rattle.overlap_law.specs.ShapedAttempts.{AreShaped}
use Rattle.overlap_law.specs.TiedAttempts.{IsTied}
use Rattle.overlap_law.specs.ToldRows.{end_told, served_told}
use Rattle.overlap_law.proofs.BegunInMoments.{AllCame}
use Rattle.overlap_law.proofs.BeyondInMoments.{got-among, come_leaves}
use Rattle.overlap_law.proofs.FinishedInMoments.{TermsHold}
use Rattle.overlap_law.proofs.HolderLemmas.{target-member}
use Rattle.overlap_law.proofs.OverlapLemmas.{IsPassed, filter-passed}
use Rattle.overlap_law.proofs.OwedBeyond.{placed_at, vain_at}
use Rattle.overlap_law.proofs.SinceAtEntries.{owed_earlier, owed_served}

-- ---- where each target went by

-- what isn't doomed then is made
all_served : (hosts : Hosts) (epoch : ℕ) (targets : List NodeId) (fates : List MessageFate) → length fates ≡ length targets
    → is_one_in_vain hosts epoch targets fates ≡ false
    → ((place : ℕ) (target : NodeId) → slice_get targets place ≡ Some target → is_beyond hosts epoch target ≡ true)
    → list_all is_served fates ≡ true
all_served hosts epoch [] [] long lives beyond = refl
all_served hosts epoch [] (fate ∷ fates) long lives beyond = absurd (cc (long))
all_served hosts epoch (target ∷ targets) [] long lives beyond = refl
all_served hosts epoch (target ∷ targets) (Flying ∷ fates) long lives beyond =
    let parts = or_parts (is_beyond hosts epoch target) (is_one_in_vain hosts epoch targets fates) lives in
    let within = parts.0 in
    let by = beyond 0 target refl in
    absurd (cc (within, by))
all_served hosts epoch (target ∷ targets) (Served ∷ fates) long lives beyond =
    all_served hosts epoch targets fates (cc (long)) lives (λ place other got. beyond (suc place) other got)
all_served hosts epoch (target ∷ targets) (Doomed ∷ fates) long lives beyond = absurd (cc (lives))

-- who came to a later epoch is beyond an earlier one
pub reached_beyond : (hosts : Hosts) (level epoch : ℕ) (node : NodeId) → level < epoch → has_reached hosts epoch node ≡ true
    → is_beyond hosts level node ≡ true
reached_beyond hosts level epoch node below reached = by_host (tree.get hosts node.0) reached
  where
    by_lost : (own : ℕ) (b : Bool) → epoch ≤ own → (b || nat_le (level + 1) own) ≡ true
    by_lost own true low = refl
    by_lost own false low = le-leb (level + 1) own (omega (arith, low, below))

    by_host : (o : Option Host) → nat_le epoch (option_map_or (λ (host : Host). host.node.peer.epoch) o 0) ≡ true
        → option_map_or (has_come_in (level + 1)) o true ≡ true
    by_host None came = refl
    by_host (Some host) came = by_lost host.node.peer.epoch host.is_lost (leb-true epoch host.node.peer.epoch came)

-- a row of a level that a recovery of an epoch counts: it is up to an end, owes what its node served up to there, covers the level as one
-- of its targets, and its node went by
pub record IsFoundRow (moment : MomentWithPast) (policy : Policy) (oid level index : ℕ) (bytes : List ℕ) : Type 0 where
  pub m : ℕ
  pub end : ℕ
  pub served_to : ℕ
  pub low : level ≤ end
  pub serves : end ≡ level → level ≤ served_to
  pub placed : index_of_part (targets_by moment.world.log) level oid policy (record { 0 = m }) ≡ Some index
  pub beyond : is_beyond moment.world.hosts level (record { 0 = m }) ≡ true
  pub has : IsSince policy oid moment.world.hosts moment.past.attempts (record { 0 = m }) index end served_to bytes

-- ends of rows that were told
pub told_low : (level epoch : ℕ) (to : Option Epoch) → level < epoch → reaches level to ≡ true → level ≤ end_told epoch to
told_low level epoch None below high = omega (arith, below)
told_low level epoch (Some to) below high = let most = leb-true level to.0 high in omega (arith, below, most)

pub told_serves : (level epoch : ℕ) (to : Option Epoch) → level < epoch → end_told epoch to ≡ level → level ≤ served_told epoch to
told_serves level epoch None below same = absurd (omega (arith, below, same))
told_serves level epoch (Some to) below same =
    let less : to.0 < epoch = omega (arith, below, same) in
    subst (λ (b : Bool). level ≤ cond b to.0 0) (sym (lt-ltb to.0 epoch less)) (omega (arith, same))

-- ---- at a moment

module _ (moment : MomentWithPast) (terms : TermsHold moment) (shaped : AreShaped moment) (tied : IsTied moment) (epoch : ℕ)
    (came : AllCame moment.world.log moment.world.hosts epoch) where
  abbrev attempts : List AttemptRecord
  attempts = moment.past.attempts

  -- an attempt from before an epoch to which all came is made, or doomed
  pub made_or_doomed : (j : ℕ) (attempt : AttemptRecord) → slice_get attempts j ≡ Some attempt → attempt.epoch < epoch
      → is_doomed moment.world.hosts attempt ≡ false → is_made attempt ≡ true
  made_or_doomed j attempt there before lives =
      all_served moment.world.hosts attempt.epoch attempt.targets attempt.fates (tied.fates.whole j attempt there) lives
      (λ place target got.
      by_test target (got-among attempt.targets place target got) (is_beyond moment.world.hosts attempt.epoch target) refl)
    where
      member : (target : NodeId) → has_node target attempt.targets ≡ true
          → is_member target.0 (members_in moment.world.log attempt.epoch) ≡ true
      member target among =
          target-member moment.world.log attempt.epoch (object_of attempt) (policy_of attempt.work) target
          (ap (has_node target) (sym (shaped.shape.targets j attempt there)) ∙ among)

      by_test : (target : NodeId) → has_node target attempt.targets ≡ true → (b : Bool)
          → is_beyond moment.world.hosts attempt.epoch target ≡ b → b ≡ true
      by_test target among true is = refl
      by_test target among false is =
          absurd (come_leaves moment terms epoch attempt.epoch target (λ other own. came.each other.0 own) came.begun before
          (member target among) is)

  -- what a found row may be read as
  module _ (policy : Policy) (oid level : ℕ) (known : policy_in (log_effects moment.world.log) oid ≡ Some policy)
      (passed : (j : ℕ) (attempt : AttemptRecord) → slice_get attempts j ≡ Some attempt → object_of attempt ≡ oid
      → is_made attempt ≡ true → attempt.epoch < epoch → attempt.epoch ≤ level) where
    -- an attempt of the level at whose target's row isn't served is doomed
    unserved_doomed : (j : ℕ) (attempt : AttemptRecord) → slice_get attempts j ≡ Some attempt → object_of attempt ≡ oid
        → attempt.epoch ≡ level → (m index : ℕ)
        → index_of_part (targets_by moment.world.log) level oid policy (record { 0 = m }) ≡ Some index
        → is_beyond moment.world.hosts level (record { 0 = m }) ≡ true → has_served (record { 0 = m }) attempt ≡ false
        → is_doomed moment.world.hosts attempt ≡ true
    unserved_doomed j attempt there object of_level m index at beyond unserved =
        let me : NodeId = record { 0 = m } in
        let by : policy_of attempt.work ≡ policy
        = same_Some (policy_of attempt.work) policy
        (sym (shaped.shape.policy j attempt there) ∙ ap (policy_in (log_effects moment.world.log)) object ∙ known) in
        let nodes_so : attempt.targets ≡ targets_by moment.world.log level oid policy
        = shaped.shape.targets j attempt there
        ∙ ap (λ (e : ℕ). targets_by moment.world.log e (object_of attempt) (policy_of attempt.work)) of_level
        ∙ ap (λ (q : ℕ). targets_by moment.world.log level q (policy_of attempt.work)) object
        ∙ ap (targets_by moment.world.log level oid) by in
        let (place, target, got, is_me) = placed_at me (targets_by moment.world.log level oid policy) policy (kind_of oid) index at in
        let target_so : target ≡ me = λ k. record { 0 = is_me k } in
        let among : slice_get attempt.targets place ≡ Some me
        = ap (λ (nodes : List NodeId). slice_get nodes place) nodes_so ∙ got ∙ ap (λ (t : NodeId). Some t) target_so in
        vain_at moment.world.hosts attempt.epoch attempt.targets attempt.fates (tied.fates.whole j attempt there) place me among
        (ap (λ (e : ℕ). is_beyond moment.world.hosts e me) of_level ∙ beyond) unserved

    pub found_owes : (index : ℕ) (bytes : List ℕ) → IsFoundRow moment policy oid level index bytes → (j : ℕ) (attempt : AttemptRecord)
        → slice_get (attempts_on oid attempts) j ≡ Some attempt → attempt.epoch < epoch → is_doomed moment.world.hosts attempt ≡ false
        → (unit : ℕ) → covers_unit unit attempt ≡ true
        → reading_of policy oid (attempts_on oid attempts) unit j index (row_bytes_at policy (kind_of oid) unit bytes)
    found_owes index bytes row j attempt got before lives unit covers =
        ⊎_elim
        (λ (doomed : is_doomed moment.world.hosts attempt ≡ true). absurd (cc (doomed, lives)))
        (λ (read : reading_of policy oid (attempts_on oid attempts) unit j index (row_bytes_at policy (kind_of oid) unit bytes)). read)
        (row.has.each j attempt got unit covers owed)
      where
        found : IsPassed (λ (a : AttemptRecord). object_of a == oid) attempts attempt
        found = filter-passed (λ (a : AttemptRecord). object_of a == oid) attempts j attempt got

        object : object_of attempt ≡ oid
        object = eqb-true (object_of attempt) oid found.passed

        low : attempt.epoch ≤ level
        low = passed found.place attempt found.there object (made_or_doomed found.place attempt found.there before lives) before

        Owed : Type 0
        Owed = owes_attempt (record { 0 = row.m }) row.end row.served_to attempt ≡ true

        by_served : attempt.epoch ≡ level → row.end ≡ level → (b : Bool) → has_served (record { 0 = row.m }) attempt ≡ b
            → Owed
        by_served of_level ends true served =
            let most = row.serves ends in
            owed_served (record { 0 = row.m }) row.end row.served_to attempt served (omega (arith, of_level, most))
        by_served of_level ends false unserved =
            let doomed = unserved_doomed found.place attempt found.there object of_level row.m index row.placed row.beyond unserved in
            absurd (cc (doomed, lives))

        owed : Owed
        owed = ⊎_elim
            (λ (earlier : attempt.epoch < row.end). owed_earlier (record { 0 = row.m }) row.end row.served_to attempt earlier)
            (λ (most : row.end ≤ attempt.epoch).
            let own = low in
            let least = row.low in
            by_served (omega (arith, own, least, most)) (omega (arith, own, least, most)) (has_served (record { 0 = row.m }) attempt) refl)
            (cases_lt attempt.epoch row.end)
