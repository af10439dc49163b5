-- Each change of a moment leaves nothing missing that was made before the recovery's epoch: where no level is left, the level at which the
-- nodes hold it has ended with too few rows, but as many are there as a read needs.
use Rattle.std.proofs.Common.{◌≡◌, inl, inr, arith, ℕ, ◌≤◌, ◌<◌, ◌-◌, ◌==◌, ◌&&◌, max, not, Bool, true, false, List, Option, Some, None}
use Rattle.std.proofs.Common.{is_some, refl, sym, ap, subst, ◌∙◌}
use Rattle.std.specs.List.{list_any}
use Rattle.std.specs.FinMap as tree
use Rattle.std.proofs.lemmas.Bool.{and_right, ne_eqb, or_from}
use Rattle.epoch_log.specs.Epochs.{epoch_of, settled_of}
use Rattle.epoch_log.proofs.EpochLemmas.{settled_of-begun}
use Rattle.cluster_script.specs.declared.statement.Statement.{Statement}
use Rattle.vdi_directory.specs.Decisions.{log_effects}
use Rattle.recovery.specs.Shown.{first_in}
use Rattle.recovery.specs.State.{Recovery, is_listed, is_finished, is_missing}
use Rattle.sheep_node.specs.RecoveryView.{recovery_state_of}
use Rattle.sheep_world.specs.Began.{Began}
use Rattle.sheep_world.specs.EventKinds.{log_after_return}
use Rattle.sheep_world.specs.NodeCauses.{NodeCause, IsCause, input_of_cause}
use Rattle.sheep_world.specs.World.{Host, is_host_up}
use Rattle.sheep_world.specs.RunsWithAsks.{Move}
use Rattle.overlap_law.specs.Attempts.{object_of}
use Rattle.overlap_law.specs.Each.{policy_in}
use Rattle.overlap_law.specs.HeldLevels.{level_of, CanBeFoundAt}
use Rattle.overlap_law.specs.Holders.{targets_by, is_dead_by_log}
use Rattle.overlap_law.specs.MomentChanges.{MomentChange, MomentTrail, RunsAreInRange}
use Rattle.overlap_law.specs.NodeEpochs.{SettledIsRead}
use Rattle.overlap_law.specs.Past.{MomentWithPast, run_with_past}
use Rattle.overlap_law.specs.Rows.{IsMadeBy, RecoveredRowsAreKept, AttemptsAreCarried}
use Rattle.overlap_law.specs.Searches.{ToldRowsAreTrue, PassedLevelsLackRows, TheMadeIsNotMissing}
use Rattle.overlap_law.proofs.AnswersInMoments.{not_lost}
use Rattle.overlap_law.proofs.EndedLevels.{ComesToMiss, HasFailed}
use Rattle.overlap_law.proofs.EpochsInRuns.{settled_less}
use Rattle.overlap_law.proofs.FailedAtSteps.{step_comes, later, own_epoch, within, known_policy}
use Rattle.overlap_law.proofs.FinishedInMoments.{TermsHold}
use Rattle.overlap_law.proofs.FirstSearchesInRuns.{listing-on_the_way}
use Rattle.overlap_law.proofs.HeldLevels.{HoldTheMade, settled_kept, can_be_found}
use Rattle.overlap_law.proofs.IndexesHeld.{enough_indexes}
use Rattle.overlap_law.proofs.MadeBefore.{made_was}
use Rattle.overlap_law.proofs.NodePartsInMoments.{PartsChange, PartsStay, PartsStep, PartsReturn, PartsAreNew, parts_change}
use Rattle.overlap_law.proofs.NoRecoveredDue.{began-with_past}
use Rattle.overlap_law.proofs.PassedChanges.{terms_so, is_log, lacks_before, back_misses}
use Rattle.overlap_law.proofs.PassedInRuns.{passed-on_the_way}
use Rattle.overlap_law.proofs.PendingTargets.{first_pending}
use Rattle.overlap_law.proofs.PlacedInMoments.{placed-on_the_way}
use Rattle.overlap_law.proofs.ReadInMoments.{are_present}
use Rattle.overlap_law.proofs.RunsByChanges.{on_the_way}
use Rattle.overlap_law.proofs.SearchesReceived.{number_in, said_in}
use Rattle.overlap_law.proofs.ServedPlaces.{served_at}
use Rattle.overlap_law.proofs.StayingRows.{RowsHold, kept_rows}
use Rattle.overlap_law.proofs.TrueRows.{rows_true-on_the_way}
use Rattle.overlap_law.proofs.UnsettledInMoments.{are_unsettled}

module _ (script : List Statement) (range : RunsAreInRange script) (events : List Move) (start before after : MomentWithPast)
    (is : run_with_past script events ≡ Some start) (trail : MomentTrail script start before)
    (change : MomentChange script start before after) (good : ℕ → Bool)
    (alive : (oid : ℕ) → good oid ≡ true → is_dead_by_log before.world.log oid ≡ false)
    (kept : RecoveredRowsAreKept (targets_by before.world.log) before.world.log (log_effects before.world.log) good before.world.hosts
    before.past.attempts)
    (carried : AttemptsAreCarried (targets_by before.world.log) before.world.log (log_effects before.world.log) good before.world.hosts
    before.past.attempts)
    (not_missing : TheMadeIsNotMissing good before.world.hosts before.past.attempts) where
  told_true : ToldRowsAreTrue (targets_by before.world.log) (log_effects before.world.log) good before.world.hosts before.world.wire
  told_true = rows_true-on_the_way script range events start before is trail good

  passed : PassedLevelsLackRows (targets_by before.world.log) before.world.log (log_effects before.world.log) good before.world.hosts
  passed = passed-on_the_way script range events start before is trail good

  terms : TermsHold before
  terms = terms_so script range events start before after is trail change

  rows : RowsHold before
  rows = on_the_way script RowsHold (kept_rows script range) events start before is trail

  -- the settled epoch that a node has read is no greater than the log's
  settled_read : SettledIsRead before.world.log before.world.hosts
  settled_read = record {
    most = λ n host at.
        (let read = (terms.sound.each n host at).read in
        let own = read.settled_so in
        let less = settled_less host.node.peer.entries read.front.rest in
        let whole = ap settled_of read.front.is in
        omega (arith, own, less, whole));
    own = λ n host at. own_least n host at;
  }
    where
      own_least : (n : ℕ) (host : Host) → tree.get before.world.hosts n ≡ Some host → host.node.peer.settled ≤ host.node.peer.epoch
      own_least n host at =
          let read = (terms.sound.each n host at).read in
          let own = read.settled_so in
          let epoch = read.epoch_so in
          let most = (settled_of-begun host.node.peer.entries).1 in
          omega (arith, own, epoch, most)

  -- what holds what was made, of the good objects
  pub holds_made : HoldTheMade before.world.log good good before.world.hosts before.past.attempts
  holds_made = record {
    lives = λ oid is_good. is_good;
    whole = rows.tied.fates.whole;
    shape = rows.shaped.shape;
    known = rows.shaped.known;
    settled = settled_read.most;
    stays = record {
      each = λ j attempt there n host got is_good has.
          (let (place, target, among, served, own) = served_at (record { 0 = n }) attempt.targets attempt.fates has in
          rows.served j attempt there place target among served host (ap (tree.get before.world.hosts) own ∙ got)
          (alive (object_of attempt) is_good));
    };
    kept = settled_kept before.world.log good before.world.hosts before.past.attempts kept;
    carried = carried;
  }

  module _ (n : ℕ) (was : Host) (cause : NodeCause) (now_began : Began script before.world)
      (there : tree.get before.world.hosts n ≡ Some was)
      (up : is_host_up was ≡ true) (caused : IsCause script before.world n was cause) (oid at_level : ℕ)
      (failed : HasFailed (targets_by before.world.log) (policy_in (log_effects before.world.log)) (epoch_of before.world.log)
      (recovery_state_of was.node) (number_in (input_of_cause cause)) (said_in (input_of_cause cause)) oid at_level)
      (good_so : good oid ≡ true) (below : at_level - 1 < was.node.peer.settled) (before_epoch : ℕ)
      (early : before_epoch < was.node.recovery.epoch) (made : IsMadeBy before.past.attempts oid before_epoch) where
    epoch_later : 1 < was.node.recovery.epoch
    epoch_later =
        later script range events start before is trail n was cause now_began there up caused good told_true oid at_level failed good_so

    epoch_own : was.node.recovery.epoch ≡ was.node.peer.epoch
    epoch_own =
        own_epoch script range events start before is trail n was cause now_began there up caused good told_true oid at_level failed good_so

    epoch_begun : was.node.recovery.epoch ≤ epoch_of before.world.log
    epoch_begun =
        within script range events start before is trail n was cause now_began there up caused good told_true oid at_level failed good_so

    unfinished : is_finished (recovery_state_of was.node) ≡ false
    unfinished =
        or_from (was.node.recovery.epoch == 1) (is_listed was.node.recovery && not (is_some (first_in was.node.peer.pending)))
        (ne_eqb was.node.recovery.epoch 1 (λ (same : was.node.recovery.epoch ≡ 1). (let more = epoch_later in omega (arith, same, more))))
        (and_right (is_listed was.node.recovery) (not (is_some (first_in was.node.peer.pending)))
        (ap not (some_first (first_in was.node.peer.pending) refl)))
      where
        some_first : (o : Option ℕ) → first_in was.node.peer.pending ≡ o → is_some o ≡ true
        some_first None none = absurd (first_pending was.node.peer.pending oid none failed.pending)
        some_first (Some first) is = refl

    settled_before : settled_of before.world.log < was.node.recovery.epoch
    settled_before =
        let own = epoch_own in
        let less = (are_unsettled before terms).each n was there (not_lost was up) unfinished in
        omega (arith, own, less)

    abbrev level : ℕ
    level = level_of before.world.log made.attempt

    found : CanBeFoundAt (targets_by before.world.log) before.world.log before.world.hosts oid (level_of before.world.log made.attempt)
        was.node.recovery.epoch failed.policy
    found =
        subst (λ (k : ℕ). CanBeFoundAt (targets_by before.world.log) before.world.log before.world.hosts k
        (level_of before.world.log made.attempt) was.node.recovery.epoch failed.policy) made.object
        ((can_be_found before.world.log good good before.world.hosts before.past.attempts holds_made (are_present before terms.sound)
        terms.answers.answered).each n was there made.place made.attempt made.there failed.policy failed.listed settled_before epoch_begun
        (ap good made.object ∙ good_so)
        (ap (policy_in (log_effects before.world.log)) made.object
        ∙ known_policy script range events start before is trail n was cause now_began there up caused good told_true oid at_level failed
        good_so)
        made.made (let most = made.before in omega (arith, most, early)))

    pub not_failed : ⊥
    not_failed =
        let read = settled_read.most n was there in
        let above : max made.attempt.epoch (settled_of before.world.log) < was.node.recovery.epoch = found.below in
        let begun = epoch_begun in
        let few = lacks_before script range events start before after is trail change good told_true passed n was cause now_began there up
        caused oid at_level failed good_so (level_of before.world.log made.attempt) (omega (arith, read, below)) found.below in
        let enough = enough_indexes before.world.log (log_effects before.world.log) before.world.hosts
        (placed-on_the_way script range events start before is trail) oid (level_of before.world.log made.attempt) failed.policy
        (known_policy script range events start before is trail n was cause now_began there up caused good told_true oid at_level failed
        good_so)
        (is_log script range events start before after is trail change) (omega (arith, above, begun)) was.node.recovery.epoch found in
        omega (arith, few, enough)

  -- ---- every node

  -- nothing that was made before goes missing
  stays_there : (n : ℕ) (was : Host) → tree.get before.world.hosts n ≡ Some was → was.is_lost ≡ false → (oid before_epoch : ℕ)
      → good oid ≡ true → before_epoch < was.node.recovery.epoch → 1 < was.node.recovery.epoch
      → IsMadeBy after.past.attempts oid before_epoch
      → is_missing oid was.node.recovery ≡ true → ⊥
  stays_there n was there up oid before_epoch good_so early later_so made missing = by_list (is_listed was.node.recovery) refl
    where
      by_list : (b : Bool) → is_listed was.node.recovery ≡ b → ⊥
      by_list true listed =
          let not_so = not_missing.each n was there up oid before_epoch listed good_so early
          (made_was script range events start before after is trail change n was there up listed oid before_epoch early later_so made) in
          cc (not_so, missing)
      by_list false unlisted =
          let none = ap (λ (oids : List ℕ). list_any (λ other. other == oid) oids)
          ((listing-on_the_way script range events start before is trail).missing n was there up unlisted) in
          cc (none, missing)

  -- an attempt is of epoch 1 at least
  later_than : (n : ℕ) (now : Host) (oid before_epoch : ℕ) → IsMadeBy after.past.attempts oid before_epoch → 1 ≤ before_epoch
  later_than n now oid before_epoch made =
      let after_shaped = ((kept_rows script range).keeps start before after (began-with_past script events start is) change rows).shaped in
      let reserved = after_shaped.known.reserved made.place made.attempt made.there in
      let known = after_shaped.known.before made.place made.attempt made.there in
      let most = made.before in
      omega (arith, reserved, known, most)

  by_parts : (n : ℕ) (now : Host) → now.is_lost ≡ false → (oid before_epoch : ℕ) → good oid ≡ true → before_epoch < now.node.recovery.epoch
      → IsMadeBy after.past.attempts oid before_epoch → is_missing oid now.node.recovery ≡ true → PartsChange script before n now → ⊥
  by_parts n now up oid before_epoch good_so early made missing (PartsStay was there was_up parts) =
      let same : was.node.recovery.epoch ≡ now.node.recovery.epoch = ap (λ (r : Recovery). r.epoch) (sym parts.recovery) in
      let least = later_than n now oid before_epoch made in
      stays_there n was there (was_up up) oid before_epoch good_so (omega (arith, same, early)) (omega (arith, same, early, least)) made
      (ap (is_missing oid) (sym parts.recovery) ∙ missing)
  by_parts n now up oid before_epoch good_so early made missing (PartsStep was cause now_began there was_up caused parts) =
      let comes = (step_comes script range events start before is trail n was cause now_began there was_up caused).missed oid
      (ap (is_missing oid) (sym parts.recovery) ∙ missing) in
      let same : was.node.recovery.epoch ≡ now.node.recovery.epoch = sym comes.1 ∙ ap (λ (r : Recovery). r.epoch) (sym parts.recovery) in
      let least = later_than n now oid before_epoch made in
      by_miss (omega (arith, same, early)) (omega (arith, same, early, least)) comes.0
    where
      by_miss : before_epoch < was.node.recovery.epoch → 1 < was.node.recovery.epoch
          → ComesToMiss (targets_by before.world.log) (policy_in (log_effects before.world.log)) (epoch_of before.world.log)
          (recovery_state_of was.node) (number_in (input_of_cause cause)) (said_in (input_of_cause cause)) oid
          → ⊥
      by_miss below later_so (inl was_missing) =
          stays_there n was there (not_lost was was_up) oid before_epoch good_so below later_so made was_missing
      by_miss below later_so (inr ended) =
          not_failed n was cause now_began there was_up caused oid ended.0 ended.2 good_so ended.1 before_epoch below
          (made_was script range events start before after is trail change n was there (not_lost was was_up) ended.2.listed oid before_epoch
          below later_so made)
  by_parts n now up oid before_epoch good_so early made missing (PartsReturn was now_began there lost parts) =
      let none = ap (is_missing oid) parts.recovery
      ∙ ap (λ (oids : List ℕ). list_any (λ other. other == oid) oids) (back_misses (log_after_return script n before.world) was.node) in
      cc (none, missing)
  by_parts n now up oid before_epoch good_so early made missing (PartsAreNew fresh parts) =
      let none : is_missing oid now.node.recovery ≡ false = ap (is_missing oid) parts.recovery in
      cc (none, missing)

  pub not_missing_after : TheMadeIsNotMissing good after.world.hosts after.past.attempts
  not_missing_after = record {
    each = λ n now there up oid before_epoch listed good_so early made.
        by_test (is_missing oid now.node.recovery)
        (λ missing.
        by_parts n now up oid before_epoch good_so early made missing
        (parts_change script range start (began-with_past script events start is) change n now there));
  }
    where
      by_test : (b : Bool) → (b ≡ true → ⊥) → b ≡ false
      by_test true refused = absurd (refused refl)
      by_test false refused = refl
