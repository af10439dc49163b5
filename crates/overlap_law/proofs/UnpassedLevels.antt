-- No search has passed the level at which the nodes hold what was made of its object: there are rows of as many indexes as a read needs.
use Rattle.std.proofs.Common.{◌≡◌, ⊎_elim, arith, ℕ, ◌≤◌, ◌<◌, ◌==◌, ◌&&◌, not, Bool, true, false, List, length, Option, Some, None}
use Rattle.std.proofs.Common.{is_some, refl, sym, ap, subst, ◌∙◌, slice_get}
use Rattle.std.specs.FinMap as tree
use Rattle.std.proofs.lemmas.Bool.{and_right, cases_lt, ne_eqb, or_from}
use Rattle.object_id.specs.Oid.{kind_of}
use Rattle.object_id.specs.Policy.{need_of}
use Rattle.epoch_log.specs.Epochs.{epoch_of, settled_of}
use Rattle.epoch_log.specs.Appending.{IsLog}
use Rattle.cluster_script.specs.declared.statement.Statement.{Statement}
use Rattle.vdi_directory.specs.Decisions.{log_effects}
use Rattle.peer_proto.specs.Work.{policy_of}
use Rattle.recovery.specs.Shown.{first_in}
use Rattle.recovery.specs.State.{Search, is_listed, is_finished, still_on, search_on}
use Rattle.sheep_node.specs.RecoveryView.{recovery_state_of}
use Rattle.sheep_world.specs.World.{Host}
use Rattle.sheep_world.specs.Began.{Began}
use Rattle.sheep_world.proofs.LogAtOpening.{log-holds}
use Rattle.sheep_world.specs.RunsWithAsks.{Move}
use Rattle.overlap_law.specs.Attempts.{AttemptRecord, object_of}
use Rattle.overlap_law.specs.Words.{is_made}
use Rattle.overlap_law.specs.Holders.{targets_by}
use Rattle.overlap_law.specs.Past.{MomentWithPast, first_moment, run_with_past}
use Rattle.overlap_law.specs.Each.{policy_in}
use Rattle.overlap_law.specs.Searches.{indexes_held, PassedLevelsLackRows}
use Rattle.overlap_law.specs.HeldLevels.{level_of, CanBeFoundAt, NoSearchHasPassed}
use Rattle.overlap_law.specs.MomentChanges.{MomentTrail, RunsAreInRange, KeptByChanges}
use Rattle.overlap_law.proofs.BeyondInMoments.{recovers_own}
use Rattle.overlap_law.proofs.FinishedInMoments.{TermsHold}
use Rattle.overlap_law.proofs.FirstSearchesInRuns.{listing-on_the_way, search_first-on_the_way}
use Rattle.overlap_law.proofs.HeldLevels.{first, lives_by, HasMade, holds_made, gives-found}
use Rattle.overlap_law.proofs.IndexesHeld.{enough_indexes}
use Rattle.overlap_law.proofs.LogsInMoments.{ends_or_same}
use Rattle.overlap_law.proofs.PlacedInMoments.{placed-on_the_way}
use Rattle.overlap_law.proofs.ReadInMoments.{epoch_within, opening_began}
use Rattle.overlap_law.proofs.RunsByChanges.{on_the_way}
use Rattle.overlap_law.proofs.TermsInRuns.{unsettled-on_the_way}

-- ---- the log of each moment is one

pub kept_log : (script : List Statement) → RunsAreInRange script
    → KeptByChanges script (λ (moment : MomentWithPast). IsLog moment.world.log)
kept_log script range = record {
  opens = (log-holds script range.is_script range.room (first_moment script).world (opening_began script range)).log;
  keeps = λ start before after began change log. ⊎_elim
      (λ (ended : Began script after.world). (log-holds script range.is_script range.room after.world ended).log)
      (λ (same : after.world.log ≡ before.world.log). subst IsLog (sym same) log)
      (ends_or_same script began change);
}

module _ (script : List Statement) (range : RunsAreInRange script) (events : List Move) (start moment : MomentWithPast)
    (is : run_with_past script events ≡ Some start) (trail : MomentTrail script start moment) (good : ℕ → Bool) (has : HasMade good moment)
    (passed : PassedLevelsLackRows (targets_by moment.world.log) moment.world.log (log_effects moment.world.log) good
    moment.world.hosts) where
  abbrev terms : TermsHold moment
  terms = has.terms

  is_log : IsLog moment.world.log
  is_log = on_the_way script (λ (m : MomentWithPast). IsLog m.world.log) (kept_log script range) events start moment is trail

  module _ (n : ℕ) (host : Host) (at : tree.get moment.world.hosts n ≡ Some host) (up : host.is_lost ≡ false) (search : Search)
      (on : search_on (recovery_state_of host.node) ≡ Some search) where
    -- its list is finished
    listed : (b : Bool) → is_listed host.node.recovery ≡ b → b ≡ true
    listed true so = refl
    listed false unlisted =
        let none : search_on (recovery_state_of host.node) ≡ None
        = ap (still_on host.node.peer.pending) ((listing-on_the_way script range events start moment is trail).search n host at up
        unlisted) in
        absurd (cc (none, on))

    -- and it isn't, as the object is pending
    unfinished : 1 < host.node.recovery.epoch → is_finished (recovery_state_of host.node) ≡ false
    unfinished later =
        or_from (host.node.recovery.epoch == 1) (is_listed host.node.recovery && not (is_some (first_in host.node.peer.pending)))
        (ne_eqb host.node.recovery.epoch 1 (λ (same : host.node.recovery.epoch ≡ 1). omega (arith, same, later)))
        (and_right (is_listed host.node.recovery) (not (is_some (first_in host.node.peer.pending)))
        (ap (λ (o : Option ℕ). not (is_some o)) ((search_first-on_the_way script range events start moment is trail).first n host at up
        search on)))

    module _ (j : ℕ) (attempt : AttemptRecord) (got : slice_get moment.past.attempts j ≡ Some attempt)
        (is_good : good (object_of attempt) ≡ true) (own : object_of attempt ≡ search.oid) (made : is_made attempt ≡ true)
        (before : attempt.epoch < host.node.recovery.epoch) where
      later : 1 < host.node.recovery.epoch
      later =
          let least : 1 ≤ attempt.epoch
          = first moment.world.log (lives_by moment.world.log) good moment.world.hosts moment.past.attempts (holds_made good moment has)
          j attempt got made is_good in
          omega (arith, least, before)

      own_epoch : host.node.recovery.epoch ≡ host.node.peer.epoch
      own_epoch = recovers_own moment.world.log n host (terms.sound.each n host at) (terms.stood.stood n host at up) later

      within : host.node.recovery.epoch ≤ epoch_of moment.world.log
      within =
          let same = own_epoch in
          let most = epoch_within moment.world.log n host.node.me host.node.peer (terms.sound.each n host at).read in
          omega (arith, same, most)

      settled : settled_of moment.world.log < host.node.recovery.epoch
      settled =
          let same = own_epoch in
          let below = (unsettled-on_the_way script range events start moment is trail).each n host at up (unfinished later) in
          omega (arith, same, below)

      policy_so : policy_in (log_effects moment.world.log) (object_of attempt) ≡ Some (policy_of attempt.work)
      policy_so = has.rows.shaped.shape.policy j attempt got

      found : CanBeFoundAt (targets_by moment.world.log) moment.world.log moment.world.hosts search.oid (level_of moment.world.log attempt)
          host.node.recovery.epoch (policy_of attempt.work)
      found =
          subst (λ (oid : ℕ). CanBeFoundAt (targets_by moment.world.log) moment.world.log moment.world.hosts oid
          (level_of moment.world.log attempt) host.node.recovery.epoch (policy_of attempt.work)) own
          ((gives-found good moment has).each n host at j attempt got (policy_of attempt.work)
          (listed (is_listed host.node.recovery) refl) settled within is_good policy_so made before)

      unpassed : level_of moment.world.log attempt ≤ search.level
      unpassed = ⊎_elim
          (λ (lower : search.level < level_of moment.world.log attempt).
          let at_oid : policy_in (log_effects moment.world.log) search.oid ≡ Some (policy_of attempt.work)
          = ap (policy_in (log_effects moment.world.log)) (sym own) ∙ policy_so in
          let below = found.below in
          let most = within in
          let few : length (indexes_held (targets_by moment.world.log) moment.world.log moment.world.hosts search.oid
          (level_of moment.world.log attempt) host.node.recovery.epoch (policy_of attempt.work)) < need_of (policy_of attempt.work)
          (kind_of search.oid)
          = passed.each n host at up search (policy_of attempt.work) (level_of moment.world.log attempt) on
          (ap good (sym own) ∙ is_good) at_oid lower found.below in
          let enough : need_of (policy_of attempt.work) (kind_of search.oid)
          ≤ length (indexes_held (targets_by moment.world.log) moment.world.log moment.world.hosts search.oid
          (level_of moment.world.log attempt) host.node.recovery.epoch (policy_of attempt.work))
          = enough_indexes moment.world.log (log_effects moment.world.log) moment.world.hosts
          (placed-on_the_way script range events start moment is trail) search.oid
          (level_of moment.world.log attempt) (policy_of attempt.work) at_oid is_log (omega (arith, below, most)) host.node.recovery.epoch
          found in
          absurd (omega (arith, few, enough)))
          (λ (kept : level_of moment.world.log attempt ≤ search.level). kept)
          (cases_lt search.level (level_of moment.world.log attempt))

  pub not_passed : NoSearchHasPassed moment.world.log good moment.world.hosts moment.past.attempts
  not_passed = record {
    each = λ n host at up search on j attempt got is_good own made before.
        unpassed n host at up search on j attempt got is_good own made before;
  }
