-- Recovered rows, finished lists, what isn't pending and what isn't missing are kept together over each change of a moment, where attempts
-- are carried before it and after it.
use Rattle.std.proofs.Common.{◌≡◌, ℕ, Bool, true, false, List, Some, ap, sym, ◌∙◌}
use Rattle.object_id.specs.declared.entry.Entry.{Entry}
use Rattle.object_id.specs.Oid.{vid_of}
use Rattle.cluster_script.specs.declared.statement.Statement.{Statement}
use Rattle.vdi_directory.specs.Decisions.{log_effects}
use Rattle.overlap_law.specs.Holders.{targets_by, is_dead_by_log}
use Rattle.overlap_law.specs.Lists.{ListsAreComplete, WhatIsNotPendingIsThere}
use Rattle.overlap_law.specs.Past.{MomentWithPast, run_with_past}
use Rattle.overlap_law.specs.Rows.{RecoveredRowsAreKept, AttemptsAreCarried}
use Rattle.overlap_law.specs.Searches.{TheMadeIsNotMissing}
use Rattle.overlap_law.specs.MomentChanges.{MomentChange, MomentTrail, RunsAreInRange}
use Rattle.overlap_law.proofs.HeldAfter.{has_made_after}
use Rattle.overlap_law.proofs.HeldLevels.{HasMade}
use Rattle.overlap_law.proofs.KeptChanges.{kept-on_the_way}
use Rattle.overlap_law.proofs.KeptLists.{stay_complete, new_lists_name}
use Rattle.overlap_law.proofs.LogsInMoments.{LogGrows, log_grows}
use Rattle.overlap_law.proofs.MissingChanges.{not_missing_after}
use Rattle.overlap_law.proofs.NamedLists.{has_after}
use Rattle.overlap_law.proofs.StayingRows.{alive_before}
use Rattle.sheep_world.specs.RunsWithAsks.{Move}

module _ (script : List Statement) (range : RunsAreInRange script) (events : List Move) (start before after : MomentWithPast)
    (is : run_with_past script events ≡ Some start) (trail : MomentTrail script start before)
    (change : MomentChange script start before after)
    (good : ℕ → Bool) (alive : (oid : ℕ) → good oid ≡ true → is_dead_by_log after.world.log oid ≡ false)
    (carried : AttemptsAreCarried (targets_by before.world.log) before.world.log (log_effects before.world.log) good before.world.hosts
    before.past.attempts)
    (carried_after : AttemptsAreCarried (targets_by after.world.log) after.world.log (log_effects after.world.log) good after.world.hosts
    after.past.attempts)
    (kept : RecoveredRowsAreKept (targets_by before.world.log) before.world.log (log_effects before.world.log) good before.world.hosts
    before.past.attempts)
    (complete : ListsAreComplete good before.past.listed before.world.hosts before.past.attempts)
    (has : WhatIsNotPendingIsThere (targets_by before.world.log) (log_effects before.world.log) good before.world.hosts
    before.past.attempts) (not_missing : TheMadeIsNotMissing good before.world.hosts before.past.attempts) where
  was_alive : (oid : ℕ) → good oid ≡ true → is_dead_by_log before.world.log oid ≡ false
  was_alive oid is_good =
      let grows : LogGrows before.world.log after.world.log = log_grows script change in
      alive_before before.world.log grows.rest (vid_of oid)
      (ap (λ (log : List Entry). is_dead_by_log log oid) (sym grows.is) ∙ alive oid is_good)

  made : HasMade good after
  made = has_made_after script range events start before after is trail change good alive kept carried_after

  pub complete_after : ListsAreComplete good after.past.listed after.world.hosts after.past.attempts
  complete_after = stay_complete script range events start before after is trail change good made complete

  pub nothing_missing : TheMadeIsNotMissing good after.world.hosts after.past.attempts
  nothing_missing = not_missing_after script range events start before after is trail change good was_alive kept carried not_missing

  pub there_after : WhatIsNotPendingIsThere (targets_by after.world.log) (log_effects after.world.log) good after.world.hosts
      after.past.attempts
  there_after =
      has_after script range events start before after is trail change good alive nothing_missing
      (λ n now at up listed is_new oid level is_good below it.
      new_lists_name script range events start before after is trail change good made complete n now at listed is_new oid level is_good
      below it) has

  pub kept_rows_after : RecoveredRowsAreKept (targets_by after.world.log) after.world.log (log_effects after.world.log) good
      after.world.hosts
      after.past.attempts
  kept_rows_after = kept-on_the_way script range events start before after is trail change good alive there_after kept
