-- After a change of a moment nodes hold what was made, where before it recovered rows were kept and after it attempts are carried: who has
-- recovered the settled epoch by the log had finished it before, and keeps its rows.
use Rattle.std.proofs.Common.{◌≡◌, ℕ, Bool, true, false, List, Some}
use Rattle.cluster_script.specs.declared.statement.Statement.{Statement}
use Rattle.epoch_log.specs.Epochs.{settled_of}
use Rattle.vdi_directory.specs.Decisions.{log_effects}
use Rattle.sheep_world.specs.Began.{Began}
use Rattle.sheep_world.specs.RunsWithAsks.{Move}
use Rattle.overlap_law.specs.Holders.{targets_by, is_dead_by_log}
use Rattle.overlap_law.specs.Past.{MomentWithPast, run_with_past}
use Rattle.overlap_law.specs.Rows.{RecoveredRowsAreKept, AttemptsAreCarried}
use Rattle.overlap_law.specs.MomentChanges as moments
use Rattle.overlap_law.specs.MomentChanges.{MomentChange, MomentTrail, RunsAreInRange}
use Rattle.overlap_law.proofs.FinishedInMoments.{TermsHold, kept_terms, logs_only_put}
use Rattle.overlap_law.proofs.HeldLevels.{HasMade}
use Rattle.overlap_law.proofs.KeptChanges.{had_finished}
use Rattle.overlap_law.proofs.NoRecoveredDue.{began-with_past}
use Rattle.overlap_law.proofs.RunsByChanges.{on_the_way}
use Rattle.overlap_law.proofs.StayingRows.{RowsHold, kept_rows}

module _ (script : List Statement) (range : RunsAreInRange script) (events : List Move) (start before after : MomentWithPast)
    (is : run_with_past script events ≡ Some start) (trail : MomentTrail script start before)
    (change : MomentChange script start before after) where
  began : Began script start.world
  began = began-with_past script events start is

  pub has_made_after : (good : ℕ → Bool) → ((oid : ℕ) → good oid ≡ true → is_dead_by_log after.world.log oid ≡ false)
      → RecoveredRowsAreKept (targets_by before.world.log) before.world.log (log_effects before.world.log) good before.world.hosts
      before.past.attempts
      → AttemptsAreCarried (targets_by after.world.log) after.world.log (log_effects after.world.log) good after.world.hosts
      after.past.attempts
      → HasMade good after
  has_made_after good alive kept carried = record {
    rows = on_the_way script RowsHold (kept_rows script range) events start after is (moments.Then trail change);
    terms = on_the_way script TermsHold (kept_terms script range) events start after is (moments.Then trail change);
    alive = alive;
    kept = record {
      each = λ n host at oid policy is_good policy_so recovered settled placed made.
          had_finished script range start before after began change
          (on_the_way script RowsHold (kept_rows script range) events start before is trail)
          (on_the_way script TermsHold (kept_terms script range) events start before is trail) good alive kept n host at oid
          (settled_of after.world.log) policy is_good policy_so settled placed made
          (logs_only_put script range start began change n (settled_of after.world.log) recovered);
    };
    carried = carried;
  }
