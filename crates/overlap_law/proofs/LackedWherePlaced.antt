-- What is pending is lacked in every run in range, as rows are at their targets there.
use Rattle.std.proofs.Common.{◌≡◌, ℕ, Bool, List, Some}
use Rattle.cluster_script.specs.declared.statement.Statement.{Statement}
use Rattle.vdi_directory.specs.Decisions.{log_effects}
use Rattle.sheep_world.specs.World.{World}
use Rattle.sheep_world.specs.RunsWithAsks.{Move}
use Rattle.overlap_law.specs.Holders.{targets_by}
use Rattle.overlap_law.specs.Past.{MomentWithPast, run_with_past}
use Rattle.overlap_law.specs.MomentChanges.{MomentTrail, RunsAreInRange}
use Rattle.overlap_law.specs.Rows.{RowsAreAtTargets}
use Rattle.overlap_law.specs.Lists.{PendingIsLacked}
use Rattle.overlap_law.proofs.LackedOnTheWay.{of_each_run, pending-on_the_way}
use Rattle.overlap_law.proofs.PlacedInMoments.{placed-in_run}

pub pending_lacked-on_the_way : (script : List Statement) → RunsAreInRange script → (events : List Move) (start moment : MomentWithPast)
    → run_with_past script events ≡ Some start → MomentTrail script start moment → (live : ℕ → Bool)
    → PendingIsLacked (targets_by moment.world.log) (log_effects moment.world.log) live moment.world.hosts
pending_lacked-on_the_way script range events start moment is trail live =
    pending-on_the_way script range
    (of_each_run script (λ (world : World). RowsAreAtTargets (targets_by world.log) (log_effects world.log) world.hosts)
    (λ events moment is. placed-in_run script range events moment is)) events start moment is trail live
