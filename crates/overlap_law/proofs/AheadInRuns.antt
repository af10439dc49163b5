-- In each run in range no check has begun to write an object that it hasn't compared yet.
use Rattle.std.proofs.Common.{◌≡◌, ℕ, List, Some}
use Rattle.cluster_script.specs.declared.statement.Statement.{Statement}
use Rattle.sheep_node.specs.declared.course.Course.TheVariants.{Checking}
use Rattle.overlap_law.specs.ChecksAhead.{ChecksHaveBegunNoneAhead}
use Rattle.overlap_law.specs.MomentChanges.{RunsAreInRange}
use Rattle.overlap_law.specs.Past.{MomentWithPast, run_with_past}
use Rattle.overlap_law.proofs.AheadInSteps.{AreAhead, all_grown, step_leaves}
use Rattle.overlap_law.proofs.ClosedHistories.{IsKeptWithHistory, with_history-in_run}
use Rattle.overlap_law.proofs.UnderWayInRuns.{begun-in_run}
use Rattle.sheep_world.specs.RunsWithAsks.{Move}

module _ (script : List Statement) (range : RunsAreInRange script) (req : ℕ) where
  kept : IsKeptWithHistory script req (AreAhead req)
  kept = record {
    none = λ history requests none request got. absurd (none request got);
    grown = all_grown req;
    steps = λ events before run began all.
        step_leaves script range req before.world began before.past.history all (begun-in_run script range req events before run);
  }

pub checks-in_run : (script : List Statement) → RunsAreInRange script → (events : List Move) (moment : MomentWithPast)
    → run_with_past script events ≡ Some moment → ChecksHaveBegunNoneAhead moment.past.history moment.world.hosts
checks-in_run script range events moment is = record {
  each = λ n host got req session check there.
      with_history-in_run script req (AreAhead req) (kept script range req) events moment is n host got
      (record { session = session; course = Checking check }) there;
}
