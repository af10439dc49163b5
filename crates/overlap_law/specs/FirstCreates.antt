-- That a made create comes before each write of its object, at each moment on the way of an event or a client's read in a run.
use Rattle.std.specs.Prelude.{◌≡◌, List, Some}
use Rattle.cluster_script.specs.declared.statement.Statement.{Statement}
use Rattle.overlap_law.specs.Fates.{CreatesComeFirst}
use Rattle.overlap_law.specs.MomentChanges.{MomentTrail}
use Rattle.overlap_law.specs.Past.{MomentWithPast, run_with_past}
use Rattle.sheep_world.specs.RunsWithAsks.{Move}

-- of each run of a script
abbrev pub CreatesAlwaysComeFirst : List Statement → Type 0
CreatesAlwaysComeFirst script = (moves : List Move) (start moment : MomentWithPast) → run_with_past script moves ≡ Some start
    → MomentTrail script start moment → CreatesComeFirst moment.past.attempts
