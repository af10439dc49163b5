use Rattle.std.proofs.Common.{◌≡◌, false}
use Rattle.schedule.specs.Schedule.{draft_in}
use Rattle.schedule.proofs.WholeLaws.{left}
use Rattle.schedule.proofs.SeededRuns.{IsFront}
use Rattle.schedule.proofs.seeded.run_seeded.Given as goal

-- the events so far are the first of the schedule, which goes on from here
abbrev pub invariant-loop-schedule : goal.invariant-loop-schedule
invariant-loop-schedule l = (l.world.spent ≡ false) × IsFront l.script l.seed l.run (draft_in l.world.world l.schedule)

abbrev pub decreases-loop-schedule : goal.decreases-loop-schedule
decreases-loop-schedule l = left l.script (draft_in l.world.world l.schedule)
