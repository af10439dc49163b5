use Rattle.schedule.specs.Schedule.{draft_in}
use Rattle.schedule.proofs.WholeLaws.{left}
use Rattle.sheep.proofs.MakingRuns.{IsSeeded}
use Rattle.sheep.proofs.making.seeded_run.Given as goal

-- what is told is the first part of the seed's schedule, which goes on from here
abbrev pub invariant-loop-alloc : goal.invariant-loop-alloc
invariant-loop-alloc l = IsSeeded l.script l.seed l.told l.schedule

abbrev pub decreases-loop-alloc : goal.decreases-loop-alloc
decreases-loop-alloc l = left l.script (draft_in l.told.world.world l.schedule)
