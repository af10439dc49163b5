use Rattle.std.proofs.Common.{◌≡◌, false, take}
use Rattle.schedule.proofs.MadeRuns.{IsMadeTo}
use Rattle.schedule.proofs.stops.run_to.Given as goal

-- the events so far are made, and counted
abbrev pub invariant-loop-event : goal.invariant-loop-event
invariant-loop-event l = (l.world.spent ≡ false) × (l.place ≡ l.event-index)
    × IsMadeTo l.script (take l.event-index l.events) l.world.world l.run
