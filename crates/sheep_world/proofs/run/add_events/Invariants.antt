use Rattle.std.proofs.Common.{◌≡◌, ◌++◌}
use Rattle.std.specs.Vec.Iter.{into_iter_items}
use Rattle.sheep_world.proofs.run.add_events.Given as goal

-- what was added so far, with what is left to add
abbrev pub invariant-loop-event : goal.invariant-loop-event
invariant-loop-event l = l.events ++ into_iter_items l.event-iterator ≡ l.fn.events ++ l.fn.later
