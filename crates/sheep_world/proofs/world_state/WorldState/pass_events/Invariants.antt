use Rattle.std.proofs.Common.{◌≡◌, drop}
use Rattle.sheep_world.specs.EnabledPlaces.{place_behind_enabled}
use Rattle.sheep_world.proofs.world_state.WorldState.pass_events.Given as goal

-- the events that are left go on from the place that is left
abbrev pub invariant-loop-event : goal.invariant-loop-event
invariant-loop-event l =
    place_behind_enabled l.script l.self (drop l.event-index l.events) l.left ≡ place_behind_enabled l.script l.self l.events l.place
