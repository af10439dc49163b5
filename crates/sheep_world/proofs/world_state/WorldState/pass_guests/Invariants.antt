use Rattle.std.proofs.Common.{◌≡◌, map}
use Rattle.std.specs.Prelude.{◌-◌}
use Rattle.std.specs.List.{range_with_len}
use Rattle.sheep_node.specs.declared.event.Event.TheVariants as events
use Rattle.sheep_world.specs.Enabled.{guest_events}
use Rattle.sheep_world.specs.EnabledPlaces.{place_behind_enabled}
use Rattle.sheep_world.proofs.world_state.WorldState.pass_guests.Given as goal

-- the numbers that are left go on from the place that is left
abbrev pub invariant-loop-session : goal.invariant-loop-session
invariant-loop-session l =
    place_behind_enabled l.script l.self (map events.Guest (range_with_len l.session (65 - l.session))) l.left
    ≡ place_behind_enabled l.script l.self (guest_events l.script) l.place
