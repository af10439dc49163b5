use Rattle.std.proofs.Common.{◌≡◌, flat_map, drop}
use Rattle.sheep_world.specs.Enabled.{message_events}
use Rattle.sheep_world.specs.EnabledPlaces.{place_behind_enabled, messages_of_sender}
use Rattle.sheep_world.proofs.world_state.WorldState.pass_each_message.Given as goal

-- the messages that are left go on from the place that is left
abbrev pub invariant-loop-message : goal.invariant-loop-message
invariant-loop-message l =
    place_behind_enabled l.script l.self (flat_map message_events (drop l.message (messages_of_sender l.sender l.self))) l.left
    ≡ place_behind_enabled l.script l.self (flat_map message_events (messages_of_sender l.sender l.self)) l.place
