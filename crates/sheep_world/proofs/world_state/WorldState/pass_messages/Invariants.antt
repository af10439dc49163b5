use Rattle.std.proofs.Common.{◌≡◌, flat_map, drop}
use Rattle.std.specs.FinMap as tree
use Rattle.message_wire.specs.Message.{messages_by_sender}
use Rattle.sheep_world.specs.Enabled.{message_events}
use Rattle.sheep_world.specs.EnabledPlaces.{place_behind_enabled}
use Rattle.sheep_world.proofs.world_state.WorldState.pass_messages.Given as goal

-- the senders that are left go on from the place that is left
abbrev pub invariant-loop-sender : goal.invariant-loop-sender
invariant-loop-sender l =
    place_behind_enabled l.script l.self
    (flat_map (flat_map message_events) (drop l.sender (messages_by_sender (tree.entries l.self.wire)))) l.left
    ≡ place_behind_enabled l.script l.self (flat_map message_events (tree.entries l.self.wire)) l.place
