-- Going over events to a place, as the list of what may happen is read without building it.
use Rattle.std.specs.Prelude.{ℕ, zero, suc, nat_lt, Bool, List, [], ◌∷◌, filter, unwrap_or, slice_get, if◌then◌else◌}
use Rattle.std.specs.List.{list_all}
use Rattle.std.specs.declared.ops.ControlFlow.{ControlFlow}
use Rattle.std.specs.declared.ops.ControlFlow.TheVariants.{Continue, Break}
use Rattle.std.specs.FinMap as tree
use Rattle.cluster_script.specs.declared.statement.Statement.{Statement}
use Rattle.sheep_node.specs.declared.event.Event.{Event}
use Rattle.sheep_node.specs.declared.event.Event.TheVariants as events
use Rattle.message_wire.specs.declared.name.MessageName.{MessageName}
use Rattle.message_wire.specs.declared.packet.Packet.{Packet}
use Rattle.message_wire.specs.Message.{messages_by_sender}
use Rattle.sheep_world.specs.World.{World, are_ends_up}
use Rattle.sheep_world.specs.Enabled.{is_enabled, loss_of}

-- breaks with the event at a place of these, and goes on behind them with the place that is left
abbrev pub place_behind : List Event → ℕ → ControlFlow Event ℕ
place_behind [] place = Continue place
place_behind (event ∷ later) zero = Break event
place_behind (event ∷ later) (suc place) = place_behind later place

-- the same, where only those that may happen have places
abbrev pub place_behind_enabled : List Statement → World → List Event → ℕ → ControlFlow Event ℕ
place_behind_enabled statements world events place = place_behind (filter (is_enabled statements world) events) place

-- the messages of the sender at a place; none past the last
abbrev pub messages_of_sender : ℕ → World → List (MessageName × Packet)
messages_of_sender sender world = unwrap_or (slice_get (messages_by_sender (tree.entries world.wire)) sender) []

-- whether all ends of these are up
abbrev pub are_all_ends_up : ℕ → World → Bool
are_all_ends_up sender world =
    list_all (λ (found : MessageName × Packet). are_ends_up found.0 found.1 world) (messages_of_sender sender world)

-- the delivery of a message
abbrev pub delivery_event : MessageName → Event
delivery_event name = events.Deliver name.sender name.number

-- what may happen to a message whose ends are up: its delivery, and its loss if losses are left
abbrev pub events_between_up : ℕ → MessageName × Packet → List Event
events_between_up losses found =
    delivery_event found.0 ∷ (if nat_lt 0 losses then loss_of found.0 found.1 ∷ [] else [])
