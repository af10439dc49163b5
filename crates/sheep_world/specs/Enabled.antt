-- The events that may happen in a world, in the order in which a schedule draws them.
use Rattle.std.specs.Prelude.{ℕ, ◌-◌, nat_lt, Bool, List, [], ◌∷◌, ◌++◌, length, map, flat_map, filter, sum_by, Option, None}
use Rattle.std.specs.Prelude.{slice_get, if◌then◌else◌}
use Rattle.std.specs.Option.{option_map_or}
use Rattle.std.specs.FinMap as tree
use Rattle.cluster_script.specs.declared.statement.Statement.{Statement}
use Rattle.cluster_script.specs.declared.statement.Statement.TheVariants as lines
use Rattle.cluster_script.specs.Sessions.{ScriptSession, sessions_of}
use Rattle.sheep_node.specs.declared.event.Event.{Event}
use Rattle.sheep_node.specs.declared.event.Event.TheVariants as events
use Rattle.message_wire.specs.declared.name.MessageName.{MessageName}
use Rattle.message_wire.specs.declared.packet.Packet.{Packet}
use Rattle.message_wire.specs.declared.packet.Packet.TheVariants.{Request, Reply}
use Rattle.message_wire.specs.Message.{messages_by_sender}
use Rattle.sheep_world.specs.World.{World, next_control}
use Rattle.sheep_world.specs.Conditions.{may_guest, may_deliver, may_lose_request, may_lose_reply, may_log_next, may_put, may_recover}
use Rattle.sheep_world.specs.Conditions.{may_retry, may_lose_node, may_leave, may_join, may_reweight, may_come_back, may_end_phase}

-- whether an event may happen
unfoldable pub is_enabled : List Statement → World → Event → Bool
is_enabled statements world (events.Guest session) = may_guest statements session world
is_enabled statements world (events.Deliver node number) = may_deliver (record { sender = node; number = number }) world
is_enabled statements world (events.LoseRequest node number) = may_lose_request (record { sender = node; number = number }) world
is_enabled statements world (events.LoseReply node number) = may_lose_reply (record { sender = node; number = number }) world
is_enabled statements world (events.LogNext node) = may_log_next node.0 world
is_enabled statements world (events.Put node) = may_put node.0 world
is_enabled statements world (events.RecoverTick node) = may_recover node.0 world
is_enabled statements world (events.RetryTick node) = may_retry node.0 world
is_enabled statements world (events.Lost node) = may_lose_node node.0 world
is_enabled statements world (events.Leave node) = may_leave node.0 world
is_enabled statements world (events.Join node) = may_join node.0 world
is_enabled statements world (events.Reweight node) = may_reweight node.0 world
is_enabled statements world (events.Back node) = may_come_back node.0 world
is_enabled statements world events.Phase = may_end_phase statements world

-- each session's request, by session
abbrev pub guest_events : List Statement → List Event
guest_events statements = map (λ (session : ScriptSession). events.Guest session.number) (sessions_of statements)

-- the loss of a message, by what it is
abbrev pub loss_of : MessageName → Packet → Event
loss_of name (Request to bytes) = events.LoseRequest name.sender name.number
loss_of name (Reply from bytes) = events.LoseReply name.sender name.number

-- a message is delivered, or lost
abbrev pub message_events : MessageName × Packet → List Event
message_events found = events.Deliver found.0.sender found.0.number ∷ loss_of found.0 found.1 ∷ []

-- what a node may do, and that it leaves
abbrev pub node_events : ℕ → List Event
node_events node =
    events.LogNext (record { 0 = node }) ∷ events.Put (record { 0 = node }) ∷ events.RecoverTick (record { 0 = node })
    ∷ events.RetryTick (record { 0 = node }) ∷ events.Leave (record { 0 = node }) ∷ []

-- the event that a control makes
abbrev pub control_event : Statement → List Event
control_event (lines.Fail node) = events.Lost (record { 0 = node }) ∷ []
control_event (lines.Join node) = events.Join (record { 0 = node }) ∷ []
control_event (lines.Reweight node vnodes) = events.Reweight (record { 0 = node }) ∷ []
control_event (lines.Back node) = events.Back (record { 0 = node }) ∷ []
control_event s = []

-- the events that are looked at: of each session; then of each message, by sender and number; then of each node, by number;
-- then of the next control. Phase isn't among them
abbrev pub looked_at : List Statement → World → List Event
looked_at statements world =
    guest_events statements ++ flat_map message_events (tree.entries world.wire)
    ++ flat_map node_events (tree.keys world.hosts) ++ option_map_or control_event (next_control world) []

-- those of them that may happen, in this order
unfoldable pub enabled_events : List Statement → World → List Event
enabled_events statements world = filter (is_enabled statements world) (looked_at statements world)

-- ---- the list in parts, so that an event of it is counted and found without the others

-- the events that are looked at, in parts: of the sessions, of each sender's messages, of each node, of the next control
abbrev pub looked_at_parts : List Statement → World → List (List Event)
looked_at_parts statements world =
    (guest_events statements ∷ map (flat_map message_events) (messages_by_sender (tree.entries world.wire)))
    ++ map node_events (tree.keys world.hosts) ++ option_map_or control_event (next_control world) [] ∷ []

-- those of each part that may happen
unfoldable pub enabled_parts : List Statement → World → List (List Event)
enabled_parts statements world = map (filter (is_enabled statements world)) (looked_at_parts statements world)

-- how many events may happen but for Phase: the sum of the parts' counts
abbrev pub enabled_count : List Statement → World → ℕ
enabled_count statements world = sum_by length (enabled_parts statements world)

-- the event at a place, in the first part that has so many
abbrev pub event_in_parts : List (List Event) → ℕ → Option Event
event_in_parts [] place = None
event_in_parts (part ∷ later) place =
    if nat_lt place (length part) then slice_get part place else event_in_parts later (place - length part)

-- the event at a place of the enabled list
abbrev pub enabled_at : List Statement → World → ℕ → Option Event
enabled_at statements world place = event_in_parts (enabled_parts statements world) place
