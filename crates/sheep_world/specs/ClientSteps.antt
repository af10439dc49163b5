-- What a client's ask makes of the world, and the events that bring its reply.
use Rattle.std.specs.Prelude.{ℕ, zero, suc, Bool, true, false, not, List, [], find, Option, Some, None, is_some, if◌then◌else◌}
use Rattle.std.specs.Option.{option_map_or}
use Rattle.cluster_script.specs.declared.statement.Statement.{Statement}
use Rattle.sheep_node.specs.declared.ask.Ask.{Ask}
use Rattle.sheep_node.specs.declared.event.Event.{Event}
use Rattle.sheep_node.specs.declared.event.Event.TheVariants as events
use Rattle.sheep_node.specs.declared.input.Input.TheVariants as inputs
use Rattle.message_wire.specs.declared.name.MessageName.{MessageName}
use Rattle.sheep_world.specs.World.{World, message_at, are_ends_up}
use Rattle.sheep_world.specs.NodeSteps.{node_stepped, at_rest}
use Rattle.sheep_world.specs.ClientAsks.{next_ask_number, answer_of}
use Rattle.sheep_world.specs.Enabled.{enabled_events}
use Rattle.sheep_world.specs.Step.{EventOutcome, step}

-- the ask is the last one, and has no reply
abbrev pub ask_begun : World → World
ask_begun world = record (at_rest world) { asked = Some (record { req = next_ask_number world; reply = None }) }

-- ask: the node steps on it as on a guest's request, of session 0; no script has that session, so the step is as with no statements, and
-- its reply is told to the client alone
unfoldable pub ask_effect : ℕ → Ask → World → World
ask_effect node ask world = node_stepped [] node (inputs.Guest (next_ask_number world) 0 ask) (ask_begun world)

-- whether both ends of a message in the wire are up
abbrev pub is_between_up : MessageName → World → Bool
is_between_up name world = option_map_or (λ packet. are_ends_up name packet world) (message_at name world) false

-- whether an event is one of those that bring an answer: no session asks, no control is taken, and no message is lost between nodes
-- that are up
abbrev pub brings_answers : World → Event → Bool
brings_answers world (events.Guest session) = false
brings_answers world (events.Deliver node number) = true
brings_answers world (events.LoseRequest node number) = not (is_between_up (record { sender = node; number = number }) world)
brings_answers world (events.LoseReply node number) = not (is_between_up (record { sender = node; number = number }) world)
brings_answers world (events.LogNext node) = true
brings_answers world (events.Put node) = true
brings_answers world (events.RecoverTick node) = true
brings_answers world (events.RetryTick node) = true
brings_answers world (events.Lost node) = false
brings_answers world (events.Leave node) = true
brings_answers world (events.Join node) = false
brings_answers world (events.Reweight node) = false
brings_answers world (events.Back node) = false
brings_answers world events.Phase = false

-- the first of them that may happen
abbrev pub next_driven : List Statement → World → Option Event
next_driven statements world = find (brings_answers world) (enabled_events statements world)

-- the world after an event
abbrev pub world_with_event : List Statement → Event → World → World
world_with_event statements event world = option_map_or (λ (made : EventOutcome). made.world) (step statements event world) world

-- the world after the first of them that may happen; where none may, it stays
abbrev pub world_turned : List Statement → World → World
world_turned statements world =
    option_map_or (λ (event : Event). world_with_event statements event world) (next_driven statements world) world

-- the world after so many of them at most, each the first that may happen then, up to the answer
unfoldable pub world_driven : List Statement → ℕ → World → World
world_driven statements zero world = world
world_driven statements (suc turns) world =
    if is_some (answer_of world) then world else world_driven statements turns (world_turned statements world)

-- whether there is an answer then
abbrev pub is_driven_to_answer : List Statement → ℕ → World → Bool
is_driven_to_answer statements turns world = is_some (answer_of (world_driven statements turns world))
