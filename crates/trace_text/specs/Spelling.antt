-- How an event, and a list of events, are spelled.
use Rattle.std.specs.Prelude.{ℕ, List, ◌++◌, flat_map, codes, decimal}
use Rattle.object_id.specs.declared.node.NodeId.{NodeId}
use Rattle.sheep_node.specs.declared.event.Event.{Event}
use Rattle.sheep_node.specs.declared.event.Event.TheVariants.{Guest, Deliver, LoseRequest, LoseReply, LogNext, Put, RecoverTick, RetryTick}
use Rattle.sheep_node.specs.declared.event.Event.TheVariants.{Lost, Leave, Join, Reweight, Back, Phase}

-- a message is named by its sender and number, with a dot between
abbrev pub name_text : NodeId → ℕ → List ℕ
name_text sender number = decimal sender.0 ++ codes "." ++ decimal number

-- a word, and the session, message or node that the event is of; numbers are decimal, without leading zeros
abbrev pub event_text : Event → List ℕ
event_text (Guest session) = codes "guest " ++ decimal session
event_text (Deliver sender number) = codes "deliver " ++ name_text sender number
event_text (LoseRequest sender number) = codes "loserequest " ++ name_text sender number
event_text (LoseReply sender number) = codes "losereply " ++ name_text sender number
event_text (LogNext node) = codes "log " ++ decimal node.0
event_text (Put node) = codes "put " ++ decimal node.0
event_text (RecoverTick node) = codes "recover " ++ decimal node.0
event_text (RetryTick node) = codes "retry " ++ decimal node.0
event_text (Lost node) = codes "lost " ++ decimal node.0
event_text (Leave node) = codes "leave " ++ decimal node.0
event_text (Join node) = codes "join " ++ decimal node.0
event_text (Reweight node) = codes "reweight " ++ decimal node.0
event_text (Back node) = codes "back " ++ decimal node.0
event_text Phase = codes "phase"

-- a line for each event
abbrev pub trace_text_of : List Event → List ℕ
trace_text_of events = flat_map (λ event. event_text event ++ codes "\n") events
