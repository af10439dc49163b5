-- The words that events' texts begin with, and which event a word and numbers name.
use Rattle.std.specs.Prelude.{ℕ, List, bytes_eq, codes, Option}
use Rattle.std.specs.List.{find}
use Rattle.sheep_node.specs.declared.event.Event.{Event}
use Rattle.sheep_node.specs.declared.event.Event.TheVariants.{Guest, Deliver, LoseRequest, LoseReply, LogNext, Put, RecoverTick, RetryTick}
use Rattle.sheep_node.specs.declared.event.Event.TheVariants.{Lost, Leave, Join, Reweight, Back, Phase}
use Rattle.trace_text.specs.EventReading.{events_of}

-- the word of an event
abbrev pub event_word : Event → List ℕ
event_word (Guest session) = codes "guest"
event_word (Deliver sender number) = codes "deliver"
event_word (LoseRequest sender number) = codes "loserequest"
event_word (LoseReply sender number) = codes "losereply"
event_word (LogNext node) = codes "log"
event_word (Put node) = codes "put"
event_word (RecoverTick node) = codes "recover"
event_word (RetryTick node) = codes "retry"
event_word (Lost node) = codes "lost"
event_word (Leave node) = codes "leave"
event_word (Join node) = codes "join"
event_word (Reweight node) = codes "reweight"
event_word (Back node) = codes "back"
event_word Phase = codes "phase"

-- of the events that these numbers name, the one with this word
abbrev pub event_of : List ℕ → List ℕ → Option Event
event_of word numbers = find (λ event. bytes_eq word (event_word event)) (events_of numbers)
