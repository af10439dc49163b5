-- What a worker must bring to an event.
use Rattle.std.specs.Prelude.{Bool, true, false}
use Rattle.sheep_node.specs.declared.event.Event.{Event}
use Rattle.sheep_node.specs.declared.event.Event.TheVariants as events

-- whether an event takes what another step gave: a message, the mark of a loss, or an entry of the log
abbrev pub takes_brought : Event → Bool
takes_brought (events.Guest session) = false
takes_brought (events.Deliver node number) = true
takes_brought (events.LoseRequest node number) = true
takes_brought (events.LoseReply node number) = true
takes_brought (events.LogNext node) = true
takes_brought (events.Put node) = false
takes_brought (events.RecoverTick node) = false
takes_brought (events.RetryTick node) = false
takes_brought (events.Lost node) = false
takes_brought (events.Leave node) = false
takes_brought (events.Join node) = false
takes_brought (events.Reweight node) = false
takes_brought (events.Back node) = true
takes_brought events.Phase = false
