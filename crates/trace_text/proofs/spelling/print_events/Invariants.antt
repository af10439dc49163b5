use Rattle.std.proofs.Common.{◌≡◌, take}
use Rattle.trace_text.specs.Spelling.{trace_text_of}
use Rattle.trace_text.proofs.spelling.print_events.Given as goal

-- the lines of the events so far
abbrev pub invariant-loop-event : goal.invariant-loop-event
invariant-loop-event l = l.text.items ≡ trace_text_of (take l.event-index l.events)
