use Rattle.trace_text.proofs.ReadingLaws.{one-event}
use Rattle.trace_text.proofs.laws.a_text_is_of_one_event.Goals as goal

pub returns : goal.returns
returns c = one-event
