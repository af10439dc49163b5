use Rattle.trace_text.proofs.LineLaws.{lines-are-texts, last-may-lack}
use Rattle.trace_text.proofs.laws.a_trace_has_a_line_for_each_event.Goals as goal

pub returns : goal.returns
returns c = record { ended = lines-are-texts; cut = last-may-lack }
