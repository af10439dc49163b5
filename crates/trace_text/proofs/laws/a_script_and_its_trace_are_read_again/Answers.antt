use Rattle.trace_text.proofs.InputPartLaws.{script-has-none, printed-again, ended-read}
use Rattle.trace_text.proofs.laws.a_script_and_its_trace_are_read_again.Goals as goal

pub returns : goal.returns
returns c = record { none = script-has-none; again = printed-again; ended = ended-read }
