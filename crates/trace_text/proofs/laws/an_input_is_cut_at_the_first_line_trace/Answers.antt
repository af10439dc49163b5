use Rattle.trace_text.proofs.InputPartLaws.{parted-again, script-part-read, trace-part-lines}
use Rattle.trace_text.proofs.InputCutLemmas.{alone}
use Rattle.trace_text.proofs.laws.an_input_is_cut_at_the_first_line_trace.Goals as goal

pub returns : goal.returns
returns c = record {
  alone = alone;
  parted = parted-again;
  script = script-part-read;
  trace = trace-part-lines;
}
