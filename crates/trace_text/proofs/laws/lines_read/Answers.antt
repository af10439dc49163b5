use Rattle.std.proofs.Common.{refl}
use Rattle.std.specs.Fmt.{digits}
use Rattle.trace_text.specs.EventReading.{event_in}
use Rattle.trace_text.proofs.laws.lines_read.Goals as goal

pub returns : goal.returns
unfolding event_in digits
returns c = record {
  plain = refl;
  leading_zero = refl;
  further_space = refl;
  further_word = refl;
  carriage_return = refl;
  no_number = refl;
  too_great = refl;
  other_word = refl;
  nothing = refl;
  script = refl;
  trace = refl;
  no_trace = refl;
  script_part = refl;
  trace_part = refl;
}
