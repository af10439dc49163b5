use Rattle.overlap_law.proofs.RangeOfFewObjects.{in_range_few, in_range_text}
use Rattle.overlap_law.proofs.laws.runs_of_few_controls_are_in_range.Goals as goal

pub returns : goal.returns
returns c = record {
  few = in_range_few;
  text = in_range_text;
}
