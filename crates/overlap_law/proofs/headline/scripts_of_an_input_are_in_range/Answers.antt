use Rattle.overlap_law.proofs.InputRange.{statements_few, in_range_input}
use Rattle.overlap_law.proofs.headline.scripts_of_an_input_are_in_range.Goals as goal

pub returns : goal.returns
returns c = record { few = statements_few; range = in_range_input }
