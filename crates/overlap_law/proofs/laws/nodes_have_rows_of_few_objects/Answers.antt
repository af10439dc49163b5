use Rattle.overlap_law.proofs.ObjectsInRuns.{objects_few}
use Rattle.overlap_law.proofs.RangeOfFewObjects.{rows_told}
use Rattle.overlap_law.proofs.laws.nodes_have_rows_of_few_objects.Goals as goal

pub returns : goal.returns
returns c = record {
  few = objects_few;
  told = rows_told;
}
