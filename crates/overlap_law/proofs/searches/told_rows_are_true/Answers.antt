use Rattle.overlap_law.proofs.TrueRows.{rows_true-on_the_way}
use Rattle.overlap_law.proofs.searches.told_rows_are_true.Goals as goal

pub returns : goal.returns
returns c = λ script moves start moment good range is trail. rows_true-on_the_way script range moves start moment is trail good
