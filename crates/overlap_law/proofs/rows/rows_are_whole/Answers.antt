use Rattle.overlap_law.proofs.WholeRows.{whole-in_run}
use Rattle.overlap_law.proofs.rows.rows_are_whole.Goals as goal

pub returns : goal.returns
returns c = whole-in_run
