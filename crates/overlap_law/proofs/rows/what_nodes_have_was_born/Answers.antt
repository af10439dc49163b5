use Rattle.overlap_law.proofs.BornInRuns.{born-in_run}
use Rattle.overlap_law.proofs.rows.what_nodes_have_was_born.Goals as goal

pub returns : goal.returns
returns c = λ script moves moment range is. born-in_run script range moves moment is
