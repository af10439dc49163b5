use Rattle.overlap_law.proofs.KeptByMoves.{writers-in_run}
use Rattle.overlap_law.proofs.reads.the_writers_are_kept.Goals as goal

pub returns : goal.returns
returns c = λ script moves moment range is. writers-in_run script range moves moment is
