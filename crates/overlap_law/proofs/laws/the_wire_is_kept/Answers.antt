use Rattle.overlap_law.proofs.KeptByMoves.{flight-in_run}
use Rattle.overlap_law.proofs.laws.the_wire_is_kept.Goals as goal

pub returns : goal.returns
returns c = λ script moves moment range is. flight-in_run script range moves moment is
