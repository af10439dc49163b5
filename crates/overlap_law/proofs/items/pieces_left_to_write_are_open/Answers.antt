use Rattle.overlap_law.proofs.PiecesUnderWay.{pieces_open-in_run}
use Rattle.overlap_law.proofs.items.pieces_left_to_write_are_open.Goals as goal

pub returns : goal.returns
returns c = λ script moves moment range is. pieces_open-in_run script range moves moment is
