use Rattle.overlap_law.proofs.PiecesCreated.{created-in_run}
use Rattle.overlap_law.proofs.PiecesMade.{creates_of_pieces}
use Rattle.overlap_law.proofs.history.creates_are_of_their_pieces.Goals as goal

pub returns : goal.returns
returns c = record {
  pieces = λ script moves start moment range is trail. creates_of_pieces script range moves start moment is trail;
  bytes = λ script moves start moment range is trail. created-in_run script range moves start moment is trail;
}
