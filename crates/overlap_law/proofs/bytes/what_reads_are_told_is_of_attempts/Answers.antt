use Rattle.overlap_law.proofs.ToldPieces.{told_pieces-on_the_way}
use Rattle.overlap_law.proofs.bytes.what_reads_are_told_is_of_attempts.Goals as goal

pub returns : goal.returns
returns c = λ script moves start moment range is trail. told_pieces-on_the_way script range moves start moment is trail
