use Rattle.overlap_law.proofs.ToldPiecesSince.{told_pieces_after}
use Rattle.overlap_law.proofs.told.what_reads_are_told_has_what_is_owed.Goals as goal

pub returns : goal.returns
returns c = λ script moves start before after good range is trail change since told.
    told_pieces_after script range moves start is before after trail change good since told
