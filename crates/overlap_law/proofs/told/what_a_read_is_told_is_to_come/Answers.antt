use Rattle.overlap_law.proofs.CarriedRows.{good_at}
use Rattle.overlap_law.proofs.HeardUnits.{piece_is_to_come}
use Rattle.overlap_law.proofs.ToldPiecesInRuns.{told_pieces-in_run}
use Rattle.overlap_law.proofs.told.what_a_read_is_told_is_to_come.Goals as goal

pub returns : goal.returns
returns c = λ script moves start moment n now first req place work current message from rsp bytes unit k made range is trail there up of own
    first_there given answering said is_good known whole above below at object covers is_made.
    piece_is_to_come script range moves start moment is trail n now there up req place work current message of own (good_at start)
    (told_pieces-in_run script range moves start is) first first_there given from rsp bytes answering said is_good known whole unit above
    below k made at object covers is_made
