use Rattle.overlap_law.proofs.CarriedRows.{good_at}
use Rattle.overlap_law.proofs.HeardUnits.{part_is_of_made}
use Rattle.overlap_law.proofs.ToldPiecesInRuns.{told_pieces-in_run}
use Rattle.overlap_law.proofs.told.what_a_read_is_told_of_strips_is_made.Goals as goal

pub returns : goal.returns
returns c = λ script moves start moment n now first req place work current message from rsp bytes unit j made range is trail there up of own
    first_there given answering said is_good known strips at covers is_made quiet inside.
    part_is_of_made script range moves start moment is trail n now there up req place work current message of own (good_at start)
    (told_pieces-in_run script range moves start is) first first_there given from rsp bytes answering said is_good known strips unit j
    made at covers is_made quiet inside
