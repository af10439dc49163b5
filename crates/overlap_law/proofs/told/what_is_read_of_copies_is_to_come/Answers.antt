use Rattle.overlap_law.proofs.CarriedRows.{good_at}
use Rattle.overlap_law.proofs.PiecesReadToCome.{piece_to_come}
use Rattle.overlap_law.proofs.ToldPiecesInRuns.{told_pieces-in_run}
use Rattle.overlap_law.proofs.told.what_is_read_of_copies_is_to_come.Goals as goal

pub returns : goal.returns
returns c = λ script moves start stepping so_far good_id session req number work attempt status course bytes inode home epoch
    piece ledger effects range ran is by leads trail ends is_read is_vid few whole blocks own some is_good created.
    piece_to_come script range moves start ran stepping is by so_far leads trail (good_at start)
    (told_pieces-in_run script range moves start ran) session req number work attempt status course bytes ends inode home piece is_read
    is_vid few whole blocks own ledger effects good_id is_good epoch created some
