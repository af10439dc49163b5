use Rattle.overlap_law.proofs.WrittenAlone.{done_so}
use Rattle.overlap_law.proofs.alone.a_piece_that_is_done_is_alone.Goals as goal

pub returns : goal.returns
returns c = λ script moves start stepping so_far range ran is by leads trail req number work current status learns done making vid payload
    piece object has.
    done_so script range moves start ran stepping is by so_far leads trail req number work current status learns done making vid payload
    piece object has
