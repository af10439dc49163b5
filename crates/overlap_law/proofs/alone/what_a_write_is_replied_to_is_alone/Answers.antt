use Rattle.overlap_law.proofs.DoneWrites.{written_whole}
use Rattle.overlap_law.proofs.alone.what_a_write_is_replied_to_is_alone.Goals as goal

pub returns : goal.returns
returns c = λ script moves start stepping so_far next range ran is by within trail session req number work attempt status bytes payload
    stage
    piece rest disk ended reply ends opened goes replies offset front cut one among.
    written_whole script range moves start ran stepping is by so_far next within trail session req number work attempt status bytes payload
    stage piece rest disk ended reply ends opened goes replies offset front cut one among
