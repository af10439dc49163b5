use Rattle.overlap_law.proofs.StayingRows.{stays-on_the_way}
use Rattle.overlap_law.proofs.rows.served_rows_stay.Goals as goal

pub returns : goal.returns
returns c = λ script moves start moment range is trail. stays-on_the_way script range moves start moment is trail
