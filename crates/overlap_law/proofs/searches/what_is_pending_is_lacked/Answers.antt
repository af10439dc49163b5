use Rattle.overlap_law.proofs.LackedWherePlaced.{pending_lacked-on_the_way}
use Rattle.overlap_law.proofs.searches.what_is_pending_is_lacked.Goals as goal

pub returns : goal.returns
returns c = λ script moves start moment live range is trail. pending_lacked-on_the_way script range moves start moment is trail live
