use Rattle.overlap_law.proofs.CheckedOnTheWay.{checked_after}
use Rattle.overlap_law.proofs.items.values_of_checks_have_their_items.Goals as goal

pub returns : goal.returns
returns c = λ script moves move start end before after range is. checked_after script range moves start is.run is.change
