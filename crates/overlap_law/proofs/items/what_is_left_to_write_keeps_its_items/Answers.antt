use Rattle.overlap_law.proofs.StandingOnTheWay.{written_after}
use Rattle.overlap_law.proofs.items.what_is_left_to_write_keeps_its_items.Goals as goal

pub returns : goal.returns
returns c = λ script moves move start end before after range is. written_after script range moves start is.run is.change
