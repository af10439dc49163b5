use Rattle.overlap_law.proofs.StandingPieces.{written-in_run}
use Rattle.overlap_law.proofs.items.what_is_left_to_write_has_its_items.Goals as goal

pub returns : goal.returns
returns c = λ script moves moment range is. written-in_run script range moves moment is
