use Rattle.overlap_law.proofs.HeldLevels.{has_made}
use Rattle.overlap_law.proofs.UnpassedLevels.{not_passed}
use Rattle.overlap_law.proofs.heart.no_search_has_passed_what_is_made.Goals as goal

pub returns : goal.returns
returns c = λ script moves start moment range is trail good alive kept carried passed.
    not_passed script range moves start moment is trail good (has_made script range moves start moment is trail good alive kept carried)
    passed
