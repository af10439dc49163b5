use Rattle.overlap_law.proofs.HeldAfter.{has_made_after}
use Rattle.overlap_law.proofs.KeptLists.{stay_complete}
use Rattle.overlap_law.proofs.lists.lists_stay_complete.Goals as goal

pub returns : goal.returns
returns c = λ script moves start before after range is trail change good alive kept carried complete.
    stay_complete script range moves start before after is trail change good
    (has_made_after script range moves start before after is trail change good alive kept carried) complete
