use Rattle.overlap_law.proofs.NamedLists.{has_after}
use Rattle.overlap_law.proofs.searches.what_isnt_pending_is_there.Goals as goal

pub returns : goal.returns
returns c = λ script moves start before after range is trail change good alive not_missing named has.
    has_after script range moves start before after is trail change good alive not_missing named has
