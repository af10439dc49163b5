use Rattle.overlap_law.proofs.MissingChanges.{not_missing_after}
use Rattle.overlap_law.proofs.searches.the_made_stays_unmissed.Goals as goal

pub returns : goal.returns
returns c = λ script moves start before after range is trail change good alive kept carried not_missing.
    not_missing_after script range moves start before after is trail change good alive kept carried not_missing
