use Rattle.overlap_law.proofs.LegalRuns.{all_follows}
use Rattle.overlap_law.proofs.legal.all_else_may_follow.Goals as goal

pub returns : goal.returns
returns c = λ script moves event before made range run is. all_follows script range moves event before made run is
