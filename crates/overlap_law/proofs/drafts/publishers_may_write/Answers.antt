use Rattle.overlap_law.proofs.LastEntriesOfNodes.{publishers_write}
use Rattle.overlap_law.proofs.drafts.publishers_may_write.Goals as goal

pub returns : goal.returns
returns c = λ script moves moment range is. publishers_write script range moves moment is
