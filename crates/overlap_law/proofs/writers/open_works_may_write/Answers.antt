use Rattle.overlap_law.proofs.WritersOfWorks.{works_may-in_run}
use Rattle.overlap_law.proofs.writers.open_works_may_write.Goals as goal

pub returns : goal.returns
returns c = λ script moves start moment range is trail. works_may-in_run script range moves start moment is trail
