use Rattle.overlap_law.proofs.LastReads.{closed-in_run}
use Rattle.overlap_law.proofs.writers.snapshots_are_closed.Goals as goal

pub returns : goal.returns
returns c = λ script moves start moment range is trail. closed-in_run script range moves start moment is trail
