use Rattle.overlap_law.proofs.HeldDisks.{held-in_run}
use Rattle.overlap_law.proofs.writers.open_disks_are_held.Goals as goal

pub returns : goal.returns
returns c = λ script moves start moment range is trail. held-in_run script range moves start moment is trail
