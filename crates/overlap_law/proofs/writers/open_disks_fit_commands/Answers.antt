use Rattle.overlap_law.proofs.OpenDisksInRuns.{disks_fit-in_run}
use Rattle.overlap_law.proofs.writers.open_disks_fit_commands.Goals as goal

pub returns : goal.returns
returns c = λ script moves start moment range is trail. disks_fit-in_run script range moves start moment is trail
