use Rattle.overlap_law.proofs.OpenDisksOfHistory.{working_of_history}
use Rattle.overlap_law.proofs.legal.working_disks_are_of_the_history.Goals as goal

pub returns : goal.returns
returns c = λ script moves moment range run. working_of_history script range moves moment run
