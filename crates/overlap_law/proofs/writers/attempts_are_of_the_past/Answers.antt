use Rattle.overlap_law.proofs.LastReads.{past-in_run}
use Rattle.overlap_law.proofs.writers.attempts_are_of_the_past.Goals as goal

pub returns : goal.returns
returns c = λ script moves start moment range is trail. past-in_run script range moves start moment is trail
