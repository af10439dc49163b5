use Rattle.overlap_law.proofs.OrderedInRuns.{ordered-in_run}
use Rattle.overlap_law.proofs.writers.attempts_are_in_order.Goals as goal

pub returns : goal.returns
returns c = λ script moves start moment range is trail. ordered-in_run script range moves start moment is trail
