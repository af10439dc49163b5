use Rattle.overlap_law.proofs.LatestInRuns.{latest-in_run}
use Rattle.overlap_law.proofs.writers.open_attempts_are_the_latest.Goals as goal

pub returns : goal.returns
returns c = λ script moves start moment range is trail. latest-in_run script range moves start moment is trail
