use Rattle.overlap_law.proofs.GrantedAttempts.{under_the_grant-in_run}
use Rattle.overlap_law.proofs.writers.attempts_are_under_the_grant.Goals as goal

pub returns : goal.returns
returns c = λ script moves start moment range is trail. under_the_grant-in_run script range moves start moment is trail
