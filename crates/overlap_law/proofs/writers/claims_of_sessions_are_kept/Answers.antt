use Rattle.overlap_law.proofs.ClaimsInRuns.{claims-in_run}
use Rattle.overlap_law.proofs.writers.claims_of_sessions_are_kept.Goals as goal

pub returns : goal.returns
returns c = λ script moves start moment range is trail. claims-in_run script range moves start moment is trail
