use Rattle.overlap_law.proofs.ApartInRuns.{begun_apart-in_run}
use Rattle.overlap_law.proofs.writers.begun_requests_are_apart.Goals as goal

pub returns : goal.returns
returns c = λ script moves moment range is. begun_apart-in_run script range moves moment is
