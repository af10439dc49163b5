use Rattle.overlap_law.proofs.WorkedInRuns.{worked-in_run}
use Rattle.overlap_law.proofs.laws.gateways_know_the_fates.Goals as goal

pub returns : goal.returns
returns c = λ script moves moment range is. worked-in_run script range moves moment is
