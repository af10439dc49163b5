use Rattle.overlap_law.proofs.FactsOfRuns.{stand-in_run}
use Rattle.overlap_law.proofs.MakingInRuns.{creates_first-in_run}
use Rattle.overlap_law.proofs.facts.attempts_stand.Goals as goal

pub returns : goal.returns
returns c = λ script range moves moment is. stand-in_run script range moves moment is (creates_first-in_run script range)
