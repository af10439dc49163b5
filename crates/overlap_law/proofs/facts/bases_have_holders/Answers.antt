use Rattle.overlap_law.proofs.FactsOfRuns.{holders-in_run}
use Rattle.overlap_law.proofs.MakingInRuns.{creates_first-in_run}
use Rattle.overlap_law.proofs.facts.bases_have_holders.Goals as goal

pub returns : goal.returns
returns c = λ script range moves moment is. holders-in_run script range moves moment is (creates_first-in_run script range)
