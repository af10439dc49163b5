use Rattle.overlap_law.proofs.FactsOfRuns.{lists-in_run}
use Rattle.overlap_law.proofs.MakingInRuns.{creates_first-in_run}
use Rattle.overlap_law.proofs.facts.lists_have_all_bases.Goals as goal

pub returns : goal.returns
returns c = λ script range moves moment is. lists-in_run script range moves moment is (creates_first-in_run script range)
