use Rattle.overlap_law.proofs.FactsOfRuns.{contents-in_run}
use Rattle.overlap_law.proofs.MakingInRuns.{creates_first-in_run}
use Rattle.overlap_law.proofs.facts.rows_have_their_bases.Goals as goal

pub returns : goal.returns
returns c = λ script range moves moment is. contents-in_run script range moves moment is (creates_first-in_run script range)
