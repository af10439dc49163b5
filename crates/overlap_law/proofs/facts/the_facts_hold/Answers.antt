use Rattle.overlap_law.proofs.FactsOfRuns.{facts-in_run}
use Rattle.overlap_law.proofs.MakingInRuns.{creates_first-in_run, own_entries-in_run}
use Rattle.overlap_law.proofs.facts.the_facts_hold.Goals as goal

pub returns : goal.returns
returns c = λ script range moves moment is.
    facts-in_run script range moves moment is (creates_first-in_run script range) (own_entries-in_run script range moves moment is _)
