use Rattle.overlap_law.proofs.FactsOfRuns.{facts-by_overlap}
use Rattle.overlap_law.proofs.facts.the_overlap_gives_the_facts.Goals as goal

pub returns : goal.returns
returns c = facts-by_overlap
