use Rattle.overlap_law.proofs.FactsOfRuns.{gateways-in_run}
use Rattle.overlap_law.proofs.facts.lost_gateways_are_fenced.Goals as goal

pub returns : goal.returns
returns c = λ script range moves moment is. gateways-in_run script range moves moment is
