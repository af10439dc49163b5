use Rattle.object_id.proofs.PieceLemmas.{laid_over-disjoint}
use Rattle.object_id.proofs.laws.laid_over_laws.Goals as goal

pub returns-clause-disjoint : goal.returns-clause-disjoint
returns-clause-disjoint c = laid_over-disjoint
