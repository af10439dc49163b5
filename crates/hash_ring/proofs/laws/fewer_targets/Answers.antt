use Rattle.hash_ring.proofs.TargetLaws.{length-targets_of, targets_of-prefix, targets_among-prefix}
use Rattle.hash_ring.proofs.laws.fewer_targets.Goals as goal

pub returns-clause-count : goal.returns-clause-count
returns-clause-count c = length-targets_of

pub returns-clause-prefix : goal.returns-clause-prefix
returns-clause-prefix c = targets_of-prefix

pub returns-clause-prefix_of_ring : goal.returns-clause-prefix_of_ring
returns-clause-prefix_of_ring c = targets_among-prefix
