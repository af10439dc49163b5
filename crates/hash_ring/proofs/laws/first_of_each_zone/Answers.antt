use Rattle.hash_ring.proofs.TargetLaws.{kept_exactly, kept_in_order, kept_zones}
use Rattle.hash_ring.proofs.laws.first_of_each_zone.Goals as goal

pub returns-clause-kept : goal.returns-clause-kept
returns-clause-kept c = kept_exactly

pub returns-clause-ascends : goal.returns-clause-ascends
returns-clause-ascends c = kept_in_order

pub returns-clause-zones : goal.returns-clause-zones
returns-clause-zones c = kept_zones
