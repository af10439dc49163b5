use Rattle.hash_ring.proofs.TargetLaws.{targets_are_members, targets_different, targets_zones}
use Rattle.hash_ring.proofs.laws.targets_stand_apart.Goals as goal

pub returns-clause-members : goal.returns-clause-members
returns-clause-members c = targets_are_members

pub returns-clause-different : goal.returns-clause-different
returns-clause-different c = targets_different

pub returns-clause-zones : goal.returns-clause-zones
returns-clause-zones c = targets_zones
