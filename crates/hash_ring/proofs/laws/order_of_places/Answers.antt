use Rattle.hash_ring.proofs.TargetLaws.{in_order_same, in_order_ascends}
use Rattle.hash_ring.proofs.laws.order_of_places.Goals as goal

pub returns-clause-same : goal.returns-clause-same
returns-clause-same c = in_order_same

pub returns-clause-ascends : goal.returns-clause-ascends
returns-clause-ascends c = in_order_ascends
