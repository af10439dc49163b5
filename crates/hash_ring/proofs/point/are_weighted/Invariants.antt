use Rattle.std.proofs.Common.{take}
use Rattle.hash_ring.specs.Placement.{AreWeighted}
use Rattle.hash_ring.proofs.point.are_weighted.Given as goal

abbrev pub invariant-loop-k : goal.invariant-loop-k
invariant-loop-k l = AreWeighted (take l.k l.members)
