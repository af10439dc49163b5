use Rattle.std.proofs.Common.{◌≡◌, take, flat_map}
use Rattle.hash_ring.specs.Points.{points_of_member}
use Rattle.hash_ring.proofs.ring.Ring.build.Given as goal

abbrev pub invariant-loop-member : goal.invariant-loop-member
invariant-loop-member l = l.points.items ≡ flat_map points_of_member (take l.member-index l.members)
