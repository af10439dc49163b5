use Rattle.std.proofs.Common.{◌≡◌, All, take}
use Rattle.hash_ring.specs.declared.point.Point.{Point}
use Rattle.hash_ring.proofs.point.nodes_have_one_zone.Given as goal

-- the points so far have the zone of every point of their node
abbrev pub invariant-loop-point : goal.invariant-loop-point
invariant-loop-point l =
    All (λ (q : Point). All (λ (p : Point). p.node.0 ≡ q.node.0 → p.zone ≡ q.zone) l.points) (take l.point-index l.points)
