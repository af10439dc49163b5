use Rattle.std.proofs.Common.{◌≡◌, ℕ, ◌++◌, map}
use Rattle.std.specs.List.{range_with_len}
use Rattle.hash_ring.specs.declared.point.Point.{Point}
use Rattle.hash_ring.specs.Circle.{hash_of_virtual}
use Rattle.hash_ring.proofs.point.add_points.Given as goal

abbrev pub invariant-loop-number : goal.invariant-loop-number
invariant-loop-number l =
    l.points.items
    ≡ l.fn.points.items
    ++ map (λ (hash : ℕ). let p : Point = record { hash = hash; node = l.member.node; zone = l.member.zone } in p)
    (map (hash_of_virtual l.member.node.0) (range_with_len 0 l.number))
