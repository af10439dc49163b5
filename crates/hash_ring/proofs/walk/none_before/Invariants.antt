use Rattle.std.proofs.Common.{◌≡◌, false, map, take}
use Rattle.hash_ring.specs.declared.point.Point.{Point}
use Rattle.hash_ring.specs.Placement.{is_among}
use Rattle.hash_ring.specs.Walk.{walk}
use Rattle.hash_ring.proofs.walk.none_before.Given as goal

abbrev pub invariant-loop-earlier : goal.invariant-loop-earlier
invariant-loop-earlier l = is_among l.zone (map (λ (p : Point). p.zone) (take l.earlier (walk l.start l.points))) ≡ false
