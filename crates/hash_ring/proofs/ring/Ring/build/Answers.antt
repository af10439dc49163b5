use Rattle.std.proofs.Common.{List, IsPermutation, ap, ◌∙◌, subst, sym}
use Rattle.std.proofs.lemmas.List.{take_all}
use Rattle.std.proofs.lemmas.List.Sorted.{IsPermutation-refl}
use Rattle.hash_ring.specs.declared.point.Point.{Point}
use Rattle.hash_ring.specs.Points.{points_of}
use Rattle.hash_ring.proofs.PlacedLaws.{points_of_one_zone, targets_among-points_of}
use Rattle.hash_ring.proofs.ring.Ring.build.Goals as goal

pub from_points-requires : goal.from_points-requires
from_points-requires c =
    let members = c.args.members.now in
    let P : List Point → Type 0 = λ points. IsPermutation (points_of members) points in
    let all = c.loop-member.invariant ∙ ap points_of (take_all c.loop-member.member-index members c.loop-member-test.false) in
    points_of_one_zone members c.loop-member.points.items c.requires (subst P (sym all) (IsPermutation-refl (points_of members)))

pub returns-clause-placement : goal.returns-clause-placement
returns-clause-placement c = λ object wanted.
    let members = c.args.members.now in
    let P : List Point → Type 0 = λ points. IsPermutation points c.from_points.result in
    let all = c.loop-member.invariant ∙ ap points_of (take_all c.loop-member.member-index members c.loop-member-test.false) in
    targets_among-points_of members c.from_points.result object wanted c.requires (subst P all c.from_points.ensures.points)
