use Rattle.std.proofs.Common.{◌≡◌, ℕ, ◌^◌, ◌<◌, ◌≤◌, List, [], length, min, take, drop, All, ap, ◌∙◌, sym, subst, arith}
use Rattle.std.proofs.lemmas.List.{take_min}
use Rattle.object_id.specs.declared.node.NodeId.{NodeId}
use Rattle.hash_ring.specs.declared.point.Point.{Point}
use Rattle.hash_ring.specs.Points.{IsRing, targets_among}
use Rattle.hash_ring.specs.Walk.{walk, first_nodes, zones_met}
use Rattle.hash_ring.proofs.WalkLaws.{targets_among-walk}
use Rattle.hash_ring.proofs.ZoneLaws.{zones_met-walk}
use Rattle.hash_ring.proofs.ring.Ring.targets.Goals as goal

-- the walk of a ring's points as a slice has them
targets_among-seen : (hash start : ℕ) (seen points ring : List Point) (n : ℕ) → seen ≡ points → points ≡ ring → IsRing points
    → All (λ (p : Point). p.hash < hash) (take start seen) → All (λ (p : Point). hash ≤ p.hash) (drop start seen)
    → All (λ (p : Point). p.hash < 2 ^ 64) seen → hash < 2 ^ 64
    → take n (first_nodes [] (walk start seen)) ≡ targets_among ring hash n
targets_among-seen hash start seen points ring n same view holds before behind fits f =
    let P : List Point → Type 0 = λ list. IsRing list in
    targets_among-walk hash start seen n (subst P (sym same) holds) before behind fits f
    ∙ ap (λ list. targets_among list hash n) (same ∙ view)

-- of as many as there are zones, those wanted are the same
fewer : (n zones start : ℕ) (seen points : List Point) → seen ≡ points → zones ≡ zones_met points
    → take (min n zones) (first_nodes [] (walk start seen)) ≡ take n (first_nodes [] (walk start seen))
fewer n zones start seen points same count =
    let nodes : List NodeId = first_nodes [] (walk start seen) in
    let all : zones ≡ length nodes = count ∙ ap zones_met (sym same) ∙ sym (zones_met-walk start seen) in
    ap (λ k. take (min n k) nodes) all ∙ take_min n nodes

at_most : (n zones most room : ℕ) → most ≡ min n zones → n ≤ room → most ≤ room
at_most n zones most room is fits = omega (arith, is, fits)

pub returns-clause-count : goal.returns-clause-count
returns-clause-count c =
    c.fill.ensures.count
    ∙ ap (λ (nodes : List NodeId). length nodes)
    (ap (λ k. take k (first_nodes [] (walk c.first_from.result c.as_slice-points.result.now))) c.min-most.ensures
    ∙ fewer c.args.n c.self.inside.zones c.first_from.result c.as_slice-points.result.now c.self.inside.points.items
    c.as_slice-points.ensures.value c.self.invariant.1
    ∙ targets_among-seen c.args.hash c.first_from.result c.as_slice-points.result.now c.self.inside.points.items c.args.self.now c.args.n
    c.as_slice-points.ensures.value c.self.view_is c.self.invariant.0 c.first_from.ensures.before c.first_from.ensures.behind
    c.first_from.ensures.fits c.ranges.hash.fits)

pub returns-clause-filled : goal.returns-clause-filled
returns-clause-filled c =
    c.fill.ensures.filled
    ∙ ap (λ k. take k (first_nodes [] (walk c.first_from.result c.as_slice-points.result.now))) c.min-most.ensures
    ∙ fewer c.args.n c.self.inside.zones c.first_from.result c.as_slice-points.result.now c.self.inside.points.items
    c.as_slice-points.ensures.value c.self.invariant.1
    ∙ targets_among-seen c.args.hash c.first_from.result c.as_slice-points.result.now c.self.inside.points.items c.args.self.now c.args.n
    c.as_slice-points.ensures.value c.self.view_is c.self.invariant.0 c.first_from.ensures.before c.first_from.ensures.behind
    c.first_from.ensures.fits c.ranges.hash.fits

pub fill-requires-clause-room : goal.fill-requires-clause-room
fill-requires-clause-room c = at_most c.args.n c.self.inside.zones c.min-most.result (length c.args.out.now) c.min-most.ensures c.requires
