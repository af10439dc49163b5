use Rattle.std.proofs.Common.{List, All, refl, sym, ◌∙◌, subst, true≢false}
use Rattle.std.proofs.lemmas.List.{take_all}
use Rattle.std.proofs.lemmas.List.Elements.{All-more, Contains-get_or}
use Rattle.hash_ring.specs.declared.point.Point.{Point}
use Rattle.hash_ring.proofs.PointLaws.{HasOneZone, one_zone_from_all, all_from_one_zone}
use Rattle.hash_ring.proofs.point.nodes_have_one_zone.Goals as goal

pub returns-then-not-has_one_zone : goal.returns-then-not-has_one_zone
returns-then-not-has_one_zone c = (
  λ t. absurd (true≢false (sym t)),
  λ one. sym c.if-not-has_one_zone.true
      ∙ c.has_one_zone.ensures.1 (all_from_one_zone c.args.points.now one _ (Contains-get_or c.args.points.now c.loop-point.point-index _ c.loop-point-test.true)),
)

pub loop-point-preserved : goal.loop-point-preserved
loop-point-preserved c =
    All-more (HasOneZone c.args.points.now) c.args.points.now c.loop-point.point-index _ c.loop-point-test.true c.loop-point.invariant
    (c.has_one_zone.ensures.0 c.if-not-has_one_zone.false)

pub returns : goal.returns
returns c =
    let P : List Point → Type 0 = λ points. All (HasOneZone c.args.points.now) points in (
      λ t. one_zone_from_all c.args.points.now
          (subst P (take_all c.loop-point.point-index c.args.points.now c.loop-point-test.false) c.loop-point.invariant),
      λ one. refl,
    )
