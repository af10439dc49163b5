use Rattle.std.proofs.Common.{ap, ◌∙◌}
use Rattle.hash_ring.specs.Walk.{zones_met}
use Rattle.hash_ring.proofs.PlacedLaws.{one_zone-moved, targets_among-moved}
use Rattle.hash_ring.proofs.PointLaws.{sorted_ascends}
use Rattle.hash_ring.proofs.ring.Ring.from_points.Goals as goal

pub returns-clause-placement : goal.returns-clause-placement
returns-clause-placement c =
    targets_among-moved c.args.points.items c.sort_unstable.new.self.items c.requires c.sort_unstable.ensures.permutation

pub invariant_of-result : goal.invariant_of-result
invariant_of-result c =
    let sorted = c.sort_unstable.new.self.items in (
      record {
        ascending = sorted_ascends sorted c.sort_unstable.ensures.sorted;
        one_zone = one_zone-moved c.args.points.items sorted c.requires c.sort_unstable.ensures.permutation;
      },
      c.count_zones-zones.ensures ∙ ap zones_met c.as_slice.ensures.value,
    )
