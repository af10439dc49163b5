-- The total begins with zeros, and each turn adds the multiples of one strip's bytes.
use Rattle.std.proofs.Common.{◌+◌, ◌∙◌, refl, sym, ap₂, [], take_all, arith}
use Rattle.std.proofs.lemmas.Simd.{get_or-replicate}
use Rattle.strip_coding.specs.Sums.{sum_at}
use Rattle.strip_coding.proofs.WeightedSums.{weighted_sum-nil}
use Rattle.strip_lanes.proofs.LaneLemmas.{HasLanes-same}
use Rattle.strip_lanes.proofs.SumLemmas.{lanes_more}
use Rattle.strip_lanes.proofs.sums.sum_of_lanes.Goals as goal

pub loop-m-init : goal.loop-m-init
loop-m-init c = record { long = refl; each = λ k l. get_or-replicate 32 k 0 0 l ∙ sym (weighted_sum-nil []) }

pub loop-m-preserved : goal.loop-m-preserved
loop-m-preserved c =
    lanes_more c.args.coefficients.now c.args.places.now c.args.strips.now c.loop-m.m c.args.width c.args.at
    c.loop-m.total c.lanes_at-bytes.result c.products-total.result
    c.loop-m-test.true c.requires.both c.loop-m.invariant c.lanes_at-bytes.ensures c.products-total.ensures

pub returns : goal.returns
returns c =
    HasLanes-same _ _ _ c.loop-m.invariant
    (λ k l.
    ap₂ (λ cs places. sum_at cs places c.args.strips.now c.args.width (c.args.at + k))
    (take_all c.loop-m.m c.args.coefficients.now c.loop-m-test.false)
    (take_all c.loop-m.m c.args.places.now (omega (arith, c.loop-m-test.false, c.requires.both))))
