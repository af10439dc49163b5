-- One strip more.
use Rattle.std.proofs.Common.{◌∙◌, ap₂, sym, []}
use Rattle.gf256.specs.Field.{plus}
use Rattle.strip_coding.proofs.WeightedSums.{weighted_sum-nil}
use Rattle.strip_lanes.proofs.SumLemmas.{byte_more}
use Rattle.strip_lanes.proofs.sums.sum_of_bytes.Goals as goal

pub loop-m-init : goal.loop-m-init
loop-m-init c = sym (weighted_sum-nil [])

pub loop-m-preserved : goal.loop-m-preserved
loop-m-preserved c =
    c.add-total.ensures
    ∙ ap₂ plus c.loop-m.invariant c.mul.ensures
    ∙ sym
    (byte_more c.args.coefficients.now c.args.places.now c.args.strips.now c.loop-m.m c.args.width c.args.at
    c.loop-m-test.true c.requires.both)
