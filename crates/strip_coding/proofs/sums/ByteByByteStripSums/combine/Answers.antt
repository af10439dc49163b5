-- The sum begins with zeros, and each turn adds one strip's multiple.
use Rattle.std.proofs.Common.{◌∙◌, refl, sym, length, []}
use Rattle.strip_coding.proofs.WeightedSums.{weighted_sum-nil, add_strip}
use Rattle.strip_coding.proofs.sums.ByteByByteStripSums.combine.Goals as goal

pub loop-m-init : goal.loop-m-init
loop-m-init c = λ k h. c.fill.ensures.clones k 0 h refl ∙ sym (weighted_sum-nil [])

pub loop-m-preserved : goal.loop-m-preserved
loop-m-preserved c =
    add_strip c.args.coefficients.now c.args.places.now c.args.strips.now c.loop-m.m (length c.args.sum.now)
    (length c.loop-m.sum) c.loop-m.sum c.add_multiple.new.sum
    c.loop-m-test.true c.requires.both (c.loop-m.auto.sum ∙ c.fill.ensures.len)
    c.loop-m.invariant c.add_multiple.ensures
