-- Each other point's factor is multiplied in, as an exponent, and its own is left out.
use Rattle.std.proofs.Common.{ℕ, ◌-◌, ◌<◌, ◌≤◌, ◌+◌, ◌*◌, ◌∙◌, sym, ap, arith, get_or}
use Rattle.gf256.specs.Field.{power}
use Rattle.gf256.proofs.Logarithms.{power-zero, power_byte}
use Rattle.strip_coding.proofs.InterpolateLaws.{whole, whole_first, whole_last, whole_own, whole_other, differ, one_factor}
use Rattle.strip_coding.proofs.interpolate.coefficient.Goals as goal
use Rattle.strip_coding.proofs.interpolate.coefficient.Goals.{then-other-point, else-other-point}

more : (exponent at k l : ℕ) → exponent ≤ 510 * at → k < 255 → exponent + (k + 255 - l) ≤ 510 * (at + 1)
more exponent at k l few high = omega arith

one_more : (exponent at : ℕ) → exponent ≤ 510 * at → exponent ≤ 510 * (at + 1)
one_more exponent at few = omega arith

pub loop-other-init : goal.loop-other-init
loop-other-init c = record {
  few = omega arith;
  value =
      ap (λ product. whole product c.args.points.now 0 c.args.point c.args.x) power-zero
      ∙ whole_first c.args.points.now c.args.point c.args.x;
}

pub loop-other-preserved : goal.loop-other-preserved
loop-other-preserved c =
    elim c.if-other-point.branch [
      | then-other-point w ↦
          let few = c.loop-other.invariant.few in
          let high = w.logarithm.ensures.below in
          let low = w.logarithm-then-other-point.ensures.below in
          record {
            few = rw w.exponent-is (more c.loop-other.exponent c.loop-other.other-index w.logarithm.result w.logarithm-then-other-point.result few high);
            value =
                ap (λ exponent. whole (power exponent) c.args.points.now (c.loop-other.other-index + 1) c.args.point c.args.x) w.exponent-is
                ∙ ap (λ product. whole product c.args.points.now (c.loop-other.other-index + 1) c.args.point c.args.x)
                (one_factor c.loop-other.exponent c.args.point c.args.x (get_or c.args.points.now c.loop-other.other-index 0)
                w.logarithm.result w.logarithm-then-other-point.result c.ranges.point.fits c.ranges.x.fits
                (let fits = c.type_inv.points c.loop-other.other-index in omega arith) w.if-other-point.true
                (w.logarithm.ensures.power ∙ w.add.ensures)
                (w.logarithm-then-other-point.ensures.power ∙ w.add-then-other-point.ensures) low)
                ∙ whole_other (power c.loop-other.exponent) c.args.points.now c.loop-other.other-index c.args.point c.args.x
                c.loop-other-test.true w.if-other-point.true
                ∙ c.loop-other.invariant.value;
          }
      | else-other-point w ↦
          record {
            few = rw w.exponent-is (one_more c.loop-other.exponent c.loop-other.other-index c.loop-other.invariant.few);
            value =
                ap (λ exponent. whole (power exponent) c.args.points.now (c.loop-other.other-index + 1) c.args.point c.args.x) w.exponent-is
                ∙ whole_own (power c.loop-other.exponent) c.args.points.now c.loop-other.other-index c.args.point c.args.x
                c.loop-other-test.true w.if-other-point.false
                ∙ c.loop-other.invariant.value;
          }
    ]

pub logarithm-requires : goal.logarithm-requires
logarithm-requires c =
    λ z.
    differ c.args.x (get_or c.args.points.now c.loop-other.other-index 0)
    (c.requires.apart c.loop-other.other-index 0 c.loop-other-test.true) (sym c.add.ensures ∙ z)

pub logarithm-requires-then-other-point : goal.logarithm-requires-then-other-point
logarithm-requires-then-other-point c =
    λ z.
    differ c.args.point (get_or c.args.points.now c.loop-other.other-index 0) c.if-other-point.true
    (sym c.add-then-other-point.ensures ∙ z)

pub returns : goal.returns
returns c =
    c.power.ensures
    ∙ sym
    (whole_last (power c.loop-other.exponent) c.args.points.now c.loop-other.other-index c.args.point c.args.x
    (power_byte c.loop-other.exponent) c.loop-other-test.false)
    ∙ c.loop-other.invariant.value
