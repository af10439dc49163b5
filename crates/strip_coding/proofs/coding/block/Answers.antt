-- Data strip by data strip the block is written.
use Rattle.std.proofs.Common.{◌≡◌, ℕ, ◌+◌, ◌-◌, ◌*◌, ◌/◌, ◌<◌, ◌≤◌, ◌∙◌, List, sym, subst, arith, length}
use Rattle.std.proofs.Math.Nat.{zero-mul}
use Rattle.std.specs.List.{All}
use borrow.Rule.Slice.PartMut.{mid_of}
use Rattle.strip_coding.proofs.DecodeLaws.{value_at, part_fits, mid_width, next_strip, length-put_mid, restored_at, written}
use Rattle.strip_coding.proofs.coding.block.Goals as goal

pub restore-requires-clause-within : goal.restore-requires-clause-within
restore-requires-clause-within g c =
    let w : ℕ = 512 / c.args.d in
    let from : ℕ = c.loop-k.k * w in
    let fits : from + w ≤ 512 = part_fits c.args.d c.loop-k.k c.requires.width c.loop-k-test.true in
    let wide : length (mid_of from (from + w - from) c.loop-k.out) ≡ w =
    mid_width from w c.loop-k.out (omega (arith, c.loop-k.invariant.whole)) in
    subst (λ long. All (λ place. (place + 1) * long ≤ length c.args.strips.now) c.args.places.now) (sym wide) c.requires.within

pub loop-k-init : goal.loop-k-init
loop-k-init g c =
    record { whole = c.requires.room; each = λ at l. absurd (omega (arith, zero-mul (512 / c.args.d))) }

pub loop-k-preserved : goal.loop-k-preserved
loop-k-preserved g c =
    let w : ℕ = 512 / c.args.d in
    let from : ℕ = c.loop-k.k * w in
    let points : List ℕ = c.args.points.now in
    let places : List ℕ = c.args.places.now in
    let wide : ℕ = length (mid_of from (from + w - from) c.loop-k.out) in
    let fits : from + w ≤ 512 = part_fits c.args.d c.loop-k.k c.requires.width c.loop-k-test.true in
    let room : from + w ≤ length c.loop-k.out = omega (arith, c.loop-k.invariant.whole) in
    let same : wide ≡ w = mid_width from w c.loop-k.out room in
    record {
      whole = length-put_mid from w c.loop-k.out c.restore.new.out room (c.restore.auto.out ∙ same) ∙ c.loop-k.invariant.whole;
      each =
          next_strip c.loop-k.k w wide c.loop-k.out c.restore.new.out (value_at w points places c.args.strips.now)
          room c.restore.auto.out same c.loop-k.invariant.each
          (λ j l.
          c.restore.ensures j l
          ∙ restored_at c.loop-k.k j w wide points places c.args.strips.now same l);
    }

pub returns : goal.returns
returns g c =
    let end : c.args.d ≡ c.loop-k.k = omega arith in
    written c.args.d c.args.points.now c.args.places.now c.args.strips.now c.loop-k.out c.requires.width c.loop-k.invariant.whole
    (λ at l. c.loop-k.invariant.each at (subst (λ k. at < k * (512 / c.args.d)) end l))
