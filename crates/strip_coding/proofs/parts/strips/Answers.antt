-- Block by block the part is written.
use Rattle.std.proofs.Common.{◌≡◌, ℕ, suc, ◌+◌, ◌-◌, ◌*◌, ◌/◌, ◌≤◌, ◌++◌, ◌∙◌, List, length, take, drop, refl, ap, ap₂, sym, arith, add-mul, one-mul, le_refl}
use Rattle.std.proofs.Math.Nat.{zero-mul}
use Rattle.std.proofs.lemmas.Nat.{row_fits}
use borrow.Rule.Slice.PartMut.{put_mid}
use Rattle.gf256.specs.Strip.{strip}
use Rattle.gf256.specs.Part.{strips_of_blocks}
use Rattle.gf256.proofs.Widths.{divides}
use Rattle.gf256.proofs.PartLaws.{part_of_blocks}
use Rattle.strip_coding.proofs.DecodeLaws.{mid_width, length-put_mid}
use Rattle.strip_coding.proofs.BlockByBlock.{take-put_mid, strips_of_blocks-more}
use Rattle.strip_coding.proofs.parts.strips.Goals as goal

pub loop-k-init : goal.loop-k-init
unfolding strips_of_blocks
loop-k-init g c = record { room = refl; so_far = ap (λ n. take n c.args.out.now) (zero-mul (512 / c.args.d)) }

pub loop-k-preserved : goal.loop-k-preserved
loop-k-preserved g c =
    let w : ℕ = 512 / c.args.d in
    let from : ℕ = c.loop-k.k * w in
    let blocks : ℕ = length c.args.bytes.now / 512 in
    let size : length c.args.out.now ≡ blocks * w =
    c.requires.room ∙ part_of_blocks c.args.d (length c.args.bytes.now) (divides c.args.d c.requires.width) c.requires.whole in
    let fits : from + w ≤ blocks * w = row_fits c.loop-k.k w blocks w c.loop-k-test.true (le_refl w) in
    let room : from + w ≤ length c.loop-k.out = omega (arith, fits, size, c.loop-k.invariant.room) in
    let wide : length c.strip.new.out ≡ w = c.strip.auto.out ∙ mid_width from w c.loop-k.out room in
    let block : c.loop-k.k * 512 + 512 - c.loop-k.k * 512 ≡ 512 = omega arith in
    let end : (c.loop-k.k + 1) * w ≡ from + w = add-mul c.loop-k.k 1 w ∙ ap (λ n. from + n) (one-mul w) in
    let next : suc c.loop-k.k ≡ c.loop-k.k + 1 = omega arith in
    let out : List ℕ = put_mid from (from + w - from) c.loop-k.out c.strip.new.out in
    record {
      room = length-put_mid from w c.loop-k.out c.strip.new.out room wide ∙ c.loop-k.invariant.room;
      so_far =
          ap (λ until. take until out) end
          ∙ take-put_mid from w c.loop-k.out c.strip.new.out room wide
          ∙ ap₂ ◌++◌ c.loop-k.invariant.so_far
          (c.strip.ensures ∙ ap (λ n. strip c.args.d (take n (drop (c.loop-k.k * 512) c.args.bytes.now)) c.args.index) block)
          ∙ sym (strips_of_blocks-more c.args.d c.args.index c.loop-k.k c.args.bytes.now)
          ∙ ap (λ k. strips_of_blocks c.args.d c.args.index k c.args.bytes.now) next;
    }
