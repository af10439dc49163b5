-- Block by block the bytes are written, each through its strips.
use Rattle.std.proofs.Common.{◌≡◌, ℕ, suc, ◌+◌, ◌-◌, ◌*◌, ◌/◌, ◌≤◌, ◌++◌, ◌∙◌, List, length, map, take, drop, refl, ap, ap₂, sym, subst, arith}
use Rattle.std.specs.List.{All, range_with_len}
use borrow.Rule.Slice.PartMut.{put_mid}
use Rattle.gf256.specs.Strip.{block_through}
use Rattle.strip_coding.specs.Choice.{strip_at}
use Rattle.gf256.specs.Part.{blocks_through, parts_in}
use Rattle.gf256.proofs.Widths.{divides}
use Rattle.gf256.proofs.PartLaws.{part_of_blocks}
use Rattle.strip_coding.proofs.DecodeLaws.{mid_width, length-put_mid}
use Rattle.strip_coding.proofs.BlockByBlock.{take-put_mid, blocks_through-more, strips_of_parts, places_within}
use Rattle.strip_coding.proofs.parts.blocks.Goals as goal

pub loop-k-init : goal.loop-k-init
unfolding blocks_through
loop-k-init g c = record { room = refl; so_far = refl }

pub block-requires-clause-within : goal.block-requires-clause-within
block-requires-clause-within g c =
    let w : ℕ = 512 / c.args.d in
    let n : ℕ = length c.args.out.now in
    let whole : length c.args.parts.now ≡ c.args.d * (n / 512 * w) =
    c.requires.parts ∙ ap (λ size. c.args.d * size) (part_of_blocks c.args.d n (divides c.args.d c.requires.width) c.requires.whole) in
    subst (λ places. All (λ place. (place + 1) * w ≤ length c.args.parts.now) places) (sym c.places_of-places.ensures)
    (places_within c.args.d (n / 512) c.loop-k.k w (length c.args.parts.now) c.loop-k-test.true whole)

pub loop-k-preserved : goal.loop-k-preserved
loop-k-preserved g c =
    let d : ℕ = c.args.d in
    let w : ℕ = 512 / d in
    let n : ℕ = length c.args.out.now in
    let from : ℕ = c.loop-k.k * 512 in
    let parts : List ℕ = c.args.parts.now in
    let points : List ℕ = c.args.indexes.now in
    let size : n / d ≡ n / 512 * w = part_of_blocks d n (divides d c.requires.width) c.requires.whole in
    let room : from + 512 ≤ length c.loop-k.out = omega (arith, c.loop-k-test.true, c.loop-k.invariant.room) in
    let long : length c.block.new.out ≡ 512 = c.block.auto.out ∙ mid_width from 512 c.loop-k.out room in
    let out : List ℕ = put_mid from (from + 512 - from) c.loop-k.out c.block.new.out in
    let end : (c.loop-k.k + 1) * 512 ≡ c.loop-k.k * 512 + 512 = omega arith in
    let given = ap (map (strip_at d parts)) c.places_of-places.ensures
    ∙ strips_of_parts d (n / 512) c.loop-k.k parts (range_with_len 0 d) c.loop-k-test.true
    ∙ ap (λ long. map (take w) (map (drop (c.loop-k.k * w)) (parts_in long d parts))) (sym size) in
    let next : suc c.loop-k.k ≡ c.loop-k.k + 1 = omega arith in
    record {
      room = length-put_mid from 512 c.loop-k.out c.block.new.out room long ∙ c.loop-k.invariant.room;
      so_far =
          ap (λ until. take until out) end
          ∙ take-put_mid from 512 c.loop-k.out c.block.new.out room long
          ∙ ap₂ ◌++◌ c.loop-k.invariant.so_far (c.block.ensures ∙ ap (block_through d points) given)
          ∙ sym (blocks_through-more d points c.loop-k.k (parts_in (n / d) d parts))
          ∙ ap (λ k. blocks_through d points k (parts_in (n / d) d parts)) next;
    }
