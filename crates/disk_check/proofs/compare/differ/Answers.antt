use Rattle.std.proofs.Common.{ℕ, ◌+◌, ◌-◌, ◌*◌, ◌^◌, ◌<◌, ◌≤◌, List, length, take, drop, sym, ap, subst, ◌∙◌, arith, rules}
use Rattle.object_id.specs.declared.oid.Kind.TheVariants.{Block}
use Rattle.object_id.specs.Policy.{wanted_of}
use Rattle.gf256.specs.Part.{IsAligned}
use Rattle.disk_check.specs.Value.{pieces_in, is_other_piece, differ}
use Rattle.disk_check.proofs.WorkLemmas.{object_whole, aligned, value-length}
use Rattle.disk_check.proofs.CompareLemmas.{ends_within, all_pieces, found_other, none_found, piece_at_place, length-written}
use Rattle.disk_check.proofs.compare.differ.Goals as goal

pub loop-place-init : goal.loop-place-init
loop-place-init c = record {
  rest = all_pieces c.args.spec c.args.value.now c.args.bytes.now c.part_size-size.result c.requires.spec c.requires.whole c.requires.value c.part_size-size.ensures;
  room = search rules;
}

pub overflow_mul-start : goal.overflow_mul-start
overflow_mul-start c =
    let fits : c.loop-place.place * c.part_size-size.result + c.part_size-size.result < 2 ^ 64 =
    (ends_within c.args.spec c.loop-place.place c.wanted-place-end.result c.part_size-size.result c.args.value.now c.args.bytes.now c.requires.spec
    c.requires.whole c.requires.value c.wanted-place-end.ensures c.part_size-size.ensures c.loop-place-test.true).fits in
    omega (arith, fits)

pub overflow_add-start : goal.overflow_add-start
overflow_add-start c =
    let fits : c.loop-place.place * c.part_size-size.result + c.part_size-size.result < 2 ^ 64 =
    (ends_within c.args.spec c.loop-place.place c.wanted-place-end.result c.part_size-size.result c.args.value.now c.args.bytes.now c.requires.spec
    c.requires.whole c.requires.value c.wanted-place-end.ensures c.part_size-size.ensures c.loop-place-test.true).fits in
    omega (arith, fits)

pub slice_bounds-is_other-end : goal.slice_bounds-is_other-end
slice_bounds-is_other-end c =
    let within : c.loop-place.place * c.part_size-size.result + c.part_size-size.result ≤ length c.args.bytes.now =
    (ends_within c.args.spec c.loop-place.place c.wanted-place-end.result c.part_size-size.result c.args.value.now c.args.bytes.now c.requires.spec
    c.requires.whole c.requires.value c.wanted-place-end.ensures c.part_size-size.ensures c.loop-place-test.true).within in
    search (rules, within)

pub is_other-requires-clause-whole : goal.is_other-requires-clause-whole
is_other-requires-clause-whole c =
    subst (IsAligned c.args.spec.policy Block)
    (sym (ap length c.requires.value ∙ value-length c.args.spec c.args.bytes.now c.requires.spec c.requires.whole))
    (aligned c.args.spec.policy Block _ (object_whole c.args.spec c.requires.spec))

pub returns-then-is_other : goal.returns-then-is_other
returns-then-is_other c =
    let place : ℕ = c.loop-place.place in
    let size : ℕ = c.part_size-size.result in
    let bytes : List ℕ = c.args.bytes.now in
    found_other (is_other_piece c.args.spec.policy c.args.value.now) (λ place. take size (drop (place * size) bytes)) place
    (wanted_of c.args.spec.policy Block) (take (place * size + size - place * size) (drop (place * size) bytes))
    (differ c.args.spec.policy (pieces_in c.args.spec bytes)) (subst (λ n. place < n) c.wanted-place-end.ensures c.loop-place-test.true)
    c.loop-place.invariant.rest (piece_at_place (place * size) size bytes) (sym c.is_other.ensures ∙ c.if-is_other.true)

pub loop-place-preserved : goal.loop-place-preserved
loop-place-preserved c =
    let place : ℕ = c.loop-place.place in
    let size : ℕ = c.part_size-size.result in
    let bytes : List ℕ = c.args.bytes.now in
    let long = ap length c.as_mut_slice.ensures.value ∙ c.loop-place.invariant.room in
    record {
      rest =
          none_found (is_other_piece c.args.spec.policy c.args.value.now) (λ place. take size (drop (place * size) bytes)) place
          (wanted_of c.args.spec.policy Block) (take (place * size + size - place * size) (drop (place * size) bytes))
          (differ c.args.spec.policy (pieces_in c.args.spec bytes)) (subst (λ n. place < n) c.wanted-place-end.ensures c.loop-place-test.true)
          c.loop-place.invariant.rest (piece_at_place (place * size) size bytes) (sym c.is_other.ensures ∙ c.if-is_other.false);
      room =
          length-written c.loop-place.kept.len size c.is_other.new.kept c.loop-place.kept.items (c.is_other.auto.kept ∙ long)
          (sym c.as_mut_slice.ensures.len ∙ long);
    }
