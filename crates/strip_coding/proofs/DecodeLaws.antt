-- Decoding: the data strips one after another, and that they are the one block that has the chosen strips.
use Rattle.std.proofs.Common.{◌≡◌, ℕ, suc, ◌+◌, ◌-◌, ◌*◌, ◌/◌, ◌%◌, ◌^◌, ◌<◌, ◌≤◌, List, [], ◌∷◌, ◌++◌, length, get_or, map, take, drop, refl, sym, ap, ap₂, ◌∙◌, subst, arith, inl, inr, IsTrue, add-mul, one-mul, le_refl, length-append, true, false, true≢false}
use Rattle.std.specs.Prelude.{slice_index}
use Rattle.std.specs.List.{All}
use Rattle.std.proofs.lemmas.Bool.{cases_lt}
use Rattle.std.proofs.lemmas.List.{length-map, length-take-le, length-drop, ext_get_or, get_or-map, get_or-take, get_or-drop, get_or_append_left, get_or-append_right}
use Rattle.std.proofs.lemmas.List.Elements.{All-map, All-take, All-drop}
use Rattle.std.proofs.lemmas.Nat.{row_fits, div-mul-add, mod-mul-add, mod_below}
use borrow.Rule.Slice.PartMut.{put_mid, mid_of, post_of}
use Rattle.object_id.specs.Policy.{is_width}
use Rattle.object_id.specs.Fields.{AreBytes}
use Rattle.gf256.specs.Strip.{lagrange, strip, row, block_through, IsBlock, AreStrips}
use Rattle.gf256.proofs.StripLaws.{strip_some, length-block_through, block_place, strip-block_through, block_through-strips}
use Rattle.gf256.proofs.Points.{bytes_of_all, all_of_bytes}
use Rattle.strip_coding.specs.Choice.{strip_at, distinct_places, chosen_places, HasStrips}
use Rattle.gf256.proofs.Widths.{divides}
use Rattle.strip_coding.proofs.ChosenLaws.{chosen_points, chosen_within}

-- a strip at a place of the indexes lies within the strips

pub within_strips : (place count width long : ℕ) → place < count → long ≡ count * width → (place + 1) * width ≤ long
within_strips place count width long h e =
    let fits : place * width + width ≤ count * width = row_fits place width count width h (le_refl width) in
    let product : (place + 1) * width ≡ place * width + width =
    add-mul place 1 width ∙ ap (λ n. place * width + n) (one-mul width) in
    omega arith

pub chosen_fit : (d : ℕ) (indexes : List ℕ) (width wide long : ℕ) → wide ≡ width → long ≡ length indexes * width
    → All (λ place. (place + 1) * wide ≤ long) (chosen_places d indexes)
chosen_fit d indexes width wide long e whole =
    subst (λ w. All (λ place. (place + 1) * w ≤ long) (chosen_places d indexes)) (sym e)
    (λ k x l. within_strips (get_or (chosen_places d indexes) k x) (length indexes) width long (chosen_within d indexes k x l) whole)

-- the part of the block that a data strip is

pub part_fits : (d k : ℕ) → IsTrue (is_width d) → k < d → k * (512 / d) + 512 / d ≤ 512
part_fits d k is h =
    let full : d * (512 / d) ≡ 512 = (divides d is).whole in
    let fits : k * (512 / d) + 512 / d ≤ d * (512 / d) = row_fits k (512 / d) d (512 / d) h (le_refl (512 / d)) in
    omega arith

pub mid_width : (from width : ℕ) (out : List ℕ) → from + width ≤ length out
    → length (mid_of from (from + width - from) out) ≡ width
mid_width from width out h =
    let left : length (drop from out) ≡ length out - from = length-drop from out in
    length-take-le (from + width - from) (drop from out) (omega arith) ∙ (let e : from + width - from ≡ width = omega arith in e)

-- once a data strip is written, its places are right beside those before
pub next_strip : (k width wide : ℕ) (out strip : List ℕ) (f : ℕ → ℕ) → k * width + width ≤ length out
    → length strip ≡ wide → wide ≡ width
    → ((at : ℕ) → at < k * width → get_or out at 0 ≡ f at)
    → ((j : ℕ) → j < wide → get_or strip j 0 ≡ f (k * width + j))
    → (at : ℕ) → at < (k + 1) * width
    → get_or (put_mid (k * width) (k * width + width - k * width) out strip) at 0 ≡ f at
next_strip k width wide out strip f room long same before now at below =
    let front : length (take (k * width) out) ≡ k * width = length-take-le (k * width) out (omega arith) in
    let end : (k + 1) * width ≡ k * width + width = add-mul k 1 width ∙ ap (λ n. k * width + n) (one-mul width) in
    let rest : List ℕ = post_of (k * width) (k * width + width - k * width) out in
    elim (cases_lt at (k * width)) [
      | inl l ↦
          get_or_append_left (take (k * width) out) (strip ++ rest) 0 at (omega arith)
          ∙ get_or-take (k * width) out at 0 l
          ∙ before at l
      | inr g ↦
          let inside : at - k * width < length strip = omega arith in
          let place : k * width + (at - k * width) ≡ at = omega arith in
          get_or-append_right (take (k * width) out) (strip ++ rest) (k * width) at 0 front g
          ∙ get_or_append_left strip rest 0 (at - k * width) inside
          ∙ now (at - k * width) (omega arith)
          ∙ ap f place
    ]

pub length-put_mid : (from width : ℕ) (out strip : List ℕ) → from + width ≤ length out → length strip ≡ width
    → length (put_mid from (from + width - from) out strip) ≡ length out
length-put_mid from width out strip room e =
    let rest : List ℕ = post_of from (from + width - from) out in
    let left : length rest ≡ length out - from - (from + width - from) =
    length-drop (from + width - from) (drop from out) ∙ ap (λ n. n - (from + width - from)) (length-drop from out) in
    let front : length (take from out) ≡ from = length-take-le from out (omega arith) in
    length-append (take from out) (strip ++ rest)
    ∙ ap₂ ◌+◌ front (length-append strip rest ∙ ap₂ ◌+◌ e left)
    ∙ (let whole : from + (width + (length out - from - (from + width - from))) ≡ length out = omega arith in whole)

-- what the place of a byte says
pub value_at : ℕ → List ℕ → List ℕ → List ℕ → ℕ → ℕ
value_at width points places strips at =
    lagrange points (map (λ place. get_or strips (place * width + at % width) 0) places) (at / width)

-- a restored strip's byte, as the value at its place in the block
pub restored_at : (k j width wide : ℕ) (points places strips : List ℕ) → wide ≡ width → j < wide
    → lagrange points (map (λ place. get_or strips (place * wide + j) 0) places) k
    ≡ value_at width points places strips (k * width + j)
unfolding value_at
restored_at k j width wide points places strips e h =
    ap (λ w. lagrange points (map (λ place. get_or strips (place * w + j) 0) places) k) e
    ∙ sym
    (ap₂ (λ q m. lagrange points (map (λ place. get_or strips (place * width + m) 0) places) q)
    (div-mul-add k width j (omega arith)) (mod-mul-add k width j (omega arith)))

-- an answer that is not refused has enough indexes
pub enough_from : (n d : ℕ) → (n < d → false ≡ true) → d ≤ n
enough_from n d h =
    elim (cases_lt n d) [ inl l ↦ absurd (true≢false (sym (h l))) | inr g ↦ g ]

-- the strips at the chosen places

strip_place_at : (d : ℕ) (strips : List ℕ) (place j : ℕ) → j < 512 / d
    → get_or (strip_at d strips place) j 0 ≡ get_or strips (place * (512 / d) + j) 0
strip_place_at d strips place j h =
    get_or-take (512 / d) (drop (place * (512 / d)) strips) j 0 h ∙ get_or-drop (place * (512 / d)) strips j 0

length-strip_at : (d : ℕ) (strips : List ℕ) (place : ℕ) → (place + 1) * (512 / d) ≤ length strips
    → length (strip_at d strips place) ≡ 512 / d
length-strip_at d strips place h =
    let w : ℕ = 512 / d in
    let product : (place + 1) * w ≡ place * w + w = add-mul place 1 w ∙ ap (λ n. place * w + n) (one-mul w) in
    let left : length (drop (place * w) strips) ≡ length strips - place * w = length-drop (place * w) strips in
    length-take-le w (drop (place * w) strips) (omega arith)

are_strips : (d : ℕ) (indexes strips : List ℕ) → AreBytes strips → length strips ≡ length indexes * (512 / d)
    → AreStrips (512 / d) (map (strip_at d strips) (chosen_places d indexes))
are_strips d indexes strips bytes whole =
    All-map (λ s. AreBytes s × (length s ≡ 512 / d)) (strip_at d strips) (chosen_places d indexes)
    (λ k x l.
    let place : ℕ = get_or (chosen_places d indexes) k x in (
      bytes_of_all (strip_at d strips place)
          (All-take (λ b. b < 2 ^ 8) (512 / d) (drop (place * (512 / d)) strips)
          (All-drop (λ b. b < 2 ^ 8) (place * (512 / d)) strips (all_of_bytes strips bytes))),
      length-strip_at d strips place
          (within_strips place (length indexes) (512 / d) (length strips) (chosen_within d indexes k x l) whole),
    ))

row_at : (d : ℕ) (strips places : List ℕ) (j : ℕ) → j < 512 / d
    → row j (map (strip_at d strips) places) ≡ map (λ place. get_or strips (place * (512 / d) + j) 0) places
row_at d strips [] j h = refl
row_at d strips (p ∷ places) j h = ap₂ ◌∷◌ (strip_place_at d strips p j h) (row_at d strips places j h)

-- the block whose places are all written
pub written : (d : ℕ) (points places strips out : List ℕ) → IsTrue (is_width d) → length out ≡ 512
    → ((at : ℕ) → at < d * (512 / d) → get_or out at 0 ≡ value_at (512 / d) points places strips at)
    → out ≡ block_through d points (map (strip_at d strips) places)
unfolding value_at
written d points places strips out is whole each =
    let w : ℕ = 512 / d in
    let full : d * w ≡ 512 = (divides d is).whole in
    let some : 0 < w = strip_some d (divides d is) in
    ext_get_or 0 out (block_through d points (map (strip_at d strips) places))
    (whole ∙ sym (length-block_through d points (map (strip_at d strips) places)))
    (λ at l.
    let h : at < 512 = omega arith in
    each at (omega arith)
    ∙ ap (λ values. lagrange points values (at / w)) (sym (row_at d strips places (at % w) (mod_below at w some)))
    ∙ sym (block_place d points (map (strip_at d strips) places) at h))

-- it has the chosen strips
pub has_strips : (d : ℕ) (indexes strips : List ℕ) → IsTrue (is_width d) → AreBytes strips
    → All (λ index. index < 31) indexes → length strips ≡ length indexes * (512 / d)
    → d ≤ length (distinct_places indexes)
    → HasStrips d indexes strips
    (block_through d (map (slice_index indexes) (chosen_places d indexes)) (map (strip_at d strips) (chosen_places d indexes)))
has_strips d indexes strips is bytes below whole enough =
    let chosen : List ℕ = chosen_places d indexes in
    let points : List ℕ = map (slice_index indexes) chosen in
    let given : List (List ℕ) = map (strip_at d strips) chosen in
    let count : length chosen ≡ d = length-take-le d (distinct_places indexes) enough in
    λ k x l.
    ap (strip d (block_through d points given)) (sym (get_or-map (slice_index indexes) chosen k x 0 l))
    ∙ strip-block_through d points given k (divides d is) (chosen_points d indexes below)
    (length-map chosen (slice_index indexes) ∙ count) (length-map chosen (strip_at d strips) ∙ count)
    (are_strips d indexes strips bytes whole) (subst (λ n. k < n) count l)
    ∙ get_or-map (strip_at d strips) chosen k x [] l

same_strips : (f g : ℕ → List ℕ) (h : ℕ → ℕ) (xs : List ℕ) → All (λ x. f (h x) ≡ g x) xs → map f (map h xs) ≡ map g xs
same_strips f g h [] e = refl
same_strips f g h (x ∷ xs) e =
    ap₂ ◌∷◌ (e 0 0 (omega arith)) (same_strips f g h xs (λ k d l. e (suc k) d (omega arith)))

-- and it is the only one
pub only_block : (d : ℕ) (indexes strips block : List ℕ) → IsTrue (is_width d)
    → All (λ index. index < 31) indexes → d ≤ length (distinct_places indexes)
    → IsBlock block → HasStrips d indexes strips block
    → block
    ≡ block_through d (map (slice_index indexes) (chosen_places d indexes)) (map (strip_at d strips) (chosen_places d indexes))
only_block d indexes strips block is below enough is_block has =
    let chosen : List ℕ = chosen_places d indexes in
    let points : List ℕ = map (slice_index indexes) chosen in
    let count : length chosen ≡ d = length-take-le d (distinct_places indexes) enough in
    sym
    (block_through-strips d block points (divides d is) (chosen_points d indexes below)
    (length-map chosen (slice_index indexes) ∙ count) is_block)
    ∙ ap (block_through d points) (same_strips (strip d block) (strip_at d strips) (slice_index indexes) chosen has)
