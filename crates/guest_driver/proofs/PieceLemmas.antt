-- The pieces of a request: joined they are its bytes, and each lies in its object.
use Rattle.std.proofs.Common.{◌≡◌, ◌⊎◌, inl, inr, ⊎_elim, ℕ, zero, suc, ◌+◌, ◌-◌, ◌*◌, ◌/◌, ◌^◌, ◌<◌, ◌≤◌, max, min, List, [], ◌∷◌, ◌++◌, length, take, drop, map, flat_map, All, ◌%◌, pow-add, refl, ap, sym, subst, ◌∙◌, arith}
use Rattle.std.specs.List.{range_with_len, slice_range}
use Rattle.std.proofs.lemmas.Bool.{cases_lt}
use Rattle.std.proofs.lemmas.Nat.{pow_pos}
use Rattle.std.proofs.lemmas.List.{append-nil, take-append-drop, take_all, drop_all, drop-drop, length-drop}
use Rattle.std.proofs.Math.Nat.{max-eq_left, max-eq_right, min-eq_left, min-eq_right, lt-div-mul-add, div-mul-le_self, mul-le-mul_right, le-div_iff_mul-le}
use Rattle.std.proofs.lemmas.List.Elements.{All-nil, All-cons}
use Rattle.object_id.specs.declared.entry.VdiSpec.{VdiSpec}
use Rattle.object_id.specs.Spec.{objects_of}
use Rattle.guest_driver.specs.Pieces.{Piece, first_index, last_index, indexes, piece_in, pieces, piece_bytes, IsPiece, AreBlocks}

-- a slice with all that stands behind it, or at the end
slice_and_rest : (payload : List ℕ) (at end behind : ℕ)
    → ((at ≤ end) × (end ≡ behind)) ⊎ ((length payload ≤ end) × (length payload ≤ behind))
    → slice_range payload at end ++ drop behind payload ≡ drop at payload
slice_and_rest payload at end behind (inl within) =
    let e : behind ≡ at + (end - at) = omega (arith, within.0, within.1) in
    ap (λ n. take (end - at) (drop at payload) ++ drop n payload) e
    ∙ ap (λ xs. take (end - at) (drop at payload) ++ xs) (sym (drop-drop (end - at) at payload))
    ∙ take-append-drop (end - at) (drop at payload)
slice_and_rest payload at end behind (inr past) =
    let long : length (drop at payload) ≡ length payload - at = length-drop at payload in
    ap (λ xs. slice_range payload at end ++ xs) (drop_all behind payload past.1)
    ∙ append-nil (slice_range payload at end)
    ∙ take_all (end - at) (drop at payload) (omega (arith, long, past.0))

-- a piece with all that stands behind it; low and high are the borders of its object
piece_and_rest : (payload : List ℕ) (offset low high : ℕ) → offset < high → low ≤ high
    → slice_range payload (max offset low - offset)
    (max offset low - offset + (min (offset + length payload) high - max offset low)) ++ drop (high - offset) payload
    ≡ drop (max offset low - offset) payload
piece_and_rest payload offset low high begun ordered =
    slice_and_rest payload (max offset low - offset)
    (max offset low - offset + (min (offset + length payload) high - max offset low)) (high - offset)
    (⊎_elim
    (λ (below : high < offset + length payload).
    let most : min (offset + length payload) high ≡ high = min-eq_right (omega (arith, below)) in
    ⊎_elim
    (λ (first : offset < low).
    let least : max offset low ≡ low = max-eq_right (omega (arith, first)) in
    inl (omega arith, omega (arith, most, least, first, ordered)))
    (λ (first : low ≤ offset).
    let least : max offset low ≡ offset = max-eq_left first in
    inl (omega arith, omega (arith, most, least, first, begun)))
    (cases_lt offset low))
    (λ (past : offset + length payload ≤ high).
    let most : min (offset + length payload) high ≡ offset + length payload = min-eq_left past in
    ⊎_elim
    (λ (first : offset < low).
    let least : max offset low ≡ low = max-eq_right (omega (arith, first)) in
    inr (omega (arith, most, least, first), omega (arith, past)))
    (λ (first : low ≤ offset).
    let least : max offset low ≡ offset = max-eq_left first in
    inr (omega (arith, most, least, first), omega (arith, past)))
    (cases_lt offset low))
    (cases_lt high (offset + length payload)))

-- the pieces from an object on give the bytes from its border on
joined_from : (shift offset : ℕ) (payload : List ℕ) (n index : ℕ) → offset < (index + 1) * 2 ^ shift
    → offset + length payload ≤ (index + n) * 2 ^ shift
    → flat_map (piece_bytes payload) (map (piece_in shift offset (length payload)) (range_with_len index n))
    ≡ drop (max offset (index * 2 ^ shift) - offset) payload
joined_from shift offset payload zero index begun ended =
    let here : (index + zero) * 2 ^ shift ≡ index * 2 ^ shift = ap (λ k. k * 2 ^ shift) (omega arith) in
    let past : length payload ≤ max offset (index * 2 ^ shift) - offset
    = ⊎_elim
    (λ (first : offset < index * 2 ^ shift).
    let least : max offset (index * 2 ^ shift) ≡ index * 2 ^ shift = max-eq_right (omega (arith, first)) in
    omega (arith, least, here, ended))
    (λ (first : index * 2 ^ shift ≤ offset). omega (arith, first, here, ended))
    (cases_lt offset (index * 2 ^ shift)) in
    sym (drop_all (max offset (index * 2 ^ shift) - offset) payload past)
joined_from shift offset payload (suc n) index begun ended =
    let wide : 0 < 2 ^ shift = pow_pos shift in
    let high : (index + 1) * 2 ^ shift ≡ index * 2 ^ shift + 2 ^ shift = grind arith in
    let higher : (index + 1 + 1) * 2 ^ shift ≡ (index + 1) * 2 ^ shift + 2 ^ shift = grind arith in
    let same : (index + suc n) * 2 ^ shift ≡ (index + 1 + n) * 2 ^ shift = ap (λ k. k * 2 ^ shift) (omega arith) in
    let next : max offset ((index + 1) * 2 ^ shift) ≡ (index + 1) * 2 ^ shift = max-eq_right (omega (arith, begun)) in
    ap (λ xs. piece_bytes payload (piece_in shift offset (length payload) index) ++ xs)
    (joined_from shift offset payload n (index + 1) (omega (arith, begun, higher)) (omega (arith, ended, same))
    ∙ ap (λ k. drop (k - offset) payload) next)
    ∙ piece_and_rest payload offset (index * 2 ^ shift) ((index + 1) * 2 ^ shift) begun (omega (arith, high))

pub pieces_joined : (shift offset : ℕ) (payload : List ℕ) → 1 ≤ length payload
    → flat_map (piece_bytes payload) (pieces shift offset (length payload)) ≡ payload
unfolding pieces
pieces_joined shift offset payload some =
    let wide : 0 < 2 ^ shift = pow_pos shift in
    let first : ℕ = offset / 2 ^ shift in
    let last : ℕ = (offset + length payload - 1) / 2 ^ shift in
    let above : offset < first * 2 ^ shift + 2 ^ shift = lt-div-mul-add wide in
    let end : offset + length payload - 1 < last * 2 ^ shift + 2 ^ shift = lt-div-mul-add wide in
    let step : (first + 1) * 2 ^ shift ≡ first * 2 ^ shift + 2 ^ shift = grind arith in
    let one : (last + 1) * 2 ^ shift ≡ last * 2 ^ shift + 2 ^ shift = grind arith in
    let more : (last + 1) * 2 ^ shift ≤ (first + (last + 1 - first)) * 2 ^ shift = mul-le-mul_right (2 ^ shift) (omega arith) in
    let none : offset - offset ≡ 0 = omega arith in
    let start : max offset (first * 2 ^ shift) ≡ offset = max-eq_left (div-mul-le_self offset (2 ^ shift)) in
    joined_from shift offset payload (last + 1 - first) first (omega (arith, above, step)) (omega (arith, some, end, one, more))
    ∙ ap (λ k. drop (k - offset) payload) start
    ∙ ap (λ k. drop k payload) none

-- ---- each piece

index_of_each : (shift offset size : ℕ) (ks : List ℕ)
    → map (λ (piece : Piece). piece.index) (map (piece_in shift offset size) ks) ≡ ks
index_of_each shift offset size [] = refl
index_of_each shift offset size (k ∷ ks) = ap (λ rest. k ∷ rest) (index_of_each shift offset size ks)

pub pieces_index : (shift offset size : ℕ)
    → map (λ (piece : Piece). piece.index) (pieces shift offset size) ≡ indexes shift offset size
unfolding pieces
pieces_index shift offset size = index_of_each shift offset size (indexes shift offset size)

-- what is true of each object's piece is true of all
pub each : (P : Piece → Type 0) (shift offset size n index : ℕ)
    → ((k : ℕ) → index ≤ k → k < index + n → P (piece_in shift offset size k))
    → All P (map (piece_in shift offset size) (range_with_len index n))
each P shift offset size zero index holds = All-nil P
each P shift offset size (suc n) index holds =
    All-cons P (piece_in shift offset size index) (map (piece_in shift offset size) (range_with_len (index + 1) n))
    (holds index (omega arith) (omega arith))
    (each P shift offset size n (index + 1) (λ k low high. holds k (omega (arith, low)) (omega (arith, high))))

-- the objects that a request touches meet its bytes
pub record Meets (shift offset size k : ℕ) : Type 0 where
  pub begun : offset < (k + 1) * 2 ^ shift
  pub there : k * 2 ^ shift < offset + size

pub meets : (shift offset size k : ℕ) → 1 ≤ size → first_index shift offset ≤ k → k ≤ last_index shift offset size → Meets shift offset size k
meets shift offset size k some low high =
    let wide : 0 < 2 ^ shift = pow_pos shift in
    let above : offset < offset / 2 ^ shift * 2 ^ shift + 2 ^ shift = lt-div-mul-add wide in
    let least : offset / 2 ^ shift * 2 ^ shift ≤ k * 2 ^ shift = mul-le-mul_right (2 ^ shift) low in
    let step : (k + 1) * 2 ^ shift ≡ k * 2 ^ shift + 2 ^ shift = grind arith in
    let most : k * 2 ^ shift ≤ (offset + size - 1) / 2 ^ shift * 2 ^ shift = mul-le-mul_right (2 ^ shift) high in
    let below : (offset + size - 1) / 2 ^ shift * 2 ^ shift ≤ offset + size - 1 = div-mul-le_self (offset + size - 1) (2 ^ shift) in
    record { begun = omega (arith, above, least, step); there = omega (arith, most, below, some) }

each_met : (P : Piece → Type 0) (shift offset size : ℕ) → 1 ≤ size
    → ((k : ℕ) → k ≤ last_index shift offset size → Meets shift offset size k → P (piece_in shift offset size k))
    → All P (pieces shift offset size)
unfolding pieces
each_met P shift offset size some holds =
    each P shift offset size (last_index shift offset size + 1 - first_index shift offset) (first_index shift offset)
    (λ k low high.
    let within : k ≤ last_index shift offset size = omega (arith, low, high) in
    holds k within (meets shift offset size k some low within))

-- where a piece begins and ends in its object, whose borders are low and high
from_start : (P : ℕ → Type 0) (offset low : ℕ) → (low ≤ offset → P offset) → (offset < low → P low) → P (max offset low)
from_start P offset low in_object at_border = ⊎_elim
    (λ (first : offset < low). subst P (sym (max-eq_right {n = offset} {m = low} (omega (arith, first)))) (at_border first))
    (λ (first : low ≤ offset). subst P (sym (max-eq_left {n = offset} {m = low} first)) (in_object first))
    (cases_lt offset low)

from_end : (P : ℕ → Type 0) (end high : ℕ) → (end ≤ high → P end) → (high < end → P high) → P (min end high)
from_end P end high in_object at_border = ⊎_elim
    (λ (last : high < end). subst P (sym (min-eq_right {n = high} {m = end} (omega (arith, last)))) (at_border last))
    (λ (last : end ≤ high). subst P (sym (min-eq_left {n = end} {m = high} last)) (in_object last))
    (cases_lt high end)

-- a piece from start to end, of the object from low to high
abbrev pub between : ℕ → ℕ → ℕ → ℕ → ℕ → Piece
between k offset low start end = record { index = k; offset = start - low; place = start - offset; size = end - start }

pub one_inside : (shift offset size k : ℕ) → 1 ≤ size → Meets shift offset size k → IsPiece shift (piece_in shift offset size k)
one_inside shift offset size k some met =
    let wide : 0 < 2 ^ shift = pow_pos shift in
    let step : (k + 1) * 2 ^ shift ≡ k * 2 ^ shift + 2 ^ shift = grind arith in
    let begun : offset < (k + 1) * 2 ^ shift = met.begun in
    let there : k * 2 ^ shift < offset + size = met.there in
    from_start (λ start. IsPiece shift (between k offset (k * 2 ^ shift) start (min (offset + size) ((k + 1) * 2 ^ shift))))
    offset (k * 2 ^ shift)
    (λ (first : k * 2 ^ shift ≤ offset).
    from_end (λ end. IsPiece shift (between k offset (k * 2 ^ shift) offset end)) (offset + size) ((k + 1) * 2 ^ shift)
    (λ (last : offset + size ≤ (k + 1) * 2 ^ shift). record { some = omega (arith, some); inside = omega (arith, first, last, step) })
    (λ (last : (k + 1) * 2 ^ shift < offset + size). record { some = omega (arith, begun); inside = omega (arith, first, begun, step) }))
    (λ (first : offset < k * 2 ^ shift).
    from_end (λ end. IsPiece shift (between k offset (k * 2 ^ shift) (k * 2 ^ shift) end)) (offset + size) ((k + 1) * 2 ^ shift)
    (λ (last : offset + size ≤ (k + 1) * 2 ^ shift). record { some = omega (arith, there); inside = omega (arith, last, step) })
    (λ (last : (k + 1) * 2 ^ shift < offset + size). record { some = omega (arith, step, wide); inside = omega (arith, step) }))

pub pieces_inside : (shift offset size : ℕ) → 1 ≤ size → All (IsPiece shift) (pieces shift offset size)
pieces_inside shift offset size some =
    each_met (IsPiece shift) shift offset size some (λ k within met. one_inside shift offset size k some met)

pub one_blocks : (shift offset size k : ℕ) → 9 ≤ shift → offset % 512 ≡ 0 → size % 512 ≡ 0 → AreBlocks (piece_in shift offset size k)
one_blocks shift offset size k long whole_offset whole_size =
    let split : shift ≡ 9 + (shift - 9) = omega (arith, long) in
    let object : 2 ^ shift ≡ 512 * 2 ^ (shift - 9) = ap (λ n. 2 ^ n) split ∙ pow-add 2 9 (shift - 9) in
    let low : k * 2 ^ shift ≡ 512 * (k * 2 ^ (shift - 9)) = ap (λ n. k * n) object ∙ grind arith in
    let step : (k + 1) * 2 ^ shift ≡ k * 2 ^ shift + 2 ^ shift = grind arith in
    from_start (λ start. AreBlocks (between k offset (k * 2 ^ shift) start (min (offset + size) ((k + 1) * 2 ^ shift))))
    offset (k * 2 ^ shift)
    (λ (first : k * 2 ^ shift ≤ offset).
    from_end (λ end. AreBlocks (between k offset (k * 2 ^ shift) offset end)) (offset + size) ((k + 1) * 2 ^ shift)
    (λ (last : offset + size ≤ (k + 1) * 2 ^ shift).
    record { offset = omega (arith, first, low, whole_offset); size = omega (arith, whole_size) })
    (λ (last : (k + 1) * 2 ^ shift < offset + size).
    record { offset = omega (arith, first, low, whole_offset); size = omega (arith, first, low, step, object, whole_offset) }))
    (λ (first : offset < k * 2 ^ shift).
    from_end (λ end. AreBlocks (between k offset (k * 2 ^ shift) (k * 2 ^ shift) end)) (offset + size) ((k + 1) * 2 ^ shift)
    (λ (last : offset + size ≤ (k + 1) * 2 ^ shift).
    record { offset = omega arith; size = omega (arith, low, whole_offset, whole_size) })
    (λ (last : (k + 1) * 2 ^ shift < offset + size).
    record { offset = omega arith; size = omega (arith, low, step, object) }))

pub pieces_blocks : (shift offset size : ℕ) → 9 ≤ shift → 1 ≤ size → offset % 512 ≡ 0 → size % 512 ≡ 0
    → All AreBlocks (pieces shift offset size)
pieces_blocks shift offset size long some whole_offset whole_size =
    each_met AreBlocks shift offset size some (λ k within met. one_blocks shift offset size k long whole_offset whole_size)

one_among : (shift offset size k : ℕ) → 1 ≤ size → Meets shift offset size k
    → (piece_in shift offset size k).place + (piece_in shift offset size k).size ≤ size
one_among shift offset size k some met =
    let wide : 0 < 2 ^ shift = pow_pos shift in
    let step : (k + 1) * 2 ^ shift ≡ k * 2 ^ shift + 2 ^ shift = grind arith in
    let begun : offset < (k + 1) * 2 ^ shift = met.begun in
    let there : k * 2 ^ shift < offset + size = met.there in
    from_start (λ start. start - offset + (min (offset + size) ((k + 1) * 2 ^ shift) - start) ≤ size)
    offset (k * 2 ^ shift)
    (λ (first : k * 2 ^ shift ≤ offset).
    from_end (λ end. offset - offset + (end - offset) ≤ size) (offset + size) ((k + 1) * 2 ^ shift)
    (λ (last : offset + size ≤ (k + 1) * 2 ^ shift). omega arith)
    (λ (last : (k + 1) * 2 ^ shift < offset + size). omega (arith, last)))
    (λ (first : offset < k * 2 ^ shift).
    from_end (λ end. k * 2 ^ shift - offset + (end - k * 2 ^ shift) ≤ size) (offset + size) ((k + 1) * 2 ^ shift)
    (λ (last : offset + size ≤ (k + 1) * 2 ^ shift). omega (arith, there, first))
    (λ (last : (k + 1) * 2 ^ shift < offset + size). omega (arith, last, first, step)))

pub pieces_among : (shift offset size : ℕ) → 1 ≤ size
    → All (λ (piece : Piece). piece.place + piece.size ≤ size) (pieces shift offset size)
pieces_among shift offset size some =
    each_met (λ (piece : Piece). piece.place + piece.size ≤ size) shift offset size some
    (λ k within met. one_among shift offset size k some met)

-- the last object of a request that ends inside the disk is one of the disk's
last_there : (object offset size whole : ℕ) → 0 < object → 1 ≤ size → offset + size ≤ whole
    → (offset + size - 1) / object < (whole + object - 1) / object
last_there object offset size whole wide some within =
    let low : (offset + size - 1) / object * object ≤ offset + size - 1 = div-mul-le_self (offset + size - 1) object in
    let step : ((offset + size - 1) / object + 1) * object ≡ (offset + size - 1) / object * object + object = grind arith in
    let next : (offset + size - 1) / object + 1 ≤ (whole + object - 1) / object
    = (le-div_iff_mul-le wide).1 (omega (arith, low, step, some, within)) in
    omega (arith, next)

pub pieces_there : (spec : VdiSpec) (offset size : ℕ) → 1 ≤ size → offset + size ≤ spec.size
    → All (λ (piece : Piece). piece.index < objects_of spec) (pieces spec.shift offset size)
pieces_there spec offset size some within =
    let last : last_index spec.shift offset size < objects_of spec
    = last_there (2 ^ spec.shift) offset size spec.size (pow_pos spec.shift) some within in
    each_met (λ (piece : Piece). piece.index < objects_of spec) spec.shift offset size some
    (λ k at met. omega (arith, at, last))
