-- The pieces of a request from one of its objects on, and where they stand among its bytes.
use Rattle.std.proofs.Common.{◌≡◌, ⊎_elim, ℕ, zero, suc, ◌+◌, ◌-◌, ◌*◌, ◌/◌, ◌^◌, ◌<◌, ◌≤◌, max, min, [], ◌∷◌, map, All, refl, ap, subst, ◌∙◌, arith}
use Rattle.std.specs.List.{range_with_len}
use Rattle.std.proofs.lemmas.Bool.{cases_lt}
use Rattle.std.proofs.lemmas.Nat.{pow_pos}
use Rattle.std.proofs.Math.Nat.{pow-le-pow_right, max-eq_left, max-eq_right, min-eq_left, min-eq_right, lt-div-mul-add, div-mul-le_self, mul-le-mul_right, le-div_iff_mul-le}
use Rattle.std.proofs.lemmas.List.Elements.{All-head, All-tail}
use Rattle.object_id.specs.declared.entry.VdiSpec.{VdiSpec}
use Rattle.object_id.specs.declared.limits.TheConstants.{OBJECTS_MAX, OBJECT_BYTES_MAX}
use Rattle.object_id.specs.Spec.{IsSpec, objects_of}
use Rattle.guest_driver.specs.declared.extent.Extent.{Extent}
use Rattle.guest_driver.specs.Pieces.{Piece, piece_in, pieces, IsPiece, AreBlocks}
use Rattle.guest_driver.specs.Extent.{IsExtent, Touches, first_index_of, last_index_of, piece_at_index, pieces_from, place_at}
use Rattle.guest_driver.proofs.PieceLemmas.{Meets, meets, one_inside, one_blocks}

-- an object of a request is one that a disk may have
pub quotient_below : (n shift : ℕ) → n < OBJECTS_MAX * 2 ^ shift → n / 2 ^ shift < OBJECTS_MAX
quotient_below n shift below =
    let most : n / 2 ^ shift * 2 ^ shift ≤ n = div-mul-le_self n (2 ^ shift) in
    ⊎_elim
    (λ (within : n / 2 ^ shift < OBJECTS_MAX). within)
    (λ (more : OBJECTS_MAX ≤ n / 2 ^ shift).
    let too : OBJECTS_MAX * 2 ^ shift ≤ n / 2 ^ shift * 2 ^ shift = mul-le-mul_right (2 ^ shift) more in
    absurd (omega (arith, too, most, below)))
    (cases_lt (n / 2 ^ shift) OBJECTS_MAX)

-- a disk has so many objects at most
pub objects_most : (spec : VdiSpec) → IsSpec spec → objects_of spec ≤ OBJECTS_MAX
objects_most spec is =
    let wide : 0 < 2 ^ spec.shift = pow_pos spec.shift in
    let most : objects_of spec * 2 ^ spec.shift ≤ spec.size + 2 ^ spec.shift - 1 = div-mul-le_self (spec.size + 2 ^ spec.shift - 1) (2 ^ spec.shift) in
    let size : spec.size ≤ OBJECTS_MAX * 2 ^ spec.shift = is.size.1 in
    let above : (OBJECTS_MAX + 1) * 2 ^ spec.shift ≡ OBJECTS_MAX * 2 ^ spec.shift + 2 ^ spec.shift = grind arith in
    ⊎_elim
    (λ (more : OBJECTS_MAX < objects_of spec).
    let too : (OBJECTS_MAX + 1) * 2 ^ spec.shift ≤ objects_of spec * 2 ^ spec.shift = mul-le-mul_right (2 ^ spec.shift) (omega (arith, more)) in
    absurd (omega (arith, too, above, most, size, wide)))
    (λ (within : objects_of spec ≤ OBJECTS_MAX). within)
    (cases_lt OBJECTS_MAX (objects_of spec))

pub pieces_from-cons : (extent : Extent) (index : ℕ) → index ≤ last_index_of extent
    → pieces_from extent index ≡ piece_at_index extent index ∷ pieces_from extent (index + 1)
unfolding pieces_from
pieces_from-cons extent index within =
    let more : last_index_of extent + 1 - index ≡ suc (last_index_of extent + 1 - (index + 1)) = omega (arith, within) in
    ap (λ n. map (piece_in extent.shift extent.offset extent.size) (range_with_len index n)) more

pub pieces_from-past : (extent : Extent) (index : ℕ) → last_index_of extent < index → pieces_from extent index ≡ []
unfolding pieces_from
pieces_from-past extent index past =
    let none : last_index_of extent + 1 - index ≡ 0 = omega (arith, past) in
    ap (λ n. map (piece_in extent.shift extent.offset extent.size) (range_with_len index n)) none

pub pieces_from-first : (extent : Extent) → pieces extent.shift extent.offset extent.size ≡ pieces_from extent (first_index_of extent)
unfolding pieces pieces_from
pieces_from-first extent = refl

-- what is true of all pieces is true of each
at_each : (P : Piece → Type 0) (f : ℕ → Piece) (n index k : ℕ) → All P (map f (range_with_len index n)) → index ≤ k → k < index + n → P (f k)
at_each P f zero index k all low high = absurd (omega (arith, low, high))
at_each P f (suc n) index k all low high = ⊎_elim
    (λ (later : index < k).
    at_each P f n (index + 1) k (All-tail P (f index) (map f (range_with_len (index + 1) n)) all) (omega (arith, later)) (omega (arith, high)))
    (λ (here : k ≤ index).
    let same : index ≡ k = omega (arith, here, low) in
    subst (λ i. P (f i)) same (All-head P (f index) (map f (range_with_len (index + 1) n)) all))
    (cases_lt index k)

pub each_from : (P : Piece → Type 0) (extent : Extent) (index k : ℕ) → All P (pieces_from extent index) → index ≤ k → k ≤ last_index_of extent
    → P (piece_at_index extent k)
unfolding pieces_from
each_from P extent index k all low high =
    at_each P (piece_in extent.shift extent.offset extent.size) (last_index_of extent + 1 - index) index k all low (omega (arith, low, high))

-- ---- places

touched : (extent : Extent) (index : ℕ) → Touches extent index → Meets extent.shift extent.offset extent.size index
touched extent index at = meets extent.shift extent.offset extent.size index at.is.some at.first at.last

-- by the borders of the object, low and high
record Places (offset size low high : ℕ) : Type 0 where
  here : min (max offset low - offset) size ≡ max offset low - offset
  next : min (max offset high - offset) size ≡ max offset low - offset + (min (offset + size) high - max offset low)
  most : max offset low - offset + (min (offset + size) high - max offset low) ≤ size
  inside : max offset low - low + (min (offset + size) high - max offset low) ≤ high - low

places : (offset size low high : ℕ) → offset < high → low < offset + size → low < high → 1 ≤ size → Places offset size low high
places offset size low high begun there ordered some =
    let behind : max offset high ≡ high = max-eq_right (omega (arith, begun)) in
    ⊎_elim
    (λ (first : offset < low).
    let least : max offset low ≡ low = max-eq_right (omega (arith, first)) in
    let here : min (max offset low - offset) size ≡ max offset low - offset = min-eq_left (omega (arith, least, there, first)) in
    ⊎_elim
    (λ (last : high < offset + size).
    let most : min (offset + size) high ≡ high = min-eq_right (omega (arith, last)) in
    let next : min (max offset high - offset) size ≡ max offset high - offset = min-eq_left (omega (arith, behind, last)) in
    record { here = here; next = omega (arith, next, behind, least, most, first, ordered); most = omega (arith, least, most, last, first, ordered); inside = omega (arith, least, most, ordered) })
    (λ (last : offset + size ≤ high).
    let most : min (offset + size) high ≡ offset + size = min-eq_left last in
    let next : min (max offset high - offset) size ≡ size = min-eq_right (omega (arith, behind, last)) in
    record { here = here; next = omega (arith, next, least, most, first, there); most = omega (arith, least, most, first, there); inside = omega (arith, least, most, last, there) })
    (cases_lt high (offset + size)))
    (λ (first : low ≤ offset).
    let least : max offset low ≡ offset = max-eq_left first in
    let here : min (max offset low - offset) size ≡ max offset low - offset = min-eq_left (omega (arith, least)) in
    ⊎_elim
    (λ (last : high < offset + size).
    let most : min (offset + size) high ≡ high = min-eq_right (omega (arith, last)) in
    let next : min (max offset high - offset) size ≡ max offset high - offset = min-eq_left (omega (arith, behind, last)) in
    record { here = here; next = omega (arith, next, behind, least, most, begun); most = omega (arith, least, most, last, begun); inside = omega (arith, least, most, first, begun) })
    (λ (last : offset + size ≤ high).
    let most : min (offset + size) high ≡ offset + size = min-eq_left last in
    let next : min (max offset high - offset) size ≡ size = min-eq_right (omega (arith, behind, last)) in
    record { here = here; next = omega (arith, next, least, most); most = omega (arith, least, most); inside = omega (arith, least, most, first, last) })
    (cases_lt high (offset + size)))
    (cases_lt offset low)

all_places : (extent : Extent) (index : ℕ) → Touches extent index
    → Places extent.offset extent.size (index * 2 ^ extent.shift) ((index + 1) * 2 ^ extent.shift)
all_places extent index at =
    let wide : 0 < 2 ^ extent.shift = pow_pos extent.shift in
    let step : (index + 1) * 2 ^ extent.shift ≡ index * 2 ^ extent.shift + 2 ^ extent.shift = grind arith in
    let met : Meets extent.shift extent.offset extent.size index = touched extent index at in
    places extent.offset extent.size (index * 2 ^ extent.shift) ((index + 1) * 2 ^ extent.shift) met.begun met.there (omega (arith, step, wide)) at.is.some

-- a piece stands behind those before it
pub place_at-here : (extent : Extent) (index : ℕ) → Touches extent index → place_at extent index ≡ (piece_at_index extent index).place
place_at-here extent index at = (all_places extent index at).here

pub place_at-next : (extent : Extent) (index : ℕ) → Touches extent index
    → place_at extent (index + 1) ≡ (piece_at_index extent index).place + (piece_at_index extent index).size
place_at-next extent index at = (all_places extent index at).next

-- and ends among the bytes of the request
pub piece-within : (extent : Extent) (index : ℕ) → Touches extent index → (piece_at_index extent index).place + (piece_at_index extent index).size ≤ extent.size
piece-within extent index at = (all_places extent index at).most

-- it lies in its object, and goes by whole blocks
pub piece-inside : (extent : Extent) (index : ℕ) → Touches extent index → IsPiece extent.shift (piece_at_index extent index)
piece-inside extent index at = one_inside extent.shift extent.offset extent.size index at.is.some (touched extent index at)

pub piece-most : (extent : Extent) (index : ℕ) → Touches extent index
    → (piece_at_index extent index).offset + (piece_at_index extent index).size ≤ OBJECT_BYTES_MAX
piece-most extent index at =
    let inside = (piece-inside extent index at).inside in
    let most : 2 ^ extent.shift ≤ OBJECT_BYTES_MAX = pow-le-pow_right (omega arith) at.is.shift.1 in
    omega (arith, inside, most)

pub piece-blocks : (extent : Extent) (index : ℕ) → Touches extent index → AreBlocks (piece_at_index extent index)
piece-blocks extent index at =
    let least = at.is.shift.0 in
    one_blocks extent.shift extent.offset extent.size index (omega (arith, least)) at.is.blocks.0 at.is.blocks.1

-- nothing stands before the first object, and all bytes before one past the last
pub place_at-first : (extent : Extent) → IsExtent extent → place_at extent (first_index_of extent) ≡ 0
place_at-first extent is =
    let low : first_index_of extent * 2 ^ extent.shift ≤ extent.offset = div-mul-le_self extent.offset (2 ^ extent.shift) in
    let start : max extent.offset (first_index_of extent * 2 ^ extent.shift) ≡ extent.offset = max-eq_left low in
    let none : max extent.offset (first_index_of extent * 2 ^ extent.shift) - extent.offset ≡ 0 = omega (arith, start) in
    ap (λ n. min n extent.size) none ∙ min-eq_left {n = 0} {m = extent.size} (omega arith)

pub place_at-past : (extent : Extent) → IsExtent extent → place_at extent (last_index_of extent + 1) ≡ extent.size
place_at-past extent is =
    let wide : 0 < 2 ^ extent.shift = pow_pos extent.shift in
    let some : 1 ≤ extent.size = is.some in
    let end : extent.offset + extent.size - 1 < last_index_of extent * 2 ^ extent.shift + 2 ^ extent.shift = lt-div-mul-add wide in
    let step : (last_index_of extent + 1) * 2 ^ extent.shift ≡ last_index_of extent * 2 ^ extent.shift + 2 ^ extent.shift = grind arith in
    let start : max extent.offset ((last_index_of extent + 1) * 2 ^ extent.shift) ≡ (last_index_of extent + 1) * 2 ^ extent.shift
    = max-eq_right (omega (arith, step, end, some)) in
    min-eq_right (omega (arith, start, step, end, some))

-- the first object isn't behind the last
pub first-le-last : (extent : Extent) → IsExtent extent → first_index_of extent ≤ last_index_of extent
first-le-last extent is =
    let wide : 0 < 2 ^ extent.shift = pow_pos extent.shift in
    let some : 1 ≤ extent.size = is.some in
    let low : first_index_of extent * 2 ^ extent.shift ≤ extent.offset = div-mul-le_self extent.offset (2 ^ extent.shift) in
    (le-div_iff_mul-le wide).1 (omega (arith, low, some))
