-- A block of a piece of a write is one of the write's own blocks, and has its bytes.
use Rattle.std.proofs.Common.{◌≡◌, ⊎_elim, ℕ, zero, suc, ◌+◌, ◌-◌, ◌*◌, ◌/◌, ◌%◌, ◌^◌, ◌<◌, ◌≤◌, max, min, pow-add, List, [], ◌∷◌, ◌++◌}
use Rattle.std.proofs.Common.{length, map, take, drop, Some, sym, ap, subst, ◌∙◌, arith}
use Rattle.std.specs.Prelude.{slice_get}
use Rattle.std.proofs.lemmas.Bool.{cases_lt}
use Rattle.std.proofs.lemmas.Option.{same_Some}
use Rattle.std.proofs.Math.Nat.{max-eq_left, max-eq_right, min-eq_left, min-eq_right}
use Rattle.object_id.specs.declared.limits.TheConstants.{BLOCK_BYTES}
use Rattle.guest_driver.specs.Pieces.{Piece, indexes, pieces, piece_in}
use Rattle.sheep_world.specs.HistoryAdditions.{block_in}
use Rattle.overlap_law.specs.Pieces.{IsInPiece, bytes_for}

-- ---- where a piece begins and ends

from_start : (P : ℕ → Type 0) (offset low : ℕ) → (low ≤ offset → P offset) → (offset < low → P low) → P (max offset low)
from_start P offset low in_object at_border = ⊎_elim
    (λ (first : offset < low). subst P (sym (max-eq_right {n = offset} {m = low} (omega (arith, first)))) (at_border first))
    (λ (first : low ≤ offset). subst P (sym (max-eq_left {n = offset} {m = low} first)) (in_object first))
    (cases_lt offset low)

from_end : (P : ℕ → Type 0) (end high : ℕ) → (end ≤ high → P end) → (high < end → P high) → P (min end high)
from_end P end high in_object at_border = ⊎_elim
    (λ (last : high < end). subst P (sym (min-eq_right {n = high} {m = end} (omega (arith, last)))) (at_border last))
    (λ (last : end ≤ high). subst P (sym (min-eq_left {n = end} {m = high} last)) (in_object last))
    (cases_lt high end)

-- a piece from start to end, of the object from low on
abbrev between : ℕ → ℕ → ℕ → ℕ → ℕ → Piece
between k offset low start end = record { index = k; offset = start - low; place = start - offset; size = end - start }

-- a block of a piece is one of these of the write
record IsBlockAt (shift offset size unit : ℕ) (piece : Piece) : Type 0 where
  place : ℕ
  inside : place < size / 512
  block : piece.index * (2 ^ shift / 512) + unit ≡ offset / 512 + place
  at : piece.place + (512 * unit - piece.offset) ≡ place * 512

module _ (shift offset size k unit : ℕ) (long : 9 ≤ shift) (whole_offset : offset % 512 ≡ 0) (whole_size : size % 512 ≡ 0) where
  abbrev object : ℕ
  object = 2 ^ (shift - 9)

  wide : 2 ^ shift ≡ 512 * 2 ^ (shift - 9)
  wide =
      let split : shift ≡ 9 + (shift - 9) = omega (arith, long) in
      ap (λ n. 2 ^ n) split ∙ pow-add 2 9 (shift - 9)

  low : k * 2 ^ shift ≡ 512 * (k * 2 ^ (shift - 9))
  low = ap (λ n. k * n) wide ∙ grind arith

  blocks : k * (2 ^ shift / 512) ≡ k * 2 ^ (shift - 9)
  blocks =
      let has = wide in
      let each : 2 ^ shift / 512 ≡ 2 ^ (shift - 9) = omega (arith, has) in
      ap (λ n. k * n) each

  -- where the piece begins with the write, or with the object
  starts_own : (end : ℕ) → end ≤ offset + size → k * 2 ^ shift ≤ offset
      → IsInPiece (between k offset (k * 2 ^ shift) offset end) unit
      → IsBlockAt shift offset size unit (between k offset (k * 2 ^ shift) offset end)
  starts_own end most first is =
      let begins = is.first in
      let ends = is.last in
      let is_low = low in
      let is_blocks = blocks in
      record {
        place = unit + k * 2 ^ (shift - 9) - offset / 512;
        inside = omega (arith, begins, ends, is_low, most, first, whole_offset, whole_size);
        block = omega (arith, begins, ends, is_low, is_blocks, first, whole_offset);
        at = omega (arith, begins, ends, is_low, first, whole_offset);
      }

  starts_object : (end : ℕ) → end ≤ offset + size → offset < k * 2 ^ shift
      → IsInPiece (between k offset (k * 2 ^ shift) (k * 2 ^ shift) end) unit
      → IsBlockAt shift offset size unit (between k offset (k * 2 ^ shift) (k * 2 ^ shift) end)
  starts_object end most first is =
      let begins = is.first in
      let ends = is.last in
      let is_low = low in
      let is_blocks = blocks in
      record {
        place = unit + k * 2 ^ (shift - 9) - offset / 512;
        inside = omega (arith, begins, ends, is_low, most, first, whole_offset, whole_size);
        block = omega (arith, is_low, is_blocks, first, whole_offset);
        at = omega (arith, is_low, first, whole_offset);
      }

  by_end : (end : ℕ) → end ≤ offset + size
      → IsInPiece (between k offset (k * 2 ^ shift) (max offset (k * 2 ^ shift)) end) unit
      → IsBlockAt shift offset size unit (between k offset (k * 2 ^ shift) (max offset (k * 2 ^ shift)) end)
  by_end end most =
      from_start (λ start. IsInPiece (between k offset (k * 2 ^ shift) start end) unit
      → IsBlockAt shift offset size unit (between k offset (k * 2 ^ shift) start end)) offset (k * 2 ^ shift)
      (starts_own end most) (starts_object end most)

  block_at : IsInPiece (piece_in shift offset size k) unit → IsBlockAt shift offset size unit (piece_in shift offset size k)
  block_at =
      from_end (λ end. IsInPiece (between k offset (k * 2 ^ shift) (max offset (k * 2 ^ shift)) end) unit
      → IsBlockAt shift offset size unit (between k offset (k * 2 ^ shift) (max offset (k * 2 ^ shift)) end))
      (offset + size) ((k + 1) * 2 ^ shift)
      (λ last. by_end (offset + size) (omega arith)) (λ last. by_end ((k + 1) * 2 ^ shift) (omega (arith, last)))

-- ---- the pieces of a write

-- what a map has at a place is of something that the list has
got_map : {X Y : Type 0} (f : X → Y) (xs : List X) (i : ℕ) (y : Y) → slice_get (map f xs) i ≡ Some y → (x : X) × (f x ≡ y)
got_map f [] i y got = absurd (cc (got))
got_map f (x ∷ xs) zero y got = (x, same_Some (f x) y got)
got_map f (x ∷ xs) (suc i) y got = got_map f xs i y got

pub got_behind : {X : Type 0} (xs ys : List X) (i : ℕ) (y : X) → slice_get ys i ≡ Some y
    → (j : ℕ) × (slice_get (xs ++ ys) j ≡ Some y)
got_behind [] ys i y got = (i, got)
got_behind (x ∷ xs) ys i y got = let (j, there) = got_behind xs ys i y got in (suc j, there)

-- each block of each piece is one of the write's, with its bytes
pub record IsBlockOfWrite (shift offset : ℕ) (payload : List ℕ) (unit : ℕ) (piece : Piece) : Type 0 where
  pub place : ℕ
  pub inside : place < length payload / BLOCK_BYTES
  pub block : piece.index * (2 ^ shift / BLOCK_BYTES) + unit ≡ offset / BLOCK_BYTES + place
  pub bytes : bytes_for payload piece unit ≡ block_in payload place

pub block_of_piece : (shift offset : ℕ) (payload : List ℕ) (i unit : ℕ) (piece : Piece) → 9 ≤ shift → offset % 512 ≡ 0
    → length payload % 512 ≡ 0 → slice_get (pieces shift offset (length payload)) i ≡ Some piece → IsInPiece piece unit
    → IsBlockOfWrite shift offset payload unit piece
unfolding pieces
block_of_piece shift offset payload i unit piece long whole_offset whole_size got is =
    let (k, same) = got_map (piece_in shift offset (length payload)) (indexes shift offset (length payload)) i piece got in
    let found = block_at shift offset (length payload) k unit long whole_offset whole_size
    (subst (λ (p : Piece). IsInPiece p unit) (sym same) is) in
    subst (IsBlockOfWrite shift offset payload unit) same (record {
      place = found.place;
      inside = found.inside;
      block = found.block;
      bytes = ap (λ (x : ℕ). take BLOCK_BYTES (drop x payload)) found.at;
    })
