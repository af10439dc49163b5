-- A block of what a request writes is one of a piece of the request, and the piece has the block's bytes there.
use Rattle.std.proofs.Common.{◌≡◌, ℕ, ◌+◌, ◌-◌, ◌*◌, ◌/◌, ◌%◌, ◌^◌, ◌<◌, ◌≤◌, max, min, pow-add, List, length, map, take, drop, Contains}
use Rattle.std.proofs.Common.{refl, sym, ap, ◌∙◌, arith}
use Rattle.std.proofs.lemmas.Nat.{pow_pos, div_below, le-div}
use Rattle.proof_tools.proofs.Lists.{Contains-map}
use Rattle.object_id.specs.declared.limits.TheConstants.{BLOCK_BYTES}
use Rattle.disk_history.specs.Ledger.{Item}
use Rattle.guest_driver.specs.Pieces.{Piece, first_index, last_index, indexes, pieces, piece_in}
use Rattle.sheep_world.specs.HistoryAdditions.{block_in}
use Rattle.overlap_law.specs.AloneItems.{IsOwnItem}
use Rattle.overlap_law.specs.Pieces.{IsInPiece, bytes_for}
use Rattle.overlap_law.specs.WrittenPieces.{IsItemOfPiece}
use Rattle.overlap_law.proofs.StartedWrites.{in_range}
use Rattle.overlap_law.proofs.ToldBlocks.{Stands, stands}

module _ (shift offset index unit place : ℕ) (payload : List ℕ) (long : 9 ≤ shift) (whole_offset : offset % 512 ≡ 0)
    (inside : unit < 2 ^ shift / 512) (within : place < length payload / 512)
    (at : index * (2 ^ shift / 512) + unit ≡ offset / 512 + place) where
  abbrev size : ℕ
  size = length payload

  -- where the object begins and ends on the disk
  abbrev low : ℕ
  low = index * 2 ^ shift

  abbrev high : ℕ
  high = (index + 1) * 2 ^ shift

  wide : 2 ^ shift ≡ 512 * 2 ^ (shift - 9)
  wide =
      let split : shift ≡ 9 + (shift - 9) = omega (arith, long) in
      ap (λ n. 2 ^ n) split ∙ pow-add 2 9 (shift - 9)

  each : 2 ^ shift / 512 ≡ 2 ^ (shift - 9)
  each = let has = wide in omega (arith, has)

  low_so : index * 2 ^ shift ≡ 512 * (index * 2 ^ (shift - 9))
  low_so = ap (λ n. index * n) wide ∙ grind arith

  blocks_so : index * (2 ^ shift / 512) ≡ index * 2 ^ (shift - 9)
  blocks_so = ap (λ n. index * n) each

  high_so : (index + 1) * 2 ^ shift ≡ index * 2 ^ shift + 2 ^ shift
  high_so = grind arith

  -- the block's first byte on the disk
  byte_so : index * 2 ^ shift + 512 * unit ≡ offset + 512 * place
  byte_so =
      let is_low = low_so in
      let is_blocks = blocks_so in
      omega (arith, is_low, is_blocks, at, whole_offset)

  above : index * 2 ^ shift ≤ offset + 512 * place
  above = let byte = byte_so in omega (arith, byte)

  below : offset + 512 * place < (index + 1) * 2 ^ shift
  below =
      let byte = byte_so in
      let is_high = high_so in
      let is_wide = wide in
      let is_each = each in
      omega (arith, byte, is_high, is_wide, is_each, inside)

  before : offset + 512 * place < offset + length payload
  before = omega (arith, within)

  in_object : 512 * unit ≡ offset + 512 * place - index * 2 ^ shift
  in_object = let byte = byte_so in omega (arith, byte)

  stands_so : Stands offset (index * 2 ^ shift) (max offset (index * 2 ^ shift))
      (min (offset + length payload) ((index + 1) * 2 ^ shift)) (offset + 512 * place) (512 * unit)
  stands_so = stands offset size low high (offset + 512 * place) (512 * unit) above below (omega arith) before in_object

  some_wide : 0 < 2 ^ shift
  some_wide = pow_pos shift

  pub first : first_index shift offset ≤ index
  first =
      let behind = below in
      let less : offset / 2 ^ shift < index + 1 = div_below offset (2 ^ shift) (index + 1) some_wide (omega (arith, behind)) in
      omega (arith, less)

  pub last : index ≤ last_index shift offset (length payload)
  last =
      let begins = above in
      let ends = before in
      le-div index (offset + length payload - 1) (2 ^ shift) some_wide (omega (arith, begins, ends))

  among : Contains (pieces shift offset (length payload)) (piece_in shift offset (length payload) index)
  unfolding pieces
  among =
      let least = first in
      let most = last in
      Contains-map (piece_in shift offset size) (indexes shift offset size) index
      (in_range (first_index shift offset) (last_index shift offset size + 1 - first_index shift offset) index first
      (omega (arith, least, most)))

  pub block_piece : (item : Item) → item.bytes ≡ block_in payload place → IsItemOfPiece shift offset payload index unit item
  block_piece item bytes =
      let here = stands_so in
      let back : offset + 512 * place - offset ≡ place * 512 = omega arith in
      record {
        one = piece_in shift offset size index;
        among = among;
        at = refl;
        inside = record { first = here.first; last = here.last };
        bytes = bytes
            ∙ sym (ap (λ (x : ℕ). take BLOCK_BYTES (drop x payload)) (here.place ∙ back));
      }

-- an item of the write's own
pub item_of_piece : (shift offset index unit vid disk : ℕ) (payload : List ℕ) (item : Item) → 9 ≤ shift → offset % 512 ≡ 0
    → unit < 2 ^ shift / 512 → IsOwnItem vid offset payload disk (index * (2 ^ shift / 512) + unit) item.bytes
    → IsItemOfPiece shift offset payload index unit item
item_of_piece shift offset index unit vid disk payload item long whole inside own =
    block_piece shift offset index unit own.place payload long whole inside own.inside own.at item own.is
