-- Where a request is on its disk, as a driver keeps it, and its pieces by the index of their objects.
use Rattle.std.specs.Prelude.{◌≡◌, ℕ, ◌+◌, ◌-◌, ◌*◌, ◌%◌, ◌^◌, ◌≤◌, min, List, map}
use Rattle.std.specs.List.{range_with_len}
use Rattle.object_id.specs.declared.limits.TheConstants.{BLOCK_BYTES, SHIFT_MIN, SHIFT_MAX, SIZE_MAX, OBJECTS_MAX}
use Rattle.guest_driver.specs.declared.extent.Extent.{Extent}
use Rattle.guest_driver.specs.declared.piece.Piece as code
use Rattle.guest_driver.specs.Pieces.{Piece, first_index, last_index, common_start, piece_in}

-- a request of whole blocks that isn't empty, and ends where a disk with such objects may end
pub record IsExtent (extent : Extent) : Type 0 where
  pub shift : (SHIFT_MIN ≤ extent.shift) × (extent.shift ≤ SHIFT_MAX)
  pub some : 1 ≤ extent.size
  pub blocks : (extent.offset % BLOCK_BYTES ≡ 0) × (extent.size % BLOCK_BYTES ≡ 0)
  pub end : extent.offset + extent.size ≤ SIZE_MAX
  pub objects : extent.offset + extent.size ≤ OBJECTS_MAX * 2 ^ extent.shift

-- the indexes of the first and the last object that it touches
abbrev pub first_index_of : Extent → ℕ
first_index_of extent = first_index extent.shift extent.offset

abbrev pub last_index_of : Extent → ℕ
last_index_of extent = last_index extent.shift extent.offset extent.size

-- an object that it touches
pub record Touches (extent : Extent) (index : ℕ) : Type 0 where
  pub is : IsExtent extent
  pub first : first_index_of extent ≤ index
  pub last : index ≤ last_index_of extent

-- its piece in an object
abbrev pub piece_at_index : Extent → ℕ → Piece
piece_at_index extent index = piece_in extent.shift extent.offset extent.size index

-- its pieces from that of an index on
unfoldable pub pieces_from : Extent → ℕ → List Piece
pieces_from extent index = map (piece_in extent.shift extent.offset extent.size) (range_with_len index (last_index_of extent + 1 - index))

-- how many of its bytes stand before an object
abbrev pub place_at : Extent → ℕ → ℕ
place_at extent index = min (common_start extent.shift extent.offset index - extent.offset) extent.size

-- a piece as the code has it
abbrev pub piece_of : code.Piece → Piece
piece_of piece = record { index = piece.index; offset = piece.offset; place = piece.place; size = piece.size }
