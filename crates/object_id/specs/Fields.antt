-- Fields of a byte string: numbers of one, two, four and eight bytes, the lowest byte first, and how they stand in it.
use Rattle.std.specs.Prelude.{◌≡◌, ℕ, zero, suc, ◌+◌, ◌<◌, List, [], ◌∷◌, ◌++◌, drop, replicate, slice_index, slice_range}
use Rattle.std.specs.Int.{Width, w16, w32, w64, byte_len, to_le_bytes, from_le_bytes}
use Rattle.std.specs.List.{flat_map}

-- the bytes of a number
abbrev pub u8_bytes : ℕ → List ℕ
u8_bytes number = number ∷ []

abbrev pub u16_bytes : ℕ → List ℕ
u16_bytes number = to_le_bytes w16 number

abbrev pub u32_bytes : ℕ → List ℕ
u32_bytes number = to_le_bytes w32 number

abbrev pub u64_bytes : ℕ → List ℕ
u64_bytes number = to_le_bytes w64 number

abbrev pub zeros : ℕ → List ℕ
zeros count = replicate count 0

-- the number at an offset
abbrev pub u8_at : ℕ → List ℕ → ℕ
u8_at at bytes = slice_index bytes at

abbrev pub number_at : Width → ℕ → List ℕ → ℕ
number_at w at bytes = from_le_bytes w (slice_range bytes at (at + byte_len w))

abbrev pub u16_at : ℕ → List ℕ → ℕ
u16_at at bytes = number_at w16 at bytes

abbrev pub u32_at : ℕ → List ℕ → ℕ
u32_at at bytes = number_at w32 at bytes

abbrev pub u64_at : ℕ → List ℕ → ℕ
u64_at at bytes = number_at w64 at bytes

-- numbers of one width, one after the other
abbrev pub numbers_bytes : Width → List ℕ → List ℕ
numbers_bytes w numbers = flat_map (to_le_bytes w) numbers

-- so many of them from an offset on
abbrev pub numbers_at : Width → ℕ → ℕ → List ℕ → List ℕ
numbers_at w zero at bytes = []
numbers_at w (suc count) at bytes = number_at w at bytes ∷ numbers_at w count (at + byte_len w) bytes

-- each is a byte
abbrev pub AreBytes : List ℕ → Type 0
AreBytes bytes = (k : ℕ) → slice_index bytes k < 256

-- the text stands in the bytes, from one offset up to another
pub record Stands (bytes : List ℕ) (from to : ℕ) (text : List ℕ) : Type 0 where
  pub parts : drop from bytes ≡ text ++ drop to bytes
