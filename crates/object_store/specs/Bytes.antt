-- The bytes of a row: a list of the row's length.
use Rattle.std.specs.Prelude.{ℕ, ◌&&◌, List, [], ◌∷◌, length, take, drop, nat_eq, if◌then◌else◌}

-- the n bytes from offset on
abbrev pub piece_at : List ℕ → ℕ → ℕ → List ℕ
piece_at bytes offset n = take n (drop offset bytes)

-- bytes that end at their last one that isn't 0
abbrev pub trimmed_bytes : List ℕ → List ℕ
trimmed_bytes [] = []
trimmed_bytes (byte ∷ bytes) = if nat_eq byte 0 && nat_eq (length (trimmed_bytes bytes)) 0 then [] else byte ∷ trimmed_bytes bytes

-- each piece, given by its offset and length, that had room has it
abbrev pub KeepsPieces : (ℕ → ℕ → Type 0) → (ℕ → ℕ → Type 0) → Type 0
KeepsPieces Old New = (offset n : ℕ) → Old offset n → New offset n
