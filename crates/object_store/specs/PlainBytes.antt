-- The bytes of a row of which the first ones are kept; the others are 0.
use Rattle.std.specs.Prelude.{ℕ, ◌+◌, ◌≤◌, List}

-- a row's bytes, and how many of the first ones a store keeps
pub record KeptBytes : Type 0 where
  pub bytes : List ℕ
  pub room : ℕ

abbrev pub seen_bytes : KeptBytes → List ℕ
seen_bytes kept = kept.bytes

-- the n bytes from offset on are kept
abbrev pub HasBytesKept : KeptBytes → ℕ → ℕ → Type 0
HasBytesKept kept offset n = offset + n ≤ kept.room
