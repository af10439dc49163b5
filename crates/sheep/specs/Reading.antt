-- What a call took of its source.
use Rattle.std.specs.Prelude.{◌≡◌, ℕ, ◌+◌, ◌≤◌, List, length, Option}
use Rattle.std.specs.Io.KnownBytes.{Consumes, IsAtEnd}
use Rattle.object_id.specs.declared.limits.TheConstants.{INPUT_BYTES_MAX}

-- What was taken of a source: the input to its end, or one byte more than it may have. A source that doesn't tell
-- what it has left may have given any bytes.
pub record Reads (old new : Option (List ℕ)) (taken : List ℕ) : Type 0 where
  pub consumed : Consumes old new taken
  pub bounded : length taken ≤ INPUT_BYTES_MAX + 1
  pub ended : length taken ≤ INPUT_BYTES_MAX → IsAtEnd new

-- the input was read to its end, and isn't too long
pub record ReadsAll (old new : Option (List ℕ)) (input : List ℕ) : Type 0 where
  pub consumed : Consumes old new input
  pub ended : IsAtEnd new
  pub short : length input ≤ INPUT_BYTES_MAX

-- no more bytes than these were taken of a source
abbrev pub TakesAtMost : ℕ → Option (List ℕ) → Option (List ℕ) → Type 0
TakesAtMost most old new = (taken : List ℕ) × Consumes old new taken × (length taken ≤ most)

-- one byte more was taken than an input may have
abbrev pub ReadsTooMuch : Option (List ℕ) → Option (List ℕ) → Type 0
ReadsTooMuch old new = (taken : List ℕ) × Consumes old new taken × (length taken ≡ INPUT_BYTES_MAX + 1)
