-- Bytes as runs: a byte, and how often it stands in a row.
use Rattle.std.specs.Prelude.{ℕ, ◌+◌, ◌==◌, List, [], ◌∷◌, if◌then◌else◌}

-- one byte more in front: it makes the first run longer, or begins a run of its own
abbrev pub with_front : ℕ → List (ℕ × ℕ) → List (ℕ × ℕ)
with_front byte [] = (byte, 1) ∷ []
with_front byte (run ∷ runs) = if byte == run.0 then (byte, run.1 + 1) ∷ runs else (byte, 1) ∷ run ∷ runs

-- the maximal runs of equal bytes, in order
abbrev pub runs_of : List ℕ → List (ℕ × ℕ)
runs_of [] = []
runs_of (byte ∷ bytes) = with_front byte (runs_of bytes)
