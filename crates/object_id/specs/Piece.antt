-- A piece laid over bytes.
use Rattle.std.specs.Prelude.{ℕ, ◌+◌, List, ◌++◌, length, take, drop}

-- the bytes with the piece in place of those from offset on
abbrev pub laid_over : List ℕ → ℕ → List ℕ → List ℕ
laid_over bytes offset piece = take offset bytes ++ piece ++ drop (offset + length piece) bytes
