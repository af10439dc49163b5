-- What reading a source to its end took from it.
use Rattle.std.specs.Prelude.{◌≡◌, ℕ, ◌+◌, ◌≤◌, List, length, Option}
use Rattle.std.specs.Io.KnownBytes.{Consumes}
use Rattle.sheep_base.specs.declared.transfer.ReadStop.{ReadStop}
use Rattle.sheep_base.specs.declared.transfer.ReadStop.TheVariants.{Failed, TooLong, NoMemory}

-- n bytes were taken: where they are told, they were the first ones
abbrev pub LosesBytes : Option (List ℕ) → Option (List ℕ) → ℕ → Type 0
LosesBytes old new n = (bs : List ℕ) × Consumes old new bs × (length bs ≡ n)

-- how many bytes may have been taken where a reading stopped: one more than the limit, or no more than it
abbrev pub StopsAfter : ℕ → ReadStop → ℕ → Type 0
StopsAfter limit Failed n = n ≤ limit
StopsAfter limit TooLong n = n ≡ limit + 1
StopsAfter limit NoMemory n = n ≤ limit
