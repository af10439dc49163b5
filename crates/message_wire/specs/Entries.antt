-- Where a number stands among entries with ascending numbers.
use Rattle.std.specs.Prelude.{◌≡◌, ℕ, zero, suc, ◌<◌, List, [], ◌∷◌, ⊤}

module _ {V : Type 0} where
  -- the entry at a place has the number, and those before it have lower ones
  abbrev pub IsFoundAt : ℕ → ℕ → List (ℕ × V) → Type 0
  IsFoundAt number zero [] = ⊥
  IsFoundAt number (suc place) [] = ⊥
  IsFoundAt number zero (entry ∷ entries) = entry.0 ≡ number
  IsFoundAt number (suc place) (entry ∷ entries) = (entry.0 < number) × IsFoundAt number place entries

  -- the number would stand at a place: those before it are lower, and the one there is greater
  abbrev pub IsMissingAt : ℕ → ℕ → List (ℕ × V) → Type 0
  IsMissingAt number zero [] = ⊤
  IsMissingAt number (suc place) [] = ⊥
  IsMissingAt number zero (entry ∷ entries) = number < entry.0
  IsMissingAt number (suc place) (entry ∷ entries) = (entry.0 < number) × IsMissingAt number place entries
