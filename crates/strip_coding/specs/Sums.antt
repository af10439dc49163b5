-- Sums of multiples of strips that stand one after another.
use Rattle.std.specs.Prelude.{ℕ, ◌+◌, ◌*◌, List, map, slice_index}
use Rattle.gf256.specs.Strip.{weighted_sum}

-- a byte of the sum of the strips of so many bytes at some places, each by its coefficient
abbrev pub sum_at : List ℕ → List ℕ → List ℕ → ℕ → ℕ → ℕ
sum_at coefficients places strips width k = weighted_sum coefficients (map (λ place. slice_index strips (place * width + k)) places)
