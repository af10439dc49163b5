-- Polynomials over the field, as functions, and points that differ.
use Rattle.std.specs.Prelude.{◌≡◌, ◌≢◌, ℕ, zero, suc, ◌^◌, ◌<◌, List}
use Rattle.std.specs.List.{AllPairs}
use Rattle.object_id.specs.Fields.{AreBytes}
use Rattle.gf256.specs.Field.{plus, times}

-- of degree below 0: zero; of degree below d + 1: a constant, plus x times one of degree below d
abbrev pub IsPolynomial : ℕ → (ℕ → ℕ) → Type 0
IsPolynomial zero f = (x : ℕ) → f x ≡ 0
IsPolynomial (suc d) f =
    (c : ℕ) × (g : ℕ → ℕ) × (c < 2 ^ 8) × IsPolynomial d g × ((x : ℕ) → f x ≡ plus c (times x (g x)))

-- elements that all differ
abbrev pub ArePoints : List ℕ → Type 0
ArePoints points = AreBytes points × AllPairs (λ p q. p ≢ q) points
