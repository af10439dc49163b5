-- What holds of each number below a bound, by trying them all.
use Rattle.std.proofs.Common.{◌≡◌, ℕ, zero, suc, ◌<◌, Bool, true, false, ◌&&◌, refl, arith, subst, inl, inr}
use Rattle.std.proofs.lemmas.Bool.{cases_lt, and_parts}

-- a test of each number below n
abbrev pub each_below : ℕ → (ℕ → Bool) → Bool
each_below zero p = true
each_below (suc n) p = p n && each_below n p

pub each_below_at : (n : ℕ) (p : ℕ → Bool) → each_below n p ≡ true → (k : ℕ) → k < n → p k ≡ true
each_below_at zero p e k h = absurd (omega arith)
each_below_at (suc n) p e k h =
    elim (cases_lt k n) [
      | inl l ↦ each_below_at n p (and_parts (p n) (each_below n p) e).1 k l
      | inr g ↦
          let i : n ≡ k = omega arith in
          subst (λ j. p j ≡ true) i (and_parts (p n) (each_below n p) e).0
    ]
