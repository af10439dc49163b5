-- Ascending numbers without one of them.
use Rattle.std.proofs.Common.{◌≡◌, ◌≢◌, inl, inr, ℕ, zero, suc, ◌+◌, ◌<◌, ◌≤◌, ◌==◌, ◌||◌, not, true, false, cond, List, [], ◌∷◌, ◌++◌, length, take, drop, filter, get_or, refl, ap, ◌∙◌, arith}
use Rattle.std.specs.List.{list_any}
use Rattle.std.specs.List.Sorted.{IsNonDecreasing, IsStrictlyIncreasing}
use Rattle.std.proofs.lemmas.Bool.{ne_eqb, eq-eqb, or_parts, cases_lt}
use Rattle.std.proofs.lemmas.List.{get_or_default}
use Rattle.proof_tools.proofs.AscendingNumbers.{IsStrictlyIncreasing-tail, IsStrictlyIncreasing-far}

pub IsNonDecreasing-from_strict : (xs : List ℕ) → IsStrictlyIncreasing xs → IsNonDecreasing xs
IsNonDecreasing-from_strict xs strict i j d most within =
    let far : (i < j) → get_or xs i d ≤ get_or xs j d = λ before. below before (IsStrictlyIncreasing-far xs i j strict before within) in
    elim (cases_lt i j) [
      | inl before ↦ far before
      | inr same ↦ equal (omega arith)
    ]
  where
    below : i < j → get_or xs i 0 < get_or xs j 0 → get_or xs i d ≤ get_or xs j d
    below before less = omega (arith, get_or_default xs i d 0 (omega arith), get_or_default xs j d 0 within, less)

    equal : i ≡ j → get_or xs i d ≤ get_or xs j d
    equal same = let e : get_or xs i d ≡ get_or xs j d = ap (λ (k : ℕ). get_or xs k d) same in omega (arith, e)

-- a list that has not the number is the same without it
pub others-stay : (n : ℕ) (xs : List ℕ) → ((k : ℕ) → k < length xs → get_or xs k 0 ≢ n)
    → (list_any (λ other. other == n) xs ≡ false) × (filter (λ other. not (other == n)) xs ≡ xs)
others-stay n [] apart = (refl, refl)
others-stay n (x ∷ xs) apart =
    let first : (x == n) ≡ false = ne_eqb x n (apart 0 (omega arith)) in
    let rest = others-stay n xs (λ k within. apart (suc k) (omega arith)) in (
      ap (λ b. b || list_any (λ other. other == n) xs) first ∙ rest.0,
      ap (λ b. cond (not b) (x ∷ filter (λ other. not (other == n)) xs) (filter (λ other. not (other == n)) xs)) first ∙ ap (λ ys. x ∷ ys) rest.1,
    )

-- the list has the number at a place, and without it there are those before and behind
pub one-goes : (n place : ℕ) (xs : List ℕ) → ((k : ℕ) → k < place → get_or xs k 0 < n) → place < length xs → get_or xs place 0 ≡ n
    → IsStrictlyIncreasing xs
    → (list_any (λ other. other == n) xs ≡ true) × (filter (λ other. not (other == n)) xs ≡ take place xs ++ drop (place + 1) xs)
one-goes n place [] low within here strict = absurd (omega arith)
one-goes n zero (x ∷ xs) low within here strict =
    let first : (x == n) ≡ true = eq-eqb x n here in
    let rest = others-stay n xs (λ k inside same. above k inside (IsStrictlyIncreasing-far (x ∷ xs) 0 (suc k) strict (omega arith) (omega arith)) same) in (
      ap (λ b. b || list_any (λ other. other == n) xs) first,
      ap (λ b. cond (not b) (x ∷ filter (λ other. not (other == n)) xs) (filter (λ other. not (other == n)) xs)) first ∙ rest.1,
    )
  where
    above : (k : ℕ) → k < length xs → x < get_or xs k 0 → get_or xs k 0 ≡ n → ⊥
    above k inside more same = omega (arith, here, more, same)
one-goes n (suc place) (x ∷ xs) low within here strict =
    let first : (x == n) ≡ false = ne_eqb x n (λ same. let below = low 0 (omega arith) in omega (arith, below, same)) in
    let rest = one-goes n place xs (λ k below. low (suc k) (omega arith)) (omega arith) here (IsStrictlyIncreasing-tail x xs strict) in (
      ap (λ b. b || list_any (λ other. other == n) xs) first ∙ rest.0,
      ap (λ b. cond (not b) (x ∷ filter (λ other. not (other == n)) xs) (filter (λ other. not (other == n)) xs)) first
          ∙ ap (λ ys. x ∷ ys) rest.1 ∙ ap (λ n. x ∷ take place xs ++ drop n (x ∷ xs)) next,
    )
  where
    next : suc (place + 1) ≡ suc place + 1
    next = omega arith

-- so it is where a search finds none
pub none-goes : (n : ℕ) (xs : List ℕ) → list_any (λ other. other == n) xs ≡ false → filter (λ other. not (other == n)) xs ≡ xs
none-goes n [] none = refl
none-goes n (x ∷ xs) none =
    let parts = or_parts (x == n) (list_any (λ other. other == n) xs) none in
    ap (λ b. cond (not b) (x ∷ filter (λ other. not (other == n)) xs) (filter (λ other. not (other == n)) xs)) parts.0
    ∙ ap (λ ys. x ∷ ys) (none-goes n xs parts.1)
