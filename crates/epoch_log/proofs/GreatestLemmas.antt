-- The greatest number up to a limit that passes a test.
use Rattle.std.proofs.Common.{◌≡◌, ◌≢◌, ◌⊎◌, inl, inr, ℕ, zero, suc, ◌<◌, ◌≤◌, ◌&&◌, nat_lt, Bool, true, false, cond, refl, ap, sym, ◌∙◌, arith}
use Rattle.std.proofs.lemmas.Bool.{cases_eq, ltb-true, ltb-false, false_from_ne_true, cond_both}
use Rattle.epoch_log.specs.Epochs.{greatest}

pub greatest-most : (p : ℕ → Bool) (n : ℕ) → greatest p n ≤ n
greatest-most p zero = omega arith
greatest-most p (suc n) =
    let below : greatest p n ≤ n = greatest-most p n in
    cond_both (p (suc n)) (suc n) (greatest p n) (λ (g : ℕ). g ≤ suc n) (λ _. omega arith) (λ _. omega arith)

pub greatest-passes : (p : ℕ → Bool) (n : ℕ) → 1 ≤ greatest p n → p (greatest p n) ≡ true
greatest-passes p zero = λ some. absurd (omega arith)
greatest-passes p (suc n) =
    let below : 1 ≤ greatest p n → p (greatest p n) ≡ true = greatest-passes p n in
    cond_both (p (suc n)) (suc n) (greatest p n) (λ (g : ℕ). 1 ≤ g → p g ≡ true) (λ holds some. holds) (λ _. below)

pub greatest-bound : (p : ℕ → Bool) (n k : ℕ) → 1 ≤ k → k ≤ n → p k ≡ true → k ≤ greatest p n
greatest-bound p zero k some within passes = absurd (omega arith)
greatest-bound p (suc n) k some within passes =
    let below : k ≤ n → k ≤ greatest p n = λ (in' : k ≤ n). greatest-bound p n k some in' passes in
    cond_both (p (suc n)) (suc n) (greatest p n) (λ (g : ℕ). k ≤ g) (λ _. within) (λ fails. apart fails below)
  where
    apart : p (suc n) ≡ false → (k ≤ n → k ≤ greatest p n) → k ≤ greatest p n
    apart fails below = elim (cases_eq k (suc n)) [
      | inl same ↦ (let e : p k ≡ p (suc n) = ap p same in cc)
      | inr other ↦ below (omega arith)
    ]

pub greatest-same : (p q : ℕ → Bool) (n : ℕ) → ((k : ℕ) → 1 ≤ k → k ≤ n → q k ≡ p k) → greatest q n ≡ greatest p n
greatest-same p q zero same = refl
greatest-same p q (suc n) same =
    let here : q (suc n) ≡ p (suc n) = same (suc n) (omega arith) (omega arith) in
    let below : greatest q n ≡ greatest p n = greatest-same p q n (λ k some within. same k some (omega arith)) in
    ap (λ b. cond b (suc n) (greatest q n)) here ∙ ap (λ g. cond (p (suc n)) (suc n) g) below

-- more numbers that pass, or more numbers, leave it or raise it
pub greatest-grows : (p q : ℕ → Bool) (n m : ℕ) → n ≤ m → ((k : ℕ) → 1 ≤ k → k ≤ n → p k ≡ true → q k ≡ true) → greatest p n ≤ greatest q m
greatest-grows p q n m longer more = elim (cases_eq (greatest p n) 0) [
  | inl none ↦ omega arith
  | inr some ↦ (
      let bound : greatest p n ≤ n = greatest-most p n in
      greatest-bound q m (greatest p n) (omega arith) (omega arith)
      (more (greatest p n) (omega arith) bound (greatest-passes p n (omega arith))))
]

-- the test may change at one number, and only from no to yes
pub greatest-one : (p q : ℕ → Bool) (n k : ℕ) → 1 ≤ k → k ≤ n → ((j : ℕ) → j ≢ k → q j ≡ p j) → (p k ≡ true → q k ≡ true)
    → greatest q n ≡ cond (q k && nat_lt (greatest p n) k) k (greatest p n)
greatest-one p q n k some within other more = by_test (q k) refl
  where
    same_at : q k ≡ false → (j : ℕ) → (j ≡ k) ⊎ (j ≢ k) → q j ≡ p j
    same_at fails j (inl same) =
        let was : p k ≡ false = false_from_ne_true (p k) (λ passed. (let now : q k ≡ true = more passed in cc)) in
        ap q same ∙ fails ∙ sym (ap p same ∙ was)
    same_at fails j (inr apart) = other j apart

    passes_at : (j : ℕ) → (j ≡ k) ⊎ (j ≢ k) → p j ≡ true → q j ≡ true
    passes_at j (inl same) passed = ap q same ∙ more (sym (ap p same) ∙ passed)
    passes_at j (inr apart) passed = other j apart ∙ passed

    at_most : (g : ℕ) → (g ≡ k) ⊎ (g ≢ k) → 1 ≤ g → g ≤ n → q g ≡ true → (g ≡ k) ⊎ (g ≤ greatest p n)
    at_most g (inl same) first in' passed = inl same
    at_most g (inr apart) first in' passed = inr (greatest-bound p n g first in' (sym (other g apart) ∙ passed))

    by_order : (b : Bool) → nat_lt (greatest p n) k ≡ b → q k ≡ true → greatest q n ≡ cond b k (greatest p n)
    by_order true less holds =
        let below : greatest p n < k = ltb-true (greatest p n) k less in
        let least : k ≤ greatest q n = greatest-bound q n k some within holds in
        let most : greatest q n ≤ n = greatest-most q n in
        elim (at_most (greatest q n) (cases_eq (greatest q n) k) (omega arith) most (greatest-passes q n (omega arith))) [
          | inl same ↦ same
          | inr lower ↦ omega arith
        ]
    by_order false less holds =
        let above : k ≤ greatest p n = ltb-false (greatest p n) k less in
        let least : greatest p n ≤ greatest q n = greatest-grows p q n n (omega arith) (λ j _ _ passed. passes_at j (cases_eq j k) passed) in
        let most : greatest q n ≤ n = greatest-most q n in
        elim (at_most (greatest q n) (cases_eq (greatest q n) k) (omega arith) most (greatest-passes q n (omega arith))) [
          | inl same ↦ omega arith
          | inr lower ↦ omega arith
        ]

    by_test : (b : Bool) → q k ≡ b → greatest q n ≡ cond (b && nat_lt (greatest p n) k) k (greatest p n)
    by_test true holds = by_order (nat_lt (greatest p n) k) refl holds
    by_test false fails = greatest-same p q n (λ j _ _. same_at fails j (cases_eq j k))
