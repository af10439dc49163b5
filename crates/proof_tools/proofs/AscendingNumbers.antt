-- Ascending lists of numbers: their first, their rest, and that each is the only one of what it contains.
use Rattle.std.proofs.Common.{◌≡◌, ◌⊎◌, inl, inr, ℕ, zero, suc, ◌+◌, ◌<◌, List, [], ◌∷◌, length, get_or, All, Contains, refl, sym, subst, arith}
use Rattle.std.specs.List.Sorted.{IsStrictlyIncreasing}
use Rattle.std.proofs.lemmas.Bool.{cases_order}
use Rattle.std.proofs.lemmas.List.Elements.{All-nil, All-cons, All-weaker, All-contains}
use Rattle.proof_tools.proofs.Lists.{Contains-head, Contains-cons, Contains-nil, Contains-cons_cases}

pub IsStrictlyIncreasing-tail : (x : ℕ) (xs : List ℕ) → IsStrictlyIncreasing (x ∷ xs) → IsStrictlyIncreasing xs
IsStrictlyIncreasing-tail x xs up k within =
    let next : suc k + 1 ≡ suc (k + 1) = omega arith in
    let above : get_or (x ∷ xs) (suc k) 0 < get_or (x ∷ xs) (suc k + 1) 0 = up (suc k) (omega arith) in
    subst (λ j. get_or xs k 0 < get_or (x ∷ xs) j 0) next above

-- the first is below all others
pub IsStrictlyIncreasing-first : (x : ℕ) (xs : List ℕ) → IsStrictlyIncreasing (x ∷ xs) → All (λ y. x < y) xs
IsStrictlyIncreasing-first x [] up = All-nil (λ y. x < y)
IsStrictlyIncreasing-first x (y ∷ xs) up =
    let first : x < y = up 0 (omega arith) in
    let rest : All (λ z. y < z) xs = IsStrictlyIncreasing-first y xs (IsStrictlyIncreasing-tail x (y ∷ xs) up) in
    All-cons (λ z. x < z) y xs first (All-weaker (λ z. y < z) (λ z. x < z) (λ z above. omega arith) xs rest)

pub IsStrictlyIncreasing-nil : IsStrictlyIncreasing []
IsStrictlyIncreasing-nil k within = absurd (omega arith)

pub IsStrictlyIncreasing-cons : (x : ℕ) (xs : List ℕ) → All (λ y. x < y) xs → IsStrictlyIncreasing xs → IsStrictlyIncreasing (x ∷ xs)
IsStrictlyIncreasing-cons x xs above up zero within = above 0 0 (omega arith)
IsStrictlyIncreasing-cons x xs above up (suc k) within =
    let next : suc k + 1 ≡ suc (k + 1) = omega arith in
    subst (λ j. get_or xs k 0 < get_or (x ∷ xs) j 0) (sym next) (up k (omega arith))

-- an earlier one is below a later one
pub IsStrictlyIncreasing-far : (xs : List ℕ) (i j : ℕ) → IsStrictlyIncreasing xs → i < j → j < length xs → get_or xs i 0 < get_or xs j 0
IsStrictlyIncreasing-far [] i j up before within = absurd (omega arith)
IsStrictlyIncreasing-far (x ∷ xs) zero zero up before within = absurd (omega arith)
IsStrictlyIncreasing-far (x ∷ xs) zero (suc j) up before within = IsStrictlyIncreasing-first x xs up j 0 (omega arith)
IsStrictlyIncreasing-far (x ∷ xs) (suc i) zero up before within = absurd (omega arith)
IsStrictlyIncreasing-far (x ∷ xs) (suc i) (suc j) up before within = IsStrictlyIncreasing-far xs i j (IsStrictlyIncreasing-tail x xs up) (omega arith) (omega arith)

-- the first of one list can't be below all of the other
no_first : (x : ℕ) (y : ℕ) (ys : List ℕ) → IsStrictlyIncreasing (y ∷ ys) → x < y → Contains (y ∷ ys) x → ⊥
no_first x y ys up below there = elim (Contains-cons_cases y ys x there) [
  | inl same ↦ omega arith
  | inr later ↦ (let above : y < x = All-contains (λ z. y < z) ys x (IsStrictlyIncreasing-first y ys up) later in omega arith)
]

-- what is in both after one first is in both rests
rests : (x : ℕ) (xs ys : List ℕ) → IsStrictlyIncreasing (x ∷ xs) → ((z : ℕ) → Contains (x ∷ xs) z → Contains (x ∷ ys) z)
    → (z : ℕ) → Contains xs z → Contains ys z
rests x xs ys up in' z there = elim (Contains-cons_cases x ys z (in' z (Contains-cons x xs z there))) [
  | inl same ↦ absurd (let above : x < z = All-contains (λ y. x < y) xs z (IsStrictlyIncreasing-first x xs up) there in omega arith)
  | inr later ↦ later
]

-- ascending lists that contain the same are the same
pub same_ascending : (xs ys : List ℕ) → IsStrictlyIncreasing xs → IsStrictlyIncreasing ys
    → ((z : ℕ) → Contains xs z → Contains ys z) → ((z : ℕ) → Contains ys z → Contains xs z) → xs ≡ ys
same_ascending [] [] up ups in' out = refl
same_ascending [] (y ∷ ys) up ups in' out = absurd (Contains-nil y (out y (Contains-head y ys)))
same_ascending (x ∷ xs) [] up ups in' out = absurd (Contains-nil x (in' x (Contains-head x xs)))
same_ascending (x ∷ xs) (y ∷ ys) up ups in' out =
    by_order (same_ascending xs ys (IsStrictlyIncreasing-tail x xs up) (IsStrictlyIncreasing-tail y ys ups)) (cases_order x y)
  where
    firsts : (((z : ℕ) → Contains xs z → Contains ys z) → ((z : ℕ) → Contains ys z → Contains xs z) → xs ≡ ys) → x ≡ y → x ∷ xs ≡ y ∷ ys
    firsts same_rests same =
        let to : (z : ℕ) → Contains (x ∷ xs) z → Contains (x ∷ ys) z = λ z there. subst (λ first. Contains (first ∷ ys) z) (sym same) (in' z there) in
        let from : (z : ℕ) → Contains (x ∷ ys) z → Contains (x ∷ xs) z = λ z there. out z (subst (λ first. Contains (first ∷ ys) z) same there) in
        let upper : IsStrictlyIncreasing (x ∷ ys) = subst (λ first. IsStrictlyIncreasing (first ∷ ys)) (sym same) ups in
        let rest : xs ≡ ys = same_rests (rests x xs ys up to) (rests x ys xs upper from) in
        cc

    by_order : (((z : ℕ) → Contains xs z → Contains ys z) → ((z : ℕ) → Contains ys z → Contains xs z) → xs ≡ ys)
        → (x ≡ y) ⊎ ((x < y) ⊎ (y < x)) → x ∷ xs ≡ y ∷ ys
    by_order same_rests (inl same) = firsts same_rests same
    by_order same_rests (inr (inl below)) = absurd (no_first x y ys ups below (in' x (Contains-head x xs)))
    by_order same_rests (inr (inr above)) = absurd (no_first y x xs up above (out y (Contains-head y ys)))
