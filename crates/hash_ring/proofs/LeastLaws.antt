-- The least of some numbers is one of them, and none is less.
use Rattle.std.proofs.Common.{◌≡◌, ◌⊎◌, ℕ, ◌≤◌, min, List, [], ◌∷◌, fold, refl, sym, ◌∙◌, inl, inr, arith}
use Rattle.hash_ring.specs.Placement.{least}
use Rattle.hash_ring.proofs.InLaws.{In}

min_is_one : (a b : ℕ) → (min a b ≡ a) ⊎ (min a b ≡ b)
min_is_one a b = grind arith

fold_is_one : (first : ℕ) (rest : List ℕ) → (first ≡ fold min first rest) ⊎ In (fold min first rest) rest
fold_is_one first [] = inl refl
fold_is_one first (x ∷ xs) = go (fold_is_one (min first x) xs) (min_is_one first x)
  where
    go : (min first x ≡ fold min (min first x) xs) ⊎ In (fold min (min first x) xs) xs → (min first x ≡ first) ⊎ (min first x ≡ x)
        → (first ≡ fold min (min first x) xs) ⊎ In (fold min (min first x) xs) (x ∷ xs)
    go (inl e) (inl f) = inl (sym f ∙ e)
    go (inl e) (inr f) = inr (inl (sym f ∙ e))
    go (inr k) f = inr (inr k)

fold_least : (first : ℕ) (rest : List ℕ) → (fold min first rest ≤ first) × ((x : ℕ) → In x rest → fold min first rest ≤ x)
fold_least first [] = (omega arith, λ x h. absurd h)
fold_least first (y ∷ ys) = go (fold_least (min first y) ys)
  where
    each : (fold min (min first y) ys ≤ min first y) × ((x : ℕ) → In x ys → fold min (min first y) ys ≤ x)
        → (x : ℕ) → (y ≡ x) ⊎ In x ys → fold min (min first y) ys ≤ x
    each ih x (inl e) = let h : fold min (min first y) ys ≤ min first y = ih.0 in omega arith
    each ih x (inr k) = ih.1 x k

    go : (fold min (min first y) ys ≤ min first y) × ((x : ℕ) → In x ys → fold min (min first y) ys ≤ x)
        → (fold min (min first y) ys ≤ first) × ((x : ℕ) → In x (y ∷ ys) → fold min (min first y) ys ≤ x)
    go ih = ((let h : fold min (min first y) ys ≤ min first y = ih.0 in omega arith), each ih)

-- where there is a number, the least is one of them
pub least_is_one : (xs : List ℕ) (x : ℕ) → In x xs → In (least xs) xs
least_is_one [] x h = absurd h
least_is_one (first ∷ rest) x h = fold_is_one first rest

pub least_le : (xs : List ℕ) (x : ℕ) → In x xs → least xs ≤ x
least_le [] x h = absurd h
least_le (first ∷ rest) x (inl e) =
    let h : fold min first rest ≤ first = (fold_least first rest).0 in omega arith
least_le (first ∷ rest) x (inr k) = (fold_least first rest).1 x k
