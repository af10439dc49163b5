-- Ascending ids, where one is looked for and let go.
use Rattle.std.proofs.Common.{◌≡◌, ◌≢◌, ◌⊎◌, inl, inr, ℕ, suc, ◌+◌, ◌<◌, ◌≤◌, ◌==◌, not, Bool, true, false, List, [], ◌∷◌, ◌++◌, length, take, drop, filter, get_or, All, is_some, slice_get, refl, ap, ap₂, sym, subst, ◌∙◌, arith}
use Rattle.std.specs.List.{list_any, items_where_true}
use Rattle.std.specs.List.Sorted.{IsStrictlyIncreasing}
use Rattle.std.proofs.lemmas.Bool.{ne_eqb, eq-eqb, eqb-true, cases_eq, cases_lt, cases_order}
use Rattle.std.proofs.lemmas.Grind.{get_or_picked}
use Rattle.std.proofs.lemmas.List.{length-take, drop-append-le, drop-take, drop-drop}
use Rattle.std.proofs.lemmas.List.Elements.{All-from_get_or}
use Rattle.std.proofs.lemmas.List.Kept.{IsStrictlyIncreasing-filter}
use Rattle.proof_tools.proofs.AscendingWithout.{others-stay, one-goes}
use Rattle.proof_tools.proofs.AscendingNumbers.{IsStrictlyIncreasing-tail, IsStrictlyIncreasing-first, IsStrictlyIncreasing-nil, IsStrictlyIncreasing-cons, IsStrictlyIncreasing-far}

-- a removal behind the ids that are gone
pub drop-remove : (gone place : ℕ) (xs : List ℕ) → gone ≤ length xs
    → drop gone (take (gone + place) xs ++ drop (suc (gone + place)) xs) ≡ take place (drop gone xs) ++ drop (place + 1) (drop gone xs)
drop-remove gone place xs within =
    drop-append-le gone (take (gone + place) xs) (drop (suc (gone + place)) xs) (omega (arith, length-take (gone + place) xs))
    ∙ ap₂ (λ (ys zs : List ℕ). ys ++ zs) (drop-take gone place xs) (ap (λ n. drop n xs) next ∙ sym (drop-drop (place + 1) gone xs))
  where
    next : suc (gone + place) ≡ gone + (place + 1)
    next = omega arith

-- what is left when one of a place goes, and when the first does, ascends
pub IsStrictlyIncreasing-without : (place : ℕ) (xs : List ℕ) → place < length xs → IsStrictlyIncreasing xs
    → IsStrictlyIncreasing (take place xs ++ drop (place + 1) xs)
IsStrictlyIncreasing-without place xs within strict =
    let gone = one-goes (get_or xs place 0) place xs (λ k below. IsStrictlyIncreasing-far xs k place strict below within) within refl strict in
    subst IsStrictlyIncreasing gone.1 (IsStrictlyIncreasing-filter (λ other. not (other == get_or xs place 0)) xs strict)

pub IsStrictlyIncreasing-rest : (xs : List ℕ) → IsStrictlyIncreasing xs → IsStrictlyIncreasing (drop 1 xs)
IsStrictlyIncreasing-rest [] strict = strict
IsStrictlyIncreasing-rest (x ∷ xs) strict = IsStrictlyIncreasing-tail x xs strict

All-picked : (P : ℕ → Type 0) (bs : List Bool) (xs : List ℕ) → All P xs → All P (items_where_true bs xs)
All-picked P bs xs all =
    All-from_get_or P (items_where_true bs xs) 0
    (λ k within. let at = (get_or_picked bs xs k 0 within).1 in subst P (sym at.2) (all at.0 0 at.1))

-- and so does what is kept of a list
pub IsStrictlyIncreasing-picked : (bs : List Bool) (xs : List ℕ) → IsStrictlyIncreasing xs → IsStrictlyIncreasing (items_where_true bs xs)
IsStrictlyIncreasing-picked [] xs strict = IsStrictlyIncreasing-nil
IsStrictlyIncreasing-picked (b ∷ bs) [] strict = IsStrictlyIncreasing-nil
IsStrictlyIncreasing-picked (true ∷ bs) (x ∷ xs) strict =
    IsStrictlyIncreasing-cons x (items_where_true bs xs) (All-picked (λ y. x < y) bs xs (IsStrictlyIncreasing-first x xs strict))
    (IsStrictlyIncreasing-picked bs xs (IsStrictlyIncreasing-tail x xs strict))
IsStrictlyIncreasing-picked (false ∷ bs) (x ∷ xs) strict = IsStrictlyIncreasing-picked bs xs (IsStrictlyIncreasing-tail x xs strict)

-- where the id of a place that none before reaches is another one, or none, the list hasn't the id
pub has-not : (oid place : ℕ) (xs : List ℕ) → ((k : ℕ) → k < place → get_or xs k 0 < oid) → (place < length xs → get_or xs place 0 ≢ oid)
    → ((k : ℕ) → place ≤ k → k < length xs → oid ≤ get_or xs k 0) → IsStrictlyIncreasing xs
    → (list_any (λ other. other == oid) xs ≡ false) × (filter (λ other. not (other == oid)) xs ≡ xs)
has-not oid place xs low apart high strict = others-stay oid xs (λ k within same. by_order k within same (cases_order k place))
  where
    by_order : (k : ℕ) → k < length xs → get_or xs k 0 ≡ oid → (k ≡ place) ⊎ ((k < place) ⊎ (place < k)) → ⊥
    by_order k within same (inl here) = apart (omega (arith, here, within)) (ap (λ (j : ℕ). get_or xs j 0) (sym here) ∙ same)
    by_order k within same (inr (inl before)) = let less = low k before in omega (arith, less, same)
    by_order k within same (inr (inr behind)) =
        let above = high place (omega arith) (omega arith) in
        let less = IsStrictlyIncreasing-far xs place k strict behind within in
        omega (arith, above, less, same)

module _ (oid place : ℕ) (xs : List ℕ) (low : (k : ℕ) → k < place → get_or xs k 0 < oid)
    (high : (k : ℕ) → place ≤ k → k < length xs → oid ≤ get_or xs k 0) (strict : IsStrictlyIncreasing xs) where
  -- the list has the id exactly if it stands at the place
  pub has-at : place < length xs → (get_or xs place 0 == oid) ≡ list_any (λ other. other == oid) xs
  has-at within = elim (cases_eq (get_or xs place 0) oid) [
    | inl here ↦ (eq-eqb (get_or xs place 0) oid here ∙ sym (one-goes oid place xs low within here strict).0)
    | inr apart ↦ (ne_eqb (get_or xs place 0) oid apart ∙ sym (has-not oid place xs low (λ _. apart) high strict).0)
  ]

  pub found-at : list_any (λ other. other == oid) xs ≡ true → (place < length xs) × (get_or xs place 0 ≡ oid)
  found-at has = elim (cases_lt place (length xs)) [
    | inl within ↦ (within, eqb-true (get_or xs place 0) oid (has-at within ∙ has))
    | inr past ↦ (let none = (has-not oid place xs low (λ within. absurd (omega arith)) high strict).0 in cc)
  ]

pub first-there : (xs : List ℕ) → is_some (slice_get xs 0) ≡ true → 0 < length xs
first-there [] is = cc
first-there (x ∷ xs) is = omega arith
