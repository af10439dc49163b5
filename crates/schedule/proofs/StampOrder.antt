-- A list has exactly one order by a number of its elements in which those of equal numbers stay as they were: for kept steps.
use Rattle.std.proofs.Common.{◌≡◌, ℕ, zero, suc, ◌+◌, ◌<◌, ◌≤◌, nat_lt, Bool, true, false, cond, List, [], ◌∷◌, length, get_or, filter, nat_cmp, is_lt, refl, sym, ap, ◌∙◌, arith, inl, inr}
use Rattle.std.proofs.lemmas.Bool.{cond-true, cond-false, cases_Bool}
use Rattle.std.proofs.lemmas.Bool.Decides.{nat_tests}
use Rattle.std.specs.List.Sorted.{ties, IsPermutation, IsNonDecreasingBy, IsSortedByKey, IsStableByKey}
use Rattle.std.proofs.lemmas.List.Sorted.{IsPermutation-refl, IsPermutation-cons, IsPermutation-trans, IsPermutation-swap, IsNonDecreasingBy-from_sort}

-- whether a sort by number takes two numbers for equal
abbrev is_tie : ℕ → ℕ → Bool
is_tie = ties (λ (m n : ℕ). is_lt (nat_cmp m n))

is_tie-true : (m n : ℕ) → is_tie m n ≡ true → m ≡ n
is_tie-true m n h = grind (arith, nat_tests)

is_tie-from : (m n : ℕ) → m ≡ n → is_tie m n ≡ true
is_tie-from m n h = grind (arith, nat_tests)

not_below : (m n : ℕ) → m ≤ n → is_lt (nat_cmp n m) ≡ false
not_below m n le = grind (arith, nat_tests)

below : (m n : ℕ) → nat_lt m n ≡ true → m < n
below m n h = grind (arith, nat_tests)

at_least : (m n : ℕ) → nat_lt m n ≡ false → n ≤ m
at_least m n h = grind (arith, nat_tests)

module _ {X : Type 0} where
  filter-kept : (p : X → Bool) (y : X) (ys : List X) → p y ≡ true → filter p (y ∷ ys) ≡ y ∷ filter p ys
  filter-kept p y ys h = cond-true _ _ _ h

  filter-dropped : (p : X → Bool) (y : X) (ys : List X) → p y ≡ false → filter p (y ∷ ys) ≡ filter p ys
  filter-dropped p y ys h = cond-false _ _ _ h

module _ {X : Type 0} (key : X → ℕ) where
  -- x put before the first element whose key isn't below its own
  unfoldable pub insert_by_key : X → List X → List X
  insert_by_key x [] = x ∷ []
  insert_by_key x (y ∷ ys) = cond (nat_lt (key y) (key x)) (y ∷ insert_by_key x ys) (x ∷ y ∷ ys)

  -- the elements by key; those of equal keys stay as they were
  unfoldable pub by_key : List X → List X
  by_key [] = []
  by_key (x ∷ xs) = insert_by_key x (by_key xs)

  -- whether a sort by key takes two elements for equal
  abbrev same_key : X → X → Bool
  same_key = ties (λ (x y : X). is_lt (nat_cmp (key x) (key y)))

  same_key-true : (x y : X) → same_key x y ≡ true → key x ≡ key y
  same_key-true x y = is_tie-true (key x) (key y)

  same_key-from : (x y : X) → key x ≡ key y → same_key x y ≡ true
  same_key-from x y = is_tie-from (key x) (key y)

  -- no key is below the number
  abbrev AreAtLeast : ℕ → List X → Type 0
  AreAtLeast n [] = Unit {0}
  AreAtLeast n (y ∷ ys) = (n ≤ key y) × AreAtLeast n ys

  -- no key is below one before it
  abbrev Rises : List X → Type 0
  Rises [] = Unit {0}
  Rises (y ∷ ys) = AreAtLeast (key y) ys × Rises ys

  AreAtLeast-le : (n m : ℕ) (ys : List X) → n ≤ m → AreAtLeast m ys → AreAtLeast n ys
  AreAtLeast-le n m [] le h = tt
  AreAtLeast-le n m (y ∷ ys) le h = let first = h.0 in (omega arith, AreAtLeast-le n m ys le h.1)

  AreAtLeast-at : (n : ℕ) (d : X) (ys : List X) → ((j : ℕ) → j < length ys → n ≤ key (get_or ys j d)) → AreAtLeast n ys
  AreAtLeast-at n d [] h = tt
  AreAtLeast-at n d (y ∷ ys) h = (h zero (omega arith), AreAtLeast-at n d ys (λ j lt. h (suc j) (omega arith)))

  Rises-from_sort : (ys : List X) → IsNonDecreasingBy key ys → Rises ys
  Rises-from_sort [] h = tt
  Rises-from_sort (y ∷ ys) h = (
    AreAtLeast-at (key y) y ys (λ j lt. h zero (suc j) y (omega arith) (omega arith)),
    Rises-from_sort ys (λ i j d le lt. h (suc i) (suc j) d (omega arith) (omega arith)),
  )

  -- an element of the key of x is among them
  AreAtLeast-found : (n : ℕ) (x : X) (ys : List X) (w : X) (ws : List X) → AreAtLeast n ys → filter (same_key x) ys ≡ w ∷ ws → n ≤ key x
  AreAtLeast-found n x [] w ws h e = cc
  AreAtLeast-found n x (y ∷ ys) w ws h e =
      elim (cases_Bool (same_key x y)) [
        | inl with ↦ omega (arith, h.0, same_key-true x y with)
        | inr without ↦ AreAtLeast-found n x ys w ws h.1 (sym (filter-dropped (same_key x) y ys without) ∙ e)
      ]

  only_rising : (ys zs : List X) → Rises ys → Rises zs → ((x : X) → filter (same_key x) ys ≡ filter (same_key x) zs) → ys ≡ zs
  only_rising [] [] left right same = refl
  only_rising [] (z ∷ zs) left right same =
      let clash = same z ∙ filter-kept (same_key z) z zs (same_key-from z z refl) in cc
  only_rising (y ∷ ys) [] left right same =
      let clash = sym (same y) ∙ filter-kept (same_key y) y ys (same_key-from y y refl) in cc
  only_rising (y ∷ ys) (z ∷ zs) left right same =
      let at_y = filter-kept (same_key y) y ys (same_key-from y y refl) in
      let at_z = filter-kept (same_key z) z zs (same_key-from z z refl) in
      let up = AreAtLeast-found (key z) y (z ∷ zs) y _ (omega arith, right.0) (sym (same y) ∙ at_y) in
      let down = AreAtLeast-found (key y) z (y ∷ ys) z _ (omega arith, left.0) (same z ∙ at_z) in
      let heads = sym at_y ∙ same y ∙ filter-kept (same_key y) z zs (same_key-from y z (omega arith)) in
      let head : y ≡ z = cc in
      let tails : (x : X) → filter (same_key x) ys ≡ filter (same_key x) zs =
      λ x. elim (cases_Bool (same_key x y)) [
        | inl with ↦
            let both = sym (filter-kept (same_key x) y ys with) ∙ same x ∙ filter-kept (same_key x) z zs (ap (same_key x) (sym head) ∙ with) in cc
        | inr without ↦
            sym (filter-dropped (same_key x) y ys without) ∙ same x ∙ filter-dropped (same_key x) z zs (ap (same_key x) (sym head) ∙ without)
      ] in
      ap (λ (w : X). w ∷ ys) head ∙ ap (λ (l : List X). z ∷ l) (only_rising ys zs left.1 right.1 tails)

  pub one-order : (xs ys zs : List X) → IsSortedByKey key nat_cmp ys → IsStableByKey key nat_cmp xs ys
      → IsSortedByKey key nat_cmp zs → IsStableByKey key nat_cmp xs zs → ys ≡ zs
  one-order xs ys zs up stable rise ties =
      only_rising ys zs (Rises-from_sort ys (IsNonDecreasingBy-from_sort key ys up)) (Rises-from_sort zs (IsNonDecreasingBy-from_sort key zs rise))
      (λ x. stable x ∙ sym (ties x))

  insert-permutation : (x : X) (ys : List X) → IsPermutation (x ∷ ys) (insert_by_key x ys)
  unfolding insert_by_key
  insert-permutation x [] = IsPermutation-refl (x ∷ [])
  insert-permutation x (y ∷ ys) = by (insert-permutation x ys) (nat_lt (key y) (key x))
    where
      by : IsPermutation (x ∷ ys) (insert_by_key x ys) → (b : Bool) → IsPermutation (x ∷ y ∷ ys) (cond b (y ∷ insert_by_key x ys) (x ∷ y ∷ ys))
      by rest true =
          IsPermutation-trans _ _ _ (IsPermutation-swap (x ∷ y ∷ ys) (y ∷ x ∷ ys) 0 1 (omega arith) (omega arith) refl)
          (IsPermutation-cons y _ _ rest)
      by rest false = IsPermutation-refl (x ∷ y ∷ ys)

  pub by_key-permutation : (xs : List X) → IsPermutation xs (by_key xs)
  unfolding by_key
  by_key-permutation [] = IsPermutation-refl []
  by_key-permutation (x ∷ xs) = IsPermutation-trans _ _ _ (IsPermutation-cons x _ _ (by_key-permutation xs)) (insert-permutation x (by_key xs))

  AreAtLeast-insert : (n : ℕ) (x : X) (ys : List X) → n ≤ key x → AreAtLeast n ys → AreAtLeast n (insert_by_key x ys)
  unfolding insert_by_key
  AreAtLeast-insert n x [] le h = (le, tt)
  AreAtLeast-insert n x (y ∷ ys) le h = by (AreAtLeast-insert n x ys le h.1) (nat_lt (key y) (key x))
    where
      by : AreAtLeast n (insert_by_key x ys) → (b : Bool) → AreAtLeast n (cond b (y ∷ insert_by_key x ys) (x ∷ y ∷ ys))
      by rest true = (h.0, rest)
      by rest false = (le, h)

  Rises-insert : (x : X) (ys : List X) → Rises ys → Rises (insert_by_key x ys)
  unfolding insert_by_key
  Rises-insert x [] h = (tt, tt)
  Rises-insert x (y ∷ ys) h = by (Rises-insert x ys h.1) (nat_lt (key y) (key x)) refl
    where
      by : Rises (insert_by_key x ys) → (b : Bool) → nat_lt (key y) (key x) ≡ b → Rises (cond b (y ∷ insert_by_key x ys) (x ∷ y ∷ ys))
      by rest true e = (AreAtLeast-insert (key y) x ys (let lt = below _ _ e in omega arith) h.0, rest)
      by rest false e = ((at_least _ _ e, AreAtLeast-le (key x) (key y) ys (at_least _ _ e) h.0), h)

  Rises-by_key : (xs : List X) → Rises (by_key xs)
  unfolding by_key
  Rises-by_key [] = tt
  Rises-by_key (x ∷ xs) = Rises-insert x (by_key xs) (Rises-by_key xs)

  next : (ys : List X) → Rises ys → (k : ℕ) (d : X) → suc k < length ys → key (get_or ys k d) ≤ key (get_or ys (suc k) d)
  next [] h k d lt = absurd (omega arith)
  next (x ∷ []) h k d lt = absurd (omega arith)
  next (x ∷ y ∷ ys) h zero d lt = h.0.0
  next (x ∷ y ∷ ys) h (suc k) d lt = next (y ∷ ys) h.1 k d (omega arith)

  pub by_key-sorted : (xs : List X) → IsSortedByKey key nat_cmp (by_key xs)
  by_key-sorted xs k d low lt =
      let on : suc k ≡ k + 1 = omega arith in
      let up = next (by_key xs) (Rises-by_key xs) k d (omega arith) in
      not_below (key (get_or (by_key xs) k d)) (key (get_or (by_key xs) (k + 1) d)) (omega (arith, ap (λ (i : ℕ). key (get_or (by_key xs) i d)) on))

  filter-insert : (x z : X) (ys : List X) → filter (same_key z) (insert_by_key x ys) ≡ filter (same_key z) (x ∷ ys)
  unfolding insert_by_key
  filter-insert x z [] = refl
  filter-insert x z (y ∷ ys) = by (filter-insert x z ys) (nat_lt (key y) (key x)) refl
    where
      by : filter (same_key z) (insert_by_key x ys) ≡ filter (same_key z) (x ∷ ys) → (b : Bool) → nat_lt (key y) (key x) ≡ b
          → filter (same_key z) (cond b (y ∷ insert_by_key x ys) (x ∷ y ∷ ys)) ≡ filter (same_key z) (x ∷ y ∷ ys)
      by rest true e =
          elim (cases_Bool (same_key z y)) [
            | inr without ↦
                filter-dropped (same_key z) y (insert_by_key x ys) without ∙ rest
                ∙ ap (λ (l : List X). cond (same_key z x) (x ∷ l) l) (sym (filter-dropped (same_key z) y ys without))
            | inl with ↦
                elim (cases_Bool (same_key z x)) [
                  | inl both ↦ absurd (omega (arith, below (key y) (key x) e, same_key-true z x both, same_key-true z y with))
                  | inr only ↦
                      filter-kept (same_key z) y (insert_by_key x ys) with
                      ∙ ap (λ (l : List X). y ∷ l) (rest ∙ filter-dropped (same_key z) x ys only)
                      ∙ sym (filter-dropped (same_key z) x (y ∷ ys) only ∙ filter-kept (same_key z) y ys with)
                ]
          ]
      by rest false e = refl

  pub by_key-stable : (xs : List X) → IsStableByKey key nat_cmp xs (by_key xs)
  unfolding by_key
  by_key-stable [] z = refl
  by_key-stable (x ∷ xs) z =
      filter-insert x z (by_key xs) ∙ ap (λ (l : List X). cond (same_key z x) (x ∷ l) l) (by_key-stable xs z)
