-- What a list contains, and what a filter, a map, a flat map or a search leaves of it.
use Rattle.std.proofs.Common.{◌≡◌, ◌⊎◌, inl, inr, ℕ, zero, suc, ◌<◌, ◌+◌, Bool, true, false, cond, ◌&&◌, List, [], ◌∷◌, ◌++◌, map, filter, flat_map, find, Contains, Some, refl, sym, ap, subst, ◌∙◌, arith, ap₂, All}
use Rattle.std.specs.List.{range_with_len, list_any}
use Rattle.std.proofs.lemmas.Bool.{or_parts}
use Rattle.std.proofs.lemmas.List.Elements.{Contains-append_left, Contains-append_right, All-head, All-tail}
use Rattle.std.proofs.lemmas.Option.{same_Some}

module _ {X : Type 0} where
  pub Contains-nil : (x : X) → Contains [] x → ⊥
  Contains-nil x there = let within : there.0 < 0 = there.1 in omega arith

  pub Contains-first : (y x : X) (xs : List X) → y ≡ x → Contains (y ∷ xs) x
  Contains-first y x xs same = (zero, omega arith, same)

  pub Contains-head : (x : X) (xs : List X) → Contains (x ∷ xs) x
  Contains-head x xs = (zero, omega arith, refl)

  pub Contains-cons : (y : X) (xs : List X) (x : X) → Contains xs x → Contains (y ∷ xs) x
  Contains-cons y xs x there = Contains-append_right (y ∷ []) xs x there

  -- one that is in a list is its first or in its rest
  pub Contains-cons_cases : (y : X) (xs : List X) (x : X) → Contains (y ∷ xs) x → (y ≡ x) ⊎ Contains xs x
  Contains-cons_cases y xs x (zero, within, is) = inl is
  Contains-cons_cases y xs x (suc k, within, is) = inr (k, omega (arith, within), is)

  -- what passes the test stays
  pub Contains-filter : (p : X → Bool) (xs : List X) (x : X) → Contains xs x → p x ≡ true → Contains (filter p xs) x
  Contains-filter p [] x there passes = there
  Contains-filter p (y ∷ ys) x there passes =
      by_test (λ (later : Contains ys x). Contains-filter p ys x later passes) (p y) refl (Contains-cons_cases y ys x there)
    where
      by_test : (Contains ys x → Contains (filter p ys) x) → (b : Bool) → p y ≡ b → (y ≡ x) ⊎ Contains ys x
          → Contains (cond b (y ∷ filter p ys) (filter p ys)) x
      by_test rest true is (inl same) = Contains-first y x (filter p ys) same
      by_test rest true is (inr later) = Contains-cons y (filter p ys) x (rest later)
      by_test rest false is (inl same) = let clash : true ≡ false = sym passes ∙ ap p (sym same) ∙ is in absurd (cc (clash))
      by_test rest false is (inr later) = rest later

  -- what stays was there and passes
  pub filter-contains : (p : X → Bool) (xs : List X) (x : X) → Contains (filter p xs) x → Contains xs x × (p x ≡ true)
  filter-contains p [] x there = absurd (Contains-nil x there)
  filter-contains p (y ∷ ys) x there = by_test (filter-contains p ys x) (p y) refl there
    where
      by_case : (Contains (filter p ys) x → Contains ys x × (p x ≡ true)) → p y ≡ true → (y ≡ x) ⊎ Contains (filter p ys) x
          → Contains (y ∷ ys) x × (p x ≡ true)
      by_case rest is (inl same) = (Contains-first y x ys same, ap p (sym same) ∙ is)
      by_case rest is (inr later) = (Contains-cons y ys x (rest later).0, (rest later).1)

      by_test : (Contains (filter p ys) x → Contains ys x × (p x ≡ true)) → (b : Bool) → p y ≡ b
          → Contains (cond b (y ∷ filter p ys) (filter p ys)) x → Contains (y ∷ ys) x × (p x ≡ true)
      by_test rest true is there = by_case rest is (Contains-cons_cases y (filter p ys) x there)
      by_test rest false is there = (Contains-cons y ys x (rest there).0, (rest there).1)

  -- what is found is there and passes
  pub find-contains : (p : X → Bool) (xs : List X) (x : X) → find p xs ≡ Some x → Contains xs x × (p x ≡ true)
  find-contains p [] x is = absurd (cc (is))
  find-contains p (y ∷ ys) x is = by_test (find-contains p ys x) (p y) refl is
    where
      by_test : (find p ys ≡ Some x → Contains ys x × (p x ≡ true)) → (b : Bool) → p y ≡ b
          → cond b (Some y) (find p ys) ≡ Some x → Contains (y ∷ ys) x × (p x ≡ true)
      by_test rest true passes now = let same : y ≡ x = same_Some y x now in (Contains-first y x ys same, ap p (sym same) ∙ passes)
      by_test rest false fails now = (Contains-cons y ys x (rest now).0, (rest now).1)

  pub filter-filter : (p q : X → Bool) (xs : List X) → filter q (filter p xs) ≡ filter (λ x. p x && q x) xs
  filter-filter p q [] = refl
  filter-filter p q (x ∷ xs) = by_test (p x) (filter-filter p q xs)
    where
      by_test : (b : Bool) → filter q (filter p xs) ≡ filter (λ x. p x && q x) xs
          → filter q (cond b (x ∷ filter p xs) (filter p xs))
          ≡ cond (b && q x) (x ∷ filter (λ x. p x && q x) xs) (filter (λ x. p x && q x) xs)
      by_test true rest = ap (λ ys. cond (q x) (x ∷ ys) ys) rest
      by_test false rest = rest

  -- where none passes, what is in the list doesn't
  pub list_any-none : (p : X → Bool) (xs : List X) (x : X) → list_any p xs ≡ false → Contains xs x → p x ≡ false
  list_any-none p [] x none there = absurd (Contains-nil x there)
  list_any-none p (y ∷ ys) x none there = elim (Contains-cons_cases y ys x there) [
    | inl same ↦ ap p (sym same) ∙ (or_parts (p y) (list_any p ys) none).0
    | inr later ↦ list_any-none p ys x (or_parts (p y) (list_any p ys) none).1 later
  ]

module _ {X Y : Type 0} where
  -- two functions that agree on each element of a list make the same of it
  pub map-agree : (f g : X → Y) (xs : List X) → All (λ x. f x ≡ g x) xs → map f xs ≡ map g xs
  map-agree f g [] same = refl
  map-agree f g (x ∷ xs) same =
      ap₂ ◌∷◌ (All-head (λ z. f z ≡ g z) x xs same) (map-agree f g xs (All-tail (λ z. f z ≡ g z) x xs same))

  pub Contains-map : (f : X → Y) (xs : List X) (x : X) → Contains xs x → Contains (map f xs) (f x)
  Contains-map f [] x there = absurd (Contains-nil x there)
  Contains-map f (y ∷ xs) x there = elim (Contains-cons_cases y xs x there) [
    | inl same ↦ Contains-first (f y) (f x) (map f xs) (ap f same)
    | inr later ↦ Contains-cons (f y) (map f xs) (f x) (Contains-map f xs x later)
  ]

  pub Contains-flat_map : (f : X → List Y) (xs : List X) (x : X) (y : Y) → Contains xs x → Contains (f x) y → Contains (flat_map f xs) y
  Contains-flat_map f [] x y there inside = absurd (Contains-nil x there)
  Contains-flat_map f (z ∷ xs) x y there inside = elim (Contains-cons_cases z xs x there) [
    | inl same ↦ Contains-append_left (f z) (flat_map f xs) y (subst (λ (w : X). Contains (f w) y) (sym same) inside)
    | inr later ↦ Contains-append_right (f z) (flat_map f xs) y (Contains-flat_map f xs x y later inside)
  ]

-- numbers in a row, then those that follow
pub range_with_len-append : (a m n : ℕ) → range_with_len a m ++ range_with_len (a + m) n ≡ range_with_len a (m + n)
range_with_len-append a zero n =
    let same : a + 0 ≡ a = omega arith in
    let all : 0 + n ≡ n = omega arith in
    ap (λ k. range_with_len k n) same ∙ ap (range_with_len a) (sym all)
range_with_len-append a (suc m) n =
    let next : a + suc m ≡ a + 1 + m = omega arith in
    let more : suc m + n ≡ suc (m + n) = omega arith in
    ap (λ k. a ∷ range_with_len (a + 1) m ++ range_with_len k n) next
    ∙ ap (λ xs. a ∷ xs) (range_with_len-append (a + 1) m n) ∙ ap (range_with_len a) (sym more)
