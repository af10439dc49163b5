-- Membership in a list by recursion, which proofs by cases find easier than places.
use Rattle.std.proofs.Common.{◌≡◌, ◌⊎◌, ℕ, zero, suc, ◌<◌, Bool, true, false, cond, List, [], ◌∷◌, ◌++◌, length, get_or, map, filter, flat_map, Contains, refl, sym, ap, ◌∙◌, subst, inl, inr, arith}

abbrev pub In : {X : Type 0} → X → List X → Type 0
In x [] = ⊥
In x (y ∷ ys) = (y ≡ x) ⊎ In x ys

pub in_at : {X : Type 0} (xs : List X) (k : ℕ) (d : X) → k < length xs → In (get_or xs k d) xs
in_at [] k d h = absurd (omega arith)
in_at (x ∷ xs) zero d h = inl refl
in_at (x ∷ xs) (suc k) d h = inr (in_at xs k d (omega arith))

pub in_from_contains : {X : Type 0} (xs : List X) (x : X) → Contains xs x → In x xs
in_from_contains {X} xs x h = let P : X → Type 0 = λ y. In y xs in subst P h.2 (in_at xs h.0 x h.1)

pub contains_from_in : {X : Type 0} (xs : List X) (x : X) → In x xs → Contains xs x
contains_from_in [] x h = absurd h
contains_from_in (y ∷ ys) x (inl e) = (0, omega arith, e)
contains_from_in (y ∷ ys) x (inr h) = go (contains_from_in ys x h)
  where
    go : Contains ys x → Contains (y ∷ ys) x
    go c = (suc c.0, omega arith, c.2)

pub in_append_left : {X : Type 0} (xs ys : List X) (x : X) → In x xs → In x (xs ++ ys)
in_append_left [] ys x h = absurd h
in_append_left (y ∷ xs) ys x (inl e) = inl e
in_append_left (y ∷ xs) ys x (inr h) = inr (in_append_left xs ys x h)

pub in_append_right : {X : Type 0} (xs ys : List X) (x : X) → In x ys → In x (xs ++ ys)
in_append_right [] ys x h = h
in_append_right (y ∷ xs) ys x h = inr (in_append_right xs ys x h)

pub in_append : {X : Type 0} (xs ys : List X) (x : X) → In x (xs ++ ys) → In x xs ⊎ In x ys
in_append [] ys x h = inr h
in_append (y ∷ xs) ys x (inl e) = inl (inl e)
in_append (y ∷ xs) ys x (inr h) = elim (in_append xs ys x h) [ inl a ↦ inl (inr a) | inr b ↦ inr b ]

pub in_map : {X Y : Type 0} (f : X → Y) (xs : List X) (x : X) → In x xs → In (f x) (map f xs)
in_map f [] x h = absurd h
in_map f (y ∷ xs) x (inl e) = inl (ap f e)
in_map f (y ∷ xs) x (inr h) = inr (in_map f xs x h)

-- what a map holds is the function of some element
pub from_map : {X Y : Type 0} (f : X → Y) (xs : List X) (y : Y) → In y (map f xs) → (x : X) × In x xs × (f x ≡ y)
from_map f [] y h = absurd h
from_map f (x ∷ xs) y (inl e) = (x, inl refl, e)
from_map {X} {Y} f (x ∷ xs) y (inr h) = go (from_map f xs y h)
  where
    go : (z : X) × In z xs × (f z ≡ y) → (z : X) × In z (x ∷ xs) × (f z ≡ y)
    go r = (r.0, inr r.1, r.2)

pub in_flat_map : {X Y : Type 0} (f : X → List Y) (xs : List X) (x : X) (y : Y) → In x xs → In y (f x) → In y (flat_map f xs)
in_flat_map f [] x y h k = absurd h
in_flat_map {X} {Y} f (z ∷ xs) x y (inl e) k =
    let P : X → Type 0 = λ w. In y (f w) in in_append_left (f z) (flat_map f xs) y (subst P (sym e) k)
in_flat_map f (z ∷ xs) x y (inr h) k = in_append_right (f z) (flat_map f xs) y (in_flat_map f xs x y h k)

pub from_flat_map : {X Y : Type 0} (f : X → List Y) (xs : List X) (y : Y) → In y (flat_map f xs) → (x : X) × In x xs × In y (f x)
from_flat_map f [] y h = absurd h
from_flat_map {X} {Y} f (z ∷ xs) y h = go (in_append (f z) (flat_map f xs) y h) (λ k. from_flat_map f xs y k)
  where
    go : In y (f z) ⊎ In y (flat_map f xs) → (In y (flat_map f xs) → (x : X) × In x xs × In y (f x))
        → (x : X) × In x (z ∷ xs) × In y (f x)
    go (inl a) ih = (z, inl refl, a)
    go (inr b) ih = let r = ih b in (r.0, inr r.1, r.2)

pub in_filter : {X : Type 0} (p : X → Bool) (xs : List X) (x : X) → In x xs → p x ≡ true → In x (filter p xs)
in_filter p [] x h t = absurd h
in_filter p (y ∷ xs) x h t = go (p y) refl h (λ k. in_filter p xs x k t)
  where
    go : (b : Bool) → p y ≡ b → (y ≡ x) ⊎ In x xs → (In x xs → In x (filter p xs)) → In x (cond b (y ∷ filter p xs) (filter p xs))
    go true e (inl same) ih = inl same
    go true e (inr k) ih = inr (ih k)
    go false e (inl same) ih = absurd (cc (ap p same, e, t))
    go false e (inr k) ih = ih k

pub from_filter : {X : Type 0} (p : X → Bool) (xs : List X) (x : X) → In x (filter p xs) → In x xs × (p x ≡ true)
from_filter p [] x h = absurd h
from_filter p (y ∷ xs) x h = go (p y) refl h (λ k. from_filter p xs x k)
  where
    go : (b : Bool) → p y ≡ b → In x (cond b (y ∷ filter p xs) (filter p xs)) → (In x (filter p xs) → In x xs × (p x ≡ true))
        → In x (y ∷ xs) × (p x ≡ true)
    go true e (inl same) ih = (inl same, ap p (sym same) ∙ e)
    go true e (inr k) ih = let r = ih k in (inr r.0, r.1)
    go false e k ih = let r = ih k in (inr r.0, r.1)
