-- The order of places: it is total, and `in_order` brings the same places into it.
use Rattle.std.proofs.Common.{◌≡◌, ◌⊎◌, ℕ, ◌<◌, ◌≤◌, Bool, true, false, cond, List, [], ◌∷◌, refl, subst, inl, inr, arith}
use Rattle.std.specs.Prelude.{◌==◌, nat_lt, nat_le, ◌&&◌, ◌||◌}
use Rattle.hash_ring.specs.Placement.{Place, comes_first, ComesFirst, put_in, places_in_order}
use Rattle.hash_ring.proofs.InLaws.{In}

pub comes_first_itself : (p : Place) → ComesFirst p p
comes_first_itself p = inr (refl, omega arith)

pub comes_first_then : (p q r : Place) → ComesFirst p q → ComesFirst q r → ComesFirst p r
comes_first_then p q r h k = grind arith

-- places at one distance, of one node and of one zone
pub same_parts : (p q : Place) → p.distance ≡ q.distance → p.node.0 ≡ q.node.0 → p.zone ≡ q.zone → p ≡ q
same_parts p q d n z = λ i. record { distance = d i; node = record { 0 = n i }; zone = z i }

same_distance : (a b m n : ℕ) → (a < b) ⊎ ((a ≡ b) × (m ≤ n)) → (b < a) ⊎ ((b ≡ a) × (n ≤ m)) → a ≡ b
same_distance a b m n h k = grind arith

same_number : (a b m n : ℕ) → (a < b) ⊎ ((a ≡ b) × (m ≤ n)) → (b < a) ⊎ ((b ≡ a) × (n ≤ m)) → m ≡ n
same_number a b m n h k = grind arith

-- neither of two places of one zone comes after the other: they are one
pub same_place : (p q : Place) → ComesFirst p q → ComesFirst q p → p.zone ≡ q.zone → p ≡ q
same_place p q h k z =
    same_parts p q (same_distance p.distance q.distance p.node.0 q.node.0 h k)
    (same_number p.distance q.distance p.node.0 q.node.0 h k) z

test_true : (a b m n : ℕ) → (nat_lt a b || (a == b && nat_le m n)) ≡ true → (a < b) ⊎ ((a ≡ b) × (m ≤ n))
test_true a b m n e = grind arith

test_false : (a b m n : ℕ) → (nat_lt a b || (a == b && nat_le m n)) ≡ false → (b < a) ⊎ ((b ≡ a) × (n ≤ m))
test_false a b m n e = grind arith

-- each place comes first of those after it
abbrev pub IsInOrder : List Place → Type 0
IsInOrder [] = Unit {0}
IsInOrder (p ∷ ps) = ((q : Place) → In q ps → ComesFirst p q) × IsInOrder ps

pub from_put_in : (p : Place) (ps : List Place) (q : Place) → In q (put_in p ps) → (p ≡ q) ⊎ In q ps
from_put_in p [] q h = h
from_put_in p (first ∷ rest) q h = go (comes_first p first) h (λ k. from_put_in p rest q k)
  where
    go : (b : Bool) → In q (cond b (p ∷ first ∷ rest) (first ∷ put_in p rest)) → (In q (put_in p rest) → (p ≡ q) ⊎ In q rest)
        → (p ≡ q) ⊎ In q (first ∷ rest)
    go true k ih = k
    go false (inl e) ih = inr (inl e)
    go false (inr k) ih = elim (ih k) [ inl e ↦ inl e | inr j ↦ inr (inr j) ]

pub in_put_in : (p : Place) (ps : List Place) (q : Place) → (p ≡ q) ⊎ In q ps → In q (put_in p ps)
in_put_in p [] q h = h
in_put_in p (first ∷ rest) q h = go (comes_first p first) h (λ k. in_put_in p rest q k)
  where
    go : (b : Bool) → (p ≡ q) ⊎ In q (first ∷ rest) → ((p ≡ q) ⊎ In q rest → In q (put_in p rest))
        → In q (cond b (p ∷ first ∷ rest) (first ∷ put_in p rest))
    go true k ih = k
    go false (inl e) ih = inr (ih (inl e))
    go false (inr (inl e)) ih = inl e
    go false (inr (inr j)) ih = inr (ih (inr j))

pub put_in_ordered : (p : Place) (ps : List Place) → IsInOrder ps → IsInOrder (put_in p ps)
put_in_ordered p [] up = ((λ q h. absurd h), tt)
put_in_ordered p (first ∷ rest) up = go (comes_first p first) refl (put_in_ordered p rest up.1)
  where
    before : ComesFirst p first → (q : Place) → In q (first ∷ rest) → ComesFirst p q
    before h q (inl e) = let P : Place → Type 0 = λ r. ComesFirst p r in subst P e h
    before h q (inr k) = comes_first_then p first q h (up.0 q k)

    behind : ComesFirst first p → (q : Place) → (p ≡ q) ⊎ In q rest → ComesFirst first q
    behind h q (inl e) = let P : Place → Type 0 = λ r. ComesFirst first r in subst P e h
    behind h q (inr k) = up.0 q k

    go : (b : Bool) → comes_first p first ≡ b → IsInOrder (put_in p rest)
        → IsInOrder (cond b (p ∷ first ∷ rest) (first ∷ put_in p rest))
    go true e ih = (before (test_true p.distance first.distance p.node.0 first.node.0 e), up)
    go false e ih =
        ((λ q k. behind (test_false p.distance first.distance p.node.0 first.node.0 e) q (from_put_in p rest q k)), ih)

pub in_order_ordered : (ps : List Place) → IsInOrder (places_in_order ps)
in_order_ordered [] = tt
in_order_ordered (p ∷ ps) = put_in_ordered p (places_in_order ps) (in_order_ordered ps)

pub from_in_order : (ps : List Place) (q : Place) → In q (places_in_order ps) → In q ps
from_in_order [] q h = h
from_in_order (p ∷ ps) q h = go (from_put_in p (places_in_order ps) q h) (λ k. from_in_order ps q k)
  where
    go : (p ≡ q) ⊎ In q (places_in_order ps) → (In q (places_in_order ps) → In q ps) → (p ≡ q) ⊎ In q ps
    go (inl e) ih = inl e
    go (inr k) ih = inr (ih k)

pub into_in_order : (ps : List Place) (q : Place) → In q ps → In q (places_in_order ps)
into_in_order [] q h = h
into_in_order (p ∷ ps) q (inl e) = in_put_in p (places_in_order ps) q (inl e)
into_in_order (p ∷ ps) q (inr h) = in_put_in p (places_in_order ps) q (inr (into_in_order ps q h))
