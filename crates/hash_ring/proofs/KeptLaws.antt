-- What is kept of places in order, one a zone: the nearest place of each zone, whatever else there is.
use Rattle.std.proofs.Common.{◌≡◌, ◌⊎◌, ℕ, ◌<◌, ◌≤◌, Bool, true, false, cond, List, [], ◌∷◌, map, take, refl, sym, ap, ap₂, ◌∙◌, subst, inl, inr, arith}
use Rattle.std.specs.Prelude.{◌==◌, ◌||◌}
use Rattle.std.proofs.lemmas.Bool.{eqb-true, eqb-false, or_parts}
use Rattle.hash_ring.specs.Placement.{Place, ComesFirst, places_in_order, is_among, one_a_zone, nodes_one_a_zone}
use Rattle.hash_ring.proofs.InLaws.{In}
use Rattle.hash_ring.proofs.OrderLaws.{comes_first_itself, comes_first_then, same_place, IsInOrder, in_order_ordered, from_in_order, into_in_order}

-- no place of its zone comes before it
abbrev pub IsNearest : Place → List Place → Type 0
IsNearest p ps = (q : Place) → In q ps → q.zone ≡ p.zone → ComesFirst p q

pub other_zone : (a b : ℕ) (c : Bool) → ((a == b) || c) ≡ false → (c ≡ false) × ((b ≡ a) → ⊥)
other_zone a b c e = ((or_parts (a == b) c e).1, λ same. eqb-false a b (or_parts (a == b) c e).0 (sym same))

pub kept_is : (seen : List ℕ) (xs : List Place) (p : Place) → IsInOrder xs → In p (one_a_zone seen xs)
    → In p xs × (is_among p.zone seen ≡ false) × IsNearest p xs
kept_is seen [] p up h = absurd h
kept_is seen (x ∷ xs) p up h = go (is_among x.zone seen) refl h (λ k. kept_is (x.zone ∷ seen) xs p up.1 k)
  where
    near : ((p.zone ≡ x.zone) → ⊥) → IsNearest p xs → IsNearest p (x ∷ xs)
    near other ih q (inl e) z = absurd (other (sym (ap (λ (r : Place). r.zone) e ∙ z)))
    near other ih q (inr k) z = ih q k z

    later : In p xs × (is_among p.zone (x.zone ∷ seen) ≡ false) × IsNearest p xs
        → In p (x ∷ xs) × (is_among p.zone seen ≡ false) × IsNearest p (x ∷ xs)
    later r =
        let o = other_zone x.zone p.zone (is_among p.zone seen) r.1 in
        (inr r.0, o.0, near o.1 r.2)

    first : x ≡ p → IsNearest p (x ∷ xs)
    first same q (inl e) z = let P : Place → Type 0 = λ r. ComesFirst r q in subst P same (let Q : Place → Type 0 = λ r. ComesFirst x r in subst Q e (comes_first_itself x))
    first same q (inr k) z = let P : Place → Type 0 = λ r. ComesFirst r q in subst P same (up.0 q k)

    go : (b : Bool) → is_among x.zone seen ≡ b
        → In p (cond b (one_a_zone (x.zone ∷ seen) xs) (x ∷ one_a_zone (x.zone ∷ seen) xs))
        → (In p (one_a_zone (x.zone ∷ seen) xs) → In p xs × (is_among p.zone (x.zone ∷ seen) ≡ false) × IsNearest p xs)
        → In p (x ∷ xs) × (is_among p.zone seen ≡ false) × IsNearest p (x ∷ xs)
    go true e k ih = later (ih k)
    go false e (inl same) ih = (inl same, ap (λ (r : Place). is_among r.zone seen) (sym same) ∙ e, first same)
    go false e (inr k) ih = later (ih k)

pub is_kept : (seen : List ℕ) (xs : List Place) (p : Place) → IsInOrder xs → In p xs → is_among p.zone seen ≡ false
    → IsNearest p xs → In p (one_a_zone seen xs)
is_kept seen [] p up h new near = absurd h
is_kept seen (x ∷ xs) p up h new near =
    go (x.zone == p.zone) refl h (λ k e. is_kept (x.zone ∷ seen) xs p up.1 k e (λ q j z. near q (inr j) z))
  where
    here : (b : Bool) → is_among x.zone seen ≡ b → is_among x.zone seen ≡ false → x ≡ p
        → In p (cond b (one_a_zone (x.zone ∷ seen) xs) (x ∷ one_a_zone (x.zone ∷ seen) xs))
    here true e f same = absurd (cc (e, f))
    here false e f same = inl same

    there : (b : Bool) → In p (one_a_zone (x.zone ∷ seen) xs)
        → In p (cond b (one_a_zone (x.zone ∷ seen) xs) (x ∷ one_a_zone (x.zone ∷ seen) xs))
    there true k = k
    there false k = inr k

    front : (y : Place) → (y ≡ p) ⊎ In p xs → x ≡ y → ComesFirst x p
    front y (inl e) f = let Q : Place → Type 0 = λ r. ComesFirst x r in subst Q (f ∙ e) (comes_first_itself x)
    front y (inr k) f = up.0 p k

    is_first : (x ≡ p) ⊎ In p xs → x.zone ≡ p.zone → x ≡ p
    is_first k z = same_place x p (front x k refl) (near x (inl refl) z) z

    go : (b : Bool) → (x.zone == p.zone) ≡ b → (x ≡ p) ⊎ In p xs
        → (In p xs → is_among p.zone (x.zone ∷ seen) ≡ false → In p (one_a_zone (x.zone ∷ seen) xs))
        → In p (cond (is_among x.zone seen) (one_a_zone (x.zone ∷ seen) xs) (x ∷ one_a_zone (x.zone ∷ seen) xs))
    go true e k ih =
        let same : x ≡ p = is_first k (eqb-true x.zone p.zone e) in
        here (is_among x.zone seen) refl (ap (λ (r : Place). is_among r.zone seen) same ∙ new) same
    go false e (inl same) ih = absurd (eqb-false x.zone p.zone e (ap (λ (r : Place). r.zone) same))
    go false e (inr k) ih = there (is_among x.zone seen) (ih k (ap (λ b. b || is_among p.zone seen) e ∙ new))

abbrev pub ComesStrictly : Place → Place → Type 0
ComesStrictly p q = (p.distance < q.distance) ⊎ ((p.distance ≡ q.distance) × (p.node.0 < q.node.0))

abbrev pub IsRising : List Place → Type 0
IsRising [] = Unit {0}
IsRising (p ∷ ps) = ((q : Place) → In q ps → ComesStrictly p q) × IsRising ps

-- the places of one node have one zone
abbrev pub NodesKeepZones : List Place → Type 0
NodesKeepZones ps = (p q : Place) → In p ps → In q ps → p.node.0 ≡ q.node.0 → p.zone ≡ q.zone

strictly : (a b m n : ℕ) → (a < b) ⊎ ((a ≡ b) × (m ≤ n)) → (m ≡ n → ⊥) → (a < b) ⊎ ((a ≡ b) × (m < n))
strictly a b m n (inl h) other = inl h
strictly a b m n (inr h) other = inr (h.0, omega (arith, h.1, other))

pub kept_rises : (seen : List ℕ) (xs : List Place) → IsInOrder xs → NodesKeepZones xs → IsRising (one_a_zone seen xs)
kept_rises seen [] up zones = tt
kept_rises seen (x ∷ xs) up zones =
    go (is_among x.zone seen) (kept_rises (x.zone ∷ seen) xs up.1 (λ p q i j e. zones p q (inr i) (inr j) e))
  where
    head : (q : Place) → In q (one_a_zone (x.zone ∷ seen) xs) → ComesStrictly x q
    head q k =
        let r = kept_is (x.zone ∷ seen) xs q up.1 k in
        let o = other_zone x.zone q.zone (is_among q.zone seen) r.1 in
        strictly x.distance q.distance x.node.0 q.node.0 (up.0 q r.0) (λ e. o.1 (sym (zones x q (inl refl) (inr r.0) e)))

    go : (b : Bool) → IsRising (one_a_zone (x.zone ∷ seen) xs)
        → IsRising (cond b (one_a_zone (x.zone ∷ seen) xs) (x ∷ one_a_zone (x.zone ∷ seen) xs))
    go true r = r
    go false r = (head, r)

not_both : (a b m n : ℕ) → (a < b) ⊎ ((a ≡ b) × (m < n)) → (b < a) ⊎ ((b ≡ a) × (n < m)) → ⊥
not_both a b m n h k = grind arith

not_itself : (a m : ℕ) → (a < a) ⊎ ((a ≡ a) × (m < m)) → ⊥
not_itself a m h = grind arith

-- lists that rise and have the same places are the same
pub rising_same : (xs ys : List Place) → IsRising xs → IsRising ys → ((p : Place) → In p xs → In p ys)
    → ((p : Place) → In p ys → In p xs) → xs ≡ ys
rising_same [] [] r s to from = refl
rising_same [] (y ∷ ys) r s to from = absurd (from y (inl refl))
rising_same (x ∷ xs) [] r s to from = absurd (to x (inl refl))
rising_same (x ∷ xs) (y ∷ ys) r s to from =
    let e : x ≡ y = heads (to x (inl refl)) (from y (inl refl)) in
    ap₂ (λ a rest. a ∷ rest) e (rising_same xs ys r.1 s.1 (tail_to e) (tail_from e))
  where
    heads : (y ≡ x) ⊎ In x ys → (x ≡ y) ⊎ In y xs → x ≡ y
    heads (inl e) k = sym e
    heads (inr h) (inl e) = e
    heads (inr h) (inr k) = absurd (not_both x.distance y.distance x.node.0 y.node.0 (r.0 y k) (s.0 x h))

    itself : (a p : Place) → a ≡ p → ComesStrictly a p → ⊥
    itself a p e h = not_itself a.distance a.node.0 (let P : Place → Type 0 = λ b. ComesStrictly a b in subst P (sym e) h)

    behind : (p : Place) → x ≡ y → In p xs → (y ≡ p) ⊎ In p ys → In p ys
    behind p e h (inl f) = absurd (itself x p (e ∙ f) (r.0 p h))
    behind p e h (inr k) = k

    before : (p : Place) → x ≡ y → In p ys → (x ≡ p) ⊎ In p xs → In p xs
    before p e h (inl f) = absurd (itself y p (sym e ∙ f) (s.0 p h))
    before p e h (inr k) = k

    tail_to : x ≡ y → (p : Place) → In p xs → In p ys
    tail_to e p h = behind p e h (to p (inr h))

    tail_from : x ≡ y → (p : Place) → In p ys → In p xs
    tail_from e p h = before p e h (from p (inr h))

-- ys has none but places of xs, and to each place of xs one of its zone that doesn't come after it
abbrev pub HasTheNearest : List Place → List Place → Type 0
HasTheNearest xs ys =
    ((p : Place) → In p ys → In p xs)
    × ((p : Place) → In p xs → (q : Place) × In q ys × (q.zone ≡ p.zone) × ComesFirst q p)

pub same_kept : (xs ys : List Place) → IsInOrder xs → IsInOrder ys → NodesKeepZones xs → HasTheNearest xs ys
    → one_a_zone [] xs ≡ one_a_zone [] ys
same_kept xs ys up vp zones h =
    rising_same (one_a_zone [] xs) (one_a_zone [] ys) (kept_rises [] xs up zones)
    (kept_rises [] ys vp (λ p q i j e. zones p q (h.0 p i) (h.0 q j) e)) to from
  where
    one : (p q : Place) → In q ys → q.zone ≡ p.zone → ComesFirst q p → IsNearest p xs → In p ys
    one p q i z c near =
        let e : q ≡ p = same_place q p c (near q (h.0 q i) z) z in let P : Place → Type 0 = λ r. In r ys in subst P e i

    to : (p : Place) → In p (one_a_zone [] xs) → In p (one_a_zone [] ys)
    to p k =
        let r = kept_is [] xs p up k in
        let n = h.1 p r.0 in
        is_kept [] ys p vp (one p n.0 n.1 n.2 n.3 r.2) refl (λ q i z. r.2 q (h.0 q i) z)

    nearest : (p : Place) → IsNearest p ys → IsNearest p xs
    nearest p near q i z =
        let n = h.1 q i in
        comes_first_then p n.0 q (near n.0 n.1 (n.2 ∙ z)) n.3

    from : (p : Place) → In p (one_a_zone [] ys) → In p (one_a_zone [] xs)
    from p k =
        let r = kept_is [] ys p vp k in
        is_kept [] xs p up (h.0 p r.0) refl (nearest p r.2)

-- so placement depends on the nearest places alone
pub same_placed : (xs ys : List Place) → NodesKeepZones xs → HasTheNearest xs ys → (wanted : ℕ)
    → nodes_one_a_zone xs wanted ≡ nodes_one_a_zone ys wanted
same_placed xs ys zones h wanted =
    ap (λ kept. take wanted (map (λ (place : Place). place.node) kept))
    (same_kept (places_in_order xs) (places_in_order ys) (in_order_ordered xs) (in_order_ordered ys)
    (λ p q i j e. zones p q (from_in_order xs p i) (from_in_order xs q j) e) (
      (λ p k. into_in_order xs p (h.0 p (from_in_order ys p k))),
      (λ p k. let n = h.1 p (from_in_order xs p k) in (n.0, into_in_order ys n.0 n.1, n.2, n.3)),
    ))
