-- As many places are kept as there are different zones.
use Rattle.std.proofs.Common.{◌≡◌, ℕ, ◌+◌, Bool, true, false, cond, List, [], ◌∷◌, length, map, refl, sym, ap, ap₂, ◌∙◌, subst, arith, true≢false}
use Rattle.std.specs.Prelude.{◌==◌, ◌||◌}
use Rattle.std.specs.List.{list_any}
use Rattle.std.specs.Cmp.{nat_eq_equiv}
use Rattle.std.proofs.lemmas.Bool.{eqb-true}
use Rattle.proof_tools.proofs.Booleans.{or_left_comm}
use Rattle.object_id.specs.declared.entry.Member.{Member}
use Rattle.hash_ring.specs.Placement.{Place, comes_first, put_in, places_in_order, is_among, one_a_zone, member_place, zone_count}

-- how many zones are met that weren't seen
abbrev pub fresh : List ℕ → List ℕ → ℕ
fresh seen [] = 0
fresh seen (z ∷ zs) = cond (is_among z seen) 0 1 + fresh (z ∷ seen) zs

abbrev pub zones_of : List Place → List ℕ
zones_of places = map (λ (place : Place). place.zone) places

pub length-one_a_zone : (seen : List ℕ) (ps : List Place) → length (one_a_zone seen ps) ≡ fresh seen (zones_of ps)
length-one_a_zone seen [] = refl
length-one_a_zone seen (p ∷ ps) = go (is_among p.zone seen) (length-one_a_zone (p.zone ∷ seen) ps)
  where
    go : (b : Bool) → length (one_a_zone (p.zone ∷ seen) ps) ≡ fresh (p.zone ∷ seen) (zones_of ps)
        → length (cond b (one_a_zone (p.zone ∷ seen) ps) (p ∷ one_a_zone (p.zone ∷ seen) ps))
        ≡ cond b 0 1 + fresh (p.zone ∷ seen) (zones_of ps)
    go true e = omega (arith, e)
    go false e = omega (arith, e)

-- of the zones seen, only which they are counts
fresh_same : (s t zs : List ℕ) → ((z : ℕ) → is_among z s ≡ is_among z t) → fresh s zs ≡ fresh t zs
fresh_same s t [] h = refl
fresh_same s t (z ∷ zs) h =
    ap₂ (λ b n. cond b 0 1 + n) (h z) (fresh_same (z ∷ s) (z ∷ t) zs (λ y. ap (λ b. (z == y) || b) (h y)))

fresh_turned : (a b : ℕ) (s zs : List ℕ) → fresh (a ∷ b ∷ s) zs ≡ fresh (b ∷ a ∷ s) zs
fresh_turned a b s zs = fresh_same (a ∷ b ∷ s) (b ∷ a ∷ s) zs (λ z. or_left_comm (a == z) (b == z) (is_among z s))

swap_step : (t a b : Bool) (f g : ℕ) → (t ≡ true → a ≡ b) → f ≡ g
    → cond a 0 1 + (cond (t || b) 0 1 + f) ≡ cond b 0 1 + (cond (t || a) 0 1 + g)
swap_step true true true f g same e = omega (arith, e)
swap_step true false false f g same e = omega (arith, e)
swap_step true true false f g same e = absurd (true≢false (same refl))
swap_step true false true f g same e = absurd (true≢false (sym (same refl)))
swap_step false true true f g same e = omega (arith, e)
swap_step false true false f g same e = omega (arith, e)
swap_step false false true f g same e = omega (arith, e)
swap_step false false false f g same e = omega (arith, e)

pub fresh_swap : (seen : List ℕ) (a b : ℕ) (zs : List ℕ) → fresh seen (a ∷ b ∷ zs) ≡ fresh seen (b ∷ a ∷ zs)
fresh_swap seen a b zs =
    let P : Bool → Type 0 = λ u.
    cond (is_among a seen) 0 1 + (cond ((a == b) || is_among b seen) 0 1 + fresh (b ∷ a ∷ seen) zs)
    ≡ cond (is_among b seen) 0 1 + (cond (u || is_among a seen) 0 1 + fresh (a ∷ b ∷ seen) zs) in
    subst P (nat_eq_equiv.symm a b)
    (swap_step (a == b) (is_among a seen) (is_among b seen) (fresh (b ∷ a ∷ seen) zs) (fresh (a ∷ b ∷ seen) zs)
    (λ e. ap (λ z. is_among z seen) (eqb-true a b e)) (fresh_turned b a seen zs))

fresh-put_in : (seen : List ℕ) (p : Place) (ps : List Place) → fresh seen (zones_of (put_in p ps)) ≡ fresh seen (p.zone ∷ zones_of ps)
fresh-put_in seen p [] = refl
fresh-put_in seen p (q ∷ qs) = go (comes_first p q) (fresh-put_in (q.zone ∷ seen) p qs)
  where
    go : (b : Bool) → fresh (q.zone ∷ seen) (zones_of (put_in p qs)) ≡ fresh (q.zone ∷ seen) (p.zone ∷ zones_of qs)
        → fresh seen (zones_of (cond b (p ∷ q ∷ qs) (q ∷ put_in p qs))) ≡ fresh seen (p.zone ∷ q.zone ∷ zones_of qs)
    go true e = refl
    go false e = ap (λ n. cond (is_among q.zone seen) 0 1 + n) e ∙ fresh_swap seen q.zone p.zone (zones_of qs)

pub fresh-places_in_order : (seen : List ℕ) (ps : List Place) → fresh seen (zones_of (places_in_order ps)) ≡ fresh seen (zones_of ps)
fresh-places_in_order seen [] = refl
fresh-places_in_order seen (p ∷ ps) =
    fresh-put_in seen p (places_in_order ps) ∙ ap (λ n. cond (is_among p.zone seen) 0 1 + n) (fresh-places_in_order (p.zone ∷ seen) ps)

less_step : (t a b c : Bool) (f g n : ℕ) → (t ≡ true → a ≡ b) → g + cond (t || a) 0 (cond c 1 0) ≡ n → f ≡ g
    → (cond (t || b) 0 1 + f) + cond a 0 (cond (t || c) 1 0) ≡ cond b 0 1 + n
less_step true true true c f g n same h e = omega (arith, h, e)
less_step true false false c f g n same h e = omega (arith, h, e)
less_step true true false c f g n same h e = absurd (true≢false (same refl))
less_step true false true c f g n same h e = absurd (true≢false (sym (same refl)))
less_step false true true c f g n same h e = omega (arith, h, e)
less_step false true false c f g n same h e = omega (arith, h, e)
less_step false false true true f g n same h e = omega (arith, h, e)
less_step false false true false f g n same h e = omega (arith, h, e)
less_step false false false true f g n same h e = omega (arith, h, e)
less_step false false false false f g n same h e = omega (arith, h, e)

-- a zone that is seen is met no more
fresh_less : (z : ℕ) (seen zs : List ℕ)
    → fresh (z ∷ seen) zs + cond (is_among z seen) 0 (cond (is_among z zs) 1 0) ≡ fresh seen zs
fresh_less z seen [] = go (is_among z seen)
  where
    go : (b : Bool) → 0 + cond b 0 0 ≡ 0
    go true = refl
    go false = refl
fresh_less z seen (y ∷ ys) =
    let P : Bool → Type 0 = λ u.
    (cond ((z == y) || is_among y seen) 0 1 + fresh (y ∷ z ∷ seen) ys)
    + cond (is_among z seen) 0 (cond (u || is_among z ys) 1 0)
    ≡ cond (is_among y seen) 0 1 + fresh (y ∷ seen) ys in
    let Q : Bool → Type 0 = λ u.
    fresh (z ∷ y ∷ seen) ys + cond (u || is_among z seen) 0 (cond (is_among z ys) 1 0) ≡ fresh (y ∷ seen) ys in
    subst P (nat_eq_equiv.symm z y)
    (less_step (z == y) (is_among z seen) (is_among y seen) (is_among z ys) (fresh (y ∷ z ∷ seen) ys)
    (fresh (z ∷ y ∷ seen) ys) (fresh (y ∷ seen) ys) (λ e. ap (λ x. is_among x seen) (eqb-true z y e))
    (subst Q (sym (nat_eq_equiv.symm z y)) (fresh_less z (y ∷ seen) ys)) (fresh_turned y z seen ys))

among_zones : (z : ℕ) (members : List Member)
    → list_any (λ (m : Member). m.zone == z) members ≡ is_among z (map (λ (m : Member). m.zone) members)
among_zones z [] = refl
among_zones z (m ∷ ms) = ap (λ b. (m.zone == z) || b) (among_zones z ms)

member_step : (b c : Bool) (f g n : ℕ) → b ≡ c → f + cond c 1 0 ≡ g → g ≡ n → 1 + f ≡ n + cond b 0 1
member_step true true f g n same h k = omega (arith, h, k)
member_step false false f g n same h k = omega (arith, h, k)
member_step true false f g n same h k = absurd (true≢false same)
member_step false true f g n same h k = absurd (true≢false (sym same))

pub fresh-members : (members : List Member) → fresh [] (map (λ (m : Member). m.zone) members) ≡ zone_count members
unfolding zone_count
fresh-members [] = refl
fresh-members (m ∷ ms) =
    let zs : List ℕ = map (λ (n : Member). n.zone) ms in
    member_step (list_any (λ (n : Member). n.zone == m.zone) ms) (is_among m.zone zs) (fresh (m.zone ∷ []) zs)
    (fresh [] zs) (zone_count ms) (among_zones m.zone ms) (fresh_less m.zone [] zs) (fresh-members ms)

pub zones-member_places : (object : ℕ) (members : List Member)
    → zones_of (map (member_place object) members) ≡ map (λ (m : Member). m.zone) members
zones-member_places object [] = refl
zones-member_places object (m ∷ ms) = ap (λ zs. m.zone ∷ zs) (zones-member_places object ms)
