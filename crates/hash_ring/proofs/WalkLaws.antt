-- The walk of a ring from the object's hash on meets its points in order, so its first nodes are the targets.
use Rattle.std.proofs.Common.{◌≡◌, ◌⊎◌, ℕ, suc, ◌+◌, ◌-◌, ◌^◌, ◌<◌, ◌≤◌, Bool, true, false, cond, not, List, [], ◌∷◌, ◌++◌, length, get_or, map, take, drop, All, AllPairs, refl, sym, ap, ◌∙◌, subst, inl, inr, arith, take-append-drop}
use Rattle.std.specs.Prelude.{◌==◌, ◌||◌}
use Rattle.std.proofs.lemmas.List.{take_more, take_at, get_or_append_left, get_or-append_right, get_or-drop, get_or-take, length-drop, length-append, length-take-le}
use Rattle.std.proofs.lemmas.List.Elements.{All-contains, All-drop}
use Rattle.std.proofs.Math.Bool.{or_assoc, or-false}
use Rattle.object_id.specs.declared.node.NodeId.{NodeId}
use Rattle.hash_ring.specs.declared.point.Point.{Point}
use Rattle.hash_ring.specs.Circle.{distance}
use Rattle.hash_ring.specs.Placement.{Place, ComesFirst, places_in_order, is_among, one_a_zone}
use Rattle.hash_ring.specs.Points.{StandsBefore, IsRing, targets_among}
use Rattle.hash_ring.specs.Walk.{walk, first_nodes}
use Rattle.hash_ring.proofs.InLaws.{In, contains_from_in, in_append, in_append_left, in_append_right, in_map, from_map}
use Rattle.hash_ring.proofs.OrderLaws.{comes_first_itself, IsInOrder, in_order_ordered, from_in_order, into_in_order}
use Rattle.hash_ring.proofs.KeptLaws.{same_kept}
use Rattle.hash_ring.proofs.PlacedLaws.{point_place, point_places, points_keep_zones, targets_among_points}

-- each point stands before those after it
abbrev pub IsAscending : List Point → Type 0
IsAscending [] = Unit {0}
IsAscending (p ∷ ps) = ((q : Point) → In q ps → StandsBefore p q) × IsAscending ps

pub ascending_from_pairs : (points : List Point) → AllPairs StandsBefore points → IsAscending points
ascending_from_pairs [] h = tt
ascending_from_pairs (p ∷ ps) h = (head, ascending_from_pairs ps (λ i j d lt le. h (suc i) (suc j) d (omega arith) (omega arith)))
  where
    head : (q : Point) → In q ps → StandsBefore p q
    head q i =
        let c = contains_from_in ps q i in
        let P : Point → Type 0 = λ r. StandsBefore p r in
        let bound : c.0 < length ps = c.1 in
        subst P c.2 (h 0 (suc c.0) q (omega arith) (omega arith))

ascending_parts : (xs ys : List Point) → IsAscending (xs ++ ys) → IsAscending xs × IsAscending ys
ascending_parts [] ys up = (tt, up)
ascending_parts (x ∷ xs) ys up =
    let r = ascending_parts xs ys up.1 in
    (((λ q i. up.0 q (in_append_left xs ys q i)), r.0), r.1)

ordered_append : (xs ys : List Place) → IsInOrder xs → IsInOrder ys → ((p q : Place) → In p xs → In q ys → ComesFirst p q)
    → IsInOrder (xs ++ ys)
ordered_append [] ys up vp across = vp
ordered_append (x ∷ xs) ys up vp across =
    ((λ q i. head q (in_append xs ys q i)), ordered_append xs ys up.1 vp (λ p q i j. across p q (inr i) j))
  where
    head : (q : Place) → In q xs ⊎ In q ys → ComesFirst x q
    head q (inl i) = up.0 q i
    head q (inr j) = across x q (inl refl) j

ordered_places : (object : ℕ) (points : List Point) → IsAscending points
    → ((p q : Point) → In p points → In q points → StandsBefore p q → ComesFirst (point_place object p) (point_place object q))
    → IsInOrder (point_places object points)
ordered_places object [] up keeps = tt
ordered_places object (p ∷ ps) up keeps =
    (head, ordered_places object ps up.1 (λ a b i j h. keeps a b (inr i) (inr j) h))
  where
    head : (q : Place) → In q (point_places object ps) → ComesFirst (point_place object p) q
    head q i =
        let a = from_map (point_place object) ps q i in
        let P : Place → Type 0 = λ r. ComesFirst (point_place object p) r in
        subst P a.2 (keeps p a.0 (inl refl) (inr a.1) (up.0 a.0 a.1))

distance_behind : (object hash : ℕ) → object ≤ hash → hash < 2 ^ 64 → distance object hash ≡ hash - object
distance_behind object hash h k = omega arith

distance_before : (object hash : ℕ) → hash < object → object < 2 ^ 64 → distance object hash ≡ hash + 2 ^ 64 - object
distance_before object hash h k = omega arith

behind_keeps : (object a b m n : ℕ) → object ≤ a → object ≤ b → a < 2 ^ 64 → b < 2 ^ 64 → (a < b) ⊎ ((a ≡ b) × (m ≤ n))
    → (distance object a < distance object b) ⊎ ((distance object a ≡ distance object b) × (m ≤ n))
behind_keeps object a b m n ha hb fa fb (inl h) =
    let x = distance_behind object a ha fa in let y = distance_behind object b hb fb in inl (omega (arith, x, y))
behind_keeps object a b m n ha hb fa fb (inr h) = inr (ap (distance object) h.0, h.1)

before_keeps : (object a b m n : ℕ) → a < object → b < object → object < 2 ^ 64 → (a < b) ⊎ ((a ≡ b) × (m ≤ n))
    → (distance object a < distance object b) ⊎ ((distance object a ≡ distance object b) × (m ≤ n))
before_keeps object a b m n ha hb f (inl h) =
    let x = distance_before object a ha f in let y = distance_before object b hb f in inl (omega (arith, x, y))
before_keeps object a b m n ha hb f (inr h) = inr (ap (distance object) h.0, h.1)

goes_round : (object a b : ℕ) → object ≤ a → a < 2 ^ 64 → b < object → object < 2 ^ 64 → distance object a < distance object b
goes_round object a b ha fa hb f =
    let x = distance_behind object a ha fa in let y = distance_before object b hb f in omega (arith, x, y)

pub map_append : (object : ℕ) (xs ys : List Point) → point_places object (xs ++ ys) ≡ point_places object xs ++ point_places object ys
map_append object [] ys = refl
map_append object (x ∷ xs) ys = ap (λ ps. point_place object x ∷ ps) (map_append object xs ys)

pub walk_in_order : (object start : ℕ) (points : List Point) → AllPairs StandsBefore points
    → All (λ (p : Point). p.hash < object) (take start points) → All (λ (p : Point). object ≤ p.hash) (drop start points)
    → All (λ (p : Point). p.hash < 2 ^ 64) (drop start points) → object < 2 ^ 64
    → IsInOrder (point_places object (walk start points))
walk_in_order object start points pairs before behind fits f =
    let P : List Point → Type 0 = λ ps. IsAscending ps in
    let parts = ascending_parts (take start points) (drop start points)
    (subst P (sym (take-append-drop start points)) (ascending_from_pairs points pairs)) in
    let Q : List Place → Type 0 = λ ps. IsInOrder ps in
    subst Q (sym (map_append object (drop start points) (take start points)))
    (ordered_append (point_places object (drop start points)) (point_places object (take start points))
    (ordered_places object (drop start points) parts.1 far)
    (ordered_places object (take start points) parts.0 near) across)
  where
    is_before : (p : Point) → In p (take start points) → p.hash < object
    is_before p i = All-contains (λ (p : Point). p.hash < object) (take start points) p before (contains_from_in (take start points) p i)

    is_behind : (p : Point) → In p (drop start points) → object ≤ p.hash
    is_behind p i = All-contains (λ (p : Point). object ≤ p.hash) (drop start points) p behind (contains_from_in (drop start points) p i)

    does_fit : (p : Point) → In p (drop start points) → p.hash < 2 ^ 64
    does_fit p i = All-contains (λ (p : Point). p.hash < 2 ^ 64) (drop start points) p fits (contains_from_in (drop start points) p i)

    far : (p q : Point) → In p (drop start points) → In q (drop start points) → StandsBefore p q
        → ComesFirst (point_place object p) (point_place object q)
    far p q i j h =
        behind_keeps object p.hash q.hash p.node.0 q.node.0 (is_behind p i) (is_behind q j) (does_fit p i) (does_fit q j) h

    near : (p q : Point) → In p (take start points) → In q (take start points) → StandsBefore p q
        → ComesFirst (point_place object p) (point_place object q)
    near p q i j h = before_keeps object p.hash q.hash p.node.0 q.node.0 (is_before p i) (is_before q j) f h

    round : (p q : Point) → In p (drop start points) → In q (take start points)
        → ComesFirst (point_place object p) (point_place object q)
    round p q i j = inl (goes_round object p.hash q.hash (is_behind p i) (does_fit p i) (is_before q j) f)

    across : (p q : Place) → In p (point_places object (drop start points)) → In q (point_places object (take start points))
        → ComesFirst p q
    across p q i j =
        let a = from_map (point_place object) (drop start points) p i in
        let b = from_map (point_place object) (take start points) q j in
        let P : Place → Type 0 = λ r. ComesFirst r q in
        let Q : Place → Type 0 = λ r. ComesFirst (point_place object a.0) r in
        subst P a.2 (subst Q b.2 (round a.0 b.0 a.1 b.1))

in_walk : (start : ℕ) (points : List Point) (p : Point) → In p points → In p (walk start points)
in_walk start points p i =
    let P : List Point → Type 0 = λ ps. In p ps in
    go (in_append (take start points) (drop start points) p (subst P (sym (take-append-drop start points)) i))
  where
    go : In p (take start points) ⊎ In p (drop start points) → In p (walk start points)
    go (inl j) = in_append_right (drop start points) (take start points) p j
    go (inr j) = in_append_left (drop start points) (take start points) p j

from_walk : (start : ℕ) (points : List Point) (p : Point) → In p (walk start points) → In p points
from_walk start points p i =
    let P : List Point → Type 0 = λ ps. In p ps in
    subst P (take-append-drop start points) (go (in_append (drop start points) (take start points) p i))
  where
    go : In p (drop start points) ⊎ In p (take start points) → In p (take start points ++ drop start points)
    go (inl j) = in_append_right (take start points) (drop start points) p j
    go (inr j) = in_append_left (take start points) (drop start points) p j

pub first_nodes-places : (object : ℕ) (seen : List ℕ) (points : List Point)
    → map (λ (p : Place). p.node) (one_a_zone seen (point_places object points)) ≡ first_nodes seen points
first_nodes-places object seen [] = refl
first_nodes-places object seen (p ∷ ps) = go (is_among p.zone seen) (first_nodes-places object (p.zone ∷ seen) ps)
  where
    go : (b : Bool) → map (λ (p : Place). p.node) (one_a_zone (p.zone ∷ seen) (point_places object ps)) ≡ first_nodes (p.zone ∷ seen) ps
        → map (λ (p : Place). p.node) (cond b (one_a_zone (p.zone ∷ seen) (point_places object ps))
        (point_place object p ∷ one_a_zone (p.zone ∷ seen) (point_places object ps)))
        ≡ cond b (first_nodes (p.zone ∷ seen) ps) (p.node ∷ first_nodes (p.zone ∷ seen) ps)
    go true e = e
    go false e = ap (λ nodes. p.node ∷ nodes) e

-- the first nodes of the walk are the targets
pub targets_among-walk : (object start : ℕ) (points : List Point) (n : ℕ) → IsRing points
    → All (λ (p : Point). p.hash < object) (take start points) → All (λ (p : Point). object ≤ p.hash) (drop start points)
    → All (λ (p : Point). p.hash < 2 ^ 64) points → object < 2 ^ 64
    → take n (first_nodes [] (walk start points)) ≡ targets_among points object n
targets_among-walk object start points n ring before behind fits f =
    let walked = walk_in_order object start points ring.ascending before behind (All-drop (λ (p : Point). p.hash < 2 ^ 64) start points fits) f in
    let zones = points_keep_zones object points ring.one_zone in
    let own : List Place = point_places object points in
    let met : List Place = point_places object (walk start points) in
    let kept : one_a_zone [] (places_in_order own) ≡ one_a_zone [] met
    = same_kept (places_in_order own) met (in_order_ordered own) walked
    (λ p q i j e. zones p q (from_in_order own p i) (from_in_order own q j) e) (to, from) in
    sym (ap (take n) (first_nodes-places object [] (walk start points)))
    ∙ sym (ap (λ ps. take n (map (λ (p : Place). p.node) ps)) kept)
    ∙ sym (targets_among_points points ring.one_zone object n)
  where
    to : (p : Place) → In p (point_places object (walk start points)) → In p (places_in_order (point_places object points))
    to p i =
        let a = from_map (point_place object) (walk start points) p i in
        let P : Place → Type 0 = λ r. In r (point_places object points) in
        into_in_order (point_places object points) p
        (subst P a.2 (in_map (point_place object) points a.0 (from_walk start points a.0 a.1)))

    from : (p : Place) → In p (places_in_order (point_places object points))
        → (q : Place) × In q (point_places object (walk start points)) × (q.zone ≡ p.zone) × ComesFirst q p
    from p i =
        let a = from_map (point_place object) points p (from_in_order (point_places object points) p i) in
        let P : Place → Type 0 = λ r. In r (point_places object (walk start points)) in
        (p, subst P a.2 (in_map (point_place object) (walk start points) a.0 (in_walk start points a.0 a.1)), refl, comes_first_itself p)

-- one more point of the walk
among_both : (z : ℕ) (q : ℕ) (seen zones : List ℕ)
    → ((q == z) || is_among z seen) || is_among z zones ≡ is_among z seen || ((q == z) || is_among z zones)
among_both z q seen zones = go (q == z) (is_among z seen) (is_among z zones)
  where
    go : (a b c : Bool) → (a || b) || c ≡ b || (a || c)
    go true true c = refl
    go true false c = refl
    go false true c = refl
    go false false c = refl

first_nodes-push : (seen : List ℕ) (ps : List Point) (p : Point)
    → first_nodes seen (ps ++ p ∷ [])
    ≡ first_nodes seen ps ++ cond (is_among p.zone seen || is_among p.zone (map (λ (q : Point). q.zone) ps)) [] (p.node ∷ [])
first_nodes-push seen [] p = go (is_among p.zone seen)
  where
    go : (b : Bool) → cond b [] (p.node ∷ []) ≡ cond (b || false) [] (p.node ∷ [])
    go true = refl
    go false = refl
first_nodes-push seen (q ∷ ps) p =
    go (is_among q.zone seen)
    (first_nodes-push (q.zone ∷ seen) ps p
    ∙ ap (λ b. first_nodes (q.zone ∷ seen) ps ++ cond b [] (p.node ∷ []))
    (among_both p.zone q.zone seen (map (λ (q : Point). q.zone) ps)))
  where
    go : (b : Bool)
        → first_nodes (q.zone ∷ seen) (ps ++ p ∷ [])
        ≡ first_nodes (q.zone ∷ seen) ps
        ++ cond (is_among p.zone seen || ((q.zone == p.zone) || is_among p.zone (map (λ (q : Point). q.zone) ps))) [] (p.node ∷ [])
        → cond b (first_nodes (q.zone ∷ seen) (ps ++ p ∷ [])) (q.node ∷ first_nodes (q.zone ∷ seen) (ps ++ p ∷ []))
        ≡ cond b (first_nodes (q.zone ∷ seen) ps) (q.node ∷ first_nodes (q.zone ∷ seen) ps)
        ++ cond (is_among p.zone seen || ((q.zone == p.zone) || is_among p.zone (map (λ (q : Point). q.zone) ps))) [] (p.node ∷ [])
    go true e = e
    go false e = ap (λ nodes. q.node ∷ nodes) e

-- a turn of the walk keeps the point's node where its zone is new
pub first_nodes_more : (ps : List Point) (turn : ℕ) (p : Point) (kept : Bool) → turn < length ps → p ≡ get_or ps turn p
    → kept ≡ not (is_among p.zone (map (λ (q : Point). q.zone) (take turn ps)))
    → first_nodes [] (take (turn + 1) ps) ≡ first_nodes [] (take turn ps) ++ cond kept (p.node ∷ []) []
first_nodes_more ps turn p kept h is new =
    ap (first_nodes []) (take_more ps turn p h ∙ ap (λ (q : Point). take turn ps ++ q ∷ []) (sym is))
    ∙ first_nodes-push [] (take turn ps) p
    ∙ ap (λ nodes. first_nodes [] (take turn ps) ++ nodes)
    (go (is_among p.zone (map (λ (q : Point). q.zone) (take turn ps))) kept new)
  where
    go : (b k : Bool) → k ≡ not b → cond b [] (p.node ∷ []) ≡ cond k (p.node ∷ []) []
    go true true e = absurd (cc (e))
    go true false e = refl
    go false true e = refl
    go false false e = absurd (cc (e))

goes_on : (seen : List ℕ) (xs ys : List Point) → (more : List NodeId) × (first_nodes seen (xs ++ ys) ≡ first_nodes seen xs ++ more)
goes_on seen [] ys = (first_nodes seen ys, refl)
goes_on seen (x ∷ xs) ys = go (is_among x.zone seen) (goes_on (x.zone ∷ seen) xs ys)
  where
    go : (b : Bool) → (more : List NodeId) × (first_nodes (x.zone ∷ seen) (xs ++ ys) ≡ first_nodes (x.zone ∷ seen) xs ++ more)
        → (more : List NodeId)
        × (cond b (first_nodes (x.zone ∷ seen) (xs ++ ys)) (x.node ∷ first_nodes (x.zone ∷ seen) (xs ++ ys))
        ≡ cond b (first_nodes (x.zone ∷ seen) xs) (x.node ∷ first_nodes (x.zone ∷ seen) xs) ++ more)
    go true r = r
    go false r = (r.0, ap (λ nodes. x.node ∷ nodes) r.1)

-- once n are found, the rest of the walk adds or-false of the first n
pub first_nodes_found : (ps : List Point) (turn n : ℕ) → length (first_nodes [] (take turn ps)) ≡ n
    → take n (first_nodes [] ps) ≡ first_nodes [] (take turn ps)
first_nodes_found ps turn n e =
    let r = goes_on [] (take turn ps) (drop turn ps) in
    ap (λ qs. take n (first_nodes [] qs)) (sym (take-append-drop turn ps))
    ∙ ap (take n) r.1
    ∙ take_at (first_nodes [] (take turn ps)) r.0 n e

-- one more point among those whose zones were met
pub is_among_more : (z : ℕ) (ps : List Point) (turn : ℕ) (p : Point) → turn < length ps → p ≡ get_or ps turn p
    → is_among z (map (λ (q : Point). q.zone) (take (turn + 1) ps))
    ≡ (is_among z (map (λ (q : Point). q.zone) (take turn ps)) || (p.zone == z))
is_among_more z ps turn p h is =
    ap (λ qs. is_among z (map (λ (q : Point). q.zone) qs))
    (take_more ps turn p h ∙ ap (λ (q : Point). take turn ps ++ q ∷ []) (sym is))
    ∙ push (take turn ps)
  where
    push : (qs : List Point)
        → is_among z (map (λ (q : Point). q.zone) (qs ++ p ∷ []))
        ≡ (is_among z (map (λ (q : Point). q.zone) qs) || (p.zone == z))
    push [] = or-false (p.zone == z)
    push (q ∷ qs) =
        ap (λ b. (q.zone == z) || b) (push qs) ∙ sym (or_assoc (q.zone == z) (is_among z (map (λ (q : Point). q.zone) qs)) (p.zone == z))

-- a point of the walk, ahead or past the end
pub get_or-walk_ahead : (ps : List Point) (start turn : ℕ) (d : Point) → start + turn < length ps
    → get_or (walk start ps) turn d ≡ get_or ps (start + turn) d
get_or-walk_ahead ps start turn d h =
    get_or_append_left (drop start ps) (take start ps) d turn (let e = length-drop start ps in omega (arith, e))
    ∙ get_or-drop start ps turn d

pub get_or-walk_round : (ps : List Point) (start turn : ℕ) (d : Point) → start ≤ length ps → length ps - start ≤ turn
    → turn < length ps → get_or (walk start ps) turn d ≡ get_or ps (turn - (length ps - start)) d
get_or-walk_round ps start turn d h k l =
    get_or-append_right (drop start ps) (take start ps) (length ps - start) turn d (length-drop start ps) k
    ∙ get_or-take start ps (turn - (length ps - start)) d (omega arith)

pub length-walk : (ps : List Point) (start : ℕ) → start ≤ length ps → length (walk start ps) ≡ length ps
length-walk ps start h =
    let a = length-append (drop start ps) (take start ps) in
    let b = length-drop start ps in
    let c = length-take-le start ps h in
    omega (arith, a, b, c)
