-- Target lists: different members, no two of one zone, as many as wanted or as there are zones.
use Rattle.std.proofs.Common.{◌≡◌, ◌≢◌, ◌↔◌, ℕ, zero, suc, ◌≤◌, min, Bool, true, false, cond, List, [], ◌∷◌, length, get_or, map, take, Any, AllPairs, Contains, IsPermutation, refl, sym, ap, ◌∙◌, inl, inr, arith}
use Rattle.std.proofs.lemmas.List.{length-take, length-map, take-take}
use Rattle.std.proofs.lemmas.List.Sorted.{IsPermutation-refl, IsPermutation-cons, IsPermutation-trans, IsPermutation-swap}
use Rattle.object_id.specs.declared.node.NodeId.{NodeId}
use Rattle.object_id.specs.declared.entry.Member.{Member}
use Rattle.hash_ring.specs.declared.point.Point.{Point}
use Rattle.hash_ring.specs.Placement.{Place, ComesFirst, comes_first, put_in, places_in_order, is_among, one_a_zone, member_place, targets_of, AreWeighted, zone_count}
use Rattle.hash_ring.specs.Points.{targets_among}
use Rattle.hash_ring.proofs.InLaws.{In, in_at, in_from_contains, contains_from_in, from_map}
use Rattle.hash_ring.proofs.OrderLaws.{IsInOrder, in_order_ordered, from_in_order, into_in_order}
use Rattle.hash_ring.proofs.KeptLaws.{kept_is, is_kept, other_zone}
use Rattle.hash_ring.proofs.PlacedLaws.{same_member}
use Rattle.hash_ring.proofs.CountLaws.{fresh, length-one_a_zone, fresh-places_in_order, fresh-members, zones-member_places}

-- each element, and those after it
abbrev pub EachLater : {X : Type 0} → (X → X → Type 0) → List X → Type 0
EachLater R [] = Unit {0}
EachLater {X} R (x ∷ xs) = ((y : X) → In y xs → R x y) × EachLater R xs

pub all_pairs_from_later : {X : Type 0} (R : X → X → Type 0) (xs : List X) → EachLater R xs → AllPairs R xs
all_pairs_from_later R [] h i j d lt le = absurd (omega arith)
all_pairs_from_later R (x ∷ xs) h i zero d lt le = absurd (omega arith)
all_pairs_from_later R (x ∷ xs) h zero (suc j) d lt le = h.0 (get_or xs j d) (in_at xs j d (omega arith))
all_pairs_from_later R (x ∷ xs) h (suc i) (suc j) d lt le = all_pairs_from_later R xs h.1 i j d (omega arith) (omega arith)

from_take : {X : Type 0} (n : ℕ) (xs : List X) (x : X) → In x (take n xs) → In x xs
from_take zero xs x h = absurd h
from_take (suc n) [] x h = absurd h
from_take (suc n) (y ∷ ys) x (inl e) = inl e
from_take (suc n) (y ∷ ys) x (inr h) = inr (from_take n ys x h)

later_take : {X : Type 0} (R : X → X → Type 0) (n : ℕ) (xs : List X) → EachLater R xs → EachLater R (take n xs)
later_take R zero xs h = tt
later_take R (suc n) [] h = tt
later_take R (suc n) (x ∷ xs) h = ((λ y i. h.0 y (from_take n xs y i)), later_take R n xs h.1)

-- Places in order come one before the other.
pub in_order_pairs : (ps : List Place) → IsInOrder ps → EachLater ComesFirst ps
in_order_pairs [] h = tt
in_order_pairs (p ∷ ps) h = (h.0, in_order_pairs ps h.1)

pub in_order_ascends : (ps : List Place) → AllPairs ComesFirst (places_in_order ps)
in_order_ascends ps = all_pairs_from_later ComesFirst (places_in_order ps) (in_order_pairs (places_in_order ps) (in_order_ordered ps))

swap_front : (p q : Place) (ps : List Place) → IsPermutation (p ∷ q ∷ ps) (q ∷ p ∷ ps)
swap_front p q ps = IsPermutation-swap (p ∷ q ∷ ps) (q ∷ p ∷ ps) 0 1 (omega arith) (omega arith) refl

put_in_same : (p : Place) (ps : List Place) → IsPermutation (p ∷ ps) (put_in p ps)
put_in_same p [] = IsPermutation-refl (p ∷ [])
put_in_same p (q ∷ qs) = go (comes_first p q) (put_in_same p qs)
  where
    go : (b : Bool) → IsPermutation (p ∷ qs) (put_in p qs) → IsPermutation (p ∷ q ∷ qs) (cond b (p ∷ q ∷ qs) (q ∷ put_in p qs))
    go true h = IsPermutation-refl (p ∷ q ∷ qs)
    go false h =
        IsPermutation-trans (p ∷ q ∷ qs) (q ∷ p ∷ qs) (q ∷ put_in p qs) (swap_front p q qs)
        (IsPermutation-cons q (p ∷ qs) (put_in p qs) h)

pub in_order_same : (ps : List Place) → IsPermutation ps (places_in_order ps)
in_order_same [] = IsPermutation-refl []
in_order_same (p ∷ ps) =
    IsPermutation-trans (p ∷ ps) (p ∷ places_in_order ps) (put_in p (places_in_order ps))
    (IsPermutation-cons p ps (places_in_order ps) (in_order_same ps)) (put_in_same p (places_in_order ps))

-- no two that are kept have one zone
kept_apart : (seen : List ℕ) (ps : List Place) → IsInOrder ps → EachLater (λ (p q : Place). p.zone ≢ q.zone) (one_a_zone seen ps)
kept_apart seen [] up = tt
kept_apart seen (p ∷ ps) up = go (is_among p.zone seen) (kept_apart (p.zone ∷ seen) ps up.1)
  where
    head : (q : Place) → In q (one_a_zone (p.zone ∷ seen) ps) → p.zone ≢ q.zone
    head q i e = (other_zone p.zone q.zone (is_among q.zone seen) (kept_is (p.zone ∷ seen) ps q up.1 i).1).1 (sym e)

    go : (b : Bool) → EachLater (λ (p q : Place). p.zone ≢ q.zone) (one_a_zone (p.zone ∷ seen) ps)
        → EachLater (λ (p q : Place). p.zone ≢ q.zone) (cond b (one_a_zone (p.zone ∷ seen) ps) (p ∷ one_a_zone (p.zone ∷ seen) ps))
    go true h = h
    go false h = (head, h)

pub kept_zones : (places : List Place) → AllPairs (λ (p q : Place). p.zone ≢ q.zone) (one_a_zone [] (places_in_order places))
kept_zones places =
    all_pairs_from_later (λ (p q : Place). p.zone ≢ q.zone) (one_a_zone [] (places_in_order places))
    (kept_apart [] (places_in_order places) (in_order_ordered places))

kept_ascends : (seen : List ℕ) (ps : List Place) → IsInOrder ps → EachLater ComesFirst (one_a_zone seen ps)
kept_ascends seen [] up = tt
kept_ascends seen (p ∷ ps) up = go (is_among p.zone seen) (kept_ascends (p.zone ∷ seen) ps up.1)
  where
    head : (q : Place) → In q (one_a_zone (p.zone ∷ seen) ps) → ComesFirst p q
    head q i = up.0 q (kept_is (p.zone ∷ seen) ps q up.1 i).0

    go : (b : Bool) → EachLater ComesFirst (one_a_zone (p.zone ∷ seen) ps)
        → EachLater ComesFirst (cond b (one_a_zone (p.zone ∷ seen) ps) (p ∷ one_a_zone (p.zone ∷ seen) ps))
    go true h = h
    go false h = (head, h)

pub kept_in_order : (places : List Place) → AllPairs ComesFirst (one_a_zone [] (places_in_order places))
kept_in_order places =
    all_pairs_from_later ComesFirst (one_a_zone [] (places_in_order places)) (kept_ascends [] (places_in_order places) (in_order_ordered places))

-- a place is kept exactly where it comes first of its zone
pub kept_exactly : (places : List Place) (place : Place)
    → Contains (one_a_zone [] (places_in_order places)) place
    ↔ (Contains places place × ((other : Place) → Contains places other → other.zone ≡ place.zone → ComesFirst place other))
kept_exactly places place = (to, from)
  where
    to : Contains (one_a_zone [] (places_in_order places)) place
        → Contains places place × ((other : Place) → Contains places other → other.zone ≡ place.zone → ComesFirst place other)
    to c =
        let r = kept_is [] (places_in_order places) place (in_order_ordered places) (in_from_contains (one_a_zone [] (places_in_order places)) place c) in (
          contains_from_in places place (from_in_order places place r.0),
          λ q d z. r.2 q (into_in_order places q (in_from_contains places q d)) z,
        )

    from : Contains places place × ((other : Place) → Contains places other → other.zone ≡ place.zone → ComesFirst place other)
        → Contains (one_a_zone [] (places_in_order places)) place
    from h =
        contains_from_in (one_a_zone [] (places_in_order places)) place
        (is_kept [] (places_in_order places) place (in_order_ordered places) (into_in_order places place (in_from_contains places place h.0)) refl
        (λ q i z. h.1 q (contains_from_in places q (from_in_order places q i)) z))

kept : List Member → ℕ → List Place
kept members object = one_a_zone [] (places_in_order (map (member_place object) members))

-- each that is kept is a member's place
member_of : (members : List Member) (object : ℕ) (p : Place) → In p (kept members object)
    → (m : Member) × In m members × (member_place object m ≡ p)
unfolding kept
member_of members object p i =
    let places : List Place = map (member_place object) members in
    let r = kept_is [] (places_in_order places) p (in_order_ordered places) i in
    from_map (member_place object) members p (from_in_order places p r.0)

pub target_is_member : (members : List Member) (object wanted : ℕ) (node : NodeId) → In node (targets_of members object wanted)
    → (m : Member) × In m members × (m.node ≡ node)
unfolding targets_of kept
target_is_member members object wanted node i =
    let a = from_map (λ (p : Place). p.node) (kept members object) node
    (from_take wanted (map (λ (p : Place). p.node) (kept members object)) node i) in
    let b = member_of members object a.0 a.1 in
    (b.0, b.1, ap (λ (p : Place). p.node) b.2 ∙ a.2)

pub targets_are_members : (members : List Member) (object wanted : ℕ) (node : NodeId) → Contains (targets_of members object wanted) node
    → Any (λ (m : Member). m.node ≡ node) members
targets_are_members members object wanted node c =
    let b = target_is_member members object wanted node (in_from_contains (targets_of members object wanted) node c) in
    let at = contains_from_in members b.0 b.1 in
    (at.0, b.0, at.1, at.2, b.2)

-- members of these nodes have different zones
abbrev pub StandApart : List Member → NodeId → NodeId → Type 0
StandApart members a b =
    (m n : Member) → Contains members m → Contains members n → m.node ≡ a → n.node ≡ b → m.zone ≢ n.zone

nodes_apart : (members : List Member) (object : ℕ) → AreWeighted members → (ps : List Place)
    → ((p : Place) → In p ps → (m : Member) × In m members × (member_place object m ≡ p))
    → EachLater (λ (p q : Place). p.zone ≢ q.zone) ps → EachLater (StandApart members) (map (λ (p : Place). p.node) ps)
nodes_apart members object are [] known h = tt
nodes_apart members object are (p ∷ ps) known h =
    (head, nodes_apart members object are ps (λ q i. known q (inr i)) h.1)
  where
    zone_of : (q : Place) → In q (p ∷ ps) → (m : Member) → Contains members m → m.node ≡ q.node → m.zone ≡ q.zone
    zone_of q i m c e =
        let b = known q i in
        ap (λ (k : Member). k.zone) (same_member members are.different m b.0 c (contains_from_in members b.0 b.1)
        (ap (λ (k : NodeId). k.0) (e ∙ sym (ap (λ (r : Place). r.node) b.2))))
        ∙ ap (λ (r : Place). r.zone) b.2

    head : (b : NodeId) → In b (map (λ (p : Place). p.node) ps) → StandApart members p.node b
    head b i m n cm cn em en z =
        let q = from_map (λ (p : Place). p.node) ps b i in
        h.0 q.0 q.1 (sym (zone_of p (inl refl) m cm em) ∙ z ∙ zone_of q.0 (inr q.1) n cn (en ∙ sym q.2))

pub targets_apart : (members : List Member) (object wanted : ℕ) → AreWeighted members
    → EachLater (StandApart members) (targets_of members object wanted)
unfolding targets_of kept
targets_apart members object wanted are =
    let places : List Place = map (member_place object) members in
    later_take (StandApart members) wanted (map (λ (p : Place). p.node) (kept members object))
    (nodes_apart members object are (kept members object) (member_of members object)
    (kept_apart [] (places_in_order places) (in_order_ordered places)))

pub targets_zones : (members : List Member) (object wanted : ℕ) → AreWeighted members
    → AllPairs (StandApart members) (targets_of members object wanted)
targets_zones members object wanted are =
    all_pairs_from_later (StandApart members) (targets_of members object wanted) (targets_apart members object wanted are)

different_from_apart : (members : List Member) (nodes : List NodeId)
    → ((a : NodeId) → In a nodes → (m : Member) × In m members × (m.node ≡ a)) → EachLater (StandApart members) nodes
    → EachLater (λ (a b : NodeId). a ≢ b) nodes
different_from_apart members [] known h = tt
different_from_apart members (a ∷ rest) known h =
    (head, different_from_apart members rest (λ b i. known b (inr i)) h.1)
  where
    head : (b : NodeId) → In b rest → a ≢ b
    head b i e =
        let m = known a (inl refl) in
        let c = contains_from_in members m.0 m.1 in
        h.0 b i m.0 m.0 c c m.2 (m.2 ∙ e) refl

pub targets_different : (members : List Member) (object wanted : ℕ) → AreWeighted members
    → AllPairs (λ (a b : NodeId). a ≢ b) (targets_of members object wanted)
targets_different members object wanted are =
    all_pairs_from_later (λ (a b : NodeId). a ≢ b) (targets_of members object wanted)
    (different_from_apart members (targets_of members object wanted) (target_is_member members object wanted)
    (targets_apart members object wanted are))

pub length-targets_of : (members : List Member) (object wanted : ℕ)
    → length (targets_of members object wanted) ≡ min wanted (zone_count members)
unfolding targets_of kept
length-targets_of members object wanted =
    let places : List Place = map (member_place object) members in
    length-take wanted (map (λ (p : Place). p.node) (kept members object))
    ∙ ap (min wanted)
    (length-map (kept members object) (λ (p : Place). p.node)
    ∙ length-one_a_zone [] (places_in_order places)
    ∙ fresh-places_in_order [] places
    ∙ ap (fresh []) (zones-member_places object members)
    ∙ fresh-members members)

pub targets_of-prefix : (members : List Member) (object fewer wanted : ℕ) → fewer ≤ wanted
    → targets_of members object fewer ≡ take fewer (targets_of members object wanted)
unfolding targets_of kept
targets_of-prefix members object fewer wanted h =
    sym (take-take fewer wanted (map (λ (p : Place). p.node) (kept members object)) h)

pub targets_among-prefix : (points : List Point) (object fewer wanted : ℕ) → fewer ≤ wanted
    → targets_among points object fewer ≡ take fewer (targets_among points object wanted)
unfolding targets_among
targets_among-prefix points object fewer wanted h = sym (take-take fewer wanted _ h)
