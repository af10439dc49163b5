-- What the tests of points and members find, and which points a member has.
use Rattle.std.proofs.Common.{◌≡◌, ◌≢◌, ◌⊎◌, ℕ, ◌+◌, ◌<◌, ◌≤◌, Bool, false, List, [], ◌∷◌, ◌++◌, length, get_or, map, take, All, Any, AllPairs, Contains, sym, ap, ap₂, ◌∙◌, subst, arith, append_assoc}
use Rattle.std.specs.Ordering.{is_lt, nat_cmp, ordering_then}
use Rattle.std.specs.Cmp.{IsStrictWeakOrder}
use Rattle.std.specs.List.{range_with_len}
use Rattle.std.specs.List.Sorted.{IsSortedBy}
use Rattle.std.proofs.lemmas.Cmp.{then_total, on_total, nat_cmp_total}
use Rattle.std.proofs.lemmas.List.MinMax.{ranks_by}
use Rattle.std.proofs.lemmas.List.Sorted.{sorted_far}
use Rattle.std.proofs.lemmas.List.FromFn.{map-range_with_len_more}
use Rattle.std.proofs.lemmas.List.{take_more, get_or-take, get_or_default, length-take, map-append}
use Rattle.std.proofs.lemmas.List.Elements.{All-contains, All-push, Contains-get_or}
use Rattle.std.proofs.lemmas.List.Quantifiers.{all_pairs_push}
use Rattle.object_id.specs.declared.node.NodeId.{NodeId}
use Rattle.object_id.specs.declared.entry.Member.{Member}
use Rattle.object_id.specs.Node.{IsWeight}
use Rattle.hash_ring.specs.declared.point.Point.{Point}
use Rattle.hash_ring.specs.Circle.{hash_of_virtual}
use Rattle.hash_ring.specs.Placement.{AreWeighted}
use Rattle.hash_ring.specs.Points.{NodesHaveOneZone, StandsBefore}

-- the points of a point's node have its zone
abbrev pub HasOneZone : List Point → Point → Type 0
HasOneZone points of = All (λ (p : Point). p.node.0 ≡ of.node.0 → p.zone ≡ of.zone) points

pub one_zone_from_all : (points : List Point) → All (HasOneZone points) points → NodesHaveOneZone points
one_zone_from_all points h = record {
  alike = λ p q i j e.
      All-contains (λ (r : Point). r.node.0 ≡ q.node.0 → r.zone ≡ q.zone) points p (All-contains (HasOneZone points) points q h j) i e;
}

pub all_from_one_zone : (points : List Point) → NodesHaveOneZone points → (of : Point) → Contains points of → HasOneZone points of
all_from_one_zone points one of i k d lt e = one.alike (get_or points k d) of (Contains-get_or points k d lt) i e

-- a member's node is one of some members'
abbrev pub StandsAmong : List Member → Member → Type 0
StandsAmong members member = Any (λ (m : Member). m.node.0 ≡ member.node.0) members

apart_from_none : (members : List Member) (member : Member) → (StandsAmong members member → ⊥)
    → (k : ℕ) (d : Member) → k < length members → (get_or members k d).node.0 ≢ member.node.0
apart_from_none members member none k d lt e =
    none (k, get_or members k d, lt, get_or_default members k (get_or members k d) d lt, e)

-- one more member with a weight, whose node stands in none before it
pub weighted_more : (members : List Member) (k : ℕ) (d : Member) → k < length members → AreWeighted (take k members)
    → IsWeight (get_or members k d).vnodes → (StandsAmong (take k members) (get_or members k d) → ⊥)
    → AreWeighted (take (k + 1) members)
weighted_more members k d lt are weight none =
    let P : List Member → Type 0 = λ ms. AreWeighted ms in
    subst P (sym (take_more members k d lt)) (record {
      different = all_pairs_push (λ (m n : Member). m.node.0 ≢ n.node.0) (take k members) (get_or members k d) are.different
          (apart_from_none (take k members) (get_or members k d) none);
      weights = All-push (λ (m : Member). IsWeight m.vnodes) (take k members) (get_or members k d) are.weights weight;
    })

pub none_before : (members : List Member) (k : ℕ) (d : Member) → k < length members → AreWeighted members
    → StandsAmong (take k members) (get_or members k d) → ⊥
none_before members k d lt are among =
    let l = length-take k members in
    let within : among.0 < k = let h : among.0 < length (take k members) = among.2 in omega (arith, l, h) in
    let at : get_or members among.0 d ≡ among.1
    = get_or_default members among.0 d among.1 (omega arith) ∙ sym (get_or-take k members among.0 among.1 within) ∙ among.3 in
    are.different among.0 k d within lt (ap (λ (m : Member). m.node.0) at ∙ among.4)

-- a point that isn't after another in the order of points
not_before : (a b m n y z : ℕ) → is_lt (ordering_then (nat_cmp a b) (ordering_then (nat_cmp m n) (nat_cmp y z))) ≡ false
    → (b < a) ⊎ ((b ≡ a) × (n ≤ m))
not_before a b m n y z e = grind arith

abbrev pub precedes : Point → Point → Bool
precedes p q = is_lt (ordering_then (nat_cmp p.hash q.hash) (ordering_then (nat_cmp p.node.0 q.node.0) (nat_cmp p.zone q.zone)))

precedes_ranks : IsStrictWeakOrder precedes
precedes_ranks =
    ranks_by (then_total (on_total (λ (p : Point). p.hash) nat_cmp_total)
    (then_total (on_total (λ (p : Point). p.node.0) nat_cmp_total) (on_total (λ (p : Point). p.zone) nat_cmp_total))) (λ (p : Point). p)

-- sorted points ascend
pub sorted_ascends : (points : List Point) → IsSortedBy precedes points → AllPairs StandsBefore points
sorted_ascends points up i j d lt k =
    not_before (get_or points j d).hash (get_or points i d).hash (get_or points j d).node.0 (get_or points i d).node.0
    (get_or points j d).zone (get_or points i d).zone
    (sorted_far precedes precedes_ranks points up i j d (omega (arith, lt)) k)

abbrev pub point_of : NodeId → ℕ → ℕ → Point
point_of node zone hash = record { hash = hash; node = node; zone = zone }

-- the points so far, with that of the next number
pub points_more : (before items after : List Point) (node : NodeId) (zone number hash : ℕ)
    → items ≡ before ++ map (point_of node zone) (map (hash_of_virtual node.0) (range_with_len 0 number))
    → hash ≡ hash_of_virtual node.0 number → after ≡ items ++ point_of node zone hash ∷ []
    → after ≡ before ++ map (point_of node zone) (map (hash_of_virtual node.0) (range_with_len 0 (number + 1)))
points_more before items after node zone number hash have is push =
    let so_far = map (point_of node zone) (map (hash_of_virtual node.0) (range_with_len 0 number)) in
    let next : List Point = point_of node zone (hash_of_virtual node.0 number) ∷ [] in
    push
    ∙ ap₂ (λ (points : List Point) h. points ++ point_of node zone h ∷ []) have is
    ∙ append_assoc before so_far next
    ∙ ap (λ (points : List Point). before ++ points)
    (sym (map-append (point_of node zone) (map (hash_of_virtual node.0) (range_with_len 0 number)) (hash_of_virtual node.0 number ∷ []))
    ∙ sym (ap (map (point_of node zone)) (map-range_with_len_more (hash_of_virtual node.0) 0 number number (omega arith))))
