-- Members and their points, each point at its own distance, are placed alike.
use Rattle.std.proofs.Common.{◌≡◌, ◌≢◌, ◌⊎◌, ℕ, zero, suc, ◌<◌, ◌≤◌, List, get_or, map, filter, AllPairs, Contains, IsPermutation, refl, sym, ap, ◌∙◌, subst, inl, inr, arith}
use Rattle.std.specs.Prelude.{◌==◌}
use Rattle.std.specs.List.{range_with_len}
use Rattle.std.proofs.lemmas.List.{get_or_default}
use Rattle.std.proofs.lemmas.List.Elements.{All-contains}
use Rattle.std.proofs.lemmas.List.Sorted.{Contains-permutation, IsPermutation-sym}
use Rattle.std.proofs.lemmas.Bool.{eq-eqb, eqb-true}
use Rattle.object_id.specs.declared.entry.Member.{Member}
use Rattle.object_id.specs.Node.{IsWeight}
use Rattle.hash_ring.specs.declared.point.Point.{Point}
use Rattle.hash_ring.specs.Circle.{hash_of_virtual, distance}
use Rattle.hash_ring.specs.Placement.{Place, ComesFirst, least, virtual_hashes, member_place, nodes_one_a_zone, targets_of, AreWeighted}
use Rattle.hash_ring.specs.Points.{points_of_member, points_of, hashes_of, node_place, targets_among, NodesHaveOneZone}
use Rattle.hash_ring.proofs.InLaws.{In, in_from_contains, contains_from_in, in_map, from_map, in_filter, from_filter, in_flat_map, from_flat_map}
use Rattle.hash_ring.proofs.OrderLaws.{comes_first_itself, same_parts}
use Rattle.hash_ring.proofs.KeptLaws.{NodesKeepZones, HasTheNearest, same_placed}
use Rattle.hash_ring.proofs.LeastLaws.{least_is_one, least_le}

-- a point as an object sees it, at its own distance
abbrev pub point_place : ℕ → Point → Place
point_place object point = record { distance = distance object point.hash; node = point.node; zone = point.zone }

abbrev pub point_places : ℕ → List Point → List Place
point_places object points = map (point_place object) points

at_or_before : (a b m n : ℕ) → a ≤ b → m ≡ n → (a < b) ⊎ ((a ≡ b) × (m ≤ n))
at_or_before a b m n h e = grind arith

pub points_keep_zones : (object : ℕ) (points : List Point) → NodesHaveOneZone points → NodesKeepZones (point_places object points)
points_keep_zones object points one p q i j e =
    let a = from_map (point_place object) points p i in
    let b = from_map (point_place object) points q j in
    let n : a.0.node.0 ≡ b.0.node.0 = ap (λ (r : Place). r.node.0) a.2 ∙ e ∙ sym (ap (λ (r : Place). r.node.0) b.2) in
    sym (ap (λ (r : Place). r.zone) a.2)
    ∙ one.alike a.0 b.0 (contains_from_in points a.0 a.1) (contains_from_in points b.0 b.1) n
    ∙ ap (λ (r : Place). r.zone) b.2

-- a node's least distance is that of one of its points, and none of them is nearer
own_hash : (points : List Point) (point : Point) → In point points → In point.hash (hashes_of points point.node.0)
own_hash points point i =
    in_map (λ (p : Point). p.hash) (filter (λ (p : Point). p.node.0 == point.node.0) points) point
    (in_filter (λ (p : Point). p.node.0 == point.node.0) points point i (eq-eqb point.node.0 point.node.0 refl))

pub nodes_are_nearest : (object : ℕ) (points : List Point) → NodesHaveOneZone points
    → HasTheNearest (point_places object points) (map (node_place points object) points)
nodes_are_nearest object points one = (to, from)
  where
    to_point : (p : Place) (point : Point) → In point points → node_place points object point ≡ p → In p (point_places object points)
    to_point p point i e =
        let d = from_map (distance object) (hashes_of points point.node.0) (least (map (distance object) (hashes_of points point.node.0)))
        (least_is_one (map (distance object) (hashes_of points point.node.0)) (distance object point.hash)
        (in_map (distance object) (hashes_of points point.node.0) point.hash (own_hash points point i))) in
        let f = from_map (λ (q : Point). q.hash) (filter (λ (q : Point). q.node.0 == point.node.0) points) d.0 d.1 in
        let g = from_filter (λ (q : Point). q.node.0 == point.node.0) points f.0 f.1 in
        let n : f.0.node.0 ≡ point.node.0 = eqb-true f.0.node.0 point.node.0 g.1 in
        let z : f.0.zone ≡ point.zone = one.alike f.0 point (contains_from_in points f.0 g.0) (contains_from_in points point i) n in
        let same : point_place object f.0 ≡ node_place points object point
        = same_parts (point_place object f.0) (node_place points object point) (ap (distance object) f.2 ∙ d.2) n z in
        let P : Place → Type 0 = λ r. In r (point_places object points) in
        subst P (same ∙ e) (in_map (point_place object) points f.0 g.0)

    to : (p : Place) → In p (map (node_place points object) points) → In p (point_places object points)
    to p k = let a = from_map (node_place points object) points p k in to_point p a.0 a.1 a.2

    from : (p : Place) → In p (point_places object points)
        → (q : Place) × In q (map (node_place points object) points) × (q.zone ≡ p.zone) × ComesFirst q p
    from p k =
        let a = from_map (point_place object) points p k in
        let le : least (map (distance object) (hashes_of points a.0.node.0)) ≤ distance object a.0.hash
        = least_le (map (distance object) (hashes_of points a.0.node.0)) (distance object a.0.hash)
        (in_map (distance object) (hashes_of points a.0.node.0) a.0.hash (own_hash points a.0 a.1)) in
        let Q : Place → Type 0 = λ r. ((node_place points object a.0).zone ≡ r.zone) × ComesFirst (node_place points object a.0) r in
        let c = subst Q a.2 (refl, at_or_before (least (map (distance object) (hashes_of points a.0.node.0))) (distance object a.0.hash) a.0.node.0 a.0.node.0 le refl) in
        (node_place points object a.0, in_map (node_place points object) points a.0 a.1, c.0, c.1)

-- the targets among points are placed by each point's own distance
pub targets_among_points : (points : List Point) → NodesHaveOneZone points → (object wanted : ℕ)
    → targets_among points object wanted ≡ nodes_one_a_zone (point_places object points) wanted
unfolding targets_among
targets_among_points points one object wanted =
    sym (same_placed (point_places object points) (map (node_place points object) points)
    (points_keep_zones object points one) (nodes_are_nearest object points one) wanted)

pub one_zone-moved : (points moved : List Point) → NodesHaveOneZone points → IsPermutation points moved → NodesHaveOneZone moved
one_zone-moved points moved one permuted =
    let back = IsPermutation-sym points moved permuted in
    record {
      alike = λ p q i j e. one.alike p q (Contains-permutation moved points p back i) (Contains-permutation moved points q back j) e;
    }

-- and their order changes nothing
pub targets_among-moved : (points moved : List Point) → NodesHaveOneZone points → IsPermutation points moved → (object wanted : ℕ)
    → targets_among moved object wanted ≡ targets_among points object wanted
targets_among-moved points moved one permuted object wanted =
    targets_among_points moved one_moved object wanted
    ∙ same_placed (point_places object moved) (point_places object points) (points_keep_zones object moved one_moved)
    ((λ p i. across points moved permuted p i), (λ p i. (p, across moved points back p i, refl, comes_first_itself p)))
    wanted
    ∙ sym (targets_among_points points one object wanted)
  where
    back : IsPermutation moved points
    back = IsPermutation-sym points moved permuted

    one_moved : NodesHaveOneZone moved
    one_moved = one_zone-moved points moved one permuted

    across : (xs ys : List Point) → IsPermutation xs ys → (p : Place) → In p (point_places object xs) → In p (point_places object ys)
    across xs ys same p i =
        let a = from_map (point_place object) xs p i in
        let P : Place → Type 0 = λ r. In r (point_places object ys) in
        subst P a.2
        (in_map (point_place object) ys a.0
        (in_from_contains ys a.0 (Contains-permutation xs ys a.0 same (contains_from_in xs a.0 a.1))))

in_some_order : (a b : ℕ) → (a < b) ⊎ ((b < a) ⊎ (a ≡ b))
in_some_order a b = grind arith

-- two members of one node are one
pub same_member : (members : List Member) → AllPairs (λ (m n : Member). m.node.0 ≢ n.node.0) members
    → (m n : Member) → Contains members m → Contains members n → m.node.0 ≡ n.node.0 → m ≡ n
same_member members apart m n i j e = go (in_some_order i.0 j.0)
  where
    at_n : get_or members j.0 m ≡ n
    at_n = get_or_default members j.0 m n j.1 ∙ j.2

    go : (i.0 < j.0) ⊎ ((j.0 < i.0) ⊎ (i.0 ≡ j.0)) → m ≡ n
    go (inl h) =
        absurd (apart i.0 j.0 m h j.1 (ap (λ (r : Member). r.node.0) i.2 ∙ e ∙ sym (ap (λ (r : Member). r.node.0) at_n)))
    go (inr (inl h)) =
        absurd (apart j.0 i.0 m h i.1 (ap (λ (r : Member). r.node.0) at_n ∙ sym e ∙ sym (ap (λ (r : Member). r.node.0) i.2)))
    go (inr (inr h)) = sym i.2 ∙ ap (λ k. get_or members k m) h ∙ at_n

-- whose points these are
pub from_points_of : (members : List Member) (points : List Point) → IsPermutation (points_of members) points
    → (point : Point) → In point points
    → (m : Member) × In m members × In point.hash (virtual_hashes m) × (m.node.0 ≡ point.node.0) × (m.zone ≡ point.zone)
from_points_of members points moved point i =
    let k = in_from_contains (points_of members) point
    (Contains-permutation points (points_of members) point (IsPermutation-sym (points_of members) points moved) (contains_from_in points point i)) in
    let a = from_flat_map points_of_member members point k in
    let b = from_map (λ (hash : ℕ). let p : Point = record { hash = hash; node = a.0.node; zone = a.0.zone } in p) (virtual_hashes a.0) point a.2 in
    let P : ℕ → Type 0 = λ h. In h (virtual_hashes a.0) in
    (a.0, a.1, subst P (ap (λ (p : Point). p.hash) b.2) b.1, ap (λ (p : Point). p.node.0) b.2, ap (λ (p : Point). p.zone) b.2)

pub in_points_of : (members : List Member) (points : List Point) → IsPermutation (points_of members) points
    → (m : Member) (hash : ℕ) → In m members → In hash (virtual_hashes m)
    → In (record { hash = hash; node = m.node; zone = m.zone }) points
in_points_of members points moved m hash i k =
    let point : Point = record { hash = hash; node = m.node; zone = m.zone } in
    in_from_contains points point
    (Contains-permutation (points_of members) points point moved
    (contains_from_in (points_of members) point
    (in_flat_map points_of_member members m point i
    (in_map (λ (h : ℕ). let p : Point = record { hash = h; node = m.node; zone = m.zone } in p) (virtual_hashes m) hash k))))

pub points_of_one_zone : (members : List Member) (points : List Point) → AreWeighted members
    → IsPermutation (points_of members) points → NodesHaveOneZone points
points_of_one_zone members points are moved = record { alike = alike }
  where
    alike : (p q : Point) → Contains points p → Contains points q → p.node.0 ≡ q.node.0 → p.zone ≡ q.zone
    alike p q i j e =
        let a = from_points_of members points moved p (in_from_contains points p i) in
        let b = from_points_of members points moved q (in_from_contains points q j) in
        let same : a.0 ≡ b.0 = same_member members are.different a.0 b.0 (contains_from_in members a.0 a.1)
        (contains_from_in members b.0 b.1) (a.3 ∙ e ∙ sym b.3) in
        sym a.4 ∙ ap (λ (m : Member). m.zone) same ∙ b.4

first_of_range : (f : ℕ → ℕ) (n : ℕ) → 1 ≤ n → In (f 0) (map f (range_with_len 0 n))
first_of_range f zero h = absurd (omega arith)
first_of_range f (suc n) h = inl refl

first_hash : (m : Member) → 1 ≤ m.vnodes → In (hash_of_virtual m.node.0 0) (virtual_hashes m)
first_hash m h = first_of_range (hash_of_virtual m.node.0) m.vnodes h

pub members_are_nearest : (members : List Member) (points : List Point) → AreWeighted members
    → IsPermutation (points_of members) points → (object : ℕ)
    → HasTheNearest (point_places object points) (map (member_place object) members)
members_are_nearest members points are moved object = (to, from)
  where
    to_point : (p : Place) (m : Member) → In m members → member_place object m ≡ p → In p (point_places object points)
    to_point p m i e =
        let w = All-contains (λ (n : Member). IsWeight n.vnodes) members m are.weights (contains_from_in members m i) in
        let d = from_map (distance object) (virtual_hashes m) (least (map (distance object) (virtual_hashes m)))
        (least_is_one (map (distance object) (virtual_hashes m)) (distance object (hash_of_virtual m.node.0 0))
        (in_map (distance object) (virtual_hashes m) (hash_of_virtual m.node.0 0) (first_hash m w.0))) in
        let point : Point = record { hash = d.0; node = m.node; zone = m.zone } in
        let same : point_place object point ≡ member_place object m
        = same_parts (point_place object point) (member_place object m) d.2 refl refl in
        let P : Place → Type 0 = λ r. In r (point_places object points) in
        subst P (same ∙ e) (in_map (point_place object) points point (in_points_of members points moved m d.0 i d.1))

    to : (p : Place) → In p (map (member_place object) members) → In p (point_places object points)
    to p k = let a = from_map (member_place object) members p k in to_point p a.0 a.1 a.2

    from : (p : Place) → In p (point_places object points)
        → (q : Place) × In q (map (member_place object) members) × (q.zone ≡ p.zone) × ComesFirst q p
    from p k =
        let a = from_map (point_place object) points p k in
        let b = from_points_of members points moved a.0 a.1 in
        let le : least (map (distance object) (virtual_hashes b.0)) ≤ distance object a.0.hash
        = least_le (map (distance object) (virtual_hashes b.0)) (distance object a.0.hash)
        (in_map (distance object) (virtual_hashes b.0) a.0.hash b.2) in
        let Q : Place → Type 0 = λ r. ((member_place object b.0).zone ≡ r.zone) × ComesFirst (member_place object b.0) r in
        let c = subst Q a.2 (b.4, at_or_before (least (map (distance object) (virtual_hashes b.0))) (distance object a.0.hash) b.0.node.0 a.0.node.0 le b.3) in
        (member_place object b.0, in_map (member_place object) members b.0 b.1, c.0, c.1)

-- the points of members, in whatever order, stand for them
pub targets_among-points_of : (members : List Member) (points : List Point) (object wanted : ℕ) → AreWeighted members
    → IsPermutation (points_of members) points → targets_among points object wanted ≡ targets_of members object wanted
unfolding targets_of
targets_among-points_of members points object wanted are moved =
    let one = points_of_one_zone members points are moved in
    targets_among_points points one object wanted
    ∙ same_placed (point_places object points) (map (member_place object) members)
    (points_keep_zones object points one) (members_are_nearest members points are moved object) wanted
