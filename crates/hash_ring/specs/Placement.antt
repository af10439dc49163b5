-- Placement: on which members of an epoch an object is kept.
use Rattle.std.specs.Prelude.{◌≡◌, ◌≢◌, ◌⊎◌, ℕ, ◌+◌, ◌<◌, ◌≤◌, ◌==◌, nat_lt, nat_le, min, Bool, ◌&&◌, ◌||◌, List, [], ◌∷◌, take, map, fold}
use Rattle.std.specs.Prelude.{All, AllPairs, if◌then◌else◌}
use Rattle.std.specs.List.{list_any, range_with_len}
use Rattle.object_id.specs.declared.node.NodeId.{NodeId}
use Rattle.object_id.specs.declared.entry.Member.{Member}
use Rattle.object_id.specs.Node.{IsWeight}
use Rattle.hash_ring.specs.Circle.{hash_of_virtual, distance}

-- a node as an object sees it: its distance, its number and its zone
pub record Place : Type 0 where
  pub distance : ℕ
  pub node : NodeId
  pub zone : ℕ

-- the least of some numbers
abbrev pub least : List ℕ → ℕ
least [] = 0
least (first ∷ rest) = fold min first rest

-- the hashes of a member's virtual nodes, as many as its weight
abbrev pub virtual_hashes : Member → List ℕ
virtual_hashes member = map (hash_of_virtual member.node.0) (range_with_len 0 member.vnodes)

-- a member's distance to an object is the least of those of its virtual nodes
abbrev pub member_place : ℕ → Member → Place
member_place object member =
    record { distance = least (map (distance object) (virtual_hashes member)); node = member.node; zone = member.zone }

-- by distance, then by number
abbrev pub comes_first : Place → Place → Bool
comes_first p q = nat_lt p.distance q.distance || (p.distance == q.distance && nat_le p.node.0 q.node.0)

-- the order of places as a relation, for proofs that go by cases
abbrev pub ComesFirst : Place → Place → Type 0
ComesFirst p q = (p.distance < q.distance) ⊎ ((p.distance ≡ q.distance) × (p.node.0 ≤ q.node.0))

abbrev pub put_in : Place → List Place → List Place
put_in place [] = place ∷ []
put_in place (first ∷ rest) = if comes_first place first then place ∷ first ∷ rest else first ∷ put_in place rest

-- places in that order
abbrev pub places_in_order : List Place → List Place
places_in_order [] = []
places_in_order (place ∷ places) = put_in place (places_in_order places)

abbrev pub is_among : ℕ → List ℕ → Bool
is_among zone zones = list_any (λ z. z == zone) zones

-- those whose zone no earlier one has; `earlier` are the zones before these places
abbrev pub one_a_zone : List ℕ → List Place → List Place
one_a_zone earlier [] = []
one_a_zone earlier (place ∷ later) =
    if is_among place.zone earlier
    then one_a_zone (place.zone ∷ earlier) later
    else place ∷ one_a_zone (place.zone ∷ earlier) later

-- the nodes of places in order, one a zone, cut to the wanted number
abbrev pub nodes_one_a_zone : List Place → ℕ → List NodeId
nodes_one_a_zone places wanted = take wanted (map (λ (place : Place). place.node) (one_a_zone [] (places_in_order places)))

-- the targets of an object among members
unfoldable pub targets_of : List Member → ℕ → ℕ → List NodeId
targets_of members object wanted = nodes_one_a_zone (map (member_place object) members) wanted

-- no node stands twice, and each has a weight that there may be
pub record AreWeighted (members : List Member) : Type 0 where
  pub different : AllPairs (λ (m n : Member). m.node.0 ≢ n.node.0) members
  pub weights : All (λ (m : Member). IsWeight m.vnodes) members

-- in how many different zones members stand
unfoldable pub zone_count : List Member → ℕ
zone_count [] = 0
zone_count (member ∷ members) =
    zone_count members + (if list_any (λ (m : Member). m.zone == member.zone) members then 0 else 1)
