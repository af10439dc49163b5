-- Placement by the points of a ring, in whatever order they stand: it gives the targets that the members have.
use Rattle.std.specs.Prelude.{◌≡◌, ◌⊎◌, ℕ, ◌<◌, ◌≤◌, ◌==◌, List, map, filter, flat_map, Contains, AllPairs}
use Rattle.object_id.specs.declared.node.NodeId.{NodeId}
use Rattle.object_id.specs.declared.entry.Member.{Member}
use Rattle.hash_ring.specs.declared.point.Point.{Point}
use Rattle.hash_ring.specs.Circle.{distance}
use Rattle.hash_ring.specs.Placement.{Place, least, virtual_hashes, nodes_one_a_zone}

-- a member's points: one for each virtual node
abbrev pub points_of_member : Member → List Point
points_of_member member =
    map (λ (hash : ℕ). record { hash = hash; node = member.node; zone = member.zone }) (virtual_hashes member)

abbrev pub points_of : List Member → List Point
points_of members = flat_map points_of_member members

-- the hashes of a node's points
abbrev pub hashes_of : List Point → ℕ → List ℕ
hashes_of points node = map (λ (point : Point). point.hash) (filter (λ (point : Point). point.node.0 == node) points)

-- the node of a point, with the least distance of the node's points
abbrev pub node_place : List Point → ℕ → Point → Place
node_place points object point = record {
  distance = least (map (distance object) (hashes_of points point.node.0));
  node = point.node;
  zone = point.zone;
}

-- the targets of an object among the nodes of points. A node stands here once for each of its points, always
-- alike; it is kept once, since its zone was seen then.
unfoldable pub targets_among : List Point → ℕ → ℕ → List NodeId
targets_among points object wanted = nodes_one_a_zone (map (node_place points object) points) wanted

-- the points of one node have one zone
pub record NodesHaveOneZone (points : List Point) : Type 0 where
  pub alike : (p q : Point) → Contains points p → Contains points q → p.node.0 ≡ q.node.0 → p.zone ≡ q.zone

-- by hash, then by the node's number
abbrev pub StandsBefore : Point → Point → Type 0
StandsBefore p q = (p.hash < q.hash) ⊎ ((p.hash ≡ q.hash) × (p.node.0 ≤ q.node.0))

-- points in the order of the circle
pub record IsRing (points : List Point) : Type 0 where
  pub ascending : AllPairs StandsBefore points
  pub one_zone : NodesHaveOneZone points
