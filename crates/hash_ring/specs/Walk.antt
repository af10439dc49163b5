-- How a ring is walked: what its private functions say of one another.
use Rattle.std.specs.Prelude.{◌≡◌, ℕ, Bool, false, List, [], ◌∷◌, ◌++◌, take, drop, length, map, slice_index_or, if◌then◌else◌}
use Rattle.object_id.specs.declared.node.NodeId.{NodeId}
use Rattle.object_id.specs.Node.{IsZone}
use Rattle.hash_ring.specs.declared.point.Point.{Point}
use Rattle.hash_ring.specs.Placement.{is_among}

-- once round, from the point at a place on
abbrev pub walk : ℕ → List Point → List Point
walk start points = drop start points ++ take start points

-- the zones of the points before a turn of the walk
abbrev pub zones_before : ℕ → ℕ → List Point → List ℕ
zones_before turn start points = map (λ (point : Point). point.zone) (take turn (walk start points))

-- each zone that there may be is marked exactly where it is among these
abbrev pub AreMarked : List Bool → List ℕ → Type 0
AreMarked marks zones = (zone : ℕ) → IsZone zone → slice_index_or marks zone false ≡ is_among zone zones

-- the nodes of points whose zone no earlier one has
abbrev pub first_nodes : List ℕ → List Point → List NodeId
first_nodes earlier [] = []
first_nodes earlier (point ∷ later) =
    if is_among point.zone earlier
    then first_nodes (point.zone ∷ earlier) later
    else point.node ∷ first_nodes (point.zone ∷ earlier) later

-- in how many zones the nodes of points stand
abbrev pub zones_met : List Point → ℕ
zones_met points = length (first_nodes [] points)
