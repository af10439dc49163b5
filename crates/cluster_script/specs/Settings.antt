-- The settings of a script: those of its statements, and a default where none sets one; and the members that it opens with.
use Rattle.std.specs.Prelude.{ℕ, ◌==◌, Bool, List, [], ◌∷◌, map, Option, Some, None, is_some, unwrap_or, if◌then◌else◌}
use Rattle.std.specs.List.{list_any, range_with_len}
use Rattle.object_id.specs.declared.entry.Member.{Member}
use Rattle.cluster_script.specs.declared.statement.Statement.{Statement}
use Rattle.cluster_script.specs.declared.statement.Statement.TheVariants.{Cluster, Vnodes, Tries, Limit, Zone}
use Rattle.object_id.specs.declared.limits.TheConstants.{NODES_DEFAULT, VNODES_DEFAULT, TRIES_DEFAULT, LIMIT_DEFAULT}

-- the number of opening members that a statement sets
abbrev pub nodes_set : Statement → Option ℕ
nodes_set (Cluster nodes) = Some nodes
nodes_set s = None

-- the number of virtual nodes that it sets
abbrev pub vnodes_set : Statement → Option ℕ
vnodes_set (Vnodes vnodes) = Some vnodes
vnodes_set s = None

-- the number of attempts that it sets
abbrev pub tries_set : Statement → Option ℕ
tries_set (Tries tries) = Some tries
tries_set s = None

-- the number of events that it sets
abbrev pub limit_set : Statement → Option ℕ
limit_set (Limit limit) = Some limit
limit_set s = None

-- the zone that it sets for a node
abbrev pub zone_set : ℕ → Statement → Option ℕ
zone_set node (Zone number zone) = if number == node then Some zone else None
zone_set node s = None

-- a statement among these sets it
abbrev pub is_set : (Statement → Option ℕ) → List Statement → Bool
is_set set before = list_any (λ s. is_some (set s)) before

-- a setting is that of the first statement that sets it, or the default
abbrev pub setting_of : (Statement → Option ℕ) → ℕ → List Statement → ℕ
setting_of set default [] = default
setting_of set default (s ∷ rest) = unwrap_or (set s) (setting_of set default rest)

-- how many nodes are the opening members
abbrev pub nodes_of : List Statement → ℕ
nodes_of statements = setting_of nodes_set NODES_DEFAULT statements

-- how many virtual nodes a node has at first
abbrev pub vnodes_of : List Statement → ℕ
vnodes_of statements = setting_of vnodes_set VNODES_DEFAULT statements

-- how many attempts a request has
abbrev pub tries_of : List Statement → ℕ
tries_of statements = setting_of tries_set TRIES_DEFAULT statements

-- how many events a run may take
abbrev pub limit_of : List Statement → ℕ
limit_of statements = setting_of limit_set LIMIT_DEFAULT statements

-- a node's zone; that of its own number where none is set
abbrev pub zone_of : List Statement → ℕ → ℕ
zone_of statements node = setting_of (zone_set node) node statements

-- a node as a member for the first time
abbrev pub new_member : List Statement → ℕ → Member
new_member statements node = record { node = record { 0 = node }; zone = zone_of statements node; vnodes = vnodes_of statements }

-- the members that the cluster opens with, ascending
abbrev pub opening_members : List Statement → List Member
opening_members statements = map (new_member statements) (range_with_len 0 (nodes_of statements))
