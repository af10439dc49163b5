-- Which node numbers statements have used, and which of these nodes are failed after them.
use Rattle.std.specs.Prelude.{◌≡◌, ℕ, ◌==◌, nat_lt, Bool, true, false, ◌&&◌, not, List, [], ◌∷◌, if◌then◌else◌}
use Rattle.std.specs.List.{list_any}
use Rattle.cluster_script.specs.declared.statement.Statement.{Statement}
use Rattle.cluster_script.specs.declared.statement.Statement.TheVariants.{Cluster, Fail, Join, Back}

-- a statement makes this node an opening member, or joins it
abbrev pub uses_node : ℕ → Statement → Bool
uses_node node (Cluster nodes) = nat_lt node nodes
uses_node node (Join number) = number == node
uses_node node s = false

-- a node is an opening member, or was named by a join
abbrev pub is_node_used : ℕ → List Statement → Bool
is_node_used node before = list_any (uses_node node) before

-- whether a node is failed after a statement; `fail` and `back` decide, and no other one
abbrev pub failed_by : ℕ → Bool → Statement → Bool
failed_by node was (Fail number) = if number == node then true else was
failed_by node was (Back number) = if number == node then false else was
failed_by node was s = was

-- whether it is failed after statements, one after another
abbrev pub failed_from : ℕ → Bool → List Statement → Bool
failed_from node was [] = was
failed_from node was (s ∷ rest) = failed_from node (failed_by node was s) rest

-- the last of the node's fail and back lines is fail
abbrev pub is_failed : ℕ → List Statement → Bool
is_failed node before = failed_from node false before

-- whether a node is there
abbrev pub is_node_there : ℕ → List Statement → Bool
is_node_there node before = is_node_used node before && not (is_failed node before)

-- a node that is there: it was used, and isn't failed
pub record IsNodeThere (node : ℕ) (before : List Statement) : Type 0 where
  pub used : is_node_used node before ≡ true
  pub stands : is_failed node before ≡ false
