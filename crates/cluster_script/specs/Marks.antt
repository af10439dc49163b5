-- The numbers that the parser marks beside the statements, of nodes and of sessions, and what each mark says of that list.
use Rattle.std.specs.Prelude.{◌≡◌, ℕ, ◌≤◌, ◌==◌, nat_lt, Bool, true, false, List, slice_index_or, if◌then◌else◌}
use Rattle.object_id.specs.declared.limits.TheConstants.{NODES_MAX, SESSIONS_MAX}
use Rattle.object_id.specs.Node.{IsNode}
use Rattle.cluster_script.specs.declared.statement.Statement.{Statement}
use Rattle.cluster_script.specs.declared.statement.Statement.TheVariants.{Cluster, Session, Fail, Join, Zone, Back}
use Rattle.cluster_script.specs.declared.marks.Marks.{Marks}
use Rattle.cluster_script.specs.declared.marks.MarkedNumbers.{MarkedNumbers}
use Rattle.cluster_script.specs.Statements.{is_session_declared}
use Rattle.cluster_script.specs.Settings.{is_set, zone_set}
use Rattle.cluster_script.specs.Nodes.{is_node_used, failed_by, is_failed}

-- a number is marked
abbrev pub is_marked : ℕ → Marks → Bool
is_marked number marks = slice_index_or marks.marks number false

-- whether a node's zone is set after a statement
abbrev pub zoned_by : ℕ → Bool → Statement → Bool
zoned_by node was (Zone number zone) = if number == node then true else was
zoned_by node was s = was

-- whether a session is declared after a statement
abbrev pub declared_by : ℕ → Bool → Statement → Bool
declared_by session was (Session number node) = if number == session then true else was
declared_by session was s = was

-- whether a node is used after a statement
abbrev pub used_by : ℕ → Bool → Statement → Bool
used_by node was (Cluster nodes) = if nat_lt node nodes then true else was
used_by node was (Join number) = if number == node then true else was
used_by node was s = was

-- each number is marked exactly where the list says so
pub record HaveMarks (before : List Statement) (numbers : MarkedNumbers) : Type 0 where
  pub zoned : (node : ℕ) → is_marked node numbers.zoned ≡ is_set (zone_set node) before
  pub declared : (session : ℕ) → is_marked session numbers.declared ≡ is_session_declared session before
  pub used : (node : ℕ) → is_marked node numbers.used ≡ is_node_used node before
  pub failed : (node : ℕ) → is_marked node numbers.failed ≡ is_failed node before

-- the marks with one statement more
pub record AreMarkedAfter (old : MarkedNumbers) (s : Statement) (new : MarkedNumbers) : Type 0 where
  pub zoned : (node : ℕ) → is_marked node new.zoned ≡ zoned_by node (is_marked node old.zoned) s
  pub declared : (session : ℕ) → is_marked session new.declared ≡ declared_by session (is_marked session old.declared) s
  pub used : (node : ℕ) → is_marked node new.used ≡ used_by node (is_marked node old.used) s
  pub failed : (node : ℕ) → is_marked node new.failed ≡ failed_by node (is_marked node old.failed) s

-- the numbers that a statement marks may be marked
abbrev pub MayBeMarked : Statement → Type 0
MayBeMarked (Cluster nodes) = nodes ≤ NODES_MAX
MayBeMarked (Session session node) = session ≤ SESSIONS_MAX
MayBeMarked (Fail node) = IsNode node
MayBeMarked (Join node) = IsNode node
MayBeMarked (Zone node zone) = IsNode node
MayBeMarked (Back node) = IsNode node
MayBeMarked s = Unit {0}
