-- Which requests of the script a node may have in every world of a run: those that sessions of its present incarnation have
-- begun, so that a session's next request is new to its gateway.
use Rattle.std.specs.Prelude.{◌≡◌, ℕ, ◌<◌, true, List, Some, is_some, unwrap_or, slice_get}
use Rattle.std.specs.Ordering.{nat_cmp}
use Rattle.std.specs.FinMap as tree
use Rattle.cluster_script.specs.declared.statement.Statement.{Statement}
use Rattle.cluster_script.specs.NumberedRequests.{request_at, numbers_of_session}
use Rattle.cluster_script.specs.Sessions.{ScriptSession, session_numbered}
use Rattle.sheep_node.specs.declared.course.Request.{Request}
use Rattle.sheep_world.specs.declared.progress.SessionProgress.{SessionProgress}
use Rattle.sheep_world.specs.World.{Host, World, no_progress}

-- how many of its requests a session has begun
abbrev pub begun_count : ℕ → tree.FinMap nat_cmp SessionProgress → ℕ
begun_count number guests = (unwrap_or (tree.get guests number) no_progress).begun

-- a request is among those that a session of this number has begun: the first ones of the session's
pub record WasBegun (statements : List Statement) (guests : tree.FinMap nat_cmp SessionProgress) (number req : ℕ) : Type 0 where
  pub place : ℕ
  pub before : place < begun_count number guests
  pub there : slice_get (numbers_of_session statements number) place ≡ Some req

-- a session of the script has begun it, whose gateway is this node in this incarnation of it
pub record IsBegun (statements : List Statement) (guests : tree.FinMap nat_cmp SessionProgress) (node incarnation req : ℕ) : Type 0 where
  pub session : ScriptSession
  pub declared : session_numbered statements session.number ≡ Some session
  pub gateway : session.node ≡ node
  pub lived : session.incarnation ≡ incarnation
  pub begun : WasBegun statements guests session.number req

-- the script has a request of this number
abbrev pub IsOfScript : List Statement → ℕ → Type 0
IsOfScript statements req = is_some (request_at statements req) ≡ true

-- each request of the script that the node in a host has is so; a client's reads are requests of no script
abbrev pub HasOnlyBegun : List Statement → tree.FinMap nat_cmp SessionProgress → ℕ → Host → Type 0
HasOnlyBegun statements guests node host =
    (req : ℕ) (request : Request) → tree.get host.node.requests req ≡ Some request → IsOfScript statements req
    → IsBegun statements guests node host.incarnation req

-- each node has only such requests
abbrev pub AllHaveOnlyBegun : List Statement → tree.FinMap nat_cmp Host → tree.FinMap nat_cmp SessionProgress → Type 0
AllHaveOnlyBegun statements hosts guests = (node : ℕ) (host : Host) → tree.get hosts node ≡ Some host
    → HasOnlyBegun statements guests node host

-- the nodes of a world have only such requests
abbrev pub RequestsWereBegun : List Statement → World → Type 0
RequestsWereBegun statements world = AllHaveOnlyBegun statements world.hosts world.guests
