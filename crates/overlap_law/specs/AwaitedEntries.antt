-- The entries of a node that are on their way: the log's that it hasn't read, and its outbox. But for its unlocks and its `Recovered`, a
-- command of the node waits for the decision on each, and it stands there once. Which session that is the entry says, or the id in it.
use Rattle.std.specs.Prelude.{◌≡◌, ℕ, ◌≤◌, true, ◌++◌, List, drop, length, count_by, Contains, Some}
use Rattle.std.specs.Ordering.{nat_cmp}
use Rattle.std.specs.FinMap as tree
use Rattle.object_id.specs.declared.oid.Vid.{Vid}
use Rattle.object_id.specs.declared.node.NodeId.{NodeId}
use Rattle.object_id.specs.declared.entry.Entry.{Entry}
use Rattle.object_id.specs.declared.entry.Entry.TheVariants.{Format, Join, Leave, Reweight, Recovered, Reserve, Publish, Clone, Snapshot}
use Rattle.object_id.specs.declared.entry.Entry.TheVariants.{Delete, Lock, Unlock}
use Rattle.object_id.specs.Same.{is_same_entry}
use Rattle.vdi_directory.specs.declared.effect.Grant.{Grant}
use Rattle.vdi_directory.specs.declared.effect.Effect.{Effect}
use Rattle.vdi_directory.specs.declared.effect.Effect.TheVariants.{Reserved}
use Rattle.peer_service.specs.State.{effects_of}
use Rattle.vdi_ops.specs.Op.{Task, Opening, WritingBack, Tagging, Copying, Making, OpStage, Asked, Working, Publishing, Answered, Op}
use Rattle.sheep_node.specs.declared.course.Course.TheVariants.{Commanding}
use Rattle.sheep_node.specs.declared.course.Request.{Request}
use Rattle.sheep_node.specs.AwaitedEntry.{waits_for_entry}
use Rattle.sheep_node.specs.State.{Node}
use Rattle.overlap_law.specs.Reached.{Hosts}
use Rattle.overlap_law.specs.Each.{EachUp}

-- ---- entries on their way

-- the entries of the log that a node hasn't read, and behind them those that it has still to put
abbrev pub entries_on_the_way : List Entry → Node → List Entry
entries_on_the_way log node = drop (length node.peer.entries) log ++ node.outbox

-- how often an entry is among them
abbrev pub count_on_the_way : Entry → List Entry → Node → ℕ
count_on_the_way entry log node = count_by (is_same_entry entry) (entries_on_the_way log node)

-- an entry is one of the node's commands: any that it puts but an unlock and a `Recovered`
abbrev pub IsCommandEntry : NodeId → Entry → Type 0
IsCommandEntry me (Format members) = ⊥
IsCommandEntry me (Join node zone vnodes) = ⊥
IsCommandEntry me (Leave node) = ⊥
IsCommandEntry me (Reweight node vnodes) = ⊥
IsCommandEntry me (Recovered node epoch) = ⊥
IsCommandEntry me (Reserve by session name origin) = by ≡ me
IsCommandEntry me (Publish by vid) = by ≡ me
IsCommandEntry me (Clone by vid) = by ≡ me
IsCommandEntry me (Snapshot by old vid) = by ≡ me
IsCommandEntry me (Delete by session name tag) = by ≡ me
IsCommandEntry me (Lock by session name tag) = by ≡ me
IsCommandEntry me (Unlock by session vid) = ⊥

-- a request waits for the decision on an entry
pub record HasAsker (requests : tree.FinMap nat_cmp Request) (entry : Entry) : Type 0 where
  pub req : ℕ
  pub request : Request
  pub there : tree.get requests req ≡ Some request
  pub waits : waits_for_entry entry request.course ≡ true

-- each entry of a node's commands that is on its way is there once, and a request of the node waits for it
pub record CommandEntriesAreAwaited (log : List Entry) (hosts : Hosts) : Type 0 where
  pub awaited : EachUp hosts (λ n node. (entry : Entry) → IsCommandEntry node.me entry → 1 ≤ count_on_the_way entry log node
      → HasAsker node.requests entry)
  pub once : EachUp hosts (λ n node. (entry : Entry) → IsCommandEntry node.me entry → count_on_the_way entry log node ≤ 1)

-- ---- whose they are

-- an id was reserved for a session of a node
pub record WasReserved (effects : List Effect) (me : NodeId) (session vid : ℕ) : Type 0 where
  pub grant : Grant
  pub there : Contains effects (Reserved grant)
  pub id : grant.reservation.vid.0 ≡ vid
  pub by : grant.reservation.by ≡ me
  pub of : grant.reservation.session ≡ session

-- an entry is a session's: by its own word, or by the id that was reserved for the session
abbrev pub IsSessionsEntry : List Effect → NodeId → ℕ → Entry → Type 0
IsSessionsEntry effects me session (Format members) = ⊥
IsSessionsEntry effects me session (Join node zone vnodes) = ⊥
IsSessionsEntry effects me session (Leave node) = ⊥
IsSessionsEntry effects me session (Reweight node vnodes) = ⊥
IsSessionsEntry effects me session (Recovered node epoch) = ⊥
IsSessionsEntry effects me session (Reserve by of name origin) = (by ≡ me) × (of ≡ session)
IsSessionsEntry effects me session (Publish by vid) = (by ≡ me) × WasReserved effects me session vid.0
IsSessionsEntry effects me session (Clone by vid) = (by ≡ me) × WasReserved effects me session vid.0
IsSessionsEntry effects me session (Snapshot by old vid) = (by ≡ me) × WasReserved effects me session vid.0
IsSessionsEntry effects me session (Delete by of name tag) = (by ≡ me) × (of ≡ session)
IsSessionsEntry effects me session (Lock by of name tag) = (by ≡ me) × (of ≡ session)
IsSessionsEntry effects me session (Unlock by of vid) = (by ≡ me) × (of ≡ session)

-- a task that leads to the publication of an id is on one that was reserved for the session
abbrev pub IsSessionsTask : List Effect → NodeId → ℕ → Vid → Task → Type 0
IsSessionsTask effects me session vid (Opening snapshot ids header) = Unit {0}
IsSessionsTask effects me session vid (WritingBack inode) = Unit {0}
IsSessionsTask effects me session vid (Tagging old inode) = WasReserved effects me session vid.0
IsSessionsTask effects me session vid (Copying ids header) = WasReserved effects me session vid.0
IsSessionsTask effects me session vid (Making entry opened) = IsSessionsEntry effects me session entry

-- what a command waits for is its session's
abbrev pub IsSessionsStage : List Effect → NodeId → ℕ → OpStage → Type 0
IsSessionsStage effects me session (Asked entry) = IsSessionsEntry effects me session entry
IsSessionsStage effects me session (Working vid task) = IsSessionsTask effects me session vid task
IsSessionsStage effects me session (Publishing entry opened) = IsSessionsEntry effects me session entry
IsSessionsStage effects me session (Answered change) = Unit {0}

-- a command is of this session of the node
pub record IsSessionsCommand (effects : List Effect) (me : NodeId) (session : ℕ) (op : Op) : Type 0 where
  pub by : op.by ≡ me
  pub of : op.session ≡ session
  pub stage : IsSessionsStage effects me session op.stage

-- each command of a node is of its request's session, by what the node has read
pub record CommandsAreTheSessions (hosts : Hosts) : Type 0 where
  pub each : EachUp hosts (λ n node. (req : ℕ) (request : Request) (op : Op) → tree.get node.requests req ≡ Some request
      → request.course ≡ Commanding op → IsSessionsCommand (effects_of node.peer) node.me request.session op)
