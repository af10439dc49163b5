-- Whose entries a node has in its outbox: its requests' and its own `Recovered`.
use Rattle.std.specs.Prelude.{◌≡◌, ℕ, List, All, Some}
use Rattle.std.specs.Ordering.{nat_cmp}
use Rattle.std.specs.FinMap as tree
use Rattle.object_id.specs.declared.node.NodeId.{NodeId}
use Rattle.object_id.specs.declared.entry.Entry.{Entry}
use Rattle.object_id.specs.declared.entry.Entry.TheVariants.{Format, Join, Leave, Reweight, Recovered, Reserve, Publish, Clone, Snapshot}
use Rattle.object_id.specs.declared.entry.Entry.TheVariants.{Delete, Lock, Unlock}
use Rattle.vdi_ops.specs.Op.{Task, Opening, WritingBack, Tagging, Copying, Making, OpStage, Asked, Working, Publishing, Answered, Op}
use Rattle.sheep_node.specs.declared.course.Course.{Course}
use Rattle.sheep_node.specs.declared.course.Request.{Request}
use Rattle.sheep_node.specs.declared.course.Course.TheVariants.{Waiting, Driving, Commanding, Checking, DoingWork, AwaitingDecision}
use Rattle.sheep_node.specs.State.{Node}
use Rattle.sheep_node.specs.declared.input.Input.{Input}
use Rattle.sheep_node.specs.declared.input.Input.TheVariants as inputs
use Rattle.sheep_node.specs.declared.ask.Ask.TheVariants as asks

-- an entry is one that this node puts
abbrev pub IsEntryOf : NodeId → Entry → Type 0
IsEntryOf me (Format members) = ⊥
IsEntryOf me (Join node zone vnodes) = ⊥
IsEntryOf me (Leave node) = ⊥
IsEntryOf me (Reweight node vnodes) = ⊥
IsEntryOf me (Recovered node epoch) = node ≡ me
IsEntryOf me (Reserve by session name origin) = by ≡ me
IsEntryOf me (Publish by vid) = by ≡ me
IsEntryOf me (Clone by vid) = by ≡ me
IsEntryOf me (Snapshot by old vid) = by ≡ me
IsEntryOf me (Delete by session name tag) = by ≡ me
IsEntryOf me (Lock by session name tag) = by ≡ me
IsEntryOf me (Unlock by session vid) = by ≡ me

-- the entry that a task leads to is
abbrev pub IsTaskOf : NodeId → Task → Type 0
IsTaskOf me (Opening snapshot ids header) = Unit {0}
IsTaskOf me (WritingBack inode) = Unit {0}
IsTaskOf me (Tagging old inode) = Unit {0}
IsTaskOf me (Copying ids header) = Unit {0}
IsTaskOf me (Making entry opened) = IsEntryOf me entry

-- the one that a command waits for, or comes to, is
abbrev pub IsStageOf : NodeId → OpStage → Type 0
IsStageOf me (Asked entry) = IsEntryOf me entry
IsStageOf me (Working vid task) = IsTaskOf me task
IsStageOf me (Publishing entry opened) = IsEntryOf me entry
IsStageOf me (Answered change) = Unit {0}

-- a command is of this node
abbrev pub IsCommandOf : NodeId → Op → Type 0
IsCommandOf me op = (op.by ≡ me) × IsStageOf me op.stage

abbrev pub IsCourseOf : NodeId → Course → Type 0
IsCourseOf me (Waiting ask) = Unit {0}
IsCourseOf me (Driving driver) = Unit {0}
IsCourseOf me (Commanding op) = IsCommandOf me op
IsCourseOf me (Checking check) = Unit {0}
IsCourseOf me (DoingWork work) = Unit {0}
IsCourseOf me (AwaitingDecision entry) = IsEntryOf me entry

-- each request is of the node, and each entry of the outbox
pub record AreOwnEntries (me own : NodeId) (requests : tree.FinMap nat_cmp Request) (outbox : List Entry) : Type 0 where
  pub own_so : own ≡ me
  pub commands : (req : ℕ) (request : Request) → tree.get requests req ≡ Some request → IsCourseOf me request.course
  pub entries : All (IsEntryOf me) outbox

-- a node's entries are its own
abbrev pub HasOnlyOwnEntries : Node → Type 0
HasOnlyOwnEntries node = AreOwnEntries node.me node.me node.requests node.outbox

-- where the input asks for an entry, it is one that this node puts
abbrev pub AsksForOwn : NodeId → Input → Type 0
AsksForOwn me (inputs.Guest req session (asks.Entry entry)) = IsEntryOf me entry
AsksForOwn me _ = Unit {0}
