-- Requests and commands: the works that are open are those that they wait for, and commands keep what they were granted.
use Rattle.std.specs.Prelude.{◌≡◌, ℕ, Bool, true, false, List, slice_get, Option, Some, None, ◌++◌, ◌∷◌, ◌^◌, length}
use Rattle.std.specs.FinMap as tree
use Rattle.object_id.specs.declared.oid.Vid.{Vid}
use Rattle.object_id.specs.declared.entry.Entry.{Entry}
use Rattle.inode.specs.Layout.{Content}
use Rattle.peer_proto.specs.declared.work.ObjWork.{ObjWork}
use Rattle.gateway.specs.State.{Work}
use Rattle.guest_driver.specs.declared.act.DriverAct.TheVariants as acts
use Rattle.guest_driver.specs.declared.disk.Disk.{Disk}
use Rattle.guest_driver.specs.Driver.{Driver}
use Rattle.guest_driver.specs.Course as drivers
use Rattle.guest_driver.specs.InodeQueue as lines
use Rattle.vdi_ops.specs.InodeWorks.{read_inode, create_inode, write_tag}
use Rattle.vdi_ops.specs.TaskWorks.{IsWrittenBack, IsBaseRead}
use Rattle.vdi_ops.specs.Op.{Task, Opening, WritingBack, Tagging, Copying, Making, OpStage, Asked, Working, Publishing, Answered, Op}
use Rattle.sheep_node.specs.declared.course.Course.{Course}
use Rattle.sheep_node.specs.declared.course.Request.{Request}
use Rattle.sheep_node.specs.declared.session.Session.{Session}
use Rattle.sheep_node.specs.declared.course.Course.TheVariants.{Waiting, Driving, Commanding, Checking, DoingWork, AwaitingDecision}
use Rattle.sheep_node.specs.State.{Node}
use Rattle.overlap_law.specs.Attempts.{AttemptRecord}
use Rattle.overlap_law.specs.Reached.{Hosts}
use Rattle.overlap_law.specs.Each.{EachUp}
use Rattle.overlap_law.specs.Writers.{MayWrite}
use Rattle.vdi_directory.specs.declared.effect.Effect.{Effect}
use Rattle.vdi_directory.specs.References.{parent_of}
use Rattle.overlap_law.specs.Drafts.{IsDrawnFrom, IsReservedEntry}
use Rattle.overlap_law.specs.ToDo.{entry_made}
use Rattle.disk_check.specs.Check.{CheckStage, Comparing, WritingBack, Check, read_copies, write_value}
use Rattle.disk_check.specs.Check as checks
use Rattle.disk_check.specs.Table.{own_indexes}

-- the open disk's inode gets a tag; the one that is to take its place has its table
pub record IsTagged (open_disk : Option Disk) (old : Vid) (draft : Content) (work : ObjWork) : Type 0 where
  pub disk : Disk
  pub tag : List ℕ
  pub there : open_disk ≡ Some disk
  pub same : disk.inode.vid ≡ old.0
  pub table : draft.table ≡ disk.inode.table
  pub work_of : work ≡ write_tag disk.inode tag

-- an inode is created: that of the granted id, which is the one that the session then has open, if it has one by that; while the id is
-- reserved, the entries that the work gives to it are drawn from what the id is made from, where that was available
pub record IsCreatedNow (effects : List Effect) (good_id : ℕ
    → Bool) (attempts : List AttemptRecord) (vid : Vid) (opened : Option Content) (work : ObjWork) : Type 0 where
  pub inode : Content
  pub own : inode.vid ≡ vid.0
  pub work_of : work ≡ create_inode inode
  pub same : (content : Content) → opened ≡ Some content → content ≡ inode
  pub drawn : (index : ℕ) → IsReservedEntry effects good_id vid.0 index
      → IsDrawnFrom attempts index (entry_made index work) (parent_of effects vid.0)

-- a work is that of a command's task
abbrev pub IsOfTask : List Effect → (ℕ → Bool) → List AttemptRecord → Option Disk → Vid → Task → ObjWork → Type 0
IsOfTask effects good_id attempts disk vid (Opening snapshot ids header) work = work ≡ read_inode vid.0 header.spec
IsOfTask effects good_id attempts disk vid (WritingBack inode) work = IsWrittenBack inode work
IsOfTask effects good_id attempts disk vid (Tagging old inode) work = IsTagged disk old inode work
IsOfTask effects good_id attempts disk vid (Copying ids header) work = IsBaseRead header.parent header work
IsOfTask effects good_id attempts disk vid (Making entry opened) work = IsCreatedNow effects good_id attempts vid opened work

-- a work that a command waits for is of its task
abbrev pub IsOfStage : List Effect → (ℕ → Bool) → List AttemptRecord → Option Disk → OpStage → ObjWork → Type 0
IsOfStage effects good_id attempts disk (Asked entry) work = ⊥
IsOfStage effects good_id attempts disk (Working vid task) work = IsOfTask effects good_id attempts disk vid task work
IsOfStage effects good_id attempts disk (Publishing entry opened) work = ⊥
IsOfStage effects good_id attempts disk (Answered change) work = ⊥

-- a work is that of a read or write on the open disk
pub record IsOfDriver (open_disk : Option Disk) (driver : Driver) (work : ObjWork) : Type 0 where
  pub disk : Disk
  pub there : open_disk ≡ Some disk
  pub awaited : drivers.IsAwaitedByDriver disk.inode driver (acts.Work work)

-- the value of the own object before these is written over the whole of it
pub record IsValueWrite (disk : Disk) (check : Check) (later : List ℕ) (work : ObjWork) : Type 0 where
  pub index : ℕ
  pub value : List ℕ
  pub before : List ℕ
  pub own : before ++ index ∷ later ≡ own_indexes disk.inode
  pub whole : length value ≡ 2 ^ check.spec.shift
  pub work_of : work ≡ write_value check index value

-- a work is that of a check of this disk
abbrev pub IsOfCheckStage : Disk → Check → CheckStage → ObjWork → Type 0
IsOfCheckStage disk check (Comparing index later) work = work ≡ read_copies check index
IsOfCheckStage disk check (WritingBack later) work = IsValueWrite disk check later work
IsOfCheckStage disk check checks.Answered work = ⊥

-- a work is that of a check of the open disk
pub record IsOfCheck (open_disk : Option Disk) (check : Check) (work : ObjWork) : Type 0 where
  pub disk : Disk
  pub there : open_disk ≡ Some disk
  pub is : IsOfCheckStage disk check check.stage work

-- a request waits for a work
abbrev pub WaitsFor : List Effect → (ℕ → Bool) → List AttemptRecord → Option Disk → Course → ObjWork → Type 0
WaitsFor effects good_id attempts disk (Waiting ask) work = ⊥
WaitsFor effects good_id attempts disk (Driving driver) work = IsOfDriver disk driver work
WaitsFor effects good_id attempts disk (Commanding op) work = IsOfStage effects good_id attempts disk op.stage work
WaitsFor effects good_id attempts disk (Checking check) work = IsOfCheck disk check work
WaitsFor effects good_id attempts disk (DoingWork asked) work = work ≡ asked
WaitsFor effects good_id attempts disk (AwaitingDecision entry) work = ⊥

-- a node's request, with its session, waits for a work
pub record IsWaitedFor (effects : List Effect) (good_id : ℕ
    → Bool) (attempts : List AttemptRecord) (node : Node) (req : ℕ) (work : ObjWork) : Type 0 where
  pub request : Request
  pub session : Session
  pub there : tree.get node.requests req ≡ Some request
  pub of : tree.get node.sessions request.session ≡ Some session
  pub waits : WaitsFor effects good_id attempts session.disk request.course work

-- works that are open, and those that wait for the inode, are what their requests wait for
pub record WorksAreWaitedFor (effects : List Effect) (good_id : ℕ → Bool) (hosts : Hosts) (attempts : List AttemptRecord) : Type 0 where
  pub opened : EachUp hosts (λ n node. (req : ℕ) (work : Work) → tree.get node.gateway.works req ≡ Some work
      → IsWaitedFor effects good_id attempts node req work.work)
  pub lined : EachUp hosts (λ n node. (number place : ℕ) (session : Session) (waiting : lines.Waiting) → tree.get node.sessions number
      ≡ Some session
      → slice_get session.inode_queue.waiting place ≡ Some waiting → IsWaitedFor effects good_id attempts node waiting.req waiting.work)

-- the id that a task works for under a grant; a snapshot that is opened is nobody's
abbrev pub granted_by : Vid → Task → Option Vid
granted_by vid (Opening true ids header) = None
granted_by vid (Opening false ids header) = Some vid
granted_by vid (WritingBack inode) = Some vid
granted_by vid (Tagging old inode) = Some vid
granted_by vid (Copying ids header) = Some vid
granted_by vid (Making entry opened) = Some vid

-- the id that was granted to a command, by what it waits for
abbrev pub granted_at : OpStage → Option Vid
granted_at (Asked entry) = None
granted_at (Working vid task) = granted_by vid task
granted_at (Publishing entry opened) = None
granted_at (Answered change) = None

-- a command that works for an id may write it
pub record CommandsKeepTheirGrants (log : List Entry) (hosts : Hosts) : Type 0 where
  pub each : EachUp hosts (λ n node. (req : ℕ) (request : Request) (op : Op) (vid : Vid) → tree.get node.requests req
      ≡ Some request
      → request.course ≡ Commanding op → granted_at op.stage ≡ Some vid → MayWrite log n request.session vid.0 node)
