-- What a session has open while a command of it goes on: none where a disk is opened, the disk that is given back where one is closed, and
-- the working disk that becomes a snapshot where one is taken.
use Rattle.std.specs.Prelude.{◌≡◌, ℕ, Bool, false, Option, Some, None, IfSome, option_map}
use Rattle.std.specs.Ordering.{nat_cmp}
use Rattle.std.specs.FinMap as tree
use Rattle.object_id.specs.declared.oid.Vid.{Vid}
use Rattle.object_id.specs.declared.entry.Origin.TheVariants.{Fresh, SnapshotOf, CloneOf}
use Rattle.object_id.specs.declared.entry.Origin.{Origin}
use Rattle.object_id.specs.declared.entry.Entry.{Entry}
use Rattle.object_id.specs.declared.entry.Entry.TheVariants.{Format, Join, Leave, Reweight, Recovered, Reserve, Publish, Clone, Snapshot}
use Rattle.object_id.specs.declared.entry.Entry.TheVariants.{Delete, Lock, Unlock}
use Rattle.inode.specs.Layout.{Content}
use Rattle.guest_driver.specs.declared.disk.Disk.{Disk}
use Rattle.vdi_ops.specs.Op.{Task, Opening, WritingBack, Tagging, Copying, Making, OpStage, Asked, Working, Publishing, Answered}
use Rattle.sheep_node.specs.declared.course.Course.{Course}
use Rattle.sheep_node.specs.declared.course.Course.TheVariants.{Waiting, Driving, Commanding, Checking, DoingWork, AwaitingDecision}
use Rattle.sheep_node.specs.declared.course.Request.{Request}
use Rattle.sheep_node.specs.declared.session.Session.{Session}
use Rattle.sheep_node.specs.SessionQueues.{session_among}
use Rattle.overlap_law.specs.Reached.{Hosts}
use Rattle.overlap_law.specs.Each.{EachUp}

-- an open disk, by whether it is a snapshot and by its id
abbrev pub opened_as : Option Disk → Option (Bool × ℕ)
opened_as disk = option_map (λ (disk : Disk). (disk.snapshot, disk.inode.vid)) disk

-- the disk that a session among some has open, told so
abbrev pub opened_in : ℕ → tree.FinMap nat_cmp Session → Option (Bool × ℕ)
opened_in number sessions = opened_as (session_among number sessions).disk

-- the reservation for a snapshot is of a session with a working disk
abbrev pub IsOpenAtOrigin : Option (Bool × ℕ) → Origin → Type 0
IsOpenAtOrigin opened (Fresh spec) = Unit {0}
IsOpenAtOrigin opened (SnapshotOf tag) = (vid : ℕ) × (opened ≡ Some (false, vid))
IsOpenAtOrigin opened (CloneOf base tag) = Unit {0}

-- what is open while the first entry of a command is decided
abbrev pub IsOpenAtFirst : Option (Bool × ℕ) → Entry → Type 0
IsOpenAtFirst opened (Format members) = Unit {0}
IsOpenAtFirst opened (Join node zone vnodes) = Unit {0}
IsOpenAtFirst opened (Leave node) = Unit {0}
IsOpenAtFirst opened (Reweight node vnodes) = Unit {0}
IsOpenAtFirst opened (Recovered node epoch) = Unit {0}
IsOpenAtFirst opened (Reserve by session name origin) = IsOpenAtOrigin opened origin
IsOpenAtFirst opened (Publish by vid) = Unit {0}
IsOpenAtFirst opened (Clone by vid) = Unit {0}
IsOpenAtFirst opened (Snapshot by old vid) = Unit {0}
IsOpenAtFirst opened (Delete by session name tag) = Unit {0}
IsOpenAtFirst opened (Lock by session name tag) = opened ≡ None
IsOpenAtFirst opened (Unlock by session vid) = (snapshot : Bool) × (opened ≡ Some (snapshot, vid.0))

-- what is open while the last one is, and which inode is to be open then: a snapshot leaves the session with the id that takes the
-- disk's place
abbrev pub IsOpenAtLast : Option (Bool × ℕ) → Entry → Option Content → Type 0
IsOpenAtLast opened (Snapshot by old vid) made = (opened ≡ Some (false, old.0)) × IfSome made (λ (inode : Content). inode.vid ≡ vid.0)
IsOpenAtLast opened entry made = made ≡ None

-- what is open while a work of the command goes on
abbrev pub IsOpenAtTask : Option (Bool × ℕ) → Vid → Task → Type 0
IsOpenAtTask opened vid (Opening snapshot ids header) = opened ≡ None
IsOpenAtTask opened vid (WritingBack inode) = (opened ≡ None) × (inode.vid ≡ vid.0)
IsOpenAtTask opened vid (Tagging old inode) = (opened ≡ Some (false, old.0)) × (inode.vid ≡ vid.0)
IsOpenAtTask opened vid (Copying ids header) = Unit {0}
IsOpenAtTask opened vid (Making entry made) = IsOpenAtLast opened entry made

abbrev pub IsOpenAtStage : Option (Bool × ℕ) → OpStage → Type 0
IsOpenAtStage opened (Asked entry) = IsOpenAtFirst opened entry
IsOpenAtStage opened (Working vid task) = IsOpenAtTask opened vid task
IsOpenAtStage opened (Publishing entry made) = IsOpenAtLast opened entry made
IsOpenAtStage opened (Answered change) = Unit {0}

-- any other request may be with any
abbrev pub IsOpenAtCourse : Option (Bool × ℕ) → Course → Type 0
IsOpenAtCourse opened (Waiting ask) = Unit {0}
IsOpenAtCourse opened (Driving driver) = Unit {0}
IsOpenAtCourse opened (Commanding op) = IsOpenAtStage opened op.stage
IsOpenAtCourse opened (Checking check) = Unit {0}
IsOpenAtCourse opened (DoingWork work) = Unit {0}
IsOpenAtCourse opened (AwaitingDecision entry) = Unit {0}

-- each request of a node's is with what its session has open
pub record OpenDisksFitCommands (hosts : Hosts) : Type 0 where
  pub each : EachUp hosts (λ n node. (req : ℕ) (request : Request) → tree.get node.requests req ≡ Some request
      → IsOpenAtCourse (opened_in request.session node.sessions) request.course)
