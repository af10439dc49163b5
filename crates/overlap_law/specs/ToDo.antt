-- The works that are still to be made: what they would make is of objects that are there, and of bytes that may be read.
use Rattle.std.specs.Prelude.{◌≡◌, ◌≢◌, ◌⊎◌, ℕ, ◌<◌, Bool, true, false, List, slice_get, Some}
use Rattle.std.specs.FinMap as tree
use Rattle.object_id.specs.declared.limits.TheConstants.{OBJECTS_MAX}
use Rattle.object_id.specs.Oid.{IsVid, inode_number, object_number}
use Rattle.object_id.specs.Fields.{u32_at}
use Rattle.object_id.specs.declared.entry.VdiSpec.{VdiSpec}
use Rattle.disk_history.specs.Ledger.{Disk, Ledger}
use Rattle.vdi_directory.specs.declared.effect.Effect.{Effect}
use Rattle.peer_proto.specs.declared.work.ObjWork.{ObjWork}
use Rattle.peer_proto.specs.Work.{oid_of}
use Rattle.gateway.specs.State.{Work}
use Rattle.guest_driver.specs.InodeQueue.{Waiting}
use Rattle.sheep_node.specs.declared.session.Session.{Session}
use Rattle.sheep_node.specs.State.{Node}
use Rattle.overlap_law.specs.Attempts.{AttemptRecord}
use Rattle.overlap_law.specs.Words.{Hosts}
use Rattle.overlap_law.specs.Units.{covers_by, bytes_by}
use Rattle.overlap_law.specs.Each.{EachUp}
use Rattle.overlap_law.specs.Fates.{IsCreated}
use Rattle.overlap_law.specs.Tables.{entry_unit, StandsFor}
use Rattle.overlap_law.specs.WrittenBlocks.{IsBlockOfDisk, items_at, is_torn_here, is_allowed}

-- a work is open at a node
pub record IsOpen (node : Node) (work : ObjWork) : Type 0 where
  pub req : ℕ
  pub open_work : Work
  pub there : tree.get node.gateway.works req ≡ Some open_work
  pub same : open_work.work ≡ work

-- a work waits for the inode
pub record IsInLine (node : Node) (work : ObjWork) : Type 0 where
  pub number : ℕ
  pub session : Session
  pub place : ℕ
  pub waiting : Waiting
  pub there : tree.get node.sessions number ≡ Some session
  pub among : slice_get session.inode_queue.waiting place ≡ Some waiting
  pub same : waiting.work ≡ work

-- a node has a work still to make
abbrev pub IsToDo : Node → ObjWork → Type 0
IsToDo node work = IsOpen node work ⊎ IsInLine node work

-- the entry of an index that a work on an inode has
abbrev pub entry_made : ℕ → ObjWork → ℕ
entry_made index work = u32_at 0 (bytes_by (entry_unit index) work)

-- a work that has the entry of an index in a disk's inode
pub record IsEntryToDo (node : Node) (work : ObjWork) (vid index : ℕ) : Type 0 where
  pub to_do : IsToDo node work
  pub object : oid_of work ≡ inode_number vid
  pub inside : index < OBJECTS_MAX
  pub covered : covers_by (entry_unit index) work ≡ true

-- the entries of works stand for objects that are made by now; those that say "own" also where the disk wasn't available
pub record WorksNameWhatIsMade (effects : List Effect) (good_id : ℕ → Bool) (hosts : Hosts) (attempts : List AttemptRecord) : Type 0 where
  pub each : EachUp hosts (λ n node. (work : ObjWork) (vid index : ℕ) → IsEntryToDo node work vid index → good_id vid ≡ true
      → entry_made index work ≢ 0 → StandsFor effects attempts vid index node.peer.epoch (entry_made index work))
  pub own : EachUp hosts (λ n node. (work : ObjWork) (vid index : ℕ) → IsEntryToDo node work vid index → IsVid vid
      → entry_made index work ≡ vid → IsCreated attempts (object_number vid index) node.peer.epoch)

-- what works on a disk's own objects would make of a block may be read of it, unless it is torn
pub record WorksMayBeMade (ledger : Ledger) (effects : List Effect) (good_id : ℕ → Bool) (hosts : Hosts) : Type 0 where
  pub each : EachUp hosts (λ n node. (work : ObjWork) (vid index unit : ℕ) (disk : Disk) (spec : VdiSpec) → IsToDo node work
      → oid_of work ≡ object_number vid index → IsBlockOfDisk ledger effects good_id vid disk spec index unit → covers_by unit work ≡ true
      → is_torn_here spec (items_at disk spec index unit) ≡ false → is_allowed (items_at disk spec index unit) (bytes_by unit work) ≡ true)
