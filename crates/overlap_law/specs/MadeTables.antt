-- The tables of open disks, and of the inodes that commands are to open: their entries stand for what was created.
use Rattle.std.specs.Prelude.{◌≡◌, ◌≢◌, ℕ, ◌<◌, Bool, true, false, List, slice_index, Option, Some, None}
use Rattle.std.specs.FinMap as tree
use Rattle.object_id.specs.Oid.{object_number}
use Rattle.object_id.specs.Spec.{objects_of}
use Rattle.inode.specs.Layout.{Content}
use Rattle.vdi_directory.specs.declared.effect.Effect.{Effect}
use Rattle.vdi_directory.specs.Dead.{is_dead}
use Rattle.vdi_ops.specs.Op.{Task, Opening, WritingBack, Tagging, Copying, Making, OpStage, Asked, Working, Publishing, Answered}
use Rattle.sheep_node.specs.declared.course.Course.{Course}
use Rattle.sheep_node.specs.declared.course.Course.TheVariants.{Waiting, Driving, Commanding, Checking, DoingWork, AwaitingDecision}
use Rattle.sheep_node.specs.declared.course.Request.{Request}
use Rattle.overlap_law.specs.Attempts.{AttemptRecord}
use Rattle.overlap_law.specs.Each.{EachUp}
use Rattle.overlap_law.specs.Fates.{IsCreated}
use Rattle.overlap_law.specs.Tables.{TablesAreMade}
use Rattle.overlap_law.specs.Words.{Hosts}

-- the inode that a command's session is to have open by its work: one that is written back, or one that takes the place of its disk
abbrev pub inode_of_task : Task → Option Content
inode_of_task (Opening snapshot ids header) = None
inode_of_task (WritingBack inode) = Some inode
inode_of_task (Tagging old inode) = Some inode
inode_of_task (Copying ids header) = None
inode_of_task (Making entry opened) = opened

-- or by what it waits for
abbrev pub inode_to_open : OpStage → Option Content
inode_to_open (Asked entry) = None
inode_to_open (Working vid task) = inode_of_task task
inode_to_open (Publishing entry opened) = opened
inode_to_open (Answered change) = None

-- where a request is
abbrev pub inode_of_course : Course → Option Content
inode_of_course (Waiting ask) = None
inode_of_course (Driving driver) = None
inode_of_course (Commanding op) = inode_to_open op.stage
inode_of_course (Checking check) = None
inode_of_course (DoingWork work) = None
inode_of_course (AwaitingDecision entry) = None

-- each entry of a table stands for an object that was created by an epoch, if the disk's id is good and isn't dead
abbrev pub EntriesAreCreated : List Effect → (ℕ → Bool) → List AttemptRecord → ℕ → Content → Type 0
EntriesAreCreated effects good_id attempts epoch inode = good_id inode.vid ≡ true → is_dead effects inode.vid ≡ false → (index : ℕ)
    → index < objects_of inode.spec → slice_index inode.table index ≢ 0
    → IsCreated attempts (object_number (slice_index inode.table index) index) epoch

-- so it is of the tables that sessions have, and of the inodes that commands are to open
pub record TablesNameWhatIsMade (effects : List Effect) (good_id : ℕ → Bool) (hosts : Hosts) (attempts : List AttemptRecord) : Type 0 where
  pub tables : TablesAreMade effects good_id hosts attempts
  pub to_open : EachUp hosts (λ n node. (req : ℕ) (request : Request) (inode : Content) → tree.get node.requests req ≡ Some request
      → inode_of_course request.course ≡ Some inode → EntriesAreCreated effects good_id attempts node.peer.epoch inode)
