-- What a session's command opens in the middle of a step: a snapshot whose inode was read, a disk whose inode was written back, or one that
-- takes the place of another; and that the inode of each has the table that the session then has of it.
use Rattle.std.specs.Prelude.{◌≡◌, ℕ, ◌+◌, ◌*◌, ◌<◌, Bool, true, false, List, slice_index, Some}
use Rattle.std.specs.FinMap as tree
use Rattle.object_id.specs.declared.entry.Entry.{Entry}
use Rattle.object_id.specs.declared.oid.Vid.{Vid}
use Rattle.object_id.specs.Fields.{u32_at}
use Rattle.object_id.specs.Spec.{objects_of}
use Rattle.inode.specs.declared.layout.TheConstants.{INODE_HEADER_BYTES}
use Rattle.peer_proto.specs.declared.work.ObjWork.{ObjWork}
use Rattle.inode.specs.Layout.{Content}
use Rattle.cluster_script.specs.declared.statement.Statement.{Statement}
use Rattle.gateway.specs.Attempt.{Attempt}
use Rattle.gateway.specs.State.{Work}
use Rattle.gateway.specs.declared.message.Status.{Status}
use Rattle.guest_driver.specs.declared.disk.Disk.{Disk}
use Rattle.vdi_directory.specs.Dead.{is_dead}
use Rattle.vdi_directory.specs.Decisions.{log_effects}
use Rattle.vdi_directory.specs.declared.effect.Effect.{Effect}
use Rattle.vdi_directory.specs.declared.header.Header.{Header}
use Rattle.vdi_ops.specs.Op.{Opening, WritingBack, Working, Publishing, Op}
use Rattle.vdi_ops.specs.Tables.{kept_entry, table_in, inode_by}
use Rattle.sheep_node.specs.Changes.{EndsWork}
use Rattle.sheep_node.specs.State.{Node}
use Rattle.sheep_node.specs.StepState.{StepState}
use Rattle.sheep_node.specs.WantedWorks.{HasWork}
use Rattle.sheep_node.specs.declared.course.Request.{Request}
use Rattle.sheep_node.specs.declared.course.Course.TheVariants.{Commanding}
use Rattle.sheep_node.specs.declared.input.Input.{Input}
use Rattle.sheep_world.specs.NodeCauses.{input_of_cause}
use Rattle.overlap_law.specs.Attempts.{AttemptRecord}
use Rattle.overlap_law.specs.Each.{EachUp}
use Rattle.overlap_law.specs.Words.{Hosts}
use Rattle.overlap_law.specs.ToDo.{entry_made}
use Rattle.overlap_law.specs.Past.{MomentWithPast}
use Rattle.overlap_law.specs.StepMoments.{SteppingNode, IsStepping, StepsByChanges, LeadsInStep, first_in_step, moment_in_step}
use Rattle.overlap_law.specs.Tables.{entry_unit, entry_by, IsYetOf}
use Rattle.overlap_law.specs.Units.{covers_by}
use Rattle.overlap_law.specs.ToCome.{IsEntryToCome, SnappedStayFrozen, TablesStayTheInodes}

-- a session's command opens this disk now, since its work is done: a snapshot's inode was read, or a disk's was written back
pub data OpensByWork (input : Input) (node : Node) (so_far : StepState) (q : ℕ) (disk : Disk) : Type 0 where
  ReadsIt : (req number : ℕ) (work : Work) (attempt : Attempt) (status : Status) (bytes : List ℕ) (op : Op) (vid : Vid) (ids : List ℕ)
      (header : Header) → EndsWork input node so_far q req number work attempt status (Commanding op) bytes
      → op.stage ≡ Working vid (Opening true ids header)
      → disk ≡ record { inode = inode_by header vid.0 (table_in ids header.spec bytes); snapshot = true }
      → OpensByWork input node so_far q disk
  WroteIt : (req number : ℕ) (work : Work) (attempt : Attempt) (status : Status) (bytes : List ℕ) (op : Op) (vid : Vid) (inode : Content)
      → EndsWork input node so_far q req number work attempt status (Commanding op) bytes
      → op.stage ≡ Working vid (WritingBack inode) → disk ≡ record { inode = inode; snapshot = false }
      → OpensByWork input node so_far q disk

-- or its last entry is decided
pub data OpensNow (input : Input) (node : Node) (so_far : StepState) (q : ℕ) (disk : Disk) : Type 0 where
  ByWork : OpensByWork input node so_far q disk → OpensNow input node so_far q disk
  ByEntry : (req : ℕ) (op : Op) (entry : Entry) (inode : Content)
      → tree.get so_far.node.requests req ≡ Some (record { session = q; course = Commanding op })
      → op.stage ≡ Publishing entry (Some inode) → disk ≡ record { inode = inode; snapshot = false } → OpensNow input node so_far q disk

-- an inode may come to have this table alone, where its id is a good one and a session has it yet
abbrev pub HasItsTable : (ℕ → Bool) → MomentWithPast → ℕ → ℕ → Disk → Type 0
HasItsTable good_id moment n number disk = (index : ℕ) → good_id disk.inode.vid ≡ true
    → is_dead (log_effects moment.world.log) disk.inode.vid ≡ false → index < objects_of disk.inode.spec
    → IsYetOf (log_effects moment.world.log) n number disk → (j : ℕ) (attempt : AttemptRecord)
    → IsEntryToCome moment.world.hosts moment.past.attempts disk.inode.vid index j attempt
    → entry_by index attempt ≡ slice_index disk.inode.table index

-- in the middle of whatever step of an event the inode of a disk that a command opens next, since its work is done, has its table
abbrev pub OpenedInodesHaveTables : List Statement → (ℕ → Bool) → MomentWithPast → MomentWithPast → Type 0
OpenedInodesHaveTables script good_id start before = (stepping : SteppingNode) (so_far : StepState) → IsStepping script start.world stepping
    → StepsByChanges stepping.cause → LeadsInStep stepping (first_in_step stepping) so_far
    → before ≡ moment_in_step script stepping start so_far → (number : ℕ) (disk : Disk)
    → OpensByWork (input_of_cause stepping.cause) stepping.host.node so_far number disk → HasItsTable good_id before stepping.n number disk

-- what was read of the inode of a disk or snapshot that a command opens is as it counts in the table, wherever such a reading ends in the
-- middle of a step
abbrev pub EntriesReadAreKept : List Statement → (ℕ → Bool) → MomentWithPast → MomentWithPast → Type 0
EntriesReadAreKept script good_id start before = (stepping : SteppingNode) (so_far : StepState) → IsStepping script start.world stepping
    → StepsByChanges stepping.cause → LeadsInStep stepping (first_in_step stepping) so_far
    → before ≡ moment_in_step script stepping start so_far → (session req number : ℕ) (work : Work) (attempt : Attempt) (status : Status)
    (op : Op) (bytes : List ℕ) (vid : Vid) (snapshot : Bool) (ids : List ℕ) (header : Header) (index : ℕ)
    → EndsWork (input_of_cause stepping.cause) stepping.host.node so_far session req number work attempt status (Commanding op) bytes
    → op.stage ≡ Working vid (Opening snapshot ids header) → good_id vid.0 ≡ true
    → is_dead (log_effects before.world.log) vid.0 ≡ false → index < objects_of header.spec
    → kept_entry ids (u32_at (INODE_HEADER_BYTES + 4 * index) bytes) ≡ u32_at (INODE_HEADER_BYTES + 4 * index) bytes

-- a work gives an inode the entry of an index that the table has
pub record GivesEntry (inode : Content) (index : ℕ) (work : ObjWork) : Type 0 where
  pub entry : entry_made index work ≡ slice_index inode.table index
  pub covered : covers_by (entry_unit index) work ≡ true

-- a work that writes the inode of a good id back, as its disk is opened, gives it the entries of the table that the session then has
pub record WrittenBackHaveTables (effects : List Effect) (good_id : ℕ → Bool) (hosts : Hosts) : Type 0 where
  pub each : EachUp hosts (λ n node. (req index : ℕ) (request : Request) (op : Op) (vid : Vid) (inode : Content) (work : ObjWork)
      → tree.get node.requests req ≡ Some request → request.course ≡ Commanding op → op.stage ≡ Working vid (WritingBack inode)
      → HasWork req work node.gateway.works node.sessions → good_id inode.vid ≡ true → is_dead effects inode.vid ≡ false
      → index < objects_of inode.spec → GivesEntry inode index work)

-- what the inodes of open disks and of snapshots may come to have stays as it is to be, and what is written back too
pub record InodesStay (effects : List Effect) (good_id : ℕ → Bool) (hosts : Hosts) (attempts : List AttemptRecord) : Type 0 where
  pub tables : TablesStayTheInodes effects good_id hosts attempts
  pub frozen : SnappedStayFrozen effects good_id hosts attempts
  pub written_back : WrittenBackHaveTables effects good_id hosts
