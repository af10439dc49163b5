-- The tables of open disks name none but the disk and those above it; and what their own entries stand for.
use Rattle.std.specs.Prelude.{◌≡◌, ℕ, ◌+◌, ◌*◌, ◌<◌, Bool, true, false, List, slice_index, Some}
use Rattle.std.specs.FinMap as tree
use Rattle.object_id.specs.declared.entry.Entry.{Entry}
use Rattle.object_id.specs.declared.oid.Vid.{Vid}
use Rattle.cluster_script.specs.declared.statement.Statement.{Statement}
use Rattle.object_id.specs.Fields.{u32_at}
use Rattle.object_id.specs.Oid.{object_number}
use Rattle.object_id.specs.Spec.{objects_of}
use Rattle.inode.specs.Layout.{Content}
use Rattle.inode.specs.declared.layout.TheConstants.{INODE_HEADER_BYTES}
use Rattle.vdi_directory.specs.declared.effect.Effect.{Effect}
use Rattle.vdi_directory.specs.declared.header.Header.{Header}
use Rattle.vdi_directory.specs.Dead.{is_dead}
use Rattle.vdi_directory.specs.Decisions.{log_effects}
use Rattle.gateway.specs.declared.message.Status.{Status}
use Rattle.gateway.specs.Attempt.{Attempt}
use Rattle.gateway.specs.State.{Work}
use Rattle.guest_driver.specs.declared.disk.Disk.{Disk}
use Rattle.vdi_ops.specs.Op.{Opening, Working, Op}
use Rattle.sheep_node.specs.declared.course.Course.TheVariants.{Commanding}
use Rattle.sheep_node.specs.declared.course.Request.{Request}
use Rattle.sheep_node.specs.declared.input.Input.{Input}
use Rattle.sheep_node.specs.declared.session.Session.{Session}
use Rattle.sheep_node.specs.Changes.{EndsWork}
use Rattle.sheep_node.specs.State.{Node}
use Rattle.sheep_node.specs.StepState.{StepState}
use Rattle.sheep_world.specs.NodeCauses.{input_of_cause}
use Rattle.overlap_law.specs.Attempts.{AttemptRecord, object_of}
use Rattle.overlap_law.specs.Each.{EachUp, SomeAttempt}
use Rattle.overlap_law.specs.Fates.{IsCreated}
use Rattle.overlap_law.specs.Holders.{is_dead_by_log}
use Rattle.overlap_law.specs.MadeTables.{inode_of_course}
use Rattle.overlap_law.specs.Past.{MomentWithPast}
use Rattle.overlap_law.specs.Reached.{Hosts}
use Rattle.overlap_law.specs.StepMoments.{SteppingNode, IsStepping, StepsByChanges, LeadsInStep, first_in_step, moment_in_step}
use Rattle.overlap_law.specs.Tables.{IsOfChain}

-- of each disk that a session of a node has open that isn't lost
abbrev pub EntriesAreOfTheChain : List Effect → Hosts → Type 0
EntriesAreOfTheChain effects hosts = EachUp hosts (λ n node. (number index : ℕ) (session : Session) (disk : Disk)
    → tree.get node.sessions number ≡ Some session → session.disk ≡ Some disk → index < objects_of disk.inode.spec
    → IsOfChain effects disk.inode.vid (slice_index disk.inode.table index))

-- the own entries of a table stand for objects that were created by an epoch, if the disk isn't dead
abbrev pub OwnEntriesAreCreated : List Effect → List AttemptRecord → ℕ → Content → Type 0
OwnEntriesAreCreated effects attempts epoch inode = (index : ℕ) → index < objects_of inode.spec → slice_index inode.table index ≡ inode.vid
    → is_dead effects inode.vid ≡ false → IsCreated attempts (object_number inode.vid index) epoch

-- so it is of each disk that a session has open, and of each inode that a command is to open
pub record OpenTablesAreMade (effects : List Effect) (hosts : Hosts) (attempts : List AttemptRecord) : Type 0 where
  pub opened : EachUp hosts (λ n node. (number : ℕ) (session : Session) (disk : Disk) → tree.get node.sessions number ≡ Some session
      → session.disk ≡ Some disk → OwnEntriesAreCreated effects attempts node.peer.epoch disk.inode)
  pub to_open : EachUp hosts (λ n node. (req : ℕ) (request : Request) (inode : Content) → tree.get node.requests req ≡ Some request
      → inode_of_course request.course ≡ Some inode → OwnEntriesAreCreated effects attempts node.peer.epoch inode)

-- a test calls each object live that has an attempt, and whose id isn't dead
abbrev pub CallsLive : (ℕ → Bool) → List Entry → List AttemptRecord → Type 0
CallsLive live log attempts =
    (oid : ℕ) → SomeAttempt attempts (λ attempt. object_of attempt ≡ oid) → is_dead_by_log log oid ≡ false → live oid ≡ true

-- where the reading of an inode ends in the middle of a step, as its disk is opened: what was read names as the disk's own what was created
abbrev pub OpeningsNameWhatIsMade : List Effect → List AttemptRecord → Input → Node → StepState → Type 0
OpeningsNameWhatIsMade effects attempts input node so_far = (session req number : ℕ) (work : Work) (attempt : Attempt) (status : Status)
    (op : Op) (bytes : List ℕ) (vid : Vid) (snapshot : Bool) (ids : List ℕ) (header : Header) (index : ℕ)
    → EndsWork input node so_far session req number work attempt status (Commanding op) bytes
    → op.stage ≡ Working vid (Opening snapshot ids header) → index < objects_of header.spec
    → u32_at (INODE_HEADER_BYTES + 4 * index) bytes ≡ vid.0 → is_dead effects vid.0 ≡ false
    → IsCreated attempts (object_number vid.0 index) so_far.node.peer.epoch

-- so it is in the middle of whatever step of an event
abbrev pub ReadsNameWhatIsMade : List Statement → MomentWithPast → MomentWithPast → Type 0
ReadsNameWhatIsMade script start before = (stepping : SteppingNode) (so_far : StepState) → IsStepping script start.world stepping
    → StepsByChanges stepping.cause → LeadsInStep stepping (first_in_step stepping) so_far
    → before ≡ moment_in_step script stepping start so_far
    → OpeningsNameWhatIsMade (log_effects before.world.log) before.past.attempts (input_of_cause stepping.cause) stepping.host.node so_far
