-- What is read of an object is what it may come to have: of a unit of a copy, and of the entries of an inode that a command reads as it
-- opens a disk or makes a clone.
use Rattle.std.specs.Prelude.{◌≡◌, ℕ, ◌+◌, ◌*◌, ◌≤◌, ◌<◌, Bool, true, false, List, Some}
use Rattle.object_id.specs.declared.oid.Vid.{Vid}
use Rattle.object_id.specs.Fields.{u32_at}
use Rattle.object_id.specs.Oid.{inode_number}
use Rattle.object_id.specs.Spec.{objects_of}
use Rattle.inode.specs.declared.layout.TheConstants.{INODE_HEADER_BYTES}
use Rattle.cluster_script.specs.declared.statement.Statement.{Statement}
use Rattle.vdi_directory.specs.declared.effect.Effect.{Effect}
use Rattle.vdi_directory.specs.declared.header.Header.{Header}
use Rattle.vdi_directory.specs.Dead.{is_dead}
use Rattle.vdi_directory.specs.Decisions.{log_effects}
use Rattle.gateway.specs.declared.message.Status.{Status}
use Rattle.gateway.specs.Attempt.{Attempt}
use Rattle.gateway.specs.State.{Work}
use Rattle.vdi_ops.specs.Op.{Task, Opening, WritingBack, Tagging, Copying, Making, OpStage, Asked, Working, Publishing, Answered, Op}
use Rattle.sheep_node.specs.declared.course.Course.TheVariants.{Commanding}
use Rattle.sheep_node.specs.declared.input.Input.{Input}
use Rattle.sheep_node.specs.Changes.{EndsWork}
use Rattle.sheep_node.specs.State.{Node}
use Rattle.sheep_node.specs.StepState.{StepState}
use Rattle.sheep_world.specs.NodeCauses.{input_of_cause}
use Rattle.overlap_law.specs.Attempts.{AttemptRecord, object_of}
use Rattle.overlap_law.specs.Each.{EachAttempt}
use Rattle.overlap_law.specs.Past.{MomentWithPast}
use Rattle.overlap_law.specs.Reached.{Hosts}
use Rattle.overlap_law.specs.StepMoments.{SteppingNode, IsStepping, StepsByChanges, LeadsInStep, first_in_step, moment_in_step}
use Rattle.overlap_law.specs.Tables.{entry_unit, entry_by}
use Rattle.overlap_law.specs.ToCome.{IsToCome, IsEntryToCome}
use Rattle.overlap_law.specs.Words.{is_mute, is_doomed, covers_unit, bytes_by}

-- bytes of a unit are those of an attempt by which the unit may come to be read, one that some target has served, of an epoch or before it;
-- and each behind it on the unit is doomed
pub record IsUnitToCome (hosts : Hosts) (attempts : List AttemptRecord) (oid epoch unit : ℕ) (bytes : List ℕ) : Type 0 where
  pub place : ℕ
  pub one : AttemptRecord
  pub to_come : IsToCome hosts attempts oid unit place one
  pub served : is_mute one ≡ false
  pub within : one.epoch ≤ epoch
  pub same : bytes_by unit one.work ≡ bytes
  pub behind : EachAttempt attempts (λ k later. place < k → object_of later ≡ oid → covers_unit unit later ≡ true
      → is_doomed hosts later ≡ true)

-- a task reads the inode of an id, with the entries that a header says: that of the disk which it opens, or of a clone's base
abbrev pub TaskReadsInode : Vid → Task → Vid → Header → Type 0
TaskReadsInode own (Opening snapshot ids has) vid header = (own ≡ vid) × (has ≡ header)
TaskReadsInode own (WritingBack inode) vid header = ⊥
TaskReadsInode own (Tagging old inode) vid header = ⊥
TaskReadsInode own (Copying ids has) vid header = (has.parent ≡ Some vid) × (has ≡ header)
TaskReadsInode own (Making entry opened) vid header = ⊥

-- so does a command that waits for the task's work
abbrev pub ReadsInodeAt : OpStage → Vid → Header → Type 0
ReadsInodeAt (Asked entry) vid header = ⊥
ReadsInodeAt (Working own task) vid header = TaskReadsInode own task vid header
ReadsInodeAt (Publishing entry opened) vid header = ⊥
ReadsInodeAt (Answered change) vid header = ⊥

-- an entry is that of an attempt by which the inode may come to have it, one that some target has served, of an epoch or before it; and
-- each behind it on the entry is doomed
pub record IsOfOneToCome (hosts : Hosts) (attempts : List AttemptRecord) (epoch vid index entry : ℕ) : Type 0 where
  pub place : ℕ
  pub one : AttemptRecord
  pub to_come : IsEntryToCome hosts attempts vid index place one
  pub served : is_mute one ≡ false
  pub within : one.epoch ≤ epoch
  pub same : entry_by index one ≡ entry
  pub behind : EachAttempt attempts (λ k later. place < k → object_of later ≡ inode_number vid
      → covers_unit (entry_unit index) later ≡ true
      → is_doomed hosts later ≡ true)

-- where the reading of the inode of a good id that isn't dead ends in the middle of a step, so it is of each entry read
abbrev pub EntriesReadAreToCome : List Effect → (ℕ → Bool) → Hosts → List AttemptRecord → Input → Node → StepState → Type 0
EntriesReadAreToCome effects good_id hosts attempts input node so_far = (session req number : ℕ) (work : Work) (attempt : Attempt)
    (status : Status) (op : Op) (bytes : List ℕ) (vid : Vid) (header : Header) (index : ℕ)
    → EndsWork input node so_far session req number work attempt status (Commanding op) bytes
    → ReadsInodeAt op.stage vid header → good_id vid.0 ≡ true → is_dead effects vid.0 ≡ false → index < objects_of header.spec
    → IsOfOneToCome hosts attempts so_far.node.peer.epoch vid.0 index (u32_at (INODE_HEADER_BYTES + 4 * index) bytes)

-- so it is in the middle of whatever step of an event
abbrev pub ReadsAreToCome : List Statement → (ℕ → Bool) → MomentWithPast → MomentWithPast → Type 0
ReadsAreToCome script good_id start before = (stepping : SteppingNode) (so_far : StepState) → IsStepping script start.world stepping
    → StepsByChanges stepping.cause → LeadsInStep stepping (first_in_step stepping) so_far
    → before ≡ moment_in_step script stepping start so_far
    → EntriesReadAreToCome (log_effects before.world.log) good_id before.world.hosts before.past.attempts
    (input_of_cause stepping.cause) stepping.host.node so_far
