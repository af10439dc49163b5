-- What has to hold of a change between two moments, so that what the history gets in it keeps what blocks may be read as: where a write is
-- done, and where an entry makes a disk. What else is added keeps it anyway. And what has to hold of what commands write into inodes, and
-- of what open works would make of blocks.
use Rattle.std.specs.Prelude.{◌≡◌, ◌≢◌, ◌⊎◌, ℕ, Bool, true, false, List, [], ◌∷◌, ◌++◌, Contains, Some}
use Rattle.std.specs.FinMap as tree
use Rattle.object_id.specs.declared.entry.Entry.{Entry}
use Rattle.object_id.specs.declared.entry.VdiSpec.{VdiSpec}
use Rattle.object_id.specs.declared.oid.Kind.TheVariants.{Block}
use Rattle.object_id.specs.Oid.{object_number}
use Rattle.gf256.specs.Part.{is_in_strips}
use Rattle.disk_history.specs.declared.event.HistEvent.TheVariants.{WriteDone}
use Rattle.disk_history.specs.Ledger.{Ledger}
use Rattle.disk_history.specs.Ledger as histories
use Rattle.vdi_directory.specs.declared.effect.Effect.{Effect}
use Rattle.vdi_directory.specs.Decisions.{log_effects}
use Rattle.cluster_script.specs.declared.statement.Statement.{Statement}
use Rattle.peer_proto.specs.declared.guest.GuestRsp.{GuestRsp}
use Rattle.peer_proto.specs.Work.{oid_of}
use Rattle.guest_driver.specs.declared.disk.Disk.{Disk}
use Rattle.guest_driver.specs.Driver.{Writes, Creating}
use Rattle.guest_driver.specs.Pieces.{Piece}
use Rattle.guest_driver.specs.PieceWorks.{entry_of}
use Rattle.disk_check.specs.Check.{Check, write_value}
use Rattle.gateway.specs.State.{Work}
use Rattle.inode.specs.Layout.{Content}
use Rattle.object_id.specs.declared.oid.Vid.{Vid}
use Rattle.vdi_ops.specs.Op.{WritingBack, Working, Op}
use Rattle.vdi_ops.specs.TaskWorks.{IsWrittenBack}
use Rattle.sheep_node.specs.declared.course.Course.TheVariants.{Driving, Commanding}
use Rattle.sheep_node.specs.declared.course.Request.{Request}
use Rattle.sheep_node.specs.State.{session_at}
use Rattle.sheep_node.specs.StepState.{StepState}
use Rattle.sheep_world.specs.Granted.{entry_adds}
use Rattle.overlap_law.specs.Attempts.{AttemptRecord}
use Rattle.overlap_law.specs.Checks.{IsCheckOn, HasBegunWrite, HasBlock}
use Rattle.overlap_law.specs.CreatedPieces.{anything, CreatesPiece}
use Rattle.overlap_law.specs.Each.{EachUp}
use Rattle.overlap_law.specs.Headline.{ledger_of}
use Rattle.overlap_law.specs.NamedWorks.{HasEntry}
use Rattle.overlap_law.specs.Past.{MomentWithPast}
use Rattle.overlap_law.specs.PastWords.{is_refusal}
use Rattle.overlap_law.specs.Pieces.{IsInPiece, HasItem, WritesHaveItems}
use Rattle.overlap_law.specs.StayingBlocks.{IsBlockOfAnyDisk, MayStay, HasEntryOf, IsAloneWhereWritten, AllKeepBlocks}
use Rattle.overlap_law.specs.StepMoments.{SteppingNode, IsStepping, StepsByChanges, IsWithinStep, moment_in_step}
use Rattle.overlap_law.specs.Tables.{entry_by}
use Rattle.overlap_law.specs.ToCome.{IsEntryToCome}
use Rattle.overlap_law.specs.ToDo.{entry_made}
use Rattle.overlap_law.specs.Units.{covers_by, bytes_by}
use Rattle.overlap_law.specs.Words.{Hosts}
use Rattle.overlap_law.specs.WrittenBlocks.{items_at, is_torn_here}

-- a write that is done between two moments is alone where it was written
pub record WhatIsDoneIsAlone (good_id : ℕ → Bool) (before after : MomentWithPast) : Type 0 where
  pub each : (req : ℕ) → Contains after.past.history (WriteDone req) → ((ledger_of before.past.history).requests req).ended ≡ false
      → IsAloneWhereWritten (log_effects after.world.log) good_id after.world.hosts after.past.attempts (ledger_of before.past.history) req

-- so is a request's, in the middle of whatever step of an event, to which the step replies by one change, and doesn't refuse it
abbrev pub RepliesAreAlone : List Statement → (ℕ → Bool) → MomentWithPast → MomentWithPast → MomentWithPast → Type 0
RepliesAreAlone script good_id start before after = (stepping : SteppingNode) (so_far next : StepState)
    → IsStepping script start.world stepping → StepsByChanges stepping.cause → IsWithinStep stepping so_far next
    → before ≡ moment_in_step script stepping start so_far → after ≡ moment_in_step script stepping start next
    → (reply : ℕ × GuestRsp) → Contains next.outputs.replies reply
    → ((one : ℕ × GuestRsp) → Contains so_far.outputs.replies one → one.0 ≢ reply.0) → is_refusal reply.1 ≡ false
    → IsAloneWhereWritten (log_effects after.world.log) good_id after.world.hosts after.past.attempts (ledger_of before.past.history)
    reply.0

-- an entry that the log gets between them makes disks blank, or like other ones
pub record EntriesKeepBlocks (good_id : ℕ → Bool) (before after : MomentWithPast) : Type 0 where
  pub each : (entry : Entry) → after.world.log ≡ before.world.log ++ entry ∷ []
      → AllKeepBlocks (log_effects after.world.log) good_id after.world.hosts after.past.attempts (ledger_of before.past.history)
      (entry_adds before.world.log entry)

-- an entry of a disk's inode is the disk's own id, or one that the inode may come to have
abbrev pub EntersAs : Hosts → List AttemptRecord → ℕ → ℕ → ℕ → Type 0
EntersAs hosts attempts vid index value = (value ≡ vid)
    ⊎ ((j : ℕ) × (entry : AttemptRecord) × IsEntryToCome hosts attempts vid index j entry × (entry_by index entry ≡ value))

-- what commands write back, behind a change, into the inode of a good id that isn't dead is the id itself, or might come to be had before
pub record CommandsWriteWhatMayCome (good_id : ℕ → Bool) (before after : MomentWithPast) : Type 0 where
  pub each : EachUp after.world.hosts (λ n node. (req vid index : ℕ) (request : Request) (op : Op) (own : Vid) (inode : Content)
      (work : Work) → tree.get node.requests req ≡ Some request → request.course ≡ Commanding op
      → op.stage ≡ Working own (WritingBack inode) → tree.get node.gateway.works req ≡ Some work → IsWrittenBack inode work.work
      → HasEntry work.work vid index → HasEntryOf (log_effects after.world.log) good_id vid index
      → EntersAs before.world.hosts before.past.attempts vid index (entry_made index work.work))

-- the values that checks write have their items, in each block that the disk has
pub record CheckedValuesHaveItems (ledger : Ledger) (hosts : Hosts) : Type 0 where
  pub each : EachUp hosts (λ n node. (req index unit : ℕ) (check : Check) (value : List ℕ) (opened : Disk) (disk : histories.Disk)
      → IsCheckOn ledger node req check opened disk → HasBegunWrite node req index check value → HasBlock disk opened.inode.spec index unit
      → HasItem (items_at disk opened.inode.spec index unit) req (bytes_by unit (write_value check index value)))

-- what an open create of a piece's object would make of a block beside the piece may be read of it, whichever requests are refused, where
-- this is so of the disk's inode and the piece
pub record CreatesMayStayIf (IsSo : Content → Piece → Type 0) (ledger : Ledger) (effects : List Effect) (good_id : ℕ
    → Bool) (hosts : Hosts) (attempts : List AttemptRecord) : Type 0 where
  pub each : EachUp hosts (λ n node. (req vid index unit : ℕ) (work : Work) (disk : histories.Disk) (spec : VdiSpec) (request : Request)
      (opened : Disk) (payload : List ℕ) (piece : Piece) (rest : List Piece) → tree.get node.gateway.works req ≡ Some work
      → tree.get node.requests req ≡ Some request → (session_at request.session node).disk ≡ Some opened
      → request.course ≡ Driving (Writes payload Creating piece rest) → CreatesPiece anything opened.inode payload piece work.work
      → IsSo opened.inode piece → (IsInPiece piece unit → ⊥) → oid_of work.work ≡ object_number vid index
      → IsBlockOfAnyDisk ledger effects good_id vid disk spec index unit → covers_by unit work.work ≡ true
      → is_torn_here spec (items_at disk spec index unit) ≡ false
      → MayStay attempts (items_at disk spec index unit) (Some req) (bytes_by unit work.work))

-- of each open create
abbrev pub CreatesMayStay : Ledger → List Effect → (ℕ → Bool) → Hosts → List AttemptRecord → Type 0
CreatesMayStay = CreatesMayStayIf (λ inode piece. Unit {0})

-- of those alone that copy strips of another disk's object
abbrev pub StripCopiesMayStay : Ledger → List Effect → (ℕ → Bool) → Hosts → List AttemptRecord → Type 0
StripCopiesMayStay = CreatesMayStayIf (λ inode piece. (is_in_strips inode.spec.policy Block ≡ true) × (entry_of inode piece ≢ 0))

-- what has to hold of a change, so that it keeps what blocks may come to be read as among what may be read of them
pub record KeepsHistory (script : List Statement) (good_id : ℕ → Bool) (start before after : MomentWithPast) : Type 0 where
  pub entries : EntriesKeepBlocks good_id before after
  pub replies : RepliesAreAlone script good_id start before after
  pub commands : CommandsWriteWhatMayCome good_id before after
  pub written : WritesHaveItems (ledger_of after.past.history) after.world.hosts
  pub checked : CheckedValuesHaveItems (ledger_of after.past.history) after.world.hosts
  pub creates : CreatesMayStay (ledger_of after.past.history) (log_effects after.world.log) good_id after.world.hosts after.past.attempts
