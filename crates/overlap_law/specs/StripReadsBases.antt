-- What has to hold of the strips that reads have read, so that what comes of them is to come: each block has a made attempt, behind which
-- none is made or adds anything.
use Rattle.std.specs.Prelude.{◌≡◌, ◌<◌, ℕ, Bool, true, false, List, slice_get, Some}
use Rattle.object_id.specs.declared.oid.Kind.TheVariants.{Block}
use Rattle.object_id.specs.Oid.{object_number}
use Rattle.gf256.specs.Part.{is_in_strips}
use Rattle.gf256.specs.Strip.{IsBlock}
use Rattle.cluster_script.specs.declared.statement.Statement.{Statement}
use Rattle.disk_history.specs.Ledger as histories
use Rattle.disk_history.specs.Ledger.{Ledger}
use Rattle.guest_driver.specs.declared.disk.Disk.{Disk}
use Rattle.guest_driver.specs.Driver.{Reads}
use Rattle.guest_driver.specs.Pieces.{Piece}
use Rattle.guest_driver.specs.PieceWorks.{entry_of}
use Rattle.gateway.specs.declared.message.Status.{Status}
use Rattle.gateway.specs.Attempt.{Attempt}
use Rattle.gateway.specs.State.{Work}
use Rattle.vdi_directory.specs.declared.effect.Effect.{Effect}
use Rattle.vdi_directory.specs.States.{state_of, is_live_state}
use Rattle.sheep_node.specs.declared.course.Course.TheVariants.{Driving}
use Rattle.sheep_node.specs.Changes.{EndsWork}
use Rattle.sheep_node.specs.State.{session_at}
use Rattle.sheep_node.specs.StepState.{StepState}
use Rattle.sheep_world.specs.NodeCauses.{input_of_cause}
use Rattle.overlap_law.specs.Attempts.{AttemptRecord, attempts_on}
use Rattle.overlap_law.specs.BornObjects.{IsBorn}
use Rattle.overlap_law.specs.Each.{EachAttempt}
use Rattle.overlap_law.specs.Past.{MomentWithPast}
use Rattle.overlap_law.specs.Pieces.{IsInPiece}
use Rattle.overlap_law.specs.Since.{AddNothingAfter}
use Rattle.overlap_law.specs.StepMoments.{SteppingNode, IsStepping, StepsByChanges, LeadsInStep, first_in_step, moment_in_step}
use Rattle.overlap_law.specs.Units.{bytes_by, covers_unit}
use Rattle.overlap_law.specs.Words.{is_made, is_mute}
use Rattle.overlap_law.specs.WrittenBlocks.{IsBlockOfDisk, is_torn_here, items_at}

-- an attempt of an object's covers a unit, was made and served, of bytes; none behind it that covers the unit is made, or adds anything
pub record IsStripBase (attempts : List AttemptRecord) (unit j : ℕ) (base : AttemptRecord) : Type 0 where
  pub there : slice_get attempts j ≡ Some base
  pub covers : covers_unit unit base ≡ true
  pub made : is_made base ≡ true
  pub served : is_mute base ≡ false
  pub last : EachAttempt attempts (λ k later. j < k → covers_unit unit later ≡ true → is_made later ≡ false)
  pub quiet : AddNothingAfter attempts unit j base
  pub block : IsBlock (bytes_by unit base.work)

-- where a read has read strips of a good disk that is there, in whatever step of an event a moment is in the middle of, the object that its
-- table names was born as the event began, and each block of the piece that isn't torn has such a base
pub record StripsHaveBases (script : List Statement) (start before : MomentWithPast) (ledger : Ledger) (effects : List Effect)
    (good_id : ℕ → Bool) : Type 0 where
  pub each : (stepping : SteppingNode) (so_far : StepState) → IsStepping script start.world stepping → StepsByChanges stepping.cause
      → LeadsInStep stepping (first_in_step stepping) so_far → before ≡ moment_in_step script stepping start so_far
      → (session req number : ℕ) (work : Work) (attempt : Attempt) (status : Status) (told bytes : List ℕ) (piece : Piece)
      (rest : List Piece) (disk : Disk)
      → EndsWork (input_of_cause stepping.cause) stepping.host.node so_far session req number work attempt status
      (Driving (Reads told piece rest)) bytes
      → (session_at session so_far.node).disk ≡ Some disk → is_in_strips disk.inode.spec.policy Block ≡ true
      → good_id disk.inode.vid ≡ true → is_live_state (state_of effects disk.inode.vid) ≡ true
      → IsBorn start.past.attempts (object_number (entry_of disk.inode piece) piece.index)
      × ((unit : ℕ) (found : histories.Disk) → IsInPiece piece unit
      → IsBlockOfDisk ledger effects good_id disk.inode.vid found disk.inode.spec piece.index unit
      → is_torn_here disk.inode.spec (items_at found disk.inode.spec piece.index unit) ≡ false
      → (j : ℕ) × (base : AttemptRecord)
      × IsStripBase (attempts_on (object_number (entry_of disk.inode piece) piece.index) before.past.attempts) unit j base)
