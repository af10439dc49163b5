-- What a write reads of strips of another disk's object, to copy them: each block is that of each attempt on the object that isn't doomed,
-- where those behind it add nothing. And that nothing else is written in the object that a write is at.
use Rattle.std.specs.Prelude.{◌≡◌, ◌≢◌, ◌⊎◌, ℕ, ◌+◌, ◌*◌, ◌^◌, ◌≤◌, ◌<◌, Bool, true, false, List, slice_get, Some, None}
use Rattle.std.specs.FinMap as tree
use Rattle.object_id.specs.declared.entry.Entry.{Entry}
use Rattle.object_id.specs.declared.entry.VdiSpec.{VdiSpec}
use Rattle.object_id.specs.declared.limits.TheConstants.{OBJECTS_MAX, BLOCK_BYTES}
use Rattle.object_id.specs.declared.oid.Kind.TheVariants.{Block}
use Rattle.object_id.specs.Fields.{AreBytes}
use Rattle.object_id.specs.Oid.{IsVid, object_number}
use Rattle.object_store.specs.Bytes.{piece_at}
use Rattle.peer_service.specs.State.{object_size}
use Rattle.gf256.specs.Part.{is_in_strips}
use Rattle.gf256.specs.Strip.{IsBlock}
use Rattle.disk_history.specs.Ledger.{Item, Ledger}
use Rattle.disk_history.specs.Ledger as histories
use Rattle.guest_driver.specs.declared.disk.Disk.{Disk}
use Rattle.guest_driver.specs.Driver.{Writes, DriverStage}
use Rattle.guest_driver.specs.Pieces.{Piece}
use Rattle.vdi_directory.specs.Dead.{is_dead}
use Rattle.vdi_directory.specs.Decisions.{log_effects}
use Rattle.sheep_node.specs.declared.course.Course.TheVariants.{Driving}
use Rattle.sheep_node.specs.declared.course.Request.{Request}
use Rattle.sheep_node.specs.State.{session_at}
use Rattle.overlap_law.specs.Attempts.{AttemptRecord, attempts_on}
use Rattle.overlap_law.specs.CreatedPieces.{OfFetched}
use Rattle.overlap_law.specs.Each.{EachUp, EachAttempt, spec_in}
use Rattle.overlap_law.specs.LastReads.{was_snapped}
use Rattle.overlap_law.specs.Pieces.{IsInPiece}
use Rattle.overlap_law.specs.Since.{AddNothingAfter}
use Rattle.overlap_law.specs.SoundUnwritten.{IsBeingWritten}
use Rattle.overlap_law.specs.Words.{Hosts, is_doomed, covers_unit, bytes_by}
use Rattle.overlap_law.specs.WrittenBlocks.{blocks_per_object, items_at}

-- the bytes of a block are those of the attempt at a place, if those behind it add nothing to it, and its own are a block
pub record IsBlockOf (attempts : List AttemptRecord) (unit j : ℕ) (bytes : List ℕ) : Type 0 where
  pub own : (attempt : AttemptRecord) → slice_get attempts j ≡ Some attempt → AddNothingAfter attempts unit j attempt
      → IsBlock (bytes_by unit attempt.work) → bytes ≡ bytes_by unit attempt.work

-- what a write of a good disk in strips read of another disk's object, which became a snapshot, and whose objects are as large: each block
-- is of each attempt that covers it, unless that is doomed
pub record IsReadOfStrips (log : List Entry) (hosts : Hosts) (attempts : List AttemptRecord) (spec : VdiSpec) (home index : ℕ)
    (bytes : List ℕ) : Type 0 where
  pub id : IsVid home
  pub few : index < OBJECTS_MAX
  pub snapped : was_snapped log home ≡ true
  pub home_spec : VdiSpec
  pub made_with : spec_in (log_effects log) home ≡ Some home_spec
  pub policy_so : spec.policy ≡ home_spec.policy
  pub large : 2 ^ spec.shift ≤ object_size home_spec Block
  pub blocks : (unit : ℕ) → unit < blocks_per_object spec → EachAttempt (attempts_on (object_number home index) attempts) (λ j one.
      covers_unit unit one ≡ true
      → (is_doomed hosts one ≡ true)
      ⊎ IsBlockOf (attempts_on (object_number home index) attempts) unit j (piece_at bytes (BLOCK_BYTES * unit) BLOCK_BYTES))

abbrev pub IsFetchedOfStrips : List Entry → (ℕ → Bool) → Hosts → List AttemptRecord → OfFetched
IsFetchedOfStrips log good_id hosts attempts vid spec home index bytes =
    good_id vid ≡ true → is_dead (log_effects log) vid ≡ false → is_in_strips spec.policy Block ≡ true
    → IsReadOfStrips log hosts attempts spec home index bytes

-- no other request is writing a block of the object that a write is at, on the disk that its session has open
pub record NoneElseWrites (ledger : Ledger) (hosts : Hosts) (attempts : List AttemptRecord) : Type 0 where
  pub each : EachUp hosts (λ n node. (req unit : ℕ) (request : Request) (opened : Disk) (disk : histories.Disk) (payload : List ℕ)
      (stage : DriverStage) (piece : Piece) (rest : List Piece) → tree.get node.requests req ≡ Some request
      → (session_at request.session node).disk ≡ Some opened → request.course ≡ Driving (Writes payload stage piece rest)
      → ledger.disks opened.inode.vid ≡ Some disk → unit < blocks_per_object opened.inode.spec
      → piece.index * blocks_per_object opened.inode.spec + unit < disk.blocks
      → (being : IsBeingWritten attempts (items_at disk opened.inode.spec piece.index unit)) → req ≢ being.attempt.req → ⊥)

-- no block beside the piece that a write is at is being written, in the piece's object, on the disk that its session has open
pub record BesidePiecesIsUnwritten (ledger : Ledger) (hosts : Hosts) (attempts : List AttemptRecord) : Type 0 where
  pub each : EachUp hosts (λ n node. (req unit : ℕ) (request : Request) (opened : Disk) (disk : histories.Disk) (payload : List ℕ)
      (stage : DriverStage) (piece : Piece) (rest : List Piece) → tree.get node.requests req ≡ Some request
      → (session_at request.session node).disk ≡ Some opened → request.course ≡ Driving (Writes payload stage piece rest)
      → (IsInPiece piece unit → ⊥) → ledger.disks opened.inode.vid ≡ Some disk → unit < blocks_per_object opened.inode.spec
      → piece.index * blocks_per_object opened.inode.spec + unit < disk.blocks
      → IsBeingWritten attempts (items_at disk opened.inode.spec piece.index unit) → ⊥)
