-- Blocks that are read: as long as a session reads one it doesn't write it, so of its strips what stands is one write.
use Rattle.std.specs.Prelude.{◌≡◌, ◌≢◌, ℕ, ◌+◌, ◌*◌, ◌<◌, Bool, true, false, List, ◌∷◌, Some}
use Rattle.std.specs.FinMap as tree
use Rattle.object_id.specs.declared.oid.Kind.TheVariants.{Block}
use Rattle.object_id.specs.Oid.{object_number}
use Rattle.gf256.specs.Part.{is_in_strips}
use Rattle.vdi_directory.specs.declared.effect.Effect.{Effect}
use Rattle.disk_history.specs.Ledger.{Ledger}
use Rattle.disk_history.specs.Ledger as histories
use Rattle.disk_history.specs.Legal.{is_torn}
use Rattle.guest_driver.specs.declared.disk.Disk.{Disk}
use Rattle.guest_driver.specs.Driver.{Reads}
use Rattle.guest_driver.specs.Pieces.{Piece}
use Rattle.sheep_node.specs.declared.course.Course.TheVariants.{Waiting, Driving}
use Rattle.sheep_node.specs.declared.course.Request.{Request}
use Rattle.sheep_node.specs.State.{session_at}
use Rattle.peer_proto.specs.declared.guest.DiskAsk.{DiskAsk}
use Rattle.overlap_law.specs.Attempts.{AttemptRecord}
use Rattle.overlap_law.specs.Each.{EachUp, EachAttempt}
use Rattle.overlap_law.specs.SoundUnwritten.{IsBeingWritten}
use Rattle.overlap_law.specs.StayingBlocks.{IsHomeToCome}
use Rattle.overlap_law.specs.ToCome.{IsToCome}
use Rattle.overlap_law.specs.Words.{Hosts, bytes_by}
use Rattle.overlap_law.specs.WrittenBlocks.{IsBlockOfDisk, blocks_per_object, items_at}

-- a request that waits for its turn has made no attempt at its gateway
pub record WaitersMadeNone (hosts : Hosts) (attempts : List AttemptRecord) : Type 0 where
  pub each : EachUp hosts (λ n node. (req : ℕ) (request : Request) (ask : DiskAsk) → tree.get node.requests req ≡ Some request
      → request.course ≡ Waiting ask → EachAttempt attempts (λ j attempt. attempt.gateway.0 ≡ n → attempt.req ≡ req → ⊥))

-- no block of the piece that a read is at is being written, on the disk that its session has open
pub record ReadBlocksAreUnwritten (ledger : Ledger) (hosts : Hosts) (attempts : List AttemptRecord) : Type 0 where
  pub each : EachUp hosts (λ n node. (req unit : ℕ) (request : Request) (opened : Disk) (disk : histories.Disk) (told : List ℕ)
      (piece : Piece) (rest : List Piece) → tree.get node.requests req ≡ Some request
      → (session_at request.session node).disk ≡ Some opened → request.course ≡ Driving (Reads told piece rest)
      → ledger.disks opened.inode.vid ≡ Some disk → unit < blocks_per_object opened.inode.spec
      → piece.index * blocks_per_object opened.inode.spec + unit < disk.blocks
      → IsBeingWritten attempts (items_at disk opened.inode.spec piece.index unit) → ⊥)

-- so of its strips that aren't torn two attempts by which such a block may come to be read have the same bytes there
pub record ReadStripsComeAlike (ledger : Ledger) (effects : List Effect) (good_id : ℕ → Bool) (hosts : Hosts)
    (attempts : List AttemptRecord) : Type 0 where
  pub each : EachUp hosts (λ n node. (req unit home other i j : ℕ) (request : Request) (opened : Disk) (disk : histories.Disk)
      (told : List ℕ) (piece : Piece) (rest : List Piece) (one two : AttemptRecord) → tree.get node.requests req ≡ Some request
      → (session_at request.session node).disk ≡ Some opened → request.course ≡ Driving (Reads told piece rest)
      → IsBlockOfDisk ledger effects good_id opened.inode.vid disk opened.inode.spec piece.index unit
      → is_in_strips opened.inode.spec.policy Block ≡ true → is_torn (items_at disk opened.inode.spec piece.index unit) ≡ false
      → IsHomeToCome hosts attempts opened.inode.vid piece.index home → home ≢ 0
      → IsHomeToCome hosts attempts opened.inode.vid piece.index other → other ≢ 0
      → IsToCome hosts attempts (object_number home piece.index) unit i one
      → IsToCome hosts attempts (object_number other piece.index) unit j two → bytes_by unit one.work ≡ bytes_by unit two.work)
