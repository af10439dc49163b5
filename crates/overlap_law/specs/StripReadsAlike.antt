-- What has to hold of the strips that reads read, so that each of their blocks has a base: nobody writes what is read, so what it may come
-- to be read as is one; and its items, which are coded, are bytes.
use Rattle.std.specs.Prelude.{◌≡◌, ◌≢◌, ℕ, Bool, true, false, Contains, List, slice_get, None, Some}
use Rattle.std.specs.FinMap as tree
use Rattle.object_id.specs.declared.oid.Kind.TheVariants.{Block}
use Rattle.object_id.specs.Fields.{AreBytes}
use Rattle.object_id.specs.Oid.{object_number}
use Rattle.gf256.specs.Part.{is_in_strips}
use Rattle.disk_history.specs.declared.event.HistEvent.{HistEvent}
use Rattle.disk_history.specs.declared.event.HistEvent.TheVariants.{WriteStart}
use Rattle.disk_history.specs.Ledger as histories
use Rattle.disk_history.specs.Ledger.{Item, Ledger}
use Rattle.guest_driver.specs.declared.disk.Disk.{Disk}
use Rattle.guest_driver.specs.Driver.{Reads}
use Rattle.guest_driver.specs.Pieces.{Piece}
use Rattle.guest_driver.specs.PieceWorks.{entry_of}
use Rattle.vdi_directory.specs.declared.effect.Effect.{Effect}
use Rattle.sheep_node.specs.declared.course.Course.TheVariants.{Driving}
use Rattle.sheep_node.specs.declared.course.Request.{Request}
use Rattle.sheep_node.specs.State.{session_at}
use Rattle.overlap_law.specs.Attempts.{AttemptRecord}
use Rattle.overlap_law.specs.Each.{EachUp}
use Rattle.overlap_law.specs.Pieces.{IsInPiece}
use Rattle.overlap_law.specs.StayingBlocks.{IsHomeToCome}
use Rattle.overlap_law.specs.ToCome.{IsToCome}
use Rattle.overlap_law.specs.Units.{bytes_by}
use Rattle.overlap_law.specs.Words.{Hosts}
use Rattle.overlap_law.specs.WrittenBlocks.{IsBlockOfDisk, is_torn_here, items_at}

-- in each block of strips of the piece that a read is at, which isn't torn, two attempts by which it may come to be read have the same
-- bytes, in the object that the table of the read's session names
pub record ReadStripsAreAlike (ledger : Ledger) (effects : List Effect) (good_id : ℕ → Bool) (hosts : Hosts) (attempts : List AttemptRecord)
    : Type 0 where
  pub each : EachUp hosts (λ n node. (req unit i k : ℕ) (request : Request) (opened : Disk) (found : histories.Disk) (told : List ℕ)
      (piece : Piece) (rest : List Piece) (one two : AttemptRecord) → tree.get node.requests req ≡ Some request
      → (session_at request.session node).disk ≡ Some opened → request.course ≡ Driving (Reads told piece rest)
      → is_in_strips opened.inode.spec.policy Block ≡ true → IsInPiece piece unit
      → IsBlockOfDisk ledger effects good_id opened.inode.vid found opened.inode.spec piece.index unit
      → is_torn_here opened.inode.spec (items_at found opened.inode.spec piece.index unit) ≡ false
      → IsHomeToCome hosts attempts opened.inode.vid piece.index (entry_of opened.inode piece) → entry_of opened.inode piece ≢ 0
      → IsToCome hosts attempts (object_number (entry_of opened.inode piece) piece.index) unit i one
      → IsToCome hosts attempts (object_number (entry_of opened.inode piece) piece.index) unit k two
      → bytes_by unit one.work ≡ bytes_by unit two.work)

-- a coded item is bytes, and so is one of no request
pub record ItemsAreOfBytes (ledger : Ledger) : Type 0 where
  pub each : (vid block place : ℕ) (disk : histories.Disk) (item : Item) → ledger.disks vid ≡ Some disk
      → slice_get (disk.items block) place ≡ Some item
      → (item.coded ≡ true → AreBytes item.bytes) × (item.request ≡ None → AreBytes item.bytes)

-- so is each coded write of a block that a history begins
pub record CodedWritesAreOfBytes (history : List HistEvent) : Type 0 where
  pub each : (req vid block : ℕ) (bytes : List ℕ) → Contains history (WriteStart req vid block true bytes) → AreBytes bytes
