-- What a write has behind it, in the form that each change keeps: an attempt made each piece, and is the last on the disk's own object, so
-- that nothing else is to come of the piece's blocks.
use Rattle.std.specs.Prelude.{◌≡◌, ℕ, ◌<◌, ◌≤◌, true, List, ◌∷◌, ◌++◌, length, Contains, slice_get, Some}
use Rattle.std.specs.FinMap as tree
use Rattle.object_id.specs.Oid.{object_number}
use Rattle.disk_history.specs.Ledger.{Item, Ledger, is_item_of}
use Rattle.disk_history.specs.Ledger as histories
use Rattle.peer_proto.specs.declared.work.ObjWork.{ObjWork}
use Rattle.guest_driver.specs.declared.disk.Disk.{Disk}
use Rattle.guest_driver.specs.Driver.{DriverStage, Creating, Entering, Writes}
use Rattle.guest_driver.specs.Pieces.{Piece, pieces}
use Rattle.sheep_node.specs.declared.course.Course.TheVariants.{Driving}
use Rattle.sheep_node.specs.declared.course.Request.{Request}
use Rattle.sheep_node.specs.State.{session_at}
use Rattle.gateway.specs.State.{Work}
use Rattle.overlap_law.specs.Attempts.{AttemptRecord, object_of}
use Rattle.overlap_law.specs.Each.{EachUp, EachAttempt}
use Rattle.overlap_law.specs.Pieces.{IsInPiece, IsOn, bytes_for}
use Rattle.overlap_law.specs.Units.{covers_by, bytes_by}
use Rattle.overlap_law.specs.Words.{Hosts, is_made}
use Rattle.overlap_law.specs.WrittenBlocks.{blocks_per_object, items_at}

-- a work has for each block of a piece what a request has for it
abbrev pub HasPiece : ObjWork → List ℕ → Piece → Type 0
HasPiece work payload piece = (unit : ℕ) → IsInPiece piece unit
    → (covers_by unit work ≡ true) × (bytes_by unit work ≡ bytes_for payload piece unit)

-- a piece was made in the disk's own object by the last attempt on it
pub record IsWrittenAlone (attempts : List AttemptRecord) (vid : ℕ) (payload : List ℕ) (piece : Piece) : Type 0 where
  pub place : ℕ
  pub attempt : AttemptRecord
  pub there : slice_get attempts place ≡ Some attempt
  pub object : object_of attempt ≡ object_number vid piece.index
  pub made : is_made attempt ≡ true
  pub last : EachAttempt attempts (λ k later. object_of later ≡ object_number vid piece.index → k ≤ place)
  pub has : HasPiece attempt.work payload piece

-- so it is of each piece that a write has behind it; and of the one that it is at, once it enters the object into the inode
pub record HasBehind (attempts : List AttemptRecord) (vid shift : ℕ) (payload : List ℕ) (stage : DriverStage) (piece : Piece)
    (rest : List Piece) : Type 0 where
  pub offset : ℕ
  pub before : List Piece
  pub cut : pieces shift offset (length payload) ≡ before ++ piece ∷ rest
  pub each : (one : Piece) → Contains before one → IsWrittenAlone attempts vid payload one
  pub entered : stage ≡ Entering → IsWrittenAlone attempts vid payload piece

-- each write of a node that isn't lost is so, on the disk that its session has open
pub record WhatIsWrittenStaysAlone (hosts : Hosts) (attempts : List AttemptRecord) : Type 0 where
  pub each : EachUp hosts (λ n node. (req : ℕ) (request : Request) (opened : Disk) (payload : List ℕ) (stage : DriverStage)
      (piece : Piece) (rest : List Piece) → tree.get node.requests req ≡ Some request → (session_at request.session node).disk ≡ Some opened
      → request.course ≡ Driving (Writes payload stage piece rest)
      → HasBehind attempts opened.inode.vid opened.inode.spec.shift payload stage piece rest)

-- an open create of a write has its piece
pub record CreatesHavePieces (hosts : Hosts) : Type 0 where
  pub each : EachUp hosts (λ n node. (req : ℕ) (request : Request) (work : Work) (payload : List ℕ) (piece : Piece) (rest : List Piece)
      → tree.get node.requests req ≡ Some request → request.course ≡ Driving (Writes payload Creating piece rest)
      → tree.get node.gateway.works req ≡ Some work → HasPiece work.work payload piece)

-- an item has the bytes of a piece of a request, for a block of it
pub record IsItemOfPiece (shift offset : ℕ) (payload : List ℕ) (index unit : ℕ) (item : Item) : Type 0 where
  pub one : Piece
  pub among : Contains (pieces shift offset (length payload)) one
  pub at : one.index ≡ index
  pub inside : IsInPiece one unit
  pub bytes : item.bytes ≡ bytes_for payload one unit

-- the items of a write, in the blocks of the disk that it is on, are those of its pieces
pub record ItemsAreOfPieces (ledger : Ledger) (hosts : Hosts) : Type 0 where
  pub each : EachUp hosts (λ n node. (req index unit place offset : ℕ) (request : Request) (opened : Disk) (disk : histories.Disk)
      (item : Item) (payload : List ℕ) (stage : DriverStage) (piece : Piece) (rest before : List Piece)
      → IsOn ledger node req request opened disk → request.course ≡ Driving (Writes payload stage piece rest)
      → pieces opened.inode.spec.shift offset (length payload) ≡ before ++ piece ∷ rest → unit < blocks_per_object opened.inode.spec
      → slice_get (items_at disk opened.inode.spec index unit) place ≡ Some item → is_item_of req item ≡ true
      → IsItemOfPiece opened.inode.spec.shift offset payload index unit item)
