-- What open works that create the own objects of writes' pieces create them of.
use Rattle.std.specs.Prelude.{◌≡◌, ◌≢◌, ℕ, List, length, Some}
use Rattle.std.specs.FinMap as tree
use Rattle.object_id.specs.declared.entry.VdiSpec.{VdiSpec}
use Rattle.inode.specs.Layout.{Content}
use Rattle.peer_proto.specs.declared.work.ObjWork.{ObjWork}
use Rattle.gateway.specs.State.{Work}
use Rattle.guest_driver.specs.declared.disk.Disk.{Disk}
use Rattle.guest_driver.specs.Driver.{Writes, Creating}
use Rattle.guest_driver.specs.Pieces.{Piece}
use Rattle.guest_driver.specs.PieceWorks.{entry_of, object_bytes, create_piece, create_copy}
use Rattle.sheep_node.specs.declared.course.Course.TheVariants.{Driving}
use Rattle.sheep_node.specs.declared.course.Request.{Request}
use Rattle.sheep_node.specs.State.{session_at}
use Rattle.overlap_law.specs.Each.{EachUp}
use Rattle.overlap_law.specs.Words.{Hosts}

-- what is asked of the bytes that a write of a disk, made so, read of the object of another id, with the same index
abbrev pub OfFetched : Type 1
OfFetched = ℕ → VdiSpec → ℕ → ℕ → List ℕ → Type 0

-- nothing is asked of them: any bytes may have been read
abbrev pub anything : OfFetched
anything vid spec home index bytes = Unit {0}

-- a piece's object is created on the disk of an inode: where the table has a hole, with the piece in it; or where it has another disk's
-- object, with the piece laid over what was read of that
pub data CreatesPiece (Fetched : OfFetched) (inode : Content) (payload : List ℕ) (piece : Piece) (work : ObjWork) : Type 0 where
  OfHole : entry_of inode piece ≡ 0 → work ≡ create_piece inode payload piece → CreatesPiece Fetched inode payload piece work
  OfCopy : (old : List ℕ) → entry_of inode piece ≢ 0 → entry_of inode piece ≢ inode.vid → length old ≡ object_bytes inode
      → work ≡ create_copy inode payload piece old → Fetched inode.vid inode.spec (entry_of inode piece) piece.index old
      → CreatesPiece Fetched inode payload piece work

-- so it is wherever a write waits for the creation, on the disk that its session has open
abbrev pub CreatesAreOf : OfFetched → Hosts → Type 0
CreatesAreOf Fetched hosts = EachUp hosts (λ n node. (req : ℕ) (work : Work) (request : Request) (opened : Disk) (payload : List ℕ)
    (piece : Piece) (rest : List Piece) → tree.get node.gateway.works req ≡ Some work → tree.get node.requests req ≡ Some request
    → (session_at request.session node).disk ≡ Some opened → request.course ≡ Driving (Writes payload Creating piece rest)
    → CreatesPiece Fetched opened.inode payload piece work.work)

abbrev pub CreatesAreOfPieces : Hosts → Type 0
CreatesAreOfPieces = CreatesAreOf anything
