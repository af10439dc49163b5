-- The table of a disk that a session has open, against the writes of the session: the objects that a write has behind it are the disk's
-- own.
use Rattle.std.specs.Prelude.{◌≡◌, ℕ, ◌<◌, List, ◌∷◌, ◌++◌, length, slice_index, Contains, Some}
use Rattle.std.specs.FinMap as tree
use Rattle.object_id.specs.Spec.{objects_of}
use Rattle.inode.specs.Layout.{Content}
use Rattle.guest_driver.specs.declared.disk.Disk.{Disk}
use Rattle.guest_driver.specs.Driver.{DriverStage, Writes}
use Rattle.guest_driver.specs.Pieces.{Piece, pieces}
use Rattle.sheep_node.specs.declared.course.Course.TheVariants.{Driving}
use Rattle.sheep_node.specs.declared.course.Request.{Request}
use Rattle.sheep_node.specs.State.{session_at}
use Rattle.overlap_law.specs.Each.{EachUp}
use Rattle.overlap_law.specs.Words.{Hosts}

-- the table says of an object of the disk that it is the disk's own
abbrev pub IsOwnByTable : Content → ℕ → Type 0
IsOwnByTable inode index = index < objects_of inode.spec → slice_index inode.table index ≡ inode.vid

-- it says so of the object of each piece that a write has behind it
pub record HasOwnBehind (inode : Content) (payload : List ℕ) (piece : Piece) (rest : List Piece) : Type 0 where
  pub offset : ℕ
  pub before : List Piece
  pub cut : pieces inode.spec.shift offset (length payload) ≡ before ++ piece ∷ rest
  pub each : (one : Piece) → Contains before one → IsOwnByTable inode one.index

-- each write of a node that isn't lost is so, on the disk that its session has open
pub record OwnObjectsAreBehind (hosts : Hosts) : Type 0 where
  pub each : EachUp hosts (λ n node. (req : ℕ) (request : Request) (opened : Disk) (payload : List ℕ) (stage : DriverStage)
      (piece : Piece) (rest : List Piece) → tree.get node.requests req ≡ Some request → (session_at request.session node).disk ≡ Some opened
      → request.course ≡ Driving (Writes payload stage piece rest) → HasOwnBehind opened.inode payload piece rest)
