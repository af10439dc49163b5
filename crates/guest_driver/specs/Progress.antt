-- Where a request is, as the code of its driver keeps it.
use Rattle.std.specs.Prelude.{◌≡◌, ℕ, ◌+◌, ◌-◌, List, [], length, take, drop, Option, Some, None}
use Rattle.object_id.specs.Fields.{zeros}
use Rattle.inode.specs.Layout.{Content}
use Rattle.guest_driver.specs.declared.progress.Progress.{Progress}
use Rattle.guest_driver.specs.declared.progress.Progress.TheVariants.{Reading, Writing, Answered as HasAnswered}
use Rattle.guest_driver.specs.declared.progress.Stage.{Stage}
use Rattle.guest_driver.specs.declared.progress.Stage.TheVariants as stages
use Rattle.guest_driver.specs.declared.extent.Extent.{Extent}
use Rattle.guest_driver.specs.Pieces.{Piece}
use Rattle.guest_driver.specs.PieceWorks.{backing_of}
use Rattle.guest_driver.specs.Driver.{DriverStage, InPlace, Fetching, Creating, Entering, Driver, Reads, Writes, Answered}
use Rattle.guest_driver.specs.Driver.{DriverStep, write_piece_on}
use Rattle.guest_driver.specs.Extent.{Touches, piece_at_index, pieces_from}

abbrev pub driver_stage : Stage → DriverStage
driver_stage stages.InPlace = InPlace
driver_stage stages.Fetching = Fetching
driver_stage stages.Creating = Creating
driver_stage stages.Entering = Entering

-- a driver at a piece: told are all bytes of a read, of which those before the piece count
abbrev pub driver_at : Progress → List ℕ → List ℕ → Piece → List Piece → Driver
driver_at Reading told payload piece rest = Reads (take piece.place told) piece rest
driver_at (Writing stage) told payload piece rest = Writes payload (driver_stage stage) piece rest
driver_at HasAnswered told payload piece rest = Answered

-- the bytes of a read, zeros from a place on
pub record IsToldUpTo (size : ℕ) (told : List ℕ) (place : ℕ) : Type 0 where
  pub whole : length told ≡ size
  pub untold : drop place told ≡ zeros (size - place)

-- what holds of every driver: it is at an object that its request touches, and has all bytes of it
abbrev pub IsProgress : Progress → Extent → ℕ → List ℕ → List ℕ → Type 0
IsProgress Reading extent index told payload = Touches extent index × IsToldUpTo extent.size told (piece_at_index extent index).place
IsProgress (Writing stage) extent index told payload = Touches extent index × (length payload ≡ extent.size)
IsProgress HasAnswered extent index told payload = Unit {0}

-- a driver reads, or writes
abbrev pub IsReading : Driver → Type 0
IsReading (Reads told piece rest) = Unit {0}
IsReading (Writes payload stage piece rest) = ⊥
IsReading Answered = ⊥

abbrev pub IsWriting : Driver → Type 0
IsWriting (Reads told piece rest) = ⊥
IsWriting (Writes payload stage piece rest) = Unit {0}
IsWriting Answered = ⊥

-- which work a write waits for
abbrev pub stage_of : Driver → Option DriverStage
stage_of (Reads told piece rest) = None
stage_of (Writes payload stage piece rest) = Some stage
stage_of Answered = None

-- its bytes, and the pieces behind the one at work
abbrev pub payload_in_write : Driver → List ℕ
payload_in_write (Reads told piece rest) = []
payload_in_write (Writes payload stage piece rest) = payload
payload_in_write Answered = []

abbrev pub rest_of : Driver → List Piece
rest_of (Reads told piece rest) = rest
rest_of (Writes payload stage piece rest) = rest
rest_of Answered = []

-- a write's step to the piece in an object, by what stands behind it
abbrev pub piece_step : Content → List ℕ → Extent → ℕ → DriverStep
piece_step inode payload extent index =
    write_piece_on inode payload (piece_at_index extent index) (pieces_from extent (index + 1))
    (backing_of inode (piece_at_index extent index))

-- a write that waits for a work on that piece
abbrev pub writes_at : List ℕ → Extent → ℕ → DriverStage → Driver
writes_at payload extent index stage = Writes payload stage (piece_at_index extent index) (pieces_from extent (index + 1))
