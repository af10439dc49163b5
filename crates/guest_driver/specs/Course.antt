-- The course of a request: what a driver's last act was, what becomes of the session's table, and all acts in their order.
use Rattle.std.specs.Prelude.{◌≡◌, ℕ, ◌==◌, not, Bool, List, [], ◌∷◌, Option, Some, None, if◌then◌else◌}
use Rattle.object_id.specs.Oid.{object_number}
use Rattle.object_id.specs.Fields.{zeros}
use Rattle.inode.specs.Layout.{Content}
use Rattle.peer_proto.specs.declared.guest.GuestRsp.{GuestRsp}
use Rattle.peer_proto.specs.declared.work.ObjWork.TheVariants.{Create}
use Rattle.guest_driver.specs.declared.act.DriverAct.{DriverAct}
use Rattle.guest_driver.specs.declared.act.DriverAct.TheVariants.{Work, Reply}
use Rattle.guest_driver.specs.Pieces.{Piece}
use Rattle.guest_driver.specs.PieceWorks.{Backing, Hole, Own, Inherited, entry_of, backing_of, object_bytes, read_piece, write_piece}
use Rattle.guest_driver.specs.PieceWorks.{create_piece, read_object, create_copy, write_entry, table_with_entry}
use Rattle.guest_driver.specs.Driver.{DriverStage, InPlace, Fetching, Creating, Entering, Driver, Reads, Writes, Answered, DriverStep}
use Rattle.guest_driver.specs.Driver.{driver_on_done}

-- the disk's own object of a piece is created, with some bytes in it
abbrev pub Creates : Content → Piece → DriverAct → Type 0
Creates inode piece act = (offset : ℕ) × (bytes : List ℕ)
    × (act ≡ Work (Create (object_number inode.vid piece.index) inode.spec.policy (object_bytes inode) offset bytes))

-- the act is a reply
abbrev pub IsReplyAct : DriverAct → Type 0
IsReplyAct act = (reply : GuestRsp) × (act ≡ Reply reply)

-- the act is the work that a write waits for
abbrev pub IsAwaitedAtDriverStage : Content → List ℕ → Piece → DriverAct → DriverStage → Type 0
IsAwaitedAtDriverStage inode payload piece act InPlace = act ≡ Work (write_piece inode payload piece)
IsAwaitedAtDriverStage inode payload piece act Fetching = act ≡ Work (read_object inode piece (entry_of inode piece))
IsAwaitedAtDriverStage inode payload piece act Creating = Creates inode piece act
IsAwaitedAtDriverStage inode payload piece act Entering = act ≡ Work (write_entry inode piece)

-- the act is the work that the driver waits for, or the reply of a request that waits for none
abbrev pub IsAwaitedByDriver : Content → Driver → DriverAct → Type 0
IsAwaitedByDriver inode (Reads told piece rest) act = act ≡ Work (read_piece inode piece (entry_of inode piece))
IsAwaitedByDriver inode (Writes payload stage piece rest) act = IsAwaitedAtDriverStage inode payload piece act stage
IsAwaitedByDriver inode Answered act = IsReplyAct act

-- an entry is written only after the creation of its object
abbrev pub EntersAfter : Driver → List ℕ → Piece → List Piece → DriverStage → Type 0
EntersAfter before payload piece rest InPlace = Unit {0}
EntersAfter before payload piece rest Fetching = Unit {0}
EntersAfter before payload piece rest Creating = Unit {0}
EntersAfter before payload piece rest Entering = before ≡ Writes payload Creating piece rest

-- a driver writes an entry only after the creation of its object
abbrev pub EntersWhatIsMade : Driver → Driver → Type 0
EntersWhatIsMade before (Reads told piece rest) = Unit {0}
EntersWhatIsMade before (Writes payload stage piece rest) = EntersAfter before payload piece rest stage
EntersWhatIsMade before Answered = Unit {0}

-- the session's inode once a work is done: its table changes when an entry was written, and only then
abbrev pub inode_at : Content → Piece → DriverStage → Content
inode_at inode piece InPlace = inode
inode_at inode piece Fetching = inode
inode_at inode piece Creating = inode
inode_at inode piece Entering = table_with_entry inode piece

-- the session's inode once the work of its driver is done
abbrev pub inode_after : Content → Driver → Content
inode_after inode (Reads told piece rest) = inode
inode_after inode (Writes payload stage piece rest) = inode_at inode piece stage
inode_after inode Answered = inode

-- a step of a driver: its act is what is waited for, what it enters was made, and this is the inode that it leaves
pub record Goes (before : Driver) (inode : Content) (step : DriverStep) : Type 0 where
  pub told : IsAwaitedByDriver step.inode step.driver step.act
  pub made : EntersWhatIsMade before step.driver
  pub table : step.inode ≡ inode

-- the acts of a request from a step on, where its works give these bytes, one after the other
unfoldable pub driver_acts_from : Option DriverStep → List (List ℕ) → List DriverAct
driver_acts_from None answers = []
driver_acts_from (Some step) [] = step.act ∷ []
driver_acts_from (Some step) (bytes ∷ later) = step.act ∷ driver_acts_from (driver_on_done step.inode bytes step.driver) later

-- whether there is an object behind a piece
abbrev pub has_object : Content → Piece → Bool
has_object inode piece = not (entry_of inode piece == 0)

-- the act that reads it
abbrev pub read_act : Content → Piece → DriverAct
read_act inode piece = Work (read_piece inode piece (entry_of inode piece))

-- what a read is told of a piece: zeros of a hole, else what its work gave
abbrev pub told_of : Content → (Piece → List ℕ) → Piece → List ℕ
told_of inode given piece = if entry_of inode piece == 0 then zeros piece.size else given piece

-- the acts that write a piece, by what stands behind it: a hole is created, then entered; the disk's own object is written;
-- another disk's is read, created with the piece laid over it, then entered
abbrev pub write_acts_by : Content → List ℕ → Piece → List ℕ → Backing → List DriverAct
write_acts_by inode payload piece old Hole = Work (create_piece inode payload piece) ∷ Work (write_entry inode piece) ∷ []
write_acts_by inode payload piece old Own = Work (write_piece inode payload piece) ∷ []
write_acts_by inode payload piece old (Inherited vid) =
    Work (read_object inode piece vid) ∷ Work (create_copy inode payload piece old) ∷ Work (write_entry inode piece) ∷ []

-- what these works give; old is another disk's object
abbrev pub answers_by : List ℕ → Backing → List (List ℕ)
answers_by old Hole = [] ∷ [] ∷ []
answers_by old Own = [] ∷ []
answers_by old (Inherited vid) = old ∷ [] ∷ [] ∷ []

-- the acts that write a piece
abbrev pub write_acts : Content → List ℕ → (Piece → List ℕ) → Piece → List DriverAct
write_acts inode payload given piece = write_acts_by inode payload piece (given piece) (backing_of inode piece)

-- what its works give
abbrev pub answers : Content → (Piece → List ℕ) → Piece → List (List ℕ)
answers inode given piece = answers_by (given piece) (backing_of inode piece)
