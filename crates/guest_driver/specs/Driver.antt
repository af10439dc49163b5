-- A driver: where a read or write is, and its steps, from the request to the reply, one work after another.
use Rattle.std.specs.Prelude.{ℕ, ◌==◌, false, List, [], ◌∷◌, ◌++◌, length, Option, Some, None, if◌then◌else◌}
use Rattle.object_id.specs.declared.cause.Cause.{Cause}
use Rattle.object_id.specs.Fields.{zeros}
use Rattle.inode.specs.Layout.{Content}
use Rattle.peer_proto.specs.declared.guest.DiskAsk.{DiskAsk}
use Rattle.peer_proto.specs.declared.guest.DiskAsk.TheVariants as asks
use Rattle.peer_proto.specs.declared.guest.GuestRsp.{GuestRsp}
use Rattle.peer_proto.specs.declared.guest.GuestRsp.TheVariants.{Done, Piece as Told, Refused}
use Rattle.peer_proto.specs.declared.work.ObjWork.{ObjWork}
use Rattle.guest_driver.specs.declared.act.DriverAct.{DriverAct}
use Rattle.guest_driver.specs.declared.act.DriverAct.TheVariants.{Work, Reply}
use Rattle.guest_driver.specs.declared.disk.Disk.{Disk}
use Rattle.guest_driver.specs.Pieces.{Piece, pieces}
use Rattle.guest_driver.specs.PieceWorks.{Backing, Hole, Own, Inherited, entry_of, backing_of, object_bytes, read_piece, write_piece}
use Rattle.guest_driver.specs.PieceWorks.{create_piece, read_object, create_copy, write_entry, table_with_entry}
use Rattle.guest_driver.specs.Refusals.{refusal_on}

-- which work a piece of a write waits for
pub data DriverStage : Type 0 where
  -- the disk's own object is written
  InPlace : DriverStage
  -- another disk's object is read whole
  Fetching : DriverStage
  -- the disk's own object is created
  Creating : DriverStage
  -- its entry in the inode is written
  Entering : DriverStage

-- where a request is
pub data Driver : Type 0 where
  -- a read: the bytes so far, the piece that is being read, and the pieces behind it
  Reads : List ℕ → Piece → List Piece → Driver
  -- a write: its bytes, the work that is being done, on which piece, and the pieces behind it
  Writes : List ℕ → DriverStage → Piece → List Piece → Driver
  -- the request has its reply
  Answered : Driver

-- what a step leads to: where the request is then, what is to be done, and the inode that the session has open
pub record DriverStep : Type 0 where
  pub driver : Driver
  pub act : DriverAct
  pub inode : Content

-- a work begins, and the driver waits for it
abbrev pub work_step : Content → Driver → ObjWork → DriverStep
work_step inode driver work = record { driver = driver; act = Work work; inode = inode }

-- the request ends with a reply
abbrev pub reply_step : Content → GuestRsp → DriverStep
reply_step inode reply = record { driver = Answered; act = Reply reply; inode = inode }

-- a read goes on: a hole gives zeros at once, the first other piece is read, and behind the last one all bytes are told
unfoldable pub read_on : Content → List ℕ → List Piece → DriverStep
read_on inode told [] = reply_step inode (Told told)
read_on inode told (piece ∷ rest) =
    if entry_of inode piece == 0
    then read_on inode (told ++ zeros piece.size) rest
    else work_step inode (Reads told piece rest) (read_piece inode piece (entry_of inode piece))

-- a piece of a write: a hole's object is created, the own one is written in place, another disk's is read first
abbrev pub write_piece_on : Content → List ℕ → Piece → List Piece → Backing → DriverStep
write_piece_on inode payload piece rest Hole = work_step inode (Writes payload Creating piece rest) (create_piece inode payload piece)
write_piece_on inode payload piece rest Own = work_step inode (Writes payload InPlace piece rest) (write_piece inode payload piece)
write_piece_on inode payload piece rest (Inherited vid) =
    work_step inode (Writes payload Fetching piece rest) (read_object inode piece vid)

-- a write goes on with its next piece, and behind the last one it is done
abbrev pub write_on : Content → List ℕ → List Piece → DriverStep
write_on inode payload [] = reply_step inode Done
write_on inode payload (piece ∷ rest) = write_piece_on inode payload piece rest (backing_of inode piece)

-- a request that isn't refused begins with its first piece
abbrev pub begin_unless_refused : Content → DiskAsk → Option Cause → DriverStep
begin_unless_refused inode ask (Some cause) = reply_step inode (Refused cause)
begin_unless_refused inode (asks.Read offset size) None = read_on inode [] (pieces inode.spec.shift offset size)
begin_unless_refused inode (asks.Write offset payload) None = write_on inode payload (pieces inode.spec.shift offset (length payload))

-- a request begins on the open disk; what the log says of a snapshot was looked at before
unfoldable pub begin_driver : Disk → DiskAsk → DriverStep
begin_driver disk ask = begin_unless_refused disk.inode ask (refusal_on disk false ask)

-- a write's work is done: what was read whole is created as the disk's own object; what was created gets its entry; and
-- only with the entry written does the session's table change
abbrev pub write_done : Content → List ℕ → List ℕ → Piece → List Piece → DriverStage → DriverStep
write_done inode bytes payload piece rest InPlace = write_on inode payload rest
write_done inode bytes payload piece rest Fetching =
    work_step inode (Writes payload Creating piece rest) (create_copy inode payload piece bytes)
write_done inode bytes payload piece rest Creating = work_step inode (Writes payload Entering piece rest) (write_entry inode piece)
write_done inode bytes payload piece rest Entering = write_on (table_with_entry inode piece) payload rest

-- the work that a driver waits for is done, and gave these bytes; none where it waits for nothing
unfoldable pub driver_on_done : Content → List ℕ → Driver → Option DriverStep
driver_on_done inode bytes (Reads told piece rest) = Some (read_on inode (told ++ bytes) rest)
driver_on_done inode bytes (Writes payload stage piece rest) = Some (write_done inode bytes payload piece rest stage)
driver_on_done inode bytes Answered = None

-- how many bytes a write's work gives
abbrev pub driver_stage_bytes : Content → DriverStage → ℕ
driver_stage_bytes inode InPlace = 0
driver_stage_bytes inode Fetching = object_bytes inode
driver_stage_bytes inode Creating = 0
driver_stage_bytes inode Entering = 0

-- how many bytes the work gives that a driver waits for; none where it waits for nothing
abbrev pub driver_bytes_wanted : Content → Driver → Option ℕ
driver_bytes_wanted inode (Reads told piece rest) = Some piece.size
driver_bytes_wanted inode (Writes payload stage piece rest) = Some (driver_stage_bytes inode stage)
driver_bytes_wanted inode Answered = None
