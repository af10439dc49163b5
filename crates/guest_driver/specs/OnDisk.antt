-- What a call of a driver asks for: that the driver is on the disk, and when memory.
use Rattle.std.specs.Prelude.{◌<◌, Bool, true, false, List, [], ◌∷◌, All, is_some}
use Rattle.object_id.specs.declared.entry.VdiSpec.{VdiSpec}
use Rattle.object_id.specs.Spec.{objects_of}
use Rattle.inode.specs.Layout.{Content}
use Rattle.peer_proto.specs.declared.guest.DiskAsk.{DiskAsk}
use Rattle.peer_proto.specs.declared.guest.DiskAsk.TheVariants as asks
use Rattle.peer_proto.specs.declared.work.ObjWork.{ObjWork}
use Rattle.peer_proto.specs.declared.work.ObjWork.TheVariants.{Create, Write, Read, ReadAll}
use Rattle.guest_driver.specs.declared.act.DriverAct.{DriverAct}
use Rattle.guest_driver.specs.declared.act.DriverAct.TheVariants.{Work, Reply}
use Rattle.guest_driver.specs.declared.disk.Disk.{Disk}
use Rattle.guest_driver.specs.Pieces.{Piece, IsPiece}
use Rattle.guest_driver.specs.Refusals.{refusal_on}
use Rattle.guest_driver.specs.Driver.{Driver, Reads, Writes, Answered, begin_driver}

-- the pieces that a driver hasn't done yet
abbrev pub pieces_left : Driver → List Piece
pieces_left (Reads told piece rest) = piece ∷ rest
pieces_left (Writes payload stage piece rest) = piece ∷ rest
pieces_left Answered = []

-- a piece in one of the objects of a disk that was made so
pub record IsPieceOf (spec : VdiSpec) (piece : Piece) : Type 0 where
  pub object : piece.index < objects_of spec
  pub within : IsPiece spec.shift piece

-- a driver is on a disk: what it hasn't done yet is in the disk's objects
abbrev pub IsDriverOn : Content → Driver → Type 0
IsDriverOn inode driver = All (IsPieceOf inode.spec) (pieces_left driver)

-- a work takes memory for the bytes that it brings, and only for these
abbrev pub work_takes_memory : ObjWork → Bool
work_takes_memory (Create oid policy size offset bytes) = true
work_takes_memory (Write oid policy offset bytes) = true
work_takes_memory (Read oid policy offset size) = false
work_takes_memory (ReadAll oid policy size) = false

-- going on takes memory only for a work; a reply takes none
abbrev pub act_takes_memory : DriverAct → Bool
act_takes_memory (Work work) = work_takes_memory work
act_takes_memory (Reply reply) = false

-- to begin a read takes memory for all its bytes, to begin a write for its first work; a refusal takes none
abbrev pub beginning_takes_memory_by : Disk → DiskAsk → Bool → Bool
beginning_takes_memory_by disk ask true = false
beginning_takes_memory_by disk (asks.Read offset size) false = true
beginning_takes_memory_by disk (asks.Write offset payload) false = act_takes_memory (begin_driver disk (asks.Write offset payload)).act

abbrev pub beginning_takes_memory : Disk → DiskAsk → Bool
beginning_takes_memory disk ask = beginning_takes_memory_by disk ask (is_some (refusal_on disk false ask))
