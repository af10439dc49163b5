-- What the steps of a driver have in common: its act is what it waits for, entries come after objects, the table stays.
use Rattle.std.proofs.Common.{◌≡◌, ℕ, ◌==◌, ◌++◌, Bool, true, false, List, [], ◌∷◌, length, Option, Some, None, cond, refl, is_some, IfSome}
use Rattle.object_id.specs.declared.cause.Cause.{Cause}
use Rattle.object_id.specs.Piece.{laid_over}
use Rattle.object_id.specs.Fields.{zeros}
use Rattle.inode.specs.Layout.{Content}
use Rattle.peer_proto.specs.declared.guest.DiskAsk.{DiskAsk}
use Rattle.peer_proto.specs.declared.guest.DiskAsk.TheVariants as asks
use Rattle.peer_proto.specs.declared.guest.GuestRsp.TheVariants.{Done, Piece as Told, Refused}
use Rattle.guest_driver.specs.declared.disk.Disk.{Disk}
use Rattle.guest_driver.specs.Pieces.{Piece, pieces, piece_bytes}
use Rattle.guest_driver.specs.PieceWorks.{Hole, Own, Inherited, entry_of, read_piece, table_with_entry}
use Rattle.guest_driver.specs.Refusals.{refusal_on}
use Rattle.guest_driver.specs.Driver.{InPlace, Fetching, Creating, Entering, Driver, Reads, Writes, Answered, DriverStep, work_step, read_on, write_piece_on, write_on, begin_unless_refused, begin_driver, driver_on_done, driver_bytes_wanted}
use Rattle.guest_driver.specs.Course.{Goes, inode_after}

chosen : (before : Driver) (inode : Content) (b : Bool) (x y : DriverStep) → Goes before inode x → Goes before inode y
    → Goes before inode (cond b x y)
chosen before inode true x y here there = here
chosen before inode false x y here there = there

pub read_goes : (before : Driver) (inode : Content) (told : List ℕ) (rest : List Piece) → Goes before inode (read_on inode told rest)
unfolding read_on
read_goes before inode told [] = record { told = (Told told, refl); made = tt; table = refl }
read_goes before inode told (piece ∷ rest) =
    chosen before inode (entry_of inode piece == 0)
    (read_on inode (told ++ zeros piece.size) rest)
    (work_step inode (Reads told piece rest) (read_piece inode piece (entry_of inode piece)))
    (read_goes before inode (told ++ zeros piece.size) rest)
    (record { told = refl; made = tt; table = refl })

-- by whether the entry is a hole, and whether it is the disk's own
piece_goes : (before : Driver) (inode : Content) (payload : List ℕ) (piece : Piece) (rest : List Piece) (hole own : Bool)
    → Goes before inode (write_piece_on inode payload piece rest (cond hole Hole (cond own Own (Inherited (entry_of inode piece)))))
piece_goes before inode payload piece rest true own =
    record { told = (piece.offset, piece_bytes payload piece, refl); made = tt; table = refl }
piece_goes before inode payload piece rest false true = record { told = refl; made = tt; table = refl }
piece_goes before inode payload piece rest false false = record { told = refl; made = tt; table = refl }

pub write_goes : (before : Driver) (inode : Content) (payload : List ℕ) (rest : List Piece) → Goes before inode (write_on inode payload rest)
write_goes before inode payload [] = record { told = (Done, refl); made = tt; table = refl }
write_goes before inode payload (piece ∷ rest) =
    piece_goes before inode payload piece rest (entry_of inode piece == 0) (entry_of inode piece == inode.vid)

begun_goes : (before : Driver) (inode : Content) (ask : DiskAsk) (cause : Option Cause) → Goes before inode (begin_unless_refused inode ask cause)
begun_goes before inode ask (Some cause) = record { told = (Refused cause, refl); made = tt; table = refl }
begun_goes before inode (asks.Read offset size) None = read_goes before inode [] (pieces inode.spec.shift offset size)
begun_goes before inode (asks.Write offset payload) None =
    write_goes before inode payload (pieces inode.spec.shift offset (length payload))

pub begin_goes : (before : Driver) (disk : Disk) (ask : DiskAsk) → Goes before disk.inode (begin_driver disk ask)
unfolding begin_driver
begin_goes before disk ask = begun_goes before disk.inode ask (refusal_on disk false ask)

pub done_goes : (inode : Content) (bytes : List ℕ) (driver : Driver)
    → IfSome (driver_on_done inode bytes driver) (λ step. Goes driver (inode_after inode driver) step)
unfolding driver_on_done
done_goes inode bytes (Reads told piece rest) = read_goes (Reads told piece rest) inode (told ++ bytes) rest
done_goes inode bytes (Writes payload InPlace piece rest) = write_goes (Writes payload InPlace piece rest) inode payload rest
done_goes inode bytes (Writes payload Fetching piece rest) =
    record { told = (0, laid_over bytes piece.offset (piece_bytes payload piece), refl); made = tt; table = refl }
done_goes inode bytes (Writes payload Creating piece rest) = record { told = refl; made = refl; table = refl }
done_goes inode bytes (Writes payload Entering piece rest) =
    write_goes (Writes payload Entering piece rest) (table_with_entry inode piece) payload rest
done_goes inode bytes Answered = tt

pub waits : (inode : Content) (bytes : List ℕ) (driver : Driver)
    → is_some (driver_on_done inode bytes driver) ≡ is_some (driver_bytes_wanted inode driver)
unfolding driver_on_done
waits inode bytes (Reads told piece rest) = refl
waits inode bytes (Writes payload stage piece rest) = refl
waits inode bytes Answered = refl
