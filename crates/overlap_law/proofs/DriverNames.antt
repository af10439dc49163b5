-- A read or write leaves the name of its disk's inode, and begins without a change of it.
use Rattle.std.proofs.Common.{◌≡◌, ℕ, ◌==◌, Bool, true, false, cond, List, [], ◌∷◌, ◌++◌, length, Option, Some, None, refl, ap, subst}
use Rattle.std.proofs.lemmas.Option.{same_Some}
use Rattle.object_id.specs.declared.cause.Cause.{Cause}
use Rattle.object_id.specs.Fields.{zeros}
use Rattle.inode.specs.Layout.{Content}
use Rattle.peer_proto.specs.declared.guest.DiskAsk.{DiskAsk}
use Rattle.peer_proto.specs.declared.guest.DiskAsk.TheVariants as asks
use Rattle.guest_driver.specs.declared.disk.Disk.{Disk}
use Rattle.guest_driver.specs.Pieces.{Piece, pieces}
use Rattle.guest_driver.specs.PieceWorks.{Backing, Hole, Own, Inherited, entry_of, backing_of, read_piece, table_with_entry}
use Rattle.guest_driver.specs.Refusals.{refusal_on}
use Rattle.guest_driver.specs.Driver as drivers
use Rattle.guest_driver.specs.Driver.{DriverStage, InPlace, Fetching, Creating, Entering, Driver, Reads, Writes, DriverStep, work_step}
use Rattle.guest_driver.specs.Driver.{read_on, write_piece_on, write_on, begin_unless_refused, begin_driver, write_done, driver_on_done}

-- a step leaves the inode
abbrev pub InodeStays : Content → DriverStep → Type 0
InodeStays inode step = step.inode ≡ inode

abbrev NameStays : Content → DriverStep → Type 0
NameStays inode step = step.inode.name ≡ inode.name

module _ (inode : Content) where
  pub read_stays : (told : List ℕ) (rest : List Piece) → InodeStays inode (read_on inode told rest)
  unfolding read_on
  read_stays told [] = refl
  read_stays told (piece ∷ rest) = by_hole (entry_of inode piece == 0) (read_stays (told ++ zeros piece.size) rest)
    where
      by_hole : (b : Bool) → InodeStays inode (read_on inode (told ++ zeros piece.size) rest)
          → InodeStays inode (cond b (read_on inode (told ++ zeros piece.size) rest)
          (work_step inode (Reads told piece rest) (read_piece inode piece (entry_of inode piece))))
      by_hole true later = later
      by_hole false later = refl

  piece_stays : (payload : List ℕ) (piece : Piece) (rest : List Piece) (backing : Backing)
      → InodeStays inode (write_piece_on inode payload piece rest backing)
  piece_stays payload piece rest Hole = refl
  piece_stays payload piece rest Own = refl
  piece_stays payload piece rest (Inherited vid) = refl

  pub write_stays : (payload : List ℕ) (rest : List Piece) → InodeStays inode (write_on inode payload rest)
  write_stays payload [] = refl
  write_stays payload (piece ∷ rest) = piece_stays payload piece rest (backing_of inode piece)

  begun_stays : (ask : DiskAsk) (cause : Option Cause) → InodeStays inode (begin_unless_refused inode ask cause)
  begun_stays ask (Some cause) = refl
  begun_stays (asks.Read offset size) None = read_stays [] (pieces inode.spec.shift offset size)
  begun_stays (asks.Write offset payload) None = write_stays payload (pieces inode.spec.shift offset (length payload))

-- so does its beginning
pub driver_begins-stays : (disk : Disk) (ask : DiskAsk) → InodeStays disk.inode (begin_driver disk ask)
unfolding begin_driver
driver_begins-stays disk ask = begun_stays disk.inode ask (refusal_on disk false ask)

pub driver_begins-named : (disk : Disk) (ask : DiskAsk) → (begin_driver disk ask).inode.name ≡ disk.inode.name
driver_begins-named disk ask = ap (λ (inode : Content). inode.name) (driver_begins-stays disk ask)

done_named : (inode : Content) (bytes payload : List ℕ) (piece : Piece) (rest : List Piece) (stage : DriverStage)
    → NameStays inode (write_done inode bytes payload piece rest stage)
done_named inode bytes payload piece rest InPlace = ap (λ (c : Content). c.name) (write_stays inode payload rest)
done_named inode bytes payload piece rest Fetching = refl
done_named inode bytes payload piece rest Creating = refl
done_named inode bytes payload piece rest Entering =
    ap (λ (c : Content). c.name) (write_stays (table_with_entry inode piece) payload rest)

pub driver_goes_on-named : (inode : Content) (bytes : List ℕ) (driver : Driver) (step : DriverStep)
    → driver_on_done inode bytes driver ≡ Some step → step.inode.name ≡ inode.name
unfolding driver_on_done
driver_goes_on-named inode bytes (Reads told piece rest) step next =
    subst (NameStays inode) (same_Some (read_on inode (told ++ bytes) rest) step next)
    (ap (λ (c : Content). c.name) (read_stays inode (told ++ bytes) rest))
driver_goes_on-named inode bytes (Writes payload stage piece rest) step next =
    subst (NameStays inode) (same_Some (write_done inode bytes payload piece rest stage) step next)
    (done_named inode bytes payload piece rest stage)
driver_goes_on-named inode bytes drivers.Answered step next = absurd (cc (next))
