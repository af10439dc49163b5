-- The work that a driver, a command or a check comes to is the one that it then waits for.
use Rattle.std.proofs.Common.{◌≡◌, ℕ, ◌+◌, ◌*◌, ◌^◌, length, ◌==◌, Bool, true, false, cond, List, [], ◌∷◌, ◌++◌, Option, Some, None, refl, sym, ap, subst, ◌∙◌}
use Rattle.std.proofs.lemmas.Option.{same_Some}
use Rattle.object_id.specs.Fields.{zeros}
use Rattle.object_id.specs.declared.cause.Cause.{Cause}
use Rattle.inode.specs.Layout.{Content}
use Rattle.peer_proto.specs.declared.guest.DiskAsk.{DiskAsk}
use Rattle.peer_proto.specs.declared.guest.DiskAsk.TheVariants as asks
use Rattle.peer_proto.specs.declared.work.ObjWork.{ObjWork}
use Rattle.peer_proto.specs.declared.work.ObjWork.TheVariants.{Create, Write, Read}
use Rattle.object_id.specs.Oid.{inode_number, object_number}
use Rattle.object_id.specs.Fields.{u32_bytes}
use Rattle.inode.specs.declared.layout.TheConstants.{INODE_HEADER_BYTES}
use Rattle.guest_driver.specs.declared.disk.Disk.{Disk}
use Rattle.guest_driver.specs.declared.act.DriverAct.{DriverAct}
use Rattle.guest_driver.specs.declared.act.DriverAct.TheVariants as driver_acts
use Rattle.object_id.specs.Piece.{laid_over}
use Rattle.guest_driver.specs.Pieces.{Piece, pieces, piece_bytes}
use Rattle.guest_driver.specs.PieceWorks.{Backing, Hole, Own, Inherited, entry_of, backing_of, read_piece, table_with_entry}
use Rattle.guest_driver.specs.Refusals.{refusal_on}
use Rattle.guest_driver.specs.Driver as drivers
use Rattle.guest_driver.specs.Driver.{DriverStage, InPlace, Fetching, Creating, Entering, Driver, Reads, Writes, DriverStep, work_step, read_on, write_piece_on, write_on, begin_unless_refused, begin_driver, write_done, driver_on_done}
use Rattle.disk_check.specs.declared.act.CheckAct.{CheckAct}
use Rattle.disk_check.specs.declared.act.CheckAct.TheVariants as check_acts
use Rattle.disk_check.specs.Table.{own_indexes}
use Rattle.disk_check.specs.Value.{pieces_in, value_of}
use Rattle.disk_check.specs.Check as checks
use Rattle.disk_check.specs.Check.{Check, CheckStage, CheckStep, Comparing, WritingBack, check_on, begun_check, begin_check, check_done_at, check_on_done}
use Rattle.sheep_node.specs.WantedWorks.{IsWorkOfDriver, IsWorkOfCheck}

-- ---- a read or write

-- an act is a reply, or the work that is waited for
abbrev pub IsDriverActWanted : Content → Driver → DriverAct → Type 0
IsDriverActWanted inode driver (driver_acts.Work work) = IsWorkOfDriver inode driver work
IsDriverActWanted inode driver (driver_acts.Reply reply) = Unit {0}

-- and the step leaves the disk the same, but for its table
pub record IsWantedStep (inode : Content) (step : DriverStep) : Type 0 where
  pub act : IsDriverActWanted step.inode step.driver step.act
  pub spec : step.inode.spec ≡ inode.spec
  pub vid : step.inode.vid ≡ inode.vid

module _ (inode : Content) where
  read_wanted : (told : List ℕ) (rest : List Piece) → IsWantedStep inode (read_on inode told rest)
  unfolding read_on
  read_wanted told [] = record { act = tt; spec = refl; vid = refl }
  read_wanted told (piece ∷ rest) = by_hole (entry_of inode piece == 0) (read_wanted (told ++ zeros piece.size) rest)
    where
      by_hole : (b : Bool) → IsWantedStep inode (read_on inode (told ++ zeros piece.size) rest)
          → IsWantedStep inode (cond b (read_on inode (told ++ zeros piece.size) rest)
          (work_step inode (Reads told piece rest) (read_piece inode piece (entry_of inode piece))))
      by_hole true later = later
      by_hole false later = record { act = (entry_of inode piece, refl); spec = refl; vid = refl }

  piece_wanted : (payload : List ℕ) (piece : Piece) (rest : List Piece) (backing : Backing)
      → IsWantedStep inode (write_piece_on inode payload piece rest backing)
  piece_wanted payload piece rest Hole = record { act = (piece.offset, piece_bytes payload piece, refl); spec = refl; vid = refl }
  piece_wanted payload piece rest Own = record { act = refl; spec = refl; vid = refl }
  piece_wanted payload piece rest (Inherited vid) = record { act = (vid, refl); spec = refl; vid = refl }

  write_wanted : (payload : List ℕ) (rest : List Piece) → IsWantedStep inode (write_on inode payload rest)
  write_wanted payload [] = record { act = tt; spec = refl; vid = refl }
  write_wanted payload (piece ∷ rest) = piece_wanted payload piece rest (backing_of inode piece)

  begun_wanted : (ask : DiskAsk) (cause : Option Cause) → IsWantedStep inode (begin_unless_refused inode ask cause)
  begun_wanted ask (Some cause) = record { act = tt; spec = refl; vid = refl }
  begun_wanted (asks.Read offset size) None = read_wanted [] (pieces inode.spec.shift offset size)
  begun_wanted (asks.Write offset payload) None = write_wanted payload (pieces inode.spec.shift offset (length payload))

pub driver_begins-wanted : (disk : Disk) (ask : DiskAsk) → IsWantedStep disk.inode (begin_driver disk ask)
unfolding begin_driver
driver_begins-wanted disk ask = begun_wanted disk.inode ask (refusal_on disk false ask)

write_done-wanted : (inode : Content) (bytes payload : List ℕ) (piece : Piece) (rest : List Piece) (stage : DriverStage)
    → IsWantedStep inode (write_done inode bytes payload piece rest stage)
write_done-wanted inode bytes payload piece rest InPlace = write_wanted inode payload rest
write_done-wanted inode bytes payload piece rest Fetching =
    record { act = (0, laid_over bytes piece.offset (piece_bytes payload piece), refl); spec = refl; vid = refl }
write_done-wanted inode bytes payload piece rest Creating = record { act = refl; spec = refl; vid = refl }
write_done-wanted inode bytes payload piece rest Entering =
    let later = write_wanted (table_with_entry inode piece) payload rest in
    record { act = later.act; spec = later.spec; vid = later.vid }

pub driver_goes_on-wanted : (inode : Content) (bytes : List ℕ) (driver : Driver) (step : DriverStep)
    → driver_on_done inode bytes driver ≡ Some step → IsWantedStep inode step
unfolding driver_on_done
driver_goes_on-wanted inode bytes (Reads told piece rest) step next =
    subst (IsWantedStep inode) (same_Some (read_on inode (told ++ bytes) rest) step next) (read_wanted inode (told ++ bytes) rest)
driver_goes_on-wanted inode bytes (Writes payload stage piece rest) step next =
    subst (IsWantedStep inode) (same_Some (write_done inode bytes payload piece rest stage) step next)
    (write_done-wanted inode bytes payload piece rest stage)
driver_goes_on-wanted inode bytes drivers.Answered step next = absurd (cc (next))

-- a work is that of a read or write also once the disk's table has changed
pub work_of_driver-alike : (inode after : Content) (driver : Driver) (work : ObjWork) → after.spec ≡ inode.spec → after.vid ≡ inode.vid
    → IsWorkOfDriver inode driver work → IsWorkOfDriver after driver work
work_of_driver-alike inode after (Reads told piece rest) work spec same (vid, is) =
    (vid, is ∙ sym (ap (λ s. Read (object_number vid piece.index) s.policy piece.offset piece.size) spec))
work_of_driver-alike inode after (Writes payload InPlace piece rest) work spec same is =
    is ∙ sym (λ i. Write (object_number (same i) piece.index) (spec i).policy piece.offset (piece_bytes payload piece))
work_of_driver-alike inode after (Writes payload Fetching piece rest) work spec same (vid, is) =
    (vid, is ∙ sym (λ i. Read (object_number vid piece.index) (spec i).policy 0 (2 ^ (spec i).shift)))
work_of_driver-alike inode after (Writes payload Creating piece rest) work spec same (offset, bytes, is) = (
  offset,
  bytes,
  is ∙ sym (λ i. driver_acts.Work (Create (object_number (same i) piece.index) (spec i).policy (2 ^ (spec i).shift) offset bytes)),
)
work_of_driver-alike inode after (Writes payload Entering piece rest) work spec same is =
    is ∙ sym (λ i. Write (inode_number (same i)) (spec i).policy (INODE_HEADER_BYTES + 4 * piece.index) (u32_bytes (same i)))
work_of_driver-alike inode after drivers.Answered work spec same is = absurd is

-- ---- a check

abbrev pub IsCheckActWanted : Check → CheckAct → Type 0
IsCheckActWanted check (check_acts.Work work) = IsWorkOfCheck check check.stage work
IsCheckActWanted check (check_acts.Reply found) = Unit {0}

check_on-wanted : (check : Check) (left : List ℕ) → IsCheckActWanted (check_on check left).check (check_on check left).act
check_on-wanted check [] = tt
check_on-wanted check (index ∷ later) = refl

pub check_begins-wanted : (inode : Content) → IsCheckActWanted (begin_check inode).check (begin_check inode).act
unfolding begin_check
check_begins-wanted inode = check_on-wanted (begun_check inode) (own_indexes inode)

pub check_goes_on-wanted : (bytes : List ℕ) (check : Check) (step : CheckStep) → check_on_done bytes check ≡ Some step
    → IsCheckActWanted step.check step.act
unfolding check_on_done
check_goes_on-wanted bytes check step next = by_stage check.stage next
  where
    Wanted : CheckStep → Type 0
    Wanted step = IsCheckActWanted step.check step.act

    by_stage : (stage : CheckStage) → check_done_at bytes check stage ≡ Some step → Wanted step
    by_stage (Comparing index later) next =
        let now = checks.write_back_step check index later (pieces_in check.spec bytes) in
        subst Wanted (same_Some now step next) (index, value_of check.spec.policy (pieces_in check.spec bytes), refl)
    by_stage (WritingBack later) next = subst Wanted (same_Some (check_on check later) step next) (check_on-wanted check later)
    by_stage checks.Answered next = absurd (cc (next))
