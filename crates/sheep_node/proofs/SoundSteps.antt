-- What a driver, a check or a command comes to is sound, where its disk and what it has are.
use Rattle.std.proofs.Common.{◌≡◌, ◌⊎◌, inl, inr, ◌≢◌, ℕ, zero, suc, ◌+◌, ◌*◌, ◌/◌, ◌%◌, ◌^◌, ◌<◌, ◌≤◌, ◌==◌, ◌++◌, Bool, true, false, cond, List, [], ◌∷◌, length, All, Option, Some, None, IfSome, IsTrue, option_map, option_and_then, get_or, refl, ap, sym, subst, ◌∙◌, arith}
use Rattle.std.specs.Prelude.{slice_index}
use Rattle.std.proofs.lemmas.Bool.{cases_lt}
use Rattle.std.proofs.lemmas.List.{get_or_past, length-set, length-map, length-replicate}
use Rattle.std.proofs.lemmas.List.Elements.{All-head, All-tail, All-set, All-nil}
use Rattle.std.proofs.lemmas.Option.{same_Some}
use Rattle.object_id.specs.declared.cause.Cause.{Cause}
use Rattle.object_id.specs.declared.limits.TheConstants.{OBJECTS_MAX, OBJECT_BYTES_MAX, VID_MAX}
use Rattle.object_id.specs.Fields.{zeros}
use Rattle.object_id.specs.Oid.{IsOid, IsVid, inode_number, object_number}
use Rattle.object_id.specs.Spec.{IsSpec, objects_of}
use Rattle.inode.specs.Layout.{Content, IsEntry}
use Rattle.peer_proto.specs.declared.guest.DiskAsk.{DiskAsk}
use Rattle.peer_proto.specs.declared.guest.DiskAsk.TheVariants as disk_asks
use Rattle.peer_proto.specs.declared.work.ObjWork.{ObjWork}
use Rattle.peer_proto.specs.Work.{oid_of, IsWork}
use Rattle.guest_driver.specs.declared.act.DriverAct.{DriverAct}
use Rattle.guest_driver.specs.declared.act.DriverAct.TheVariants as driver_acts
use Rattle.guest_driver.specs.declared.disk.Disk.{Disk}
use Rattle.guest_driver.specs.Pieces.{Piece, pieces, is_ask}
use Rattle.guest_driver.specs.PieceWorks.{Backing, Hole, Own, Inherited, entry_of, backing, backing_of, read_piece, table_with_entry}
use Rattle.guest_driver.specs.Refusals.{refusal_on}
use Rattle.guest_driver.specs.Driver as drivers
use Rattle.guest_driver.specs.Driver.{InPlace, Fetching, Creating, Entering, DriverStage, Driver, Reads, Writes, DriverStep, work_step, read_on, write_piece_on, write_on, begin_unless_refused, begin_driver, write_done, driver_on_done, driver_bytes_wanted}
use Rattle.guest_driver.specs.OnDisk.{IsPieceOf, IsDriverOn}
use Rattle.guest_driver.specs.BegunWorks.{BeginsWork, GoesByBlocks, StepsByBlocks}
use Rattle.guest_driver.proofs.WorkLemmas as works
use Rattle.guest_driver.proofs.ExtentLemmas.{objects_most}
use Rattle.guest_driver.proofs.BeginLemmas.{ends-inside, asks-some, pieces-are}
use Rattle.disk_check.specs.Table.{own_indexes}
use Rattle.disk_check.specs.Value.{pieces_in}
use Rattle.disk_check.specs.Check as checks
use Rattle.disk_check.specs.Check.{Check, CheckStage, CheckStep, CheckBeginsWork, Comparing, WritingBack as Writing, check_on, begun_check, begin_check, write_back_step, check_done_at, check_on_done, check_bytes_wanted, left_of}
use Rattle.disk_check.proofs.TableLemmas.{own_indexes-own}
use Rattle.disk_check.proofs.WorkLemmas as checks_works
use Rattle.sheep_node.specs.Changes.{Outcome, outcome_of_driver, outcome_of_check}
use Rattle.sheep_node.specs.WorkRange.{size_made, IsWorkInRange}
use Rattle.sheep_node.specs.SoundWorks.{IsSoundInode, IsSoundCheck, work_validity}
use Rattle.sheep_node.proofs.ValidityChanges.{IsValidOutcomeBy}

abbrev pub IsSoundOutcome : Outcome → Type 0
IsSoundOutcome = IsValidOutcomeBy work_validity

-- ---- ids

pub object_oid : (vid index : ℕ) → IsVid vid → index < OBJECTS_MAX → IsOid (object_number vid index)
object_oid vid index is few =
    let least = is.0 in
    let most = is.1 in (
      omega (arith, most, few),
      (omega (arith, most, few), omega (arith, most, few), λ top. omega (arith, most, few, top)),
      λ none. absurd (omega (arith, least, most, few, none)),
    )

pub inode_oid : (vid : ℕ) → IsVid vid → IsOid (inode_number vid)
inode_oid vid is =
    let least = is.0 in
    let most = is.1 in (
      omega (arith, most),
      (omega (arith, most), omega (arith, most), λ top. omega (arith, most)),
      λ none. absurd (omega (arith, least, most, none)),
    )

-- an entry that isn't a hole is an id
entry_id : (entry : ℕ) → IsEntry entry → (entry == 0) ≡ false → IsVid entry
entry_id zero most there = absurd (cc (there))
entry_id (suc n) most there = (omega arith, most)

entry_below : (inode : Content) (index : ℕ) → IsSoundInode inode → IsEntry (slice_index inode.table index)
entry_below inode index is = by_place (cases_lt index (length inode.table))
  where
    by_place : (index < length inode.table) ⊎ (length inode.table ≤ index) → IsEntry (slice_index inode.table index)
    by_place place = elim place [
      | inl within ↦ is.ids.entries index 0 within
      | inr past ↦ subst IsEntry (sym (get_or_past inode.table index 0 past)) (omega arith)
    ]

-- ---- a read or write

-- a work is on an object that there may be, which has a length of 32 bits
abbrev IsNamed : DriverAct → Type 0
IsNamed (driver_acts.Work work) = IsOid (oid_of work) × (size_made work < 2 ^ 32)
IsNamed (driver_acts.Reply reply) = Unit {0}

abbrev IsNamedStep : DriverStep → Type 0
IsNamedStep step = IsSoundInode step.inode × IsNamed step.act

object_small : (inode : Content) → IsSoundInode inode → 2 ^ inode.spec.shift < 2 ^ 32
object_small inode is = let most : 2 ^ inode.spec.shift ≤ OBJECT_BYTES_MAX = works.object-most inode.spec is.spec in omega (arith, most)

in_table : (inode : Content) (piece : Piece) → IsSoundInode inode → IsPieceOf inode.spec piece → piece.index < OBJECTS_MAX
in_table inode piece is of =
    let most : objects_of inode.spec ≤ OBJECTS_MAX = objects_most inode.spec is.spec in
    let here = of.object in
    omega (arith, most, here)

module _ (inode : Content) (is : IsSoundInode inode) where
  read_named : (told : List ℕ) (rest : List Piece) → All (IsPieceOf inode.spec) rest → IsNamedStep (read_on inode told rest)
  unfolding read_on
  read_named told [] on = (is, tt)
  read_named told (piece ∷ rest) on =
      by_hole (entry_of inode piece == 0) refl (read_named (told ++ zeros piece.size) rest (All-tail (IsPieceOf inode.spec) piece rest on))
    where
      by_hole : (b : Bool) → (entry_of inode piece == 0) ≡ b → IsNamedStep (read_on inode (told ++ zeros piece.size) rest)
          → IsNamedStep (cond b (read_on inode (told ++ zeros piece.size) rest)
          (work_step inode (Reads told piece rest) (read_piece inode piece (entry_of inode piece))))
      by_hole true hole later = later
      by_hole false there later = (
        is,
        (
          object_oid (entry_of inode piece) piece.index (entry_id (entry_of inode piece) (entry_below inode piece.index is) there)
              (in_table inode piece is (All-head (IsPieceOf inode.spec) piece rest on)),
          omega arith,
        ),
      )

  module _ (payload : List ℕ) (piece : Piece) (rest : List Piece) (of : IsPieceOf inode.spec piece) where
    own : IsOid (object_number inode.vid piece.index)
    own = object_oid inode.vid piece.index is.ids.vid (in_table inode piece is of)

    piece_named : (entry : ℕ) → IsEntry entry → IsNamedStep (write_piece_on inode payload piece rest (backing inode.vid entry))
    piece_named entry below = by_hole (entry == 0) refl (entry == inode.vid)
      where
        by_hole : (b : Bool) → (entry == 0) ≡ b → (o : Bool)
            → IsNamedStep (write_piece_on inode payload piece rest (cond b Hole (cond o Own (Inherited entry))))
        by_hole true hole o = (is, (own, object_small inode is))
        by_hole false there true = (is, (own, omega arith))
        by_hole false there false = (is, (object_oid entry piece.index (entry_id entry below there) (in_table inode piece is of), omega arith))

  write_named : (payload : List ℕ) (rest : List Piece) → All (IsPieceOf inode.spec) rest → IsNamedStep (write_on inode payload rest)
  write_named payload [] on = (is, tt)
  write_named payload (piece ∷ rest) on =
      piece_named payload piece rest (All-head (IsPieceOf inode.spec) piece rest on) (entry_of inode piece) (entry_below inode piece.index is)

-- the session's table, with an entry that says that an object is the disk's own
with_entry : (inode : Content) (piece : Piece) → IsSoundInode inode → IsSoundInode (table_with_entry inode piece)
with_entry inode piece is =
    let id = is.ids.vid.1 in
    let same : length (table_with_entry inode piece).table ≡ length inode.table = length-set inode.table piece.index inode.vid in
    let count = is.count in
    record {
      spec = is.spec;
      ids = record { vid = is.ids.vid; entries = All-set IsEntry inode.table piece.index inode.vid id is.ids.entries };
      count = omega (arith, same, count);
    }

begun_named : (disk : Disk) (ask : DiskAsk) (refusal : Option Cause) → IsSoundInode disk.inode → IsTrue (is_ask ask)
    → refusal_on disk false ask ≡ refusal → IsNamedStep (begin_unless_refused disk.inode ask refusal)
begun_named disk ask (Some cause) is whole e = (is, tt)
begun_named disk (disk_asks.Read offset size) None is whole e =
    read_named disk.inode is [] (pieces disk.inode.spec.shift offset size)
    (pieces-are disk.inode.spec offset size (asks-some (disk_asks.Read offset size) whole) (ends-inside disk (disk_asks.Read offset size) e))
begun_named disk (disk_asks.Write offset payload) None is whole e =
    write_named disk.inode is payload (pieces disk.inode.spec.shift offset (length payload))
    (pieces-are disk.inode.spec offset (length payload) (asks-some (disk_asks.Write offset payload) whole)
    (ends-inside disk (disk_asks.Write offset payload) e))

done_named : (inode : Content) (bytes payload : List ℕ) (piece : Piece) (rest : List Piece) (stage : DriverStage) → IsSoundInode inode
    → All (IsPieceOf inode.spec) (piece ∷ rest) → IsNamedStep (write_done inode bytes payload piece rest stage)
done_named inode bytes payload piece rest InPlace is on =
    write_named inode is payload rest (All-tail (IsPieceOf inode.spec) piece rest on)
done_named inode bytes payload piece rest Fetching is on =
    (is, (own inode is payload piece rest (All-head (IsPieceOf inode.spec) piece rest on), object_small inode is))
done_named inode bytes payload piece rest Creating is on = (is, (inode_oid inode.vid is.ids.vid, omega arith))
done_named inode bytes payload piece rest Entering is on =
    write_named (table_with_entry inode piece) (with_entry inode piece is) payload rest (All-tail (IsPieceOf inode.spec) piece rest on)

-- a step is sound: the open inode, what the driver has still to do, and what it comes to
pub record IsSoundDriverStep (step : DriverStep) : Type 0 where
  pub inode : IsSoundInode step.inode
  pub blocks : GoesByBlocks step.driver
  pub outcome : IsSoundOutcome (outcome_of_driver step.act)

outcome_sound : (act : DriverAct) → IsNamed act → BeginsWork act → IsSoundOutcome (outcome_of_driver act)
outcome_sound (driver_acts.Work work) named is = record { is_work = is; oid = named.0; size = named.1 }
outcome_sound (driver_acts.Reply reply) named is = tt

pub driver_begins-sound : (disk : Disk) (ask : DiskAsk) → IsSoundInode disk.inode → IsTrue (is_ask ask) → IsSoundDriverStep (begin_driver disk ask)
unfolding begin_driver
driver_begins-sound disk ask is whole =
    let step : DriverStep = begin_unless_refused disk.inode ask (refusal_on disk false ask) in
    let by : StepsByBlocks step = works.begin-works disk ask is.spec whole in
    let named : IsNamedStep step = begun_named disk ask (refusal_on disk false ask) is whole refl in
    record { inode = named.0; blocks = by.blocks; outcome = outcome_sound step.act named.1 by.work }

goes_on-named : (inode : Content) (bytes : List ℕ) (driver : Driver) (step : DriverStep) → driver_on_done inode bytes driver ≡ Some step
    → IsSoundInode inode → IsDriverOn inode driver → IsNamedStep step
unfolding driver_on_done
goes_on-named inode bytes (Reads told piece rest) step next is on =
    subst IsNamedStep (same_Some (read_on inode (told ++ bytes) rest) step next)
    (read_named inode is (told ++ bytes) rest (All-tail (IsPieceOf inode.spec) piece rest on))
goes_on-named inode bytes (Writes payload stage piece rest) step next is on =
    subst IsNamedStep (same_Some (write_done inode bytes payload piece rest stage) step next) (done_named inode bytes payload piece rest stage is on)
goes_on-named inode bytes drivers.Answered step next is on = absurd (cc (next))

pub driver_goes_on-sound : (inode : Content) (bytes : List ℕ) (driver : Driver) (step : DriverStep) → driver_on_done inode bytes driver ≡ Some step
    → IsSoundInode inode → IsDriverOn inode driver → GoesByBlocks driver → driver_bytes_wanted inode driver ≡ Some (length bytes)
    → IsSoundDriverStep step
driver_goes_on-sound inode bytes driver step next is on blocks wanted =
    let by = subst (λ (o : Option DriverStep). IfSome o StepsByBlocks) next
    (works.done-works inode bytes driver is.spec is.ids.vid on blocks wanted) in
    let named = goes_on-named inode bytes driver step next is on in
    record { inode = named.0; blocks = by.blocks; outcome = outcome_sound step.act named.1 by.work }

-- ---- a check

pub record IsSoundCheckStep (step : CheckStep) : Type 0 where
  pub check : IsSoundCheck step.check
  pub outcome : IsSoundOutcome (outcome_of_check step.act)

abbrev Few : ℕ → Type 0
Few index = index < OBJECTS_MAX

check_on-sound : (check : Check) (left : List ℕ) → IsVid check.vid → IsSpec check.spec → All Few left → CheckBeginsWork (check_on check left).act
    → IsSoundCheckStep (check_on check left)
check_on-sound check [] id is few work = record { check = record { vid = id; spec = is; within = All-nil Few }; outcome = tt }
check_on-sound check (index ∷ later) id is few work = record {
  check = record { vid = id; spec = is; within = few };
  outcome = record { is_work = work; oid = object_oid check.vid index id (All-head Few index later few); size = omega arith };
}

pub check_begins-sound : (inode : Content) → IsSoundInode inode → IsSoundCheckStep (begin_check inode)
unfolding begin_check
check_begins-sound inode is =
    let count = is.count in
    check_on-sound (begun_check inode) (own_indexes inode) is.ids.vid is.spec
    (λ k d within. let here = (own_indexes-own inode k d within).0 in omega (arith, here, count))
    (checks_works.begin-work inode is.spec)

pub check_goes_on-sound : (bytes : List ℕ) (check : Check) (step : CheckStep) → check_on_done bytes check ≡ Some step → IsSoundCheck check
    → check_bytes_wanted check ≡ Some (length bytes) → IsSoundCheckStep step
unfolding check_on_done
check_goes_on-sound bytes check step next is wanted =
    by_stage check.stage refl next (checks_works.done-work bytes check step is.spec wanted next)
  where
    by_stage : (stage : CheckStage) → check.stage ≡ stage → check_on_done bytes check ≡ Some step → CheckBeginsWork step.act → IsSoundCheckStep step
    by_stage (Comparing index later) at next work =
        let both : All Few (index ∷ later) = subst (λ (stage : CheckStage). All Few (left_of stage)) at is.within in
        let same : write_back_step check index later (pieces_in check.spec bytes) ≡ step
        = same_Some (write_back_step check index later (pieces_in check.spec bytes)) step
        (sym (ap (check_done_at bytes check) at) ∙ next) in
        subst IsSoundCheckStep same
        (record {
          check = record { vid = is.vid; spec = is.spec; within = All-tail Few index later both };
          outcome = record {
            is_work = subst (λ (step : CheckStep). CheckBeginsWork step.act) (sym same) work;
            oid = object_oid check.vid index is.vid (All-head Few index later both);
            size = omega arith;
          };
        })
    by_stage (Writing later) at next work =
        let left : All Few later = subst (λ (stage : CheckStage). All Few (left_of stage)) at is.within in
        let same : check_on check later ≡ step
        = same_Some (check_on check later) step (sym (ap (check_done_at bytes check) at) ∙ next) in
        subst IsSoundCheckStep same
        (check_on-sound check later is.vid is.spec left (subst (λ (step : CheckStep). CheckBeginsWork step.act) (sym same) work))
    by_stage checks.Answered at next work =
        let none : check_done_at bytes check checks.Answered ≡ Some step = sym (ap (check_done_at bytes check) at) ∙ next in
        absurd (cc (none))
