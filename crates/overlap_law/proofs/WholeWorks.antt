-- Each write of a read or write, or of a check, goes to whole units inside its object: blocks of a data object, and entries of an inode's
-- table.
use Rattle.std.proofs.Common.{◌≡◌, arith, ℕ, ◌+◌, ◌*◌, ◌-◌, ◌/◌, ◌%◌, ◌^◌, ◌<◌, ◌≤◌, nat_lt, Bool, true, false, cond, List, [], ◌∷◌, length}
use Rattle.std.proofs.Common.{All, Option, Some, None, IsTrue, refl, sym, ap, subst, ◌∙◌}
use Rattle.std.proofs.lemmas.Bool.{ltb-true, ltb-false}
use Rattle.std.proofs.lemmas.List.Elements.{All-nil, All-head}
use Rattle.std.proofs.lemmas.Option.{same_Some}
use Rattle.object_id.specs.declared.cause.Cause.{Cause}
use Rattle.object_id.specs.declared.entry.VdiSpec.{VdiSpec}
use Rattle.object_id.specs.declared.limits.TheConstants.{OBJECTS_MAX}
use Rattle.object_id.specs.declared.oid.Kind.{Kind}
use Rattle.object_id.specs.declared.oid.Kind.TheVariants.{Block, Inode}
use Rattle.object_id.specs.Fields.{u32_bytes}
use Rattle.object_id.specs.Oid.{vid_of, kind_of, inode_number, object_number}
use Rattle.inode.specs.Layout.{Content}
use Rattle.inode.specs.declared.layout.TheConstants.{INODE_BYTES, INODE_HEADER_BYTES}
use Rattle.peer_proto.specs.Work.{oid_of}
use Rattle.peer_proto.specs.declared.guest.DiskAsk.{DiskAsk}
use Rattle.peer_proto.specs.declared.guest.DiskAsk.TheVariants as disk_asks
use Rattle.peer_proto.specs.declared.work.ObjWork.{ObjWork}
use Rattle.peer_proto.specs.declared.work.ObjWork.TheVariants as works
use Rattle.peer_service.specs.State.{object_size}
use Rattle.vdi_directory.specs.declared.effect.Effect.{Effect}
use Rattle.guest_driver.specs.declared.act.DriverAct.{DriverAct}
use Rattle.guest_driver.specs.declared.act.DriverAct.TheVariants as driver_acts
use Rattle.guest_driver.specs.declared.disk.Disk.{Disk}
use Rattle.guest_driver.specs.BegunWorks.{IsPieceAmong, GoesByBlocks}
use Rattle.guest_driver.specs.Pieces.{Piece, piece_bytes, is_ask}
use Rattle.guest_driver.specs.PieceWorks.{write_piece, write_entry}
use Rattle.guest_driver.specs.Refusals.{refusal_on}
use Rattle.guest_driver.specs.OnDisk.{pieces_left, IsPieceOf, IsDriverOn}
use Rattle.guest_driver.specs.Driver as drivers
use Rattle.guest_driver.specs.Driver.{InPlace, Fetching, Creating, Entering, Driver, Reads, Writes, begin_unless_refused, begin_driver}
use Rattle.guest_driver.proofs.BeginLemmas.{asks-some, ends-inside, read-begins-on, write-begins-on}
use Rattle.guest_driver.proofs.WorkLemmas.{object-whole, length-piece_bytes}
use Rattle.disk_check.specs.Table.{own_indexes}
use Rattle.disk_check.specs.Value.{all_bytes, pieces_in, value_of}
use Rattle.disk_check.specs.Check as checks
use Rattle.disk_check.specs.Check.{Check, CheckStage, CheckStep, Comparing, WritingBack as Rewriting, check_on, begun_check, begin_check}
use Rattle.disk_check.specs.Check.{check_done_at, check_on_done, check_bytes_wanted, bytes_at, left_of, write_value}
use Rattle.disk_check.proofs.WorkLemmas.{value-length}
use Rattle.sheep_node.specs.Changes.{Outcome, ToWork, ToEntry, ToReply, outcome_of_driver, outcome_of_check}
use Rattle.sheep_node.specs.WantedWorks.{IsWorkOfDriver}
use Rattle.sheep_node.proofs.ValidSteps.{given}
use Rattle.sheep_node.proofs.WantedSteps.{IsDriverActWanted, driver_begins-wanted}
use Rattle.overlap_law.specs.Units.{unit_start}
use Rattle.overlap_law.specs.Fates.{AreUnits, IsWhole}
use Rattle.overlap_law.proofs.GrantedEpochs.{spec_known}
use Rattle.overlap_law.proofs.KnownDisks.{Few, FewAt, IsKnownDisk, IsKnownInode, IsKnownCheck, vid-of_object, vid-of_inode, kind-of_object}
use Rattle.overlap_law.proofs.KnownDisks.{kind-of_inode}

-- ---- where units begin

beyond : (unit : ℕ) → unit < INODE_HEADER_BYTES → INODE_HEADER_BYTES ≤ unit → ⊥
beyond unit below above = omega (arith, below, above)

header_if : (unit : ℕ) (b : Bool) → nat_lt unit INODE_HEADER_BYTES ≡ b → unit < INODE_HEADER_BYTES
    → cond b unit (INODE_HEADER_BYTES + 4 * (unit - INODE_HEADER_BYTES)) ≡ unit
header_if unit true e below = refl
header_if unit false e below = absurd (beyond unit below (ltb-false _ _ e))

table_if : (unit : ℕ) (b : Bool) → nat_lt unit INODE_HEADER_BYTES ≡ b → INODE_HEADER_BYTES ≤ unit
    → cond b unit (INODE_HEADER_BYTES + 4 * (unit - INODE_HEADER_BYTES)) ≡ INODE_HEADER_BYTES + 4 * (unit - INODE_HEADER_BYTES)
table_if unit true e above = absurd (beyond unit (ltb-true _ _ e) above)
table_if unit false e above = refl

-- a byte of the header, and an entry of the table
pub in_header : (unit : ℕ) → unit < INODE_HEADER_BYTES → unit_start Inode unit ≡ unit
in_header unit below = header_if unit (nat_lt unit INODE_HEADER_BYTES) refl below

pub in_table : (entry : ℕ) → unit_start Inode (entry + INODE_HEADER_BYTES) ≡ INODE_HEADER_BYTES + 4 * entry
in_table entry =
    let above : INODE_HEADER_BYTES ≤ entry + INODE_HEADER_BYTES = omega arith in
    let same : INODE_HEADER_BYTES + 4 * (entry + INODE_HEADER_BYTES - INODE_HEADER_BYTES) ≡ INODE_HEADER_BYTES + 4 * entry = omega arith in
    table_if (entry + INODE_HEADER_BYTES) (nat_lt (entry + INODE_HEADER_BYTES) INODE_HEADER_BYTES) refl above ∙ same

-- whole blocks are units
pub units_of_blocks : (kind : Kind) → kind ≡ Block → (from end : ℕ) → from % 512 ≡ 0 → end % 512 ≡ 0 → AreUnits kind from end
units_of_blocks Block same from end begins ends =
    record { first = from / 512; last = end / 512; begins = omega (arith, begins); ends = omega (arith, ends) }
units_of_blocks Inode same from end begins ends = absurd (cc (same))

-- so is what stands in an inode from a byte of the header on, or from an entry on, up to where a unit begins
pub units_from_header : (kind : Kind) → kind ≡ Inode → (from end last : ℕ) → from < INODE_HEADER_BYTES → end ≡ unit_start Inode last
    → AreUnits kind from end
units_from_header Block same from end last below till = absurd (cc (same))
units_from_header Inode same from end last below till =
    record { first = from; last = last; begins = sym (in_header from below); ends = till }

pub units_of_entries : (kind : Kind) → kind ≡ Inode → (entry after from end : ℕ) → from ≡ INODE_HEADER_BYTES + 4 * entry
    → end ≡ INODE_HEADER_BYTES + 4 * after → AreUnits kind from end
units_of_entries Block same entry after from end at till = absurd (cc (same))
units_of_entries Inode same entry after from end at till = record {
  first = entry + INODE_HEADER_BYTES;
  last = after + INODE_HEADER_BYTES;
  begins = at ∙ sym (in_table entry);
  ends = till ∙ sym (in_table after);
}

-- ---- works

module _ (known : List Effect) where
  -- a work goes to whole units inside an object of a disk that is known
  pub record IsWholeOn (work : ObjWork) : Type 0 where
    pub spec : VdiSpec
    pub made : spec_known known (vid_of (oid_of work)) ≡ Some spec
    pub whole : IsWhole (object_size spec (kind_of (oid_of work))) work

  -- of any but a write nothing is asked
  abbrev pub WritesWhole : ObjWork → Type 0
  WritesWhole (works.Create oid policy size offset bytes) = Unit {0}
  WritesWhole (works.Write oid policy offset bytes) = IsWholeOn (works.Write oid policy offset bytes)
  WritesWhole (works.Read oid policy offset size) = Unit {0}
  WritesWhole (works.ReadAll oid policy size) = Unit {0}

  abbrev pub IsWholeOutcome : Outcome → Type 0
  IsWholeOutcome (ToWork work) = WritesWhole work
  IsWholeOutcome (ToEntry entry) = Unit {0}
  IsWholeOutcome (ToReply reply) = Unit {0}

  pub whole_on : (vid : ℕ) (spec : VdiSpec) (kind : Kind) (work : ObjWork) → IsKnownDisk known vid spec → vid_of (oid_of work) ≡ vid
      → kind_of (oid_of work) ≡ kind → IsWhole (object_size spec kind) work → IsWholeOn work
  whole_on vid spec kind work disk of_disk of_kind whole = record {
    spec = spec;
    made = ap (spec_known known) of_disk ∙ disk.made;
    whole = subst (λ (k : Kind). IsWhole (object_size spec k) work) (sym of_kind) whole;
  }

  -- ---- a read or write

  module _ (inode : Content) (is : IsKnownInode known inode) where
    piece_whole : (payload : List ℕ) (piece : Piece) → FewAt piece → IsPieceOf inode.spec piece → IsPieceAmong payload piece
        → WritesWhole (write_piece inode payload piece)
    piece_whole payload piece few of among =
        let oid : ℕ = object_number inode.vid piece.index in
        let bytes : List ℕ = piece_bytes payload piece in
        let kind : kind_of oid ≡ Block = kind-of_object inode.vid piece.index is.disk.id few in
        let long : length bytes ≡ piece.size = length-piece_bytes payload piece among.among in
        let inside : piece.offset + piece.size ≤ 2 ^ inode.spec.shift = of.within.inside in
        let from : piece.offset % 512 ≡ 0 = among.blocks.offset in
        let size : piece.size % 512 ≡ 0 = among.blocks.size in
        let ends : piece.offset + length bytes ≤ 2 ^ inode.spec.shift = omega (arith, long, inside) in
        let whole : (piece.offset + length bytes) % 512 ≡ 0 = omega (arith, long, from, size) in
        whole_on inode.vid inode.spec Block (write_piece inode payload piece) is.disk
        (vid-of_object inode.vid piece.index is.disk.id few) kind
        (ends, units_of_blocks (kind_of oid) kind piece.offset (piece.offset + length bytes) from whole)

    entry_whole : (piece : Piece) → FewAt piece → WritesWhole (write_entry inode piece)
    entry_whole piece few =
        let oid : ℕ = inode_number inode.vid in
        let from : ℕ = INODE_HEADER_BYTES + 4 * piece.index in
        let kind : kind_of oid ≡ Inode = kind-of_inode inode.vid is.disk.id in
        let four : length (u32_bytes inode.vid) ≡ 4 = refl in
        let below : piece.index < OBJECTS_MAX = few in
        let ends : INODE_HEADER_BYTES + 4 * piece.index + length (u32_bytes inode.vid) ≤ INODE_BYTES = omega (arith, four, below) in
        let till : INODE_HEADER_BYTES + 4 * piece.index + length (u32_bytes inode.vid) ≡ INODE_HEADER_BYTES + 4 * (piece.index + 1)
        = omega (arith, four) in
        whole_on inode.vid inode.spec Inode (write_entry inode piece) is.disk (vid-of_inode inode.vid is.disk.id) kind
        (ends, units_of_entries (kind_of oid) kind piece.index (piece.index + 1) from (from + length (u32_bytes inode.vid)) refl till)

    work_whole : (driver : Driver) (work : ObjWork) → All FewAt (pieces_left driver) → IsDriverOn inode driver → GoesByBlocks driver
        → IsWorkOfDriver inode driver work → WritesWhole work
    work_whole (Reads told piece rest) work few on blocks (vid, is_work) = subst WritesWhole (sym is_work) tt
    work_whole (Writes payload InPlace piece rest) work few on blocks is_work =
        subst WritesWhole (sym is_work)
        (piece_whole payload piece (All-head FewAt piece rest few) (All-head (IsPieceOf inode.spec) piece rest on)
        (All-head (IsPieceAmong payload) piece rest blocks))
    work_whole (Writes payload Fetching piece rest) work few on blocks (vid, is_work) = subst WritesWhole (sym is_work) tt
    work_whole (Writes payload Creating piece rest) work few on blocks (offset, bytes, is_act) =
        let made : ObjWork = works.Create (object_number inode.vid piece.index) inode.spec.policy (2 ^ inode.spec.shift) offset bytes in
        let same : work ≡ made = cc (is_act) in
        subst WritesWhole (sym same) tt
    work_whole (Writes payload Entering piece rest) work few on blocks is_work =
        subst WritesWhole (sym is_work) (entry_whole piece (All-head FewAt piece rest few))
    work_whole drivers.Answered work few on blocks is_work = absurd is_work

    pub driver_whole : (driver : Driver) (act : DriverAct) → All FewAt (pieces_left driver) → IsDriverOn inode driver → GoesByBlocks driver
        → IsDriverActWanted inode driver act → IsWholeOutcome (outcome_of_driver act)
    driver_whole driver (driver_acts.Work work) few on blocks wanted = work_whole driver work few on blocks wanted
    driver_whole driver (driver_acts.Reply reply) few on blocks wanted = tt

  -- ---- a check

  value_whole : (check : Check) (index : ℕ) (value : List ℕ) → IsKnownDisk known check.vid check.spec → Few index
      → length value ≡ 2 ^ check.spec.shift → WritesWhole (write_value check index value)
  value_whole check index value disk few long =
      let oid : ℕ = object_number check.vid index in
      let kind : kind_of oid ≡ Block = kind-of_object check.vid index disk.id few in
      let ends : 0 + length value ≤ 2 ^ check.spec.shift = omega (arith, long) in
      let blocks : length value % 512 ≡ 0 = ap (λ (n : ℕ). n % 512) long ∙ object-whole check.spec disk.spec_valid in
      let whole : (0 + length value) % 512 ≡ 0 = omega (arith, blocks) in
      whole_on check.vid check.spec Block (write_value check index value) disk (vid-of_object check.vid index disk.id few) kind
      (ends, units_of_blocks (kind_of oid) kind 0 (0 + length value) refl whole)

  check_on-whole : (check : Check) (left : List ℕ) → IsWholeOutcome (outcome_of_check (check_on check left).act)
  check_on-whole check [] = tt
  check_on-whole check (index ∷ later) = tt

  pub check_begins-whole : (inode : Content) → IsWholeOutcome (outcome_of_check (begin_check inode).act)
  unfolding begin_check
  check_begins-whole inode = check_on-whole (begun_check inode) (own_indexes inode)

  pub check_goes_on-whole : (bytes : List ℕ) (check : Check) (step : CheckStep) → check_on_done bytes check ≡ Some step
      → IsKnownCheck known check → check_bytes_wanted check ≡ Some (length bytes) → IsWholeOutcome (outcome_of_check step.act)
  unfolding check_on_done
  check_goes_on-whole bytes check step next is wanted = by_stage check.stage next is.within wanted
    where
      by_stage : (stage : CheckStage) → check_done_at bytes check stage ≡ Some step → All Few (left_of stage)
          → bytes_at check.spec stage ≡ Some (length bytes) → IsWholeOutcome (outcome_of_check step.act)
      by_stage (Comparing index later) next few wanted =
          given (λ (s : CheckStep). IsWholeOutcome (outcome_of_check s.act)) next
          (value_whole check index (value_of check.spec.policy (pieces_in check.spec bytes)) is.disk (All-head Few index later few)
          (value-length check.spec bytes is.disk.spec_valid (sym (same_Some (all_bytes check.spec) (length bytes) wanted))))
      by_stage (Rewriting later) next few wanted =
          given (λ (s : CheckStep). IsWholeOutcome (outcome_of_check s.act)) next (check_on-whole check later)
      by_stage checks.Answered next few wanted = absurd (cc (next))

-- ---- a read or write is on its disk as it begins

begun_on : (disk : Disk) (ask : DiskAsk) (refusal : Option Cause) → IsTrue (is_ask ask) → refusal_on disk false ask ≡ refusal
    → IsDriverOn disk.inode (begin_unless_refused disk.inode ask refusal).driver
begun_on disk ask (Some cause) whole so = All-nil (IsPieceOf disk.inode.spec)
begun_on disk (disk_asks.Read offset size) None whole so =
    read-begins-on disk.inode offset size (asks-some (disk_asks.Read offset size) whole) (ends-inside disk (disk_asks.Read offset size) so)
begun_on disk (disk_asks.Write offset payload) None whole so =
    write-begins-on disk.inode offset payload (asks-some (disk_asks.Write offset payload) whole)
    (ends-inside disk (disk_asks.Write offset payload) so)

pub begins_on : (disk : Disk) (ask : DiskAsk) → IsTrue (is_ask ask)
    → IsDriverOn (begin_driver disk ask).inode (begin_driver disk ask).driver
unfolding begin_driver
begins_on disk ask whole =
    subst (λ (spec : VdiSpec). All (IsPieceOf spec) (pieces_left (begin_driver disk ask).driver)) (sym (driver_begins-wanted disk ask).spec)
    (begun_on disk ask (refusal_on disk false ask) whole refl)
