-- What a search finds by its rows may be read, at a unit, as what each of the rows may be read as: a copy is one of them, and the strip
-- that d strips make is one of the same bytes.
use Rattle.std.proofs.Common.{◌≡◌, arith, ℕ, ◌+◌, ◌*◌, ◌-◌, ◌≤◌, ◌<◌, nat_le, ◌&&◌, Bool, true, false, List, [], ◌∷◌, length, slice_get}
use Rattle.std.proofs.Common.{Some, refl, sym, ap, ◌∙◌, subst}
use Rattle.std.proofs.lemmas.Bool.{and_parts, leb-true}
use Rattle.std.proofs.lemmas.List.{length-replicate, length-take-le}
use Rattle.std.proofs.lemmas.Option.{same_Some}
use Rattle.object_id.specs.declared.limits.TheConstants.{TARGETS_MAX}
use Rattle.object_id.specs.declared.oid.Kind.{Kind}
use Rattle.object_id.specs.declared.oid.Kind.TheVariants.{Block, Inode}
use Rattle.object_id.specs.declared.policy.Policy.{Policy}
use Rattle.object_id.specs.declared.policy.Policy.TheVariants.{Copies, Coded}
use Rattle.object_id.specs.Fields.{zeros}
use Rattle.object_id.specs.Oid.{kind_of}
use Rattle.object_id.specs.Piece.{laid_over}
use Rattle.object_id.specs.Policy.{IsPolicy}
use Rattle.object_store.specs.Bytes.{piece_at}
use Rattle.object_store.specs.declared.row.RowCopy.{RowCopy}
use Rattle.object_store.specs.Store.{row_bytes}
use Rattle.object_store.proofs.CallLaws.{length-laid_over}
use Rattle.gf256.specs.Part.{part, is_in_strips}
use Rattle.gf256.specs.Strip.{strip}
use Rattle.gf256.proofs.PartLaws.{part_of_block}
use Rattle.peer_proto.specs.declared.work.ObjWork.{ObjWork}
use Rattle.peer_proto.specs.declared.work.ObjWork.TheVariants as works
use Rattle.peer_proto.specs.Work.{IsWork, oid_of, policy_of}
use Rattle.recovery.specs.Level.{rows_in_order, rows_taken, are_enough, part_from_rows}
use Rattle.recovery.proofs.TakenParts.{Each, each-ordered, each-taken, points-taken}
use Rattle.overlap_law.specs.Attempts.{AttemptRecord}
use Rattle.overlap_law.specs.Since.{reading_by, IsStripOf, AddNothingAfter}
use Rattle.overlap_law.specs.Units.{unit_start, unit_size, unit_end, covers_by, bytes_by, row_bytes_at, unit_part_by, covers_unit}
use Rattle.overlap_law.proofs.CopyUnits.{whole_part}
use Rattle.overlap_law.proofs.FoundCopies.{part-of_copy}
use Rattle.overlap_law.proofs.StripsThrough.{HaveStrips, strip-of_rows}
use Rattle.overlap_law.proofs.UnitPieces.{length-piece}

-- ---- a unit of a data object is a block

long_created : (kind : Kind) (size offset unit : ℕ) (piece : List ℕ) → kind ≡ Block → offset + length piece ≤ size
    → nat_le (unit_end kind unit) size ≡ true
    → length (piece_at (laid_over (zeros size) offset piece) (unit_start kind unit) (unit_size kind unit)) ≡ 512
long_created Inode size offset unit piece is fits ends = absurd (cc (is))
long_created Block size offset unit piece is fits ends =
    let whole : List ℕ = laid_over (zeros size) offset piece in
    let full : length (zeros size) ≡ size = length-replicate size 0 in
    let long : length whole ≡ length (zeros size) = length-laid_over (zeros size) offset piece (omega (arith, full, fits)) in
    let low = leb-true (512 * unit + 512) size ends in
    let cut = length-piece whole (512 * unit) 512 in
    omega (arith, full, long, low, cut)

long_written : (kind : Kind) (offset unit : ℕ) (piece : List ℕ) → kind ≡ Block
    → (nat_le offset (unit_start kind unit) && nat_le (unit_end kind unit) (offset + length piece)) ≡ true
    → length (piece_at piece (unit_start kind unit - offset) (unit_size kind unit)) ≡ 512
long_written Inode offset unit piece is covers = absurd (cc (is))
long_written Block offset unit piece is covers =
    let parts = and_parts (nat_le offset (512 * unit)) (nat_le (512 * unit + 512) (offset + length piece)) covers in
    let low = leb-true offset (512 * unit) parts.0 in
    let high = leb-true (512 * unit + 512) (offset + length piece) parts.1 in
    let cut = length-piece piece (512 * unit - offset) 512 in
    omega (arith, low, high, cut)

pub long_block : (unit : ℕ) (work : ObjWork) → IsWork work → covers_by unit work ≡ true → kind_of (oid_of work) ≡ Block
    → length (bytes_by unit work) ≡ 512
long_block unit (works.Create oid policy size offset piece) is covers block =
    long_created (kind_of oid) size offset unit piece block is.1 covers
long_block unit (works.Write oid policy offset piece) is covers block = long_written (kind_of oid) offset unit piece block covers
long_block unit (works.Read oid policy offset size) is covers block = absurd (cc (covers))
long_block unit (works.ReadAll oid policy size) is covers block = absurd (cc (covers))

pub policy_is : (work : ObjWork) → IsWork work → IsPolicy (policy_of work)
policy_is (works.Create oid policy size offset piece) is = is.0
policy_is (works.Write oid policy offset piece) is = is.0
policy_is (works.Read oid policy offset size) is = is.0
policy_is (works.ReadAll oid policy size) is = is.0

-- a unit's part of a strip is the strip of its block
own_strip : (d p unit index : ℕ) (work : ObjWork) → policy_of work ≡ Coded d p → kind_of (oid_of work) ≡ Block
    → length (bytes_by unit work) ≡ 512 → unit_part_by index unit work ≡ strip d (bytes_by unit work) index
own_strip d p unit index work policy kind long =
    ap (λ (q : Policy). part q (kind_of (oid_of work)) index (bytes_by unit work)) policy
    ∙ ap (λ (k : Kind). part (Coded d p) k index (bytes_by unit work)) kind
    ∙ part_of_block d p index (bytes_by unit work) long

-- ---- what is found

-- the attempts on an object
module _ (attempts : List AttemptRecord) (policy : Policy) (kind : Kind)
    (same_policy : (j : ℕ) (one : AttemptRecord) → slice_get attempts j ≡ Some one → policy_of one.work ≡ policy)
    (same_kind : (j : ℕ) (one : AttemptRecord) → slice_get attempts j ≡ Some one → kind_of (oid_of one.work) ≡ kind)
    (unit j : ℕ) (attempt : AttemptRecord) (there : slice_get attempts j ≡ Some attempt) (is_work : IsWork attempt.work)
    (covers : covers_unit unit attempt ≡ true) (index : ℕ) (rows : List RowCopy) (enough : are_enough policy kind rows ≡ true) where
  -- a row may be read as of the attempt
  abbrev pub RowReads : Bool → RowCopy → Type 0
  RowReads strips one = reading_by strips attempts unit j one.index (row_bytes_at policy kind unit (row_bytes one))

  abbrev found : List ℕ
  found = part_from_rows policy kind index (rows_taken policy kind rows)

  -- what is found may be
  abbrev pub FoundReads : Bool → Type 0
  FoundReads strips = reading_by strips attempts unit j index (row_bytes_at policy kind unit found)

  whole_copy : is_in_strips policy kind ≡ false → (k : ℕ) (one : AttemptRecord) → slice_get attempts k ≡ Some one
      → is_in_strips (policy_of one.work) (kind_of (oid_of one.work)) ≡ false
  whole_copy copies k one at =
      ap (λ (p : Policy). is_in_strips p (kind_of (oid_of one.work))) (same_policy k one at)
      ∙ ap (is_in_strips policy) (same_kind k one at) ∙ copies

  copy_reads : is_in_strips policy kind ≡ false → Each (RowReads false) rows → FoundReads false
  copy_reads copies all =
      let (one, read, bytes_so) = part-of_copy (RowReads false) policy kind index rows copies enough all in
      let whole = whole_copy copies read.place read.attempt read.there in
      let work : ObjWork = read.attempt.work in
      record {
        place = read.place;
        attempt = read.attempt;
        there = read.there;
        no_earlier = read.no_earlier;
        covering = read.covering;
        served = read.served;
        same = ap (row_bytes_at policy kind unit) bytes_so ∙ read.same
            ∙ whole_part (policy_of work) (kind_of (oid_of work)) whole one.index (bytes_by unit work)
            ∙ sym (whole_part (policy_of work) (kind_of (oid_of work)) whole index (bytes_by unit work));
      }

-- a row of strips is of the same bytes as the others
strips_same : (d p unit j : ℕ) (attempts : List AttemptRecord) (attempt : AttemptRecord) → slice_get attempts j ≡ Some attempt
    → policy_of attempt.work ≡ Coded d p → kind_of (oid_of attempt.work) ≡ Block → length (bytes_by unit attempt.work) ≡ 512
    → AddNothingAfter attempts unit j attempt → (rows : List RowCopy)
    → Each (λ (one : RowCopy). IsStripOf attempts unit j one.index (row_bytes_at (Coded d p) Block unit (row_bytes one))) rows
    → HaveStrips d p unit (bytes_by unit attempt.work) rows
strips_same d p unit j attempts attempt there policy kind long mute [] all = tt
strips_same d p unit j attempts attempt there policy kind long mute (one ∷ rows) all = (
  all.0.own attempt there mute ∙ own_strip d p unit one.index attempt.work policy kind long,
  strips_same d p unit j attempts attempt there policy kind long mute rows all.1,
)

pub found_reads : (attempts : List AttemptRecord) (policy : Policy) (kind : Kind)
    → ((j : ℕ) (one : AttemptRecord) → slice_get attempts j ≡ Some one → policy_of one.work ≡ policy)
    → ((j : ℕ) (one : AttemptRecord) → slice_get attempts j ≡ Some one → kind_of (oid_of one.work) ≡ kind)
    → (unit j : ℕ) (attempt : AttemptRecord) → slice_get attempts j ≡ Some attempt → IsWork attempt.work → covers_unit unit attempt ≡ true
    → (index : ℕ) (rows : List RowCopy) → are_enough policy kind rows ≡ true
    → Each (λ (one : RowCopy). one.index < TARGETS_MAX) rows
    → Each (λ (one : RowCopy). reading_by (is_in_strips policy kind) attempts unit j one.index
    (row_bytes_at policy kind unit (row_bytes one))) rows
    → reading_by (is_in_strips policy kind) attempts unit j index
    (row_bytes_at policy kind unit (part_from_rows policy kind index (rows_taken policy kind rows)))
found_reads attempts (Copies copies) kind same_policy same_kind unit j attempt there is_work covers index rows enough small all =
    copy_reads attempts (Copies copies) kind same_policy same_kind unit j attempt there is_work covers index rows enough refl all
found_reads attempts (Coded d p) Inode same_policy same_kind unit j attempt there is_work covers index rows enough small all =
    copy_reads attempts (Coded d p) Inode same_policy same_kind unit j attempt there is_work covers index rows enough refl all
found_reads attempts (Coded d p) Block same_policy same_kind unit j attempt there is_work covers index rows enough small all = record {
  own = λ own got mute.
      let same : attempt ≡ own = same_Some attempt own (sym there ∙ got) in
      let taken : List RowCopy = rows_taken (Coded d p) Block rows in
      let policy_so : policy_of own.work ≡ Coded d p = same_policy j own got in
      let kind_so : kind_of (oid_of own.work) ≡ Block = same_kind j own got in
      let own_work : IsWork own.work = subst (λ (a : AttemptRecord). IsWork a.work) same is_work in
      let long : length (bytes_by unit own.work) ≡ 512
      = long_block unit own.work own_work (ap (covers_unit unit) (sym same) ∙ covers) kind_so in
      let is : IsPolicy (Coded d p) = subst IsPolicy policy_so (policy_is own.work own_work) in
      let count : length taken ≡ d
      = length-take-le d (rows_in_order (Coded d p) Block rows) (leb-true d (length (rows_in_order (Coded d p) Block rows)) enough) in
      let have : HaveStrips d p unit (bytes_by unit own.work) taken
      = strips_same d p unit j attempts own got policy_so kind_so long mute taken
      (each-taken (λ (one : RowCopy). IsStripOf attempts unit j one.index (row_bytes_at (Coded d p) Block unit (row_bytes one))) d
      (rows_in_order (Coded d p) Block rows)
      (each-ordered (λ (one : RowCopy). IsStripOf attempts unit j one.index (row_bytes_at (Coded d p) Block unit (row_bytes one)))
      (Coded d p) Block rows all)) in
      strip-of_rows d p index unit (bytes_by unit own.work) taken is (points-taken (Coded d p) Block rows small) count have
      ∙ sym (own_strip d p unit index own.work policy_so kind_so long);
}
