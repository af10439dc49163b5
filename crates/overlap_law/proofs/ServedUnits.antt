-- A row that a served create makes has what it owes, and so has one that a served write goes over, if it had all else: of any list of
-- attempts on the object.
use Rattle.std.proofs.Common.{◌≡◌, ◌≢◌, ◌⊎◌, inl, inr, ⊎_elim, arith, ℕ, ◌+◌, ◌-◌, ◌*◌, ◌≤◌, nat_le, nat_lt, Bool, true, false, cond, ◌&&◌}
use Rattle.std.proofs.Common.{List, length, slice_get, Some, sym, ap, subst, ◌∙◌}
use Rattle.std.proofs.lemmas.Bool.{and_parts, cases_eq, leb-true, le-leb}
use Rattle.std.proofs.lemmas.Option.{same_Some}
use Rattle.object_id.specs.declared.node.NodeId.{NodeId}
use Rattle.object_id.specs.declared.oid.Kind.{Kind}
use Rattle.object_id.specs.declared.oid.Kind.TheVariants.{Block, Inode}
use Rattle.object_id.specs.declared.policy.Policy.{Policy}
use Rattle.inode.specs.declared.layout.TheConstants.{INODE_HEADER_BYTES}
use Rattle.object_id.specs.Fields.{zeros}
use Rattle.object_id.specs.Oid.{kind_of}
use Rattle.object_id.specs.Piece.{laid_over}
use Rattle.gf256.specs.Part.{is_in_strips, part, part_size}
use Rattle.peer_proto.specs.declared.work.ObjWork.TheVariants.{Create, Write}
use Rattle.peer_proto.specs.Work.{IsWork}
use Rattle.overlap_law.specs.Attempts.{AttemptRecord}
use Rattle.overlap_law.specs.Fates.{AreUnits}
use Rattle.overlap_law.specs.Units.{unit_start, unit_end, covers_by, covers_unit, row_bytes_at, unit_part_by}
use Rattle.overlap_law.specs.Words.{Hosts, is_doomed, is_mute}
use Rattle.overlap_law.specs.Since.{reading_of, owes_attempt, HasWhatItOwes}
use Rattle.overlap_law.proofs.ReadingLaws.{readings}
use Rattle.overlap_law.proofs.UnitPieces.{unit-among, created-unit, written-unit, beside-unit}

-- a unit has a byte
some_bytes : (kind : Kind) (unit : ℕ) → unit_start kind unit + 1 ≤ unit_end kind unit
some_bytes Block unit = omega arith
some_bytes Inode unit = by_test (nat_lt unit INODE_HEADER_BYTES)
  where
    start : Bool → ℕ
    start b = cond b unit (INODE_HEADER_BYTES + 4 * (unit - INODE_HEADER_BYTES))

    by_test : (b : Bool) → start b + 1 ≤ start b + cond b 1 4
    by_test true = omega arith
    by_test false = omega arith

module _ (oid : ℕ) (policy : Policy) (attempts : List AttemptRecord) (hosts : Hosts) (k : ℕ) (attempt : AttemptRecord)
    (there : slice_get attempts k ≡ Some attempt) (loud : is_mute attempt ≡ false) (node : NodeId) (index end served_to : ℕ) where
  abbrev kind : Kind
  kind = kind_of oid

  abbrev HasIt : List ℕ → Type 0
  HasIt bytes = HasWhatItOwes (reading_of policy oid) policy kind hosts attempts node index end served_to bytes

  -- a unit that has the attempt's own part may be read as of it, and of each earlier one
  own_at : (bytes : List ℕ) (j unit : ℕ) → j ≤ k → covers_unit unit attempt ≡ true
      → row_bytes_at policy kind unit bytes ≡ unit_part_by index unit attempt.work
      → reading_of policy oid attempts unit j index (row_bytes_at policy kind unit bytes)
  own_at bytes j unit before covers own =
      subst (reading_of policy oid attempts unit j index) (sym own)
      ((readings (is_in_strips policy kind)).served attempts unit j k index attempt there before covers loud)

  -- each attempt that is owed is doomed, or stands no later
  abbrev OwesNoLater : Type 0
  OwesNoLater = (j : ℕ) (one : AttemptRecord) → slice_get attempts j ≡ Some one → owes_attempt node end served_to one ≡ true
      → (is_doomed hosts one ≡ true) ⊎ (j ≤ k)

  pub created-has : (size offset : ℕ) (piece : List ℕ) → attempt.work ≡ Create oid policy size offset piece
      → IsWork (Create oid policy size offset piece)
      → ((j : ℕ) (one : AttemptRecord) → slice_get attempts j ≡ Some one → (unit : ℕ) → covers_unit unit one ≡ true
      → covers_unit unit attempt ≡ true) → OwesNoLater
      → HasIt (laid_over (zeros (part_size policy kind size)) (part_size policy kind offset) (part policy kind index piece))
  created-has size offset piece work is covering owes = record {
    each = λ j one at unit covers owed. ⊎_elim
        (λ (doomed : is_doomed hosts one ≡ true). inl doomed)
        (λ (before : j ≤ k).
        let own : covers_unit unit attempt ≡ true = covering j one at unit covers in
        let inside : nat_le (unit_end kind unit) size ≡ true = ap (covers_by unit) (sym work) ∙ own in
        let bytes : List ℕ
        = laid_over (zeros (part_size policy kind size)) (part_size policy kind offset) (part policy kind index piece) in
        let same : row_bytes_at policy kind unit bytes ≡ unit_part_by index unit attempt.work
        = created-unit policy oid size offset piece index unit is (leb-true (unit_end kind unit) size inside)
        ∙ ap (unit_part_by index unit) (sym work) in
        inr (own_at bytes j unit before own same))
        (owes j one at owed);
  }

  pub written-has : (offset : ℕ) (piece : List ℕ) → attempt.work ≡ Write oid policy offset piece → IsWork (Write oid policy offset piece)
      → AreUnits kind offset (offset + length piece) → (row : List ℕ)
      → part_size policy kind offset + length (part policy kind index piece) ≤ length row → OwesNoLater
      → ((j : ℕ) (one : AttemptRecord) → slice_get attempts j ≡ Some one → j ≢ k → (unit : ℕ) → covers_unit unit one ≡ true
      → owes_attempt node end served_to one ≡ true
      → (is_doomed hosts one ≡ true) ⊎ reading_of policy oid attempts unit j index (row_bytes_at policy kind unit row))
      → HasIt (laid_over row (part_size policy kind offset) (part policy kind index piece))
  written-has offset piece work is units row fits owes had = record {
    each = λ j one at unit covers owed. ⊎_elim
        (λ (among : (unit_start kind units.first ≤ unit_start kind unit) × (unit_end kind unit ≤ unit_start kind units.last)).
        ⊎_elim
        (λ (doomed : is_doomed hosts one ≡ true). inl doomed)
        (λ (before : j ≤ k).
        let inside = covered unit among in
        let own : covers_unit unit attempt ≡ true = ap (covers_by unit) work ∙ inside in
        let same : row_bytes_at policy kind unit over ≡ unit_part_by index unit attempt.work
        = written-unit policy oid offset piece index is row fits unit inside ∙ ap (unit_part_by index unit) (sym work) in
        inr (own_at over j unit before own same))
        (owes j one at owed))
        (λ (apart : (unit_end kind unit ≤ unit_start kind units.first) ⊎ (unit_start kind units.last ≤ unit_start kind unit)).
        let same : row_bytes_at policy kind unit over ≡ row_bytes_at policy kind unit row
        = beside-unit policy oid offset piece index is row fits unit (beside unit apart) in
        ⊎_elim
        (λ (own : j ≡ k).
        let it : one ≡ attempt = same_Some one attempt (sym at ∙ ap (slice_get attempts) own ∙ there) in
        let covered_by : covers_by unit (Write oid policy offset piece) ≡ true
        = ap (covers_by unit) (sym work) ∙ ap (covers_unit unit) (sym it) ∙ covers in
        absurd (outside unit apart covered_by))
        (λ (other : j ≢ k). ⊎_elim
        (λ (doomed : is_doomed hosts one ≡ true). inl doomed)
        (λ (read : reading_of policy oid attempts unit j index (row_bytes_at policy kind unit row)).
        inr (subst (reading_of policy oid attempts unit j index) (sym same) read))
        (had j one at other unit covers owed))
        (cases_eq j k))
        (unit-among kind unit units.first units.last);
  }
    where
      over : List ℕ
      over = laid_over row (part_size policy kind offset) (part policy kind index piece)

      from : offset ≡ unit_start kind units.first
      from = units.begins

      to : offset + length piece ≡ unit_start kind units.last
      to = units.ends

      both : (a b : Bool) → a ≡ true → b ≡ true → (a && b) ≡ true
      both true b one other = other
      both false b one other = absurd (cc (one))

      covered : (unit : ℕ) → (unit_start kind units.first ≤ unit_start kind unit) × (unit_end kind unit ≤ unit_start kind units.last)
          → covers_by unit (Write oid policy offset piece) ≡ true
      covered unit among =
          let low = among.0 in
          let high = among.1 in
          let begins = from in
          let ends = to in
          both (nat_le offset (unit_start kind unit)) (nat_le (unit_end kind unit) (offset + length piece))
          (le-leb offset (unit_start kind unit) (omega (arith, low, begins)))
          (le-leb (unit_end kind unit) (offset + length piece) (omega (arith, high, ends)))

      beside : (unit : ℕ) → (unit_end kind unit ≤ unit_start kind units.first) ⊎ (unit_start kind units.last ≤ unit_start kind unit)
          → (unit_end kind unit ≤ offset) ⊎ (offset + length piece ≤ unit_start kind unit)
      beside unit (inl before) = let begins = from in inl (omega (arith, before, begins))
      beside unit (inr behind) = let ends = to in inr (omega (arith, behind, ends))

      outside : (unit : ℕ) → (unit_end kind unit ≤ unit_start kind units.first) ⊎ (unit_start kind units.last ≤ unit_start kind unit)
          → covers_by unit (Write oid policy offset piece) ≡ true → ⊥
      outside unit apart covers =
          let parts = and_parts (nat_le offset (unit_start kind unit)) (nat_le (unit_end kind unit) (offset + length piece)) covers in
          let low = leb-true offset (unit_start kind unit) parts.0 in
          let high = leb-true (unit_end kind unit) (offset + length piece) parts.1 in
          let some = some_bytes kind unit in
          ⊎_elim
          (λ (before : unit_end kind unit ≤ unit_start kind units.first). let begins = from in omega (arith, before, begins, low, some))
          (λ (behind : unit_start kind units.last ≤ unit_start kind unit). let ends = to in omega (arith, behind, ends, high, some))
          apart
