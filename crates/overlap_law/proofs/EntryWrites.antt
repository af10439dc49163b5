-- What the write of a table's entry has for the entry's unit: the disk's own id.
use Rattle.std.proofs.Common.{◌≡◌, arith, ℕ, ◌+◌, ◌-◌, ◌*◌, ◌^◌, ◌<◌, ◌≤◌, nat_lt, nat_le, ◌&&◌, Bool, true, false, cond, List, length}
use Rattle.std.proofs.Common.{refl, ap, ◌∙◌}
use Rattle.std.proofs.lemmas.Bool.{ltb-true, le-leb}
use Rattle.object_id.specs.declared.oid.Kind.{Kind}
use Rattle.object_id.specs.declared.oid.Kind.TheVariants.{Inode}
use Rattle.object_id.specs.Fields.{u32_bytes, u32_at}
use Rattle.object_id.specs.Oid.{IsVid, kind_of, inode_number}
use Rattle.object_id.proofs.FieldLemmas.{wide32}
use Rattle.object_store.specs.Bytes.{piece_at}
use Rattle.inode.specs.Layout.{Content}
use Rattle.inode.specs.declared.layout.TheConstants.{INODE_HEADER_BYTES}
use Rattle.guest_driver.specs.Pieces.{Piece}
use Rattle.guest_driver.specs.PieceWorks.{write_entry}
use Rattle.overlap_law.specs.Tables.{entry_unit}
use Rattle.overlap_law.specs.ToDo.{entry_made}
use Rattle.overlap_law.specs.Units.{unit_start, unit_size, unit_end, covers_by}
use Rattle.overlap_law.proofs.KnownDisks.{kind-of_inode}
use Rattle.overlap_law.proofs.WholeWorks.{in_table}

-- where the entry of an index stands in an inode, and how long it is
pub entry_start : (index : ℕ) → unit_start Inode (entry_unit index) ≡ INODE_HEADER_BYTES + 4 * index
entry_start index =
    let same : INODE_HEADER_BYTES + index ≡ index + INODE_HEADER_BYTES = omega arith in ap (unit_start Inode) same ∙ in_table index

abbrev size_by : Bool → ℕ
size_by b = cond b 1 4

pub entry_size : (index : ℕ) → unit_size Inode (entry_unit index) ≡ 4
entry_size index = by_test (nat_lt (entry_unit index) INODE_HEADER_BYTES) refl
  where
    by_test : (b : Bool) → nat_lt (entry_unit index) INODE_HEADER_BYTES ≡ b → size_by b ≡ 4
    by_test true below = let less = ltb-true (entry_unit index) INODE_HEADER_BYTES below in absurd (omega (arith, less))
    by_test false beyond = refl

module _ (inode : Content) (piece : Piece) (id : IsVid inode.vid) where
  abbrev bytes : List ℕ
  bytes = u32_bytes inode.vid

  abbrev from : ℕ
  from = INODE_HEADER_BYTES + 4 * piece.index

  abbrev unit : ℕ
  unit = entry_unit piece.index

  abbrev kind : Kind
  kind = kind_of (inode_number inode.vid)

  pub entry_covered : covers_by unit (write_entry inode piece) ≡ true
  entry_covered =
      let start = entry_start piece.index in
      let size = entry_size piece.index in
      let begins : from ≤ unit_start Inode unit = omega (arith, start) in
      let four : length bytes ≡ 4 = refl in
      let ends : unit_start Inode unit + unit_size Inode unit ≤ from + length bytes = omega (arith, start, size, four) in
      ap (λ (k : Kind). nat_le from (unit_start k unit) && nat_le (unit_end k unit) (from + length bytes)) (kind-of_inode inode.vid id)
      ∙ ap (λ (b : Bool). b && nat_le (unit_end Inode unit) (from + length bytes)) (le-leb from (unit_start Inode unit) begins)
      ∙ le-leb (unit_end Inode unit) (from + length bytes) ends

  pub entry_own : entry_made piece.index (write_entry inode piece) ≡ inode.vid
  entry_own =
      let none : from - from ≡ 0 = omega arith in
      let start : unit_start Inode unit - from ≡ 0 = ap (λ (n : ℕ). n - from) (entry_start piece.index) ∙ none in
      let most = id.1 in
      let fits : inode.vid < 2 ^ 32 = omega (arith, most) in
      ap (λ (k : Kind). u32_at 0 (piece_at bytes (unit_start k unit - from) (unit_size k unit))) (kind-of_inode inode.vid id)
      ∙ (λ i. u32_at 0 (piece_at bytes (start i) (entry_size piece.index i)))
      ∙ wide32.again inode.vid fits
