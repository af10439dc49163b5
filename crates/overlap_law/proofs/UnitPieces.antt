-- What a create or write that is served makes of the units of a row: those that it covers become its own part, and the others stay.
use Rattle.std.proofs.Common.{◌≡◌, ◌⊎◌, inl, inr, ⊎_elim, arith, ℕ, ◌+◌, ◌*◌, ◌-◌, ◌<◌, ◌≤◌, nat_lt, nat_le, Bool, true, false, ◌&&◌, cond}
use Rattle.std.proofs.Common.{List, length, drop, min, get_or, refl, sym, ap, subst, ◌∙◌}
use Rattle.std.proofs.lemmas.Bool.{and_parts, cases_lt, le-leb, leb-true, le-ltb, lt-leb, lt-ltb, ltb-true, ltb-false}
use Rattle.std.proofs.lemmas.List.{ext_get_or, get_or-take, get_or-drop, length-drop, length-replicate, length-take}
use Rattle.object_id.specs.declared.oid.Kind.{Kind}
use Rattle.object_id.specs.declared.oid.Kind.TheVariants.{Block, Inode}
use Rattle.object_id.specs.declared.policy.Policy.{Policy}
use Rattle.object_id.specs.declared.policy.Policy.TheVariants.{Copies, Coded}
use Rattle.object_id.specs.Fields.{zeros}
use Rattle.object_id.specs.Oid.{kind_of}
use Rattle.object_id.specs.Piece.{laid_over}
use Rattle.object_id.specs.Policy.{IsPolicy}
use Rattle.object_store.specs.Bytes.{piece_at}
use Rattle.object_store.proofs.CallLaws.{get_or-laid_over, length-laid_over}
use Rattle.inode.specs.declared.layout.TheConstants.{INODE_HEADER_BYTES}
use Rattle.gf256.specs.Part.{IsAligned, part, part_size}
use Rattle.gf256.proofs.PartLaws.{length-part, part-laid_over, part-piece, part-zeros, part_size-add}
use Rattle.peer_proto.specs.declared.work.ObjWork.TheVariants.{Create, Write}
use Rattle.peer_proto.specs.Work.{IsWork}
use Rattle.overlap_law.specs.Units.{unit_start, unit_size, unit_end, row_bytes_at, covers_by, unit_part_by}

-- ---- a piece of bytes over which another was laid

first_so : (a b : Bool) (x y : ℕ) → a ≡ true → b ≡ true → cond (a && b) x y ≡ x
first_so true true x y one other = refl
first_so true false x y one other = absurd (cc (other))
first_so false b x y one other = absurd (cc (one))

second_so : (a b : Bool) (x y : ℕ) → (a ≡ false) ⊎ (b ≡ false) → cond (a && b) x y ≡ y
second_so false b x y either = refl
second_so true false x y either = refl
second_so true true x y either = ⊎_elim (λ (one : true ≡ false). absurd (cc (one))) (λ (other : true ≡ false). absurd (cc (other))) either

got_piece : (bytes : List ℕ) (offset n i : ℕ) → i < n → get_or (piece_at bytes offset n) i 0 ≡ get_or bytes (offset + i) 0
got_piece bytes offset n i inside = get_or-take n (drop offset bytes) i 0 inside ∙ get_or-drop offset bytes i 0

pub length-piece : (bytes : List ℕ) (offset n : ℕ) → length (piece_at bytes offset n) ≡ min n (length bytes - offset)
length-piece bytes offset n = length-take n (drop offset bytes) ∙ ap (min n) (length-drop offset bytes)

-- inside that one it is a piece of it
pub piece-inside : (bytes : List ℕ) (offset : ℕ) (piece : List ℕ) (from n : ℕ) → offset ≤ from → from + n ≤ offset + length piece
    → offset + length piece ≤ length bytes → piece_at (laid_over bytes offset piece) from n ≡ piece_at piece (from - offset) n
piece-inside bytes offset piece from n above below fits =
    let whole : List ℕ = laid_over bytes offset piece in
    let long : length whole ≡ length bytes = length-laid_over bytes offset piece fits in
    let one = length-piece whole from n in
    let other = length-piece piece (from - offset) n in
    ext_get_or 0 (piece_at whole from n) (piece_at piece (from - offset) n) (omega (arith, long, one, other))
    (λ i within.
    let inside : i < n = omega (arith, one) in
    let at : from + i - offset ≡ from - offset + i = omega arith in
    got_piece whole from n i inside
    ∙ get_or-laid_over bytes offset piece (from + i) fits (omega (arith, long))
    ∙ first_so (nat_le offset (from + i)) (nat_lt (from + i) (offset + length piece)) (get_or piece (from + i - offset) 0)
    (get_or bytes (from + i) 0) (le-leb offset (from + i) (omega arith)) (lt-ltb (from + i) (offset + length piece) (omega arith))
    ∙ ap (λ k. get_or piece k 0) at
    ∙ sym (got_piece piece (from - offset) n i inside))

-- and beside that one it is as it was
pub piece-beside : (bytes : List ℕ) (offset : ℕ) (piece : List ℕ) (from n : ℕ) → (from + n ≤ offset) ⊎ (offset + length piece ≤ from)
    → offset + length piece ≤ length bytes → piece_at (laid_over bytes offset piece) from n ≡ piece_at bytes from n
piece-beside bytes offset piece from n either fits =
    let whole : List ℕ = laid_over bytes offset piece in
    let long : length whole ≡ length bytes = length-laid_over bytes offset piece fits in
    let one = length-piece whole from n in
    let other = length-piece bytes from n in
    ext_get_or 0 (piece_at whole from n) (piece_at bytes from n) (omega (arith, long, one, other))
    (λ i within.
    let inside : i < n = omega (arith, one) in
    got_piece whole from n i inside
    ∙ get_or-laid_over bytes offset piece (from + i) fits (omega (arith, long, one))
    ∙ second_so (nat_le offset (from + i)) (nat_lt (from + i) (offset + length piece)) (get_or piece (from + i - offset) 0)
    (get_or bytes (from + i) 0) (outside i inside either)
    ∙ sym (got_piece bytes from n i inside))
  where
    outside : (i : ℕ) → i < n → (from + n ≤ offset) ⊎ (offset + length piece ≤ from)
        → (nat_le offset (from + i) ≡ false) ⊎ (nat_lt (from + i) (offset + length piece) ≡ false)
    outside i inside (inl before) = inl (lt-leb offset (from + i) (omega arith))
    outside i inside (inr behind) = inr (le-ltb (from + i) (offset + length piece) (omega arith))

-- ---- the order of units

-- one unit ends where a later one begins, or before it
pub units-apart : (kind : Kind) (unit later : ℕ) → unit < later → unit_end kind unit ≤ unit_start kind later
units-apart Block unit later less = omega arith
units-apart Inode unit later less = by_tests (nat_lt unit INODE_HEADER_BYTES) (nat_lt later INODE_HEADER_BYTES) refl refl
  where
    both_entries : INODE_HEADER_BYTES ≤ unit
        → INODE_HEADER_BYTES + 4 * (unit - INODE_HEADER_BYTES) + 4 ≤ INODE_HEADER_BYTES + 4 * (later - INODE_HEADER_BYTES)
    both_entries above = omega arith

    by_tests : (b c : Bool) → nat_lt unit INODE_HEADER_BYTES ≡ b → nat_lt later INODE_HEADER_BYTES ≡ c
        → cond b unit (INODE_HEADER_BYTES + 4 * (unit - INODE_HEADER_BYTES)) + cond b 1 4
        ≤ cond c later (INODE_HEADER_BYTES + 4 * (later - INODE_HEADER_BYTES))
    by_tests true true one other = omega arith
    by_tests true false one other =
        let below = ltb-true unit INODE_HEADER_BYTES one in
        let above = ltb-false later INODE_HEADER_BYTES other in
        omega arith
    by_tests false true one other =
        let above = ltb-false unit INODE_HEADER_BYTES one in
        let below = ltb-true later INODE_HEADER_BYTES other in
        absurd (omega arith)
    by_tests false false one other = both_entries (ltb-false unit INODE_HEADER_BYTES one)

-- no later unit begins earlier
pub starts-later : (kind : Kind) (unit later : ℕ) → unit ≤ later → unit_start kind unit ≤ unit_start kind later
starts-later kind unit later most = ⊎_elim
    (λ (less : unit < later). let apart = units-apart kind unit later less in omega arith)
    (λ (least : later ≤ unit). let same : unit ≡ later = omega arith in subst (λ (u : ℕ). unit_start kind unit ≤ unit_start kind u) same
    (omega arith))
    (cases_lt unit later)

-- a unit is among those from one up to another, or it ends before them, or begins behind them
pub unit-among : (kind : Kind) (unit first last : ℕ)
    → ((unit_start kind first ≤ unit_start kind unit) × (unit_end kind unit ≤ unit_start kind last))
    ⊎ ((unit_end kind unit ≤ unit_start kind first) ⊎ (unit_start kind last ≤ unit_start kind unit))
unit-among kind unit first last = ⊎_elim
    (λ (before : unit < first). inr (inl (units-apart kind unit first before)))
    (λ (from : first ≤ unit). ⊎_elim
    (λ (upto : unit < last). inl (starts-later kind first unit from, units-apart kind unit last upto))
    (λ (behind : last ≤ unit). inr (inr (starts-later kind last unit behind)))
    (cases_lt unit last))
    (cases_lt unit first)

-- ---- units of strips are whole blocks

pub aligned-start : (policy : Policy) (kind : Kind) (unit : ℕ) → IsAligned policy kind (unit_start kind unit)
aligned-start (Copies copies) kind unit = tt
aligned-start (Coded d p) Block unit = omega arith
aligned-start (Coded d p) Inode unit = tt

pub aligned-size : (policy : Policy) (kind : Kind) (unit : ℕ) → IsAligned policy kind (unit_size kind unit)
aligned-size (Copies copies) kind unit = tt
aligned-size (Coded d p) Block unit = refl
aligned-size (Coded d p) Inode unit = tt

aligned-add : (policy : Policy) (kind : Kind) (m n : ℕ) → IsAligned policy kind m → IsAligned policy kind n → IsAligned policy kind (m + n)
aligned-add (Copies copies) kind m n one other = tt
aligned-add (Coded d p) Block m n one other = omega arith
aligned-add (Coded d p) Inode m n one other = tt

aligned-less : (policy : Policy) (kind : Kind) (m n : ℕ) → IsAligned policy kind m → IsAligned policy kind n → IsAligned policy kind (n - m)
aligned-less (Copies copies) kind m n one other = tt
aligned-less (Coded d p) Block m n one other = omega arith
aligned-less (Coded d p) Inode m n one other = tt

-- the part of a longer piece is what is left longer
size-split : (policy : Policy) (kind : Kind) (m n : ℕ) → IsPolicy policy → IsAligned policy kind m → IsAligned policy kind n → m ≤ n
    → part_size policy kind n ≡ part_size policy kind m + part_size policy kind (n - m)
size-split policy kind m n is one other most =
    let whole : n ≡ m + (n - m) = omega arith in
    ap (part_size policy kind) whole ∙ part_size-add policy kind m (n - m) is one (aligned-less policy kind m n one other)

-- ---- what a create makes

module _ (policy : Policy) (oid : ℕ) where
  abbrev kind : Kind
  kind = kind_of oid

  abbrev in_part : ℕ → ℕ
  in_part n = part_size policy kind n

  -- each unit of the row is the create's own part
  pub created-unit : (size offset : ℕ) (piece : List ℕ) (index unit : ℕ) → IsWork (Create oid policy size offset piece)
      → unit_end kind unit ≤ size
      → row_bytes_at policy kind unit (laid_over (zeros (in_part size)) (in_part offset) (part policy kind index piece))
      ≡ unit_part_by index unit (Create oid policy size offset piece)
  created-unit size offset piece index unit is ends =
      let whole : List ℕ = laid_over (zeros size) offset piece in
      let full : length (zeros size) ≡ size = length-replicate size 0 in
      let inside = is.1 in
      let fits : offset + length piece ≤ length (zeros size) = omega (arith, full, inside) in
      let long : length whole ≡ size = length-laid_over (zeros size) offset piece fits ∙ full in
      let rows_so : part policy kind index whole ≡ laid_over (zeros (in_part size)) (in_part offset) (part policy kind index piece)
      = part-laid_over policy kind index (zeros size) offset piece is.0 is.2.0 is.2.1 fits
      ∙ ap (λ (bytes : List ℕ). laid_over bytes (in_part offset) (part policy kind index piece))
      (part-zeros policy kind index size is.0 is.3) in
      ap (row_bytes_at policy kind unit) (sym rows_so)
      ∙ sym (part-piece policy kind index whole (unit_start kind unit) (unit_size kind unit) is.0 (aligned-start policy kind unit)
      (aligned-size policy kind unit) (omega (arith, long, ends)))

  -- ---- what a write makes

  module _ (offset : ℕ) (piece : List ℕ) (index : ℕ) (is : IsWork (Write oid policy offset piece)) (row : List ℕ)
      (fits : in_part offset + length (part policy kind index piece) ≤ length row) where
    -- a unit that it covers is the write's own part
    pub written-unit : (unit : ℕ) → covers_by unit (Write oid policy offset piece) ≡ true
        → row_bytes_at policy kind unit (laid_over row (in_part offset) (part policy kind index piece))
        ≡ unit_part_by index unit (Write oid policy offset piece)
    written-unit unit covers =
        let start : ℕ = unit_start kind unit in
        let size : ℕ = unit_size kind unit in
        let end : ℕ = offset + length piece in
        let tests = and_parts (nat_le offset start) (nat_le (unit_end kind unit) end) covers in
        let above : offset ≤ start = leb-true offset start tests.0 in
        let below : start + size ≤ end = leb-true (start + size) end tests.1 in
        let starts = aligned-start policy kind unit in
        let sizes = aligned-size policy kind unit in
        let ends : IsAligned policy kind (start + size) = aligned-add policy kind start size starts sizes in
        let far : IsAligned policy kind end = aligned-add policy kind offset (length piece) is.2.0 is.2.1 in
        let long : length (part policy kind index piece) ≡ in_part (length piece) = length-part policy kind index piece is.0 is.2.1 in
        let from : in_part start ≡ in_part offset + in_part (start - offset)
        = size-split policy kind offset start is.0 is.2.0 starts above in
        let whole : in_part end ≡ in_part offset + in_part (length piece)
        = part_size-add policy kind offset (length piece) is.0 is.2.0 is.2.1 in
        let unit_so : in_part (start + size) ≡ in_part start + in_part size = part_size-add policy kind start size is.0 starts sizes in
        let rest : in_part end ≡ in_part (start + size) + in_part (end - (start + size))
        = size-split policy kind (start + size) end is.0 ends far below in
        let at : in_part start - in_part offset ≡ in_part (start - offset) = omega (arith, from) in
        piece-inside row (in_part offset) (part policy kind index piece) (in_part start) (in_part size) (omega (arith, from))
        (omega (arith, long, whole, unit_so, rest)) fits
        ∙ ap (λ (n : ℕ). piece_at (part policy kind index piece) n (in_part size)) at
        ∙ sym (part-piece policy kind index piece (start - offset) size is.0 (aligned-less policy kind offset start is.2.0 starts) sizes
        (omega (arith, above, below)))

    -- a unit beside it stays
    pub beside-unit : (unit : ℕ) → (unit_end kind unit ≤ offset) ⊎ (offset + length piece ≤ unit_start kind unit)
        → row_bytes_at policy kind unit (laid_over row (in_part offset) (part policy kind index piece)) ≡ row_bytes_at policy kind unit row
    beside-unit unit either =
        piece-beside row (in_part offset) (part policy kind index piece) (in_part start) (in_part size) (apart either) fits
      where
        start : ℕ
        start = unit_start kind unit

        size : ℕ
        size = unit_size kind unit

        starts : IsAligned policy kind start
        starts = aligned-start policy kind unit

        sizes : IsAligned policy kind size
        sizes = aligned-size policy kind unit

        apart : (start + size ≤ offset) ⊎ (offset + length piece ≤ start)
            → (in_part start + in_part size ≤ in_part offset)
            ⊎ (in_part offset + length (part policy kind index piece) ≤ in_part start)
        apart (inl before) =
            let unit_so : in_part (start + size) ≡ in_part start + in_part size = part_size-add policy kind start size is.0 starts sizes in
            let rest = size-split policy kind (start + size) offset is.0 (aligned-add policy kind start size starts sizes) is.2.0 before in
            inl (omega (arith, unit_so, rest))
        apart (inr behind) =
            let long : length (part policy kind index piece) ≡ in_part (length piece) = length-part policy kind index piece is.0 is.2.1 in
            let whole : in_part (offset + length piece) ≡ in_part offset + in_part (length piece)
            = part_size-add policy kind offset (length piece) is.0 is.2.0 is.2.1 in
            let rest = size-split policy kind (offset + length piece) start is.0
            (aligned-add policy kind offset (length piece) is.2.0 is.2.1) starts behind in
            inr (omega (arith, long, whole, rest))
