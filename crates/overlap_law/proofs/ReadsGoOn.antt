-- A read goes on with what may be read: where what it was told so far may be read of its blocks, and so may what comes of a piece, and
-- zeros of holes, then all that it has been told by its next piece, or by its reply, may.
use Rattle.std.proofs.Common.{◌≡◌, ⊎_elim, arith, ℕ, zero, suc, ◌+◌, ◌*◌, ◌-◌, ◌<◌, ◌≤◌, ◌==◌, Bool, true, false}
use Rattle.std.proofs.Common.{cond, All, List, [], ◌∷◌, ◌++◌, length, take, drop, Some, refl, sym, ap, subst, ◌∙◌}
use Rattle.std.specs.Prelude.{slice_index}
use Rattle.std.proofs.lemmas.Bool.{cases_lt, eqb-true}
use Rattle.std.proofs.lemmas.List.{drop-append-le, drop-replicate, length-append, length-drop, length-replicate, take-append-le}
use Rattle.std.proofs.lemmas.List.{take-replicate}
use Rattle.std.proofs.lemmas.List.Elements.{All-head, All-tail}
use Rattle.std.proofs.lemmas.Option.{same_Some}
use Rattle.std.proofs.Math.Seq.{drop-append-add}
use Rattle.object_id.specs.declared.limits.TheConstants.{BLOCK_BYTES}
use Rattle.object_id.specs.Fields.{zeros}
use Rattle.object_store.specs.Bytes.{piece_at}
use Rattle.inode.specs.Layout.{Content}
use Rattle.disk_history.specs.Ledger.{Disk, Ledger}
use Rattle.vdi_directory.specs.declared.effect.Effect.{Effect}
use Rattle.guest_driver.specs.declared.extent.Extent.{Extent}
use Rattle.guest_driver.specs.Pieces.{Piece}
use Rattle.guest_driver.specs.PieceWorks.{entry_of, read_piece}
use Rattle.guest_driver.specs.Driver.{Reads, DriverStep, work_step, read_on, driver_on_done}
use Rattle.guest_driver.specs.Extent.{IsExtent, Touches, first_index_of, last_index_of, piece_at_index, pieces_from, place_at}
use Rattle.guest_driver.proofs.ExtentLemmas.{pieces_from-cons, pieces_from-past, place_at-here, place_at-next, place_at-first, piece-blocks}
use Rattle.guest_driver.proofs.ExtentLemmas.{first-le-last}
use Rattle.overlap_law.specs.Pieces.{IsInPiece, bytes_for}
use Rattle.overlap_law.specs.ToldReads.{Reading, IsReadUpTo, PieceMayBeRead, HoleMayBeRead, ReadStands}
use Rattle.overlap_law.specs.WrittenBlocks.{IsBlockOfDisk, items_at}

-- ---- bytes behind others

piece-in_front : (bytes more : List ℕ) (offset n : ℕ) → offset + n ≤ length bytes
    → piece_at (bytes ++ more) offset n ≡ piece_at bytes offset n
piece-in_front bytes more offset n within =
    ap (take n) (drop-append-le offset bytes more (omega (arith, within)))
    ∙ take-append-le n (drop offset bytes) more (let long = length-drop offset bytes in omega (arith, long, within))

piece-behind : (bytes more : List ℕ) (offset from n : ℕ) → length bytes ≡ offset
    → piece_at (bytes ++ more) (offset + from) n ≡ piece_at more from n
piece-behind bytes more offset from n long =
    ap (λ (k : ℕ). take n (drop (k + from) (bytes ++ more))) (sym long) ∙ ap (take n) (drop-append-add bytes more from)

piece-of_zeros : (size from n : ℕ) → from + n ≤ size → piece_at (zeros size) from n ≡ zeros n
piece-of_zeros size from n within =
    ap (take n) (drop-replicate from size 0) ∙ take-replicate n (size - from) 0 (omega (arith, within))

module _ (May : Reading) (ledger : Ledger) (effects : List Effect) (good_id : ℕ
    → Bool) (inode : Content) (extent : Extent) (is : IsExtent extent) where
  abbrev UpTo : ℕ → List ℕ → Type 0
  UpTo index told = IsReadUpTo May ledger effects good_id inode extent index told

  abbrev HasBlock : ℕ → ℕ → Disk → Type 0
  HasBlock index unit disk = IsBlockOfDisk ledger effects good_id inode.vid disk inode.spec index unit

  -- ---- places

  touches : (index : ℕ) → first_index_of extent ≤ index → index ≤ last_index_of extent → Touches extent index
  touches index low high = record { is = is; first = low; last = high }

  places_grow : (n k : ℕ) → first_index_of extent ≤ k → k + n ≤ last_index_of extent → place_at extent k ≤ place_at extent (k + n)
  places_grow zero k low high = let same : k + 0 ≡ k = omega arith in subst (λ (i : ℕ). place_at extent k ≤ place_at extent i) (sym same)
      (omega arith)
  places_grow (suc n) k low high =
      let at = touches k low (omega (arith, high)) in
      let here = place_at-here extent k at in
      let next = place_at-next extent k at in
      let rest = places_grow n (k + 1) (omega (arith, low)) (omega (arith, high)) in
      let same : k + 1 + n ≡ k + suc n = omega arith in
      subst (λ (i : ℕ). place_at extent k ≤ place_at extent i) same (omega (arith, here, next, rest))

  -- a block of a piece ends inside it
  block-inside : (k unit : ℕ) → Touches extent k → IsInPiece (piece_at_index extent k) unit
      → BLOCK_BYTES * unit + BLOCK_BYTES ≤ (piece_at_index extent k).offset + (piece_at_index extent k).size
  block-inside k unit at inside =
      let offset = (piece-blocks extent k at).offset in
      let size = (piece-blocks extent k at).size in
      let first = inside.first in
      let last = inside.last in
      omega (arith, offset, size, first, last)

  -- ---- one piece more

  module _ (index : ℕ) (told bytes : List ℕ) (at : Touches extent index) (up : UpTo index told)
      (may : PieceMayBeRead May ledger effects good_id inode (piece_at_index extent index) bytes) where
    told_long : length told ≡ (piece_at_index extent index).place
    told_long = up.long ∙ place_at-here extent index at

    earlier : (k unit : ℕ) (disk : Disk) → first_index_of extent ≤ k → k < index → IsInPiece (piece_at_index extent k) unit
        → HasBlock k unit disk → May (items_at disk inode.spec k unit) (bytes_for (told ++ bytes) (piece_at_index extent k) unit)
    earlier k unit disk low less inside block =
        let last = at.last in
        let here = touches k low (omega (arith, less, last)) in
        let next = place_at-next extent k here in
        let n : k + 1 + (index - (k + 1)) ≡ index = omega (arith, less) in
        let grown : place_at extent (k + 1) ≤ place_at extent index =
        subst (λ (i : ℕ). place_at extent (k + 1) ≤ place_at extent i) n
        (places_grow (index - (k + 1)) (k + 1) (omega (arith, low)) (omega (arith, less, last))) in
        let ends = block-inside k unit here inside in
        let first = inside.first in
        let long = up.long in
        subst (λ (list : List ℕ). May (items_at disk inode.spec k unit) list)
        (sym (piece-in_front told bytes
        ((piece_at_index extent k).place + (BLOCK_BYTES * unit - (piece_at_index extent k).offset)) BLOCK_BYTES
        (omega (arith, next, grown, ends, first, long))))
        (up.each k unit disk low less inside block)

    this : (unit : ℕ) (disk : Disk) → IsInPiece (piece_at_index extent index) unit → HasBlock index unit disk
        → May (items_at disk inode.spec index unit) (bytes_for (told ++ bytes) (piece_at_index extent index) unit)
    this unit disk inside block =
        subst (λ (list : List ℕ). May (items_at disk inode.spec index unit) list)
        (sym (piece-behind told bytes (piece_at_index extent index).place
        (BLOCK_BYTES * unit - (piece_at_index extent index).offset) BLOCK_BYTES
        told_long))
        (may.each unit disk inside block)

    pub one_more : UpTo (index + 1) (told ++ bytes)
    one_more = record {
      long =
          let here = told_long in
          let more = may.long in
          let next = place_at-next extent index at in
          length-append told bytes ∙ (λ i. here i + more i) ∙ sym next;
      each = λ k unit disk low less inside block. ⊎_elim
          (λ (before : k < index). earlier k unit disk low before inside block)
          (λ (least : index ≤ k).
          let same : index ≡ k = omega (arith, least, less) in
          subst (λ (i : ℕ). IsInPiece (piece_at_index extent i) unit → HasBlock i unit disk
          → May (items_at disk inode.spec i unit) (bytes_for (told ++ bytes) (piece_at_index extent i) unit))
          same (this unit disk) inside block)
          (cases_lt k index);
    }

  -- ---- holes, up to the next piece that is none

  abbrev Hole : Piece → Type 0
  Hole = HoleMayBeRead May ledger effects good_id inode

  hole-piece : (index : ℕ) → Touches extent index → Hole (piece_at_index extent index) → slice_index inode.table index ≡ 0
      → PieceMayBeRead May ledger effects good_id inode (piece_at_index extent index) (zeros (piece_at_index extent index).size)
  hole-piece index at may hole = record {
    long = length-replicate (piece_at_index extent index).size 0;
    each = λ unit disk inside block.
        let ends = block-inside index unit at inside in
        let first = inside.first in
        subst (λ (list : List ℕ). May (items_at disk inode.spec index unit) list)
        (sym (piece-of_zeros (piece_at_index extent index).size (BLOCK_BYTES * unit - (piece_at_index extent index).offset) BLOCK_BYTES
        (omega (arith, ends, first))))
        (may unit disk hole block);
  }

  abbrev Stands : DriverStep → Type 0
  Stands step = ReadStands May ledger effects good_id inode extent step.driver step.act

  goes : (n index : ℕ) (told : List ℕ) → index + n ≡ last_index_of extent + 1 → first_index_of extent ≤ index
      → All (HoleMayBeRead May ledger effects good_id inode) (pieces_from extent index) → UpTo index told
      → Stands (read_on inode told (pieces_from extent index))
  unfolding read_on
  goes zero index told e low holes up =
      let past : index ≡ last_index_of extent + 1 = omega (arith, e) in
      subst (λ (rest : List Piece). Stands (read_on inode told rest)) (sym (pieces_from-past extent index (omega (arith, past))))
      (told, refl, subst (λ (i : ℕ). UpTo i told) past up)
  goes (suc n) index told e low holes up =
      subst (λ (rest : List Piece). Stands (read_on inode told rest)) (sym (pieces_from-cons extent index high))
      (by_entry (entry_of inode piece == 0) refl
      (λ next. goes n (index + 1) (told ++ zeros (piece_at_index extent index).size) (omega (arith, e)) (omega (arith, low))
      (All-tail Hole piece (pieces_from extent (index + 1)) these) next))
    where
      piece : Piece
      piece = piece_at_index extent index

      high : index ≤ last_index_of extent
      high = omega (arith, e)

      these : All (HoleMayBeRead May ledger effects good_id inode) (piece_at_index extent index ∷ pieces_from extent (index + 1))
      these = subst (All Hole) (pieces_from-cons extent index high) holes

      by_entry : (b : Bool) → (entry_of inode piece == 0) ≡ b
          → (UpTo (index + 1) (told ++ zeros piece.size)
          → Stands (read_on inode (told ++ zeros piece.size) (pieces_from extent (index + 1))))
          → Stands (cond b (read_on inode (told ++ zeros piece.size) (pieces_from extent (index + 1)))
          (work_step inode (Reads told piece (pieces_from extent (index + 1))) (read_piece inode piece (entry_of inode piece))))
      by_entry true hole further =
          further
          (one_more index told (zeros piece.size) (touches index low high) up
          (hole-piece index (touches index low high) (All-head Hole piece (pieces_from extent (index + 1)) these)
          (eqb-true (entry_of inode piece) 0 hole)))
      by_entry false some further = (index, touches index low high, refl, refl, up)

  -- a read that begins
  pub begins : All (HoleMayBeRead May ledger effects good_id inode) (pieces_from extent (first_index_of extent))
      → Stands (read_on inode [] (pieces_from extent (first_index_of extent)))
  begins holes =
      let ordered = first-le-last extent is in
      goes (last_index_of extent + 1 - first_index_of extent) (first_index_of extent) [] (omega (arith, ordered)) (omega arith) holes
      (record {
        long = sym (place_at-first extent is);
        each = λ k unit disk low less inside block. absurd (omega (arith, low, less));
      })

  -- a read of which a piece came
  pub goes_on : (told bytes : List ℕ) (piece : Piece) (rest : List Piece) (step : DriverStep)
      → ReadStands May ledger effects good_id inode extent (Reads told piece rest) step.act
      → PieceMayBeRead May ledger effects good_id inode piece bytes → All (HoleMayBeRead May ledger effects good_id inode) rest
      → driver_on_done inode bytes (Reads told piece rest) ≡ Some step → Stands step
  unfolding driver_on_done
  goes_on told bytes piece rest step (index, at, same, behind, up) may holes next =
      let low = at.first in
      let high = at.last in
      subst Stands
      (ap (read_on inode (told ++ bytes)) (sym behind) ∙ same_Some (read_on inode (told ++ bytes) rest) step next)
      (goes (last_index_of extent - index) (index + 1) (told ++ bytes) (omega (arith, high)) (omega (arith, low))
      (subst (All Hole) behind holes)
      (one_more index told bytes at up (subst (λ (p : Piece). PieceMayBeRead May ledger effects good_id inode p bytes) same may)))
