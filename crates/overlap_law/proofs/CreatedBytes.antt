-- What a create of a write makes of the blocks beside its piece: of a hole zeros, and of a copy what was read of the other object.
use Rattle.std.proofs.Common.{◌≡◌, ◌⊎◌, inl, inr, ⊎_elim, arith, ℕ, ◌+◌, ◌-◌, ◌*◌, ◌%◌, ◌≤◌, ◌<◌, ◌++◌, List, [], ◌∷◌, length, drop, take}
use Rattle.std.proofs.Common.{append-nil, get_or, sym, ap, ◌∙◌}
use Rattle.std.specs.Prelude.{min}
use Rattle.std.proofs.lemmas.Bool.{cases_lt}
use Rattle.std.proofs.lemmas.List.{ext_get_or, get_or-drop, get_or-replicate, get_or-take, length-append, length-drop, length-replicate}
use Rattle.std.proofs.lemmas.List.{length-take, take-append-drop}
use Rattle.object_id.specs.declared.limits.TheConstants.{BLOCK_BYTES}
use Rattle.object_id.specs.declared.oid.Kind.{Kind}
use Rattle.object_id.specs.declared.oid.Kind.TheVariants.{Block}
use Rattle.object_id.specs.Fields.{zeros}
use Rattle.object_id.specs.Oid.{kind_of, object_number}
use Rattle.object_id.specs.Piece.{laid_over}
use Rattle.object_store.specs.Bytes.{piece_at}
use Rattle.object_store.proofs.CallLaws.{length-laid_over}
use Rattle.inode.specs.Layout.{Content}
use Rattle.peer_proto.specs.Work.{IsWork}
use Rattle.guest_driver.specs.BegunWorks.{IsPieceAmong}
use Rattle.guest_driver.specs.Pieces.{Piece, piece_bytes}
use Rattle.guest_driver.specs.PieceWorks.{object_bytes, create_piece, create_copy}
use Rattle.guest_driver.proofs.WorkLemmas.{length-piece_bytes}
use Rattle.overlap_law.specs.Pieces.{IsInPiece}
use Rattle.overlap_law.specs.Units.{bytes_by, unit_bytes}
use Rattle.overlap_law.proofs.UnitPieces.{length-piece, piece-beside, piece-inside}

-- a piece of zeros
zeros_in : (size from : ℕ) → from + BLOCK_BYTES ≤ size → piece_at (zeros size) from BLOCK_BYTES ≡ zeros BLOCK_BYTES
zeros_in size from inside =
    let whole : length (zeros size) ≡ size = length-replicate size 0 in
    let one = length-piece (zeros size) from BLOCK_BYTES in
    let other : length (zeros BLOCK_BYTES) ≡ BLOCK_BYTES = length-replicate {A = ℕ} BLOCK_BYTES 0 in
    ext_get_or 0 (piece_at (zeros size) from BLOCK_BYTES) (zeros BLOCK_BYTES) (omega (arith, whole, one, other, inside))
    (λ i within.
    let few : i < BLOCK_BYTES = omega (arith, within, one, whole, inside) in
    get_or-take BLOCK_BYTES (drop from (zeros size)) i 0 few ∙ get_or-drop from (zeros size) i 0
    ∙ get_or-replicate size (from + i) 0 0 (omega (arith, few, inside))
    ∙ sym (get_or-replicate BLOCK_BYTES i 0 0 few))

-- nothing is laid over
nothing_laid : (old : List ℕ) (offset : ℕ) (own : List ℕ) → length own ≡ 0 → laid_over old offset own ≡ old
nothing_laid old offset [] none =
    let from : offset + 0 ≡ offset = omega arith in
    ap (λ (front : List ℕ). front ++ drop (offset + 0) old) (append-nil (take offset old))
    ∙ ap (λ (n : ℕ). take offset old ++ drop n old) from ∙ take-append-drop offset old
nothing_laid old offset (byte ∷ own) some = absurd (cc (some))

-- what is laid over other bytes, no more of them then than before, ends inside them, or is nothing
laid_fits : (old : List ℕ) (offset : ℕ) (own : List ℕ) → length (laid_over old offset own) ≤ length old
    → (offset + length own ≤ length old) ⊎ (length own ≡ 0)
laid_fits old offset own most =
    let first : length (laid_over old offset own) ≡ length (take offset old ++ own) + length (drop (offset + length own) old)
    = length-append (take offset old ++ own) (drop (offset + length own) old) in
    let second : length (take offset old ++ own) ≡ length (take offset old) + length own = length-append (take offset old) own in
    let front : length (take offset old) ≡ min offset (length old) = length-take offset old in
    let rest : length (drop (offset + length own) old) ≡ length old - (offset + length own) = length-drop (offset + length own) old in
    ⊎_elim
    (λ (beyond : length old < offset + length own). inr (omega (arith, most, first, second, front, rest, beyond)))
    (λ (inside : offset + length own ≤ length old). inl inside)
    (cases_lt (length old) (offset + length own))

module _ (payload : List ℕ) (piece : Piece) (unit : ℕ) (among : IsPieceAmong payload piece) (outside : IsInPiece piece unit → ⊥) where
  abbrev own : List ℕ
  own = piece_bytes payload piece

  long : length (piece_bytes payload piece) ≡ piece.size
  long = length-piece_bytes payload piece among.among

  -- the block ends before the piece, or begins behind it
  beside : (BLOCK_BYTES * unit + BLOCK_BYTES ≤ piece.offset) ⊎ (piece.offset + length (piece_bytes payload piece) ≤ BLOCK_BYTES * unit)
  beside =
      let offset_so : piece.offset % 512 ≡ 0 = among.blocks.offset in
      let size_so = long in
      ⊎_elim
      (λ (before : BLOCK_BYTES * unit < piece.offset). inl (omega (arith, before, offset_so)))
      (λ (first : piece.offset ≤ BLOCK_BYTES * unit). ⊎_elim
      (λ (last : BLOCK_BYTES * unit < piece.offset + piece.size). absurd (outside (record { first = first; last = last })))
      (λ (behind : piece.offset + piece.size ≤ BLOCK_BYTES * unit). inr (omega (arith, behind, size_so)))
      (cases_lt (BLOCK_BYTES * unit) (piece.offset + piece.size)))
      (cases_lt (BLOCK_BYTES * unit) piece.offset)

  module _ (inode : Content) (kind : kind_of (object_number inode.vid piece.index) ≡ Block)
      (inside : BLOCK_BYTES * unit + BLOCK_BYTES ≤ object_bytes inode) where
    pub hole_beside : IsWork (create_piece inode payload piece) → bytes_by unit (create_piece inode payload piece) ≡ zeros BLOCK_BYTES
    hole_beside is =
        let full : length (zeros (object_bytes inode)) ≡ object_bytes inode = length-replicate (object_bytes inode) 0 in
        let within : piece.offset + length (piece_bytes payload piece) ≤ object_bytes inode = is.1 in
        ap (λ (k : Kind). unit_bytes k unit (laid_over (zeros (object_bytes inode)) piece.offset (piece_bytes payload piece))) kind
        ∙ piece-beside (zeros (object_bytes inode)) piece.offset own (BLOCK_BYTES * unit) BLOCK_BYTES beside (omega (arith, full, within))
        ∙ zeros_in (object_bytes inode) (BLOCK_BYTES * unit) inside

    module _ (old : List ℕ) (whole : length old ≡ object_bytes inode) where
      abbrev all : List ℕ
      all = laid_over old piece.offset (piece_bytes payload piece)

      -- as long as what was read
      same_long : length (laid_over old piece.offset (piece_bytes payload piece)) ≤ length old
          → length (laid_over old piece.offset (piece_bytes payload piece)) ≡ length old
      same_long most = ⊎_elim
          (λ (fits : piece.offset + length (piece_bytes payload piece) ≤ length old).
          length-laid_over old piece.offset (piece_bytes payload piece) fits)
          (λ (none : length (piece_bytes payload piece) ≡ 0).
          ap (λ (b : List ℕ). length b) (nothing_laid old piece.offset (piece_bytes payload piece) none))
          (laid_fits old piece.offset (piece_bytes payload piece) most)

      as_read : length (laid_over old piece.offset (piece_bytes payload piece)) ≤ length old
          → piece_at (laid_over old piece.offset (piece_bytes payload piece)) (BLOCK_BYTES * unit) BLOCK_BYTES
          ≡ piece_at old (BLOCK_BYTES * unit) BLOCK_BYTES
      as_read most = ⊎_elim
          (λ (fits : piece.offset + length (piece_bytes payload piece) ≤ length old).
          piece-beside old piece.offset own (BLOCK_BYTES * unit) BLOCK_BYTES beside fits)
          (λ (none : length (piece_bytes payload piece) ≡ 0).
          ap (λ (b : List ℕ). piece_at b (BLOCK_BYTES * unit) BLOCK_BYTES)
          (nothing_laid old piece.offset (piece_bytes payload piece) none))
          (laid_fits old piece.offset (piece_bytes payload piece) most)

      pub copy_beside : IsWork (create_copy inode payload piece old)
          → bytes_by unit (create_copy inode payload piece old) ≡ piece_at old (BLOCK_BYTES * unit) BLOCK_BYTES
      copy_beside is =
          let full : length (zeros (object_bytes inode)) ≡ object_bytes inode = length-replicate (object_bytes inode) 0 in
          let within : 0 + length (laid_over old piece.offset (piece_bytes payload piece)) ≤ object_bytes inode = is.1 in
          let most : length (laid_over old piece.offset (piece_bytes payload piece)) ≤ length old = omega (arith, within, whole) in
          let same = same_long most in
          let from_start : BLOCK_BYTES * unit - 0 ≡ BLOCK_BYTES * unit = omega arith in
          ap
          (λ (k : Kind). unit_bytes k unit
          (laid_over (zeros (object_bytes inode)) 0 (laid_over old piece.offset (piece_bytes payload piece)))) kind
          ∙ piece-inside (zeros (object_bytes inode)) 0 all (BLOCK_BYTES * unit) BLOCK_BYTES (omega arith)
          (omega (arith, same, whole, inside)) (omega (arith, within, full))
          ∙ ap (λ (n : ℕ). piece_at (laid_over old piece.offset (piece_bytes payload piece)) n BLOCK_BYTES) from_start
          ∙ as_read most
