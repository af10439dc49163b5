-- What creates the own object of a write's piece covers each block of the piece, and has the bytes of the write for it.
use Rattle.std.proofs.Common.{◌≡◌, arith, ℕ, ◌+◌, ◌-◌, ◌*◌, ◌%◌, ◌≤◌, ◌++◌, nat_le, true, List, length, drop, take, sym, ap, subst}
use Rattle.std.proofs.Common.{◌∙◌}
use Rattle.std.specs.Prelude.{min}
use Rattle.std.proofs.lemmas.Bool.{le-leb}
use Rattle.std.proofs.lemmas.List.{drop-drop, drop-take, length-append, length-drop, length-replicate, length-take, take-take}
use Rattle.object_id.specs.declared.limits.TheConstants.{BLOCK_BYTES}
use Rattle.object_id.specs.declared.oid.Kind.{Kind}
use Rattle.object_id.specs.declared.oid.Kind.TheVariants.{Block}
use Rattle.object_id.specs.declared.policy.Policy.{Policy}
use Rattle.object_id.specs.Fields.{zeros}
use Rattle.object_id.specs.Oid.{kind_of, object_number}
use Rattle.object_id.specs.Piece.{laid_over}
use Rattle.object_store.specs.Bytes.{piece_at}
use Rattle.inode.specs.Layout.{Content}
use Rattle.peer_proto.specs.declared.work.ObjWork.{ObjWork}
use Rattle.peer_proto.specs.declared.work.ObjWork.TheVariants.{Create}
use Rattle.peer_proto.specs.Work.{IsWork, oid_of}
use Rattle.guest_driver.specs.BegunWorks.{IsPieceAmong}
use Rattle.guest_driver.specs.Pieces.{Piece, piece_bytes}
use Rattle.guest_driver.specs.PieceWorks.{object_bytes, create_piece, create_copy}
use Rattle.overlap_law.specs.CreatedPieces.{OfFetched, CreatesPiece, OfHole, OfCopy}
use Rattle.overlap_law.specs.Pieces.{IsInPiece, bytes_for}
use Rattle.overlap_law.specs.Units.{covers_by, bytes_by, unit_bytes, unit_end}
use Rattle.overlap_law.proofs.UnitPieces.{piece-inside}

-- a piece of a piece
pub piece-of_piece : (bytes : List ℕ) (place at size count : ℕ) → at + count ≤ size
    → piece_at (take size (drop place bytes)) at count ≡ piece_at bytes (place + at) count
piece-of_piece bytes place at size count inside =
    let split : size ≡ at + (size - at) = omega (arith, inside) in
    ap (λ (n : ℕ). take count (drop at (take n (drop place bytes)))) split
    ∙ ap (take count) (drop-take at (size - at) (drop place bytes))
    ∙ take-take count (size - at) (drop at (drop place bytes)) (omega (arith, inside))
    ∙ ap (take count) (drop-drop at place bytes)

module _ (payload : List ℕ) (piece : Piece) (unit : ℕ) (among : IsPieceAmong payload piece) (is_in : IsInPiece piece unit) where
  abbrev own : List ℕ
  own = piece_bytes payload piece

  above : piece.offset ≤ BLOCK_BYTES * unit
  above = is_in.first

  below : BLOCK_BYTES * unit + BLOCK_BYTES ≤ piece.offset + piece.size
  below =
      let less = is_in.last in
      let offset_so : piece.offset % 512 ≡ 0 = among.blocks.offset in
      let size_so : piece.size % 512 ≡ 0 = among.blocks.size in
      omega (arith, less, offset_so, size_so)

  long : length (piece_bytes payload piece) ≡ piece.size
  long =
      let inside = among.among in
      let cut : length (piece_bytes payload piece) ≡ min (piece.place + piece.size - piece.place) (length (drop piece.place payload))
      = length-take (piece.place + piece.size - piece.place) (drop piece.place payload) in
      let left : length (drop piece.place payload) ≡ length payload - piece.place = length-drop piece.place payload in
      omega (arith, inside, cut, left)

  own_block : piece_at (piece_bytes payload piece) (BLOCK_BYTES * unit - piece.offset) BLOCK_BYTES ≡ bytes_for payload piece unit
  own_block =
      let end = below in
      let begin = above in
      piece-of_piece payload piece.place (BLOCK_BYTES * unit - piece.offset) (piece.place + piece.size - piece.place) BLOCK_BYTES
      (omega (arith, end, begin))

  -- where it is laid over other bytes
  laid_block : (bytes : List ℕ) → piece.offset + length (piece_bytes payload piece) ≤ length bytes
      → piece_at (laid_over bytes piece.offset (piece_bytes payload piece)) (BLOCK_BYTES * unit) BLOCK_BYTES ≡ bytes_for payload piece unit
  laid_block bytes fits =
      let end = below in
      let size = long in
      piece-inside bytes piece.offset own (BLOCK_BYTES * unit) BLOCK_BYTES above (omega (arith, end, size)) fits ∙ own_block

  -- a create that is long enough covers it
  covers_own : (oid size offset : ℕ) (policy : Policy) (bytes : List ℕ) → kind_of oid ≡ Block
      → piece.offset + length (piece_bytes payload piece) ≤ size → covers_by unit (Create oid policy size offset bytes) ≡ true
  covers_own oid size offset policy bytes kind fits =
      let end = below in
      let own_size = long in
      ap (λ (k : Kind). nat_le (unit_end k unit) size) kind
      ∙ le-leb (unit_end Block unit) size (omega (arith, end, own_size, fits))

  abbrev Has : ObjWork → Type 0
  Has work = (covers_by unit work ≡ true) × (bytes_by unit work ≡ bytes_for payload piece unit)

  of_hole : (inode : Content) → IsWork (create_piece inode payload piece) → kind_of (object_number inode.vid piece.index) ≡ Block
      → Has (create_piece inode payload piece)
  of_hole inode is kind =
      let full : length (zeros (object_bytes inode)) ≡ object_bytes inode = length-replicate (object_bytes inode) 0 in
      let within = is.1 in (
        covers_own (object_number inode.vid piece.index) (object_bytes inode) piece.offset inode.spec.policy (piece_bytes payload piece)
            kind
            within,
        ap (λ (k : Kind). unit_bytes k unit (laid_over (zeros (object_bytes inode)) piece.offset (piece_bytes payload piece))) kind
            ∙ laid_block (zeros (object_bytes inode)) (omega (arith, full, within)),
      )

  of_copy : (inode : Content) (old : List ℕ) → length old ≡ object_bytes inode → IsWork (create_copy inode payload piece old)
      → kind_of (object_number inode.vid piece.index) ≡ Block → Has (create_copy inode payload piece old)
  of_copy inode old whole is kind =
      let all : List ℕ = laid_over old piece.offset (piece_bytes payload piece) in
      let full : length (zeros (object_bytes inode)) ≡ object_bytes inode = length-replicate (object_bytes inode) 0 in
      let within : 0 + length (laid_over old piece.offset (piece_bytes payload piece)) ≤ object_bytes inode = is.1 in
      let size = long in
      let end = below in
      let first : length (laid_over old piece.offset (piece_bytes payload piece))
      ≡ length (take piece.offset old ++ piece_bytes payload piece) + length (drop (piece.offset + length (piece_bytes payload piece)) old)
      = length-append (take piece.offset old ++ piece_bytes payload piece) (drop (piece.offset + length (piece_bytes payload piece)) old) in
      let second : length (take piece.offset old ++ piece_bytes payload piece)
      ≡ length (take piece.offset old) + length (piece_bytes payload piece)
      = length-append (take piece.offset old) (piece_bytes payload piece) in
      let front : length (take piece.offset old) ≡ min piece.offset (length old) = length-take piece.offset old in
      let rest : length (drop (piece.offset + length (piece_bytes payload piece)) old)
      ≡ length old - (piece.offset + length (piece_bytes payload piece))
      = length-drop (piece.offset + length (piece_bytes payload piece)) old in
      let begin = above in
      let from_start : BLOCK_BYTES * unit - 0 ≡ BLOCK_BYTES * unit = omega arith in
      let fits : piece.offset + length (piece_bytes payload piece) ≤ length old
      = omega (arith, whole, within, size, end, begin, first, second, front, rest) in (
        covers_own (object_number inode.vid piece.index) (object_bytes inode) 0 inode.spec.policy all kind
            (subst (λ (n : ℕ). piece.offset + length (piece_bytes payload piece) ≤ n) whole fits),
        ap
            (λ (k : Kind). unit_bytes k unit
            (laid_over (zeros (object_bytes inode)) 0 (laid_over old piece.offset (piece_bytes payload piece)))) kind
            ∙ piece-inside (zeros (object_bytes inode)) 0 all (BLOCK_BYTES * unit) BLOCK_BYTES (omega arith)
            (omega (arith, first, second, front, rest, size, end, fits)) (omega (arith, within, full))
            ∙ ap (λ (n : ℕ). piece_at (laid_over old piece.offset (piece_bytes payload piece)) n BLOCK_BYTES) from_start
            ∙ laid_block old fits,
      )

  pub created_has : (Fetched : OfFetched) (inode : Content) (work : ObjWork) → IsWork work → kind_of (oid_of work) ≡ Block
      → CreatesPiece Fetched inode payload piece work
      → (covers_by unit work ≡ true) × (bytes_by unit work ≡ bytes_for payload piece unit)
  created_has Fetched inode work is kind (OfHole hole same) =
      subst Has (sym same)
      (of_hole inode (subst IsWork same is) (ap (λ (w : ObjWork). kind_of (oid_of w)) (sym same) ∙ kind))
  created_has Fetched inode work is kind (OfCopy old some apart whole same fetched) =
      subst Has (sym same)
      (of_copy inode old whole (subst IsWork same is) (ap (λ (w : ObjWork). kind_of (oid_of w)) (sym same) ∙ kind))
