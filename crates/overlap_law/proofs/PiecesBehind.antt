-- The pieces that a write has behind it: where it is tells which they are, their objects are others than that of the piece that it is at,
-- and the session's queue covers them.
use Rattle.std.proofs.Common.{◌≡◌, ⊎_elim, arith, ℕ, zero, suc, ◌+◌, ◌-◌, ◌*◌, ◌^◌, ◌<◌, ◌≤◌, ◌==◌, max, false, All, Contains, List, []}
use Rattle.std.proofs.Common.{◌∷◌, ◌++◌}
use Rattle.std.proofs.Common.{length, take, Option, Some, None, slice_get, refl, sym, ap, subst, ◌∙◌, append_assoc}
use Rattle.std.specs.List.{range_with_len}
use Rattle.std.proofs.lemmas.Bool.{cases_lt}
use Rattle.std.proofs.lemmas.List.{length-append}
use Rattle.std.proofs.lemmas.List.Elements.{All-nil, All-cons, All-head, All-tail, All-append}
use Rattle.std.proofs.lemmas.Option.{same_Some, slice_get_within}
use Rattle.std.proofs.Math.Nat.{max-eq_left, max-eq_right}
use Rattle.std.proofs.Math.Seq.{take-append_seam}
use Rattle.proof_tools.proofs.Booleans.{cond_either}
use Rattle.object_id.specs.declared.cause.Cause.{Cause}
use Rattle.object_id.specs.Fields.{zeros}
use Rattle.inode.specs.Layout.{Content}
use Rattle.peer_proto.specs.declared.guest.DiskAsk.{DiskAsk}
use Rattle.peer_proto.specs.declared.guest.DiskAsk.TheVariants as disk_asks
use Rattle.gateway_queue.specs.declared.queue.Queued.{Queued}
use Rattle.guest_driver.specs.declared.disk.Disk.{Disk}
use Rattle.guest_driver.specs.OnDisk.{pieces_left}
use Rattle.guest_driver.specs.Pieces.{Piece, offset_of, size_of, first_index, last_index, indexes, piece_in, pieces}
use Rattle.guest_driver.specs.PieceWorks.{Backing, Hole, Own, Inherited, entry_of, backing_of, read_piece, table_with_entry}
use Rattle.guest_driver.specs.Refusals.{refusal_on}
use Rattle.guest_driver.specs.Driver as drivers
use Rattle.guest_driver.specs.Driver.{Driver, Reads, Writes, DriverStage, InPlace, Fetching, Creating, Entering, DriverStep, work_step}
use Rattle.guest_driver.specs.Driver.{read_on, write_piece_on, write_on, write_done, begin_unless_refused, begin_driver, driver_on_done}
use Rattle.overlap_law.proofs.AttemptLists.{got_map, place_of}
use Rattle.overlap_law.proofs.CoveredPieces.{CoversPiece}
use Rattle.overlap_law.proofs.RefusedInMoments.{got_front}

-- ---- which pieces a request has

got_range : (a n i k : ℕ) → slice_get (range_with_len a n) i ≡ Some k → k ≡ a + i
got_range a zero i k got = absurd (cc (got))
got_range a (suc n) zero k got = let same = same_Some a k got in omega (arith, same)
got_range a (suc n) (suc i) k got = let later = got_range (a + 1) n i k got in omega (arith, later)

got_below : (a n i k : ℕ) → slice_get (range_with_len a n) i ≡ Some k → k < a + n
got_below a zero i k got = absurd (cc (got))
got_below a (suc n) zero k got = let same = same_Some a k got in omega (arith, same)
got_below a (suc n) (suc i) k got = let later = got_below (a + 1) n i k got in omega (arith, later)

got_seam : {X : Type 0} (xs ys : List X) (x : X) → slice_get (xs ++ x ∷ ys) (length xs) ≡ Some x
got_seam [] ys x = refl
got_seam (y ∷ xs) ys x = got_seam xs ys x

-- each is the one of its object
pub piece_at_place : (shift offset size i : ℕ) (piece : Piece) → slice_get (pieces shift offset size) i ≡ Some piece
    → piece ≡ piece_in shift offset size (first_index shift offset + i)
unfolding pieces
piece_at_place shift offset size i piece got =
    let (k, at, same) = got_map (piece_in shift offset size) (indexes shift offset size) i piece got in
    let index : k ≡ first_index shift offset + i
    = got_range (first_index shift offset) (last_index shift offset size + 1 - first_index shift offset) i k at in
    sym same ∙ ap (piece_in shift offset size) index

both_within : (a b : ℕ) → (a ≤ max a b) × (b ≤ max a b)
both_within a b = ⊎_elim
    (λ (less : a < b).
    let same = max-eq_right {n = a} {m = b} (omega (arith, less)) in (omega (arith, less, same), omega (arith, same)))
    (λ (more : b ≤ a). let same = max-eq_left {n = a} {m = b} more in (omega (arith, same), omega (arith, more, same)))
    (cases_lt a b)

-- a piece tells where its request begins
begins_at : (shift offset size k : ℕ)
    → offset + (piece_in shift offset size k).place ≡ k * 2 ^ shift + (piece_in shift offset size k).offset
begins_at shift offset size k =
    let (first, border) = both_within offset (k * 2 ^ shift) in
    omega (arith, first, border)

-- where a request is: the pieces before one
module _ (shift offset size : ℕ) (before rest : List Piece) (piece : Piece)
    (cut : pieces shift offset size ≡ before ++ piece ∷ rest) where
  pub at_seam : piece ≡ piece_in shift offset size (first_index shift offset + length before)
  at_seam =
      piece_at_place shift offset size (length before) piece
      (ap (λ (all : List Piece). slice_get all (length before)) cut ∙ got_seam before rest piece)

  pub begins_so : offset + piece.place ≡ piece.index * 2 ^ shift + piece.offset
  begins_so =
      subst (λ (p : Piece). offset + p.place ≡ p.index * 2 ^ shift + p.offset) (sym at_seam)
      (begins_at shift offset size (first_index shift offset + length before))

  -- it is of no later object than the last
  pub at_last : piece.index ≤ last_index shift offset size
  unfolding pieces
  at_last =
      let got : slice_get (pieces shift offset size) (length before) ≡ Some piece
      = ap (λ (all : List Piece). slice_get all (length before)) cut ∙ got_seam before rest piece in
      let (k, at, same) = got_map (piece_in shift offset size) (indexes shift offset size) (length before) piece got in
      let index : k ≡ piece.index = ap (λ (p : Piece). p.index) same in
      let least = got_range (first_index shift offset) (last_index shift offset size + 1 - first_index shift offset) (length before) k at in
      let most = got_below (first_index shift offset) (last_index shift offset size + 1 - first_index shift offset) (length before) k at in
      omega (arith, index, least, most)

  -- their objects are before its own
  pub before_earlier : (one : Piece) → Contains before one → one.index < piece.index
  before_earlier one among =
      let (i, got) = place_of before one among in
      let early : one ≡ piece_in shift offset size (first_index shift offset + i)
      = piece_at_place shift offset size i one
      (ap (λ (all : List Piece). slice_get all i) cut ∙ got_front before (piece ∷ rest) i one got) in
      let within : i < length before = slice_get_within before i one got in
      let index : one.index ≡ first_index shift offset + i = ap (λ (p : Piece). p.index) early in
      let here : piece.index ≡ first_index shift offset + length before = ap (λ (p : Piece). p.index) at_seam in
      omega (arith, within, index, here)

-- it tells which they are
pub cut_once : (shift offset later size : ℕ) (before front rest : List Piece) (piece : Piece)
    → pieces shift offset size ≡ before ++ piece ∷ rest → pieces shift later size ≡ front ++ piece ∷ rest → front ≡ before
cut_once shift offset later size before front rest piece cut other =
    let one = begins_so shift offset size before rest piece cut in
    let two = begins_so shift later size front rest piece other in
    let from : later ≡ offset = omega (arith, one, two) in
    let same : front ++ piece ∷ rest ≡ before ++ piece ∷ rest
    = sym other ∙ ap (λ (o : ℕ). pieces shift o size) from ∙ cut in
    let all = ap (λ (list : List Piece). length list) same in
    let of_front = length-append front (piece ∷ rest) in
    let of_before = length-append before (piece ∷ rest) in
    let long : length front ≡ length before = omega (arith, all, of_front, of_before) in
    sym (take-append_seam front (piece ∷ rest)) ∙ (λ i. take (long i) (same i)) ∙ take-append_seam before (piece ∷ rest)

-- ---- what the queue covers

-- the pieces of a request before these, of one of this size
abbrev pub AreCoveredBefore : ℕ → Queued → ℕ → List Piece → Type 0
AreCoveredBefore shift queued size rest =
    (offset : ℕ) × (before : List Piece) × (pieces shift offset size ≡ before ++ rest) × All (CoversPiece queued) before

-- what a queue has for a read or write covers what the request has behind it
abbrev pub CoversBehind : ℕ → Queued → Driver → Type 0
CoversBehind shift queued (Reads told piece rest) = (size : ℕ) × AreCoveredBefore shift queued size (piece ∷ rest)
CoversBehind shift queued (Writes payload stage piece rest) = AreCoveredBefore shift queued (length payload) (piece ∷ rest)
CoversBehind shift queued drivers.Answered = Unit {0}

module _ (shift : ℕ) (queued : Queued) where
  abbrev CoversSo : DriverStep → Type 0
  CoversSo step = CoversBehind shift queued step.driver

  abbrev AreBefore : ℕ → List Piece → Type 0
  AreBefore size rest = AreCoveredBefore shift queued size rest

  one_before : (size : ℕ) (piece : Piece) (rest : List Piece) → CoversPiece queued piece → AreBefore size (piece ∷ rest)
      → AreBefore size rest
  one_before size piece rest covers (offset, before, cut, all) = (
    offset,
    before ++ piece ∷ [],
    cut ∙ sym (append_assoc before (piece ∷ []) rest),
    All-append (CoversPiece queued) before (piece ∷ []) all
        (All-cons (CoversPiece queued) piece [] covers (All-nil (CoversPiece queued))),
  )

  -- a read passes over holes
  reads_behind : (inode : Content) (told : List ℕ) (size : ℕ) (rest : List Piece) → All (CoversPiece queued) rest → AreBefore size rest
      → CoversSo (read_on inode told rest)
  unfolding read_on
  reads_behind inode told size [] covers last = tt
  reads_behind inode told size (piece ∷ rest) covers last =
      cond_either CoversSo (entry_of inode piece == 0) (read_on inode (told ++ zeros piece.size) rest)
      (work_step inode (Reads told piece rest) (read_piece inode piece (entry_of inode piece)))
      (reads_behind inode (told ++ zeros piece.size) size rest (All-tail (CoversPiece queued) piece rest covers)
      (one_before size piece rest (All-head (CoversPiece queued) piece rest covers) last))
      (size, last)

  piece_behind : (inode : Content) (payload : List ℕ) (piece : Piece) (rest : List Piece) → AreBefore (length payload) (piece ∷ rest)
      → (backing : Backing) → CoversSo (write_piece_on inode payload piece rest backing)
  piece_behind inode payload piece rest last Hole = last
  piece_behind inode payload piece rest last Own = last
  piece_behind inode payload piece rest last (Inherited vid) = last

  writes_behind : (inode : Content) (payload : List ℕ) (rest : List Piece) → AreBefore (length payload) rest
      → CoversSo (write_on inode payload rest)
  writes_behind inode payload [] last = tt
  writes_behind inode payload (piece ∷ rest) last = piece_behind inode payload piece rest last (backing_of inode piece)

  done_behind : (inode : Content) (bytes payload : List ℕ) (piece : Piece) (rest : List Piece) (stage : DriverStage)
      → CoversPiece queued piece → AreBefore (length payload) (piece ∷ rest) → CoversSo (write_done inode bytes payload piece rest stage)
  done_behind inode bytes payload piece rest InPlace covers last =
      writes_behind inode payload rest (one_before (length payload) piece rest covers last)
  done_behind inode bytes payload piece rest Fetching covers last = last
  done_behind inode bytes payload piece rest Creating covers last = last
  done_behind inode bytes payload piece rest Entering covers last =
      writes_behind (table_with_entry inode piece) payload rest (one_before (length payload) piece rest covers last)

  pub goes_on_behind : (inode : Content) (bytes : List ℕ) (driver : Driver) (step : DriverStep)
      → driver_on_done inode bytes driver ≡ Some step → All (CoversPiece queued) (pieces_left driver) → CoversBehind shift queued driver
      → CoversBehind shift queued step.driver
  unfolding driver_on_done
  goes_on_behind inode bytes (Reads told piece rest) step next covers (size, last) =
      subst CoversSo (same_Some (read_on inode (told ++ bytes) rest) step next)
      (reads_behind inode (told ++ bytes) size rest (All-tail (CoversPiece queued) piece rest covers)
      (one_before size piece rest (All-head (CoversPiece queued) piece rest covers) last))
  goes_on_behind inode bytes (Writes payload stage piece rest) step next covers last =
      subst CoversSo (same_Some (write_done inode bytes payload piece rest stage) step next)
      (done_behind inode bytes payload piece rest stage (All-head (CoversPiece queued) piece rest covers) last)
  goes_on_behind inode bytes drivers.Answered step next covers last = absurd (cc (next))

pub begins_behind : (disk : Disk) (queued : Queued) (ask : DiskAsk)
    → All (CoversPiece queued) (pieces disk.inode.spec.shift (offset_of ask) (size_of ask))
    → CoversBehind disk.inode.spec.shift queued (begin_driver disk ask).driver
unfolding begin_driver
begins_behind disk queued ask covers = by_refusal ask covers (refusal_on disk false ask)
  where
    by_refusal : (ask : DiskAsk) → All (CoversPiece queued) (pieces disk.inode.spec.shift (offset_of ask) (size_of ask))
        → (refusal : Option Cause)
        → CoversBehind disk.inode.spec.shift queued (begin_unless_refused disk.inode ask refusal).driver
    by_refusal ask covers (Some cause) = tt
    by_refusal (disk_asks.Read offset size) covers None =
        reads_behind disk.inode.spec.shift queued disk.inode [] size (pieces disk.inode.spec.shift offset size) covers
        (offset, [], refl, All-nil (CoversPiece queued))
    by_refusal (disk_asks.Write offset payload) covers None =
        writes_behind disk.inode.spec.shift queued disk.inode payload (pieces disk.inode.spec.shift offset (length payload))
        (offset, [], refl, All-nil (CoversPiece queued))
