-- How a write comes from piece to piece: what a driver leaves behind it as a work is done, and that the writes of a piece have its bytes.
use Rattle.std.proofs.Common.{◌≡◌, ◌≢◌, arith, ℕ, ◌+◌, ◌==◌, nat_le, ◌&&◌, Bool, true, false, List, [], ◌∷◌, ◌++◌, length, Option, Some}
use Rattle.std.proofs.Common.{None}
use Rattle.std.proofs.Common.{sym, ap, ◌∙◌, cond}
use Rattle.std.proofs.lemmas.Bool.{and_from, le-leb}
use Rattle.std.proofs.lemmas.Option.{same_Some}
use Rattle.object_id.specs.declared.cause.Cause.{Cause}
use Rattle.object_id.specs.declared.oid.Kind.{Kind}
use Rattle.object_id.specs.declared.oid.Kind.TheVariants.{Block}
use Rattle.object_id.specs.Fields.{zeros}
use Rattle.object_id.specs.Oid.{kind_of, object_number}
use Rattle.inode.specs.Layout.{Content}
use Rattle.peer_proto.specs.declared.guest.DiskAsk.{DiskAsk}
use Rattle.peer_proto.specs.declared.guest.DiskAsk.TheVariants as disk_asks
use Rattle.guest_driver.specs.BegunWorks.{IsPieceAmong}
use Rattle.guest_driver.specs.declared.disk.Disk.{Disk}
use Rattle.guest_driver.specs.Driver as drivers
use Rattle.guest_driver.specs.Driver.{Driver, Reads, Writes, DriverStage, InPlace, Fetching, Creating, Entering, DriverStep, work_step}
use Rattle.guest_driver.specs.Driver.{read_on, write_piece_on, write_on, begin_unless_refused, begin_driver, driver_on_done}
use Rattle.guest_driver.specs.Pieces.{Piece, pieces, piece_bytes}
use Rattle.guest_driver.specs.PieceWorks.{Backing, Hole, Own, Inherited, entry_of, backing_of, read_piece, write_piece, table_with_entry}
use Rattle.guest_driver.specs.Refusals.{refusal_on}
use Rattle.guest_driver.proofs.WorkLemmas.{length-piece_bytes}
use Rattle.overlap_law.specs.Units.{unit_start, unit_end, covers_by}
use Rattle.overlap_law.specs.WrittenPieces.{HasPiece}
use Rattle.overlap_law.proofs.WorksToStay.{own_bytes}

-- ---- what a write in place has

pub has_in_place : (inode : Content) (payload : List ℕ) (piece : Piece) → kind_of (object_number inode.vid piece.index) ≡ Block
    → IsPieceAmong payload piece → HasPiece (write_piece inode payload piece) payload piece
has_in_place inode payload piece block among unit inside =
    let size = length-piece_bytes payload piece among.among in
    let first = inside.first in
    let last = inside.last in
    let whole_offset = among.blocks.offset in
    let whole_size = among.blocks.size in
    let covered : nat_le piece.offset (unit_start Block unit)
    && nat_le (unit_end Block unit) (piece.offset + length (piece_bytes payload piece)) ≡ true
    = and_from (nat_le piece.offset (unit_start Block unit))
    (nat_le (unit_end Block unit) (piece.offset + length (piece_bytes payload piece)))
    (le-leb piece.offset (unit_start Block unit) (omega (arith, first)))
    (le-leb (unit_end Block unit) (piece.offset + length (piece_bytes payload piece))
    (omega (arith, last, size, whole_offset, whole_size))) in
    let covers : covers_by unit (write_piece inode payload piece) ≡ true
    = ap (λ (k : Kind). nat_le piece.offset (unit_start k unit)
    && nat_le (unit_end k unit) (piece.offset + length (piece_bytes payload piece))) block ∙ covered in
    (covers, own_bytes inode payload piece unit block covers)

-- ---- a driver that comes to a piece of a write

-- it is at the first of these pieces, before its entry is written
pub record ComesToPiece (before : List ℕ) (left : List Piece) (payload : List ℕ) (stage : DriverStage) (piece : Piece)
    (rest : List Piece) : Type 0 where
  pub payload_so : before ≡ payload
  pub left_so : left ≡ piece ∷ rest
  pub stage_so : stage ≢ Entering

module _ (payload : List ℕ) (stage : DriverStage) (piece : Piece) (rest : List Piece) where
  abbrev IsHere : DriverStep → Type 0
  IsHere step = step.driver ≡ Writes payload stage piece rest

  comes : (bytes : List ℕ) (now : DriverStage) (first : Piece) (left : List Piece) → now ≢ Entering
      → Writes bytes now first left ≡ Writes payload stage piece rest → ComesToPiece bytes (first ∷ left) payload stage piece rest
  comes bytes now first left apart is =
      let bytes_so : bytes ≡ payload = cc (is) in
      let stage_so : now ≡ stage = cc (is) in
      let first_so : first ≡ piece = cc (is) in
      let left_so : left ≡ rest = cc (is) in
      record {
        payload_so = bytes_so;
        left_so = λ i. first_so i ∷ left_so i;
        stage_so = λ (entering : stage ≡ Entering). apart (stage_so ∙ entering);
      }

  by_backing : (inode : Content) (bytes : List ℕ) (first : Piece) (left : List Piece) (backing : Backing)
      → IsHere (write_piece_on inode bytes first left backing) → ComesToPiece bytes (first ∷ left) payload stage piece rest
  by_backing inode bytes first left Hole is = comes bytes Creating first left (λ never. cc (never)) is
  by_backing inode bytes first left Own is = comes bytes InPlace first left (λ never. cc (never)) is
  by_backing inode bytes first left (Inherited vid) is = comes bytes Fetching first left (λ never. cc (never)) is

  pub write_comes : (inode : Content) (bytes : List ℕ) (left : List Piece)
      → (write_on inode bytes left).driver ≡ Writes payload stage piece rest
      → ComesToPiece bytes left payload stage piece rest
  write_comes inode bytes [] is = absurd (cc (is))
  write_comes inode bytes (first ∷ left) is = by_backing inode bytes first left (backing_of inode first) is

  -- a read comes to none
  pub read_comes_not : (inode : Content) (told : List ℕ) (left : List Piece)
      → (read_on inode told left).driver ≡ Writes payload stage piece rest → ⊥
  unfolding read_on
  read_comes_not inode told [] is = cc (is)
  read_comes_not inode told (first ∷ left) is =
      by_hole (entry_of inode first == 0) (read_comes_not inode (told ++ zeros first.size) left) is
    where
      by_hole : (b : Bool) → (IsHere (read_on inode (told ++ zeros first.size) left) → ⊥)
          → IsHere (cond b (read_on inode (told ++ zeros first.size) left)
          (work_step inode (Reads told first left) (read_piece inode first (entry_of inode first)))) → ⊥
      by_hole true later is = later is
      by_hole false later is = cc (is)

  -- a request that begins is at its first piece
  pub begin_comes : (disk : Disk) (ask : DiskAsk) → (begin_driver disk ask).driver ≡ Writes payload stage piece rest
      → (offset : ℕ) × (pieces disk.inode.spec.shift offset (length payload) ≡ piece ∷ rest) × (stage ≢ Entering)
  unfolding begin_driver
  begin_comes disk ask is = by_refusal ask (refusal_on disk false ask) is
    where
      by_refusal : (ask : DiskAsk) (refusal : Option Cause) → IsHere (begin_unless_refused disk.inode ask refusal)
          → (offset : ℕ) × (pieces disk.inode.spec.shift offset (length payload) ≡ piece ∷ rest) × (stage ≢ Entering)
      by_refusal ask (Some cause) is = absurd (cc (is))
      by_refusal (disk_asks.Read offset size) None is =
          absurd (read_comes_not disk.inode [] (pieces disk.inode.spec.shift offset size) is)
      by_refusal (disk_asks.Write offset bytes) None is =
          let c = write_comes disk.inode bytes (pieces disk.inode.spec.shift offset (length bytes)) is in
          (offset, ap (λ (b : List ℕ). pieces disk.inode.spec.shift offset (length b)) (sym c.payload_so) ∙ c.left_so, c.stage_so)

  -- ---- as a work is done

  -- where the driver was: it goes on with the same piece, before or behind its create; or it has done the piece before
  pub data CameFrom (driver : Driver) : Type 0 where
    Fetched : driver ≡ Writes payload Fetching piece rest → stage ≢ Entering → CameFrom driver
    Created : driver ≡ Writes payload Creating piece rest → stage ≡ Entering → CameFrom driver
    Wrote : (one : Piece) → driver ≡ Writes payload InPlace one (piece ∷ rest) → stage ≢ Entering → CameFrom driver
    Entered : (one : Piece) → driver ≡ Writes payload Entering one (piece ∷ rest) → stage ≢ Entering → CameFrom driver

  pub came_from : (inode : Content) (bytes : List ℕ) (driver : Driver) (step : DriverStep) → driver_on_done inode bytes driver ≡ Some step
      → step.driver ≡ Writes payload stage piece rest → CameFrom driver
  unfolding driver_on_done
  came_from inode bytes (Reads told first left) step next is =
      absurd (read_comes_not inode (told ++ bytes) left
      (ap (λ (s : DriverStep). s.driver) (same_Some (read_on inode (told ++ bytes) left) step next) ∙ is))
  came_from inode bytes (Writes own InPlace first left) step next is =
      let c = write_comes inode own left (ap (λ (s : DriverStep). s.driver) (same_Some (write_on inode own left) step next) ∙ is) in
      Wrote first (λ i. Writes (c.payload_so i) InPlace first (c.left_so i)) c.stage_so
  came_from inode bytes (Writes own Fetching first left) step next is =
      let same : Writes own Creating first left ≡ Writes payload stage piece rest
      = ap (λ (s : DriverStep). s.driver) (same_Some _ step next) ∙ is in
      let c = comes own Creating first left (λ never. cc (never)) same in
      let first_so : first ≡ piece = cc (same) in
      let left_so : left ≡ rest = cc (same) in
      Fetched (λ i. Writes (c.payload_so i) Fetching (first_so i) (left_so i)) c.stage_so
  came_from inode bytes (Writes own Creating first left) step next is =
      let same : Writes own Entering first left ≡ Writes payload stage piece rest
      = ap (λ (s : DriverStep). s.driver) (same_Some _ step next) ∙ is in
      let own_so : own ≡ payload = cc (same) in
      let first_so : first ≡ piece = cc (same) in
      let left_so : left ≡ rest = cc (same) in
      let stage_so : Entering ≡ stage = cc (same) in
      Created (λ i. Writes (own_so i) Creating (first_so i) (left_so i)) (sym stage_so)
  came_from inode bytes (Writes own Entering first left) step next is =
      let c = write_comes (table_with_entry inode first) own left
      (ap (λ (s : DriverStep). s.driver) (same_Some (write_on (table_with_entry inode first) own left) step next) ∙ is) in
      Entered first (λ i. Writes (c.payload_so i) Entering first (c.left_so i)) c.stage_so
  came_from inode bytes drivers.Answered step next is = absurd (cc (next))
