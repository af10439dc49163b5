-- A piece of a copy that a node answers to a read is of attempts, if the row is that it was read of.
use Rattle.std.proofs.Common.{◌≡◌, arith, ℕ, ◌+◌, ◌-◌, ◌≤◌, ◌<◌, nat_eq, nat_le, nat_lt, min, Bool, true, false, cond, List, []}
use Rattle.std.proofs.Common.{length, drop, slice_get, get_or, Option, Some, None, Result, Ok, Err, refl, sym, ap, subst, ◌∙◌}
use Rattle.std.proofs.lemmas.Bool.{and_parts, eqb-true, le-leb}
use Rattle.std.proofs.Math.Nat.{zero-div}
use Rattle.std.proofs.lemmas.List.{ext_get_or, get_or-take, get_or-drop, length-drop, length-take}
use Rattle.proof_tools.proofs.Lists.{find-contains}
use Rattle.object_id.specs.declared.oid.Kind.{Kind}
use Rattle.object_id.specs.declared.oid.Kind.TheVariants.{Block, Inode}
use Rattle.object_id.specs.declared.policy.Policy.{Policy}
use Rattle.object_id.specs.declared.policy.Policy.TheVariants.{Copies, Coded}
use Rattle.object_id.specs.Oid.{kind_of}
use Rattle.object_store.specs.declared.fault.StoreFault.{StoreFault}
use Rattle.object_store.specs.declared.fault.StoreFault.TheVariants.{OutOfObject}
use Rattle.object_store.specs.declared.key.Key.{Key}
use Rattle.object_store.specs.declared.row.RowCopy.{RowCopy}
use Rattle.object_store.specs.Bytes.{piece_at}
use Rattle.object_store.specs.Rows.{is_open, is_open_at, open_at}
use Rattle.object_store.specs.Store.{SeenRow, AllRows, rows_of, on_open, read_at, copy_at, write_at}
use Rattle.inode.specs.declared.layout.TheConstants.{INODE_HEADER_BYTES}
use Rattle.gf256.specs.Part.{is_in_strips, part_size}
use Rattle.peer_proto.specs.declared.ask.PeerAsk.{PeerAsk}
use Rattle.peer_proto.specs.declared.ask.PeerAsk.TheVariants as asks
use Rattle.peer_proto.specs.declared.ask.PeerReq.{PeerReq}
use Rattle.peer_proto.specs.declared.say.PeerSay.{PeerSay}
use Rattle.peer_proto.specs.declared.say.PeerSay.TheVariants as says
use Rattle.peer_proto.specs.declared.say.Refusal.{Refusal}
use Rattle.peer_proto.specs.declared.work.ObjWork.{ObjWork}
use Rattle.peer_proto.specs.declared.work.ObjWork.TheVariants as obj_works
use Rattle.peer_proto.specs.Work.{oid_of, policy_of}
use Rattle.peer_service.specs.State.{Peer, is_waiting}
use Rattle.peer_service.specs.Fence.{epoch_refusal}
use Rattle.peer_service.specs.Serve.{peer_step, own_epoch_step, step_behind_fence, step_if_recovered, peer_write_step, peer_say_step}
use Rattle.peer_service.specs.Serve.{piece_or_refusal, row_or_none, reply_to}
use Rattle.gateway.specs.Work.{ask_for, is_making}
use Rattle.overlap_law.specs.Attempts.{AttemptRecord}
use Rattle.overlap_law.specs.Since.{IsOfAttempts}
use Rattle.overlap_law.specs.ToldPieces.{offset_read, IsPieceOfAttempts}
use Rattle.overlap_law.specs.Units.{unit_start, unit_size, unit_end, row_bytes_at}
use Rattle.overlap_law.proofs.AttemptLists.{place_of}
use Rattle.overlap_law.proofs.CopyUnits.{whole_size}

-- ---- what a node tells of its rows

-- an answer with a piece is one to a read, which gave the piece
abbrev pub GivesPiece : Peer → List ℕ → PeerAsk → Type 0
GivesPiece peer bytes (asks.Create key size offset piece) = ⊥
GivesPiece peer bytes (asks.Write key offset piece) = ⊥
GivesPiece peer bytes (asks.Read key offset size) = read_at peer.rows key offset size ≡ Ok bytes
GivesPiece peer bytes asks.List = ⊥
GivesPiece peer bytes (asks.RecoverRead oid level) = ⊥

abbrev piece_said : PeerSay → List ℕ
piece_said (says.Piece bytes) = bytes
piece_said _ = []

own_epoch_gives : (ask : PeerAsk) (peer : Peer) (bytes : List ℕ) → (own_epoch_step ask peer).say ≡ says.Piece bytes
    → GivesPiece peer bytes ask
unfolding own_epoch_step
own_epoch_gives (asks.Create key size offset piece) peer bytes said = cc (said)
own_epoch_gives (asks.Write key offset piece) peer bytes said = by_write (is_waiting peer key.oid)
    (write_at peer.rows key offset piece) said
  where
    by_write : (b : Bool) (r : Result AllRows StoreFault) → (step_if_recovered b peer (peer_write_step r peer)).say ≡ says.Piece bytes → ⊥
    by_write true r is = cc (is)
    by_write false (Ok rows) is = cc (is)
    by_write false (Err fault) is = cc (is)
own_epoch_gives (asks.Read key offset size) peer bytes said = by_read (is_waiting peer key.oid) (read_at peer.rows key offset size) said
  where
    by_read : (b : Bool) (r : Result (List ℕ) StoreFault)
        → (step_if_recovered b peer (peer_say_step (piece_or_refusal r) peer)).say ≡ says.Piece bytes → r ≡ Ok bytes
    by_read true r is = absurd (cc (is))
    by_read false (Ok piece) is = ap (λ (say : PeerSay). Ok (piece_said say)) is
    by_read false (Err fault) is = absurd (cc (is))
own_epoch_gives asks.List peer bytes said = cc (said)
own_epoch_gives (asks.RecoverRead oid level) peer bytes said = by_row (copy_at peer.rows oid level.0) said
  where
    by_row : (o : Option RowCopy) → row_or_none o ≡ says.Piece bytes → ⊥
    by_row None is = cc (is)
    by_row (Some row) is = cc (is)

pub peer_gives : (peer : Peer) (request : PeerReq) (bytes : List ℕ) → (reply_to peer request).say ≡ says.Piece bytes
    → GivesPiece peer bytes request.ask
unfolding peer_step
peer_gives peer request bytes said = by_fence (epoch_refusal peer.epoch request.epoch.0) said
  where
    by_fence : (o : Option Refusal) → (step_behind_fence o request.ask peer).say ≡ says.Piece bytes → GivesPiece peer bytes request.ask
    by_fence None is = own_epoch_gives request.ask peer bytes is
    by_fence (Some refusal) is = absurd (cc (is))

-- a piece is read of an open row, from an offset on
pub record IsReadOfRow (rows : AllRows) (oid index offset : ℕ) (bytes : List ℕ) : Type 0 where
  pub place : ℕ
  pub row : SeenRow
  pub there : slice_get (rows_of rows oid) place ≡ Some row
  pub is_last : is_open row ≡ true
  pub index_so : row.index ≡ index
  pub size : ℕ
  pub same : piece_at row.bytes offset size ≡ bytes

abbrev piece_read : Result (List ℕ) StoreFault → List ℕ
piece_read (Ok piece) = piece
piece_read (Err fault) = []

read_of_row : (rows : AllRows) (key : Key) (offset size : ℕ) (bytes : List ℕ) → read_at rows key offset size ≡ Ok bytes
    → IsReadOfRow rows key.oid key.index offset bytes
read_of_row rows key offset size bytes read = by_row (open_at key.index (rows_of rows key.oid)) refl read
  where
    within : (b : Bool) (piece : List ℕ) → cond b (Ok piece) (Err OutOfObject) ≡ Ok bytes → piece ≡ bytes
    within true piece is = ap (λ (r : Result (List ℕ) StoreFault). piece_read r) is
    within false piece is = absurd (cc (is))

    by_row : (o : Option SeenRow) → open_at key.index (rows_of rows key.oid) ≡ o
        → on_open (offset + size) o (λ row. piece_at row.bytes offset size) ≡ Ok bytes → IsReadOfRow rows key.oid key.index offset bytes
    by_row None is so = absurd (cc (so))
    by_row (Some row) is so =
        let (among, passed) = find-contains (is_open_at key.index) (rows_of rows key.oid) row is in
        let (place, there) = place_of (rows_of rows key.oid) row among in
        record {
          place = place;
          row = row;
          there = there;
          is_last = (and_parts (is_open row) (nat_eq row.index key.index) passed).0;
          index_so = eqb-true row.index key.index (and_parts (is_open row) (nat_eq row.index key.index) passed).1;
          size = size;
          same = within (nat_le (offset + size) (length row.bytes)) (piece_at row.bytes offset size) so;
        }

-- and so is what a node answers to a message of a read of copies
pub work_reads : (work : ObjWork) (index : ℕ) (peer : Peer) (bytes : List ℕ) → GivesPiece peer bytes (ask_for work index)
    → is_in_strips (policy_of work) (kind_of (oid_of work)) ≡ false → IsReadOfRow peer.rows (oid_of work) index (offset_read work) bytes
work_reads (obj_works.Create oid policy size offset piece) index peer bytes gives whole = absurd gives
work_reads (obj_works.Write oid policy offset piece) index peer bytes gives whole = absurd gives
work_reads (obj_works.Read oid policy offset size) index peer bytes gives whole =
    let key : Key = record { oid = oid; index = index } in
    read_of_row peer.rows key offset (part_size policy (kind_of oid) size) bytes
    (subst (λ (k : ℕ). read_at peer.rows key k (part_size policy (kind_of oid) size) ≡ Ok bytes)
    (whole_size policy (kind_of oid) whole offset) gives)
work_reads (obj_works.ReadAll oid policy size) index peer bytes gives whole =
    read_of_row peer.rows (record { oid = oid; index = index }) 0 (part_size policy (kind_of oid) size) bytes gives

-- the part at an index of no bytes has none
part_of_none : (policy : Policy) (kind : Kind) → part_size policy kind 0 ≡ 0
part_of_none (Copies copies) kind = refl
part_of_none (Coded d p) Block = zero-div d
part_of_none (Coded d p) Inode = refl

-- and so is what is answered to a message of any read, from the offset's part on
pub work_cuts : (work : ObjWork) (index : ℕ) (peer : Peer) (bytes : List ℕ) → GivesPiece peer bytes (ask_for work index)
    → (is_making work ≡ false)
    × IsReadOfRow peer.rows (oid_of work) index (part_size (policy_of work) (kind_of (oid_of work)) (offset_read work)) bytes
work_cuts (obj_works.Create oid policy size offset piece) index peer bytes gives = absurd gives
work_cuts (obj_works.Write oid policy offset piece) index peer bytes gives = absurd gives
work_cuts (obj_works.Read oid policy offset size) index peer bytes gives = (
  refl,
  read_of_row peer.rows (record { oid = oid; index = index }) (part_size policy (kind_of oid) offset) (part_size policy (kind_of oid) size)
      bytes gives,
)
work_cuts (obj_works.ReadAll oid policy size) index peer bytes gives = (
  refl,
  subst (λ (from : ℕ). IsReadOfRow peer.rows oid index from bytes) (sym (part_of_none policy (kind_of oid)))
      (read_of_row peer.rows (record { oid = oid; index = index }) 0 (part_size policy (kind_of oid) size) bytes gives),
)

-- ---- a piece of a copy that is of attempts

got_piece : (bytes : List ℕ) (offset n i : ℕ) → i < n → get_or (piece_at bytes offset n) i 0 ≡ get_or bytes (offset + i) 0
got_piece bytes offset n i inside = get_or-take n (drop offset bytes) i 0 inside ∙ get_or-drop offset bytes i 0

length-piece : (bytes : List ℕ) (offset n : ℕ) → length (piece_at bytes offset n) ≡ min n (length bytes - offset)
length-piece bytes offset n = length-take n (drop offset bytes) ∙ ap (min n) (length-drop offset bytes)

-- a piece inside another
pub piece-of_piece : (bytes : List ℕ) (offset size from n : ℕ) → offset ≤ from → from + n ≤ offset + length (piece_at bytes offset size)
    → piece_at (piece_at bytes offset size) (from - offset) n ≡ piece_at bytes from n
piece-of_piece bytes offset size from n above below =
    let piece : List ℕ = piece_at bytes offset size in
    let long = length-piece bytes offset size in
    let one = length-piece piece (from - offset) n in
    let other = length-piece bytes from n in
    ext_get_or 0 (piece_at piece (from - offset) n) (piece_at bytes from n) (omega (arith, long, one, other))
    (λ i within.
    let inside : i < n = omega (arith, one) in
    let at : offset + (from - offset + i) ≡ from + i = omega arith in
    got_piece piece (from - offset) n i inside
    ∙ got_piece bytes offset size (from - offset + i) (omega (arith, long))
    ∙ ap (λ k. get_or bytes k 0) at
    ∙ sym (got_piece bytes from n i inside))

some_bytes : (kind : Kind) (unit : ℕ) → 1 ≤ unit_size kind unit
some_bytes Block unit = omega arith
some_bytes Inode unit = by_part (nat_lt unit INODE_HEADER_BYTES)
  where
    by_part : (b : Bool) → 1 ≤ cond b 1 4
    by_part true = omega arith
    by_part false = omega arith

pub piece-of_attempts : (kind : Kind) (policy : Policy) (attempts : List AttemptRecord) (index offset size : ℕ) (row : List ℕ)
    → is_in_strips policy kind ≡ false → IsOfAttempts kind policy attempts index row
    → IsPieceOfAttempts kind attempts index offset (piece_at row offset size)
piece-of_attempts kind policy attempts index offset size row whole of = record {
  each = λ unit above below.
      let from : ℕ = unit_start kind unit in
      let n : ℕ = unit_size kind unit in
      let some = some_bytes kind unit in
      let long = length-piece row offset size in
      let (k, attempt, at, has) = of.each unit (le-leb (unit_end kind unit) (length row) (omega (arith, long, some))) in
      let here : row_bytes_at policy kind unit row ≡ piece_at row from n
      = λ i. piece_at row (whole_size policy kind whole from i) (whole_size policy kind whole n i) in
      (k, attempt, at, (has.0, piece-of_piece row offset size from n above below ∙ sym here ∙ has.1));
}
