-- What a node says to a request can be spelled, where its rows can be told; and it fits what the request asked.
use Rattle.std.proofs.Common.{◌≡◌, inl, inr, arith, ℕ, suc, ◌+◌, ◌-◌, ◌*◌, ◌^◌, ◌<◌, ◌≤◌, nat_lt, nat_le, Bool, true, false, cond, List, []}
use Rattle.std.proofs.Common.{◌∷◌, ◌++◌, length, drop, All, Contains, Option, Some, None, IfSome, Result, Ok, Err, refl, sym, ap, subst}
use Rattle.std.proofs.Common.{◌∙◌}
use Rattle.std.specs.Prelude.{slice_get}
use Rattle.std.specs.Option.{option_map}
use Rattle.std.specs.FinMap as tree
use Rattle.std.proofs.lemmas.Bool.{eq-eqb, leb-true}
use Rattle.std.proofs.lemmas.List.{length-take, length-drop, length-take-le}
use Rattle.std.proofs.lemmas.Map.Keys.{IsStrictlyIncreasing-from_sorted}
use Rattle.proof_tools.proofs.Lists.{Contains-nil, Contains-cons_cases, find-contains}
use Rattle.object_id.specs.declared.limits.TheConstants.{INDEX_MAX}
use Rattle.object_id.specs.declared.node.Epoch.{Epoch}
use Rattle.object_id.specs.Oid.{IsOid}
use Rattle.object_store.specs.declared.fault.StoreFault.{StoreFault}
use Rattle.object_store.specs.declared.fault.StoreFault.TheVariants.{OutOfObject}
use Rattle.object_store.specs.declared.key.Key.{Key}
use Rattle.object_store.specs.Bytes.{piece_at}
use Rattle.object_store.specs.Rows.{is_open_at, holds, row_holding, IsRowAt}
use Rattle.object_store.specs.Store.{AllRows, SeenRow, rows_of, open_row, on_open, write_at, read_at, copy_of}
use Rattle.object_store.proofs.CopyLaws.{row_at-some}
use Rattle.object_store.proofs.MapLemmas.{keys-ascend}
use Rattle.peer_proto.specs.declared.ask.PeerAsk.{PeerAsk}
use Rattle.peer_proto.specs.declared.ask.PeerAsk.TheVariants as asks
use Rattle.peer_proto.specs.declared.ask.PeerReq.{PeerReq}
use Rattle.peer_proto.specs.declared.say.Refusal.{Refusal}
use Rattle.peer_proto.specs.declared.say.Refusal.TheVariants as refusals
use Rattle.peer_proto.specs.declared.say.PeerSay.TheVariants as says
use Rattle.peer_proto.specs.Header.{IsEpoch}
use Rattle.peer_proto.specs.Ids.{id_bytes}
use Rattle.peer_proto.specs.Say.{IsEnd, IsRefusal, IsPeerSay}
use Rattle.peer_proto.proofs.IdLemmas.{length_id_bytes}
use Rattle.peer_proto.proofs.RowLemmas.{ends-trimmed_bytes, length-trimmed_bytes}
use Rattle.peer_service.specs.State.{Peer, is_waiting}
use Rattle.peer_service.specs.Fence.{epoch_refusal}
use Rattle.peer_service.specs.Serve as serve
use Rattle.peer_service.specs.Serve.{piece_or_refusal, peer_say_step, peer_write_step, row_or_none, step_if_recovered, step_behind_fence}
use Rattle.peer_service.specs.Serve.{peer_step}
use Rattle.gateway.specs.Work.{is_making, is_piece, ask_for}
use Rattle.gateway.specs.State.{fits_work}
use Rattle.peer_proto.specs.declared.work.ObjWork.{ObjWork}
use Rattle.peer_proto.specs.declared.work.ObjWork.TheVariants as works
use Rattle.object_id.specs.Oid.{kind_of}
use Rattle.gf256.specs.Part.{part_size, part}
use Rattle.overlap_law.specs.Each.{EachRowOf}

-- ---- rows

-- what a list contains stands at a place of it
row_place : {X : Type 0} (xs : List X) (x : X) → Contains xs x → (place : ℕ) × (slice_get xs place ≡ Some x)
row_place [] x there = absurd (Contains-nil x there)
row_place (y ∷ ys) x there = elim (Contains-cons_cases y ys x there) [
  | inl same ↦ (0, ap Some same)
  | inr behind ↦ (let (place, got) = row_place ys x behind in (suc place, got))
]

-- the row behind a front
behind_front : {X : Type 0} (front rest : List X) (x : X) → slice_get (front ++ x ∷ rest) (length front) ≡ Some x
behind_front [] rest x = refl
behind_front (y ∷ front) rest x = behind_front front rest x

-- the open row of a key is one of the object's
pub open_among : (rows : AllRows) (key : Key) (row : SeenRow) → open_row rows key ≡ Some row
    → (place : ℕ) × (slice_get (rows_of rows key.oid) place ≡ Some row)
open_among rows key row is =
    row_place (rows_of rows key.oid) row (find-contains (is_open_at key.index) (rows_of rows key.oid) row is).0

-- so is the row of a level, which holds the level
pub held_among : (rows : AllRows) (oid level : ℕ) (row : SeenRow) → row_holding level (rows_of rows oid) ≡ Some row
    → (place : ℕ) × (slice_get (rows_of rows oid) place ≡ Some row) × (holds level row ≡ true)
held_among rows oid level row is =
    let at : IsRowAt level (rows_of rows oid) row = row_at-some level (rows_of rows oid) row is in (
      length at.0,
      ap (λ (rows : List SeenRow). slice_get rows (length at.0)) at.2 ∙ behind_front at.0 at.1 row,
      at.3,
    )

-- a piece inside of a row has its length
pub piece_long : (bytes : List ℕ) (offset size : ℕ) → offset + size ≤ length bytes → length (piece_at bytes offset size) ≡ size
piece_long bytes offset size inside =
    let rest : length (drop offset bytes) ≡ length bytes - offset = length-drop offset bytes in
    length-take-le size (drop offset bytes) (omega (arith, rest, inside))

-- ---- what is said can be spelled

-- a row that can be told
pub record CanBeTold (row : SeenRow) : Type 0 where
  pub index : row.index ≤ INDEX_MAX
  pub from : IsEpoch row.from
  pub to : IsEnd row.to
  pub size : length row.bytes < 2 ^ 32

module _ (peer : Peer) (ids : All IsOid (tree.keys peer.rows)) (few : length (tree.keys peer.rows) < 2 ^ 29)
    (rows : (oid : ℕ) → EachRowOf peer.rows oid CanBeTold) where
  abbrev own : Epoch
  own = record { 0 = peer.epoch }

  written_spelled : (result : Result AllRows StoreFault) → IsPeerSay own (peer_write_step result peer).say
  written_spelled (Ok all) = tt
  written_spelled (Err fault) = tt

  if_recovered_spelled : (waiting : Bool) (answer : serve.PeerStep) → IsPeerSay own answer.say
      → IsPeerSay own (step_if_recovered waiting peer answer).say
  if_recovered_spelled true answer is = tt
  if_recovered_spelled false answer is = is

  read_spelled : (key : Key) (offset size : ℕ) → IsPeerSay own (piece_or_refusal (read_at peer.rows key offset size))
  read_spelled key offset size = by_row (open_row peer.rows key) refl
    where
      by_row : (o : Option SeenRow) → open_row peer.rows key ≡ o
          → IsPeerSay own (piece_or_refusal (on_open (offset + size) o (λ (row : SeenRow). piece_at row.bytes offset size)))
      by_row None is = tt
      by_row (Some row) is = by_end (nat_le (offset + size) (length row.bytes))
        where
          by_end : (b : Bool) → IsPeerSay own (piece_or_refusal (cond b (Ok (piece_at row.bytes offset size)) (Err OutOfObject)))
          by_end true =
              let (place, got) = open_among peer.rows key row is in
              let small : length row.bytes < 2 ^ 32 = (rows key.oid place row got).size in
              let rest : length (drop offset row.bytes) ≡ length row.bytes - offset = length-drop offset row.bytes in
              let most = length-take size (drop offset row.bytes) in
              omega (arith, small, rest, most)
          by_end false = tt

  listed_spelled : IsPeerSay own (says.Objects (tree.keys peer.rows))
  listed_spelled =
      let long : length (id_bytes (tree.keys peer.rows)) ≡ length (tree.keys peer.rows) * 8 = length_id_bytes (tree.keys peer.rows) in (
        ids,
        IsStrictlyIncreasing-from_sorted (tree.keys peer.rows) (keys-ascend (tree.entries peer.rows) (tree.entries_sorted peer.rows)),
        omega (arith, few, long),
      )

  told_spelled : (oid level : ℕ) → IsPeerSay own (row_or_none (option_map copy_of (row_holding level (rows_of peer.rows oid))))
  told_spelled oid level = by_row (row_holding level (rows_of peer.rows oid)) refl
    where
      by_row : (o : Option SeenRow) → row_holding level (rows_of peer.rows oid) ≡ o → IsPeerSay own (row_or_none (option_map copy_of o))
      by_row None is = tt
      by_row (Some row) is =
          let (place, got, held) = held_among peer.rows oid level row is in
          let can : CanBeTold row = rows oid place row got in
          record {
            index = can.index;
            from = can.from;
            to = can.to;
            size = can.size;
            within = length-trimmed_bytes row.bytes;
            trimmed = ends-trimmed_bytes row.bytes;
          }

  own_spelled : (ask : PeerAsk) → IsPeerSay own (serve.own_epoch_step ask peer).say
  unfolding serve.own_epoch_step
  own_spelled (asks.Create key size offset bytes) = tt
  own_spelled (asks.Write key offset bytes) =
      if_recovered_spelled (is_waiting peer key.oid) (peer_write_step (write_at peer.rows key offset bytes) peer)
      (written_spelled (write_at peer.rows key offset bytes))
  own_spelled (asks.Read key offset size) =
      if_recovered_spelled (is_waiting peer key.oid) (peer_say_step (piece_or_refusal (read_at peer.rows key offset size)) peer)
      (read_spelled key offset size)
  own_spelled asks.List = listed_spelled
  own_spelled (asks.RecoverRead oid level) = told_spelled oid level.0

  refusal_own : (asked : ℕ) → IfSome (epoch_refusal peer.epoch asked) (IsRefusal own)
  refusal_own asked = by_tests (nat_lt asked peer.epoch) (nat_lt peer.epoch asked)
    where
      by_tests : (older newer : Bool)
          → IfSome (cond older (Some (refusals.OldEpoch own)) (cond newer (Some (refusals.NewEpoch own)) None)) (IsRefusal own)
      by_tests true newer = refl
      by_tests false true = refl
      by_tests false false = tt

  pub said_spelled : (request : PeerReq) → IsPeerSay own (peer_step peer request).say
  unfolding peer_step
  said_spelled request = by_fence (epoch_refusal peer.epoch request.epoch.0) (refusal_own request.epoch.0)
    where
      by_fence : (o : Option Refusal) → IfSome o (IsRefusal own) → IsPeerSay own (step_behind_fence o request.ask peer).say
      by_fence None is = own_spelled request.ask
      by_fence (Some refusal) is = is

-- ---- what is said to a message of a work fits that

module _ (peer : Peer) (work : ObjWork) where
  if_recovered_fits : (waiting : Bool) (answer : serve.PeerStep) → fits_work work answer.say ≡ true
      → fits_work work (step_if_recovered waiting peer answer).say ≡ true
  if_recovered_fits true answer is = refl
  if_recovered_fits false answer is = is

  written_fits : is_making work ≡ true → (result : Result AllRows StoreFault) → fits_work work (peer_write_step result peer).say ≡ true
  written_fits makes (Ok all) = makes
  written_fits makes (Err fault) = refl

  read_fits : (key : Key) (offset size : ℕ) → ((n : ℕ) → n ≡ size → is_piece work n ≡ true)
      → fits_work work (piece_or_refusal (read_at peer.rows key offset size)) ≡ true
  read_fits key offset size fits = by_row (open_row peer.rows key)
    where
      by_row : (o : Option SeenRow)
          → fits_work work (piece_or_refusal (on_open (offset + size) o (λ (row : SeenRow). piece_at row.bytes offset size))) ≡ true
      by_row None = refl
      by_row (Some row) = by_end (nat_le (offset + size) (length row.bytes)) refl
        where
          by_end : (b : Bool) → nat_le (offset + size) (length row.bytes) ≡ b
              → fits_work work (piece_or_refusal (cond b (Ok (piece_at row.bytes offset size)) (Err OutOfObject))) ≡ true
          by_end true inside =
              fits (length (piece_at row.bytes offset size))
              (piece_long row.bytes offset size (leb-true (offset + size) (length row.bytes) inside))
          by_end false outside = refl

  behind_fits : (ask : PeerAsk) → fits_work work (serve.own_epoch_step ask peer).say ≡ true → (o : Option Refusal)
      → fits_work work (step_behind_fence o ask peer).say ≡ true
  behind_fits ask is None = is
  behind_fits ask is (Some refusal) = refl

own_fits : (peer : Peer) (work : ObjWork) (index : ℕ) → fits_work work (serve.own_epoch_step (ask_for work index) peer).say ≡ true
unfolding serve.own_epoch_step
own_fits peer (works.Create oid policy size offset bytes) index = refl
own_fits peer (works.Write oid policy offset bytes) index =
    let key : Key = record { oid = oid; index = index } in
    let result = write_at peer.rows key (part_size policy (kind_of oid) offset) (part policy (kind_of oid) index bytes) in
    if_recovered_fits peer (works.Write oid policy offset bytes) (is_waiting peer oid) (peer_write_step result peer)
    (written_fits peer (works.Write oid policy offset bytes) refl result)
own_fits peer (works.Read oid policy offset size) index =
    let key : Key = record { oid = oid; index = index } in
    let result = read_at peer.rows key (part_size policy (kind_of oid) offset) (part_size policy (kind_of oid) size) in
    if_recovered_fits peer (works.Read oid policy offset size) (is_waiting peer oid) (peer_say_step (piece_or_refusal result) peer)
    (read_fits peer (works.Read oid policy offset size) key (part_size policy (kind_of oid) offset) (part_size policy (kind_of oid) size)
    (λ n same. eq-eqb n (part_size policy (kind_of oid) size) same))
own_fits peer (works.ReadAll oid policy size) index =
    let key : Key = record { oid = oid; index = index } in
    let result = read_at peer.rows key 0 (part_size policy (kind_of oid) size) in
    if_recovered_fits peer (works.ReadAll oid policy size) (is_waiting peer oid) (peer_say_step (piece_or_refusal result) peer)
    (read_fits peer (works.ReadAll oid policy size) key 0 (part_size policy (kind_of oid) size)
    (λ n same. eq-eqb n (part_size policy (kind_of oid) size) same))

pub said_fits_work : (peer : Peer) (request : PeerReq) (work : ObjWork) (index : ℕ) → request.ask ≡ ask_for work index
    → fits_work work (peer_step peer request).say ≡ true
unfolding peer_step
said_fits_work peer request work index is =
    behind_fits peer work request.ask
    (subst (λ (ask : PeerAsk). fits_work work (serve.own_epoch_step ask peer).say ≡ true) (sym is) (own_fits peer work index))
    (epoch_refusal peer.epoch request.epoch.0)
