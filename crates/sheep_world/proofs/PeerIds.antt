-- What a peer's recovery sees of it stays in range, whatever is served, read, settled or left as the peer comes back.
use Rattle.std.proofs.Common.{ℕ, ◌+◌, ◌≤◌, ◌==◌, nat_le, Bool, true, false, not, List, [], ◌∷◌, ◌++◌, length, filter, All, Option, Some, None, Result, Ok, Err, sym, subst}
use Rattle.std.specs.Option.{IfSome, option_map}
use Rattle.std.specs.Map.{keys_of}
use Rattle.std.specs.FinMap as tree
use Rattle.std.proofs.lemmas.List.Elements.{All-nil, All-cons, All-head, All-tail, All-filter, All-push}
use Rattle.proof_tools.proofs.Booleans.{cond_either}
use Rattle.proof_tools.proofs.FiniteMaps.{entries-from_entries, All-keys-insert}
use Rattle.object_id.specs.declared.entry.Entry.{Entry}
use Rattle.object_id.specs.declared.node.NodeId.{NodeId}
use Rattle.object_id.specs.declared.policy.Policy.{Policy}
use Rattle.object_id.specs.Oid.{IsOid}
use Rattle.object_store.specs.declared.fault.StoreFault.{StoreFault}
use Rattle.object_store.specs.declared.fault.StoreFault.TheVariants.{OutOfObject}
use Rattle.object_store.specs.Rows.{closed_all, purged}
use Rattle.object_store.specs.Store.{AllRows, SeenRow, with_rows, each_entry, each, rows_of, open_row, on_open, write_in, write_at, create_in, read_at}
use Rattle.object_store.proofs.MapLemmas.{is_sorted-each_entry}
use Rattle.epoch_log.specs.Appending.{IsReservable}
use Rattle.epoch_log.specs.Epochs.{settled_of}
use Rattle.epoch_log.proofs.EpochLemmas.{settled_of-begun}
use Rattle.peer_proto.specs.declared.ask.PeerAsk.{PeerAsk}
use Rattle.peer_proto.specs.declared.ask.PeerAsk.TheVariants as asks
use Rattle.peer_proto.specs.declared.ask.PeerReq.{PeerReq}
use Rattle.peer_proto.specs.declared.say.Refusal.{Refusal}
use Rattle.peer_service.specs.State.{Peer, is_dead_object, is_waiting}
use Rattle.peer_service.specs.Epochs.{rows_entering, peer_in_next_epoch, peer_settled_to}
use Rattle.peer_service.specs.Fence.{epoch_refusal}
use Rattle.peer_service.specs.Serve.{peer_write_step, peer_say_step, piece_or_refusal, step_if_recovered, step_behind_fence, peer_step}
use Rattle.peer_service.specs.Serve as serve
use Rattle.peer_service.specs.LogReading.{kills_object, rows_but, without_objects, read_entry}
use Rattle.peer_service.specs.Back.{closed_at_end, with_log, come_back}
use Rattle.sheep_world.proofs.ReadIds.{ChangesIds}

-- ---- the objects of rows that change

module _ (P : ℕ → Type 0) (change : ℕ → List SeenRow → List SeenRow) where
  keys_changed : (es : List (ℕ × List SeenRow)) → All P (keys_of es) → All P (keys_of (each_entry change es))
  keys_changed [] all = all
  keys_changed (e ∷ es) all = by_rows (change e.0 e.1) (keys_changed es (All-tail P e.0 (keys_of es) all))
    where
      by_rows : (rows : List SeenRow) → All P (keys_of (each_entry change es)) → All P (keys_of (with_rows e.0 rows (each_entry change es)))
      by_rows [] rest = rest
      by_rows (row ∷ rows) rest = All-cons P e.0 (keys_of (each_entry change es)) (All-head P e.0 (keys_of es) all) rest

  keys_each : (rows : AllRows) → All P (tree.keys rows) → All P (tree.keys (each change rows))
  unfolding each
  keys_each rows all =
      subst (λ (es : List (ℕ × List SeenRow)). All P (keys_of es))
      (sym (entries-from_entries (each_entry change (tree.entries rows)) (is_sorted-each_entry change (tree.entries rows) (tree.entries_sorted rows))))
      (keys_changed (tree.entries rows) all)

fewer_pending : (stays : ℕ → Bool) (pending : Option (List ℕ)) → IfSome pending (All IsOid) → IfSome (option_map (filter stays) pending) (All IsOid)
fewer_pending stays None ids = tt
fewer_pending stays (Some oids) ids = All-filter stays IsOid oids ids

-- ---- what a recovery needs of its node's peer

-- it has read a settled epoch, entries that may be reserved, and has rows and pending objects by their ids
pub record IsPeerInRange (peer : Peer) : Type 0 where
  pub settled : 1 ≤ peer.settled
  pub reservable : All IsReservable peer.entries
  pub kept : All IsOid (tree.keys peer.rows)
  pub pending : IfSome peer.pending (All IsOid)

without_range : (goes : ℕ → Bool) (peer : Peer) → IsPeerInRange peer → IsPeerInRange (without_objects goes peer)
unfolding without_objects
without_range goes peer range = record {
  settled = range.settled;
  reservable = range.reservable;
  kept = keys_each IsOid (rows_but goes) peer.rows range.kept;
  pending = fewer_pending (λ (oid : ℕ). not (goes oid)) peer.pending range.pending;
}

pub settled_range : (settled : ℕ) (peer : Peer) → 1 ≤ settled → IsPeerInRange peer → IsPeerInRange (peer_settled_to settled peer)
unfolding peer_settled_to
settled_range settled peer low range = record {
  settled = low;
  reservable = range.reservable;
  kept = keys_each IsOid (λ (oid : ℕ). purged settled) peer.rows range.kept;
  pending = range.pending;
}

pub next_range : (me : NodeId) (targets : ℕ → ℕ → Policy → List NodeId) (peer : Peer) → IsPeerInRange peer
    → IsPeerInRange (peer_in_next_epoch me targets peer)
unfolding peer_in_next_epoch
next_range me targets peer range = record {
  settled = range.settled;
  reservable = range.reservable;
  kept = keys_each IsOid (rows_entering me targets peer) peer.rows range.kept;
  pending = range.pending;
}

pub entry_range : (entry : Entry) (peer : Peer) → IsReservable entry → IsPeerInRange peer → IsPeerInRange (read_entry entry peer)
unfolding read_entry
entry_range entry peer may range =
    without_range (kills_object entry peer) (record peer { entries = peer.entries ++ entry ∷ [] })
    (record {
      settled = range.settled;
      reservable = All-push IsReservable peer.entries entry range.reservable may;
      kept = range.kept;
      pending = range.pending;
    })

pub back_range : (entries : List Entry) (peer : Peer) → All IsReservable entries → All IsOid (tree.keys peer.rows)
    → IsPeerInRange (come_back entries peer)
unfolding come_back closed_at_end peer_settled_to
back_range entries peer may kept =
    let settled : Peer = peer_settled_to (settled_of entries) (with_log entries (closed_at_end peer)) in
    without_range (is_dead_object settled) settled
    (record {
      settled = (settled_of-begun entries).0;
      reservable = may;
      kept = keys_each IsOid (λ (oid : ℕ). purged (settled_of entries)) (each (λ (oid : ℕ). closed_all peer.epoch) peer.rows)
          (keys_each IsOid (λ (oid : ℕ). closed_all peer.epoch) peer.rows kept);
      pending = All-nil IsOid;
    })

-- ---- a request is served

module _ (peer : Peer) (range : IsPeerInRange peer) where
  with_rows_range : (rows : AllRows) → All IsOid (tree.keys rows) → IsPeerInRange (record peer { rows = rows })
  with_rows_range rows kept =
      record { settled = range.settled; reservable = range.reservable; kept = kept; pending = range.pending }

  written_range : (rows : AllRows) → All IsOid (tree.keys rows) → (end : ℕ) (o : Option SeenRow)
      → IsPeerInRange (peer_write_step (on_open end o (λ (row : SeenRow). rows)) peer).peer
  written_range rows kept end None = range
  written_range rows kept end (Some row) =
      cond_either (λ (result : Result AllRows StoreFault). IsPeerInRange (peer_write_step result peer).peer) (nat_le end (length row.bytes))
      (Ok rows) (Err OutOfObject) (with_rows_range rows kept) range

  if_recovered_range : (waiting : Bool) (answer : serve.PeerStep) → IsPeerInRange answer.peer
      → IsPeerInRange (step_if_recovered waiting peer answer).peer
  if_recovered_range true answer after = range
  if_recovered_range false answer after = after

  answered_range : (ask : PeerAsk) → ChangesIds ask → IsPeerInRange (serve.own_epoch_step ask peer).peer
  unfolding serve.own_epoch_step
  answered_range (asks.Create key size offset bytes) is = record {
    settled = range.settled;
    reservable = range.reservable;
    kept = All-keys-insert IsOid peer.rows key.oid (create_in key.index peer.epoch size offset bytes (rows_of peer.rows key.oid)) is range.kept;
    pending = fewer_pending (λ (other : ℕ). not (other == key.oid)) peer.pending range.pending;
  }
  answered_range (asks.Write key offset bytes) is =
      let rows : AllRows = tree.insert peer.rows key.oid (write_in key.index offset bytes (rows_of peer.rows key.oid)) in
      if_recovered_range (is_waiting peer key.oid) (peer_write_step (write_at peer.rows key offset bytes) peer)
      (written_range rows (All-keys-insert IsOid peer.rows key.oid (write_in key.index offset bytes (rows_of peer.rows key.oid)) is range.kept)
      (offset + length bytes) (open_row peer.rows key))
  answered_range (asks.Read key offset size) is =
      if_recovered_range (is_waiting peer key.oid) (peer_say_step (piece_or_refusal (read_at peer.rows key offset size)) peer) range
  answered_range asks.List is = range
  answered_range (asks.RecoverRead oid level) is = range

  pub served_range : (request : PeerReq) → ChangesIds request.ask → IsPeerInRange (peer_step peer request).peer
  unfolding peer_step
  served_range request is = by_fence (epoch_refusal peer.epoch request.epoch.0)
    where
      by_fence : (refusal : Option Refusal) → IsPeerInRange (step_behind_fence refusal request.ask peer).peer
      by_fence None = answered_range request.ask is
      by_fence (Some refusal) = range
