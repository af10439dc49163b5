-- What a served request, an entry that is read, and coming back leave of the entries that a node has read.
use Rattle.std.proofs.Common.{◌≡◌, ℕ, nat_lt, Bool, true, false, List, [], ◌∷◌, ◌++◌, Option, Some, None, Result, Ok, Err, refl, ◌∙◌, OnOk, OnErr, ap}
use Rattle.proof_tools.proofs.Booleans.{cond_either}
use Rattle.object_id.specs.declared.entry.Entry.{Entry}
use Rattle.object_store.specs.declared.fault.StoreFault.{StoreFault}
use Rattle.object_store.specs.Store.{AllRows, read_at, write_at}
use Rattle.epoch_log.specs.Epochs.{begins_epoch, settled_of}
use Rattle.vnode_table.specs.Targets.{targets_in}
use Rattle.peer_proto.specs.declared.ask.PeerAsk.{PeerAsk}
use Rattle.peer_proto.specs.declared.ask.PeerAsk.TheVariants as asks
use Rattle.peer_proto.specs.declared.ask.PeerReq.{PeerReq}
use Rattle.peer_proto.specs.declared.say.Refusal.{Refusal}
use Rattle.peer_service.specs.State.{Peer, is_waiting}
use Rattle.peer_service.specs.Epochs as peers
use Rattle.peer_service.specs.Epochs.{peer_settled_to}
use Rattle.peer_service.specs.Fence.{epoch_refusal}
use Rattle.peer_service.specs.Serve.{peer_refusal_step, peer_say_step, piece_or_refusal, peer_write_step, step_if_recovered, step_behind_fence, peer_step}
use Rattle.peer_service.specs.Serve as serve
use Rattle.peer_service.specs.LogReading.{without_objects, read_entry}
use Rattle.peer_service.specs.Back.{closed_at_end, come_back}
use Rattle.sheep_node.specs.State.{Node}
use Rattle.sheep_node.specs.RecoveryView.{with_recovered_rows}
use Rattle.sheep_node.specs.LogReading.{epochs_with_entry, peer_with_entry, recovery_with_entry, with_settled, entry_read, on_back}

-- ---- a served request reads nothing of the log

-- what a peer has of the log
pub record Log : Type 0 where
  pub epoch : ℕ
  pub settled : ℕ
  pub entries : List Entry

abbrev pub log_of : Peer → Log
log_of peer = record { epoch = peer.epoch; settled = peer.settled; entries = peer.entries }

abbrev pub SameLog : Peer → Peer → Type 0
SameLog old new = log_of new ≡ log_of old

written_same : (result : Result AllRows StoreFault) (peer : Peer) → SameLog peer (peer_write_step result peer).peer
written_same (Ok rows) peer = refl
written_same (Err fault) peer = refl

if_recovered_same : (waiting : Bool) (peer : Peer) (answer : serve.PeerStep) → SameLog peer answer.peer
    → SameLog peer (step_if_recovered waiting peer answer).peer
if_recovered_same true peer answer h = refl
if_recovered_same false peer answer h = h

answered_same : (ask : PeerAsk) (peer : Peer) → SameLog peer (serve.own_epoch_step ask peer).peer
unfolding serve.own_epoch_step
answered_same (asks.Create key size offset bytes) peer = refl
answered_same (asks.Write key offset bytes) peer =
    if_recovered_same (is_waiting peer key.oid) peer (peer_write_step (write_at peer.rows key offset bytes) peer)
    (written_same (write_at peer.rows key offset bytes) peer)
answered_same (asks.Read key offset size) peer =
    if_recovered_same (is_waiting peer key.oid) peer (peer_say_step (piece_or_refusal (read_at peer.rows key offset size)) peer) refl
answered_same asks.List peer = refl
answered_same (asks.RecoverRead oid level) peer = refl

pub served_same : (peer : Peer) (request : PeerReq) → SameLog peer (peer_step peer request).peer
unfolding peer_step
served_same peer request = by_fence (epoch_refusal peer.epoch request.epoch.0)
  where
    by_fence : (refusal : Option Refusal) → SameLog peer (step_behind_fence refusal request.ask peer).peer
    by_fence None = answered_same request.ask peer
    by_fence (Some refusal) = refl

-- as code: also where that is out of memory
pub served_entries : {A E : Type 0} (result : Result A E) (old new : Peer) (request : PeerReq) → OnOk result (new ≡ (peer_step old request).peer)
    → OnErr result (new ≡ old) → new.entries ≡ old.entries
served_entries (Ok value) old new request served kept =
    ap (λ (peer : Peer). peer.entries) served ∙ ap (λ (log : Log). log.entries) (served_same old request)
served_entries (Err error) old new request served kept = ap (λ (peer : Peer). peer.entries) kept

-- ---- an entry is read, and a node comes back

-- what holds of a peer that has read an entry and may be in the next epoch, holds of it when an epoch is settled
settled_entries : (settled : ℕ) (peer : Peer) → (with_settled settled peer).entries ≡ peer.entries
unfolding peer_settled_to
settled_entries settled peer =
    cond_either (λ (after : Peer). after.entries ≡ peer.entries) (nat_lt peer.settled settled) (peer_settled_to settled peer) peer refl refl

-- the entries that were read, after one more and after coming back
pub entries_reading : (entry : Entry) (node : Node) → (entry_read entry node).peer.entries ≡ node.peer.entries ++ entry ∷ []
unfolding entry_read peers.peer_in_next_epoch read_entry without_objects
entries_reading entry node =
    settled_entries (settled_of (read_entry entry node.peer).entries) (with_recovered_rows (recovery_with_entry entry node) (peer_with_entry entry node))
    ∙ cond_either (λ (after : Peer). after.entries ≡ node.peer.entries ++ entry ∷ []) (begins_epoch entry)
    (peers.peer_in_next_epoch node.me (targets_in (epochs_with_entry entry node)) (read_entry entry node.peer)) (read_entry entry node.peer) refl refl

pub entries_back : (entries : List Entry) (node : Node) → (on_back entries node).peer.entries ≡ entries
unfolding on_back come_back closed_at_end peer_settled_to without_objects
entries_back entries node = refl
