-- What is pending at a node is lacked still where the node serves a request, and where an epoch is settled.
use Rattle.std.proofs.Common.{◌≡◌, ◌≢◌, ⊎_elim, ℕ, ◌+◌, nat_lt, nat_le, ◌==◌, not, Bool, true, false, List}
use Rattle.std.proofs.Common.{length, filter, Option, Some, None, option_map, refl, sym, ap, subst, ◌∙◌}
use Rattle.std.specs.FinMap as tree
use Rattle.std.proofs.lemmas.Bool.{cases_eq}
use Rattle.proof_tools.proofs.Booleans.{cond_either}
use Rattle.object_id.specs.Piece.{laid_over}
use Rattle.object_id.specs.declared.node.NodeId.{NodeId}
use Rattle.object_id.specs.declared.policy.Policy.{Policy}
use Rattle.object_store.specs.declared.key.Key.{Key}
use Rattle.object_store.specs.Rows.{is_open, is_open_at, has_ended_below, purged}
use Rattle.object_store.specs.Store as stores
use Rattle.object_store.specs.Store.{SeenRow, rows_of, open_row, write_in, write_at, create_in}
use Rattle.object_store.proofs.RowLemmas.{AllClosed}
use Rattle.object_store.proofs.StoreLaws.{rows_of-insert_same, rows_of-insert_other, rows_of-each}
use Rattle.peer_proto.specs.declared.ask.PeerAsk.{PeerAsk}
use Rattle.peer_proto.specs.declared.ask.PeerAsk.TheVariants as asks
use Rattle.peer_proto.specs.declared.ask.PeerReq.{PeerReq}
use Rattle.peer_proto.specs.declared.say.Refusal.{Refusal}
use Rattle.peer_proto.specs.declared.say.Refusal.TheVariants as refusals
use Rattle.peer_service.specs.State.{Peer, is_waiting, object_policy}
use Rattle.peer_service.specs.Epochs.{peer_settled_to}
use Rattle.peer_service.specs.Fence.{epoch_refusal}
use Rattle.peer_service.specs.Serve as serve
use Rattle.peer_service.specs.Serve.{peer_refusal_step, peer_say_step, piece_or_refusal, peer_write_step, step_behind_fence, peer_step}
use Rattle.vnode_table.specs.Targets.{targets_in}
use Rattle.recovery.specs.Shown.{is_pending_object}
use Rattle.sheep_node.specs.State.{Node}
use Rattle.sheep_node.specs.LogReading.{with_settled}
use Rattle.overlap_law.proofs.LackedPending.{PendingIsLackedBy, pending_before, not_itself}
use Rattle.overlap_law.proofs.RowsInTurn.{all_filtered, all_changed}
use Rattle.overlap_law.proofs.StoredRows.{write_step_on, write_step_if}

-- of a peer
abbrev pub PeerLacks : NodeId → ℕ → (ℕ → ℕ → Policy → List NodeId) → Peer → Type 0
PeerLacks me epoch targets peer = PendingIsLackedBy me epoch (object_policy peer) targets peer.rows peer.pending

-- and of a node
abbrev pub NodeLacks : Node → Type 0
NodeLacks node = PeerLacks node.recovery.me node.recovery.epoch (targets_in node.epochs) node.peer

-- ---- a request is served

module _ (me : NodeId) (epoch : ℕ) (targets : ℕ → ℕ → Policy → List NodeId) (peer : Peer) (lacks : PeerLacks me epoch targets peer) where
  abbrev Lacks : Peer → Type 0
  Lacks = PeerLacks me epoch targets

  -- the rows of one object are put, which are closed if it is pending still and they were; and no more is pending
  lacks_put : (oid : ℕ) (new : List SeenRow) (pending : Option (List ℕ))
      → ((other : ℕ) → is_pending_object other pending ≡ true → is_pending_object other peer.pending ≡ true)
      → (is_pending_object oid pending ≡ true → AllClosed (rows_of peer.rows oid) → AllClosed new)
      → PendingIsLackedBy me epoch (object_policy peer) targets (tree.insert peer.rows oid new) pending
  lacks_put oid new pending before shut other there =
      let lacked = lacks other (before other there) in
      record {
        policy = lacked.policy;
        policy_so = lacked.policy_so;
        index = lacked.index;
        index_so = lacked.index_so;
        shut = ⊎_elim
            (λ (same : other ≡ oid).
            subst (λ (k : ℕ). AllClosed (rows_of (tree.insert peer.rows oid new) k)) (sym same)
            (subst AllClosed (sym (rows_of-insert_same peer.rows oid new))
            (shut (ap (λ (k : ℕ). is_pending_object k pending) (sym same) ∙ there)
            (subst (λ (k : ℕ). AllClosed (rows_of peer.rows k)) same lacked.shut))))
            (λ (apart : other ≢ oid). subst AllClosed (sym (rows_of-insert_other peer.rows oid new other apart)) lacked.shut)
            (cases_eq other oid);
      }

  created_lacks : (key : Key) (new : List SeenRow)
      → PendingIsLackedBy me epoch (object_policy peer) targets (tree.insert peer.rows key.oid new)
      (option_map (filter (λ other. not (other == key.oid))) peer.pending)
  created_lacks key new =
      lacks_put key.oid new (option_map (filter (λ other. not (other == key.oid))) peer.pending)
      (λ other there. (pending_before (λ k. not (k == key.oid)) peer.pending other there).0)
      (λ there shut.
      absurd (not_itself key.oid key.oid (pending_before (λ k. not (k == key.oid)) peer.pending key.oid there).1 refl))

  written_lacks : (key : Key) (offset : ℕ) (bytes : List ℕ) → Lacks (peer_write_step (write_at peer.rows key offset bytes) peer).peer
  written_lacks key offset bytes = by_row (open_row peer.rows key)
    where
      by_end : (b : Bool) → Lacks (write_step_if b key offset bytes peer).peer
      by_end true =
          lacks_put key.oid (write_in key.index offset bytes (rows_of peer.rows key.oid)) peer.pending (λ other there. there)
          (λ there shut.
          all_changed (λ row. is_open row ≡ false) (is_open_at key.index) (λ (old : List ℕ). laid_over old offset bytes) (λ row is. is)
          (rows_of peer.rows key.oid) shut)
      by_end false = lacks

      by_row : (o : Option SeenRow) → Lacks (write_step_on o key offset bytes peer).peer
      by_row None = lacks
      by_row (Some row) = by_end (nat_le (offset + length bytes) (length row.bytes))

  answered_lacks : (ask : PeerAsk) → Lacks (serve.own_epoch_step ask peer).peer
  unfolding serve.own_epoch_step
  answered_lacks (asks.Create key size offset bytes) =
      created_lacks key (create_in key.index peer.epoch size offset bytes (rows_of peer.rows key.oid))
  answered_lacks (asks.Write key offset bytes) =
      cond_either (λ (step : serve.PeerStep). Lacks step.peer) (is_waiting peer key.oid)
      (peer_refusal_step refusals.Recovery peer) (peer_write_step (write_at peer.rows key offset bytes) peer) lacks
      (written_lacks key offset bytes)
  answered_lacks (asks.Read key offset size) =
      cond_either (λ (step : serve.PeerStep). Lacks step.peer) (is_waiting peer key.oid)
      (peer_refusal_step refusals.Recovery peer)
      (peer_say_step (piece_or_refusal (stores.read_at peer.rows key offset size)) peer) lacks lacks
  answered_lacks asks.List = lacks
  answered_lacks (asks.RecoverRead oid level) = lacks

  pub served_lacks : (request : PeerReq) → Lacks (peer_step peer request).peer
  unfolding peer_step
  served_lacks request = by_fence (epoch_refusal peer.epoch request.epoch.0)
    where
      by_fence : (refusal : Option Refusal) → Lacks (step_behind_fence refusal request.ask peer).peer
      by_fence None = answered_lacks request.ask
      by_fence (Some refusal) = lacks

  -- ---- an epoch is settled

  pub settled_lacks : (settled : ℕ) → Lacks (with_settled settled peer)
  unfolding peer_settled_to
  settled_lacks settled =
      cond_either Lacks (nat_lt peer.settled settled) (peer_settled_to settled peer) peer
      (λ oid there.
      let lacked = lacks oid there in
      record {
        policy = lacked.policy;
        policy_so = lacked.policy_so;
        index = lacked.index;
        index_so = lacked.index_so;
        shut = subst AllClosed (sym (rows_of-each (λ (oid : ℕ). purged settled) peer.rows oid refl))
            (all_filtered (λ row. is_open row ≡ false) (λ (row : SeenRow). not (has_ended_below settled row.to)) (rows_of peer.rows oid)
            lacked.shut);
      }) lacks
