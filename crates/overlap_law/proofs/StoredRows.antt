-- What is kept of the rows of each object, in whichever way a node's store changes them, is kept by each step of the node.
use Rattle.std.proofs.Common.{◌≡◌, ◌≢◌, ⊎_elim, ℕ, ◌+◌, ◌≤◌, nat_lt, nat_le, Bool, true, false, cond, List, [], ◌∷◌, length, map, Option}
use Rattle.std.proofs.Common.{Some, None, Ok, Err, unwrap_or, refl, sym, ap, subst}
use Rattle.std.specs.FinMap as tree
use Rattle.std.proofs.lemmas.Bool.{cases_eq, leb-true}
use Rattle.proof_tools.proofs.Booleans.{cond_either}
use Rattle.object_id.specs.declared.entry.Entry.{Entry}
use Rattle.object_id.specs.declared.entry.Member.{Member}
use Rattle.object_id.specs.declared.node.NodeId.{NodeId}
use Rattle.object_id.specs.declared.policy.Policy.{Policy}
use Rattle.epoch_log.specs.Epochs.{begins_epoch, epoch_of, settled_of}
use Rattle.object_store.specs.declared.fault.StoreFault.TheVariants.{OutOfObject}
use Rattle.object_store.specs.declared.key.Key.{Key}
use Rattle.object_store.specs.Rows.{closed_all, purged}
use Rattle.object_store.specs.Store as stores
use Rattle.object_store.specs.Store.{AllRows, SeenRow, rows_of, open_row, on_open, write_in, write_at, create_in}
use Rattle.object_store.proofs.StoreLaws.{rows_of-insert_same, rows_of-insert_other, rows_of-each}
use Rattle.peer_proto.specs.declared.ask.PeerAsk.{PeerAsk}
use Rattle.peer_proto.specs.declared.ask.PeerAsk.TheVariants as asks
use Rattle.peer_proto.specs.declared.ask.PeerReq.{PeerReq}
use Rattle.peer_proto.specs.declared.say.PeerSay.{PeerSay}
use Rattle.peer_proto.specs.declared.say.Refusal.{Refusal}
use Rattle.peer_proto.specs.declared.say.Refusal.TheVariants as refusals
use Rattle.peer_service.specs.State.{Peer, is_waiting, is_dead_object}
use Rattle.peer_service.specs.Epochs as peers
use Rattle.peer_service.specs.Epochs.{rows_entering, peer_settled_to}
use Rattle.peer_service.specs.Fence.{epoch_refusal}
use Rattle.peer_service.specs.LogReading.{kills_object, without_objects, read_entry}
use Rattle.peer_service.specs.Back.{closed_at_end, come_back}
use Rattle.peer_service.specs.Serve as serve
use Rattle.peer_service.specs.Serve.{peer_refusal_step, peer_say_step, piece_or_refusal, peer_write_step, step_behind_fence, peer_step}
use Rattle.peer_service.proofs.EpochLemmas.{entered_rows, read_rows, back_rows}
use Rattle.vnode_table.specs.Targets.{targets_in}
use Rattle.gateway.specs.State as gateways
use Rattle.recovery.specs.Frame.{Frame}
use Rattle.recovery.specs.Shown.{NodeView, first_in, index_in}
use Rattle.recovery.specs.State.{RecoveryState}
use Rattle.recovery.specs.Steps as recovery_steps
use Rattle.recovery.specs.Steps.{message_end}
use Rattle.recovery.specs.Tick.{state_after_tick}
use Rattle.recovery.proofs.StepLemmas.{frame_of_end, frame_of_tick}
use Rattle.sheep_node.specs.declared.input.Input.{Input}
use Rattle.sheep_node.specs.declared.input.Input.TheVariants as inputs
use Rattle.sheep_node.specs.State.{Node}
use Rattle.sheep_node.specs.RecoveryView.{shown_node, recovery_state_of, with_recovered_rows}
use Rattle.sheep_node.specs.StepState.{StepState, at_first}
use Rattle.sheep_node.specs.LogReading.{epoch_members, epochs_with_entry, peer_with_entry, node_with_entry, recovery_in_epoch}
use Rattle.sheep_node.specs.LogReading.{begins_recovery, recovery_with_entry, entry_read, come_back_with, on_back}
use Rattle.sheep_node.specs.Step.{on_request, recovery_stepped, on_put, on_recover_tick, node_step}
use Rattle.sheep_node.specs.Changes.{input_received}
use Rattle.sheep_node.proofs.StepResults.{step_peer}
use Rattle.overlap_law.proofs.PendingTargets.{rows-after_tick, rows-after_end}
use Rattle.overlap_law.proofs.RecoveryViews.{IsSearchedBy, begun-rows, KeptByRecovery, tick-keeps, end-keeps}

-- what is there once a write was served
abbrev pub with_write : Key → ℕ → List ℕ → AllRows → AllRows
with_write key offset bytes rows = tree.insert rows key.oid (write_in key.index offset bytes (rows_of rows key.oid))

-- what a write leaves and says, by the open row, and by whether it ends inside
abbrev pub write_step_on : Option SeenRow → Key → ℕ → List ℕ → Peer → serve.PeerStep
write_step_on found key offset bytes peer =
    peer_write_step (on_open (offset + length bytes) found (λ (row : SeenRow). with_write key offset bytes peer.rows)) peer

abbrev pub write_step_if : Bool → Key → ℕ → List ℕ → Peer → serve.PeerStep
write_step_if inside key offset bytes peer =
    peer_write_step (cond inside (Ok (with_write key offset bytes peer.rows)) (Err OutOfObject)) peer

-- whether a recovery goes on by an input
abbrev pub StepsRecovery : Input → Type 0
StepsRecovery (inputs.Reply rsp) = Unit {0}
StepsRecovery (inputs.Lost number) = Unit {0}
StepsRecovery inputs.RecoverTick = Unit {0}
StepsRecovery _ = ⊥

-- a recovery goes on by the input, at a node at which something is pending
pub record IsRecovering (node : Node) (input : Input) : Type 0 where
  pub goes : StepsRecovery input
  pub oid : ℕ
  pub first : first_in node.peer.pending ≡ Some oid

-- beside the rows, of which P speaks with the node's epoch and the object, V may say something of the node as its recovery sees it
module _ (V : NodeId → ℕ → NodeView → Type 0) (P : ℕ → ℕ → List SeenRow → Type 0) where
  abbrev pub AreRowsSo : Peer → Type 0
  AreRowsSo peer = (oid : ℕ) → P peer.epoch oid (rows_of peer.rows oid)

  -- V and P are kept in each way in which a step on an input may change the rows of an object
  pub record KeepsRows (node : Node) (input : Input) : Type 0 where
    pub view : V node.recovery.me node.recovery.epoch (shown_node node)
    pub views : KeptByRecovery V
    -- the create of a request is served
    pub created : (request : PeerReq) (key : Key) (size offset : ℕ) (bytes : List ℕ) → input ≡ inputs.Request request
        → request.ask ≡ asks.Create key size offset bytes → epoch_refusal node.peer.epoch request.epoch.0 ≡ None → (rows : List SeenRow)
        → P node.peer.epoch key.oid rows → P node.peer.epoch key.oid (create_in key.index node.peer.epoch size offset bytes rows)
    -- a write is served, which ends inside the open row
    pub written : (key : Key) (offset : ℕ) (bytes : List ℕ) (row : SeenRow) → open_row node.peer.rows key ≡ Some row
        → offset + length bytes ≤ length row.bytes → P node.peer.epoch key.oid (rows_of node.peer.rows key.oid)
        → P node.peer.epoch key.oid (write_in key.index offset bytes (rows_of node.peer.rows key.oid))
    -- the recovery puts the row of an object
    pub recovered : (me : NodeId) (epoch : ℕ) (shown : NodeView) (oid : ℕ) (policy : Policy) (bytes : List ℕ) → V me epoch shown
        → IsSearchedBy oid policy shown → (rows : List SeenRow) → P shown.epoch oid rows
        → P shown.epoch oid (create_in (unwrap_or (index_in shown epoch oid policy me) 0) shown.epoch (length bytes) 0 bytes rows)
    -- the node reads an entry that begins an epoch
    pub entered : (entry : Entry) → input ≡ inputs.LogEntry entry → begins_epoch entry ≡ true → (oid : ℕ) (rows : List SeenRow)
        → P node.peer.epoch oid rows → P (node.peer.epoch + 1) oid
        (rows_entering node.me (targets_in (epochs_with_entry entry node)) (read_entry entry node.peer) oid rows)
    -- or that makes an object's id dead
    pub killed : (entry : Entry) → input ≡ inputs.LogEntry entry → (oid : ℕ) → kills_object entry node.peer oid ≡ true
        → P node.peer.epoch oid []
    -- or by which a later epoch is settled
    pub settled : (entry : Entry) → input ≡ inputs.LogEntry entry → (epoch oid : ℕ) (rows : List SeenRow) → P epoch oid rows
        → P epoch oid (purged (settled_of (read_entry entry node.peer).entries) rows)
    -- the node comes back
    pub returned : (entries : List Entry) → input ≡ inputs.Back entries → (oid : ℕ) (rows : List SeenRow) → P node.peer.epoch oid rows
        → P (epoch_of entries) oid (purged (settled_of entries) (closed_all node.peer.epoch rows))
    -- to a log by which an object's id is dead
    pub returned_dead : (entries : List Entry) → input ≡ inputs.Back entries → (oid : ℕ)
        → is_dead_object (come_back entries node.peer) oid ≡ true → P (epoch_of entries) oid []

  -- the same, if the recovery's part is asked for only where it goes on and something is pending: else it makes no row
  pub record KeepsRowsWhilePending (node : Node) (input : Input) : Type 0 where
    pub view : IsRecovering node input → V node.recovery.me node.recovery.epoch (shown_node node)
    pub views : KeptByRecovery V
    -- the create of a request is served
    pub created : (request : PeerReq) (key : Key) (size offset : ℕ) (bytes : List ℕ) → input ≡ inputs.Request request
        → request.ask ≡ asks.Create key size offset bytes → epoch_refusal node.peer.epoch request.epoch.0 ≡ None → (rows : List SeenRow)
        → P node.peer.epoch key.oid rows → P node.peer.epoch key.oid (create_in key.index node.peer.epoch size offset bytes rows)
    -- a write is served, which ends inside the open row
    pub written : (key : Key) (offset : ℕ) (bytes : List ℕ) (row : SeenRow) → open_row node.peer.rows key ≡ Some row
        → offset + length bytes ≤ length row.bytes → P node.peer.epoch key.oid (rows_of node.peer.rows key.oid)
        → P node.peer.epoch key.oid (write_in key.index offset bytes (rows_of node.peer.rows key.oid))
    -- the recovery puts the row of an object
    pub recovered : IsRecovering node input → (me : NodeId) (epoch : ℕ) (shown : NodeView) (oid : ℕ) (policy : Policy) (bytes : List ℕ)
        → V me epoch shown → IsSearchedBy oid policy shown → (rows : List SeenRow) → P shown.epoch oid rows
        → P shown.epoch oid (create_in (unwrap_or (index_in shown epoch oid policy me) 0) shown.epoch (length bytes) 0 bytes rows)
    -- the node reads an entry that begins an epoch
    pub entered : (entry : Entry) → input ≡ inputs.LogEntry entry → begins_epoch entry ≡ true → (oid : ℕ) (rows : List SeenRow)
        → P node.peer.epoch oid rows → P (node.peer.epoch + 1) oid
        (rows_entering node.me (targets_in (epochs_with_entry entry node)) (read_entry entry node.peer) oid rows)
    -- or that makes an object's id dead
    pub killed : (entry : Entry) → input ≡ inputs.LogEntry entry → (oid : ℕ) → kills_object entry node.peer oid ≡ true
        → P node.peer.epoch oid []
    -- or by which a later epoch is settled
    pub settled : (entry : Entry) → input ≡ inputs.LogEntry entry → (epoch oid : ℕ) (rows : List SeenRow) → P epoch oid rows
        → P epoch oid (purged (settled_of (read_entry entry node.peer).entries) rows)
    -- the node comes back
    pub returned : (entries : List Entry) → input ≡ inputs.Back entries → (oid : ℕ) (rows : List SeenRow) → P node.peer.epoch oid rows
        → P (epoch_of entries) oid (purged (settled_of entries) (closed_all node.peer.epoch rows))
    -- to a log by which an object's id is dead
    pub returned_dead : (entries : List Entry) → input ≡ inputs.Back entries → (oid : ℕ)
        → is_dead_object (come_back entries node.peer) oid ≡ true → P (epoch_of entries) oid []

  -- the rows of one object are put
  put_so : (epoch oid : ℕ) (rows : AllRows) (new : List SeenRow) → ((q : ℕ) → P epoch q (rows_of rows q)) → P epoch oid new
      → (q : ℕ) → P epoch q (rows_of (tree.insert rows oid new) q)
  put_so epoch oid rows new are is q = ⊎_elim
      (λ (own : q ≡ oid).
      subst (λ (k : ℕ). P epoch k (rows_of (tree.insert rows oid new) k)) (sym own)
      (subst (P epoch oid) (sym (rows_of-insert_same rows oid new)) is))
      (λ (other : q ≢ oid). subst (P epoch q) (sym (rows_of-insert_other rows oid new q other)) (are q))
      (cases_eq q oid)

  module _ (node : Node) (input : Input) (keeps : KeepsRowsWhilePending node input) (are : AreRowsSo node.peer) where
    -- ---- a request is served

    written_so : (key : Key) (offset : ℕ) (bytes : List ℕ)
        → AreRowsSo (peer_write_step (write_at node.peer.rows key offset bytes) node.peer).peer
    written_so key offset bytes = by_row (open_row node.peer.rows key) refl
      where
        by_row : (o : Option SeenRow) → open_row node.peer.rows key ≡ o
            → AreRowsSo (write_step_on o key offset bytes node.peer).peer
        by_row None on = are
        by_row (Some row) on = by_end (nat_le (offset + length bytes) (length row.bytes)) refl
          where
            by_end : (b : Bool) → nat_le (offset + length bytes) (length row.bytes) ≡ b
                → AreRowsSo (write_step_if b key offset bytes node.peer).peer
            by_end true inside =
                put_so node.peer.epoch key.oid node.peer.rows (write_in key.index offset bytes (rows_of node.peer.rows key.oid)) are
                (keeps.written key offset bytes row on (leb-true (offset + length bytes) (length row.bytes) inside) (are key.oid))
            by_end false outside = are

    answered_so : (request : PeerReq) → input ≡ inputs.Request request → epoch_refusal node.peer.epoch request.epoch.0 ≡ None
        → (ask : PeerAsk) → request.ask ≡ ask → AreRowsSo (serve.own_epoch_step ask node.peer).peer
    unfolding serve.own_epoch_step
    answered_so request comes own (asks.Create key size offset bytes) is =
        put_so node.peer.epoch key.oid node.peer.rows
        (create_in key.index node.peer.epoch size offset bytes (rows_of node.peer.rows key.oid)) are
        (keeps.created request key size offset bytes comes is own (rows_of node.peer.rows key.oid) (are key.oid))
    answered_so request comes own (asks.Write key offset bytes) is =
        cond_either (λ (step : serve.PeerStep). AreRowsSo step.peer) (is_waiting node.peer key.oid)
        (peer_refusal_step refusals.Recovery node.peer) (peer_write_step (write_at node.peer.rows key offset bytes) node.peer) are
        (written_so key offset bytes)
    answered_so request comes own (asks.Read key offset size) is =
        cond_either (λ (step : serve.PeerStep). AreRowsSo step.peer) (is_waiting node.peer key.oid)
        (peer_refusal_step refusals.Recovery node.peer)
        (peer_say_step (piece_or_refusal (stores.read_at node.peer.rows key offset size)) node.peer) are are
    answered_so request comes own asks.List is = are
    answered_so request comes own (asks.RecoverRead oid level) is = are

    served_so : (request : PeerReq) → input ≡ inputs.Request request → AreRowsSo (peer_step node.peer request).peer
    unfolding peer_step
    served_so request comes = by_fence (epoch_refusal node.peer.epoch request.epoch.0) refl
      where
        by_fence : (refusal : Option Refusal) → epoch_refusal node.peer.epoch request.epoch.0 ≡ refusal
            → AreRowsSo (step_behind_fence refusal request.ask node.peer).peer
        by_fence None own = answered_so request comes own request.ask refl
        by_fence (Some refusal) own = are

    -- ---- the recovery goes on

    abbrev state : RecoveryState
    state = recovery_state_of node

    -- V, and that the rows are so
    abbrev ViewAndRows : NodeId → ℕ → NodeView → Type 0
    ViewAndRows me epoch shown = V me epoch shown × ((oid : ℕ) → P shown.epoch oid (rows_of shown.rows oid))

    both_kept : IsRecovering node input → KeptByRecovery ViewAndRows
    both_kept recovering = record {
      listed = λ at is. (keeps.views.listed at is.0, is.1);
      gone = λ at oid is. (keeps.views.gone at oid is.0, is.1);
      found = λ at search policy bytes searched is. (
        keeps.views.found at search policy bytes searched is.0,
        put_so at.shown.epoch search.oid at.shown.rows
            (create_in (unwrap_or (index_in at.shown at.recovery.epoch search.oid policy at.recovery.me) 0) at.shown.epoch (length bytes) 0
            bytes (rows_of at.shown.rows search.oid)) is.1
            (keeps.recovered recovering at.recovery.me at.recovery.epoch at.shown search.oid policy bytes is.0 searched
            (rows_of at.shown.rows search.oid)
            (is.1 search.oid)),
      );
    }

    -- the rows are as they were where nothing is pending
    rests_so : (rows : AllRows) → rows ≡ node.peer.rows → (oid : ℕ) → P node.peer.epoch oid (rows_of rows oid)
    rests_so rows same oid = subst (λ (all : AllRows). P node.peer.epoch oid (rows_of all oid)) (sym same) (are oid)

    ended_so : StepsRecovery input → (number : ℕ) (said : Option PeerSay)
        → AreRowsSo (recovery_stepped (message_end number said state) (at_first node)).node.peer
    ended_so goes number said = by_pending (first_in node.peer.pending) refl
      where
        by_pending : (o : Option ℕ) → first_in node.peer.pending ≡ o
            → AreRowsSo (recovery_stepped (message_end number said state) (at_first node)).node.peer
        by_pending None none = rests_so (message_end number said state).shown.rows (rows-after_end state none number said)
        by_pending (Some first) is = λ oid.
            let recovering : IsRecovering node input = record { goes = goes; oid = first; first = is } in
            subst (λ (epoch : ℕ). P epoch oid (rows_of (message_end number said state).shown.rows oid))
            (ap (λ (f : Frame). f.epoch) (frame_of_end number said state))
            ((end-keeps ViewAndRows (both_kept recovering) number said state (keeps.view recovering, are)).1 oid)

    ticked_so : StepsRecovery input → AreRowsSo (on_recover_tick (at_first node)).node.peer
    unfolding on_recover_tick
    ticked_so goes = by_pending (first_in node.peer.pending) refl
      where
        by_pending : (o : Option ℕ) → first_in node.peer.pending ≡ o → (oid : ℕ)
            → P node.peer.epoch oid (rows_of (state_after_tick node.sends state).shown.rows oid)
        by_pending None none = rests_so (state_after_tick node.sends state).shown.rows (rows-after_tick state none node.sends)
        by_pending (Some first) is = λ oid.
            let recovering : IsRecovering node input = record { goes = goes; oid = first; first = is } in
            subst (λ (epoch : ℕ). P epoch oid (rows_of (state_after_tick node.sends state).shown.rows oid))
            (ap (λ (f : Frame). f.epoch) (frame_of_tick node.sends state))
            ((tick-keeps ViewAndRows (both_kept recovering) node.sends state (keeps.view recovering, are)).1 oid)

    -- ---- an entry is read

    module _ (entry : Entry) (comes : input ≡ inputs.LogEntry entry) where
      base_so : AreRowsSo (read_entry entry node.peer)
      unfolding read_entry without_objects
      base_so oid = subst (P node.peer.epoch oid) (sym (read_rows entry node.peer oid)) (by_death (kills_object entry node.peer oid) refl)
        where
          by_death : (b : Bool) → kills_object entry node.peer oid ≡ b → P node.peer.epoch oid (cond b [] (rows_of node.peer.rows oid))
          by_death true kills = keeps.killed entry comes oid kills
          by_death false lives = are oid

      abbrev next : Peer
      next = peers.peer_in_next_epoch node.me (targets_in (epochs_with_entry entry node)) (read_entry entry node.peer)

      next_so : begins_epoch entry ≡ true → AreRowsSo next
      unfolding read_entry without_objects peers.peer_in_next_epoch
      next_so begins oid =
          subst (P (node.peer.epoch + 1) oid)
          (sym (entered_rows node.me (targets_in (epochs_with_entry entry node)) (read_entry entry node.peer) oid))
          (keeps.entered entry comes begins oid (rows_of (read_entry entry node.peer).rows oid) (base_so oid))

      entered_so : AreRowsSo (peer_with_entry entry node)
      entered_so = by_entry (begins_epoch entry) refl
        where
          by_entry : (b : Bool) → begins_epoch entry ≡ b → AreRowsSo (cond b next (read_entry entry node.peer))
          by_entry true begins = next_so begins
          by_entry false goes_on = base_so

      recovering_so : (oid : ℕ) → P (peer_with_entry entry node).epoch oid (rows_of (recovery_with_entry entry node).shown.rows oid)
      recovering_so oid =
          let new : Node = node_with_entry entry node in
          let epoch : ℕ = (peer_with_entry entry node).epoch in
          cond_either (λ (at : RecoveryState). P epoch oid (rows_of at.shown.rows oid)) (begins_recovery entry node) (recovery_in_epoch new)
          (recovery_state_of new)
          (subst (λ (rows : AllRows). P epoch oid (rows_of rows oid))
          (sym (begun-rows new.peer.epoch (map (λ (member : Member). member.node) (epoch_members new)) (recovery_state_of new)))
          (entered_so oid))
          (entered_so oid)

      entry_so : AreRowsSo (entry_read entry node).peer
      unfolding entry_read peer_settled_to
      entry_so =
          let last : ℕ = settled_of (read_entry entry node.peer).entries in
          let peer : Peer = with_recovered_rows (recovery_with_entry entry node) (peer_with_entry entry node) in
          cond_either AreRowsSo (nat_lt peer.settled last) (peer_settled_to last peer) peer
          (λ oid.
          subst (P peer.epoch oid) (sym (rows_of-each (λ (oid : ℕ). purged last) peer.rows oid refl))
          (keeps.settled entry comes peer.epoch oid (rows_of peer.rows oid) (recovering_so oid)))
          recovering_so

    -- ---- the node comes back

    back_so : (entries : List Entry) → input ≡ inputs.Back entries → AreRowsSo (on_back entries node).peer
    unfolding on_back come_back without_objects peer_settled_to closed_at_end
    back_so entries comes oid =
        let back : Node = come_back_with entries node in
        subst (λ (rows : AllRows). P (epoch_of entries) oid (rows_of rows oid))
        (sym (begun-rows back.peer.epoch (map (λ (member : Member). member.node) (epoch_members back)) (recovery_state_of back)))
        (subst (P (epoch_of entries) oid) (sym (back_rows entries node.peer oid))
        (by_death (is_dead_object (come_back entries node.peer) oid) refl))
      where
        by_death : (b : Bool) → is_dead_object (come_back entries node.peer) oid ≡ b → P (epoch_of entries) oid
            (cond b [] (purged (settled_of entries) (closed_all node.peer.epoch (rows_of node.peer.rows oid))))
        by_death true dies = keeps.returned_dead entries comes oid dies
        by_death false lives = keeps.returned entries comes oid (rows_of node.peer.rows oid) (are oid)

    -- ---- each step

    received_so : (at : Input) → input ≡ at → AreRowsSo (input_received at (at_first node)).node.peer
    unfolding on_request recovery_steps.recovery_on_reply recovery_steps.recovery_on_loss
    received_so (inputs.Guest req session ask) comes = are
    received_so (inputs.Request request) comes = served_so request comes
    received_so (inputs.Reply rsp) comes =
        cond_either (λ (start : StepState). AreRowsSo start.node.peer) (gateways.gateway_awaits rsp.number node.gateway) (at_first node)
        (recovery_stepped (recovery_steps.recovery_on_reply rsp state) (at_first node)) are
        (ended_so (subst StepsRecovery (sym comes) tt) rsp.number (Some rsp.say))
    received_so (inputs.Lost number) comes =
        cond_either (λ (start : StepState). AreRowsSo start.node.peer) (gateways.gateway_awaits number node.gateway) (at_first node)
        (recovery_stepped (recovery_steps.recovery_on_loss number state) (at_first node)) are
        (ended_so (subst StepsRecovery (sym comes) tt) number None)
    received_so (inputs.LogEntry entry) comes = entry_so entry comes
    received_so inputs.Put comes = by_outbox node.outbox
      where
        by_outbox : (outbox : List Entry) → AreRowsSo (on_put outbox (at_first node)).node.peer
        by_outbox [] = are
        by_outbox (entry ∷ later) = are
    received_so inputs.RecoverTick comes = ticked_so (subst StepsRecovery (sym comes) tt)
    received_so inputs.RetryTick comes = are
    received_so (inputs.Back entries) comes = back_so entries comes

    pub step-rows_while_pending : AreRowsSo (node_step input node).node.peer
    step-rows_while_pending = subst AreRowsSo (sym (step_peer input node)) (received_so input refl)

  -- what is kept in each way is kept by a step
  pub step-rows_so : (node : Node) (input : Input) → KeepsRows node input → AreRowsSo node.peer → AreRowsSo (node_step input node).node.peer
  step-rows_so node input keeps are =
      step-rows_while_pending node input (record {
        view = λ recovering. keeps.view;
        views = keeps.views;
        created = keeps.created;
        written = keeps.written;
        recovered = λ recovering. keeps.recovered;
        entered = keeps.entered;
        killed = keeps.killed;
        settled = keeps.settled;
        returned = keeps.returned;
        returned_dead = keeps.returned_dead;
      }) are
