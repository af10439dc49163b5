-- Each step of a node leaves its recovery so that it waits for whom it asks for lists, and that it has all lists and lacks nothing where
-- its `Recovered` was put.
use Rattle.std.proofs.Common.{◌≡◌, ⊎_elim, arith, ℕ, ◌<◌, ◌==◌, ◌&&◌, ◌||◌, nat_lt, Bool, true, false, not, cond, List, [], ◌∷◌, Option}
use Rattle.std.proofs.Common.{Some, None, is_some, Result, Ok, Err, refl, sym, ap, subst, ◌∙◌}
use Rattle.std.specs.List.Sorted.{IsStrictlyIncreasing}
use Rattle.std.proofs.lemmas.Bool.{ne_eqb, and_parts}
use Rattle.proof_tools.proofs.Booleans.{cond_either}
use Rattle.proof_tools.proofs.Lists.{Contains-nil}
use Rattle.object_id.specs.declared.entry.Entry.{Entry}
use Rattle.object_id.specs.declared.node.NodeId.{NodeId}
use Rattle.object_store.specs.declared.fault.StoreFault.{StoreFault}
use Rattle.object_store.specs.Store.{AllRows, read_at, write_at}
use Rattle.epoch_log.specs.Epochs.{begins_epoch, settled_of}
use Rattle.peer_proto.specs.declared.ask.PeerAsk.{PeerAsk}
use Rattle.peer_proto.specs.declared.ask.PeerAsk.TheVariants as asks
use Rattle.peer_proto.specs.declared.ask.PeerReq.{PeerReq}
use Rattle.peer_proto.specs.declared.say.Refusal.{Refusal}
use Rattle.peer_service.specs.State.{Peer, is_waiting}
use Rattle.peer_service.specs.Epochs.{peer_in_next_epoch, peer_settled_to}
use Rattle.peer_service.specs.Fence.{epoch_refusal}
use Rattle.peer_service.specs.LogReading.{kills_object, without_objects, read_entry}
use Rattle.peer_service.specs.Serve as serve
use Rattle.peer_service.specs.Serve.{peer_say_step, peer_write_step, piece_or_refusal, step_if_recovered, step_behind_fence, peer_step}
use Rattle.vnode_table.specs.Targets.{targets_in}
use Rattle.gateway.specs.State as gateways
use Rattle.recovery.specs.Shown.{first_in}
use Rattle.recovery.specs.State.{RecoveryState, is_listed, is_finished}
use Rattle.recovery.specs.Steps as recovery_steps
use Rattle.sheep_node.specs.declared.input.Input.{Input}
use Rattle.sheep_node.specs.declared.input.Input.TheVariants as inputs
use Rattle.sheep_node.specs.State.{Node, initial_node}
use Rattle.sheep_node.specs.RecoveryView.{recovery_state_of, with_recovered_rows}
use Rattle.sheep_node.specs.StepState.{StepState, at_first}
use Rattle.sheep_node.specs.LogReading.{epoch_members, epochs_with_entry, peer_with_entry, node_with_entry, recovery_in_epoch}
use Rattle.sheep_node.specs.LogReading.{begins_recovery, recovery_with_entry, with_settled, entry_read, come_back_with, on_back}
use Rattle.sheep_node.specs.May.{may_tick}
use Rattle.sheep_node.specs.Step.{on_request, recovery_stepped, on_put, on_recover_tick}
use Rattle.sheep_node.specs.StepFacts.{may_begin_recovery}
use Rattle.sheep_node.specs.Changes.{input_received}
use Rattle.overlap_law.proofs.ListMessages.{numbers_of, AsksLists, AsksListsIn, IsDone, IsDoneIn, PendingStays, filtered_stays}
use Rattle.overlap_law.proofs.ListMessages.{GoesOnAsking, after_search, ended_asks, ticked_asks, not_done_yet, begun_asks}
use Rattle.overlap_law.proofs.RecoveredEntries.{PutsOnlyItsEnd}
use Rattle.overlap_law.proofs.RecoveryMembers.{nodes_of_members, RecoveryParts, parts_received, recovered_received}

-- a node's recovery asks for lists so, and all is done where its `Recovered` was put
pub record KnowsItsLists (node : Node) : Type 0 where
  pub asks_so : AsksListsIn (recovery_state_of node)
  pub done : node.recovered ≡ true → 1 < node.recovery.epoch → IsDoneIn (recovery_state_of node)

pub opening_lists : (me : NodeId) (tries : ℕ) → KnowsItsLists (initial_node me tries)
opening_lists me tries = record {
  asks_so = record {
    ascend = λ k within. absurd (omega (arith, within));
    of_epoch = λ message there. absurd (Contains-nil message there);
    asked = λ message there. absurd (Contains-nil message there);
    apart = λ message other there. absurd (Contains-nil message there);
    known = λ listed. refl;
  };
  done = λ put later. absurd (omega (arith, later));
}

-- ---- a request is served

as_it_was : (pending : Option (List ℕ)) → PendingStays pending pending
as_it_was pending = ((λ is. is), λ is. is)

written_stays : (result : Result AllRows StoreFault) (peer : Peer) → PendingStays peer.pending (peer_write_step result peer).peer.pending
written_stays (Ok rows) peer = as_it_was peer.pending
written_stays (Err fault) peer = as_it_was peer.pending

recovered_stays : (waiting : Bool) (peer : Peer) (answer : serve.PeerStep) → PendingStays peer.pending answer.peer.pending
    → PendingStays peer.pending (step_if_recovered waiting peer answer).peer.pending
recovered_stays true peer answer stays = as_it_was peer.pending
recovered_stays false peer answer stays = stays

answered_stays : (ask : PeerAsk) (peer : Peer) → PendingStays peer.pending (serve.own_epoch_step ask peer).peer.pending
unfolding serve.own_epoch_step
answered_stays (asks.Create key size offset bytes) peer = filtered_stays (λ other. not (other == key.oid)) peer.pending
answered_stays (asks.Write key offset bytes) peer =
    recovered_stays (is_waiting peer key.oid) peer (peer_write_step (write_at peer.rows key offset bytes) peer)
    (written_stays (write_at peer.rows key offset bytes) peer)
answered_stays (asks.Read key offset size) peer =
    recovered_stays (is_waiting peer key.oid) peer (peer_say_step (piece_or_refusal (read_at peer.rows key offset size)) peer)
    (as_it_was peer.pending)
answered_stays asks.List peer = as_it_was peer.pending
answered_stays (asks.RecoverRead oid level) peer = as_it_was peer.pending

served_stays : (peer : Peer) (request : PeerReq) → PendingStays peer.pending (peer_step peer request).peer.pending
unfolding peer_step
served_stays peer request = by_fence (epoch_refusal peer.epoch request.epoch.0)
  where
    by_fence : (refusal : Option Refusal) → PendingStays peer.pending (step_behind_fence refusal request.ask peer).peer.pending
    by_fence None = answered_stays request.ask peer
    by_fence (Some refusal) = as_it_was peer.pending

-- ---- an input that begins no recovery

abbrev GoesOn : Node → Node → Type 0
GoesOn old new = GoesOnAsking (recovery_state_of old) (recovery_state_of new)

-- a tick needs that it may be made
abbrev pub MayTickIf : Input → Node → Type 0
MayTickIf inputs.RecoverTick node = may_tick node ≡ true
MayTickIf _ node = Unit {0}

pub lists_received : (input : Input) (node : Node) → may_begin_recovery input ≡ false → MayTickIf input node
    → AsksListsIn (recovery_state_of node)
    → GoesOn node (input_received input (at_first node)).node
unfolding on_request on_recover_tick recovery_steps.recovery_on_reply recovery_steps.recovery_on_loss
lists_received (inputs.Guest req session ask) node quiet may so = (so, λ done. done)
lists_received (inputs.Request request) node quiet may so =
    after_search (recovery_state_of node) (recovery_state_of (on_request request (at_first node)).node)
    (record { epoch = refl; unanswered = refl; waiting = refl; pending = served_stays node.peer request }) so
lists_received (inputs.Reply rsp) node quiet may so =
    cond_either (λ (so_far : StepState). GoesOn node so_far.node) (gateways.gateway_awaits rsp.number node.gateway) (at_first node)
    (recovery_stepped (recovery_steps.message_end rsp.number (Some rsp.say) (recovery_state_of node)) (at_first node))
    (so, λ done. done) (ended_asks rsp.number (Some rsp.say) (recovery_state_of node) so)
lists_received (inputs.Lost number) node quiet may so =
    cond_either (λ (so_far : StepState). GoesOn node so_far.node) (gateways.gateway_awaits number node.gateway) (at_first node)
    (recovery_stepped (recovery_steps.message_end number None (recovery_state_of node)) (at_first node))
    (so, λ done. done) (ended_asks number None (recovery_state_of node) so)
lists_received (inputs.LogEntry entry) node quiet may so = absurd (cc (quiet))
lists_received inputs.Put node quiet may so = by_outbox node.outbox
  where
    by_outbox : (outbox : List Entry) → GoesOn node (on_put outbox (at_first node)).node
    by_outbox [] = (so, λ done. done)
    by_outbox (entry ∷ later) = (so, λ done. done)
lists_received inputs.RecoverTick node quiet may so =
    (ticked_asks node.sends (recovery_state_of node) so may, λ done. absurd (not_done_yet node.sends (recovery_state_of node) so may done))
lists_received inputs.RetryTick node quiet may so = (so, λ done. done)
lists_received (inputs.Back entries) node quiet may so = absurd (cc (quiet))

-- ---- an entry is read

pub settled_pending : (settled : ℕ) (peer : Peer) → (with_settled settled peer).pending ≡ peer.pending
unfolding peer_settled_to
settled_pending settled peer =
    cond_either (λ (after : Peer). after.pending ≡ peer.pending) (nat_lt peer.settled settled) (peer_settled_to settled peer) peer refl refl

entered_pending : (entry : Entry) (node : Node) → PendingStays node.peer.pending (peer_with_entry entry node).pending
unfolding read_entry without_objects peer_in_next_epoch
entered_pending entry node =
    let goes = kills_object entry node.peer in
    cond_either (λ (peer : Peer). PendingStays node.peer.pending peer.pending) (begins_epoch entry)
    (peer_in_next_epoch node.me (targets_in (epochs_with_entry entry node)) (read_entry entry node.peer)) (read_entry entry node.peer)
    (filtered_stays (λ oid. not (goes oid)) node.peer.pending) (filtered_stays (λ oid. not (goes oid)) node.peer.pending)

module _ (entry : Entry) (node : Node) (so : KnowsItsLists node)
    (up : begins_recovery entry node ≡ true → IsStrictlyIncreasing
    (numbers_of (nodes_of_members (epoch_members (node_with_entry entry node))))) where
  abbrev entered : Node
  entered = node_with_entry entry node

  -- what holds of the recovery, and whether it was put, once the entry was read
  abbrev Known : RecoveryState → Bool → Type 0
  Known state recovered = AsksListsIn state × (recovered ≡ true → 1 < state.recovery.epoch → IsDoneIn state)

  known_then : (b : Bool) → begins_recovery entry node ≡ b
      → Known (cond b (recovery_in_epoch entered) (recovery_state_of entered)) (cond b false node.recovered)
  known_then true begins = (
    begun_asks entered.peer.epoch (nodes_of_members (epoch_members entered)) (recovery_state_of entered) (up begins),
    λ put. absurd
        (cc (put)),
  )
  known_then false none =
      let (asks_on, done_on) = after_search (recovery_state_of node) (recovery_state_of entered)
      (record { epoch = refl; unanswered = refl; waiting = refl; pending = entered_pending entry node }) so.asks_so in
      (asks_on, λ put later. done_on (so.done put later))

  abbrev KnownBy : RecoveryState → Bool → Option (List ℕ) → Type 0
  KnownBy state recovered pending =
      AsksLists state.recovery.epoch state.recovery.unanswered state.recovery.lists.waiting pending
      × (recovered ≡ true → 1 < state.recovery.epoch → IsDone state.recovery.lists.waiting pending)

  pub read_lists : KnowsItsLists (entry_read entry node)
  unfolding entry_read
  read_lists =
      let state = recovery_with_entry entry node in
      let known = known_then (begins_recovery entry node) refl in
      let same = settled_pending (settled_of (read_entry entry node.peer).entries)
      (with_recovered_rows state (peer_with_entry entry node)) in
      let now : KnownBy state (entry_read entry node).recovered (entry_read entry node).peer.pending
      = subst (KnownBy state (entry_read entry node).recovered) (sym same) known in
      record { asks_so = now.0; done = now.1 }

-- ---- a node comes back

pub back_lists : (entries : List Entry) (node : Node)
    → IsStrictlyIncreasing (numbers_of (nodes_of_members (epoch_members (come_back_with entries node))))
    → KnowsItsLists (on_back entries node)
unfolding on_back
back_lists entries node up =
    let back = come_back_with entries node in
    record {
      asks_so = begun_asks back.peer.epoch (nodes_of_members (epoch_members back)) (recovery_state_of back) up;
      done = λ put. absurd (cc (put));
    }

-- ---- a step

-- a recovery that is finished, of a later epoch than the first, has all lists and lacks nothing
pub finished_done : (state : RecoveryState) → AsksListsIn state → 1 < state.recovery.epoch → is_finished state ≡ true → IsDoneIn state
finished_done state so later finished =
    let apart : (state.recovery.epoch == 1) ≡ false = ne_eqb state.recovery.epoch 1 (λ same. absurd (omega (arith, later, same))) in
    let parts = and_parts (is_listed state.recovery) (not (is_some (first_in state.shown.pending)))
    (sym (ap (λ (b : Bool). b || (is_listed state.recovery && not (is_some (first_in state.shown.pending)))) apart) ∙ finished) in
    (parts.0, nothing state.shown.pending (so.known parts.0) parts.1)
  where
    nothing : (pending : Option (List ℕ)) → is_some pending ≡ true → not (is_some (first_in pending)) ≡ true → pending ≡ Some []
    nothing None known none = absurd (cc (known))
    nothing (Some []) known none = refl
    nothing (Some (oid ∷ rest)) known none = absurd (cc (none))

-- by what the changes of a step put
pub lists_so_far : (first : Node) (so_far : StepState) → PutsOnlyItsEnd first so_far → KnowsItsLists first → KnowsItsLists so_far.node
lists_so_far first so_far puts so = record {
  asks_so = subst AsksListsIn (sym puts.state_so) so.asks_so;
  done = λ put later.
      let then : 1 < first.recovery.epoch = subst (λ (s : RecoveryState). 1 < s.recovery.epoch) puts.state_so later in
      subst IsDoneIn (sym puts.state_so) (⊎_elim
      (λ (was : first.recovered ≡ true). so.done was then)
      (λ (finished : is_finished (recovery_state_of first) ≡ true). finished_done (recovery_state_of first) so.asks_so then finished)
      (puts.ended put));
}

-- of an input that begins no recovery
pub quiet_lists : (input : Input) (node : Node) → may_begin_recovery input ≡ false → MayTickIf input node → KnowsItsLists node
    → KnowsItsLists (input_received input (at_first node)).node
quiet_lists input node quiet may so =
    let (asks_on, done_on) = lists_received input node quiet may so.asks_so in
    record {
      asks_so = asks_on;
      done = λ put later.
          done_on (so.done (sym (recovered_received input node quiet) ∙ put)
          (subst (λ (k : ℕ). 1 < k) (ap (λ (p : RecoveryParts). p.aim) (parts_received input node quiet)) later));
    }
