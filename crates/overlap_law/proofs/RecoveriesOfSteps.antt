-- What is kept of a recovery and of what is pending, in whichever way a step of its node changes them, is kept by each step of the node,
-- and so holds of each node in every world.
use Rattle.std.proofs.Common.{◌≡◌, ◌⊎◌, inl, inr, ℕ, ◌==◌, Bool, true, false, not, List, [], ◌∷◌, map, filter, Option, Some, None}
use Rattle.std.proofs.Common.{option_map, Result, Ok, Err, refl, sym, subst}
use Rattle.proof_tools.proofs.Booleans.{cond_either}
use Rattle.object_id.specs.declared.entry.Entry.{Entry}
use Rattle.object_id.specs.declared.entry.Member.{Member}
use Rattle.object_id.specs.declared.node.NodeId.{NodeId}
use Rattle.object_store.specs.declared.fault.StoreFault.{StoreFault}
use Rattle.object_store.specs.Store.{AllRows, read_at, write_at}
use Rattle.epoch_log.specs.Epochs.{begins_epoch, settled_of}
use Rattle.peer_proto.specs.declared.ask.PeerAsk.{PeerAsk}
use Rattle.peer_proto.specs.declared.ask.PeerAsk.TheVariants as asks
use Rattle.peer_proto.specs.declared.ask.PeerReq.{PeerReq}
use Rattle.peer_proto.specs.declared.say.PeerSay.{PeerSay}
use Rattle.peer_proto.specs.declared.say.Refusal.{Refusal}
use Rattle.peer_service.specs.State.{Peer, is_waiting}
use Rattle.peer_service.specs.Epochs.{peer_in_next_epoch}
use Rattle.peer_service.specs.Fence.{epoch_refusal}
use Rattle.peer_service.specs.LogReading.{kills_object, without_objects, read_entry}
use Rattle.peer_service.specs.Serve as serve
use Rattle.peer_service.specs.Serve.{peer_say_step, peer_write_step, piece_or_refusal, step_if_recovered, step_behind_fence, peer_step}
use Rattle.vnode_table.specs.Targets.{targets_in}
use Rattle.gateway.specs.State as gateways
use Rattle.recovery.specs.State.{Recovery, RecoveryState}
use Rattle.recovery.specs.Steps as recovery_steps
use Rattle.recovery.specs.Steps.{recovery_from_epoch, message_end}
use Rattle.recovery.specs.Tick.{state_after_tick}
use Rattle.sheep_node.specs.declared.input.Input.{Input}
use Rattle.sheep_node.specs.declared.input.Input.TheVariants as inputs
use Rattle.sheep_node.specs.State.{Node}
use Rattle.sheep_node.specs.RecoveryView.{recovery_state_of, with_recovered_rows}
use Rattle.sheep_node.specs.StepState.{StepState, at_first}
use Rattle.sheep_node.specs.LogReading.{epoch_members, epochs_with_entry, peer_with_entry, node_with_entry, recovery_in_epoch}
use Rattle.sheep_node.specs.LogReading.{begins_recovery, recovery_with_entry, entry_read, come_back_with, on_back}
use Rattle.sheep_node.specs.Step.{on_request, recovery_stepped, on_put, on_recover_tick, node_step}
use Rattle.sheep_node.specs.Changes.{input_received}
use Rattle.sheep_node.proofs.StepResults.{step_peer, step_recovery}
use Rattle.overlap_law.proofs.ListMessages.{AsksListsIn}
use Rattle.overlap_law.proofs.ListedNodes.{settled_pending}

-- what is pending stays, or some of it goes
abbrev pub IsLessPending : Option (List ℕ) → Option (List ℕ) → Type 0
IsLessPending old new = (new ≡ old) ⊎ ((p : ℕ → Bool) × (new ≡ option_map (filter p) old))

-- ---- a request is served

written_less : (result : Result AllRows StoreFault) (peer : Peer) → IsLessPending peer.pending (peer_write_step result peer).peer.pending
written_less (Ok rows) peer = inl refl
written_less (Err fault) peer = inl refl

recovered_less : (waiting : Bool) (peer : Peer) (answer : serve.PeerStep) → IsLessPending peer.pending answer.peer.pending
    → IsLessPending peer.pending (step_if_recovered waiting peer answer).peer.pending
recovered_less true peer answer less = inl refl
recovered_less false peer answer less = less

answered_less : (ask : PeerAsk) (peer : Peer) → IsLessPending peer.pending (serve.own_epoch_step ask peer).peer.pending
unfolding serve.own_epoch_step
answered_less (asks.Create key size offset bytes) peer = inr (λ other. not (other == key.oid), refl)
answered_less (asks.Write key offset bytes) peer =
    recovered_less (is_waiting peer key.oid) peer (peer_write_step (write_at peer.rows key offset bytes) peer)
    (written_less (write_at peer.rows key offset bytes) peer)
answered_less (asks.Read key offset size) peer =
    recovered_less (is_waiting peer key.oid) peer (peer_say_step (piece_or_refusal (read_at peer.rows key offset size)) peer) (inl refl)
answered_less asks.List peer = inl refl
answered_less (asks.RecoverRead oid level) peer = inl refl

pub served_less : (peer : Peer) (request : PeerReq) → IsLessPending peer.pending (peer_step peer request).peer.pending
unfolding peer_step
served_less peer request = by_fence (epoch_refusal peer.epoch request.epoch.0)
  where
    by_fence : (refusal : Option Refusal) → IsLessPending peer.pending (step_behind_fence refusal request.ask peer).peer.pending
    by_fence None = answered_less request.ask peer
    by_fence (Some refusal) = inl refl

-- ---- an entry is read

pub entered_less : (entry : Entry) (node : Node) → IsLessPending node.peer.pending (peer_with_entry entry node).pending
unfolding read_entry without_objects peer_in_next_epoch
entered_less entry node =
    let goes = kills_object entry node.peer in
    cond_either (λ (peer : Peer). IsLessPending node.peer.pending peer.pending) (begins_epoch entry)
    (peer_in_next_epoch node.me (targets_in (epochs_with_entry entry node)) (read_entry entry node.peer)) (read_entry entry node.peer)
    (inr (λ oid. not (goes oid), refl)) (inr (λ oid. not (goes oid), refl))

-- ---- a step of the node

module _ (R : Recovery → Option (List ℕ) → Type 0) where
  -- it is so of a recovery with what it sees
  abbrev pub IsSoIn : RecoveryState → Type 0
  IsSoIn state = R state.recovery state.shown.pending

  -- less is pending, a recovery begins, it ticks, or one of its messages ends
  pub record KeptByRecoveries : Type 0 where
    pub less : (recovery : Recovery) (old new : Option (List ℕ)) → IsLessPending old new → R recovery old → R recovery new
    pub begun : (epoch : ℕ) (members : List NodeId) (state : RecoveryState) → IsSoIn (recovery_from_epoch epoch members state)
    pub ticked : (first : ℕ) (state : RecoveryState) → IsSoIn state → IsSoIn (state_after_tick first state)
    pub ended : (number : ℕ) (said : Option PeerSay) (state : RecoveryState) → AsksListsIn state → IsSoIn state
        → IsSoIn (message_end number said state)

  -- it is so of a node
  abbrev pub IsSoAt : Node → Type 0
  IsSoAt node = R node.recovery node.peer.pending

  module _ (kept : KeptByRecoveries) (node : Node) (lists : AsksListsIn (recovery_state_of node)) (so : IsSoAt node) where
    read_so : (entry : Entry) → IsSoAt (entry_read entry node)
    unfolding entry_read
    read_so entry =
        let state = recovery_with_entry entry node in
        let entered : Node = node_with_entry entry node in
        subst (R state.recovery)
        (sym (settled_pending (settled_of (read_entry entry node.peer).entries) (with_recovered_rows state (peer_with_entry entry node))))
        (cond_either IsSoIn (begins_recovery entry node) (recovery_in_epoch entered) (recovery_state_of entered)
        (kept.begun entered.peer.epoch (map (λ (member : Member). member.node) (epoch_members entered)) (recovery_state_of entered))
        (kept.less node.recovery node.peer.pending (peer_with_entry entry node).pending (entered_less entry node) so))

    received_so : (input : Input) → IsSoAt (input_received input (at_first node)).node
    unfolding on_request on_recover_tick recovery_steps.recovery_on_reply recovery_steps.recovery_on_loss on_back
    received_so (inputs.Guest req session ask) = so
    received_so (inputs.Request request) =
        kept.less node.recovery node.peer.pending (peer_step node.peer request).peer.pending (served_less node.peer request) so
    received_so (inputs.Reply rsp) =
        cond_either (λ (so_far : StepState). IsSoAt so_far.node) (gateways.gateway_awaits rsp.number node.gateway) (at_first node)
        (recovery_stepped (message_end rsp.number (Some rsp.say) (recovery_state_of node)) (at_first node)) so
        (kept.ended rsp.number (Some rsp.say) (recovery_state_of node) lists so)
    received_so (inputs.Lost number) =
        cond_either (λ (so_far : StepState). IsSoAt so_far.node) (gateways.gateway_awaits number node.gateway) (at_first node)
        (recovery_stepped (message_end number None (recovery_state_of node)) (at_first node)) so
        (kept.ended number None (recovery_state_of node) lists so)
    received_so (inputs.LogEntry entry) = read_so entry
    received_so inputs.Put = by_outbox node.outbox
      where
        by_outbox : (outbox : List Entry) → IsSoAt (on_put outbox (at_first node)).node
        by_outbox [] = so
        by_outbox (entry ∷ later) = so
    received_so inputs.RecoverTick = kept.ticked node.sends (recovery_state_of node) so
    received_so inputs.RetryTick = so
    received_so (inputs.Back entries) =
        let back : Node = come_back_with entries node in
        kept.begun back.peer.epoch (map (λ (member : Member). member.node) (epoch_members back)) (recovery_state_of back)

    pub step-recovery_so : (input : Input) → IsSoAt (node_step input node).node
    step-recovery_so input =
        subst (λ (recovery : Recovery). R recovery (node_step input node).node.peer.pending) (sym (step_recovery input node))
        (subst (λ (peer : Peer). R (input_received input (at_first node)).node.recovery peer.pending) (sym (step_peer input node))
        (received_so input))
