-- What is pending at a node is lacked after each step of the node, where its open rows are of its own index in the recovered epoch.
use Rattle.std.proofs.Common.{◌≡◌, ℕ, ◌≤◌, List, []}
use Rattle.std.proofs.Common.{◌∷◌, Option, Some, None, refl, sym, subst}
use Rattle.proof_tools.proofs.Booleans.{cond_either}
use Rattle.object_id.specs.declared.entry.Entry.{Entry}
use Rattle.epoch_log.specs.Epochs.{epoch_of}
use Rattle.peer_proto.specs.declared.say.PeerSay.{PeerSay}
use Rattle.peer_service.specs.State.{Peer}
use Rattle.vnode_table.specs.Epochs.{EpochMembers}
use Rattle.vnode_table.specs.Targets.{targets_in}
use Rattle.gateway.specs.State as gateways
use Rattle.recovery.specs.Frame.{Frame}
use Rattle.recovery.specs.State.{Recovery, RecoveryState}
use Rattle.recovery.specs.Steps as recovery_steps
use Rattle.recovery.specs.Steps.{message_end}
use Rattle.recovery.specs.Tick.{state_after_tick}
use Rattle.recovery.proofs.StepLemmas.{frame_of_end, frame_of_tick}
use Rattle.sheep_node.specs.declared.input.Input.{Input}
use Rattle.sheep_node.specs.declared.input.Input.TheVariants as inputs
use Rattle.sheep_node.specs.State.{Node}
use Rattle.sheep_node.specs.RecoveryView.{shown_node, recovery_state_of}
use Rattle.sheep_node.specs.StepState.{StepState, at_first}
use Rattle.sheep_node.specs.LogReading.{on_back}
use Rattle.sheep_node.specs.May.{MayRead}
use Rattle.sheep_node.specs.Step.{on_request, recovery_stepped, on_put, on_recover_tick, node_step}
use Rattle.sheep_node.specs.Changes.{input_received}
use Rattle.sheep_node.proofs.StepResults.{step_recovery, step_peer, step_epochs}
use Rattle.overlap_law.proofs.LackedPending.{PendingIsLackedBy, OpenRowsAreOwn, IsInPlace}
use Rattle.overlap_law.proofs.LackedPending.{in_place-kept}
use Rattle.overlap_law.proofs.RecoveryViews.{tick-keeps, end-keeps}
use Rattle.overlap_law.proofs.LackedAtEntries.{read_lacks, back_lacks}
use Rattle.overlap_law.proofs.LackedServed.{PeerLacks, NodeLacks, served_lacks}

-- ---- each input

module _ (node : Node) (lacks : NodeLacks node) (me_so : node.recovery.me ≡ node.me)
    (epoch_so : node.peer.epoch ≡ epoch_of node.peer.entries)
    (within : node.recovery.epoch ≤ node.peer.epoch) (own : OpenRowsAreOwn node.recovery.me node.recovery.epoch (shown_node node)) where
  abbrev state : RecoveryState
  state = recovery_state_of node

  abbrev in_place : IsInPlace node.recovery.me node.recovery.epoch (shown_node node)
  in_place = record { own = own; lacked = lacks }

  ended_lacks : (number : ℕ) (said : Option PeerSay) → NodeLacks (recovery_stepped (message_end number said state) (at_first node)).node
  ended_lacks number said =
      let after : RecoveryState = message_end number said state in
      subst (λ (f : Frame). PendingIsLackedBy after.recovery.me after.recovery.epoch f.policy_of f.targets after.shown.rows
      after.shown.pending)
      (frame_of_end number said state) (end-keeps IsInPlace in_place-kept number said state in_place).lacked

  ticked_lacks : NodeLacks (on_recover_tick (at_first node)).node
  unfolding on_recover_tick
  ticked_lacks =
      let after : RecoveryState = state_after_tick node.sends state in
      subst (λ (f : Frame). PendingIsLackedBy after.recovery.me after.recovery.epoch f.policy_of f.targets after.shown.rows
      after.shown.pending)
      (frame_of_tick node.sends state) (tick-keeps IsInPlace in_place-kept node.sends state in_place).lacked

  -- an entry that is read may be read
  abbrev ReadsIfMay : Input → Type 0
  ReadsIfMay input = (entry : Entry) → input ≡ inputs.LogEntry entry → MayRead node.peer.entries entry

  received_lacks : (input : Input) → ReadsIfMay input → NodeLacks (input_received input (at_first node)).node
  unfolding on_request recovery_steps.recovery_on_reply recovery_steps.recovery_on_loss
  received_lacks (inputs.Guest req session ask) may = lacks
  received_lacks (inputs.Request request) may =
      served_lacks node.recovery.me node.recovery.epoch (targets_in node.epochs) node.peer lacks request
  received_lacks (inputs.Reply rsp) may =
      cond_either (λ (so_far : StepState). NodeLacks so_far.node) (gateways.gateway_awaits rsp.number node.gateway) (at_first node)
      (recovery_stepped (message_end rsp.number (Some rsp.say) state) (at_first node)) lacks (ended_lacks rsp.number (Some rsp.say))
  received_lacks (inputs.Lost number) may =
      cond_either (λ (so_far : StepState). NodeLacks so_far.node) (gateways.gateway_awaits number node.gateway) (at_first node)
      (recovery_stepped (message_end number None state) (at_first node)) lacks (ended_lacks number None)
  received_lacks (inputs.LogEntry entry) may = read_lacks entry node lacks me_so epoch_so within (may entry refl)
  received_lacks inputs.Put may = by_outbox node.outbox
    where
      by_outbox : (outbox : List Entry) → NodeLacks (on_put outbox (at_first node)).node
      by_outbox [] = lacks
      by_outbox (entry ∷ later) = lacks
  received_lacks inputs.RecoverTick may = ticked_lacks
  received_lacks inputs.RetryTick may = lacks
  received_lacks (inputs.Back entries) may = back_lacks entries node

  pub step_lacks : (input : Input) → ReadsIfMay input → NodeLacks (node_step input node).node
  step_lacks input may = same_lacks (node_step input node).node (step_recovery input node) (step_peer input node) (step_epochs input node)
    where
      same_lacks : (new : Node) → new.recovery ≡ (input_received input (at_first node)).node.recovery
          → new.peer ≡ (input_received input (at_first node)).node.peer → new.epochs ≡ (input_received input (at_first node)).node.epochs
          → NodeLacks new
      same_lacks new recovery_so peer_so epochs_so =
          subst (λ (r : Recovery). PeerLacks r.me r.epoch (targets_in new.epochs) new.peer) (sym recovery_so)
          (subst (λ (peer : Peer). PeerLacks (input_received input (at_first node)).node.recovery.me
          (input_received input (at_first node)).node.recovery.epoch (targets_in new.epochs) peer) (sym peer_so)
          (subst (λ (epochs : List EpochMembers). PeerLacks (input_received input (at_first node)).node.recovery.me
          (input_received input (at_first node)).node.recovery.epoch (targets_in epochs) (input_received input (at_first node)).node.peer)
          (sym epochs_so) (received_lacks input may)))

-- coming back needs nothing of what was
pub step_back_lacks : (entries : List Entry) (node : Node) → NodeLacks (node_step (inputs.Back entries) node).node
step_back_lacks entries node =
    subst (λ (r : Recovery). PeerLacks r.me r.epoch (targets_in (node_step (inputs.Back entries) node).node.epochs)
    (node_step (inputs.Back entries) node).node.peer) (sym (step_recovery (inputs.Back entries) node))
    (subst (λ (peer : Peer). PeerLacks (on_back entries node).recovery.me (on_back entries node).recovery.epoch
    (targets_in (node_step (inputs.Back entries) node).node.epochs) peer) (sym (step_peer (inputs.Back entries) node))
    (subst (λ (epochs : List EpochMembers). PeerLacks (on_back entries node).recovery.me (on_back entries node).recovery.epoch
    (targets_in epochs) (on_back entries node).peer) (sym (step_epochs (inputs.Back entries) node)) (back_lacks entries node)))
