-- What a step gives, and what it leaves of what its node has read, as the input has it.
use Rattle.std.proofs.Common.{◌≡◌, ℕ, ◌+◌, ◌&&◌, not, Bool, true, false, cond, List, [], ◌∷◌, length, None, refl, ap, ◌∙◌, slice_get}
use Rattle.std.proofs.Math.Bool.{and-false}
use Rattle.proof_tools.proofs.Booleans.{cond_either}
use Rattle.object_id.specs.declared.entry.Entry.{Entry}
use Rattle.peer_service.specs.State.{Peer}
use Rattle.gateway.specs.State as gateways
use Rattle.gateway.specs.Outcomes.{AreNumberedFrom}
use Rattle.recovery.specs.State as recoveries
use Rattle.recovery.specs.Steps as recovery_steps
use Rattle.sheep_node.specs.declared.input.Input.{Input}
use Rattle.sheep_node.specs.declared.input.Input.TheVariants as inputs
use Rattle.sheep_node.specs.State.{Node, initial_node}
use Rattle.sheep_node.specs.RecoveryView.{recovery_state_of}
use Rattle.sheep_node.specs.StepState.{StepState, at_first}
use Rattle.sheep_node.specs.LogReading.{entry_read, on_back}
use Rattle.sheep_node.specs.Step.{on_request, recovery_stepped, on_put, on_recover_tick, on_input, is_due, with_recovered, recovered_put, node_step}
use Rattle.sheep_node.specs.StepFacts.{read_after, may_begin_recovery, said_on, put_on, Ascend}
use Rattle.sheep_node.specs.Changes.{input_received}
use Rattle.sheep_node.proofs.PeerLog.{Log, served_same, entries_reading, entries_back}
use Rattle.sheep_node.proofs.StepEffects.{Untouched, step_in_order}
use Rattle.object_id.specs.declared.node.NodeId.{NodeId}

-- ---- once the input was received

-- what holds of the node as it was, of a step of its recovery, and where a number is waited for or isn't
by_waiting : (P : StepState → Type 0) (number : ℕ) (state : recoveries.RecoveryState) (node : Node) → P (at_first node)
    → P (recovery_stepped state (at_first node))
    → P (cond (gateways.gateway_awaits number node.gateway) (at_first node) (recovery_stepped state (at_first node)))
by_waiting P number state node first heard =
    cond_either P (gateways.gateway_awaits number node.gateway) (at_first node) (recovery_stepped state (at_first node)) first heard

pub me_received : (input : Input) (node : Node) → (input_received input (at_first node)).node.me ≡ node.me
unfolding entry_read on_request on_recover_tick on_back
me_received (inputs.Guest req session ask) node = refl
me_received (inputs.Request request) node = refl
me_received (inputs.Reply rsp) node =
    by_waiting (λ (start : StepState). start.node.me ≡ node.me) rsp.number (recovery_steps.recovery_on_reply rsp (recovery_state_of node)) node refl refl
me_received (inputs.Lost number) node =
    by_waiting (λ (start : StepState). start.node.me ≡ node.me) number (recovery_steps.recovery_on_loss number (recovery_state_of node)) node refl refl
me_received (inputs.LogEntry entry) node = refl
me_received inputs.Put node = by_outbox node.outbox
  where
    by_outbox : (outbox : List Entry) → (on_put outbox (at_first node)).node.me ≡ node.me
    by_outbox [] = refl
    by_outbox (entry ∷ later) = refl
me_received inputs.RecoverTick node = refl
me_received inputs.RetryTick node = refl
me_received (inputs.Back entries) node = refl

entries_received : (input : Input) (node : Node) → (input_received input (at_first node)).node.peer.entries ≡ read_after input node.peer.entries
unfolding on_request on_recover_tick
entries_received (inputs.Guest req session ask) node = refl
entries_received (inputs.Request request) node = ap (λ (log : Log). log.entries) (served_same node.peer request)
entries_received (inputs.Reply rsp) node =
    by_waiting (λ (start : StepState). start.node.peer.entries ≡ node.peer.entries) rsp.number
    (recovery_steps.recovery_on_reply rsp (recovery_state_of node)) node refl refl
entries_received (inputs.Lost number) node =
    by_waiting (λ (start : StepState). start.node.peer.entries ≡ node.peer.entries) number
    (recovery_steps.recovery_on_loss number (recovery_state_of node)) node refl refl
entries_received (inputs.LogEntry entry) node = entries_reading entry node
entries_received inputs.Put node = by_outbox node.outbox
  where
    by_outbox : (outbox : List Entry) → (on_put outbox (at_first node)).node.peer.entries ≡ node.peer.entries
    by_outbox [] = refl
    by_outbox (entry ∷ later) = refl
entries_received inputs.RecoverTick node = refl
entries_received inputs.RetryTick node = refl
entries_received (inputs.Back entries) node = entries_back entries node

-- what is said of a request, and which entry is put
outputs_received : (input : Input) (node : Node)
    → ((input_received input (at_first node)).outputs.say ≡ said_on input node) × ((input_received input (at_first node)).outputs.put ≡ put_on input node)
unfolding on_request on_recover_tick
outputs_received (inputs.Guest req session ask) node = (refl, refl)
outputs_received (inputs.Request request) node = (refl, refl)
outputs_received (inputs.Reply rsp) node =
    by_waiting (λ (start : StepState). (start.outputs.say ≡ None) × (start.outputs.put ≡ None)) rsp.number
    (recovery_steps.recovery_on_reply rsp (recovery_state_of node)) node (refl, refl) (refl, refl)
outputs_received (inputs.Lost number) node =
    by_waiting (λ (start : StepState). (start.outputs.say ≡ None) × (start.outputs.put ≡ None)) number
    (recovery_steps.recovery_on_loss number (recovery_state_of node)) node (refl, refl) (refl, refl)
outputs_received (inputs.LogEntry entry) node = (refl, refl)
outputs_received inputs.Put node = by_outbox node.outbox
  where
    by_outbox : (outbox : List Entry)
        → ((on_put outbox (at_first node)).outputs.say ≡ None) × ((on_put outbox (at_first node)).outputs.put ≡ slice_get outbox 0)
    by_outbox [] = (refl, refl)
    by_outbox (entry ∷ later) = (refl, refl)
outputs_received inputs.RecoverTick node = (refl, refl)
outputs_received inputs.RetryTick node = (refl, refl)
outputs_received (inputs.Back entries) node = (refl, refl)

-- the epochs, and whether a `Recovered` is due, are known by the log alone
log_parts_received : (input : Input) (node : Node) → may_begin_recovery input ≡ false
    → ((input_received input (at_first node)).node.epochs ≡ node.epochs) × ((input_received input (at_first node)).node.recovered ≡ node.recovered)
unfolding on_request on_recover_tick
log_parts_received (inputs.Guest req session ask) node quiet = (refl, refl)
log_parts_received (inputs.Request request) node quiet = (refl, refl)
log_parts_received (inputs.Reply rsp) node quiet =
    by_waiting (λ (start : StepState). (start.node.epochs ≡ node.epochs) × (start.node.recovered ≡ node.recovered)) rsp.number
    (recovery_steps.recovery_on_reply rsp (recovery_state_of node)) node (refl, refl) (refl, refl)
log_parts_received (inputs.Lost number) node quiet =
    by_waiting (λ (start : StepState). (start.node.epochs ≡ node.epochs) × (start.node.recovered ≡ node.recovered)) number
    (recovery_steps.recovery_on_loss number (recovery_state_of node)) node (refl, refl) (refl, refl)
log_parts_received (inputs.LogEntry entry) node quiet = absurd (cc (quiet))
log_parts_received inputs.Put node quiet = by_outbox node.outbox
  where
    by_outbox : (outbox : List Entry)
        → ((on_put outbox (at_first node)).node.epochs ≡ node.epochs) × ((on_put outbox (at_first node)).node.recovered ≡ node.recovered)
    by_outbox [] = (refl, refl)
    by_outbox (entry ∷ later) = (refl, refl)
log_parts_received inputs.RecoverTick node quiet = (refl, refl)
log_parts_received inputs.RetryTick node quiet = (refl, refl)
log_parts_received (inputs.Back entries) node quiet = absurd (cc (quiet))

-- ---- a step

module _ (input : Input) (node : Node) where
  -- the sends are numbered upwards from the node's count
  pub step_numbers : AreNumberedFrom node.sends (node_step input node).outputs.sends
  step_numbers = (step_in_order input node).numbers

  -- the count grows by how many they are
  pub step_counts : (node_step input node).node.sends ≡ node.sends + length (node_step input node).outputs.sends
  step_counts = (step_in_order input node).counted

  -- the replies ascend by request
  pub step_replies : Ascend (node_step input node).outputs.replies
  step_replies = (step_in_order input node).ascend

  -- the node stays itself
  pub step_me : (node_step input node).node.me ≡ node.me
  step_me = ap (λ (u : Untouched). u.me) (step_in_order input node).same ∙ me_received input node

  -- its peer, its epochs and its recovery are as they were when the input was received
  pub step_peer : (node_step input node).node.peer ≡ (input_received input (at_first node)).node.peer
  step_peer = ap (λ (u : Untouched). u.peer) (step_in_order input node).same

  pub step_epochs : (node_step input node).node.epochs ≡ (input_received input (at_first node)).node.epochs
  step_epochs = ap (λ (u : Untouched). u.epochs) (step_in_order input node).same

  pub step_epochs_stay : may_begin_recovery input ≡ false → (node_step input node).node.epochs ≡ node.epochs
  step_epochs_stay quiet = step_epochs ∙ (log_parts_received input node quiet).0

  pub step_recovery : (node_step input node).node.recovery ≡ (input_received input (at_first node)).node.recovery
  step_recovery = ap (λ (u : Untouched). u.recovery) (step_in_order input node).same

  -- the entries that it has read
  pub step_reads : (node_step input node).node.peer.entries ≡ read_after input node.peer.entries
  step_reads = ap (λ (peer : Peer). peer.entries) step_peer ∙ entries_received input node

  -- what is said to a peer
  pub step_says : (node_step input node).outputs.say ≡ said_on input node
  step_says = ap (λ (u : Untouched). u.say) (step_in_order input node).same ∙ (outputs_received input node).0

  -- what goes into the log
  pub step_gives : (node_step input node).outputs.put ≡ put_on input node
  step_gives = ap (λ (u : Untouched). u.put) (step_in_order input node).same ∙ (outputs_received input node).1

  -- `Recovered`, once put, stays so until a recovery begins
  pub step_stays_recovered : may_begin_recovery input ≡ false → node.recovered ≡ true → (node_step input node).node.recovered ≡ true
  step_stays_recovered quiet done =
      (step_in_order input node).recovered_stays ((log_parts_received input node quiet).1 ∙ done)

-- ---- `Recovered`

-- a node opens with none due
pub none_due_at_opening : (me : NodeId) (tries : ℕ) → is_due (initial_node me tries) ≡ false
none_due_at_opening me tries = and-false (recoveries.is_finished (recovery_state_of (initial_node me tries)))

put_at_end : (so_far : StepState) (b : Bool) → is_due so_far.node ≡ b → is_due (cond b (with_recovered so_far) so_far).node ≡ false
put_at_end so_far true due = and-false (recoveries.is_finished (recovery_state_of so_far.node))
put_at_end so_far false due = due

-- at the end of a step nothing is due
pub step_not_due : (input : Input) (node : Node) → is_due (node_step input node).node ≡ false
unfolding node_step recovered_put
step_not_due input node = put_at_end (on_input input (at_first node)) (is_due (on_input input (at_first node)).node) refl

-- nothing is put twice
pub put_once : (so_far : StepState) → so_far.node.recovered ≡ true → recovered_put so_far ≡ so_far
unfolding recovered_put
put_once so_far done =
    ap (λ (b : Bool). cond (recoveries.is_finished (recovery_state_of so_far.node) && not b) (with_recovered so_far) so_far) done
    ∙ ap (λ (b : Bool). cond b (with_recovered so_far) so_far) (and-false (recoveries.is_finished (recovery_state_of so_far.node)))
