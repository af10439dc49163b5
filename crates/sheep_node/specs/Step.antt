-- The step of a node: one clause for each input, and `Recovered` last.
use Rattle.std.specs.Prelude.{ℕ, Bool, true, not, ◌&&◌, List, [], ◌∷◌, Some, if◌then◌else◌}
use Rattle.object_id.specs.declared.entry.Entry.{Entry}
use Rattle.object_id.specs.declared.entry.Entry.TheVariants.{Recovered}
use Rattle.peer_proto.specs.declared.ask.PeerReq.{PeerReq}
use Rattle.peer_proto.specs.declared.say.PeerRsp.{PeerRsp}
use Rattle.peer_service.specs.Serve.{peer_step, reply_to}
use Rattle.gateway.specs.State as gateways
use Rattle.gateway.specs.Step as gateway_steps
use Rattle.recovery.specs.State as recoveries
use Rattle.recovery.specs.Steps as recovery_steps
use Rattle.recovery.specs.Tick.{state_after_tick, tick_sends}
use Rattle.sheep_node.specs.declared.input.Input.{Input}
use Rattle.sheep_node.specs.declared.input.Input.TheVariants as inputs
use Rattle.sheep_node.specs.State.{Node}
use Rattle.sheep_node.specs.RecoveryView.{recovery_state_of, with_state}
use Rattle.sheep_node.specs.StepState.{StepState, at_first, with_node, with_sends, with_outbox_entry}
use Rattle.sheep_node.specs.Waiting.{after_gateway_step}
use Rattle.sheep_node.specs.Guests.{on_guest}
use Rattle.sheep_node.specs.LogReading.{with_peer, on_log_entry, on_back}

-- another node's request is served: what it leaves of the peer, and what is said to it
unfoldable pub on_request : PeerReq → StepState → StepState
on_request request so_far = record so_far {
  node = with_peer (peer_step so_far.node.peer request).peer so_far.node;
  outputs = record so_far.outputs { say = Some (reply_to so_far.node.peer request) };
}

-- the recovery made a step
abbrev pub recovery_stepped : recoveries.RecoveryState → StepState → StepState
recovery_stepped state so_far = with_node (with_state state so_far.node) so_far

-- a reply goes to what waits for its number: the gateway, or else a recovery
unfoldable pub on_reply : PeerRsp → StepState → StepState
on_reply rsp so_far =
    if gateways.gateway_awaits rsp.number so_far.node.gateway
    then after_gateway_step (gateway_steps.gateway_on_reply so_far.node.gateway rsp) so_far
    else recovery_stepped (recovery_steps.recovery_on_reply rsp (recovery_state_of so_far.node)) so_far

-- a loss goes there too
unfoldable pub on_loss : ℕ → StepState → StepState
on_loss number so_far =
    if gateways.gateway_awaits number so_far.node.gateway
    then after_gateway_step (gateway_steps.gateway_on_loss so_far.node.gateway number) so_far
    else recovery_stepped (recovery_steps.recovery_on_loss number (recovery_state_of so_far.node)) so_far

-- the first entry of the outbox goes into the log
abbrev pub on_put : List Entry → StepState → StepState
on_put [] so_far = so_far
on_put (entry ∷ later) so_far = record so_far {
  node = record so_far.node { outbox = later };
  outputs = record so_far.outputs { put = Some entry };
}

-- a tick of the recovery sends its messages
unfoldable pub on_recover_tick : StepState → StepState
on_recover_tick so_far =
    with_sends (tick_sends so_far.node.sends (recovery_state_of so_far.node))
    (recovery_stepped (state_after_tick so_far.node.sends (recovery_state_of so_far.node)) so_far)

-- of the works that wait for their next attempt that of the smallest request is tried again
unfoldable pub on_retry_tick : StepState → StepState
on_retry_tick so_far = after_gateway_step
    (gateway_steps.retry_step so_far.node.epochs so_far.node.gateway so_far.node.sends (record { 0 = so_far.node.peer.epoch }))
    so_far

-- what an input does
unfoldable pub on_input : Input → StepState → StepState
on_input (inputs.Guest req session ask) so_far = on_guest req session ask so_far
on_input (inputs.Request request) so_far = on_request request so_far
on_input (inputs.Reply rsp) so_far = on_reply rsp so_far
on_input (inputs.Lost number) so_far = on_loss number so_far
on_input (inputs.LogEntry entry) so_far = on_log_entry entry so_far
on_input inputs.Put so_far = on_put so_far.node.outbox so_far
on_input inputs.RecoverTick so_far = on_recover_tick so_far
on_input inputs.RetryTick so_far = on_retry_tick so_far
on_input (inputs.Back entries) so_far = with_node (on_back entries so_far.node) so_far

-- whether the recovery is finished, and its `Recovered` wasn't put
abbrev pub is_due : Node → Bool
is_due node = recoveries.is_finished (recovery_state_of node) && not node.recovered

-- `Recovered` of the epoch that is recovered stands in the outbox
abbrev pub with_recovered : StepState → StepState
with_recovered so_far =
    with_outbox_entry (Recovered so_far.node.me (record { 0 = so_far.node.recovery.epoch }))
    (with_node (record so_far.node { recovered = true }) so_far)

-- where it is due
unfoldable pub recovered_put : StepState → StepState
recovered_put so_far = if is_due so_far.node then with_recovered so_far else so_far

-- a node's step on an input
unfoldable pub node_step : Input → Node → StepState
node_step input node = recovered_put (on_input input (at_first node))
