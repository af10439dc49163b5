-- A step that goes by changes begins with the gateway, the requests and the sessions that its node had, and one that is made at once ends
-- with them.
use Rattle.std.proofs.Common.{◌≡◌, List, [], ◌∷◌, refl}
use Rattle.proof_tools.proofs.Booleans.{cond_either}
use Rattle.object_id.specs.declared.entry.Entry.{Entry}
use Rattle.gateway.specs.State as gateway_states
use Rattle.recovery.specs.Steps as recovery_steps
use Rattle.sheep_node.specs.State.{Node}
use Rattle.sheep_node.specs.RecoveryView.{recovery_state_of}
use Rattle.sheep_node.specs.StepState.{StepState, at_first}
use Rattle.sheep_node.specs.LogReading.{entry_read}
use Rattle.sheep_node.specs.Step.{on_request, recovery_stepped, on_put, on_recover_tick, on_input, is_due, with_recovered, recovered_put}
use Rattle.sheep_node.specs.Step.{node_step}
use Rattle.sheep_node.specs.Changes.{input_received}
use Rattle.sheep_world.specs.NodeCauses.{NodeCause, GuestAsks, RequestComes, ReplyComes, LossIsTold, EntryIsRead, EntryIsPut, RecoveryTicks}
use Rattle.sheep_world.specs.NodeCauses.{WorkIsRetried, ClientAsks, input_of_cause}
use Rattle.overlap_law.specs.StepMoments.{StepsByChanges, StepsAtOnce}

-- what a node is asked for, and does for it, is as it was
abbrev pub IsAskedAs : Node → Node → Type 0
IsAskedAs node now = (now.gateway ≡ node.gateway) × (now.requests ≡ node.requests) × (now.sessions ≡ node.sessions)

abbrev pub IsAskedAlike : Node → StepState → Type 0
IsAskedAlike node so_far = IsAskedAs node so_far.node

pub received_alike : (cause : NodeCause) (node : Node) → StepsByChanges cause
    → IsAskedAlike node (input_received (input_of_cause cause) (at_first node))
unfolding entry_read
received_alike (GuestAsks session req ask) node by = (refl, refl, refl)
received_alike (RequestComes name to request) node by = absurd by
received_alike (ReplyComes name from rsp) node by =
    cond_either (IsAskedAlike node) (gateway_states.gateway_awaits rsp.number node.gateway) (at_first node)
    (recovery_stepped (recovery_steps.recovery_on_reply rsp (recovery_state_of node)) (at_first node)) (refl, refl, refl) (refl, refl, refl)
received_alike (LossIsTold name packet) node by =
    cond_either (IsAskedAlike node) (gateway_states.gateway_awaits name.number node.gateway) (at_first node)
    (recovery_stepped (recovery_steps.recovery_on_loss name.number (recovery_state_of node)) (at_first node)) (refl, refl, refl)
    (refl, refl, refl)
received_alike (EntryIsRead entry) node by = (refl, refl, refl)
received_alike (EntryIsPut entry) node by = absurd by
received_alike RecoveryTicks node by = absurd by
received_alike WorkIsRetried node by = (refl, refl, refl)
received_alike (ClientAsks req ask) node by = (refl, refl, refl)

pub due_alike : (node : Node) (so_far : StepState) → IsAskedAlike node so_far → IsAskedAlike node (recovered_put so_far)
unfolding recovered_put
due_alike node so_far is = cond_either (IsAskedAlike node) (is_due so_far.node) (with_recovered so_far) so_far is is

put_alike : (outbox : List Entry) (node : Node) → IsAskedAlike node (on_put outbox (at_first node))
put_alike [] node = (refl, refl, refl)
put_alike (entry ∷ later) node = (refl, refl, refl)

pub made_alike : (cause : NodeCause) (node : Node) → StepsAtOnce cause → IsAskedAlike node (node_step (input_of_cause cause) node)
unfolding node_step on_input on_request on_recover_tick
made_alike (GuestAsks session req ask) node by = absurd by
made_alike (RequestComes name to request) node by = due_alike node (on_request request (at_first node)) (refl, refl, refl)
made_alike (ReplyComes name from rsp) node by = absurd by
made_alike (LossIsTold name packet) node by = absurd by
made_alike (EntryIsRead entry) node by = absurd by
made_alike (EntryIsPut entry) node by = due_alike node (on_put node.outbox (at_first node)) (put_alike node.outbox node)
made_alike RecoveryTicks node by = due_alike node (on_recover_tick (at_first node)) (refl, refl, refl)
made_alike WorkIsRetried node by = absurd by
made_alike (ClientAsks req ask) node by = absurd by
