-- What an input changes by itself leaves works, requests and sessions as they are; but with coming back they all go.
use Rattle.std.proofs.Common.{List, [], ◌∷◌}
use Rattle.std.specs.FinMap as tree
use Rattle.object_id.specs.declared.entry.Entry.{Entry}
use Rattle.gateway.specs.State as gateways
use Rattle.recovery.specs.Steps as recovery_steps
use Rattle.proof_tools.proofs.Booleans.{cond_either}
use Rattle.sheep_node.specs.declared.input.Input.{Input}
use Rattle.sheep_node.specs.declared.input.Input.TheVariants as inputs
use Rattle.sheep_node.specs.State.{Node}
use Rattle.sheep_node.specs.RecoveryView.{recovery_state_of}
use Rattle.sheep_node.specs.StepState.{StepState, at_first}
use Rattle.sheep_node.specs.LogReading.{entry_read, on_back}
use Rattle.sheep_node.specs.Step.{on_request, recovery_stepped, on_put, on_recover_tick}
use Rattle.sheep_node.specs.Changes.{input_received}
use Rattle.sheep_node.proofs.AwaitedWorks.{Works}
use Rattle.sheep_node.proofs.OneWorkParts.{Requests, Sessions}

module _ (P : Works → Requests → Sessions → Type 0) where
  -- it holds of what a step has made of a node
  abbrev HoldsSoFar : StepState → Type 0
  HoldsSoFar so_far = P so_far.node.gateway.works so_far.node.requests so_far.node.sessions

  pub received_keeps : P tree.empty tree.empty tree.empty → (input : Input) (node : Node) → P node.gateway.works node.requests node.sessions
      → HoldsSoFar (input_received input (at_first node))
  unfolding entry_read on_request on_recover_tick on_back
  received_keeps none (inputs.Guest req session ask) node is = is
  received_keeps none (inputs.Request request) node is = is
  received_keeps none (inputs.Reply rsp) node is =
      cond_either HoldsSoFar (gateways.gateway_awaits rsp.number node.gateway) (at_first node)
      (recovery_stepped (recovery_steps.recovery_on_reply rsp (recovery_state_of node)) (at_first node)) is is
  received_keeps none (inputs.Lost number) node is =
      cond_either HoldsSoFar (gateways.gateway_awaits number node.gateway) (at_first node)
      (recovery_stepped (recovery_steps.recovery_on_loss number (recovery_state_of node)) (at_first node)) is is
  received_keeps none (inputs.LogEntry entry) node is = is
  received_keeps none inputs.Put node is = by_outbox node.outbox
    where
      by_outbox : (outbox : List Entry) → HoldsSoFar (on_put outbox (at_first node))
      by_outbox [] = is
      by_outbox (entry ∷ later) = is
  received_keeps none inputs.RecoverTick node is = is
  received_keeps none inputs.RetryTick node is = is
  received_keeps none (inputs.Back entries) node is = none
