-- What stands in a node's outbox was there before a step, or the step put it; and a `Recovered` there is the node's own.
use Rattle.std.proofs.Common.{◌≡◌, ⊎_elim, ℕ, ◌||◌, Bool, true, false, List, [], ◌∷◌, refl, ap, ◌∙◌}
use Rattle.std.specs.List.{list_any}
use Rattle.proof_tools.proofs.Booleans.{cond_either}
use Rattle.object_id.specs.declared.entry.Entry.{Entry}
use Rattle.object_id.specs.declared.node.NodeId.{NodeId}
use Rattle.epoch_log.specs.Epochs.{recovers}
use Rattle.gateway.specs.State as gateways
use Rattle.recovery.specs.Steps as recovery_steps
use Rattle.sheep_node.specs.declared.input.Input.{Input}
use Rattle.sheep_node.specs.declared.input.Input.TheVariants as inputs
use Rattle.sheep_node.specs.State.{Node, initial_node}
use Rattle.sheep_node.specs.RecoveryView.{recovery_state_of}
use Rattle.sheep_node.specs.StepState.{StepState, at_first}
use Rattle.sheep_node.specs.LogReading.{entry_read, on_back}
use Rattle.sheep_node.specs.Step.{on_request, recovery_stepped, on_put, on_recover_tick}
use Rattle.sheep_node.specs.Changes.{input_received}
use Rattle.sheep_node.proofs.StepResults.{me_received}
use Rattle.overlap_law.proofs.RecoveredEntries.{IsOwnEnd, PutsOnlyItsEnd}

-- what an input by itself leaves in the outbox was there
pub outbox_received : (p : Entry → Bool) (input : Input) (node : Node)
    → list_any p (input_received input (at_first node)).node.outbox ≡ true
    → list_any p node.outbox ≡ true
unfolding entry_read on_request on_recover_tick on_back
outbox_received p (inputs.Guest req session ask) node there = there
outbox_received p (inputs.Request request) node there = there
outbox_received p (inputs.Reply rsp) node there =
    cond_either (λ (so_far : StepState). list_any p so_far.node.outbox ≡ true → list_any p node.outbox ≡ true)
    (gateways.gateway_awaits rsp.number node.gateway) (at_first node)
    (recovery_stepped (recovery_steps.recovery_on_reply rsp (recovery_state_of node)) (at_first node)) (λ is. is) (λ is. is) there
outbox_received p (inputs.Lost number) node there =
    cond_either (λ (so_far : StepState). list_any p so_far.node.outbox ≡ true → list_any p node.outbox ≡ true)
    (gateways.gateway_awaits number node.gateway) (at_first node)
    (recovery_stepped (recovery_steps.recovery_on_loss number (recovery_state_of node)) (at_first node)) (λ is. is) (λ is. is) there
outbox_received p (inputs.LogEntry entry) node there = there
outbox_received p inputs.Put node there = by_outbox node.outbox refl there
  where
    or_later : (a b : Bool) → b ≡ true → (a || b) ≡ true
    or_later true b is = refl
    or_later false b is = is

    by_outbox : (outbox : List Entry) → node.outbox ≡ outbox → list_any p (on_put outbox (at_first node)).node.outbox ≡ true
        → list_any p node.outbox ≡ true
    by_outbox [] is there = there
    by_outbox (entry ∷ later) is there = ap (list_any p) is ∙ or_later (p entry) (list_any p later) there
outbox_received p inputs.RecoverTick node there = there
outbox_received p inputs.RetryTick node there = there
outbox_received p (inputs.Back entries) node there = absurd (cc (there))

-- each `Recovered` that a node has to put is its own
abbrev pub EndsAreOwn : Node → Type 0
EndsAreOwn node = (epoch by : ℕ) → list_any (recovers epoch by) node.outbox ≡ true → node.me.0 ≡ by

pub ends_received : (input : Input) (node : Node) → EndsAreOwn node → EndsAreOwn (input_received input (at_first node)).node
ends_received input node own epoch by there =
    ap (λ (me : NodeId). me.0) (me_received input node) ∙ own epoch by (outbox_received (recovers epoch by) input node there)

pub ends_so_far : (input : Input) (node : Node) (so_far : StepState) → PutsOnlyItsEnd (input_received input (at_first node)).node so_far
    → EndsAreOwn node
    → EndsAreOwn so_far.node
ends_so_far input node so_far puts own epoch by there = ⊎_elim
    (λ (old : list_any (recovers epoch by) (input_received input (at_first node)).node.outbox ≡ true).
    ap (λ (me : NodeId). me.0) (puts.me_so ∙ me_received input node) ∙ own epoch by (outbox_received (recovers epoch by) input node old))
    (λ (end : IsOwnEnd (input_received input (at_first node)).node so_far.node.recovered epoch by). ap (λ (me : NodeId). me.0) puts.me_so
    ∙ end.by_node) (puts.puts epoch by there)

pub opening_ends : (me : NodeId) (tries : ℕ) → EndsAreOwn (initial_node me tries)
opening_ends me tries epoch by there = absurd (cc (there))
