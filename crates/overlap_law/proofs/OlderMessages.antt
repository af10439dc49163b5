-- What a node waits for of older recoveries it waited for before, whatever its input was; and one that comes back waits for nothing.
use Rattle.std.proofs.Common.{◌≡◌, ℕ, not, List, [], ◌∷◌, map, Contains, Option, Some, None, subst}
use Rattle.std.proofs.lemmas.List.Elements.{Contains-append_right}
use Rattle.proof_tools.proofs.Booleans.{cond_either}
use Rattle.proof_tools.proofs.Lists.{Contains-nil, filter-contains}
use Rattle.object_id.specs.declared.entry.Entry.{Entry}
use Rattle.object_id.specs.declared.entry.Member.{Member}
use Rattle.peer_proto.specs.declared.say.PeerSay.{PeerSay}
use Rattle.gateway.specs.State as gateways
use Rattle.recovery.specs.Frame.{Frame}
use Rattle.recovery.specs.State.{Message, RecoveryState, all_unanswered, has_number}
use Rattle.recovery.specs.Steps as recovery_steps
use Rattle.recovery.specs.Steps.{message_end}
use Rattle.recovery.proofs.StepLemmas.{frame_of_tick, frame_of_end, begun_hears_nothing}
use Rattle.sheep_node.specs.declared.input.Input.{Input}
use Rattle.sheep_node.specs.declared.input.Input.TheVariants as inputs
use Rattle.sheep_node.specs.State.{Node}
use Rattle.sheep_node.specs.RecoveryView.{recovery_state_of}
use Rattle.sheep_node.specs.StepState.{StepState, at_first}
use Rattle.sheep_node.specs.LogReading.{epoch_members, node_with_entry, recovery_in_epoch, begins_recovery, entry_read, come_back_with}
use Rattle.sheep_node.specs.LogReading.{on_back}
use Rattle.sheep_node.specs.Step.{on_request, recovery_stepped, on_put, on_recover_tick}
use Rattle.sheep_node.specs.Changes.{input_received}

-- the messages of older recoveries are some that were waited for
abbrev OlderWere : Node → List Message → Type 0
OlderWere node older = (message : Message) → Contains older message → Contains (all_unanswered node.recovery) message

older_stay : (node : Node) → OlderWere node node.recovery.older
older_stay node message there = Contains-append_right node.recovery.unanswered node.recovery.older message there

older_ended : (number : ℕ) (said : Option PeerSay) (node : Node)
    → OlderWere node (message_end number said (recovery_state_of node)).recovery.older
older_ended number said node message there =
    older_stay node message (filter-contains (λ (m : Message). not (has_number number m)) node.recovery.older message
    (subst (λ (f : Frame). Contains f.older message) (frame_of_end number said (recovery_state_of node)) there)).0

older_read : (entry : Entry) (node : Node) → OlderWere node (entry_read entry node).recovery.older
unfolding entry_read
older_read entry node =
    let entered : Node = node_with_entry entry node in
    cond_either (λ (state : RecoveryState). OlderWere node state.recovery.older) (begins_recovery entry node) (recovery_in_epoch entered)
    (recovery_state_of entered)
    (λ message there.
    subst (λ (messages : List Message). Contains messages message)
    (begun_hears_nothing entered.peer.epoch (map (λ (member : Member). member.node) (epoch_members entered)) (recovery_state_of entered)).1
    there)
    (older_stay node)

pub back-older : (entries : List Entry) (node : Node) → (input_received (inputs.Back entries) (at_first node)).node.recovery.older ≡ []
unfolding on_back
back-older entries node =
    let back : Node = come_back_with entries node in
    (begun_hears_nothing back.peer.epoch (map (λ (member : Member). member.node) (epoch_members back)) (recovery_state_of back)).1

pub older_received : (input : Input) (node : Node) → OlderWere node (input_received input (at_first node)).node.recovery.older
unfolding on_request on_recover_tick recovery_steps.recovery_on_reply recovery_steps.recovery_on_loss
older_received (inputs.Guest req session ask) node = older_stay node
older_received (inputs.Request request) node = older_stay node
older_received (inputs.Reply rsp) node =
    cond_either (λ (so_far : StepState). OlderWere node so_far.node.recovery.older) (gateways.gateway_awaits rsp.number node.gateway)
    (at_first node) (recovery_stepped (message_end rsp.number (Some rsp.say) (recovery_state_of node)) (at_first node)) (older_stay node)
    (older_ended rsp.number (Some rsp.say) node)
older_received (inputs.Lost number) node =
    cond_either (λ (so_far : StepState). OlderWere node so_far.node.recovery.older) (gateways.gateway_awaits number node.gateway)
    (at_first node) (recovery_stepped (message_end number None (recovery_state_of node)) (at_first node)) (older_stay node)
    (older_ended number None node)
older_received (inputs.LogEntry entry) node = older_read entry node
older_received inputs.Put node = by_outbox node.outbox
  where
    by_outbox : (outbox : List Entry) → OlderWere node (on_put outbox (at_first node)).node.recovery.older
    by_outbox [] = older_stay node
    by_outbox (entry ∷ later) = older_stay node
older_received inputs.RecoverTick node = λ message there.
    older_stay node message
    (subst (λ (f : Frame). Contains f.older message) (frame_of_tick node.sends (recovery_state_of node)) there)
older_received inputs.RetryTick node = older_stay node
older_received (inputs.Back entries) node = λ message there.
    absurd (Contains-nil message (subst (λ (messages : List Message). Contains messages message) (back-older entries node) there))
