-- The epochs in which a node asks: its recovery is of one that the node came to, and a tick asks in the recovery's.
use Rattle.std.proofs.Common.{◌≡◌, ◌⊎◌, inl, inr, ⊎_elim, arith, ℕ, ◌+◌, ◌≤◌, nat_lt, Bool, true, false, cond, List, [], ◌∷◌, map, All}
use Rattle.std.proofs.Common.{Contains, Option, Some, None, refl, sym, ap, ◌∙◌}
use Rattle.std.specs.Option.{option_map_or}
use Rattle.std.proofs.lemmas.List.Elements.{All-nil, All-cons, All-map, All-contains}
use Rattle.proof_tools.proofs.Booleans.{cond_either}
use Rattle.object_id.specs.declared.entry.Entry.{Entry}
use Rattle.object_id.specs.declared.entry.Member.{Member}
use Rattle.object_id.specs.declared.node.NodeId.{NodeId}
use Rattle.object_id.specs.declared.policy.Policy.{Policy}
use Rattle.object_id.specs.Oid.{kind_of}
use Rattle.object_id.specs.Policy.{wanted_of}
use Rattle.epoch_log.specs.Epochs.{settled_of}
use Rattle.peer_proto.specs.declared.ask.PeerAsk.{PeerAsk}
use Rattle.peer_proto.specs.declared.ask.PeerAsk.TheVariants as asks
use Rattle.peer_proto.specs.declared.ask.PeerReq.{PeerReq}
use Rattle.peer_proto.specs.declared.say.PeerSay.{PeerSay}
use Rattle.peer_service.specs.State.{Peer}
use Rattle.peer_service.specs.Epochs.{peer_settled_to}
use Rattle.peer_service.specs.LogReading.{read_entry}
use Rattle.gateway.specs.State as gateways
use Rattle.recovery.specs.Frame.{Frame}
use Rattle.recovery.specs.Shown.{live_policy, shown_with_pending}
use Rattle.recovery.specs.State.{Message, Recovery, RecoveryState, Search, is_listed}
use Rattle.recovery.specs.Steps as recovery_steps
use Rattle.recovery.specs.Steps.{to_recover, at_start, recovery_from_epoch}
use Rattle.recovery.specs.Tick.{request_message, messages_to, lists_asked, asked_of, level_asked, next_search, level_messages}
use Rattle.recovery.specs.Tick.{tick_messages, tick_sends}
use Rattle.recovery.proofs.StepLemmas.{frame_of_tick, frame_of_end}
use Rattle.sheep_node.specs.declared.input.Input.{Input}
use Rattle.sheep_node.specs.declared.input.Input.TheVariants as inputs
use Rattle.sheep_node.specs.State.{Node}
use Rattle.sheep_node.specs.RecoveryView.{recovery_state_of, with_recovered_rows}
use Rattle.sheep_node.specs.StepState.{StepState, at_first}
use Rattle.sheep_node.specs.LogReading.{epoch_members, peer_with_entry, node_with_entry, recovery_in_epoch, begins_recovery}
use Rattle.sheep_node.specs.LogReading.{recovery_with_entry, with_settled, entry_read, come_back_with, on_back}
use Rattle.sheep_node.specs.Step.{on_request, recovery_stepped, on_put, on_recover_tick, on_input, is_due, with_recovered, recovered_put}
use Rattle.sheep_node.specs.Step.{node_step}
use Rattle.sheep_node.specs.Changes.{input_received}
use Rattle.sheep_node.proofs.StepResults.{step_peer, step_recovery}

pub no_more : {a b : ℕ} → a ≡ b → a ≤ b
no_more same = omega (arith, same)

-- what a step sends is of an epoch that the node is in or was in before
abbrev pub SendsInThePast : Input → Node → Type 0
SendsInThePast input node = (send : NodeId × PeerReq) → Contains (node_step input node).outputs.sends send
    → send.1.epoch.0 ≤ (node_step input node).node.peer.epoch

-- ---- a tick

-- a message is of an epoch
abbrev IsIn : ℕ → Message → Type 0
IsIn epoch message = message.request.epoch.0 ≡ epoch

tick_in_epoch : (first : ℕ) (state : RecoveryState)
    → All (λ (send : NodeId × PeerReq). send.1.epoch.0 ≡ state.recovery.epoch) (tick_sends first state)
unfolding tick_sends tick_messages
tick_in_epoch first state =
    All-map (λ (send : NodeId × PeerReq). send.1.epoch.0 ≡ state.recovery.epoch) (λ (message : Message). (message.to, message.request))
    (tick_messages first state)
    (cond_either (All (IsIn state.recovery.epoch)) (is_listed state.recovery)
    (option_map_or (level_messages first state) (next_search state) []) (lists_asked first state.recovery) (of_search (next_search state))
    (to_each first 0 asks.List state.recovery.lists.waiting))
  where
    to_each : (first wanted : ℕ) (ask : PeerAsk) (nodes : List NodeId)
        → All (IsIn state.recovery.epoch) (messages_to state.recovery first wanted ask nodes)
    to_each first wanted ask [] = All-nil (IsIn state.recovery.epoch)
    to_each first wanted ask (node ∷ nodes) =
        All-cons (IsIn state.recovery.epoch) (request_message state.recovery wanted ask (first, node))
        (messages_to state.recovery (first + 1) wanted ask nodes) refl (to_each (first + 1) wanted ask nodes)

    of_level : (search : Search) (policy : Option Policy)
        → All (IsIn state.recovery.epoch) (option_map_or (level_asked first state search) policy [])
    of_level search None = All-nil (IsIn state.recovery.epoch)
    of_level search (Some policy) =
        to_each first (wanted_of policy (kind_of search.oid)) (asks.RecoverRead search.oid (record { 0 = search.level }))
        (asked_of state policy search)

    of_search : (search : Option Search) → All (IsIn state.recovery.epoch) (option_map_or (level_messages first state) search [])
    of_search None = All-nil (IsIn state.recovery.epoch)
    of_search (Some search) = of_level search (live_policy state.shown search.oid)

pub ticked_in_epoch : (node : Node) (send : NodeId × PeerReq) → Contains (node_step inputs.RecoverTick node).outputs.sends send
    → send.1.epoch.0 ≡ node.recovery.epoch
unfolding node_step on_input recovered_put on_recover_tick
ticked_in_epoch node send there =
    let ticked = on_recover_tick (at_first node) in
    cond_either (λ (so_far : StepState). Contains so_far.outputs.sends send → send.1.epoch.0 ≡ node.recovery.epoch) (is_due ticked.node)
    (with_recovered ticked) ticked of_tick of_tick there
  where
    of_tick : Contains (tick_sends node.sends (recovery_state_of node)) send → send.1.epoch.0 ≡ node.recovery.epoch
    of_tick there =
        All-contains (λ (send : NodeId × PeerReq). send.1.epoch.0 ≡ node.recovery.epoch) (tick_sends node.sends (recovery_state_of node))
        send (tick_in_epoch node.sends (recovery_state_of node)) there

-- ---- the epoch of a recovery

-- a recovery is of the epoch that it was of, or of the one that the node is in
abbrev RecoversAs : Node → Node → Type 0
RecoversAs old new = (new.recovery.epoch ≡ old.recovery.epoch) ⊎ (new.recovery.epoch ≡ new.peer.epoch)

begun_epoch : (epoch : ℕ) (members : List NodeId) (state : RecoveryState) → (recovery_from_epoch epoch members state).recovery.epoch ≡ epoch
unfolding recovery_from_epoch
begun_epoch epoch members state =
    let start = at_start epoch members state in
    cond_either (λ (s : RecoveryState). s.recovery.epoch ≡ epoch) (is_listed start.recovery)
    (record start { shown = shown_with_pending (to_recover start) start.shown }) start refl refl

settled_epoch : (settled : ℕ) (peer : Peer) → (with_settled settled peer).epoch ≡ peer.epoch
unfolding peer_settled_to
settled_epoch settled peer =
    cond_either (λ (p : Peer). p.epoch ≡ peer.epoch) (nat_lt peer.settled settled) (peer_settled_to settled peer) peer refl refl

-- the node's epoch is not that of what it settles
pub read_epoch : (entry : Entry) (node : Node) → (entry_read entry node).peer.epoch ≡ (peer_with_entry entry node).epoch
unfolding entry_read
read_epoch entry node =
    settled_epoch (settled_of (read_entry entry node.peer).entries)
    (with_recovered_rows (recovery_with_entry entry node) (peer_with_entry entry node))

read_recovers : (entry : Entry) (node : Node) → RecoversAs node (entry_read entry node)
unfolding entry_read
read_recovers entry node = ⊎_elim
    (λ (old : (recovery_with_entry entry node).recovery.epoch ≡ node.recovery.epoch). inl old)
    (λ (new : (recovery_with_entry entry node).recovery.epoch ≡ (peer_with_entry entry node).epoch). inr
    (new ∙ sym (read_epoch entry node))) (by_begins (begins_recovery entry node))
  where
    by_begins : (b : Bool)
        → ((cond b (recovery_in_epoch (node_with_entry entry node)) (recovery_state_of (node_with_entry entry node))).recovery.epoch
        ≡ node.recovery.epoch)
        ⊎ ((cond b (recovery_in_epoch (node_with_entry entry node)) (recovery_state_of (node_with_entry entry node))).recovery.epoch
        ≡ (peer_with_entry entry node).epoch)
    by_begins true =
        let entered = node_with_entry entry node in
        inr (begun_epoch entered.peer.epoch (map (λ (member : Member). member.node) (epoch_members entered)) (recovery_state_of entered))
    by_begins false = inl refl

back_epoch : (entries : List Entry) (node : Node) → (on_back entries node).recovery.epoch ≡ (on_back entries node).peer.epoch
unfolding on_back
back_epoch entries node =
    let back = come_back_with entries node in
    begun_epoch back.peer.epoch (map (λ (member : Member). member.node) (epoch_members back)) (recovery_state_of back)

ended_epoch : (number : ℕ) (said : Option PeerSay) (node : Node)
    → (recovery_steps.message_end number said (recovery_state_of node)).recovery.epoch ≡ node.recovery.epoch
ended_epoch number said node = ap (λ (f : Frame). f.recovered) (frame_of_end number said (recovery_state_of node))

received_recovers : (input : Input) (node : Node) → RecoversAs node (input_received input (at_first node)).node
unfolding on_request on_recover_tick recovery_steps.recovery_on_reply recovery_steps.recovery_on_loss
received_recovers (inputs.Guest req session ask) node = inl refl
received_recovers (inputs.Request request) node = inl refl
received_recovers (inputs.Reply rsp) node =
    cond_either (λ (so_far : StepState). RecoversAs node so_far.node) (gateways.gateway_awaits rsp.number node.gateway) (at_first node)
    (recovery_stepped (recovery_steps.message_end rsp.number (Some rsp.say) (recovery_state_of node)) (at_first node))
    (inl refl) (inl (ended_epoch rsp.number (Some rsp.say) node))
received_recovers (inputs.Lost number) node =
    cond_either (λ (so_far : StepState). RecoversAs node so_far.node) (gateways.gateway_awaits number node.gateway) (at_first node)
    (recovery_stepped (recovery_steps.message_end number None (recovery_state_of node)) (at_first node))
    (inl refl) (inl (ended_epoch number None node))
received_recovers (inputs.LogEntry entry) node = read_recovers entry node
received_recovers inputs.Put node = by_outbox node.outbox
  where
    by_outbox : (outbox : List Entry) → RecoversAs node (on_put outbox (at_first node)).node
    by_outbox [] = inl refl
    by_outbox (entry ∷ later) = inl refl
received_recovers inputs.RecoverTick node = inl (ap (λ (f : Frame). f.recovered) (frame_of_tick node.sends (recovery_state_of node)))
received_recovers inputs.RetryTick node = inl refl
received_recovers (inputs.Back entries) node = inr (back_epoch entries node)

-- a step leaves the recovery in the past, where the node's epoch doesn't fall
pub step_recovers : (input : Input) (node : Node) → node.peer.epoch ≤ (node_step input node).node.peer.epoch
    → node.recovery.epoch ≤ node.peer.epoch
    → (node_step input node).node.recovery.epoch ≤ (node_step input node).node.peer.epoch
step_recovers input node rises past =
    let new = (node_step input node).node in
    let received = (input_received input (at_first node)).node in
    let same : new.recovery.epoch ≡ received.recovery.epoch = ap (λ (r : Recovery). r.epoch) (step_recovery input node) in
    let peers : new.peer.epoch ≡ received.peer.epoch = ap (λ (p : Peer). p.epoch) (step_peer input node) in
    let still : node.recovery.epoch ≤ new.peer.epoch = omega (arith, rises, past) in
    ⊎_elim
    (λ (old : received.recovery.epoch ≡ node.recovery.epoch). omega (arith, same, old, still))
    (λ (own : received.recovery.epoch ≡ received.peer.epoch). omega (arith, same, own, peers))
    (received_recovers input node)

-- a node that comes back recovers its epoch
pub back_recovers : (entries : List Entry) (node : Node)
    → (node_step (inputs.Back entries) node).node.recovery.epoch ≡ (node_step (inputs.Back entries) node).node.peer.epoch
back_recovers entries node =
    ap (λ (r : Recovery). r.epoch) (step_recovery (inputs.Back entries) node) ∙ back_epoch entries node
    ∙ sym (ap (λ (p : Peer). p.epoch) (step_peer (inputs.Back entries) node))
