-- Which of the requests that a node sends ask to create or write: those of an attempt that creates or writes alone.
use Rattle.std.proofs.Common.{◌≡◌, ℕ, ◌+◌, true, false, List, [], ◌∷◌, map, All, Contains, Option, Some, None, refl, sym, ap, subst, ◌∙◌}
use Rattle.std.specs.List.{enumerate_from}
use Rattle.std.specs.Option.{option_map_or}
use Rattle.std.proofs.lemmas.Bool.{eq-eqb}
use Rattle.std.proofs.lemmas.List.Elements.{All-nil, All-cons, All-map, All-contains}
use Rattle.proof_tools.proofs.Booleans.{cond_either}
use Rattle.proof_tools.proofs.Lists.{Contains-nil}
use Rattle.object_id.specs.declared.node.NodeId.{NodeId}
use Rattle.object_id.specs.declared.node.Epoch.{Epoch}
use Rattle.object_id.specs.declared.policy.Policy.{Policy}
use Rattle.object_id.specs.Oid.{kind_of}
use Rattle.object_id.specs.Policy.{wanted_of}
use Rattle.peer_proto.specs.declared.ask.PeerAsk.{PeerAsk}
use Rattle.peer_proto.specs.declared.ask.PeerAsk.TheVariants as asks
use Rattle.peer_proto.specs.declared.ask.PeerReq.{PeerReq}
use Rattle.peer_proto.specs.declared.work.ObjWork.{ObjWork}
use Rattle.peer_proto.specs.declared.work.ObjWork.TheVariants as works
use Rattle.gateway.specs.declared.message.Message as messages
use Rattle.gateway.specs.Work.{is_making, ask_for, targets_asked}
use Rattle.gateway.specs.Attempt.{message_for, send_of}
use Rattle.recovery.specs.State.{Message, Search, RecoveryState, is_listed}
use Rattle.recovery.specs.Shown.{live_policy}
use Rattle.recovery.specs.Tick.{request_message, messages_to, lists_asked, level_asked, level_messages, asked_of, next_search}
use Rattle.recovery.specs.Tick.{tick_messages, tick_sends}
use Rattle.sheep_node.specs.declared.input.Input.TheVariants as inputs
use Rattle.sheep_node.specs.State.{Node}
use Rattle.sheep_node.specs.RecoveryView.{recovery_state_of}
use Rattle.sheep_node.specs.StepState.{StepState, at_first}
use Rattle.sheep_node.specs.Step.{on_input, on_recover_tick, is_due, with_recovered, recovered_put, node_step}
use Rattle.overlap_law.specs.Attempts.{is_first}
use Rattle.overlap_law.specs.Traffic.{asks_making, AskNothingMade}
use Rattle.overlap_law.proofs.AttemptMessages.{targets-of_making}

-- ---- an attempt

abbrev Asks : NodeId × PeerReq → Type 0
Asks send = asks_making send.1.ask ≡ false

reading_asks : (work : ObjWork) (index : ℕ) → is_making work ≡ false → asks_making (ask_for work index) ≡ false
reading_asks (works.Create oid policy size offset bytes) index reading = absurd (cc (reading))
reading_asks (works.Write oid policy offset bytes) index reading = absurd (cc (reading))
reading_asks (works.Read oid policy offset size) index reading = refl
reading_asks (works.ReadAll oid policy size) index reading = refl

reads_all : (me : NodeId) (epoch : Epoch) (work : ObjWork) → is_making work ≡ false → (sent : List messages.Message)
    → All Asks (map (send_of me epoch work) sent)
reads_all me epoch work reading [] = All-nil Asks
reads_all me epoch work reading (message ∷ sent) =
    All-cons Asks (send_of me epoch work message) (map (send_of me epoch work) sent) (reading_asks work message.index reading)
    (reads_all me epoch work reading sent)

pub reads_ask_nothing : (me : NodeId) (epoch : Epoch) (work : ObjWork) → is_making work ≡ false → (sent : List messages.Message)
    → AskNothingMade (map (send_of me epoch work) sent)
reads_ask_nothing me epoch work reading sent send there =
    All-contains Asks (map (send_of me epoch work) sent) send (reads_all me epoch work reading sent) there

-- what is sent to nodes at some places
abbrev sends_to : NodeId → Epoch → ObjWork → ℕ → List (ℕ × NodeId) → List (NodeId × PeerReq)
sends_to me epoch work first places = map (send_of me epoch work) (map (message_for work) (enumerate_from first places))

-- an attempt to create or write without a first message has none
pub no_first_asks_nothing : (me : NodeId) (epoch : Epoch) (work : ObjWork) (ended first : ℕ) (targets : List NodeId) → is_making work ≡ true
    → is_first first (map (message_for work) (enumerate_from first (targets_asked work ended targets))) ≡ false
    → AskNothingMade (map (send_of me epoch work) (map (message_for work) (enumerate_from first (targets_asked work ended targets))))
no_first_asks_nothing me epoch work ended first targets making none =
    by_targets targets
    (ap (λ (places : List (ℕ × NodeId)). is_first first (map (message_for work) (enumerate_from first places)))
    (sym (targets-of_making work ended targets making)) ∙ none)
    (targets_asked work ended targets) (targets-of_making work ended targets making)
  where
    by_targets : (targets : List NodeId) → is_first first (map (message_for work) (enumerate_from first (enumerate_from 0 targets))) ≡ false
        → (places : List (ℕ × NodeId)) → places ≡ enumerate_from 0 targets
        → AskNothingMade (map (send_of me epoch work) (map (message_for work) (enumerate_from first places)))
    by_targets [] none places is =
        subst (λ (places : List (ℕ × NodeId)). AskNothingMade (sends_to me epoch work first places))
        (sym is) (λ send there. absurd (Contains-nil send there))
    by_targets (target ∷ targets) none places is =
        let yes : is_first first (map (message_for work) (enumerate_from first (enumerate_from 0 (target ∷ targets)))) ≡ true
        = eq-eqb first first refl in
        absurd (cc (yes, none))

-- ---- a tick

to_each : (state : RecoveryState) (first wanted : ℕ) (ask : PeerAsk) → asks_making ask ≡ false → (nodes : List NodeId)
    → All (λ (message : Message). asks_making message.request.ask ≡ false) (messages_to state.recovery first wanted ask nodes)
to_each state first wanted ask none [] = All-nil (λ (message : Message). asks_making message.request.ask ≡ false)
to_each state first wanted ask none (node ∷ nodes) =
    All-cons (λ (message : Message). asks_making message.request.ask ≡ false) (request_message state.recovery wanted ask (first, node))
    (messages_to state.recovery (first + 1) wanted ask nodes) none (to_each state (first + 1) wanted ask none nodes)

tick_asks : (first : ℕ) (state : RecoveryState) → All Asks (tick_sends first state)
unfolding tick_sends tick_messages
tick_asks first state =
    All-map Asks (λ (message : Message). (message.to, message.request)) (tick_messages first state)
    (cond_either (All (λ (message : Message). asks_making message.request.ask ≡ false)) (is_listed state.recovery)
    (option_map_or (level_messages first state) (next_search state) []) (lists_asked first state.recovery)
    (of_search (next_search state)) (to_each state first 0 asks.List refl state.recovery.lists.waiting))
  where
    of_level : (search : Search) (policy : Option Policy)
        → All (λ (message : Message). asks_making message.request.ask ≡ false) (option_map_or (level_asked first state search) policy [])
    of_level search None = All-nil (λ (message : Message). asks_making message.request.ask ≡ false)
    of_level search (Some policy) =
        to_each state first (wanted_of policy (kind_of search.oid)) (asks.RecoverRead search.oid (record { 0 = search.level })) refl
        (asked_of state policy search)

    of_search : (o : Option Search)
        → All (λ (message : Message). asks_making message.request.ask ≡ false) (option_map_or (level_messages first state) o [])
    of_search None = All-nil (λ (message : Message). asks_making message.request.ask ≡ false)
    of_search (Some search) = of_level search (live_policy state.shown search.oid)

pub ticked_asks_nothing : (node : Node) → AskNothingMade (node_step inputs.RecoverTick node).outputs.sends
unfolding node_step on_input recovered_put on_recover_tick
ticked_asks_nothing node send there =
    let ticked = on_recover_tick (at_first node) in
    cond_either (λ (so_far : StepState). Contains so_far.outputs.sends send → asks_making send.1.ask ≡ false) (is_due ticked.node)
    (with_recovered ticked) ticked of_tick of_tick there
  where
    of_tick : Contains (tick_sends node.sends (recovery_state_of node)) send → asks_making send.1.ask ≡ false
    of_tick there =
        All-contains Asks (tick_sends node.sends (recovery_state_of node)) send (tick_asks node.sends (recovery_state_of node)) there
