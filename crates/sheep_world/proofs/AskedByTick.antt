-- A tick leaves what a node waits for, but that its recovery waits for what the tick asks; and it leaves the recovery in range.
use Rattle.std.proofs.Common.{◌≡◌, inl, inr, ℕ, ◌==◌, ◌≤◌, ◌^◌, ◌-◌, Bool, true, false, not, ◌||◌, cond, List, [], ◌∷◌, length, map, Contains, Some, is_some, refl, ap, subst, ◌∙◌, ⊎_elim}
use native.Mathlib.Omega.{arith}
use Rattle.std.proofs.lemmas.Bool.{eq-eqb, eqb-true, leb-true, and_parts, or_left, or_right}
use Rattle.std.proofs.lemmas.List.Elements.{All-contains, Contains-append_left, Contains-append_cases}
use Rattle.proof_tools.proofs.Booleans.{cond_either}
use Rattle.proof_tools.proofs.Lists.{Contains-cons_cases, Contains-nil}
use Rattle.object_id.specs.declared.node.NodeId.{NodeId}
use Rattle.peer_proto.specs.declared.ask.PeerReq.{PeerReq}
use Rattle.peer_proto.specs.declared.say.PeerRsp.{PeerRsp}
use Rattle.peer_proto.specs.Ask.{IsPeerReq}
use Rattle.peer_proto.proofs.AskLemmas.{ask-again}
use Rattle.gateway.specs.State as gateways
use Rattle.recovery.specs.State as recoveries
use Rattle.recovery.specs.State.{Message}
use Rattle.recovery.specs.Fits as recovery_fits
use Rattle.recovery.specs.Tick.{tick_messages, tick_sends, state_after_tick}
use Rattle.recovery.specs.Frame.{Frame}
use Rattle.recovery.proofs.StepLemmas.{frame_of_tick}
use Rattle.recovery.proofs.RangeLemmas.{asked_by_own, asked_in_range, ticked_in_range}
use Rattle.sheep_node.specs.declared.limits.TheConstants.{SENDS_MAX}
use Rattle.sheep_node.specs.declared.input.Input.TheVariants as inputs
use Rattle.sheep_node.specs.State.{Node}
use Rattle.sheep_node.specs.RecoveryView.{recovery_state_of}
use Rattle.sheep_node.specs.May.{has_numbers, may_tick}
use Rattle.sheep_node.specs.StepState.{StepState, at_first}
use Rattle.sheep_node.specs.Step as steps
use Rattle.sheep_node.specs.Step.{is_due, with_recovered, recovered_put, on_input, node_step}
use Rattle.sheep_node.proofs.Numbers.{tick_numbers}
use Rattle.sheep_world.specs.WireMatch.{asked_by_gateway, asked_by_recovery}
use Rattle.sheep_node.specs.RecoveryRange.{RecoversInRange}
use Rattle.std.proofs.lemmas.List.{nil_from_length}
use Rattle.sheep_world.proofs.RecoveryRangeEvents.{stepped_range, recovered_in_range}
use Rattle.sheep_node.proofs.MessageNumbers.{Sends, asked_now}
use Rattle.sheep_world.proofs.WireAfterSends.{Asking}

-- all numbers
abbrev pub Any : ℕ → Type 0
Any number = Unit {0}

-- what the last act of a step, `Recovered`, leaves
abbrev pub AsksFrom : (ℕ → Type 0) → Node → StepState → Type 0
AsksFrom Stays old so_far = Asking Stays old so_far.node so_far.outputs.sends

pub asks_at_end : (Stays : ℕ → Type 0) (old : Node) (so_far : StepState) → AsksFrom Stays old so_far → AsksFrom Stays old (recovered_put so_far)
unfolding recovered_put
asks_at_end Stays old so_far asking =
    cond_either (AsksFrom Stays old) (is_due so_far.node) (with_recovered so_far) so_far
    (record {
      me_so = asking.me_so;
      count_so = asking.count_so;
      numbers = asking.numbers;
      own = asking.own;
      read = asking.read;
      asked = asking.asked;
      waits_on = asking.waits_on;
      waits_too = asking.waits_too;
      fits_on = asking.fits_on;
    })
    asking

or_first : (a b : Bool) → b ≡ false → (a || b) ≡ true → a ≡ true
or_first true b none is = refl
or_first false b none is = absurd (cc (none, is))

-- the message of a number that is among some is found
pub numbered_there : (messages : List Message) (send : NodeId × PeerReq)
    → Contains (map (λ (message : Message). (message.to, message.request)) messages) send
    → is_some (recoveries.message_of send.1.number messages) ≡ true
numbered_there [] send there = absurd (Contains-nil send there)
numbered_there (message ∷ messages) send there = ⊎_elim
    (λ (same : (message.to, message.request) ≡ send).
    here (message.request.number == send.1.number)
    (eq-eqb message.request.number send.1.number (ap (λ (s : NodeId × PeerReq). s.1.number) same)))
    (λ (later : Contains (map (λ (message : Message). (message.to, message.request)) messages) send).
    by_tie (message.request.number == send.1.number) (numbered_there messages send later))
    (Contains-cons_cases (message.to, message.request) (map (λ (message : Message). (message.to, message.request)) messages) send there)
  where
    here : (b : Bool) → b ≡ true → is_some (cond b (Some message) (recoveries.message_of send.1.number messages)) ≡ true
    here true is = refl
    here false is = absurd (cc (is))

    by_tie : (b : Bool) → is_some (recoveries.message_of send.1.number messages) ≡ true
        → is_some (cond b (Some message) (recoveries.message_of send.1.number messages)) ≡ true
    by_tie true found = refl
    by_tie false found = found

-- a tick is made where nothing is unanswered, so that afterwards its own messages are
module _ (node : Node) (may : may_tick node ≡ true) where
  none_asked : recoveries.all_unanswered node.recovery ≡ []
  none_asked =
      nil_from_length (recoveries.all_unanswered node.recovery)
      (eqb-true (length (recoveries.all_unanswered node.recovery)) 0
      (and_parts (not (recoveries.is_finished (recovery_state_of node))) (length (recoveries.all_unanswered node.recovery) == 0) may).1)

  sends_now : asked_by_recovery (state_after_tick node.sends (recovery_state_of node)).recovery ≡ tick_sends node.sends (recovery_state_of node)
  unfolding tick_sends
  sends_now = ap (map (λ (message : Message). (message.to, message.request))) (asked_now (recovery_state_of node) node.sends may)

  waited_now : (send : NodeId × PeerReq) → Contains (tick_sends node.sends (recovery_state_of node)) send
      → recoveries.recovery_awaits send.1.number (state_after_tick node.sends (recovery_state_of node)).recovery ≡ true
  unfolding tick_sends
  waited_now send there =
      ap (λ (messages : List Message). is_some (recoveries.message_of send.1.number messages)) (asked_now (recovery_state_of node) node.sends may)
      ∙ numbered_there (tick_messages node.sends (recovery_state_of node)) send there

  waited_never : (number : ℕ) → recoveries.recovery_awaits number node.recovery ≡ false
  waited_never number = ap (λ (messages : List Message). is_some (recoveries.message_of number messages)) none_asked

  fitted_never : (rsp : PeerRsp) → recovery_fits.fits_recovery rsp (recovery_state_of node) ≡ false
  fitted_never rsp =
      ap (λ (messages : List Message). recovery_fits.fits_message (recovery_state_of node).shown (recoveries.message_of rsp.number messages) rsp.say) none_asked

  pub tick_asks : has_numbers node ≡ true → RecoversInRange node → AsksFrom Any node (steps.on_recover_tick (at_first node))
  unfolding steps.on_recover_tick
  tick_asks numbers range =
      let state = recovery_state_of node in
      let sends = tick_sends node.sends state in
      let count : node.sends ≤ SENDS_MAX = leb-true node.sends SENDS_MAX numbers in
      let room : node.sends ≤ 2 ^ 32 - 64 = omega (arith, count) in
      let requests = asked_in_range node.sends state (record { work = may; room = room }) range.range in
      record {
        me_so = refl;
        count_so = refl;
        numbers = tick_numbers node.sends state;
        own = λ send there.
            All-contains (λ (send : NodeId × PeerReq). send.1.from ≡ node.recovery.me) sends send (asked_by_own node.sends state) there ∙ range.own;
        read = λ send there. ask-again send.1 (All-contains (λ (send : NodeId × PeerReq). IsPeerReq send.1) sends send requests there);
        asked = λ send there. ⊎_elim
            (λ (held : Contains (asked_by_gateway node.me node.gateway) send).
            inl (Contains-append_left (asked_by_gateway node.me node.gateway) (asked_by_recovery node.recovery) send held, tt))
            (λ (new : Contains (asked_by_recovery (state_after_tick node.sends state).recovery) send).
            inr (subst (λ (list : Sends). Contains list send) sends_now new))
            (Contains-append_cases (asked_by_gateway node.me node.gateway) (asked_by_recovery (state_after_tick node.sends state).recovery) send there);
        waits_on = λ number waits stays.
            or_left (gateways.gateway_awaits number node.gateway) (recoveries.recovery_awaits number (state_after_tick node.sends state).recovery)
            (or_first (gateways.gateway_awaits number node.gateway) (recoveries.recovery_awaits number node.recovery) (waited_never number) waits);
        waits_too = λ send there.
            or_right (gateways.gateway_awaits send.1.number node.gateway) (recoveries.recovery_awaits send.1.number (state_after_tick node.sends state).recovery)
            (waited_now send there);
        fits_on = λ rsp below stays fit.
            or_left (gateways.fits_gateway rsp node.gateway) (recovery_fits.fits_recovery rsp (recovery_state_of (steps.on_recover_tick (at_first node)).node))
            (or_first (gateways.fits_gateway rsp node.gateway) (recovery_fits.fits_recovery rsp state) (fitted_never rsp) fit);
      }

  tick_range : has_numbers node ≡ true → RecoversInRange node → RecoversInRange (steps.on_recover_tick (at_first node)).node
  unfolding steps.on_recover_tick
  tick_range numbers range =
      let state = recovery_state_of node in
      let count : node.sends ≤ SENDS_MAX = leb-true node.sends SENDS_MAX numbers in
      let room : node.sends ≤ 2 ^ 32 - 64 = omega (arith, count) in
      let after = recovered_in_range node (state_after_tick node.sends state) (ap (λ (f : Frame). f.me) (frame_of_tick node.sends state))
      (ticked_in_range node.sends state (record { work = may; room = room }) range.range) range in
      record { own = after.own; range = after.range }

  pub recovered_asks : has_numbers node ≡ true → RecoversInRange node → AsksFrom Any node (node_step inputs.RecoverTick node)
  unfolding node_step on_input
  recovered_asks numbers range = asks_at_end Any node (steps.on_recover_tick (at_first node)) (tick_asks numbers range)

  pub recovered_range : has_numbers node ≡ true → RecoversInRange node → RecoversInRange (node_step inputs.RecoverTick node).node
  recovered_range numbers range = stepped_range inputs.RecoverTick node (tick_range numbers range)
