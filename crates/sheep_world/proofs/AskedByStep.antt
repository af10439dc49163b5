-- A step leaves what its node waits for, but for what the input tells of, and waits for what it sends: by the chain of its changes.
use Rattle.std.proofs.Common.{◌≡◌, inl, inr, ℕ, ◌+◌, ◌<◌, Bool, true, false, ◌||◌, cond, [], length, All, Contains, Option, Some, None, refl, sym, ap, subst, ◌∙◌, ⊎_elim}
use native.Mathlib.Omega.{arith}
use Rattle.std.specs.FinMap as tree
use Rattle.std.proofs.lemmas.Bool.{or_cases, or_left, or_right}
use Rattle.std.proofs.lemmas.Option.{same_Some}
use Rattle.std.proofs.lemmas.List.Elements.{All-contains, Contains-append_left, Contains-append_right, Contains-append_cases}
use Rattle.proof_tools.proofs.Booleans.{has_value}
use Rattle.proof_tools.proofs.Lists.{Contains-nil}
use Rattle.object_id.specs.declared.node.NodeId.{NodeId}
use Rattle.peer_proto.specs.declared.ask.PeerReq.{PeerReq}
use Rattle.peer_proto.specs.declared.say.PeerRsp.{PeerRsp}
use Rattle.peer_proto.specs.declared.say.PeerSay.{PeerSay}
use Rattle.peer_proto.specs.Ask.{IsPeerReq}
use Rattle.peer_proto.proofs.AskLemmas.{ask-again}
use Rattle.peer_service.specs.State.{Peer, length_of_rows}
use Rattle.gateway.specs.Outcomes.{AreNumberedFrom}
use Rattle.gateway.specs.declared.message.Status.{Status}
use Rattle.gateway.specs.Attempt.{is_unanswered}
use Rattle.gateway.specs.State as gateways
use Rattle.gateway.specs.State.{Work, is_awaited_in, fits_work, fits_asker}
use Rattle.gateway.specs.Step.{message_ended}
use Rattle.recovery.specs.State as recoveries
use Rattle.recovery.specs.State.{Recovery}
use Rattle.recovery.specs.Fits as recovery_fits
use Rattle.recovery.specs.Steps.{message_end}
use Rattle.sheep_node.specs.declared.input.Input.{Input}
use Rattle.sheep_node.specs.State.{Node}
use Rattle.sheep_node.specs.RecoveryView.{recovery_state_of}
use Rattle.sheep_node.specs.May.{node_awaits}
use Rattle.sheep_node.specs.StepState.{StepState, at_first}
use Rattle.sheep_node.specs.Waiting.{after_gateway_step}
use Rattle.sheep_node.specs.Step.{recovery_stepped, recovered_put, node_step}
use Rattle.sheep_node.specs.Changes.{IsSoundStep, input_received}
use Rattle.sheep_node.proofs.AwaitedWorks.{found_by, found_got, got_found}
use Rattle.sheep_node.proofs.MessageNumbers.{Sends}
use Rattle.sheep_node.proofs.NumberChanges.{HasOneWorkAndNumber, change_keeps_both, both_at_first, received_numbers}
use Rattle.sheep_node.proofs.OneWorkChanges.{received_one_work}
use Rattle.sheep_node.proofs.StepChain.{kept_by_chain, step_chain}
use Rattle.sheep_node.proofs.StepResults.{step_numbers, step_counts, step_peer, step_recovery}
use Rattle.sheep_world.specs.WireMatch.{unanswered_in, asked_by_recovery, asked_by}
use Rattle.sheep_world.proofs.AttemptSends.{asked_in, asked_at, asked_of}
use Rattle.sheep_world.proofs.AskedWorks.{StaysOn, ToldIsBelow, AskedBefore, AsksOn, StepAsksOn, asks_at_first}
use Rattle.sheep_world.proofs.AskedAtChanges.{change_keeps_asks}
use Rattle.sheep_world.proofs.HeardMessages.{IsHeard, told_heard, heard_at_end, heard_waits_not}
use Rattle.sheep_world.proofs.WireAfterSends.{Asking}
use Rattle.sheep_world.proofs.AskedByTick.{numbered_there}
use Rattle.sheep_world.proofs.RecoveryMessages.{Other, same_fit, waits_for_asked, end_asks}

-- what is asked on one way, and then on another
asks_after : (Stays : ℕ → Type 0) (one two three : Node) (sends : Sends) → Asking Stays one two [] → Asking Stays two three sends → Asking Stays one three sends
asks_after Stays one two three sends first then =
    let none : one.sends + 0 ≡ one.sends = omega arith in
    let same : two.sends ≡ one.sends = first.count_so ∙ none in
    record {
      me_so = then.me_so ∙ first.me_so;
      count_so = then.count_so ∙ ap (λ (n : ℕ). n + length sends) same;
      numbers = subst (λ (n : ℕ). AreNumberedFrom n sends) same then.numbers;
      own = λ send there. then.own send there ∙ first.me_so;
      read = then.read;
      asked = λ send there. ⊎_elim
          (λ (old : Contains (asked_by two) send × Stays send.1.number). ⊎_elim
          (λ (older : Contains (asked_by one) send × Stays send.1.number). inl older)
          (λ (new : Contains [] send). absurd (Contains-nil send new))
          (first.asked send old.0))
          (λ (new : Contains sends send). inr new)
          (then.asked send there);
      waits_on = λ number waits stays. then.waits_on number (first.waits_on number waits stays) stays;
      waits_too = then.waits_too;
      fits_on = λ rsp below stays fit.
          then.fits_on rsp (subst (λ (n : ℕ). rsp.number < n) (sym same) below) stays (first.fits_on rsp below stays fit);
    }

-- a node waits for what it asks
awaits_asked : (node : Node) (send : NodeId × PeerReq) → Contains (asked_by node) send → node_awaits send.1.number node ≡ true
awaits_asked node send there = ⊎_elim
    (λ (held : Contains (asked_in node.me node.gateway.works) send).
    or_left (gateways.gateway_awaits send.1.number node.gateway) (recoveries.recovery_awaits send.1.number node.recovery)
    (waits_for_asked node.me node.gateway send held))
    (λ (left : Contains (asked_by_recovery node.recovery) send).
    or_right (gateways.gateway_awaits send.1.number node.gateway) (recoveries.recovery_awaits send.1.number node.recovery)
    (numbered_there (recoveries.all_unanswered node.recovery) send left))
    (Contains-append_cases (asked_in node.me node.gateway.works) (asked_by_recovery node.recovery) send there)

module _ (input : Input) (node : Node) (sound : IsSoundStep input node) where
  abbrev pub start : StepState
  start = input_received input (at_first node)

  abbrev pub last : StepState
  last = node_step input node

  abbrev pub Requests : Type 0
  Requests = All (λ (send : NodeId × PeerReq). IsPeerReq send.1) last.outputs.sends

  module _ (silent : start.outputs.sends ≡ []) (count_so : start.node.sends ≡ node.sends) (below : ToldIsBelow input start.node.sends) where
    both_start : HasOneWorkAndNumber start
    both_start =
        let both = both_at_first node sound.1 in
        (received_one_work input node both.0, received_numbers input node sound.0 both.1)

    works_on : AsksOn input start.node last.node.me last.node.gateway.works last.node.sends last.outputs.sends
    works_on =
        (kept_by_chain (λ (so_far : StepState). HasOneWorkAndNumber so_far × StepAsksOn input start.node so_far)
        (λ so_far next change so. (
          change_keeps_both so_far next change sound so.0,
          change_keeps_asks input start.node node sound below so_far next change so.0 so.1,
        ))
        (step_chain input node) (
          both_start,
          subst (AsksOn input start.node start.node.me start.node.gateway.works start.node.sends) (sym silent) (asks_at_first input start.node),
        )).1

    fits_still : (rsp : PeerRsp) → rsp.number < start.node.sends → StaysOn input rsp.number → gateways.fits_gateway rsp start.node.gateway ≡ true
        → gateways.fits_gateway rsp last.node.gateway ≡ true
    fits_still rsp less stays fit = by_found (found_by (is_awaited_in rsp.number) (tree.entries start.node.gateway.works)) refl fit
      where
        by_found : (o : Option (ℕ × Work)) → found_by (is_awaited_in rsp.number) (tree.entries start.node.gateway.works) ≡ o → fits_asker o rsp.say ≡ true
            → gateways.fits_gateway rsp last.node.gateway ≡ true
        by_found None is fit = absurd (cc (fit))
        by_found (Some found) is fit =
            let (got, awaits) = found_got rsp.number start.node.gateway.works found is in
            let (now, there, awaited) = works_on.still found.0 rsp.number stays (found.1, got, awaits) in
            let (new, new_is) = has_value (found_by (is_awaited_in rsp.number) (tree.entries last.node.gateway.works))
            (got_found rsp.number last.node.gateway.works found.0 now there awaited) in
            let (new_got, new_awaits) = found_got rsp.number last.node.gateway.works new new_is in
            let (work, was, same, waited) = works_on.was new.0 rsp.number new.1 new_got less new_awaits in
            let own : new.0 ≡ found.0 = both_start.1.once rsp.number new.0 found.0 work found.1 was got waited awaits in
            let alike : work ≡ found.1 = same_Some work found.1 (sym was ∙ ap (tree.get start.node.gateway.works) own ∙ got) in
            ap (λ (o : Option (ℕ × Work)). fits_asker o rsp.say) new_is
            ∙ (λ i. fits_work (same i) rsp.say)
            ∙ ap (λ (w : Work). fits_work w.work rsp.say) alike
            ∙ fit

    -- what the changes leave of what the node waits for once it has its input
    pub asking_on : ((send : NodeId × PeerReq) → Contains (asked_by last.node) send → Contains (asked_by start.node) send → StaysOn input send.1.number)
        → Requests → Asking (StaysOn input) start.node last.node last.outputs.sends
    asking_on stays requests =
        let old = start.node in
        let new = last.node in
        let recovery_so : new.recovery ≡ old.recovery = step_recovery input node in
        record {
          me_so = works_on.me_so;
          count_so = step_counts input node ∙ ap (λ (n : ℕ). n + length last.outputs.sends) (sym count_so);
          numbers = subst (λ (n : ℕ). AreNumberedFrom n last.outputs.sends) (sym count_so) (step_numbers input node);
          own = works_on.own;
          read = λ send there. ask-again send.1 (All-contains (λ (send : NodeId × PeerReq). IsPeerReq send.1) last.outputs.sends send requests there);
          asked = λ send there. ⊎_elim
              (λ (held : Contains (asked_in new.me new.gateway.works) send).
              let (e, got, asks) = asked_at new.me new.gateway.works send held in ⊎_elim
              (λ (one : AskedBefore input old e.0 send).
              let (work, was, so) = one in
              let before = Contains-append_left (asked_in old.me old.gateway.works) (asked_by_recovery old.recovery) send
              (asked_of old.me old.gateway.works e.0 work send was so) in
              inl (before, stays send there before))
              (λ (sent : Contains last.outputs.sends send). inr sent)
              (works_on.asked e.0 e.1 send got (subst (λ (me : NodeId). Contains (unanswered_in me e.1 e.1.stage) send) works_on.me_so asks)))
              (λ (left : Contains (asked_by_recovery new.recovery) send).
              let before = Contains-append_right (asked_in old.me old.gateway.works) (asked_by_recovery old.recovery) send
              (subst (λ (recovery : Recovery). Contains (asked_by_recovery recovery) send) recovery_so left) in
              inl (before, stays send there before))
              (Contains-append_cases (asked_in new.me new.gateway.works) (asked_by_recovery new.recovery) send there);
          waits_on = λ q waits stays. ⊎_elim
              (λ (held : gateways.gateway_awaits q old.gateway ≡ true).
              let (found, is) = has_value (found_by (is_awaited_in q) (tree.entries old.gateway.works)) held in
              let (got, awaits) = found_got q old.gateway.works found is in
              let (now, there, awaited) = works_on.still found.0 q stays (found.1, got, awaits) in
              or_left (gateways.gateway_awaits q new.gateway) (recoveries.recovery_awaits q new.recovery)
              (got_found q new.gateway.works found.0 now there awaited))
              (λ (left : recoveries.recovery_awaits q old.recovery ≡ true).
              or_right (gateways.gateway_awaits q new.gateway) (recoveries.recovery_awaits q new.recovery)
              (ap (λ (recovery : Recovery). recoveries.recovery_awaits q recovery) recovery_so ∙ left))
              (or_cases (gateways.gateway_awaits q old.gateway) (recoveries.recovery_awaits q old.recovery) waits);
          waits_too = λ send there.
              let (req, waits) = works_on.new send there in
              let (work, got, awaits) = waits in
              or_left (gateways.gateway_awaits send.1.number new.gateway) (recoveries.recovery_awaits send.1.number new.recovery)
              (got_found send.1.number new.gateway.works req work got awaits);
          fits_on = λ rsp less stays fit. ⊎_elim
              (λ (held : gateways.fits_gateway rsp old.gateway ≡ true).
              or_left (gateways.fits_gateway rsp new.gateway) (recovery_fits.fits_recovery rsp (recovery_state_of new)) (fits_still rsp less stays held))
              (λ (left : recovery_fits.fits_recovery rsp (recovery_state_of old) ≡ true).
              or_right (gateways.fits_gateway rsp new.gateway) (recovery_fits.fits_recovery rsp (recovery_state_of new))
              (ap (λ (recovery : Recovery). recovery_fits.fits_message (recovery_state_of new).shown
              (recoveries.message_of rsp.number (recoveries.all_unanswered recovery)) rsp.say) recovery_so
              ∙ same_fit (recovery_state_of new).shown (recovery_state_of old).shown (recoveries.message_of rsp.number (recoveries.all_unanswered old.recovery)) rsp.say
              (ap (λ (peer : Peer). length_of_rows peer) (step_peer input node))
              ∙ left))
              (or_cases (gateways.fits_gateway rsp old.gateway) (recovery_fits.fits_recovery rsp (recovery_state_of old)) fit);
        }

  -- so the whole step, where the input by itself leaves what the node waits for
  pub asking_by : Asking (StaysOn input) node start.node [] → start.outputs.sends ≡ [] → ToldIsBelow input start.node.sends → Requests
      → Asking (StaysOn input) node last.node last.outputs.sends
  asking_by first silent below requests =
      let none : node.sends + 0 ≡ node.sends = omega arith in
      asks_after (StaysOn input) node start.node last.node last.outputs.sends first
      (asking_on silent (first.count_so ∙ none) below
      (λ send there before. ⊎_elim
      (λ (old : Contains (asked_by node) send × StaysOn input send.1.number). old.1)
      (λ (new : Contains [] send). absurd (Contains-nil send new))
      (first.asked send before))
      requests)

  -- a message is told, to the gateway or to the recovery
  module _ (number : ℕ) (status : Status) (said : Option PeerSay) (settled : gateways.gateway_awaits number node.gateway ≡ true → is_unanswered status ≡ false)
      (given : number < node.sends) (below : ToldIsBelow input node.sends) (others : (q : ℕ) → Other number q → StaysOn input q)
      (all_others : (q : ℕ) → StaysOn input q → Other number q) where
    abbrev heard : StepState
    heard = recovery_stepped (message_end number said (recovery_state_of node)) (at_first node)

    abbrev done : StepState
    done = after_gateway_step (message_ended node.gateway number status) (at_first node)

    pub told_asking : start ≡ cond (gateways.gateway_awaits number node.gateway) (at_first node) heard
        → last ≡ recovered_put (cond (gateways.gateway_awaits number node.gateway) done heard) → Requests
        → Asking (StaysOn input) node last.node last.outputs.sends
    told_asking start_is last_is requests = by_waits (gateways.gateway_awaits number node.gateway) refl
      where
        by_waits : (b : Bool) → gateways.gateway_awaits number node.gateway ≡ b → Asking (StaysOn input) node last.node last.outputs.sends
        by_waits true waits =
            let start_so : start ≡ at_first node = start_is ∙ ap (λ (b : Bool). cond b (at_first node) heard) waits in
            let last_so : last ≡ recovered_put done = last_is ∙ ap (λ (b : Bool). recovered_put (cond b done heard)) waits in
            let held : gateways.gateway_awaits number last.node.gateway ≡ false
            = heard_waits_not number last
            (subst (IsHeard number) (sym last_so)
            (heard_at_end number done (told_heard number status (settled waits) (at_first node) given sound.1.once waits))) in
            let left : recoveries.recovery_awaits number last.node.recovery ≡ false
            = ap (λ (recovery : Recovery). recoveries.recovery_awaits number recovery) (step_recovery input node ∙ ap (λ (s : StepState). s.node.recovery) start_so)
            ∙ sound.1.recovers number waits in
            subst (λ (s : StepState). Asking (StaysOn input) s.node last.node last.outputs.sends) start_so
            (asking_on (ap (λ (s : StepState). s.outputs.sends) start_so) (ap (λ (s : StepState). s.node.sends) start_so)
            (subst (λ (s : StepState). ToldIsBelow input s.node.sends) (sym start_so) below)
            (λ send there before. others send.1.number (λ (same : send.1.number ≡ number).
            let waited : node_awaits number last.node ≡ true = subst (λ (q : ℕ). node_awaits q last.node ≡ true) same (awaits_asked last.node send there) in
            let none : node_awaits number last.node ≡ false = (λ i. held i || left i) in
            absurd (cc (waited, none))))
            requests)
        by_waits false none =
            let start_so : start ≡ heard = start_is ∙ ap (λ (b : Bool). cond b (at_first node) heard) none in
            let first : Asking (Other number) node heard.node [] = end_asks node number said none in
            asking_by
            (subst (λ (s : StepState). Asking (StaysOn input) node s.node []) (sym start_so) (record {
              me_so = first.me_so;
              count_so = first.count_so;
              numbers = first.numbers;
              own = first.own;
              read = first.read;
              asked = λ send there. ⊎_elim
                  (λ (old : Contains (asked_by node) send × Other number send.1.number). inl (old.0, others send.1.number old.1))
                  (λ (new : Contains [] send). inr new)
                  (first.asked send there);
              waits_on = λ q waits stays. first.waits_on q waits (all_others q stays);
              waits_too = first.waits_too;
              fits_on = λ rsp less stays fit. first.fits_on rsp less (all_others rsp.number stays) fit;
            }))
            (ap (λ (s : StepState). s.outputs.sends) start_so)
            (subst (λ (s : StepState). ToldIsBelow input s.node.sends) (sym start_so) below)
            requests
