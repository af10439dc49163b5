-- What a sound node sends as it steps can be spelled: what it asks for works, since these can be asked for, and what its recovery asks.
use Rattle.std.proofs.Common.{◌≡◌, ℕ, ◌+◌, ◌*◌, ◌-◌, ◌^◌, ◌<◌, ◌≤◌, true, List, [], ◌∷◌, length, map, All, Option, Some, None, ap, sym, subst, ◌∙◌, arith}
use Rattle.std.specs.FinMap as tree
use Rattle.std.proofs.lemmas.Bool.{leb-true}
use Rattle.std.proofs.lemmas.List.Elements.{All-nil}
use Rattle.proof_tools.proofs.Booleans.{cond_either}
use Rattle.proof_tools.proofs.FiniteMaps.{get-insert_same}
use Rattle.object_id.specs.Node.{IsNode}
use Rattle.object_id.specs.declared.entry.Entry.{Entry}
use Rattle.object_id.specs.declared.node.NodeId.{NodeId}
use Rattle.peer_proto.specs.Header.{IsEpoch}
use Rattle.peer_proto.specs.declared.ask.PeerReq.{PeerReq}
use Rattle.gateway.specs.Attempt.{send_of}
use Rattle.gateway.specs.State as gateways
use Rattle.gateway.specs.State.{Work, Open}
use Rattle.recovery.specs.Steps as recovery_steps
use Rattle.sheep_node.specs.declared.input.Input.{Input}
use Rattle.sheep_node.specs.declared.input.Input.TheVariants as inputs
use Rattle.sheep_node.specs.declared.course.Request.{Request}
use Rattle.sheep_node.specs.declared.limits.TheConstants.{SENDS_MAX}
use Rattle.sheep_node.specs.State.{Node}
use Rattle.sheep_node.specs.RecoveryView.{recovery_state_of}
use Rattle.sheep_node.specs.RecoveryRange.{RecoversInRange}
use Rattle.sheep_node.specs.StepState.{StepState, at_first}
use Rattle.sheep_node.specs.LogReading.{entry_read, on_back}
use Rattle.sheep_node.specs.Step.{on_request, recovery_stepped, on_put, on_recover_tick, node_step}
use Rattle.sheep_node.specs.May.{May}
use Rattle.sheep_node.specs.OneWork.{may_work_at}
use Rattle.sheep_node.specs.OutsideAsks.{InputNamesObjects}
use Rattle.sheep_node.specs.NodeInvariant.{IsSoundNode}
use Rattle.sheep_node.specs.WorkRange.{IsWorkInRange}
use Rattle.sheep_node.specs.SoundWorks.{work_validity}
use Rattle.sheep_node.specs.Changes.{IsSoundStep, input_received, with_open_attempt, attempt_in, Leads}
use Rattle.sheep_node.proofs.AskedNodes.{epoch_begun_in_step}
use Rattle.sheep_node.proofs.AttemptRange.{CanBeSpelled, attempt_in_range, tick_asks_in_range}
use Rattle.sheep_node.proofs.NumberChanges.{meets_numbers, both_in_chain}
use Rattle.sheep_node.proofs.QueueLengths.{queues_stay_short_along}
use Rattle.sheep_node.proofs.ReachedSteps.{changes_in}
use Rattle.sheep_node.proofs.SoundChanges.{IsKnown, received_sound, works_are_kept}
use Rattle.sheep_node.proofs.SoundLaws as laws
use Rattle.sheep_node.proofs.StepChain.{kept_by_chain, step_chain, changes_in-step_chain}
use Rattle.sheep_node.proofs.StepEffects.{IsInOrder, Untouched, untouched_in, change_keeps_order, received_in_order, step_in_order}
use Rattle.sheep_node.proofs.StepResults.{me_received}
use Rattle.sheep_node.proofs.ValidChanges as disks
use Rattle.sheep_node.proofs.ValidityChanges as walk
use Rattle.sheep_node.proofs.ValidLaws.{valid_input, received_valid, received_sends, headers_are_valid}

-- in the middle of a step an attempt can be spelled: the node has a number, numbers are left, and where a request is an epoch has begun
record MayBeSpelled (so_far : StepState) : Type 0 where
  own : IsNode so_far.node.gateway.me.0
  epoch : (req : ℕ) (request : Request) → tree.get so_far.node.requests req ≡ Some request → IsEpoch (record { 0 = so_far.node.peer.epoch })
  room : so_far.node.sends ≤ 2 ^ 32 - 31

-- and it is known what goes with works
abbrev IsKnownToSend : StepState → Type 0
IsKnownToSend so_far = IsKnown so_far × MayBeSpelled so_far

request_there : (o : Option Request) → may_work_at o ≡ true → (request : Request) × (o ≡ Some request)
request_there None may = absurd (cc (may))
request_there (Some request) may = (request, λ i. Some request)

-- an attempt that begins
attempt_spelled : (req : ℕ) (asked : Work) (lined : StepState) → IsKnownToSend (with_open_attempt req asked lined) → IsWorkInRange asked.work
    → All CanBeSpelled (map (send_of lined.node.gateway.me (record { 0 = lined.node.peer.epoch }) asked.work) (attempt_in asked lined.node).messages)
attempt_spelled req asked lined known range =
    let now : Work = record asked { stage = Open (attempt_in asked lined.node) } in
    let (request, there) = request_there (tree.get lined.node.requests req)
    (known.0.0.0.open_works req now (get-insert_same lined.node.gateway.works req now)) in
    let room = known.1.room in
    attempt_in_range asked lined.node known.1.own (known.1.epoch req request there) range (omega (arith, room))

-- what the input makes the node send by itself
received_spelled : (input : Input) (node : Node) → May input node → RecoversInRange node
    → All CanBeSpelled (input_received input (at_first node)).outputs.sends
unfolding entry_read on_request on_back
received_spelled (inputs.Guest req session ask) node may range = All-nil CanBeSpelled
received_spelled (inputs.Request request) node may range = All-nil CanBeSpelled
received_spelled (inputs.Reply rsp) node may range =
    cond_either (λ (start : StepState). All CanBeSpelled start.outputs.sends) (gateways.gateway_awaits rsp.number node.gateway) (at_first node)
    (recovery_stepped (recovery_steps.recovery_on_reply rsp (recovery_state_of node)) (at_first node)) (All-nil CanBeSpelled) (All-nil CanBeSpelled)
received_spelled (inputs.Lost number) node may range =
    cond_either (λ (start : StepState). All CanBeSpelled start.outputs.sends) (gateways.gateway_awaits number node.gateway) (at_first node)
    (recovery_stepped (recovery_steps.recovery_on_loss number (recovery_state_of node)) (at_first node)) (All-nil CanBeSpelled) (All-nil CanBeSpelled)
received_spelled (inputs.LogEntry entry) node may range = All-nil CanBeSpelled
received_spelled inputs.Put node may range = by_outbox node.outbox
  where
    by_outbox : (outbox : List Entry) → All CanBeSpelled (on_put outbox (at_first node)).outputs.sends
    by_outbox [] = All-nil CanBeSpelled
    by_outbox (entry ∷ later) = All-nil CanBeSpelled
received_spelled inputs.RecoverTick node may range = tick_asks_in_range node may.condition may.numbers range
received_spelled inputs.RetryTick node may range = All-nil CanBeSpelled
received_spelled (inputs.Back entries) node may range = All-nil CanBeSpelled

module _ (input : Input) (node : Node) (may : May input node) (named : InputNamesObjects input) (is : IsSoundNode node) (own : IsNode node.me.0)
    (epoch : (node_step input node).node.peer.epoch < 2 ^ 32) (range : RecoversInRange node) where
  abbrev first : StepState
  first = input_received input (at_first node)

  sound : IsSoundStep input node
  sound = (meets_numbers input node may.condition, is.one_work)

  in_order : (so_far : StepState) → Leads input node first so_far → IsInOrder node.sends first.node.recovered (untouched_in first) so_far
  in_order so_far leads =
      kept_by_chain (IsInOrder node.sends first.node.recovered (untouched_in first))
      (change_keeps_order node.sends first.node.recovered (untouched_in first)) leads (received_in_order input node)

  -- no step is so long that numbers run out
  sent_few : (so_far : StepState) (leads : Leads input node first so_far) → changes_in leads ≤ 19 → length so_far.outputs.sends ≤ 653
  sent_few so_far leads short =
      let valid = valid_input input node may.condition is.valid_disks.read in
      let received = received_valid input node (is.valid_disks.kept, is.valid_disks.to_put) in
      let few = (disks.chain_valid 64 (headers_are_valid input node valid is.valid_disks) valid leads
      (received.0, record { few = received_sends input node is.recovery; sent = λ k d within. tt; to_put = received.1 })).1.few in
      omega (arith, few, short)

  may_be_spelled : (so_far : StepState) (leads : Leads input node first so_far) → changes_in leads ≤ 19 → MayBeSpelled so_far
  may_be_spelled so_far leads short =
      let here = in_order so_far leads in
      let me : so_far.node.gateway.me ≡ node.me
      = (both_in_chain input node sound so_far leads).1.own_so ∙ ap (λ (u : Untouched). u.me) here.same ∙ me_received input node in
      let small : so_far.node.peer.epoch < 2 ^ 32
      = subst (λ (u : Untouched). u.peer.epoch < 2 ^ 32) ((step_in_order input node).same ∙ sym here.same) epoch in
      let count = here.counted in
      let few = sent_few so_far leads short in
      let left : node.sends ≤ SENDS_MAX = leb-true node.sends SENDS_MAX may.numbers in
      record {
        own = subst (λ (me : NodeId). IsNode me.0) (sym me) own;
        epoch = λ req request there. (epoch_begun_in_step input node may is.by_the_log is.read so_far leads req request there, small);
        room = omega (arith, count, few, left);
      }

  -- all of it
  pub sends_spelled : All CanBeSpelled (node_step input node).outputs.sends
  sends_spelled =
      let changes : changes_in (step_chain input node) ≤ 19 = changes_in-step_chain input node (queues_stay_short_along input node may is.short_queues) in
      (walk.chain_valid work_validity CanBeSpelled (length first.outputs.sends) 19
      (works_are_kept CanBeSpelled sound (laws.headers input node may named is)
      (laws.input_sound input node may.condition named is.valid_disks.read) (λ so_far (known : IsKnownToSend so_far). known.0) attempt_spelled)
      (λ so_far leads short. (laws.known input node may named is so_far leads, may_be_spelled so_far leads short)) (step_chain input node) changes (
        received_sound input node is.sound_works,
        record {
          few = omega arith;
          sent = received_spelled input node may range;
          to_put = λ k d within. tt;
        },
      )).1.sent
