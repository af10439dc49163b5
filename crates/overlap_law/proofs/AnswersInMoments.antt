-- In each run in range, and in the middle of its steps, a member that a recovery doesn't wait for came to its epoch: its list was told by a
-- node that was in that epoch.
use Rattle.std.proofs.Common.{◌≡◌, ◌≢◌, ◌⊎◌, inl, inr, ⊎_elim, arith, ℕ, ◌+◌, ◌≤◌, ◌<◌, not, true, false, List, [], fold, length, Contains}
use Rattle.std.proofs.Common.{Some, Ok, refl, sym, ap, subst, ◌∙◌}
use Rattle.std.specs.FinMap as tree
use Rattle.std.proofs.lemmas.Bool.{cases_eq, and_parts, not-true}
use Rattle.std.proofs.lemmas.Option.{same_Some}
use Rattle.proof_tools.proofs.Booleans.{cond_either}
use Rattle.proof_tools.proofs.FiniteMaps.{get-insert_same, get-insert_other, insert-insert}
use Rattle.proof_tools.proofs.Lists.{Contains-nil, Contains-map}
use Rattle.object_id.specs.declared.node.NodeId.{NodeId}
use Rattle.cluster_script.specs.declared.statement.Statement.{Statement}
use Rattle.peer_proto.specs.declared.ask.PeerReq.{PeerReq}
use Rattle.peer_proto.specs.declared.say.PeerRsp.{PeerRsp}
use Rattle.peer_proto.specs.Ask.{ask_in, ask_bytes}
use Rattle.peer_service.specs.Serve.{tells_refusal}
use Rattle.gateway.specs.Outcomes.{AreNumberedFrom}
use Rattle.recovery.specs.State.{Message, Recovery}
use Rattle.recovery.specs.Tick.{tick_messages, tick_sends}
use Rattle.message_wire.specs.declared.packet.Packet.{Packet}
use Rattle.message_wire.specs.declared.packet.Packet.TheVariants.{Request, Reply}
use Rattle.message_wire.specs.Message.{message_name}
use Rattle.sheep_node.specs.declared.input.Input.TheVariants as inputs
use Rattle.sheep_node.specs.State.{Node}
use Rattle.sheep_node.specs.StepState.{StepState, at_first}
use Rattle.sheep_node.specs.RecoveryView.{recovery_state_of}
use Rattle.sheep_node.specs.May.{has_numbers}
use Rattle.sheep_node.specs.Step.{on_recover_tick, on_input, is_due, with_recovered, recovered_put, node_step}
use Rattle.sheep_node.specs.Changes as changes
use Rattle.sheep_node.proofs.MessageNumbers.{numbers_within}
use Rattle.sheep_node.proofs.StepEffects.{Untouched}
use Rattle.sheep_node.proofs.StepResults.{step_recovery}
use Rattle.sheep_world.specs.World.{Host, is_host_up}
use Rattle.sheep_world.specs.MembershipChanges.{lost_host}
use Rattle.sheep_world.specs.NodeSteps.{request_name, wire_with_request}
use Rattle.sheep_world.specs.Step.{EventOutcome}
use Rattle.sheep_world.specs.NodeCauses.{NodeCause, GuestAsks, RequestComes, ReplyComes, LossIsTold, EntryIsRead, EntryIsPut, RecoveryTicks}
use Rattle.sheep_world.specs.NodeCauses.{WorkIsRetried, ClientAsks, input_of_cause, wire_at_cause, wire_after_cause, host_with_node}
use Rattle.sheep_world.specs.EventKinds.{log_after_return}
use Rattle.sheep_world.specs.HostChanges.{host_after_return, joined_host}
use Rattle.sheep_world.specs.Began.{Began}
use Rattle.sheep_world.proofs.RecoveryMessages.{same_asked}
use Rattle.sheep_world.proofs.WireAfterSends.{sends_there}
use Rattle.overlap_law.specs.Reached.{Hosts}
use Rattle.overlap_law.specs.Each.{EachUp, has_reached}
use Rattle.overlap_law.specs.Packets.{Wire, IsAsking, IsAnswering}
use Rattle.overlap_law.specs.Past.{MomentWithPast}
use Rattle.overlap_law.specs.StepMoments.{SteppingNode, IsStepping, StepsByChanges, StepsAtOnce, first_in_step, last_in_step, IsWithinStep}
use Rattle.overlap_law.specs.StepMoments.{moment_in_step}
use Rattle.overlap_law.specs.MomentChanges as moments
use Rattle.overlap_law.specs.MomentChanges.{MomentChange, RunsAreInRange}
use Rattle.overlap_law.proofs.EpochsRise.{EpochsRise, epochs_rise}
use Rattle.overlap_law.proofs.HostsInMoments.{HostsStay, hosts_stay}
use Rattle.overlap_law.proofs.KnownSteps.{IsKnownStep, known_step}
use Rattle.overlap_law.proofs.ListAnswers.{IsTicked, IsGoingOn, IsBegun, recovery_moves, back_begun}
use Rattle.overlap_law.proofs.SendsOfChanges.{in_order_so_far}
use Rattle.overlap_law.proofs.ToldBefore.{reached_by, still_reached, of_own_epoch, IsNewAnswer, asked_before, told_before}
use Rattle.overlap_law.proofs.TrafficOfChanges.{traffic}

-- the messages of a node's recovery have numbers that it gave; they are in the wire as they were sent, or as a reply of the node that they
-- went to, which if it is no refusal was in the epoch of the message
pub record MessagesAreTold (hosts : Hosts) (wire : Wire) : Type 0 where
  pub given : EachUp hosts (λ n node. (message : Message) → Contains node.recovery.unanswered message → message.request.number < node.sends)
  pub asked : EachUp hosts (λ n node. (message : Message) → Contains node.recovery.unanswered message → (to : NodeId) (request : PeerReq)
      → IsAsking wire (message_name n message.request.number) to request → (to ≡ message.to) × (request ≡ message.request))
  pub told : EachUp hosts (λ n node. (message : Message) → Contains node.recovery.unanswered message → (from : NodeId) (rsp : PeerRsp)
      → IsAnswering wire (message_name n message.request.number) from rsp
      → (from ≡ message.to) × (tells_refusal rsp.say ≡ false → has_reached hosts message.request.epoch.0 from ≡ true))

-- ---- where the messages of a recovery come from

-- a message was sent just now
pub record IsSentNow (hosts_after : Hosts) (wire_after : Wire) (n : ℕ) (now : Host) (message : Message) : Type 0 where
  pub there : tree.get wire_after (message_name n message.request.number) ≡ Some (Request message.to (ask_bytes message.request))
  pub read : ask_in (ask_bytes message.request) ≡ Ok message.request
  pub given : message.request.number < now.node.sends

-- a message was awaited before
pub record WasAwaited (hosts : Hosts) (n : ℕ) (message : Message) : Type 0 where
  pub host : Host
  pub there : tree.get hosts n ≡ Some host
  pub up : host.is_lost ≡ false
  pub among : Contains host.node.recovery.unanswered message

abbrev pub CameSo : MomentWithPast → MomentWithPast → ℕ → Host → Message → Type 0
CameSo before after n now message =
    WasAwaited before.world.hosts n message ⊎ IsSentNow after.world.hosts after.world.wire n now message

abbrev pub MessagesCame : MomentWithPast → MomentWithPast → Type 0
MessagesCame before after = (n : ℕ) (now : Host) → tree.get after.world.hosts n ≡ Some now → now.is_lost ≡ false → (message : Message)
    → Contains now.node.recovery.unanswered message → CameSo before after n now message

same_came : (before after : MomentWithPast) → after.world.hosts ≡ before.world.hosts → MessagesCame before after
same_came before after same n now there up message among =
    inl (record { host = now; there = ap (λ (held : Hosts). tree.get held n) (sym same) ∙ there; up = up; among = among })

one_came : (before after : MomentWithPast) (k : ℕ) (new : Host) → after.world.hosts ≡ tree.insert before.world.hosts k new
    → (new.is_lost ≡ false → (message : Message) → Contains new.node.recovery.unanswered message → CameSo before after k new message)
    → MessagesCame before after
one_came before after k new hosts own n now there up message among = ⊎_elim
    (λ (is : n ≡ k).
    let at : tree.get after.world.hosts k ≡ Some new = ap (λ (held : Hosts). tree.get held k) hosts
    ∙ get-insert_same before.world.hosts k new in
    let same : new ≡ now = same_Some new now (sym at ∙ ap (tree.get after.world.hosts) (sym is) ∙ there) in
    let so : CameSo before after k now message
    = subst (λ (h : Host). Contains h.node.recovery.unanswered message → CameSo before after k h message) same
    (own (ap (λ (h : Host). h.is_lost) same ∙ up) message) among in
    subst (λ (q : ℕ). CameSo before after q now message) (sym is) so)
    (λ (apart : n ≢ k). inl (record {
      host = now;
      there = sym (ap (λ (held : Hosts). tree.get held n) hosts ∙ get-insert_other before.world.hosts k new n apart) ∙ there;
      up = up;
      among = among;
    }))
    (cases_eq n k)

none_among : {P : Type 0} (messages : List Message) → messages ≡ [] → (message : Message) → Contains messages message → P
none_among messages none message among = absurd (Contains-nil message (subst (λ (all : List Message). Contains all message) none among))

-- a step by changes is no tick
no_tick : {P : Type 0} (cause : NodeCause) → StepsByChanges cause → input_of_cause cause ≡ inputs.RecoverTick → P
no_tick (GuestAsks session req ask) by is = absurd (cc (is))
no_tick (RequestComes name to request) by is = absurd by
no_tick (ReplyComes name from rsp) by is = absurd (cc (is))
no_tick (LossIsTold name packet) by is = absurd (cc (is))
no_tick (EntryIsRead entry) by is = absurd (cc (is))
no_tick (EntryIsPut entry) by is = absurd by
no_tick RecoveryTicks by is = absurd by
no_tick WorkIsRetried by is = absurd (cc (is))
no_tick (ClientAsks req ask) by is = absurd (cc (is))

-- and a step at once is on no reply
pub no_reply : {P : Type 0} (cause : NodeCause) → StepsAtOnce cause → (rsp : PeerRsp) → input_of_cause cause ≡ inputs.Reply rsp → P
no_reply (GuestAsks session req ask) by rsp is = absurd by
no_reply (RequestComes name to request) by rsp is = absurd (cc (is))
no_reply (ReplyComes name from told) by rsp is = absurd by
no_reply (LossIsTold name packet) by rsp is = absurd by
no_reply (EntryIsRead entry) by rsp is = absurd by
no_reply (EntryIsPut entry) by rsp is = absurd (cc (is))
no_reply RecoveryTicks by rsp is = absurd (cc (is))
no_reply WorkIsRetried by rsp is = absurd by
no_reply (ClientAsks req ask) by rsp is = absurd by

-- a host that is up isn't lost
pub not_lost : (host : Host) → is_host_up host ≡ true → host.is_lost ≡ false
not_lost host up = not-true host.is_lost (and_parts (not host.is_lost) (has_numbers host.node) up).0

-- what a tick asks it sends
ticked_sends : (node : Node) (message : Message) → Contains (tick_messages node.sends (recovery_state_of node)) message
    → Contains (node_step inputs.RecoverTick node).outputs.sends (message.to, message.request)
unfolding node_step on_input recovered_put on_recover_tick tick_sends
ticked_sends node message among =
    let ticked = on_recover_tick (at_first node) in
    let sent : Contains ticked.outputs.sends (message.to, message.request)
    = Contains-map (λ (m : Message). (m.to, m.request)) (tick_messages node.sends (recovery_state_of node)) message among in
    cond_either (λ (so_far : StepState). Contains so_far.outputs.sends (message.to, message.request)) (is_due ticked.node)
    (with_recovered ticked) ticked sent sent

abbrev pub receiver_or : NodeId → Packet → NodeId
receiver_or none (Request to bytes) = to
receiver_or none (Reply from bytes) = none

abbrev pub bytes_or : Packet → List ℕ
bytes_or (Request to bytes) = bytes
bytes_or (Reply from bytes) = bytes

module _ (script : List Statement) (range : RunsAreInRange script) (start : MomentWithPast) (began : Began script start.world) where
  module _ (stepping : SteppingNode) (is : IsStepping script start.world stepping) where
    known : IsKnownStep script start.world stepping
    known = known_step script range start.world began stepping is

    awaited_still : (message : Message) → Contains stepping.host.node.recovery.unanswered message
        → WasAwaited start.world.hosts stepping.n message
    awaited_still message among = record { host = stepping.host; there = is.there; up = not_lost stepping.host known.up; among = among }

    abbrev moment_then : StepState → MomentWithPast
    moment_then so_far = moment_in_step script stepping start so_far

    first_came : StepsByChanges stepping.cause → (message : Message) → Contains (first_in_step stepping).node.recovery.unanswered message
        → CameSo start (moment_then (first_in_step stepping)) stepping.n (host_with_node stepping.host (first_in_step stepping).node)
        message
    first_came by message among = by_moves (recovery_moves (input_of_cause stepping.cause) stepping.host.node)
      where
        by_moves : IsGoingOn (input_of_cause stepping.cause) stepping.host.node (first_in_step stepping).node.recovery
            ⊎ IsBegun stepping.host.node.recovery.me (first_in_step stepping).node.recovery
            ⊎ IsBegun stepping.host.node.me (first_in_step stepping).node.recovery
            → CameSo start (moment_then (first_in_step stepping)) stepping.n (host_with_node stepping.host (first_in_step stepping).node)
            message
        by_moves (inl going) = ⊎_elim
            (λ (old : Contains stepping.host.node.recovery.unanswered message). inl (awaited_still message old))
            (λ (new : IsTicked (input_of_cause stepping.cause) stepping.host.node message). no_tick stepping.cause by new.0)
            (going.unanswered message among)
        by_moves (inr (inl begun)) = none_among (first_in_step stepping).node.recovery.unanswered begun.unanswered message among
        by_moves (inr (inr begun)) = none_among (first_in_step stepping).node.recovery.unanswered begun.unanswered message among

    -- what was sent in a tick
    sent_now : (message : Message) → (sends : List (NodeId × PeerReq)) → AreNumberedFrom stepping.host.node.sends sends
        → sends ≡ (last_in_step stepping).outputs.sends → Contains sends (message.to, message.request) → (wire : Wire)
        → fold wire_with_request start.world.wire sends ≡ wire
        → IsSentNow (moment_then (last_in_step stepping)).world.hosts wire stepping.n
        (host_with_node stepping.host (last_in_step stepping).node) message
    sent_now message sends numbers same among wire wire_so =
        let send : NodeId × PeerReq = (message.to, message.request) in
        let there : Contains (last_in_step stepping).outputs.sends send = subst (λ (all : List (NodeId × PeerReq)). Contains all send) same
        among in
        let from : message.request.from ≡ record { 0 = stepping.n }
        = known.asking.own send there ∙ (λ i. record { 0 = known.numbered i }) in
        let name : request_name message.request ≡ message_name stepping.n message.request.number
        = ap (λ (k : NodeId). record { sender = k; number = message.request.number }) from in
        let (low, high) = numbers_within stepping.host.node.sends (last_in_step stepping).outputs.sends send known.asking.numbers there in
        let count : (last_in_step stepping).node.sends ≡ stepping.host.node.sends + length
        (last_in_step stepping).outputs.sends = known.asking.count_so in
        record {
          there = ap (tree.get wire) (sym name) ∙ ap (λ (w : Wire). tree.get w (request_name message.request)) (sym wire_so)
              ∙ sends_there stepping.host.node.sends sends start.world.wire send numbers among;
          read = known.asking.read send there;
          given = omega (arith, high, count);
        }

    made_came : StepsAtOnce stepping.cause → (message : Message) → Contains (last_in_step stepping).node.recovery.unanswered message
        → CameSo start (moment_then (last_in_step stepping)) stepping.n (host_with_node stepping.host (last_in_step stepping).node) message
    made_came by message among =
        by_moves (recovery_moves (input_of_cause stepping.cause) stepping.host.node)
        (subst (λ (r : Recovery). Contains r.unanswered message) (step_recovery (input_of_cause stepping.cause) stepping.host.node) among)
      where
        received : Recovery
        received = (first_in_step stepping).node.recovery

        by_tick : (cause : NodeCause) → stepping.cause ≡ cause → input_of_cause cause ≡ inputs.RecoverTick
            → Contains (tick_messages stepping.host.node.sends (recovery_state_of stepping.host.node)) message
            → IsSentNow (moment_then (last_in_step stepping)).world.hosts (moment_then (last_in_step stepping)).world.wire stepping.n
            (host_with_node stepping.host (last_in_step stepping).node) message
        by_tick (GuestAsks session req ask) own so new = absurd (cc (so))
        by_tick (RequestComes name to request) own so new = absurd (cc (so))
        by_tick (ReplyComes name from rsp) own so new = absurd (cc (so))
        by_tick (LossIsTold name packet) own so new = absurd (cc (so))
        by_tick (EntryIsRead entry) own so new = absurd (cc (so))
        by_tick (EntryIsPut entry) own so new = absurd (cc (so))
        by_tick RecoveryTicks own so new =
            let stepped : (last_in_step stepping).outputs.sends ≡ (node_step inputs.RecoverTick stepping.host.node).outputs.sends
            = ap (λ (cause : NodeCause). (node_step (input_of_cause cause) stepping.host.node).outputs.sends) own in
            let wire : fold wire_with_request start.world.wire (last_in_step stepping).outputs.sends
            ≡ (moment_then (last_in_step stepping)).world.wire
            = sym (ap (λ (cause : NodeCause). wire_after_cause cause (moment_then (last_in_step stepping)).world.hosts stepping.host.node
            (fold wire_with_request (wire_at_cause cause start.world.wire) (last_in_step stepping).outputs.sends)) own) in
            sent_now message (last_in_step stepping).outputs.sends known.asking.numbers refl
            (subst (λ (all : List (NodeId × PeerReq)). Contains all (message.to, message.request)) (sym stepped)
            (ticked_sends stepping.host.node message new)) (moment_then (last_in_step stepping)).world.wire wire
        by_tick WorkIsRetried own so new = absurd (cc (so))
        by_tick (ClientAsks req ask) own so new = absurd (cc (so))

        by_moves : IsGoingOn (input_of_cause stepping.cause) stepping.host.node (first_in_step stepping).node.recovery
            ⊎ IsBegun stepping.host.node.recovery.me (first_in_step stepping).node.recovery
            ⊎ IsBegun stepping.host.node.me (first_in_step stepping).node.recovery
            → Contains (first_in_step stepping).node.recovery.unanswered message
            → CameSo start (moment_then (last_in_step stepping)) stepping.n (host_with_node stepping.host (last_in_step stepping).node)
            message
        by_moves (inl going) there = ⊎_elim
            (λ (old : Contains stepping.host.node.recovery.unanswered message). inl (awaited_still message old))
            (λ (new : IsTicked (input_of_cause stepping.cause) stepping.host.node message). inr (by_tick stepping.cause refl new.0 new.1))
            (going.unanswered message there)
        by_moves (inr (inl begun)) there = none_among (first_in_step stepping).node.recovery.unanswered begun.unanswered message there
        by_moves (inr (inr begun)) there = none_among (first_in_step stepping).node.recovery.unanswered begun.unanswered message there

  goes_on_came : (stepping : SteppingNode) → IsStepping script start.world stepping → (so_far next : StepState)
      → IsWithinStep stepping so_far next
      → MessagesCame (moment_in_step script stepping start so_far) (moment_in_step script stepping start next)
  goes_on_came stepping is so_far next within =
      let was = host_with_node stepping.host so_far.node in
      let now = host_with_node stepping.host next.node in
      let same : next.node.recovery ≡ so_far.node.recovery
      = ap (λ (u : Untouched). u.recovery) ((in_order_so_far next (changes.Then within.leads within.change)).same
      ∙ sym (in_order_so_far so_far within.leads).same) in
      one_came (moment_in_step script stepping start so_far) (moment_in_step script stepping start next) stepping.n now
      (sym (insert-insert start.world.hosts stepping.n was now))
      (λ up message among. inl (record {
        host = was;
        there = get-insert_same start.world.hosts stepping.n was;
        up = up;
        among = subst (λ (r : Recovery). Contains r.unanswered message) same among;
      }))

  pub messages_came : {before after : MomentWithPast} → MomentChange script start before after → MessagesCame before after
  messages_came (moments.StepBegins stepping is by) =
      one_came start (moment_in_step script stepping start (first_in_step stepping)) stepping.n
      (host_with_node stepping.host (first_in_step stepping).node) refl (λ up message among. first_came stepping is by message among)
  messages_came (moments.StepGoesOn stepping so_far next is by within) = goes_on_came stepping is so_far next within
  messages_came (moments.StepIsMade stepping is by) =
      one_came start (moment_in_step script stepping start (last_in_step stepping)) stepping.n
      (host_with_node stepping.host (last_in_step stepping).node) refl (λ up message among. made_came stepping is by message among)
  messages_came {before} {after} (moments.LossIsUntold event made happened h) =
      same_came before after (ap (λ (m : EventOutcome). m.world.hosts) (sym h.made_so))
  messages_came {before} {after} (moments.DeliveryIsUnread event made happened h) =
      same_came before after (ap (λ (m : EventOutcome). m.world.hosts) (sym h.made_so))
  messages_came {before} {after} (moments.NodeIsLost event made happened h) =
      one_came before after h.n (lost_host h.host) (ap (λ (m : EventOutcome). m.world.hosts) (sym h.made_so))
      (λ up message among. absurd (cc (up)))
  messages_came {before} {after} (moments.NodeLeaves event made happened h) =
      same_came before after (ap (λ (m : EventOutcome). m.world.hosts) (sym h.made_so))
  messages_came {before} {after} (moments.NodeIsReweighted event made happened h) =
      same_came before after (ap (λ (m : EventOutcome). m.world.hosts) (sym h.made_so))
  messages_came {before} {after} (moments.NodeJoins event made happened h) =
      one_came before after h.n (joined_host script h.n) (ap (λ (m : EventOutcome). m.world.hosts) (sym h.made_so))
      (λ up message among. absurd (Contains-nil message among))
  messages_came {before} {after} (moments.NodeComesBack event made happened h) =
      let log = log_after_return script h.n start.world in
      let now = host_after_return log h.host in
      one_came before after h.n now (ap (λ (m : EventOutcome). m.world.hosts) (sym h.made_so))
      (λ up message among. none_among now.node.recovery.unanswered
      (ap (λ (r : Recovery). r.unanswered) (step_recovery (inputs.Back log) h.host.node) ∙ (back_begun log h.host.node).unanswered) message
      among)
  messages_came {before} {after} (moments.PhaseEnds event made happened h) =
      same_came before after (ap (λ (m : EventOutcome). m.world.hosts) (sym h.made_so))

  -- ---- the messages

  pub change_told : {before after : MomentWithPast} → MomentChange script start before after
      → MessagesAreTold before.world.hosts before.world.wire
      → MessagesAreTold after.world.hosts after.world.wire
  change_told {before} {after} change holds = record {
    given = λ n now there up message among. ⊎_elim
        (λ (was : WasAwaited before.world.hosts n message).
        let stays = stay n was.host was.there in
        let same : stays.now ≡ now = same_Some stays.now now (sym stays.there ∙ there) in
        let more : was.host.node.sends ≤ now.node.sends = subst (λ (h : Host). was.host.node.sends ≤ h.node.sends) same stays.sends in
        let old = holds.given n was.host was.there was.up message was.among in
        omega (arith, more, old))
        (λ (new : IsSentNow after.world.hosts after.world.wire n now message). new.given)
        (messages_came change n now there up message among);
    asked = λ n now there up message among to request asking. ⊎_elim
        (λ (was : WasAwaited before.world.hosts n message).
        holds.asked n was.host was.there was.up message was.among to request
        (asked_before before.world.hosts after.world.hosts before.world.wire before.past.attempts n message.request.number was.host
        was.there (holds.given n was.host was.there was.up message was.among) (traffic script range start began change) to request asking))
        (λ (new : IsSentNow after.world.hosts after.world.wire n now message).
        let same : ◌≡◌ {A = Packet} (Request to asking.bytes) (Request message.to (ask_bytes message.request))
        = same_Some (Request to asking.bytes) (Request message.to (ask_bytes message.request)) (sym asking.there ∙ new.there) in (
          ap (receiver_or to) same,
          same_asked request message.request (sym asking.spelled ∙ ap (λ (p : Packet). ask_in (bytes_or p)) same ∙ new.read),
        ))
        (messages_came change n now there up message among);
    told = λ n now there up message among from rsp answering. ⊎_elim
        (λ (was : WasAwaited before.world.hosts n message). ⊎_elim
        (λ (old : IsAnswering before.world.wire (message_name n message.request.number) from rsp).
        let (own, reached) = holds.told n was.host was.there was.up message was.among from rsp old in (
          own,
          λ (no : tells_refusal rsp.say ≡ false). still_reached before.world.hosts after.world.hosts rises message.request.epoch.0 from
              (reached no),
        )) (λ (new : IsNewAnswer before.world.hosts before.world.wire (message_name n message.request.number) from rsp).
        let (own, same) = holds.asked n was.host was.there was.up message was.among from new.request new.asking in (
          own,
          λ (no : tells_refusal rsp.say ≡ false).
              let epochs : new.host.node.peer.epoch ≡ new.request.epoch.0
              = of_own_epoch new.host.node.peer new.request (ap (λ (r : PeerRsp). tells_refusal r.say) new.said ∙ no) in
              let of_message : new.request.epoch.0 ≡ message.request.epoch.0 = ap (λ (r : PeerReq). r.epoch.0) same in
              still_reached before.world.hosts after.world.hosts rises message.request.epoch.0 from
              (reached_by before.world.hosts message.request.epoch.0 from new.host new.there (omega (arith, epochs, of_message))),
        ))
        (told_before before.world.hosts after.world.hosts before.world.wire before.past.attempts n message.request.number was.host was.there
        (holds.given n was.host was.there was.up message was.among) (traffic script range start began change) from rsp answering))
        (λ (new : IsSentNow after.world.hosts after.world.wire n now message).
        let asked = new.there in
        let answered = answering.there in
        absurd (cc (asked, answered)))
        (messages_came change n now there up message among);
  }
    where
      rises : EpochsRise before.world.hosts after.world.hosts
      rises = epochs_rise script range start began change

      stay : HostsStay before after
      stay = hosts_stay script range start began change
