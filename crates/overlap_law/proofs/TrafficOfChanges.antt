-- Each change of a moment is of one kind of traffic.
use Rattle.std.proofs.Common.{◌≡◌, ℕ, not, true, List, [], ◌∷◌, ◌++◌, fold, map, Some, refl, sym, ap, subst, ◌∙◌, append-nil}
use Rattle.std.specs.FinMap as tree
use Rattle.std.proofs.lemmas.Bool.{and_parts, not-true}
use Rattle.std.proofs.lemmas.List.Elements.{Contains-append_right}
use Rattle.proof_tools.proofs.FiniteMaps.{get-insert_same}
use Rattle.object_id.specs.declared.node.NodeId.{NodeId}
use Rattle.object_id.specs.declared.cause.Cause.TheVariants.{Halt}
use Rattle.cluster_script.specs.declared.statement.Statement.{Statement}
use Rattle.peer_proto.specs.declared.ask.PeerReq.{PeerReq}
use Rattle.peer_service.specs.Serve.{reply_to, peer_step}
use Rattle.gateway.specs.Work.{zones_for}
use Rattle.gateway.specs.Attempt.{send_of}
use Rattle.message_wire.specs.Message.{without_replies}
use Rattle.sheep_node.specs.declared.event.Event.{Event}
use Rattle.sheep_node.specs.declared.input.Input.{Input}
use Rattle.sheep_node.specs.declared.input.Input.TheVariants as inputs
use Rattle.sheep_node.specs.May.{has_numbers}
use Rattle.sheep_node.specs.State.{Node}
use Rattle.sheep_node.specs.StepState.{StepState}
use Rattle.sheep_node.specs.Step.{on_request, node_step}
use Rattle.sheep_node.specs.Changes as changes
use Rattle.sheep_node.specs.Changes.{attempt_in}
use Rattle.sheep_node.proofs.StepResults.{step_numbers, step_counts, step_peer}
use Rattle.sheep_world.specs.World.{Host, World, host_at, is_host_up}
use Rattle.sheep_world.specs.Messages.{wire_with_reply}
use Rattle.sheep_world.specs.NodeSteps.{wire_with_request}
use Rattle.sheep_world.specs.Step.{EventOutcome}
use Rattle.sheep_world.specs.Began.{Began}
use Rattle.sheep_world.specs.HoldsTogether.{HoldsTogether}
use Rattle.sheep_world.specs.NodeCauses.{NodeCause, GuestAsks, RequestComes, ReplyComes, LossIsTold, EntryIsRead, EntryIsPut, RecoveryTicks}
use Rattle.sheep_world.specs.NodeCauses.{WorkIsRetried, ClientAsks, input_of_cause, IsCause, wire_at_cause, wire_after_cause, is_up_among}
use Rattle.sheep_world.specs.NodeCauses.{host_with_node, world_after_cause}
use Rattle.sheep_world.specs.EventKinds.{log_after_return}
use Rattle.sheep_world.proofs.ReturningNodes.{stepped_renewed}
use Rattle.sheep_world.proofs.StepsByCause.{served_silent}
use Rattle.overlap_law.specs.Attempts.{AttemptRecord}
use Rattle.overlap_law.specs.Reached.{Hosts}
use Rattle.overlap_law.specs.Packets.{Wire}
use Rattle.overlap_law.specs.BegunAttempts.{attempts_after}
use Rattle.overlap_law.specs.Past.{MomentWithPast, past_after_event, moment_after}
use Rattle.overlap_law.specs.StepMoments.{SteppingNode, IsStepping, StepsByChanges, StepsAtOnce, first_in_step, last_in_step, LeadsInStep}
use Rattle.overlap_law.specs.StepMoments.{IsWithinStep, hosts_in_step, moment_in_step, attempts_with_loss, attempts_at_cause}
use Rattle.overlap_law.specs.StepMoments.{attempts_of_change}
use Rattle.overlap_law.specs.MomentChanges as moments
use Rattle.overlap_law.specs.MomentChanges.{MomentChange, RunsAreInRange}
use Rattle.overlap_law.specs.Traffic as kinds
use Rattle.overlap_law.specs.Traffic.{Traffic, TrafficBetween}
use Rattle.overlap_law.proofs.AttemptsOfEvents.{attempts-of_untold_loss, attempts-of_unread_delivery, attempts-of_loss, attempts-of_leave}
use Rattle.overlap_law.proofs.AttemptsOfEvents.{attempts-of_reweight, attempts-of_join, attempts-of_return, attempts-of_phase_end}
use Rattle.overlap_law.proofs.AttemptsInSteps.{attempts-at_first, attempts-at_end, attempts-grow}
use Rattle.overlap_law.proofs.SendsOfChanges.{received_nothing, steps_send_nothing, next_sends_nothing, refusal_sends_nothing}
use Rattle.overlap_law.proofs.SendsOfChanges.{denial_sends_nothing, end_sends_nothing, put_sends}
use Rattle.overlap_law.proofs.AskedEpochs.{SendsInThePast}
use Rattle.overlap_law.proofs.AskedMakers.{ticked_asks_nothing}
use Rattle.overlap_law.proofs.PastAsks.{step_in_past}
use Rattle.overlap_law.proofs.KnownSteps.{IsKnownStep, together, known_step}
use Rattle.overlap_law.proofs.OpeningTraffic.{AreReadable, readable_at, opening_traffic}

fold_twice : (wire : Wire) (one other : List (NodeId × PeerReq))
    → fold wire_with_request wire (one ++ other) ≡ fold wire_with_request (fold wire_with_request wire one) other
fold_twice wire [] other = refl
fold_twice wire (send ∷ one) other = fold_twice (wire_with_request wire send) one other

-- ---- a change of the node

module _ (script : List Statement) (world : World) (stepping : SteppingNode) (known : IsKnownStep script world stepping) where
  abbrev input : Input
  input = input_of_cause stepping.cause

  abbrev host : Host
  host = stepping.host

  abbrev found : Wire
  found = wire_at_cause stepping.cause world.wire

  abbrev wire_so_far : StepState → Wire
  wire_so_far so_far = fold wire_with_request found so_far.outputs.sends

  module _ (attempts : List AttemptRecord) where
    abbrev MakesMove : StepState → StepState → List AttemptRecord → Type 0
    MakesMove so_far next begun =
        Traffic (hosts_in_step stepping world so_far) (hosts_in_step stepping world next) (wire_so_far so_far) attempts (wire_so_far next)
        (attempts ++ begun)

    rests : (so_far next : StepState) → next.outputs.sends ≡ so_far.outputs.sends → MakesMove so_far next []
    rests so_far next same =
        subst (λ (sends : List (NodeId × PeerReq)).
        Traffic (hosts_in_step stepping world so_far) (hosts_in_step stepping world next) (wire_so_far so_far) attempts
        (fold wire_with_request found sends) (attempts ++ [])) (sym same)
        (subst (Traffic (hosts_in_step stepping world so_far) (hosts_in_step stepping world next) (wire_so_far so_far) attempts
        (wire_so_far so_far)) (sym (append-nil attempts)) kinds.NothingMoves)

    change_traffic : (so_far next : StepState) → LeadsInStep stepping (first_in_step stepping) so_far
        → (change : changes.Change input host.node so_far next)
        → AreReadable script world stepping known next.outputs.sends → MakesMove so_far next (attempts_of_change host so_far next change)
    change_traffic so_far next leads (changes.Marks req number work attempt status learns over) readable = rests so_far next refl
    change_traffic so_far next leads (changes.Fails session req number work attempt status course ends done why) readable =
        rests so_far next refl
    change_traffic so_far next leads (changes.Stops session req number work attempt status course bytes ends over) readable =
        rests so_far next refl
    change_traffic so_far next leads (changes.Refuses session req number work attempt status course cause ends done why) readable =
        rests so_far next (refusal_sends_nothing session req cause course (changes.without_ended_work session req work status so_far)).1
    change_traffic so_far next leads (changes.Opens session req asked lined comes enough) readable =
        let more = map (send_of lined.node.gateway.me (record { 0 = lined.node.peer.epoch }) asked.work)
        (attempt_in asked lined.node).messages in
        subst (λ (wire : Wire). Traffic (hosts_in_step stepping world so_far) (hosts_in_step stepping world next) (wire_so_far so_far)
        attempts wire (attempts ++ attempts_of_change host so_far next (changes.Opens session req asked lined comes enough)))
        (sym (ap (λ (s : List (NodeId × PeerReq)). fold wire_with_request found (s ++ more))
        (next_sends_nothing so_far session req asked lined comes).1
        ∙ fold_twice found so_far.outputs.sends more))
        (opening_traffic script world stepping known so_far leads session req asked lined comes
        (λ send there. readable send (Contains-append_right lined.outputs.sends more send there)) (wire_so_far so_far) attempts)
    change_traffic so_far next leads (changes.Holds session req asked lined comes short touched) readable =
        rests so_far next (next_sends_nothing so_far session req asked lined comes).1
    change_traffic so_far next leads (changes.Denies session req asked lined request comes short untouched there own) readable =
        rests so_far next
        ((denial_sends_nothing req (Halt (changes.zones_of_members lined.node) (zones_for asked.work)) request
        (changes.without_denied_work session req asked lined)).1
        ∙ (next_sends_nothing so_far session req asked lined comes).1)
    change_traffic so_far next leads (changes.Strays req work gateway there none apart) readable = rests so_far next refl
    change_traffic so_far next leads (changes.Lines session req work moved steps waits) readable =
        rests so_far next (steps_send_nothing so_far session req (changes.ToWork work) moved steps).1
    change_traffic so_far next leads (changes.Appends session req entry moved steps) readable =
        rests so_far next (steps_send_nothing so_far session req (changes.ToEntry entry) moved steps).1
    change_traffic so_far next leads (changes.Replies session req reply moved steps) readable =
        rests so_far next ((end_sends_nothing session req reply moved).1
        ∙ (steps_send_nothing so_far session req (changes.ToReply reply) moved steps).1)
    change_traffic so_far next leads (changes.Arrives session req ask disk arrival on) readable = rests so_far next refl
    change_traffic so_far next leads (changes.Rejects session req ask cause arrival) readable = rests so_far next refl
    change_traffic so_far next leads (changes.Recovers due) readable = rests so_far next refl

-- ---- a step begins, or is one change

-- nothing comes into the wire of a step that goes by changes but what the node sends
wire-by_changes : (cause : NodeCause) → StepsByChanges cause → (hosts : Hosts) (node : Node) (wire : Wire)
    → wire_after_cause cause hosts node wire ≡ wire
wire-by_changes (GuestAsks session req ask) by hosts node wire = refl
wire-by_changes (RequestComes name to request) by hosts node wire = absurd by
wire-by_changes (ReplyComes name from rsp) by hosts node wire = refl
wire-by_changes (LossIsTold name packet) by hosts node wire = refl
wire-by_changes (EntryIsRead entry) by hosts node wire = refl
wire-by_changes (EntryIsPut entry) by hosts node wire = absurd by
wire-by_changes RecoveryTicks by hosts node wire = absurd by
wire-by_changes WorkIsRetried by hosts node wire = refl
wire-by_changes (ClientAsks req ask) by hosts node wire = refl

-- what a request leaves of the peer
request_leaves : (request : PeerReq) (node : Node)
    → (node_step (inputs.Request request) node).node.peer ≡ (peer_step node.peer request).peer
unfolding on_request
request_leaves request node = step_peer (inputs.Request request) node

module _ (script : List Statement) (world : World) (n : ℕ) (host : Host) (attempts : List AttemptRecord) where
  begins : (hosts_after : Hosts) (cause : NodeCause) → IsCause script world n host cause → StepsByChanges cause
      → Traffic world.hosts hosts_after world.wire attempts (wire_at_cause cause world.wire) (attempts_at_cause host.node cause attempts)
  begins hosts_after (GuestAsks session req ask) so by = kinds.NothingMoves
  begins hosts_after (RequestComes name to request) so by = absurd by
  begins hosts_after (ReplyComes name from rsp) so by = kinds.ReplyIsReceived name from so.bytes so.there
  begins hosts_after (LossIsTold name packet) so by = kinds.MessageIsLost name packet so.there
  begins hosts_after (EntryIsRead entry) so by = kinds.NothingMoves
  begins hosts_after (EntryIsPut entry) so by = absurd by
  begins hosts_after RecoveryTicks so by = absurd by
  begins hosts_after WorkIsRetried so by = kinds.NothingMoves
  begins hosts_after (ClientAsks req ask) so by = kinds.NothingMoves

  at_once : (holds : HoldsTogether script world) (there : host_at n world ≡ Some host) (up : is_host_up host ≡ true) (cause : NodeCause)
      → IsCause script world n host cause → StepsAtOnce cause → IsKnownStep script world (record { n = n; host = host; cause = cause })
      → SendsInThePast (input_of_cause cause) host.node
      → Traffic world.hosts (world_after_cause script n host cause world).hosts world.wire attempts
      (world_after_cause script n host cause world).wire (attempts_at_cause host.node cause attempts)
  at_once holds there up (GuestAsks session req ask) so by known past = absurd by
  at_once holds there up (RequestComes name to request) so by known past =
      let hosts = (world_after_cause script n host (RequestComes name to request) world).hosts in
      let rsp = reply_to host.node.peer request in
      subst (λ (sends : List (NodeId × PeerReq)). Traffic world.hosts hosts world.wire attempts
      (wire_with_reply name to (is_up_among hosts name.sender.0) (Some rsp) (fold wire_with_request world.wire sends))
      (attempts_at_cause host.node (RequestComes name to request) attempts))
      (sym (served_silent request host.node))
      (kinds.RequestIsAnswered name to so.bytes (is_up_among hosts name.sender.0) rsp so.there (record {
        host = host;
        there = ap (tree.get world.hosts) so.here ∙ there;
        answers = not-true host.is_lost (and_parts (not host.is_lost) (has_numbers host.node) up).0;
        request = request;
        read = so.read;
        said = refl;
        spelled = holds.messages.replies.spelled name to request host (record {
          bytes = so.bytes;
          there = so.there;
          read = so.read;
          receiver = ap (tree.get world.hosts) so.here ∙ there;
          up = up;
        });
        up_so = refl;
        after = host_with_node host (node_step (inputs.Request request) host.node).node;
        there_after = ap (tree.get hosts) so.here
            ∙ get-insert_same world.hosts n (host_with_node host (node_step (inputs.Request request) host.node).node);
        left = request_leaves request host.node;
      }))
  at_once holds there up (ReplyComes name from rsp) so by known past = absurd by
  at_once holds there up (LossIsTold name packet) so by known past = absurd by
  at_once holds there up (EntryIsRead entry) so by known past = absurd by
  at_once holds there up (EntryIsPut entry) so by known past =
      subst (λ (sends : List (NodeId × PeerReq)). Traffic world.hosts (world_after_cause script n host (EntryIsPut entry) world).hosts
      world.wire attempts (fold wire_with_request world.wire sends) attempts)
      (sym (put_sends host.node)) kinds.NothingMoves
  at_once holds there up RecoveryTicks so by known past =
      kinds.RequestsAreSent n (node_step inputs.RecoverTick host.node).outputs.sends (record {
        host = host;
        there = there;
        numbers = step_numbers inputs.RecoverTick host.node;
        own = λ send there. ap (λ (me : NodeId). me.0) (known.asking.own send there) ∙ known.numbered;
        after = host_with_node host (node_step inputs.RecoverTick host.node).node;
        there_after = get-insert_same world.hosts n (host_with_node host (node_step inputs.RecoverTick host.node).node);
        stays = refl;
        counted = step_counts inputs.RecoverTick host.node;
        read = known.asking.read;
        past = past;
      }) (ticked_asks_nothing host.node)
  at_once holds there up WorkIsRetried so by known past = absurd by
  at_once holds there up (ClientAsks req ask) so by known past = absurd by

-- ---- every change

module _ (script : List Statement) (range : RunsAreInRange script) (start : MomentWithPast) (began : Began script start.world) where
  -- the wire of a moment in a step that goes by changes
  pub wire-in_step : (stepping : SteppingNode) → StepsByChanges stepping.cause → (so_far : StepState)
      → (moment_in_step script stepping start so_far).world.wire ≡ fold wire_with_request (wire_at_cause stepping.cause start.world.wire)
      so_far.outputs.sends
  wire-in_step stepping by so_far = wire-by_changes
      stepping.cause by (hosts_in_step stepping start.world so_far) stepping.host.node
      (fold wire_with_request (wire_at_cause stepping.cause start.world.wire) so_far.outputs.sends)

  pub first_wire : (stepping : SteppingNode) → StepsByChanges stepping.cause
      → (moment_in_step script stepping start (first_in_step stepping)).world.wire ≡ wire_at_cause stepping.cause start.world.wire
  first_wire stepping by =
      wire-in_step stepping by (first_in_step stepping)
      ∙ ap (λ (sends : List (NodeId × PeerReq)). fold wire_with_request (wire_at_cause stepping.cause start.world.wire) sends)
      (received_nothing stepping.cause stepping.host.node by).1

  step_begins : (stepping : SteppingNode) → IsStepping script start.world stepping → StepsByChanges stepping.cause
      → TrafficBetween start (moment_in_step script stepping start (first_in_step stepping))
  step_begins stepping is by =
      let hosts_after = hosts_in_step stepping start.world (first_in_step stepping) in
      subst (λ (wire : Wire). Traffic start.world.hosts hosts_after start.world.wire start.past.attempts wire
      (moment_in_step script stepping start (first_in_step stepping)).past.attempts) (sym (first_wire stepping by))
      (subst (Traffic start.world.hosts hosts_after start.world.wire start.past.attempts (wire_at_cause stepping.cause start.world.wire))
      (sym (attempts-at_first script start stepping is by))
      (begins script start.world stepping.n stepping.host start.past.attempts hosts_after stepping.cause is.caused by))

  step_goes_on : (stepping : SteppingNode) (so_far next : StepState) → IsStepping script start.world stepping
      → StepsByChanges stepping.cause
      → IsWithinStep stepping so_far next
      → TrafficBetween (moment_in_step script stepping start so_far) (moment_in_step script stepping start next)
  step_goes_on stepping so_far next is by within =
      let known = known_step script range start.world began stepping is in
      let attempts = (moment_in_step script stepping start so_far).past.attempts in
      let hosts = hosts_in_step stepping start.world so_far in
      let hosts_after = hosts_in_step stepping start.world next in
      let more = attempts_of_change stepping.host so_far next within.change in
      subst (λ (wire : Wire). Traffic hosts hosts_after wire attempts (moment_in_step script stepping start next).world.wire
      (moment_in_step script stepping start next).past.attempts) (sym (wire-in_step stepping by so_far))
      (subst (λ (wire : Wire). Traffic hosts hosts_after (fold wire_with_request (wire_at_cause stepping.cause start.world.wire)
      so_far.outputs.sends) attempts wire (moment_in_step script stepping start next).past.attempts) (sym (wire-in_step stepping by next))
      (subst (Traffic hosts hosts_after (fold wire_with_request (wire_at_cause stepping.cause start.world.wire) so_far.outputs.sends)
      attempts (fold wire_with_request (wire_at_cause stepping.cause start.world.wire) next.outputs.sends))
      (sym (attempts-grow script start stepping is known.sound known.given by so_far next within))
      (change_traffic script start.world stepping known attempts so_far next within.leads within.change
      (readable_at script start.world stepping known next within.rest))))

  step_is_made : (stepping : SteppingNode) → IsStepping script start.world stepping → StepsAtOnce stepping.cause
      → TrafficBetween start (moment_in_step script stepping start (last_in_step stepping))
  step_is_made stepping is by =
      let known = known_step script range start.world began stepping is in
      subst (Traffic start.world.hosts (hosts_in_step stepping start.world (last_in_step stepping)) start.world.wire start.past.attempts
      (moment_in_step script stepping start (last_in_step stepping)).world.wire)
      (sym (attempts-at_end script start stepping is by))
      (at_once script start.world stepping.n stepping.host start.past.attempts (together script range start.world began) is.there is.up
      stepping.cause is.caused by known (step_in_past script range start.world began stepping is))

  -- an event at which no node steps, by the wire and the attempts after it
  by_event : (event : Event) (made : EventOutcome) (wire : Wire) (attempts : List AttemptRecord) → made.world.wire ≡ wire
      → attempts_after script event start.world made.world start.past.attempts ≡ attempts
      → Traffic start.world.hosts made.world.hosts start.world.wire start.past.attempts wire attempts
      → TrafficBetween start (moment_after script event start made)
  unfolding past_after_event
  by_event event made wire attempts wire_so attempts_so traffic =
      subst (λ (w : Wire). Traffic start.world.hosts made.world.hosts start.world.wire start.past.attempts w
      (attempts_after script event start.world made.world start.past.attempts)) (sym wire_so)
      (subst (Traffic start.world.hosts made.world.hosts start.world.wire start.past.attempts wire) (sym attempts_so) traffic)

  -- the wire that was made
  abbrev wire_of : EventOutcome → Wire
  wire_of made = made.world.wire

  pub traffic : {before after : MomentWithPast} → MomentChange script start before after → TrafficBetween before after
  traffic (moments.StepBegins stepping is by) = step_begins stepping is by
  traffic (moments.StepGoesOn stepping so_far next is by within) = step_goes_on stepping so_far next is by within
  traffic (moments.StepIsMade stepping is by) = step_is_made stepping is by
  traffic (moments.LossIsUntold event made happened h) =
      by_event event made (tree.remove start.world.wire h.name) (attempts_with_loss h.name h.packet start.past.attempts)
      (ap wire_of (sym h.made_so)) (attempts-of_untold_loss script event start.world made start.past.attempts h)
      (kinds.MessageIsLost h.name h.packet h.there)
  traffic (moments.DeliveryIsUnread event made happened h) =
      by_event event made start.world.wire start.past.attempts (ap wire_of (sym h.made_so))
      (attempts-of_unread_delivery script event start.world made start.past.attempts h) kinds.NothingMoves
  traffic (moments.NodeIsLost event made happened h) =
      by_event event made (without_replies h.n start.world.wire) start.past.attempts (ap wire_of (sym h.made_so))
      (attempts-of_loss script event start.world made start.past.attempts h) (kinds.RepliesGo h.n)
  traffic (moments.NodeLeaves event made happened h) =
      by_event event made start.world.wire start.past.attempts (ap wire_of (sym h.made_so))
      (attempts-of_leave script event start.world made start.past.attempts h) kinds.NothingMoves
  traffic (moments.NodeIsReweighted event made happened h) =
      by_event event made start.world.wire start.past.attempts (ap wire_of (sym h.made_so))
      (attempts-of_reweight script event start.world made start.past.attempts h) kinds.NothingMoves
  traffic (moments.NodeJoins event made happened h) =
      by_event event made start.world.wire start.past.attempts (ap wire_of (sym h.made_so))
      (attempts-of_join script event start.world made start.past.attempts h) kinds.NothingMoves
  traffic (moments.NodeComesBack event made happened h) =
      by_event event made start.world.wire start.past.attempts
      (ap wire_of (sym h.made_so)
      ∙ ap (λ (sends : List (NodeId × PeerReq)). fold wire_with_request start.world.wire sends)
      (stepped_renewed (log_after_return script h.n start.world) h.host.node).silent)
      (attempts-of_return script event start.world made start.past.attempts h) kinds.NothingMoves
  traffic (moments.PhaseEnds event made happened h) =
      by_event event made start.world.wire start.past.attempts (ap wire_of (sym h.made_so))
      (attempts-of_phase_end script event start.world made start.past.attempts h) kinds.NothingMoves
