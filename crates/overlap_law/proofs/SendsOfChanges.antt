-- What a change of a node sends: the messages of an attempt that opens, and nothing else. So a node's count of sends never falls in a step.
use Rattle.std.proofs.Common.{◌≡◌, ⊎_elim, ℕ, ◌≤◌, ◌++◌, List, [], ◌∷◌, map, Contains, Option, arith, refl, sym, ap, subst, ◌∙◌, append-nil}
use Rattle.std.specs.Option.{option_map_or}
use Rattle.proof_tools.proofs.Booleans.{cond_either}
use Rattle.std.proofs.lemmas.List.{append_assoc}
use Rattle.std.proofs.lemmas.List.Elements.{Contains-append_cases}
use Rattle.proof_tools.proofs.Lists.{Contains-nil, Contains-cons_cases}
use Rattle.object_id.specs.declared.cause.Cause.{Cause}
use Rattle.object_id.specs.declared.cause.Cause.TheVariants.{Halt}
use Rattle.object_id.specs.declared.entry.Entry.{Entry}
use Rattle.object_id.specs.declared.node.Epoch.{Epoch}
use Rattle.object_id.specs.declared.node.NodeId.{NodeId}
use Rattle.peer_proto.specs.declared.work.ObjWork.{ObjWork}
use Rattle.peer_proto.specs.declared.ask.PeerReq.{PeerReq}
use Rattle.peer_proto.specs.declared.guest.GuestRsp.{GuestRsp}
use Rattle.gateway.specs.declared.message.Message.{Message}
use Rattle.gateway.specs.Work.{zones_for}
use Rattle.gateway.specs.Attempt.{send_of}
use Rattle.gateway.specs.State as gateways
use Rattle.gateway.specs.State.{Work}
use Rattle.recovery.specs.Steps as recovery_steps
use Rattle.sheep_node.specs.declared.input.Input.{Input}
use Rattle.sheep_node.specs.declared.input.Input.TheVariants as inputs
use Rattle.sheep_node.specs.declared.course.Course.{Course}
use Rattle.sheep_node.specs.declared.course.Request.{Request}
use Rattle.sheep_node.specs.State.{Node}
use Rattle.sheep_node.specs.StepState.{StepState, at_first, request_ended}
use Rattle.sheep_node.specs.RecoveryView.{recovery_state_of}
use Rattle.sheep_node.specs.RequestWorks.{course_refused}
use Rattle.sheep_node.specs.LogReading.{entry_read}
use Rattle.sheep_node.specs.Step.{on_put, on_input, is_due, with_recovered, recovered_put, recovery_stepped, node_step}
use Rattle.sheep_node.specs.Changes as changes
use Rattle.sheep_node.specs.Changes.{input_received, Outcome, ToWork, RequestSteps, DiskBegins, DiskGoesOn, CommandBegins, CommandGoesOn}
use Rattle.sheep_node.specs.Changes.{CommandDecided, CheckBegins, CheckGoesOn, ObjectBegins, ObjectIsDone, EntryBegins, EntryDecided}
use Rattle.sheep_node.specs.Changes.{WorkIsNext, AtOnce, InTurn, Again, AgainAlone, Change, Leads}
use Rattle.sheep_node.proofs.RefusedCourses.{course_refused-keeps, request_refused-keeps}
use Rattle.sheep_node.proofs.StepChain.{kept_by_chain}
use Rattle.sheep_node.proofs.StepEffects.{Untouched, untouched_in, IsInOrder, change_keeps_order, received_in_order}
use Rattle.sheep_world.specs.NodeCauses.{NodeCause, GuestAsks, RequestComes, ReplyComes, LossIsTold, EntryIsRead, EntryIsPut, RecoveryTicks}
use Rattle.sheep_world.specs.NodeCauses.{WorkIsRetried, ClientAsks, input_of_cause}
use Rattle.overlap_law.specs.StepMoments.{StepsByChanges}

-- nothing was sent between two points of a step
abbrev pub SendsNothing : StepState → StepState → Type 0
SendsNothing so_far next = (next.node.sends ≡ so_far.node.sends) × (next.outputs.sends ≡ so_far.outputs.sends)

-- these are of an epoch
abbrev pub AreOfEpoch : ℕ → List (NodeId × PeerReq) → Type 0
AreOfEpoch epoch sends = (send : NodeId × PeerReq) → Contains sends send → send.1.epoch.0 ≡ epoch

-- more was sent, behind what was sent before, in the node's epoch
abbrev pub IsLonger : StepState → StepState → Type 0
IsLonger so_far next =
    (more : List (NodeId × PeerReq)) × (next.outputs.sends ≡ so_far.outputs.sends ++ more) × AreOfEpoch next.node.peer.epoch more

no_longer : (so_far next : StepState) → next.outputs.sends ≡ so_far.outputs.sends → IsLonger so_far next
no_longer so_far next same = ([], same ∙ sym (append-nil so_far.outputs.sends), λ send there. absurd (Contains-nil send there))

-- the messages of an attempt are of its epoch
pub attempt_in_epoch : (me : NodeId) (epoch : Epoch) (work : ObjWork) (messages : List Message)
    → AreOfEpoch epoch.0 (map (send_of me epoch work) messages)
attempt_in_epoch me epoch work [] send there = absurd (Contains-nil send there)
attempt_in_epoch me epoch work (message ∷ messages) send there = ⊎_elim
    (λ (same : send_of me epoch work message ≡ send). ap (λ (s : NodeId × PeerReq). s.1.epoch.0) (sym same))
    (λ (later : Contains (map (send_of me epoch work) messages) send). attempt_in_epoch me epoch work messages send later)
    (Contains-cons_cases (send_of me epoch work message) (map (send_of me epoch work) messages) send there)

ended_sends_nothing : (first : StepState) (session req : ℕ) (reply : GuestRsp) (so_far : StepState) → SendsNothing first so_far
    → SendsNothing first (request_ended session req reply so_far)
unfolding request_ended
ended_sends_nothing first session req reply so_far same = same

pub end_sends_nothing : (session req : ℕ) (reply : GuestRsp) (so_far : StepState)
    → SendsNothing so_far (request_ended session req reply so_far)
end_sends_nothing session req reply so_far = ended_sends_nothing so_far session req reply so_far (refl, refl)

pub refusal_sends_nothing : (session req : ℕ) (cause : Cause) (course : Course) (so_far : StepState)
    → SendsNothing so_far (course_refused session req cause course so_far)
refusal_sends_nothing session req cause course so_far =
    course_refused-keeps (SendsNothing so_far) (ended_sends_nothing so_far) (λ entry before same. same) session req cause course so_far
    (refl, refl)

pub denial_sends_nothing : (req : ℕ) (cause : Cause) (request : Option Request) (so_far : StepState)
    → SendsNothing so_far (option_map_or (λ (request : Request). course_refused request.session req cause request.course so_far) request
    so_far)
denial_sends_nothing req cause request so_far =
    request_refused-keeps (SendsNothing so_far) (ended_sends_nothing so_far) (λ entry before same. same) req cause request so_far
    (refl, refl)

-- the input of a step that goes by changes sends nothing by itself
pub received_nothing : (cause : NodeCause) (node : Node) → StepsByChanges cause
    → SendsNothing (at_first node) (input_received (input_of_cause cause) (at_first node))
unfolding entry_read
received_nothing (GuestAsks session req ask) node by = (refl, refl)
received_nothing (RequestComes name to request) node by = absurd by
received_nothing (ReplyComes name from rsp) node by =
    cond_either (SendsNothing (at_first node)) (gateways.gateway_awaits rsp.number node.gateway) (at_first node)
    (recovery_stepped (recovery_steps.recovery_on_reply rsp (recovery_state_of node)) (at_first node)) (refl, refl) (refl, refl)
received_nothing (LossIsTold name packet) node by =
    cond_either (SendsNothing (at_first node)) (gateways.gateway_awaits name.number node.gateway) (at_first node)
    (recovery_stepped (recovery_steps.recovery_on_loss name.number (recovery_state_of node)) (at_first node)) (refl, refl) (refl, refl)
received_nothing (EntryIsRead entry) node by = (refl, refl)
received_nothing (EntryIsPut entry) node by = absurd by
received_nothing RecoveryTicks node by = absurd by
received_nothing WorkIsRetried node by = (refl, refl)
received_nothing (ClientAsks req ask) node by = (refl, refl)

module _ {input : Input} {node : Node} where
  pub steps_send_nothing : (so_far : StepState) (session req : ℕ) (next : Outcome) (moved : StepState)
      → RequestSteps input node so_far session req next moved
      → SendsNothing so_far moved
  steps_send_nothing so_far session req next moved (DiskBegins ask disk there on may) = (refl, refl)
  steps_send_nothing so_far session req next moved (DiskGoesOn number work attempt status bytes driver disk step ends on is) = (refl, refl)
  steps_send_nothing so_far session req next moved (CommandBegins ask step arrival is) = (refl, refl)
  steps_send_nothing so_far session req next moved (CommandGoesOn number work attempt status bytes op step ends is) = (refl, refl)
  steps_send_nothing so_far session req next moved (CommandDecided entry op step from read there waits is) = (refl, refl)
  steps_send_nothing so_far session req next moved (CheckBegins inode arrival on) = (refl, refl)
  steps_send_nothing so_far session req next moved (CheckGoesOn number work attempt status bytes check step ends is) = (refl, refl)
  steps_send_nothing so_far session req next moved (ObjectBegins asked arrival) = (refl, refl)
  steps_send_nothing so_far session req next moved (ObjectIsDone number work attempt status bytes asked ends) = (refl, refl)
  steps_send_nothing so_far session req next moved (EntryBegins entry arrival) = (refl, refl)
  steps_send_nothing so_far session req next moved (EntryDecided entry wanted from read there waits) = (refl, refl)

  pub next_sends_nothing : (so_far : StepState) (session req : ℕ) (asked : Work) (lined : StepState)
      → WorkIsNext input node so_far session req asked lined
      → SendsNothing so_far lined
  next_sends_nothing so_far session req asked lined (AtOnce work moved steps begins) =
      steps_send_nothing so_far session req (ToWork work) moved steps
  next_sends_nothing so_far session req asked lined (InTurn work later none is) = (refl, refl)
  next_sends_nothing so_far session req asked lined (Again work course from next there request) = (refl, refl)
  next_sends_nothing so_far session req asked lined (AgainAlone work from next there none) = (refl, refl)

  -- each change sends what it does behind what was sent
  pub sends_grow : (so_far next : StepState) → Change input node so_far next → IsLonger so_far next
  sends_grow so_far next (changes.Marks req number work attempt status learns over) = no_longer so_far next refl
  sends_grow so_far next (changes.Fails session req number work attempt status course ends done why) = no_longer so_far next refl
  sends_grow so_far next (changes.Stops session req number work attempt status course bytes ends over) = no_longer so_far next refl
  sends_grow so_far next (changes.Refuses session req number work attempt status course cause ends done why) =
      no_longer so_far next (refusal_sends_nothing session req cause course (changes.without_ended_work session req work status so_far)).1
  sends_grow so_far next (changes.Opens session req asked lined comes enough) =
      let more = map (send_of lined.node.gateway.me (record { 0 = lined.node.peer.epoch }) asked.work)
      (changes.attempt_in asked lined.node).messages in (
        more,
        ap (λ (sends : List (NodeId × PeerReq)). sends ++ more) (next_sends_nothing so_far session req asked lined comes).1,
        attempt_in_epoch lined.node.gateway.me (record { 0 = lined.node.peer.epoch }) asked.work
            (changes.attempt_in asked lined.node).messages,
      )
  sends_grow so_far next (changes.Holds session req asked lined comes short touched) =
      no_longer so_far next (next_sends_nothing so_far session req asked lined comes).1
  sends_grow so_far next (changes.Denies session req asked lined request comes short untouched there own) =
      no_longer so_far next
      ((denial_sends_nothing req (Halt (changes.zones_of_members lined.node) (zones_for asked.work)) request
      (changes.without_denied_work session req asked lined)).1
      ∙ (next_sends_nothing so_far session req asked lined comes).1)
  sends_grow so_far next (changes.Strays req work gateway there none apart) = no_longer so_far next refl
  sends_grow so_far next (changes.Lines session req work moved steps waits) =
      no_longer so_far next (steps_send_nothing so_far session req (ToWork work) moved steps).1
  sends_grow so_far next (changes.Appends session req entry moved steps) =
      no_longer so_far next (steps_send_nothing so_far session req (changes.ToEntry entry) moved steps).1
  sends_grow so_far next (changes.Replies session req reply moved steps) =
      no_longer so_far next ((end_sends_nothing session req reply moved).1
      ∙ (steps_send_nothing so_far session req (changes.ToReply reply) moved steps).1)
  sends_grow so_far next (changes.Arrives session req ask disk arrival on) = no_longer so_far next refl
  sends_grow so_far next (changes.Rejects session req ask cause arrival) = no_longer so_far next refl
  sends_grow so_far next (changes.Recovers due) = no_longer so_far next refl

  -- and so do many
  pub sends_lead : (first last : StepState) → Leads input node first last
      → (more : List (NodeId × PeerReq)) × (last.outputs.sends ≡ first.outputs.sends ++ more)
  sends_lead first last changes.Still = ([], sym (append-nil first.outputs.sends))
  sends_lead first last (changes.Then {so_far} {next} leads change) =
      let (one, is) = sends_lead first so_far leads in
      let (two, too, epochs) = sends_grow so_far next change in
      (one ++ two, too ∙ ap (λ (sends : List (NodeId × PeerReq)). sends ++ two) is ∙ append_assoc first.outputs.sends one two)

  -- ---- in the middle of a step

  pub in_order_so_far : (so_far : StepState) → Leads input node (input_received input (at_first node)) so_far
      → IsInOrder node.sends (input_received input (at_first node)).node.recovered (untouched_in (input_received input (at_first node)))
      so_far
  in_order_so_far so_far leads =
      let start = input_received input (at_first node) in
      kept_by_chain (IsInOrder node.sends start.node.recovered (untouched_in start))
      (change_keeps_order node.sends start.node.recovered (untouched_in start)) leads (received_in_order input node)

  -- the count of sends is no less than at first
  pub count_above : (so_far : StepState) → Leads input node (input_received input (at_first node)) so_far → node.sends ≤ so_far.node.sends
  count_above so_far leads = let counted = (in_order_so_far so_far leads).counted in omega (arith, counted)

  -- where the input sends nothing, all that is sent is of the epoch in which the node is by then
  pub sends_in_epoch : (input_received input (at_first node)).outputs.sends ≡ [] → (so_far : StepState)
      → Leads input node (input_received input (at_first node)) so_far → AreOfEpoch so_far.node.peer.epoch so_far.outputs.sends
  sends_in_epoch silent so_far changes.Still send there =
      absurd (Contains-nil send (subst (λ (sends : List (NodeId × PeerReq)). Contains sends send) silent there))
  sends_in_epoch silent last (changes.Then {so_far} {next} leads change) send there =
      let (more, is, epochs) = sends_grow so_far next change in
      let peers : so_far.node.peer.epoch ≡ next.node.peer.epoch
      = ap (λ (u : Untouched). u.peer.epoch) ((in_order_so_far so_far leads).same
      ∙ sym (in_order_so_far next (changes.Then leads change)).same) in
      ⊎_elim
      (λ (old : Contains so_far.outputs.sends send). sends_in_epoch silent so_far leads send old ∙ peers)
      (λ (new : Contains more send). epochs send new)
      (Contains-append_cases so_far.outputs.sends more send (subst (λ (sends : List (NodeId × PeerReq)). Contains sends send) is there))

-- a node that puts an entry sends nothing
pub put_sends : (node : Node) → (node_step inputs.Put node).outputs.sends ≡ []
unfolding node_step on_input recovered_put
put_sends node =
    let put = on_put node.outbox (at_first node) in
    cond_either (λ (so_far : StepState). so_far.outputs.sends ≡ []) (is_due put.node) (with_recovered put) put (by_outbox node.outbox)
    (by_outbox node.outbox)
  where
    by_outbox : (outbox : List Entry) → (on_put outbox (at_first node)).outputs.sends ≡ []
    by_outbox [] = refl
    by_outbox (entry ∷ later) = refl
