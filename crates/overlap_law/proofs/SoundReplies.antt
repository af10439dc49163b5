-- A request that a node had is there behind a step, or the step replied to it.
use Rattle.std.proofs.Common.{◌≡◌, ◌≢◌, ◌⊎◌, inl, inr, ⊎_elim, arith, ℕ, Bool, true, false, cond, List, [], ◌∷◌, Contains, Option, Some}
use Rattle.std.proofs.Common.{None, refl, sym, ap, subst, ◌∙◌}
use Rattle.std.specs.Prelude.{nat_lt}
use Rattle.std.specs.FinMap as tree
use Rattle.std.proofs.lemmas.Bool.{cases_eq}
use Rattle.proof_tools.proofs.Booleans.{cond_either}
use Rattle.proof_tools.proofs.FiniteMaps.{get-insert_same, get-insert_other, get-remove_other}
use Rattle.proof_tools.proofs.Lists.{Contains-head, Contains-cons, Contains-cons_cases, Contains-nil}
use Rattle.object_id.specs.declared.cause.Cause.{Cause}
use Rattle.object_id.specs.declared.cause.Cause.TheVariants.{Halt}
use Rattle.object_id.specs.declared.entry.Entry.{Entry}
use Rattle.peer_proto.specs.declared.guest.DiskAsk.{DiskAsk}
use Rattle.peer_proto.specs.declared.guest.GuestRsp.{GuestRsp}
use Rattle.peer_proto.specs.declared.guest.GuestRsp.TheVariants as refusals
use Rattle.gateway.specs.State as gateways
use Rattle.recovery.specs.Steps as recovery_steps
use Rattle.gateway.specs.Work.{zones_for}
use Rattle.gateway.specs.State.{Work}
use Rattle.guest_driver.specs.declared.disk.Disk.{Disk}
use Rattle.guest_driver.specs.Driver as drivers
use Rattle.disk_check.specs.Check.{begin_check}
use Rattle.sheep_node.specs.declared.ask.Ask.TheVariants as asks
use Rattle.sheep_node.specs.declared.course.Request.{Request}
use Rattle.sheep_node.specs.declared.course.Course.TheVariants.{Waiting, Driving, Commanding, Checking, DoingWork, AwaitingDecision}
use Rattle.sheep_node.specs.declared.input.Input.{Input}
use Rattle.sheep_node.specs.declared.input.Input.TheVariants as inputs
use Rattle.sheep_node.specs.State.{Node}
use Rattle.sheep_node.specs.RecoveryView.{recovery_state_of}
use Rattle.sheep_node.specs.LogReading.{entry_read}
use Rattle.sheep_node.specs.StepState.{StepState, at_first, session_in, with_course, replies_in_order, request_ended}
use Rattle.sheep_node.specs.Step.{node_step, on_input, on_request, on_put, on_recover_tick, recovery_stepped, is_due, with_recovered}
use Rattle.sheep_node.specs.Step.{recovered_put}
use Rattle.sheep_node.specs.Guests.{request_refusal, with_queued_request, request_taken_unless, on_guest}
use Rattle.sheep_node.specs.Waiting.{course_begun}
use Rattle.sheep_node.specs.Changes as changes
use Rattle.sheep_node.specs.Changes.{Outcome, ToWork, ToEntry, ToReply, RequestSteps, DiskBegins, DiskGoesOn, CommandBegins, CommandGoesOn}
use Rattle.sheep_node.specs.Changes.{CommandDecided, CheckBegins, CheckGoesOn, ObjectBegins, ObjectIsDone, EntryBegins, EntryDecided, Still}
use Rattle.sheep_node.specs.Changes.{WorkIsNext, AtOnce, InTurn, Again, AgainAlone, input_received, Change}
use Rattle.sheep_node.proofs.OneWorkParts.{Requests}
use Rattle.sheep_node.proofs.RefusedCourses.{course_refused-keeps, request_refused-keeps}
use Rattle.sheep_node.proofs.ReachedSteps.{reached_by, course_begun_walk}
use Rattle.sheep_node.proofs.StepChain.{begins, kept_by_chain, step_chain, untaken}
use Rattle.sheep_world.specs.NodeCauses.{NodeCause, GuestAsks, RequestComes, ReplyComes, LossIsTold, EntryIsRead, EntryIsPut, RecoveryTicks}
use Rattle.sheep_world.specs.NodeCauses.{WorkIsRetried, ClientAsks, input_of_cause}

-- a reply that is put among others is among them, and so are those
put_there : (reply : ℕ × GuestRsp) (replies : List (ℕ × GuestRsp)) → Contains (replies_in_order reply replies) reply
put_there reply [] = Contains-head reply []
put_there reply (first ∷ later) =
    cond_either (λ (list : List (ℕ × GuestRsp)). Contains list reply) (nat_lt reply.0 first.0) (reply ∷ first ∷ later)
    (first ∷ replies_in_order reply later) (Contains-head reply (first ∷ later))
    (Contains-cons first (replies_in_order reply later) reply (put_there reply later))

still_there : (reply : ℕ × GuestRsp) (replies : List (ℕ × GuestRsp)) (one : ℕ × GuestRsp) → Contains replies one
    → Contains (replies_in_order reply replies) one
still_there reply [] one among = absurd (Contains-nil one among)
still_there reply (first ∷ later) one among =
    cond_either (λ (list : List (ℕ × GuestRsp)). Contains list one) (nat_lt reply.0 first.0) (reply ∷ first ∷ later)
    (first ∷ replies_in_order reply later) (Contains-cons reply (first ∷ later) one among) (⊎_elim
    (λ (same : first ≡ one).
    subst (Contains (first ∷ replies_in_order reply later)) same (Contains-head first (replies_in_order reply later)))
    (λ (behind : Contains later one).
    Contains-cons first (replies_in_order reply later) one (still_there reply later one behind))
    (Contains-cons_cases first later one among))

module _ (q : ℕ) where
  -- the request is among these, or has a reply among those
  abbrev pub IsThereOrReplied : Requests → List (ℕ × GuestRsp) → Type 0
  IsThereOrReplied requests replies =
      ((request : Request) × (tree.get requests q ≡ Some request)) ⊎ ((rsp : GuestRsp) × Contains replies (q, rsp))

  abbrev pub ThereSoFar : StepState → Type 0
  ThereSoFar so_far = IsThereOrReplied so_far.node.requests so_far.outputs.replies

  -- one more request
  put_keeps : (requests : Requests) (replies : List (ℕ × GuestRsp)) (req : ℕ) (request : Request) → IsThereOrReplied requests replies
      → IsThereOrReplied (tree.insert requests req request) replies
  put_keeps requests replies req request (inr replied) = inr replied
  put_keeps requests replies req request (inl (was, got)) = ⊎_elim
      (λ (own : q ≡ req). inl (request, ap (tree.get (tree.insert requests req request)) own ∙ get-insert_same requests req request))
      (λ (other : q ≢ req). inl (was, get-insert_other requests req request q other ∙ got))
      (cases_eq q req)

  -- one that ends has its reply
  gone_keeps : (requests : Requests) (replies : List (ℕ × GuestRsp)) (req : ℕ) (reply : GuestRsp) → IsThereOrReplied requests replies
      → IsThereOrReplied (tree.remove requests req) (replies_in_order (req, reply) replies)
  gone_keeps requests replies req reply (inr (rsp, among)) = inr (rsp, still_there (req, reply) replies (q, rsp) among)
  gone_keeps requests replies req reply (inl (was, got)) = ⊎_elim
      (λ (own : q ≡ req).
      inr (
        reply,
        subst (λ (k : ℕ). Contains (replies_in_order (req, reply) replies) (k, reply)) (sym own)
            (put_there (req, reply) replies),
      ))
      (λ (other : q ≢ req). inl (was, get-remove_other requests req q other ∙ got))
      (cases_eq q req)

  ended_keeps : (session req : ℕ) (reply : GuestRsp) (so_far : StepState) → ThereSoFar so_far
      → ThereSoFar (request_ended session req reply so_far)
  unfolding request_ended
  ended_keeps session req reply so_far there = gone_keeps so_far.node.requests so_far.outputs.replies req reply there

  module _ (input : Input) (node : Node) where
    steps_keep : (so_far : StepState) (session req : ℕ) (next : Outcome) (moved : StepState)
        → RequestSteps input node so_far session req next moved → ThereSoFar so_far → ThereSoFar moved
    steps_keep so_far session req next moved (DiskBegins ask disk there on may) =
        put_keeps so_far.node.requests so_far.outputs.replies req
        (record { session = session; course = Driving (drivers.begin_driver disk ask).driver })
    steps_keep so_far session req next moved (DiskGoesOn number work attempt status bytes driver disk step ends on is) =
        put_keeps so_far.node.requests so_far.outputs.replies req (record { session = session; course = Driving step.driver })
    steps_keep so_far session req next moved (CommandBegins ask step arrival is) =
        put_keeps so_far.node.requests so_far.outputs.replies req (record { session = session; course = Commanding step.op })
    steps_keep so_far session req next moved (CommandGoesOn number work attempt status bytes op step ends is) =
        put_keeps so_far.node.requests so_far.outputs.replies req (record { session = session; course = Commanding step.op })
    steps_keep so_far session req next moved (CommandDecided entry op step from read there waits is) =
        put_keeps so_far.node.requests so_far.outputs.replies req (record { session = session; course = Commanding step.op })
    steps_keep so_far session req next moved (CheckBegins inode arrival on) =
        put_keeps so_far.node.requests so_far.outputs.replies req
        (record { session = session; course = Checking (begin_check inode).check })
    steps_keep so_far session req next moved (CheckGoesOn number work attempt status bytes check step ends is) =
        put_keeps so_far.node.requests so_far.outputs.replies req (record { session = session; course = Checking step.check })
    steps_keep so_far session req next moved (ObjectBegins asked arrival) =
        put_keeps so_far.node.requests so_far.outputs.replies req (record { session = session; course = DoingWork asked })
    steps_keep so_far session req next moved (ObjectIsDone number work attempt status bytes asked ends) = λ there. there
    steps_keep so_far session req next moved (EntryBegins entry arrival) =
        put_keeps so_far.node.requests so_far.outputs.replies req (record { session = session; course = AwaitingDecision entry })
    steps_keep so_far session req next moved (EntryDecided entry wanted from read there waits) = λ there. there

    next_keeps : (so_far : StepState) (session req : ℕ) (asked : Work) (lined : StepState)
        → WorkIsNext input node so_far session req asked lined → ThereSoFar so_far → ThereSoFar lined
    next_keeps so_far session req asked lined (AtOnce work moved steps begins) = steps_keep so_far session req (ToWork work) moved steps
    next_keeps so_far session req asked lined (InTurn work later none is) = λ there. there
    next_keeps so_far session req asked lined (Again work course from next there request) = λ there. there
    next_keeps so_far session req asked lined (AgainAlone work from next there none) = λ there. there

    pub change_keeps : (so_far next : StepState) → Change input node so_far next → ThereSoFar so_far → ThereSoFar next
    change_keeps so_far next (changes.Marks req number work attempt status learns over) there = there
    change_keeps so_far next (changes.Fails session req number work attempt status course ends done why) there = there
    change_keeps so_far next (changes.Stops session req number work attempt status course bytes ends over) there = there
    change_keeps so_far next (changes.Refuses session req number work attempt status course cause ends done why) there =
        course_refused-keeps ThereSoFar ended_keeps (λ entry before now. now) session req cause course
        (changes.without_ended_work session req work status so_far) there
    change_keeps so_far next (changes.Opens session req asked lined comes enough) there =
        next_keeps so_far session req asked lined comes there
    change_keeps so_far next (changes.Holds session req asked lined comes short touched) there =
        next_keeps so_far session req asked lined comes there
    change_keeps so_far next (changes.Denies session req asked lined request comes short untouched found own) there =
        request_refused-keeps ThereSoFar ended_keeps (λ entry before now. now) req
        (Halt (changes.zones_of_members lined.node) (zones_for asked.work)) request (changes.without_denied_work session req asked lined)
        (next_keeps so_far session req asked lined comes there)
    change_keeps so_far next (changes.Strays req work gateway found none apart) there = there
    change_keeps so_far next (changes.Lines session req work moved steps waits) there =
        steps_keep so_far session req (ToWork work) moved steps there
    change_keeps so_far next (changes.Appends session req entry moved steps) there =
        steps_keep so_far session req (ToEntry entry) moved steps there
    change_keeps so_far next (changes.Replies session req reply moved steps) there =
        ended_keeps session req reply moved (steps_keep so_far session req (ToReply reply) moved steps there)
    change_keeps so_far next (changes.Arrives session req ask disk arrival on) there =
        put_keeps so_far.node.requests so_far.outputs.replies req (record { session = session; course = Waiting ask }) there
    change_keeps so_far next (changes.Rejects session req ask cause arrival) (inl there) = inl there
    change_keeps so_far next (changes.Rejects session req ask cause arrival) (inr (rsp, among)) =
        inr (rsp, still_there (req, refusals.Refused cause) so_far.outputs.replies (q, rsp) among)
    change_keeps so_far next (changes.Recovers due) there = there

  -- what a step receives leaves the node's requests, as long as it doesn't come back
  pub received_there : (cause : NodeCause) (node : Node) (request : Request) → tree.get node.requests q ≡ Some request
      → tree.get (input_received (input_of_cause cause) (at_first node)).node.requests q ≡ Some request
  unfolding entry_read on_request on_recover_tick
  received_there (GuestAsks session req ask) node request got = got
  received_there (RequestComes name to asked) node request got = got
  received_there (ReplyComes name from rsp) node request got =
      cond_either (λ (so_far : StepState). tree.get so_far.node.requests q ≡ Some request) (gateways.gateway_awaits rsp.number node.gateway)
      (at_first node) (recovery_stepped (recovery_steps.recovery_on_reply rsp (recovery_state_of node)) (at_first node)) got got
  received_there (LossIsTold name packet) node request got =
      cond_either (λ (so_far : StepState). tree.get so_far.node.requests q ≡ Some request)
      (gateways.gateway_awaits name.number node.gateway) (at_first node)
      (recovery_stepped (recovery_steps.recovery_on_loss name.number (recovery_state_of node)) (at_first node)) got got
  received_there (EntryIsRead entry) node request got = got
  received_there (EntryIsPut entry) node request got = by_outbox node.outbox
    where
      by_outbox : (outbox : List Entry) → tree.get (on_put outbox (at_first node)).node.requests q ≡ Some request
      by_outbox [] = got
      by_outbox (first ∷ later) = got
  received_there RecoveryTicks node request got = got
  received_there WorkIsRetried node request got = got
  received_there (ClientAsks req ask) node request got = got

  -- behind the step it is there, or has a reply
  pub there_or_replied : (cause : NodeCause) (node : Node) (request : Request) → tree.get node.requests q ≡ Some request
      → ThereSoFar (node_step (input_of_cause cause) node)
  there_or_replied cause node request got =
      kept_by_chain ThereSoFar (change_keeps (input_of_cause cause) node) (step_chain (input_of_cause cause) node)
      (inl (request, received_there cause node request got))

-- ---- a read or write that a guest asks

module _ (node : Node) (number req : ℕ) (ask : DiskAsk) where
  due_there : (so_far : StepState) → ThereSoFar req so_far → ThereSoFar req (recovered_put so_far)
  unfolding recovered_put
  due_there so_far there = cond_either (ThereSoFar req) (is_due so_far.node) (with_recovered so_far) so_far there there

  taken : (disk : Option Disk) → (session_in number (at_first node)).disk ≡ disk
      → request_refusal node.peer (session_in number (at_first node)).disk (asks.Disk ask) ≡ None
      → ThereSoFar req (course_begun number req (Waiting ask)
      (with_queued_request number req ask disk (with_course number req (Waiting ask) (at_first node))))
  taken None on allowed =
      let none : request_refusal node.peer None (asks.Disk ask) ≡ None
      = subst (λ (disk : Option Disk). request_refusal node.peer disk (asks.Disk ask) ≡ None) on allowed in
      absurd (cc (none))
  taken (Some disk) on allowed = kept_by_chain (ThereSoFar req) (change_keeps req (inputs.Guest req number (asks.Disk ask)) node)
      (course_begun_walk {n = 0} arrived number req (Waiting ask) there (record {
        leads = Still;
        good = (reached_by (begins (inputs.Guest req number (asks.Disk ask)) node) (changes.Arrives number req ask disk (record {
          first = refl;
          from = refl;
          none = λ sound. untaken node req sound.0;
          refused = allowed;
        }) on)).good;
        count = λ short. omega arith;
      })).leads (inl (record { session = number; course = Waiting ask }, there))
    where
      arrived : StepState
      arrived = with_queued_request number req ask (Some disk) (with_course number req (Waiting ask) (at_first node))

      there : tree.get (with_queued_request number req ask (Some disk)
          (with_course number req (Waiting ask) (at_first node))).node.requests req
          ≡ Some (record { session = number; course = Waiting ask })
      there = get-insert_same node.requests req (record { session = number; course = Waiting ask })

  -- it is there behind the step, or is replied to
  pub asked_there : ThereSoFar req (node_step (inputs.Guest req number (asks.Disk ask)) node)
  unfolding node_step on_input on_guest
  asked_there =
      due_there (request_taken_unless (request_refusal node.peer (session_in number (at_first node)).disk (asks.Disk ask)) number req
      (asks.Disk ask) (at_first node))
      (by_cause (request_refusal node.peer (session_in number (at_first node)).disk (asks.Disk ask)) refl)
    where
      by_cause : (cause : Option Cause) → request_refusal node.peer (session_in number (at_first node)).disk (asks.Disk ask) ≡ cause
          → ThereSoFar req (request_taken_unless cause number req (asks.Disk ask) (at_first node))
      by_cause None allowed = taken (session_in number (at_first node)).disk refl allowed
      by_cause (Some cause) refused =
          inr (refusals.Refused cause, put_there (req, refusals.Refused cause) (at_first node).outputs.replies)
