-- Every change leaves each session's queue to its reads and writes without reply.
use Rattle.std.proofs.Common.{◌≡◌, ◌≢◌, ℕ, ◌==◌, ◌&&◌, not, Bool, true, false, cond, List, [], ◌∷◌, ◌++◌, Contains, Option, Some, None, unwrap_or, refl, sym, ap, subst, ◌∙◌, ⊎_elim}
use Rattle.std.specs.Option.{option_map_or}
use Rattle.std.specs.Ordering.{nat_cmp}
use Rattle.std.specs.FinMap as tree
use Rattle.std.proofs.Math.Bool.{and-false}
use Rattle.std.proofs.lemmas.Bool.{eqb-true, eqb-false, eq-eqb, ne_eqb, and_parts, cases_eq}
use Rattle.std.proofs.lemmas.List.Elements.{Contains-push_cases, Contains-append_left, Contains-append_right}
use Rattle.proof_tools.proofs.Lists.{Contains-cons, Contains-cons_cases, Contains-filter, Contains-first, Contains-nil}
use Rattle.proof_tools.proofs.FiniteMaps.{get-insert_other, get-insert_same, get-remove_other, get-remove_same}
use Rattle.object_id.specs.declared.cause.Cause.{Cause}
use Rattle.object_id.specs.declared.cause.Cause.TheVariants.{Halt}
use Rattle.peer_proto.specs.declared.guest.DiskAsk.{DiskAsk}
use Rattle.peer_proto.specs.declared.guest.GuestRsp.{GuestRsp}
use Rattle.peer_proto.specs.declared.guest.GuestRsp.TheVariants.{Refused}
use Rattle.gateway.specs.declared.message.Status.{Status}
use Rattle.gateway.specs.Work.{zones_for}
use Rattle.gateway.specs.State.{Work}
use Rattle.gateway_queue.specs.declared.queue.Queued.{Queued}
use Rattle.gateway_queue.specs.Queue.{has_request_number, queue_without}
use Rattle.guest_driver.specs.declared.disk.Disk.{Disk}
use Rattle.guest_driver.specs.Driver as drivers
use Rattle.guest_driver.specs.InodeQueue as lines
use Rattle.guest_driver.specs.InodeQueue.{queue_with_open, queue_after_end}
use Rattle.vdi_ops.specs.declared.end.OpEnd.{OpEnd}
use Rattle.vdi_ops.specs.Op as ops
use Rattle.vdi_ops.specs.Op.{Op, disk_change}
use Rattle.vdi_ops.specs.Steps.{on_refusal}
use Rattle.sheep_node.specs.declared.input.Input.{Input}
use Rattle.sheep_node.specs.declared.course.Course.{Course}
use Rattle.sheep_node.specs.declared.course.Request.{Request}
use Rattle.sheep_node.specs.declared.session.Session.{Session}
use Rattle.sheep_node.specs.declared.course.Course.TheVariants.{Waiting, Driving, Commanding, Checking, DoingWork, AwaitingDecision}
use Rattle.sheep_node.specs.State.{Node, new_session}
use Rattle.sheep_node.specs.StepState.{StepState, at_first, with_optional_entry, session_in, request_ended, with_sole_request}
use Rattle.sheep_node.specs.RequestWorks.{command_refused, course_refused}
use Rattle.sheep_node.specs.Courses.{after_driver_step, disk_after, after_command_step}
use Rattle.sheep_node.specs.Guests.{queued_as}
use Rattle.sheep_node.specs.Step.{node_step}
use Rattle.sheep_node.specs.May.{is_disk_course, May}
use Rattle.sheep_node.specs.OneWork.{HasOneWorkPerRequest}
use Rattle.sheep_node.specs.SessionQueues.{is_disk_request_of, session_among, queue_in, IsQueued, AreDiskRequests, QueuesAreDiskRequests}
use Rattle.sheep_node.specs.Changes as changes
use Rattle.sheep_node.specs.Changes.{HasRequest, IsSoundStep, Outcome, ToWork, ToEntry, ToReply, without_ended_work, RequestSteps, DiskBegins, DiskGoesOn, CommandBegins, CommandGoesOn, CommandDecided, WorkIsNext, AtOnce, InTurn, Again, AgainAlone, input_received, Change, CheckBegins, CheckGoesOn, ObjectBegins, ObjectIsDone, EntryBegins, EntryDecided}
use Rattle.sheep_node.proofs.OneWorkParts.{Requests, Sessions}
use Rattle.sheep_node.proofs.NumberChanges.{meets_numbers}
use Rattle.sheep_node.proofs.StepChain.{kept_by_chain, step_chain}
use Rattle.disk_check.specs.Check.{begin_check}
use Rattle.sheep_node.proofs.ReceivedInputs.{received_keeps}

-- ---- a session among others

-- what is seen of the sessions, once one of them is changed but for that
pub same_view : {X : Type 0} (f : Session → X) (sessions : Sessions) (number : ℕ) (session : Session) → f session ≡ f (session_among number sessions)
    → (q : ℕ) → f (session_among q (tree.insert sessions number session)) ≡ f (session_among q sessions)
same_view f sessions number session same q = ⊎_elim
    (λ (own : q ≡ number).
    ap (λ (k : ℕ). f (session_among k (tree.insert sessions number session))) own
    ∙ ap (λ (o : Option Session). f (unwrap_or o new_session)) (get-insert_same sessions number session)
    ∙ same ∙ ap (λ (k : ℕ). f (session_among k sessions)) (sym own))
    (λ (other : q ≢ number). ap (λ (o : Option Session). f (unwrap_or o new_session)) (get-insert_other sessions number session q other))
    (cases_eq q number)

queued_session : (requests : Requests) (sessions : Sessions) (number : ℕ) (session : Session) → session.queue ≡ queue_in number sessions
    → AreDiskRequests requests sessions → AreDiskRequests requests (tree.insert sessions number session)
queued_session requests sessions number session same queued =
    let so = same_view (λ (session : Session). session.queue) sessions number session same in
    record {
      there = λ q req in_it. queued.there q req (subst (IsQueued req) (so q) in_it);
      has = λ q req on. subst (IsQueued req) (sym (so q)) (queued.has q req on);
    }

-- a request in another course, that is a read or write of the same session if it was
queued_course : (requests : Requests) (sessions : Sessions) (req : ℕ) (request : Request)
    → ((number : ℕ) → is_disk_request_of number (Some request) ≡ is_disk_request_of number (tree.get requests req))
    → AreDiskRequests requests sessions → AreDiskRequests (tree.insert requests req request) sessions
queued_course requests sessions req request same queued = record {
  there = λ number q in_it. so number q ∙ queued.there number q in_it;
  has = λ number q on. queued.has number q (sym (so number q) ∙ on);
}
  where
    so : (number q : ℕ) → is_disk_request_of number (tree.get (tree.insert requests req request) q) ≡ is_disk_request_of number (tree.get requests q)
    so number q = ⊎_elim
        (λ (own : q ≡ req).
        ap (λ (k : ℕ). is_disk_request_of number (tree.get (tree.insert requests req request) k)) own
        ∙ ap (is_disk_request_of number) (get-insert_same requests req request) ∙ same number ∙ ap (λ (k : ℕ). is_disk_request_of number (tree.get requests k)) (sym own))
        (λ (other : q ≢ req). ap (is_disk_request_of number) (get-insert_other requests req request q other))
        (cases_eq q req)

-- ---- a request ends

left_in : (req : ℕ) (queue : List Queued) (one : Queued) → Contains (queue_without req queue) one → Contains queue one × (one.req ≢ req)
left_in req [] one there = absurd (Contains-nil one there)
left_in req (first ∷ queue) one there = by_tie (first.req == req) refl (left_in req queue one) there
  where
    later : Contains queue one × (one.req ≢ req) → Contains (first ∷ queue) one × (one.req ≢ req)
    later (had, apart) = (Contains-cons first queue one had, apart)

    by_tie : (b : Bool) → (first.req == req) ≡ b → (Contains (queue_without req queue) one → Contains queue one × (one.req ≢ req))
        → Contains (cond (not b) (first ∷ queue_without req queue) (queue_without req queue)) one → Contains (first ∷ queue) one × (one.req ≢ req)
    by_tie true tie rest there = later (rest there)
    by_tie false tie rest there = ⊎_elim
        (λ (same : first ≡ one). (Contains-first first one queue same, λ (is : one.req ≡ req). eqb-false first.req req tie (ap (λ (q : Queued). q.req) same ∙ is)))
        (λ (behind : Contains (queue_without req queue) one). later (rest behind))
        (Contains-cons_cases first (queue_without req queue) one there)

stays_in : (req q : ℕ) (queue : List Queued) → q ≢ req → IsQueued q queue → IsQueued q (queue_without req queue)
stays_in req q queue apart (one, had, same) = (
  one,
  Contains-filter (λ queued. not (has_request_number req queued)) queue one had
      (ap not (ne_eqb one.req req (λ (is : one.req ≡ req). apart (sym same ∙ is)))),
  same,
)

of_one : (number session : ℕ) (course : Course) → is_disk_request_of number (Some (record { session = session; course = course })) ≡ true → session ≡ number
of_one number session course on = eqb-true session number (and_parts (session == number) (is_disk_course course) on).0

abbrev pub QueuesAre : StepState → Type 0
QueuesAre so_far = AreDiskRequests so_far.node.requests so_far.node.sessions

ended_queued : (session req : ℕ) (course : Course) (reply : GuestRsp) (so_far : StepState) → HasRequest session req course so_far → QueuesAre so_far
    → QueuesAre (request_ended session req reply so_far)
unfolding request_ended
ended_queued session req course reply so_far is_there queued = record {
  there = λ number q in_it. ⊎_elim
      (λ (own : number ≡ session).
      let (one, had, same) = subst (IsQueued q) (queue_own number own) in_it in
      let (before, apart) = left_in req (queue_in session sessions) one had in
      kept number q (λ (is : q ≡ req). apart (same ∙ is))
      ∙ ap (λ (k : ℕ). is_disk_request_of k (tree.get requests q)) own ∙ queued.there session q (one, before, same))
      (λ (other : number ≢ session).
      let on = queued.there number q (subst (IsQueued q) (queue_other number other) in_it) in
      kept number q (λ (is : q ≡ req).
      other (sym (of_one number session course (ap (is_disk_request_of number) (sym is_there) ∙ ap (λ (k : ℕ). is_disk_request_of number (tree.get requests k)) (sym is) ∙ on))))
      ∙ on)
      (cases_eq number session);
  has = λ number q on. ⊎_elim
      (λ (is : q ≡ req).
      let none : tree.get (tree.remove requests req) q ≡ None = ap (tree.get (tree.remove requests req)) is ∙ get-remove_same requests req in
      let off : is_disk_request_of number (tree.get (tree.remove requests req) q) ≡ false = ap (is_disk_request_of number) none in
      absurd (cc (on, off)))
      (λ (apart : q ≢ req).
      let had = queued.has number q (sym (kept number q apart) ∙ on) in
      ⊎_elim
      (λ (own : number ≡ session).
      subst (IsQueued q) (sym (queue_own number own))
      (stays_in req q (queue_in session sessions) apart (subst (λ (k : ℕ). IsQueued q (queue_in k sessions)) own had)))
      (λ (other : number ≢ session). subst (IsQueued q) (sym (queue_other number other)) had)
      (cases_eq number session))
      (cases_eq q req);
}
  where
    requests : Requests
    requests = so_far.node.requests

    sessions : Sessions
    sessions = so_far.node.sessions

    after : Session
    after = record (session_in session so_far) { queue = queue_without req (session_in session so_far).queue; command = None }

    kept : (number q : ℕ) → q ≢ req → is_disk_request_of number (tree.get (tree.remove requests req) q) ≡ is_disk_request_of number (tree.get requests q)
    kept number q apart = ap (is_disk_request_of number) (get-remove_other requests req q apart)

    queue_own : (number : ℕ) → number ≡ session → queue_in number (tree.insert sessions session after) ≡ queue_without req (queue_in session sessions)
    queue_own number own =
        ap (λ (k : ℕ). queue_in k (tree.insert sessions session after)) own
        ∙ ap (λ (o : Option Session). (unwrap_or o new_session).queue) (get-insert_same sessions session after)

    queue_other : (number : ℕ) → number ≢ session → queue_in number (tree.insert sessions session after) ≡ queue_in number sessions
    queue_other number other = ap (λ (o : Option Session). (unwrap_or o new_session).queue) (get-insert_other sessions session after number other)

refused_queued : (session req : ℕ) (cause : Cause) (course : Course) (so_far : StepState) → HasRequest session req course so_far → QueuesAre so_far
    → QueuesAre (course_refused session req cause course so_far)
refused_queued session req cause (Waiting ask) so_far there queued = queued
refused_queued session req cause (Driving driver) so_far there queued = ended_queued session req (Driving driver) (Refused cause) so_far there queued
refused_queued session req cause (Commanding op) so_far there queued = by_end (on_refusal cause op)
  where
    by_end : (end : Option OpEnd) → QueuesAre (command_refused session req end so_far)
    by_end None = queued
    by_end (Some end) = ended_queued session req (Commanding op) end.reply (with_optional_entry end.unlock so_far) there queued
refused_queued session req cause (Checking check) so_far there queued = ended_queued session req (Checking check) (Refused cause) so_far there queued
refused_queued session req cause (DoingWork work) so_far there queued = ended_queued session req (DoingWork work) (Refused cause) so_far there queued
refused_queued session req cause (AwaitingDecision entry) so_far there queued = queued

request_refused_queued : (req : ℕ) (cause : Cause) (request : Option Request) (so_far : StepState) → tree.get so_far.node.requests req ≡ request → QueuesAre so_far
    → QueuesAre (option_map_or (λ (request : Request). course_refused request.session req cause request.course so_far) request so_far)
request_refused_queued req cause None so_far there queued = queued
request_refused_queued req cause (Some request) so_far there queued = refused_queued request.session req cause request.course so_far there queued

-- ---- a step that a request takes

-- the request is there, and the queues are as they should be
record HasSteppedQueued (session req : ℕ) (so_far : StepState) : Type 0 where
  course : Course
  there : HasRequest session req course so_far
  queued : QueuesAre so_far

freed_queued : (session req : ℕ) (work : Work) (status : Status) (so_far : StepState) → QueuesAre so_far → QueuesAre (without_ended_work session req work status so_far)
freed_queued session req work status so_far queued =
    queued_session so_far.node.requests so_far.node.sessions session
    (record (session_in session so_far) { inode_queue = queue_after_end (session_in session so_far).inode_queue work.work }) refl queued

driven_took : (session req : ℕ) (disk : Disk) (step : drivers.DriverStep) (so_far : StepState)
    → ((number : ℕ) → is_disk_request_of number (Some (record { session = session; course = Driving step.driver })) ≡ is_disk_request_of number (tree.get so_far.node.requests req))
    → QueuesAre so_far → HasSteppedQueued session req (after_driver_step session req disk step so_far)
driven_took session req disk step so_far same queued =
    let request : Request = record { session = session; course = Driving step.driver } in
    let after = record (session_in session so_far) { disk = Some (record disk { inode = step.inode }) } in
    record {
      course = Driving step.driver;
      there = get-insert_same so_far.node.requests req request;
      queued = queued_course so_far.node.requests (tree.insert so_far.node.sessions session after) req request same
          (queued_session so_far.node.requests so_far.node.sessions session after refl queued);
    }

command_took : (session req : ℕ) (step : ops.OpStep) (so_far : StepState)
    → ((number : ℕ) → is_disk_request_of number (Some (record { session = session; course = Commanding step.op })) ≡ is_disk_request_of number (tree.get so_far.node.requests req))
    → QueuesAre so_far → HasSteppedQueued session req (after_command_step session req step so_far)
command_took session req step so_far same queued =
    let request : Request = record { session = session; course = Commanding step.op } in
    record {
      course = Commanding step.op;
      there = get-insert_same so_far.node.requests req request;
      queued = queued_session (tree.insert so_far.node.requests req request) so_far.node.sessions session
          (record (session_in session so_far) {
            disk = disk_after (disk_change step) (session_in session so_far).disk;
            command = Some req;
          }) refl
          (queued_course so_far.node.requests so_far.node.sessions req request same queued);
    }

sole_took : (session req : ℕ) (course : Course) (so_far : StepState)
    → ((number : ℕ) → is_disk_request_of number (Some (record { session = session; course = course })) ≡ is_disk_request_of number (tree.get so_far.node.requests req))
    → QueuesAre so_far → HasSteppedQueued session req (with_sole_request session req course so_far)
sole_took session req course so_far same queued =
    let request : Request = record { session = session; course = course } in
    record {
      course = course;
      there = get-insert_same so_far.node.requests req request;
      queued = queued_session (tree.insert so_far.node.requests req request) so_far.node.sessions session
          (record (session_in session so_far) { command = Some req }) refl
          (queued_course so_far.node.requests so_far.node.sessions req request same queued);
    }

-- a request that comes is no read or write where its course isn't one
sole_arrives : (session req : ℕ) (course : Course) (so_far : StepState) → is_disk_course course ≡ false → tree.get so_far.node.requests req ≡ None
    → QueuesAre so_far → HasSteppedQueued session req (with_sole_request session req course so_far)
sole_arrives session req course so_far off none queued =
    sole_took session req course so_far
    (λ number. ap (λ (b : Bool). session == number && b) off ∙ and-false (session == number) ∙ ap (is_disk_request_of number) (sym none)) queued

-- a command is no read or write
off_disk : (session number : ℕ) (op : Op) → is_disk_request_of number (Some (record { session = session; course = Commanding op })) ≡ false
off_disk session number op = and-false (session == number)

same_there : (session req : ℕ) (one other : Course) (so_far : StepState) → HasRequest session req other so_far → is_disk_course one ≡ is_disk_course other → (number : ℕ)
    → is_disk_request_of number (Some (record { session = session; course = one })) ≡ is_disk_request_of number (tree.get so_far.node.requests req)
same_there session req one other so_far there same number = ap (λ (b : Bool). session == number && b) same ∙ ap (is_disk_request_of number) (sym there)

steps_took : {input : Input} {node : Node} → (so_far : StepState) (session req : ℕ) (next : Outcome) (moved : StepState) → RequestSteps input node so_far session req next moved → IsSoundStep input node → QueuesAre so_far → HasSteppedQueued session req moved
steps_took so_far session req next moved (DiskBegins ask disk there on may) sound queued =
    driven_took session req disk (drivers.begin_driver disk ask) so_far
    (same_there session req (Driving (drivers.begin_driver disk ask).driver) (Waiting ask) so_far there refl) queued
steps_took so_far session req next moved (DiskGoesOn number work attempt status bytes driver disk step ends on is) sound queued =
    driven_took session req disk step (without_ended_work session req work status so_far)
    (same_there session req (Driving step.driver) (Driving driver) so_far ends.ends.request refl) (freed_queued session req work status so_far queued)
steps_took so_far session req next moved (CommandBegins ask step arrival is) sound queued =
    command_took session req step so_far (λ number. off_disk session number step.op ∙ ap (is_disk_request_of number) (sym (arrival.none sound))) queued
steps_took so_far session req next moved (CommandGoesOn number work attempt status bytes op step ends is) sound queued =
    command_took session req step (without_ended_work session req work status so_far)
    (same_there session req (Commanding step.op) (Commanding op) so_far ends.ends.request refl) (freed_queued session req work status so_far queued)
steps_took so_far session req next moved (CommandDecided entry op step from read there waits is) sound queued =
    command_took session req step so_far (same_there session req (Commanding step.op) (Commanding op) so_far there refl) queued
steps_took so_far session req next moved (CheckBegins inode arrival on) sound queued =
    sole_arrives session req (Checking (begin_check inode).check) so_far refl (arrival.none sound) queued
steps_took so_far session req next moved (CheckGoesOn number work attempt status bytes check step ends is) sound queued =
    sole_took session req (Checking step.check) (without_ended_work session req work status so_far)
    (same_there session req (Checking step.check) (Checking check) so_far ends.ends.request refl)
    (freed_queued session req work status so_far queued)
steps_took so_far session req next moved (ObjectBegins asked arrival) sound queued =
    sole_arrives session req (DoingWork asked) so_far refl (arrival.none sound) queued
steps_took so_far session req next moved (ObjectIsDone number work attempt status bytes asked ends) sound queued =
    record { course = DoingWork asked; there = ends.ends.request; queued = freed_queued session req work status so_far queued }
steps_took so_far session req next moved (EntryBegins entry arrival) sound queued =
    sole_arrives session req (AwaitingDecision entry) so_far refl (arrival.none sound) queued
steps_took so_far session req next moved (EntryDecided entry wanted from read there waits) sound queued =
    record { course = AwaitingDecision wanted; there = there; queued = queued }

comes_queued : {input : Input} {node : Node} → (so_far : StepState) (session req : ℕ) (asked : Work) (lined : StepState) → WorkIsNext input node so_far session req asked lined → IsSoundStep input node → QueuesAre so_far → QueuesAre lined
comes_queued so_far session req asked lined (AtOnce work moved steps begins) sound queued =
    queued_session moved.node.requests moved.node.sessions session
    (record (session_in session moved) { inode_queue = queue_with_open (session_in session moved).inode_queue req work }) refl
    (steps_took so_far session req (ToWork work) moved steps sound queued).queued
comes_queued so_far session req asked lined (InTurn work later none is) sound queued =
    queued_session so_far.node.requests so_far.node.sessions session
    (record (session_in session so_far) { inode_queue = record { current = Some req; waiting = later } }) refl queued
comes_queued so_far session req asked lined (Again work course from next there request) sound queued = queued
comes_queued so_far session req asked lined (AgainAlone work from next there none) sound queued = queued

-- ---- every change

module _ (session req : ℕ) (ask : DiskAsk) (disk : Disk) (so_far : StepState) (none : tree.get so_far.node.requests req ≡ None) (queued : QueuesAre so_far) where
  abbrev new_request : Request
  new_request = record { session = session; course = Waiting ask }

  abbrev after : Session
  after = record (session_in session so_far) { queue = (session_in session so_far).queue ++ queued_as disk.inode.spec.shift req ask ∷ [] }

  queue_own : (number : ℕ) → number ≡ session → queue_in number (tree.insert so_far.node.sessions session after) ≡ queue_in session so_far.node.sessions ++ queued_as disk.inode.spec.shift req ask ∷ []
  queue_own number own =
      ap (λ (k : ℕ). queue_in k (tree.insert so_far.node.sessions session after)) own
      ∙ ap (λ (o : Option Session). (unwrap_or o new_session).queue) (get-insert_same so_far.node.sessions session after)

  queue_other : (number : ℕ) → number ≢ session → queue_in number (tree.insert so_far.node.sessions session after) ≡ queue_in number so_far.node.sessions
  queue_other number other = ap (λ (o : Option Session). (unwrap_or o new_session).queue) (get-insert_other so_far.node.sessions session after number other)

  -- what was in a queue is another new_request
  was_other : (number q : ℕ) → is_disk_request_of number (tree.get so_far.node.requests q) ≡ true → q ≢ req
  was_other number q on is =
      let off : is_disk_request_of number (tree.get so_far.node.requests q) ≡ false = ap (λ (k : ℕ). is_disk_request_of number (tree.get so_far.node.requests k)) is ∙ ap (is_disk_request_of number) none in
      absurd (cc (on, off))

  still : (number q : ℕ) → q ≢ req → is_disk_request_of number (tree.get (tree.insert so_far.node.requests req new_request) q) ≡ is_disk_request_of number (tree.get so_far.node.requests q)
  still number q apart = ap (is_disk_request_of number) (get-insert_other so_far.node.requests req new_request q apart)

  now_on : (number q : ℕ) → number ≡ session → q ≡ req → is_disk_request_of number (tree.get (tree.insert so_far.node.requests req new_request) q) ≡ true
  now_on number q own is =
      ap (λ (k : ℕ). is_disk_request_of number (tree.get (tree.insert so_far.node.requests req new_request) k)) is
      ∙ ap (is_disk_request_of number) (get-insert_same so_far.node.requests req new_request)
      ∙ ap (λ (b : Bool). b && true) (eq-eqb session number (sym own))

  old_in : (number q : ℕ) → IsQueued q (queue_in number so_far.node.sessions) → is_disk_request_of number (tree.get (tree.insert so_far.node.requests req new_request) q) ≡ true
  old_in number q in_it = let on = queued.there number q in_it in still number q (was_other number q on) ∙ on

  arrived : AreDiskRequests (tree.insert so_far.node.requests req new_request) (tree.insert so_far.node.sessions session after)
  arrived = record {
    there = λ number q in_it. ⊎_elim
        (λ (own : number ≡ session).
        let (one, had, same) = subst (IsQueued q) (queue_own number own) in_it in
        ⊎_elim
        (λ (before : Contains (queue_in session so_far.node.sessions) one).
        old_in number q (subst (λ (k : ℕ). IsQueued q (queue_in k so_far.node.sessions)) (sym own) (one, before, same)))
        (λ (is : queued_as disk.inode.spec.shift req ask ≡ one). now_on number q own (sym same ∙ sym (ap (λ (x : Queued). x.req) is)))
        (Contains-push_cases (queue_in session so_far.node.sessions) (queued_as disk.inode.spec.shift req ask) one had))
        (λ (other : number ≢ session). old_in number q (subst (IsQueued q) (queue_other number other) in_it))
        (cases_eq number session);
    has = λ number q on. ⊎_elim
        (λ (is : q ≡ req).
        let own : session ≡ number = of_one number session (Waiting ask)
        (sym (ap (λ (k : ℕ). is_disk_request_of number (tree.get (tree.insert so_far.node.requests req new_request) k)) is ∙ ap (is_disk_request_of number) (get-insert_same so_far.node.requests req new_request)) ∙ on) in
        subst (IsQueued q) (sym (queue_own number (sym own))) (
          queued_as disk.inode.spec.shift req ask,
          Contains-append_right (queue_in session so_far.node.sessions) (queued_as disk.inode.spec.shift req ask ∷ []) (queued_as disk.inode.spec.shift req ask)
              (Contains-first (queued_as disk.inode.spec.shift req ask) (queued_as disk.inode.spec.shift req ask) [] refl),
          sym is,
        ))
        (λ (apart : q ≢ req).
        let had = queued.has number q (sym (still number q apart) ∙ on) in
        ⊎_elim
        (λ (own : number ≡ session).
        let (one, before, same) = subst (λ (k : ℕ). IsQueued q (queue_in k so_far.node.sessions)) own had in
        subst (IsQueued q) (sym (queue_own number own))
        (one, Contains-append_left (queue_in session so_far.node.sessions) (queued_as disk.inode.spec.shift req ask ∷ []) one before, same))
        (λ (other : number ≢ session). subst (IsQueued q) (sym (queue_other number other)) had)
        (cases_eq number session))
        (cases_eq q req);
  }

pub change_keeps_queues : {input : Input} {node : Node} → (so_far next : StepState) → Change input node so_far next → IsSoundStep input node → QueuesAre so_far → QueuesAre next
change_keeps_queues so_far next (changes.Marks req number work attempt status learns over) sound queued = queued
change_keeps_queues so_far next (changes.Fails session req number work attempt status course ends done why) sound queued = queued
change_keeps_queues so_far next (changes.Stops session req number work attempt status course bytes ends over) sound queued = freed_queued session req work status so_far queued
change_keeps_queues so_far next (changes.Refuses session req number work attempt status course cause ends done why) sound queued =
    refused_queued session req cause course (without_ended_work session req work status so_far) ends.request (freed_queued session req work status so_far queued)
change_keeps_queues so_far next (changes.Opens session req asked lined comes short) sound queued = comes_queued so_far session req asked lined comes sound queued
change_keeps_queues so_far next (changes.Holds session req asked lined comes short touched) sound queued = comes_queued so_far session req asked lined comes sound queued
change_keeps_queues so_far next (changes.Denies session req asked lined request comes short untouched there own) sound queued =
    request_refused_queued req (Halt (changes.zones_of_members lined.node) (zones_for asked.work)) request (changes.without_denied_work session req asked lined) there
    (queued_session lined.node.requests lined.node.sessions session (record (session_in session lined) { inode_queue = queue_after_end (session_in session lined).inode_queue asked.work }) refl
    (comes_queued so_far session req asked lined comes sound queued))
change_keeps_queues so_far next (changes.Strays req work gateway there none apart) sound queued = queued
change_keeps_queues so_far next (changes.Lines session req work moved steps waits) sound queued =
    queued_session moved.node.requests moved.node.sessions session
    (record (session_in session moved) { inode_queue = lines.queue_with_waiting (session_in session moved).inode_queue req work }) refl
    (steps_took so_far session req (ToWork work) moved steps sound queued).queued
change_keeps_queues so_far next (changes.Appends session req entry moved steps) sound queued = (steps_took so_far session req (ToEntry entry) moved steps sound queued).queued
change_keeps_queues so_far next (changes.Replies session req reply moved steps) sound queued =
    let took = steps_took so_far session req (ToReply reply) moved steps sound queued in
    ended_queued session req took.course reply moved took.there took.queued
change_keeps_queues so_far next (changes.Arrives session req ask disk arrival on) sound queued = arrived session req ask disk so_far (arrival.none sound) queued
change_keeps_queues so_far next (changes.Rejects session req ask cause arrival) sound queued = queued
change_keeps_queues so_far next (changes.Recovers due) sound queued = queued

-- where nothing is asked nothing is queued
pub none_queued : AreDiskRequests tree.empty tree.empty
none_queued = record {
  there = λ number req in_it.
      let (one, had, same) = subst (IsQueued req) (ap (λ (o : Option Session). (unwrap_or o new_session).queue) (tree.get-empty {X = Session} nat_cmp number)) in_it in
      absurd (Contains-nil one had);
  has = λ number req on.
      let off : is_disk_request_of number (tree.get tree.empty req) ≡ false = ap (is_disk_request_of number) (tree.get-empty {X = Request} nat_cmp req) in
      absurd (cc (on, off));
}

received_queues : (input : Input) (node : Node) → QueuesAre (at_first node) → QueuesAre (input_received input (at_first node))
received_queues = received_keeps (λ works requests sessions. AreDiskRequests requests sessions) none_queued

pub queues_stay : (input : Input) (node : Node) → May input node → HasOneWorkPerRequest node → QueuesAreDiskRequests node
    → QueuesAreDiskRequests (node_step input node).node
queues_stay input node may driven queued =
    kept_by_chain QueuesAre (λ so_far next change. change_keeps_queues so_far next change (meets_numbers input node may.condition, driven)) (step_chain input node) (received_queues input node queued)
