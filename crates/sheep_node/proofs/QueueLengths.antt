-- A session never has more reads and writes without reply than it may have at once.
use Rattle.std.proofs.Common.{◌≡◌, ◌≢◌, ℕ, suc, ◌+◌, ◌-◌, ◌≤◌, nat_le, not, Bool, true, false, cond, List, [], ◌∷◌, ◌++◌, length, Option}
use Rattle.std.proofs.Common.{Some, None, is_none, unwrap_or, refl, ap, sym, subst, ◌∙◌, arith, ⊎_elim}
use Rattle.std.specs.Ordering.{nat_cmp}
use Rattle.std.specs.FinMap as tree
use Rattle.std.proofs.lemmas.Bool.{and_parts, cases_eq, leb-true}
use Rattle.std.proofs.lemmas.List.{length-append}
use Rattle.proof_tools.proofs.FiniteMaps.{get-insert_other, get-insert_same}
use Rattle.object_id.specs.declared.cause.Cause.{Cause}
use Rattle.object_id.specs.declared.node.NodeId.{NodeId}
use Rattle.peer_proto.specs.declared.guest.DiskAsk.{DiskAsk}
use Rattle.peer_proto.specs.declared.guest.GuestRsp.{GuestRsp}
use Rattle.gateway.specs.declared.message.Status.{Status}
use Rattle.gateway.specs.State.{Work}
use Rattle.gateway_queue.specs.declared.queue.Queued.{Queued}
use Rattle.gateway_queue.specs.Queue.{has_request_number, queue_without}
use Rattle.guest_driver.specs.declared.disk.Disk.{Disk}
use Rattle.guest_driver.specs.Driver.{DriverStep, begin_driver}
use Rattle.guest_driver.specs.InodeQueue.{InodeQueue}
use Rattle.vdi_ops.specs.Op.{OpStep, disk_change}
use Rattle.sheep_node.specs.declared.ask.Ask.TheVariants as asks
use Rattle.sheep_node.specs.declared.input.Input.{Input}
use Rattle.object_id.specs.declared.limits.TheConstants.{REQUESTS_AT_ONCE}
use Rattle.sheep_node.specs.declared.course.Course.{Course}
use Rattle.sheep_node.specs.declared.session.Session.{Session}
use Rattle.sheep_node.specs.declared.course.Course.TheVariants.{Checking, DoingWork, AwaitingDecision}
use Rattle.sheep_node.specs.State.{Node, new_session, session_at, initial_node}
use Rattle.sheep_node.specs.StepState.{StepState, at_first, session_in, request_ended, with_sole_request}
use Rattle.sheep_node.specs.Courses.{after_driver_step, disk_after, after_command_step}
use Rattle.sheep_node.specs.Guests.{queued_as}
use Rattle.sheep_node.specs.Step.{node_step}
use Rattle.sheep_node.specs.May.{May}
use Rattle.sheep_node.specs.SessionQueues.{session_among, HaveShortQueues, QueuesAreShort}
use Rattle.sheep_node.specs.Changes.{without_ended_work, Outcome, Arrival, RequestSteps, DiskBegins, DiskGoesOn, CommandBegins}
use Rattle.sheep_node.specs.Changes.{CommandGoesOn, CommandDecided, input_received, Change, CheckBegins, CheckGoesOn, ObjectBegins}
use Rattle.sheep_node.specs.Changes.{ObjectIsDone, EntryBegins, EntryDecided}
use Rattle.sheep_node.proofs.ChangeWalk.{freed_holds, kept_by_steps, change_holds}
use Rattle.sheep_node.proofs.OneWorkParts.{Requests, Sessions}
use Rattle.sheep_node.proofs.ReachedSteps.{QueuesStayShort}
use Rattle.sheep_node.proofs.StepChain.{kept_by_chain, step_chain}
use Rattle.disk_check.specs.Check.{begin_check}
use Rattle.sheep_node.proofs.ReceivedInputs.{received_keeps}

abbrev pub QueuesAreShortIn : StepState → Type 0
QueuesAreShortIn so_far = HaveShortQueues so_far.node.sessions

-- a session among others
session_short : (sessions : Sessions) (number : ℕ) (session : Session) → length session.queue ≤ REQUESTS_AT_ONCE → HaveShortQueues sessions
    → HaveShortQueues (tree.insert sessions number session)
session_short sessions number session short all q = ⊎_elim
    (λ (own : q ≡ number).
    subst (λ (o : Option Session). length (unwrap_or o new_session).queue ≤ REQUESTS_AT_ONCE)
    (sym (ap (tree.get (tree.insert sessions number session)) own ∙ get-insert_same sessions number session)) short)
    (λ (other : q ≢ number).
    subst (λ (o : Option Session). length (unwrap_or o new_session).queue ≤ REQUESTS_AT_ONCE)
    (sym (get-insert_other sessions number session q other)) (all q))
    (cases_eq q number)

-- fewer are left
left_short : (req : ℕ) (queue : List Queued) → length (queue_without req queue) ≤ length queue
left_short req [] = omega arith
left_short req (first ∷ later) = by_tie (not (has_request_number req first)) (left_short req later)
  where
    by_tie : (b : Bool) → length (queue_without req later) ≤ length later
        → length (cond b (first ∷ queue_without req later) (queue_without req later)) ≤ suc (length later)
    by_tie true rest = omega arith
    by_tie false rest = omega arith

ended_short : (session req : ℕ) (reply : GuestRsp) (so_far : StepState) → QueuesAreShortIn so_far → QueuesAreShortIn (request_ended session req reply so_far)
unfolding request_ended
ended_short session req reply so_far all =
    let queue = (session_in session so_far).queue in
    let fewer : length (queue_without req queue) ≤ length queue = left_short req queue in
    let before : length queue ≤ REQUESTS_AT_ONCE = all session in
    session_short so_far.node.sessions session (record (session_in session so_far) { queue = queue_without req queue; command = None }) (omega (arith, fewer, before)) all

-- a session whose queue stays as it is
same_short : (session : ℕ) (after : Session) (so_far : StepState) → after.queue ≡ (session_in session so_far).queue → QueuesAreShortIn so_far
    → HaveShortQueues (tree.insert so_far.node.sessions session after)
same_short session after so_far same all =
    session_short so_far.node.sessions session after (subst (λ (queue : List Queued). length queue ≤ REQUESTS_AT_ONCE) (sym same) (all session)) all

abbrev AreShort : Requests → Sessions → Type 0
AreShort requests sessions = HaveShortQueues sessions

-- the line of works may change
lined_short : (requests : Requests) (sessions : Sessions) (number : ℕ) (queue : InodeQueue) → AreShort requests sessions
    → AreShort requests (tree.insert sessions number (record (session_among number sessions) { inode_queue = queue }))
lined_short requests sessions number queue all =
    session_short sessions number (record (session_among number sessions) { inode_queue = queue }) (all number) all

freed_short : (session req : ℕ) (work : Work) (status : Status) (so_far : StepState) → QueuesAreShortIn so_far
    → QueuesAreShortIn (without_ended_work session req work status so_far)
freed_short = freed_holds AreShort lined_short

driven_short : (session req : ℕ) (disk : Disk) (step : DriverStep) (so_far : StepState) → QueuesAreShortIn so_far
    → QueuesAreShortIn (after_driver_step session req disk step so_far)
driven_short session req disk step so_far all =
    same_short session (record (session_in session so_far) { disk = Some (record disk { inode = step.inode }) }) so_far refl all

command_short : (session req : ℕ) (step : OpStep) (so_far : StepState) → QueuesAreShortIn so_far → QueuesAreShortIn (after_command_step session req step so_far)
command_short session req step so_far all =
    same_short session
    (record (session_in session so_far) { disk = disk_after (disk_change step) (session_in session so_far).disk; command = Some req }) so_far refl all

sole_short : (session req : ℕ) (course : Course) (so_far : StepState) → QueuesAreShortIn so_far
    → QueuesAreShortIn (with_sole_request session req course so_far)
sole_short session req course so_far all =
    same_short session (record (session_in session so_far) { command = Some req }) so_far refl all

module _ {input : Input} {node : Node} where
  steps_short : (so_far : StepState) (session req : ℕ) (next : Outcome) (moved : StepState) → RequestSteps input node so_far session req next moved
      → QueuesAreShortIn so_far → QueuesAreShortIn moved
  steps_short so_far session req next moved (DiskBegins ask disk there on may) all = driven_short session req disk (begin_driver disk ask) so_far all
  steps_short so_far session req next moved (DiskGoesOn number work attempt status bytes driver disk step ends on is) all =
      driven_short session req disk step (without_ended_work session req work status so_far)
      (freed_short session req work status so_far all)
  steps_short so_far session req next moved (CommandBegins ask step arrival is) all = command_short session req step so_far all
  steps_short so_far session req next moved (CommandGoesOn number work attempt status bytes op step ends is) all =
      command_short session req step (without_ended_work session req work status so_far) (freed_short session req work status so_far all)
  steps_short so_far session req next moved (CommandDecided entry op step from read there waits is) all = command_short session req step so_far all
  steps_short so_far session req next moved (CheckBegins inode arrival on) all =
      sole_short session req (Checking (begin_check inode).check) so_far all
  steps_short so_far session req next moved (CheckGoesOn number work attempt status bytes check step ends is) all =
      sole_short session req (Checking step.check) (without_ended_work session req work status so_far)
      (freed_short session req work status so_far all)
  steps_short so_far session req next moved (ObjectBegins asked arrival) all = sole_short session req (DoingWork asked) so_far all
  steps_short so_far session req next moved (ObjectIsDone number work attempt status bytes asked ends) all =
      freed_short session req work status so_far all
  steps_short so_far session req next moved (EntryBegins entry arrival) all = sole_short session req (AwaitingDecision entry) so_far all
  steps_short so_far session req next moved (EntryDecided entry wanted from read there waits) all = all

  -- a read or write that may come finds room
  room_for : May input node → (so_far : StepState) (session req : ℕ) (ask : DiskAsk) (refusal : Option Cause)
      → Arrival input node so_far session req (asks.Disk ask) refusal → length (session_in session so_far).queue + 1 ≤ REQUESTS_AT_ONCE
  room_for may so_far session req ask refusal arrival =
      let asked = subst (λ (input : Input). May input node) arrival.from may in
      let at_node = session_at session node in
      let room : nat_le (length at_node.queue) (REQUESTS_AT_ONCE - 1) ≡ true
      = (and_parts (is_none at_node.command) (nat_le (length at_node.queue) (REQUESTS_AT_ONCE - 1)) asked.condition.room).1 in
      let fewer : length at_node.queue ≤ REQUESTS_AT_ONCE - 1 = leb-true (length at_node.queue) (REQUESTS_AT_ONCE - 1) room in
      let there : length at_node.queue + 1 ≤ REQUESTS_AT_ONCE = omega (arith, fewer) in
      subst (λ (start : StepState). length (session_in session start).queue + 1 ≤ REQUESTS_AT_ONCE) (sym arrival.first) there

  change_keeps_short : (so_far next : StepState) → Change input node so_far next → May input node → QueuesAreShortIn so_far → QueuesAreShortIn next
  change_keeps_short so_far next change may all =
      change_holds AreShort lined_short so_far
      (kept_by_steps AreShort lined_short so_far
      (λ session req outcome moved steps. steps_short so_far session req outcome moved steps all) ended_short
      (λ session req ask disk arrival on.
      let queue = (session_in session so_far).queue in
      let one = queued_as disk.inode.spec.shift req ask in
      session_short so_far.node.sessions session (record (session_in session so_far) { queue = queue ++ one ∷ [] })
      (subst (λ (n : ℕ). n ≤ REQUESTS_AT_ONCE) (sym (length-append queue (one ∷ [])))
      (room_for may so_far session req ask None arrival)) all)) all next change

none_short : HaveShortQueues tree.empty
none_short number =
    subst (λ (o : Option Session). length (unwrap_or o new_session).queue ≤ REQUESTS_AT_ONCE) (sym (tree.get-empty {X = Session} nat_cmp number)) (omega arith)

received_short : (input : Input) (node : Node) → QueuesAreShortIn (at_first node) → QueuesAreShortIn (input_received input (at_first node))
received_short = received_keeps (λ works requests sessions. HaveShortQueues sessions) none_short

pub queues_short_at_opening : (me : NodeId) (tries : ℕ) → QueuesAreShort (initial_node me tries)
queues_short_at_opening me tries = none_short

pub queues_stay_short : (input : Input) (node : Node) → May input node → QueuesAreShort node → QueuesAreShort (node_step input node).node
queues_stay_short input node may all =
    kept_by_chain QueuesAreShortIn (λ so_far next change. change_keeps_short so_far next change may) (step_chain input node) (received_short input node all)

-- and so as the step goes on
pub queues_stay_short_along : (input : Input) (node : Node) → May input node → QueuesAreShort node
    → QueuesStayShort input node (input_received input (at_first node))
queues_stay_short_along input node may all so_far leads =
    kept_by_chain QueuesAreShortIn (λ so_far next change. change_keeps_short so_far next change may) leads (received_short input node all)
