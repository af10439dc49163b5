-- A node's step by elementary changes: each is one effect on the node and the outputs, with what is known where it happens. Every
-- step is a chain of these, so what each of them keeps every step keeps.
use Rattle.std.specs.Prelude.{◌≡◌, ◌≢◌, ℕ, ◌+◌, nat_lt, Bool, true, false, ◌++◌, List, [], ◌∷◌, map, Option, Some, None, if◌then◌else◌, not}
use Rattle.std.specs.Option.{option_map_or}
use Rattle.std.specs.Prelude.{IsTrue}
use Rattle.std.specs.FinMap as tree
use Rattle.object_id.specs.declared.cause.Cause.{Cause}
use Rattle.object_id.specs.declared.cause.Cause.TheVariants.{Halt}
use Rattle.object_id.specs.declared.entry.Entry.{Entry}
use Rattle.hash_ring.specs.Placement.{zone_count}
use Rattle.vnode_table.specs.Epochs.{members_at}
use Rattle.vnode_table.specs.Targets.{targets_in}
use Rattle.peer_proto.specs.Work.{oid_of, policy_of}
use Rattle.peer_proto.specs.declared.guest.DiskAsk.{DiskAsk}
use Rattle.peer_proto.specs.declared.guest.VdiAsk.{VdiAsk}
use Rattle.peer_proto.specs.declared.guest.GuestRsp.{GuestRsp}
use Rattle.peer_proto.specs.declared.guest.GuestRsp.TheVariants.{Refused, Checked}
use Rattle.peer_proto.specs.declared.work.ObjWork.{ObjWork}
use Rattle.peer_service.specs.State.{effects_of}
use Rattle.peer_service.specs.LogReading.{decision_on}
use Rattle.gateway.specs.declared.message.Status.{Status}
use Rattle.gateway.specs.declared.message.Status.TheVariants.{Lost}
use Rattle.gateway.specs.Messages.{IsPieceFor}
use Rattle.gateway.specs.Work.{zones_for}
use Rattle.gateway.specs.Attempt.{Attempt, is_unanswered, status_by, messages_with_status, send_of, is_over, is_done, bytes_given}
use Rattle.gateway.specs.State as gateways
use Rattle.gateway.specs.State.{Work, Gateway, Open, Ended, WaitsForMembers, is_touched, is_awaited_in}
use Rattle.gateway.specs.Step.{with_work, without_work, touched_by, attempt_with_status, refusal_after_attempt, next_attempt}
use Rattle.gateway_queue.specs.Queue.{may_run}
use Rattle.guest_driver.specs.declared.disk.Disk.{Disk}
use Rattle.guest_driver.specs.declared.act.DriverAct.{DriverAct}
use Rattle.guest_driver.specs.declared.act.DriverAct.TheVariants as driver_acts
use Rattle.guest_driver.specs.Driver as drivers
use Rattle.guest_driver.specs.Driver.{Driver}
use Rattle.guest_driver.specs.InodeQueue as lines
use Rattle.guest_driver.specs.InodeQueue.{may_open_work, queue_with_open, queue_with_waiting}
use Rattle.vdi_ops.specs.declared.act.OpAct.{OpAct}
use Rattle.vdi_ops.specs.declared.act.OpAct.TheVariants as op_acts
use Rattle.vdi_ops.specs.Op as ops
use Rattle.vdi_ops.specs.Op.{Op}
use Rattle.vdi_ops.specs.Steps.{begin_command, op_on_done, on_decision}
use Rattle.recovery.specs.Steps as recovery_steps
use Rattle.sheep_node.specs.declared.course.Course.{Course}
use Rattle.sheep_node.specs.declared.course.Request.{Request}
use Rattle.sheep_node.specs.declared.course.Course.TheVariants.{Waiting, Driving, Commanding, Checking, DoingWork, AwaitingDecision}
use Rattle.sheep_node.specs.State.{Node}
use Rattle.sheep_node.specs.RecoveryView.{recovery_state_of}
use Rattle.sheep_node.specs.StepState.{StepState, at_first, with_node, with_sends, with_guest_reply, with_outbox_entry, with_gateway}
use Rattle.sheep_node.specs.StepState.{with_sole_request}
use Rattle.sheep_node.specs.StepState.{with_session, session_in, with_inode_queue, with_course, request_ended}
use Rattle.sheep_node.specs.RequestWorks.{course_refused, queue_left}
use Rattle.sheep_node.specs.Courses.{after_driver_step, inode_open, after_command_step, work_reply, decision_reply}
use Rattle.sheep_node.specs.declared.ask.Ask.{Ask}
use Rattle.sheep_node.specs.declared.ask.Ask.TheVariants as asks
use Rattle.sheep_node.specs.declared.input.Input.{Input}
use Rattle.sheep_node.specs.declared.input.Input.TheVariants as inputs
use Rattle.sheep_node.specs.Guests.{request_refusal, queued_as}
use Rattle.sheep_node.specs.AwaitedEntry.{waits_for_entry}
use Rattle.sheep_node.specs.LogReading.{entry_read, on_back}
use Rattle.sheep_node.specs.Step.{on_request, recovery_stepped, on_put, on_recover_tick, is_due, with_recovered}
use Rattle.sheep_node.specs.May.{fits_node, may_tick}
use Rattle.sheep_node.specs.OneWork.{HasOneWorkPerRequest}
use Rattle.disk_check.specs.declared.act.CheckAct.{CheckAct}
use Rattle.disk_check.specs.declared.act.CheckAct.TheVariants as check_acts
use Rattle.disk_check.specs.Check as checks
use Rattle.disk_check.specs.Check.{Check, begin_check, check_on_done}
use Rattle.peer_proto.specs.declared.guest.VdiAsk.TheVariants as disk_commands
use Rattle.inode.specs.Layout.{Content}

-- a request of a session is there, and has come so far
abbrev pub HasRequest : ℕ → ℕ → Course → StepState → Type 0
HasRequest number req course so_far = tree.get so_far.node.requests req ≡ Some (record { session = number; course = course })

-- the gateway then
abbrev pub gateway_with_touch : ℕ → Work → Status → StepState → Gateway
gateway_with_touch req work status so_far = touched_by req work.work status so_far.node.gateway

-- the work is no more, and has left the session's line
abbrev pub without_ended_work : ℕ → ℕ → Work → Status → StepState → StepState
without_ended_work session req work status so_far =
    queue_left session work.work (with_gateway (without_work req (gateway_with_touch req work status so_far)) so_far)

-- why it is refused
abbrev pub refusal_after_status : ℕ → ℕ → Work → Attempt → Status → StepState → Option Cause
refusal_after_status req number work attempt status so_far =
    refusal_after_attempt (gateway_with_touch req work status so_far) req work.work (work.ended + 1)
    (attempt_with_status number status attempt)

-- what a step is to come to
pub data Outcome : Type 0 where
  ToWork : ObjWork → Outcome
  ToEntry : Entry → Outcome
  ToReply : GuestRsp → Outcome

abbrev pub outcome_of_driver : DriverAct → Outcome
outcome_of_driver (driver_acts.Work work) = ToWork work
outcome_of_driver (driver_acts.Reply reply) = ToReply reply

abbrev pub outcome_of_command : OpAct → Outcome
outcome_of_command (op_acts.Append entry) = ToEntry entry
outcome_of_command (op_acts.Work work) = ToWork work
outcome_of_command (op_acts.Reply reply) = ToReply reply

abbrev pub outcome_of_check : CheckAct → Outcome
outcome_of_check (check_acts.Work work) = ToWork work
outcome_of_check (check_acts.Reply found) = ToReply (Checked found)

-- a work that has had no attempt
abbrev pub new_work : ObjWork → Work
new_work work = record { work = work; ended = 0; stage = Ended }

-- how many zones there are, and whether they are too few
abbrev pub zones_of_members : Node → ℕ
zones_of_members node = zone_count (members_at node.epochs node.peer.epoch)

abbrev pub has_too_few_zones : Work → Node → Bool
has_too_few_zones asked node = nat_lt (zones_of_members node) (zones_for asked.work)

-- the attempt that begins in a node
abbrev pub attempt_in : Work → Node → Attempt
attempt_in asked node =
    next_attempt asked node.sends (record { 0 = node.peer.epoch })
    (targets_in node.epochs node.peer.epoch (oid_of asked.work) (policy_of asked.work))

-- it is open, and its messages are sent
abbrev pub with_open_attempt : ℕ → Work → StepState → StepState
with_open_attempt req asked so_far =
    with_sends
    (map (send_of so_far.node.gateway.me (record { 0 = so_far.node.peer.epoch }) asked.work) (attempt_in asked so_far.node).messages)
    (with_gateway (with_work req (record asked { stage = Open (attempt_in asked so_far.node) }) so_far.node.gateway) so_far)

-- the work waits for members
abbrev pub with_work_held : ℕ → Work → StepState → StepState
with_work_held req asked so_far =
    with_gateway
    (with_work req (record asked { stage = WaitsForMembers (record { 0 = so_far.node.peer.epoch }) }) so_far.node.gateway) so_far

-- it is refused
abbrev pub without_denied_work : ℕ → ℕ → Work → StepState → StepState
without_denied_work session req asked so_far = queue_left session asked.work (with_gateway (without_work req so_far.node.gateway) so_far)

-- what an input tells of a message
abbrev pub IsTold : Input → ℕ → Status → Type 0
IsTold (inputs.Reply rsp) number status = (rsp.number ≡ number) × (status_by rsp.say ≡ status)
IsTold (inputs.Lost lost) number status = (lost ≡ number) × (Lost ≡ status)
IsTold _ number status = ⊥

-- a step on an input begins: what the input alone changes, before a request or a work goes on. A reply to the gateway, and a loss
-- of a message of it, change nothing by themselves
abbrev pub input_received : Input → StepState → StepState
input_received (inputs.Guest req session ask) so_far = so_far
input_received (inputs.Request request) so_far = on_request request so_far
input_received (inputs.Reply rsp) so_far =
    if gateways.gateway_awaits rsp.number so_far.node.gateway
    then so_far
    else recovery_stepped (recovery_steps.recovery_on_reply rsp (recovery_state_of so_far.node)) so_far
input_received (inputs.Lost number) so_far =
    if gateways.gateway_awaits number so_far.node.gateway
    then so_far
    else recovery_stepped (recovery_steps.recovery_on_loss number (recovery_state_of so_far.node)) so_far
input_received (inputs.LogEntry entry) so_far = with_node (entry_read entry so_far.node) so_far
input_received inputs.Put so_far = on_put so_far.node.outbox so_far
input_received inputs.RecoverTick so_far = on_recover_tick so_far
input_received inputs.RetryTick so_far = so_far
input_received (inputs.Back entries) so_far = with_node (on_back entries so_far.node) so_far

-- a course doesn't go on with what its work gave: it waits for no work, or its session has no disk open
abbrev pub IsOverWith : List ℕ → Option Disk → Course → Type 0
IsOverWith bytes disk (Waiting ask) = Unit {0}
IsOverWith bytes None (Driving driver) = Unit {0}
IsOverWith bytes (Some disk) (Driving driver) = drivers.driver_on_done disk.inode bytes driver ≡ None
IsOverWith bytes disk (Commanding op) = op_on_done bytes op ≡ None
IsOverWith bytes disk (Checking check) = check_on_done bytes check ≡ None
IsOverWith bytes disk (DoingWork work) = ⊥
IsOverWith bytes disk (AwaitingDecision entry) = Unit {0}

-- a request that was looked up is there, of this session
abbrev pub IsOfSession : ℕ → Option Request → Type 0
IsOfSession session None = ⊥
IsOfSession session (Some request) = request.session ≡ session

-- what an input must meet by its numbers: a guest's request has one that is free, a reply fits what was asked, and a tick may be made
abbrev pub MeetsNumbers : Input → Node → Type 0
MeetsNumbers (inputs.Guest req session ask) node = IsTrue (not (tree.contains_key node.requests req))
MeetsNumbers (inputs.Request request) node = Unit {0}
MeetsNumbers (inputs.Reply rsp) node = IsTrue (fits_node rsp node)
MeetsNumbers (inputs.Lost number) node = Unit {0}
MeetsNumbers (inputs.LogEntry entry) node = Unit {0}
MeetsNumbers inputs.Put node = Unit {0}
MeetsNumbers inputs.RecoverTick node = IsTrue (may_tick node)
MeetsNumbers inputs.RetryTick node = Unit {0}
MeetsNumbers (inputs.Back entries) node = Unit {0}

-- the input meets that, and the node's requests have one work each. Every step is a chain of changes; of a sound one more is known
abbrev pub IsSoundStep : Input → Node → Type 0
IsSoundStep input node = MeetsNumbers input node × HasOneWorkPerRequest node

-- a gateway is as it was, but for what was touched and for the work of one request, which is the same where it is still there
pub record IsApart (req : ℕ) (old new : Gateway) : Type 0 where
  pub own : new.me ≡ old.me
  pub same : (now : Work) → tree.get new.works req ≡ Some now → (was : Work) × (tree.get old.works req ≡ Some was) × (now.work ≡ was.work)
  pub others : (other : ℕ) → other ≢ req → tree.get new.works other ≡ tree.get old.works other

-- what happens as a node steps on an input, once that was received
module _ (input : Input) (node : Node) where
  -- what a message of a request's open attempt has come to is learned
  pub record LearnsStatus (so_far : StepState) (req number : ℕ) (work : Work) (attempt : Attempt) (status : Status) : Type 0 where
    pub there : tree.get so_far.node.gateway.works req ≡ Some work
    pub open_so : work.stage ≡ Open attempt
    pub awaited : is_awaited_in number work ≡ true
    pub told : IsTold input number status
    pub settled : IsSoundStep input node → is_unanswered status ≡ false
    pub piece : IsSoundStep input node → IsPieceFor work.work status

  -- with it the attempt is over, of a request that is there
  pub record EndsAttempt (so_far : StepState) (session req number : ℕ) (work : Work) (attempt : Attempt) (status : Status)
      (course : Course) : Type 0 where
    pub learns : LearnsStatus so_far req number work attempt status
    pub over : is_over (messages_with_status number status attempt.messages) ≡ true
    pub request : HasRequest session req course so_far

  -- the work of a request is done, which gave these bytes
  pub record EndsWork (so_far : StepState) (session req number : ℕ) (work : Work) (attempt : Attempt) (status : Status)
      (course : Course) (bytes : List ℕ) : Type 0 where
    pub ends : EndsAttempt so_far session req number work attempt status course
    pub done : is_done work.work (messages_with_status number status attempt.messages) ≡ true
    pub given : bytes_given work.work (messages_with_status number status attempt.messages) ≡ bytes

  -- the step begins with a guest's request, whose number is free in a sound step; it is refused, or isn't
  pub record Arrival (so_far : StepState) (session req : ℕ) (ask : Ask) (refusal : Option Cause) : Type 0 where
    pub first : so_far ≡ at_first node
    pub from : input ≡ inputs.Guest req session ask
    pub none : IsSoundStep input node → tree.get so_far.node.requests req ≡ None
    pub refused : request_refusal so_far.node.peer (session_in session so_far).disk ask ≡ refusal

  -- a request without a work takes a step: it begins, its work is done, or the entry that it waits for was read
  pub data RequestSteps (so_far : StepState) (session req : ℕ) : Outcome → StepState → Type 0 where
    DiskBegins : (ask : DiskAsk) (disk : Disk) → HasRequest session req (Waiting ask) so_far
        → (session_in session so_far).disk ≡ Some disk → may_run req (session_in session so_far).queue ≡ true
        → RequestSteps so_far session req (outcome_of_driver (drivers.begin_driver disk ask).act)
        (after_driver_step session req disk (drivers.begin_driver disk ask) so_far)
    DiskGoesOn : (number : ℕ) (work : Work) (attempt : Attempt) (status : Status) (bytes : List ℕ) (driver : Driver) (disk : Disk)
        (step : drivers.DriverStep) → EndsWork so_far session req number work attempt status (Driving driver) bytes
        → (session_in session (without_ended_work session req work status so_far)).disk ≡ Some disk
        → drivers.driver_on_done disk.inode bytes driver ≡ Some step
        → RequestSteps so_far session req (outcome_of_driver step.act)
        (after_driver_step session req disk step (without_ended_work session req work status so_far))
    CommandBegins : (ask : VdiAsk) (step : ops.OpStep) → Arrival so_far session req (asks.Vdi ask) None
        → begin_command so_far.node.me session ask (inode_open (session_in session so_far).disk) ≡ Some step
        → RequestSteps so_far session req (outcome_of_command step.act) (after_command_step session req step so_far)
    CommandGoesOn : (number : ℕ) (work : Work) (attempt : Attempt) (status : Status) (bytes : List ℕ) (op : Op)
        (step : ops.OpStep) → EndsWork so_far session req number work attempt status (Commanding op) bytes
        → op_on_done bytes op ≡ Some step
        → RequestSteps so_far session req (outcome_of_command step.act)
        (after_command_step session req step (without_ended_work session req work status so_far))
    -- the entry is decided by the entries before it; by now the node has read it
    CommandDecided : (entry : Entry) (op : Op) (step : ops.OpStep) → input ≡ inputs.LogEntry entry
        → so_far.node.peer ≡ (entry_read entry node).peer → HasRequest session req (Commanding op) so_far
        → waits_for_entry entry (Commanding op) ≡ true
        → on_decision (effects_of so_far.node.peer) (inode_open (session_in session so_far).disk) (decision_on entry node.peer) op
        ≡ Some step
        → RequestSteps so_far session req (outcome_of_command step.act) (after_command_step session req step so_far)
    CheckBegins : (inode : Content) → Arrival so_far session req (asks.Vdi disk_commands.Check) None
        → inode_open (session_in session so_far).disk ≡ Some inode
        → RequestSteps so_far session req (outcome_of_check (begin_check inode).act)
        (with_sole_request session req (Checking (begin_check inode).check) so_far)
    CheckGoesOn : (number : ℕ) (work : Work) (attempt : Attempt) (status : Status) (bytes : List ℕ) (check : Check)
        (step : checks.CheckStep) → EndsWork so_far session req number work attempt status (Checking check) bytes
        → check_on_done bytes check ≡ Some step
        → RequestSteps so_far session req (outcome_of_check step.act)
        (with_sole_request session req (Checking step.check) (without_ended_work session req work status so_far))
    ObjectBegins : (asked : ObjWork) → Arrival so_far session req (asks.Object asked) None
        → RequestSteps so_far session req (ToWork asked) (with_sole_request session req (DoingWork asked) so_far)
    ObjectIsDone : (number : ℕ) (work : Work) (attempt : Attempt) (status : Status) (bytes : List ℕ) (asked : ObjWork)
        → EndsWork so_far session req number work attempt status (DoingWork asked) bytes
        → RequestSteps so_far session req (ToReply (work_reply asked bytes)) (without_ended_work session req work status so_far)
    EntryBegins : (entry : Entry) → Arrival so_far session req (asks.Entry entry) None
        → RequestSteps so_far session req (ToEntry entry) (with_sole_request session req (AwaitingDecision entry) so_far)
    EntryDecided : (entry wanted : Entry) → input ≡ inputs.LogEntry entry
        → so_far.node.peer ≡ (entry_read entry node).peer → HasRequest session req (AwaitingDecision wanted) so_far
        → waits_for_entry entry (AwaitingDecision wanted) ≡ true
        → RequestSteps so_far session req (ToReply (decision_reply (decision_on entry node.peer))) so_far

  -- a work's turn has come: that of a step at once, the first that waits in its line, or the first that may be tried again
  pub data WorkIsNext (so_far : StepState) (session req : ℕ) : Work → StepState → Type 0 where
    AtOnce : (work : ObjWork) (moved : StepState) → RequestSteps so_far session req (ToWork work) moved
        → may_open_work (session_in session moved).inode_queue work ≡ true
        → WorkIsNext so_far session req (new_work work)
        (with_inode_queue session (queue_with_open (session_in session moved).inode_queue req work) moved)
    InTurn : (work : ObjWork) (later : List lines.Waiting) → (session_in session so_far).inode_queue.current ≡ None
        → (session_in session so_far).inode_queue.waiting ≡ record { req = req; work = work } ∷ later
        → WorkIsNext so_far session req (new_work work)
        (with_inode_queue session (record { current = Some req; waiting = later }) so_far)
    Again : (asked : Work) (course : Course) → input ≡ inputs.RetryTick
        → gateways.next_try (record { 0 = so_far.node.peer.epoch }) so_far.node.gateway ≡ Some (req, asked)
        → tree.get so_far.node.gateway.works req ≡ Some asked → HasRequest session req course so_far
        → WorkIsNext so_far session req asked so_far
    -- and one whose request isn't there
    AgainAlone : (asked : Work) → input ≡ inputs.RetryTick
        → gateways.next_try (record { 0 = so_far.node.peer.epoch }) so_far.node.gateway ≡ Some (req, asked)
        → tree.get so_far.node.gateway.works req ≡ Some asked → tree.get so_far.node.requests req ≡ None
        → WorkIsNext so_far session req asked so_far

  -- one effect on the node and the outputs
  pub data Change (so_far : StepState) : StepState → Type 0 where
    -- what a message came to is known, and others are unanswered
    Marks : (req number : ℕ) (work : Work) (attempt : Attempt) (status : Status) → LearnsStatus so_far req number work attempt status
        → is_over (messages_with_status number status attempt.messages) ≡ false
        → Change so_far (with_gateway (with_work req (record work { stage = Open (attempt_with_status number status attempt) })
        (gateway_with_touch req work status so_far)) so_far)
    -- an attempt has failed, and the work will be tried again
    Fails : (session req number : ℕ) (work : Work) (attempt : Attempt) (status : Status) (course : Course)
        → EndsAttempt so_far session req number work attempt status course
        → is_done work.work (messages_with_status number status attempt.messages) ≡ false
        → refusal_after_status req number work attempt status so_far ≡ None
        → Change so_far (with_gateway (with_work req (record work { ended = work.ended + 1; stage = Ended })
        (gateway_with_touch req work status so_far)) so_far)
    -- a work is done with which its request doesn't go on
    Stops : (session req number : ℕ) (work : Work) (attempt : Attempt) (status : Status) (course : Course) (bytes : List ℕ)
        → EndsWork so_far session req number work attempt status course bytes
        → IsOverWith bytes (session_in session (without_ended_work session req work status so_far)).disk course
        → Change so_far (without_ended_work session req work status so_far)
    -- a request is refused for its work
    Refuses : (session req number : ℕ) (work : Work) (attempt : Attempt) (status : Status) (course : Course) (cause : Cause)
        → EndsAttempt so_far session req number work attempt status course
        → is_done work.work (messages_with_status number status attempt.messages) ≡ false
        → refusal_after_status req number work attempt status so_far ≡ Some cause
        → Change so_far (course_refused session req cause course (without_ended_work session req work status so_far))
    -- an attempt begins
    Opens : (session req : ℕ) (asked : Work) (lined : StepState) → WorkIsNext so_far session req asked lined
        → has_too_few_zones asked lined.node ≡ false
        → Change so_far (with_open_attempt req asked lined)
    -- or has to wait for members
    Holds : (session req : ℕ) (asked : Work) (lined : StepState) → WorkIsNext so_far session req asked lined
        → has_too_few_zones asked lined.node ≡ true → is_touched req lined.node.gateway ≡ true
        → Change so_far (with_work_held req asked lined)
    -- or its request, if it is there, is refused for want of them; in a sound step it is there, and of the session
    Denies : (session req : ℕ) (asked : Work) (lined : StepState) (request : Option Request) → WorkIsNext so_far session req asked lined
        → has_too_few_zones asked lined.node ≡ true → is_touched req lined.node.gateway ≡ false
        → tree.get lined.node.requests req ≡ request → (IsSoundStep input node → IsOfSession session request)
        → Change so_far (option_map_or
        (λ (request : Request). course_refused request.session req
        (Halt (zones_of_members lined.node) (zones_for asked.work)) request.course (without_denied_work session req asked lined))
        request (without_denied_work session req asked lined))
    -- a work whose request isn't there goes on in the gateway alone, apart from other works; no node whose requests have one work each
    -- has such a work
    Strays : (req : ℕ) (work : Work) (gateway : Gateway) → tree.get so_far.node.gateway.works req ≡ Some work
        → tree.get so_far.node.requests req ≡ None → IsApart req so_far.node.gateway gateway
        → Change so_far (with_gateway gateway so_far)
    -- a work waits in its session's line
    Lines : (session req : ℕ) (work : ObjWork) (moved : StepState) → RequestSteps so_far session req (ToWork work) moved
        → may_open_work (session_in session moved).inode_queue work ≡ false
        → Change so_far (with_inode_queue session (queue_with_waiting (session_in session moved).inode_queue req work) moved)
    -- a command's entry stands in the outbox
    Appends : (session req : ℕ) (entry : Entry) (moved : StepState) → RequestSteps so_far session req (ToEntry entry) moved
        → Change so_far (with_outbox_entry entry moved)
    -- a request ends with its reply
    Replies : (session req : ℕ) (reply : GuestRsp) (moved : StepState) → RequestSteps so_far session req (ToReply reply) moved
        → Change so_far (request_ended session req reply moved)
    -- a read or write comes, and stands behind the session's others
    Arrives : (session req : ℕ) (ask : DiskAsk) (disk : Disk) → Arrival so_far session req (asks.Disk ask) None
        → (session_in session so_far).disk ≡ Some disk
        → Change so_far (with_session session (record (session_in session so_far) {
          queue = (session_in session so_far).queue ++ queued_as disk.inode.spec.shift req ask ∷ [];
        }) (with_course session req (Waiting ask) so_far))
    -- a request is refused as it comes
    Rejects : (session req : ℕ) (ask : Ask) (cause : Cause) → Arrival so_far session req ask (Some cause)
        → Change so_far (with_guest_reply req (Refused cause) so_far)
    -- the end of the recovery goes into the outbox
    Recovers : is_due so_far.node ≡ true → Change so_far (with_recovered so_far)

  -- a chain of changes, one after the other
  pub data Leads (first : StepState) : StepState → Type 0 where
    Still : Leads first first
    Then : {so_far next : StepState} → Leads first so_far → Change so_far next → Leads first next
