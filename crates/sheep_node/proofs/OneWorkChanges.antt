-- Every change leaves works with their requests.
use Rattle.std.proofs.Common.{◌≡◌, ◌≢◌, ℕ, ◌==◌, ◌+◌, ◌++◌, Bool, true, false, ◌&&◌, List, [], ◌∷◌, Contains, Option, Some, None, is_none, unwrap_or, IfSome, refl, sym, ap, subst, ◌∙◌}
use Rattle.std.specs.Ordering.{nat_cmp}
use Rattle.std.specs.FinMap as tree
use Rattle.object_id.specs.declared.cause.Cause.{Cause}
use Rattle.object_id.specs.declared.cause.Cause.TheVariants.{Halt}
use Rattle.object_id.specs.declared.entry.Entry.{Entry}
use Rattle.object_id.specs.Same.{is_same_entry}
use Rattle.peer_proto.specs.declared.guest.GuestRsp.{GuestRsp}
use Rattle.peer_proto.specs.declared.guest.GuestRsp.TheVariants.{Refused}
use Rattle.peer_proto.specs.declared.work.ObjWork.{ObjWork}
use Rattle.peer_service.specs.State.{effects_of}
use Rattle.peer_service.specs.LogReading.{decision_on}
use Rattle.gateway.specs.declared.message.Status.{Status}
use Rattle.gateway.specs.Work.{zones_for}
use Rattle.gateway.specs.Attempt.{Attempt}
use Rattle.gateway.specs.State.{Work, Open, Ended, WaitsForMembers}
use Rattle.gateway.specs.Step.{with_work, attempt_with_status}
use Rattle.gateway_queue.specs.Queue.{queue_without}
use Rattle.guest_driver.specs.declared.disk.Disk.{Disk}
use Rattle.guest_driver.specs.declared.act.DriverAct.{DriverAct}
use Rattle.guest_driver.specs.declared.act.DriverAct.TheVariants as driver_acts
use Rattle.guest_driver.specs.Driver as drivers
use Rattle.guest_driver.specs.Driver.{Driver}
use Rattle.guest_driver.specs.InodeQueue as lines
use Rattle.guest_driver.specs.InodeQueue.{InodeQueue, queue_with_open, queue_with_waiting, queue_after_end}
use Rattle.vdi_ops.specs.declared.act.OpAct.{OpAct}
use Rattle.vdi_ops.specs.declared.act.OpAct.TheVariants as op_acts
use Rattle.vdi_ops.specs.declared.end.OpEnd.{OpEnd}
use Rattle.vdi_ops.specs.Op as ops
use Rattle.vdi_ops.specs.Op.{Op, OpStage, Asked, Working, Publishing, Answered, disk_change, entry_wanted_at, entry_wanted, IsAwaitedAtOpStage, IsAwaitedByCommand}
use Rattle.vdi_ops.specs.Steps.{begin_command, op_on_done, on_decision, on_refusal}
use Rattle.vdi_ops.proofs.StepLemmas.{begin_awaited, done_awaited, decision_awaited}
use Rattle.sheep_node.specs.declared.input.Input.{Input}
use Rattle.sheep_node.specs.declared.course.Course.{Course}
use Rattle.sheep_node.specs.declared.course.Request.{Request}
use Rattle.sheep_node.specs.declared.session.Session.{Session}
use Rattle.sheep_node.specs.declared.course.Course.TheVariants.{Waiting, Driving, Commanding, Checking, DoingWork, AwaitingDecision}
use Rattle.sheep_node.specs.State.{Node, new_session}
use Rattle.sheep_node.specs.StepState.{StepState, at_first, with_optional_entry, with_gateway, session_in, request_ended, with_sole_request}
use Rattle.sheep_node.specs.RequestWorks.{command_refused, course_refused}
use Rattle.sheep_node.specs.Courses.{after_driver_step, disk_after, inode_open, after_command_step}
use Rattle.sheep_node.specs.Guests.{queued_as}
use Rattle.sheep_node.specs.AwaitedEntry.{waits_for_entry}
use Rattle.std.proofs.lemmas.Bool.{eq-eqb, eqb-true, and_parts}
use Rattle.std.specs.Option.{option_map_or}
use Rattle.proof_tools.proofs.Lists.{Contains-first, Contains-nil}
use Rattle.proof_tools.proofs.FiniteMaps.{get-insert_same, get-remove_same}
use Rattle.sheep_node.specs.OneWork.{may_work, may_work_at, may_work_of, waiting_in, AreOfDifferentRequests, HaveOneWorkPerRequest, HasNoWork}
use Rattle.sheep_node.specs.Changes as changes
use Rattle.sheep_node.specs.Changes.{HasRequest, IsSoundStep, LearnsStatus, EndsAttempt, gateway_with_touch, without_ended_work, Outcome, ToWork, ToEntry, ToReply, outcome_of_driver, outcome_of_command, RequestSteps, DiskBegins, DiskGoesOn, CommandBegins, CommandGoesOn, CommandDecided, new_work, WorkIsNext, AtOnce, InTurn, Again, AgainAlone, with_open_attempt, with_work_held, without_denied_work, attempt_in, zones_of_members, input_received, Change, CheckBegins, CheckGoesOn, ObjectBegins, ObjectIsDone, EntryBegins, EntryDecided, outcome_of_check}
use Rattle.sheep_node.proofs.OneWorkParts.{driven_session, free_session, driven_insert, driven_queued, driven_taken, free_taken, driven_removed, driven_course, driven_gone, free_at, free_removed}
use Rattle.disk_check.specs.declared.act.CheckAct.{CheckAct}
use Rattle.disk_check.specs.declared.act.CheckAct.TheVariants as check_acts
use Rattle.disk_check.specs.Check.{Check, begin_check}
use Rattle.sheep_node.proofs.ReceivedInputs.{received_keeps}

abbrev pub StepHasOneWork : StepState → Type 0
StepHasOneWork so_far = HaveOneWorkPerRequest so_far.node.gateway.works so_far.node.requests so_far.node.sessions

abbrev pub HasNoWorkIn : ℕ → StepState → Type 0
HasNoWorkIn req so_far = HasNoWork req so_far.node.gateway.works so_far.node.sessions

-- ---- a step that a request takes

-- where a work is to begin the request may have one
abbrev pub MayComeTo : Outcome → Course → Type 0
MayComeTo (ToWork work) course = may_work course ≡ true
MayComeTo (ToEntry entry) course = Unit {0}
MayComeTo (ToReply reply) course = Unit {0}

-- a request that took a step, and has no work
pub record HasSteppedFree (session req : ℕ) (next : Outcome) (so_far : StepState) : Type 0 where
  pub good : StepHasOneWork so_far
  pub free : HasNoWorkIn req so_far
  pub course : Course
  pub there : HasRequest session req course so_far
  pub may : MayComeTo next course

may_drive : (act : DriverAct) (driver : Driver) → MayComeTo (outcome_of_driver act) (Driving driver)
may_drive (driver_acts.Work work) driver = refl
may_drive (driver_acts.Reply reply) driver = tt

driven_moved : (session req : ℕ) (disk : Disk) (step : drivers.DriverStep) (so_far : StepState) → HasNoWorkIn req so_far → StepHasOneWork so_far
    → HasSteppedFree session req (outcome_of_driver step.act) (after_driver_step session req disk step so_far)
driven_moved session req disk step so_far free good =
    let works = so_far.node.gateway.works in
    let after = record (session_in session so_far) { disk = Some (record disk { inode = step.inode }) } in
    let request : Request = record { session = session; course = Driving step.driver } in
    let still = free_session req works so_far.node.sessions session after refl free in
    record {
      good = driven_course works so_far.node.requests (tree.insert so_far.node.sessions session after) req still
          (driven_session works so_far.node.requests so_far.node.sessions session after refl good) request;
      free = still;
      course = Driving step.driver;
      there = get-insert_same so_far.node.requests req request;
      may = may_drive step.act step.driver;
    }

-- a command whose act is a work waits for no entry
no_entry : (work : ObjWork) (stage : OpStage) → IsAwaitedAtOpStage (op_acts.Work work) stage → is_none (entry_wanted_at stage) ≡ true
no_entry work (Asked entry) awaited = absurd (cc (awaited))
no_entry work (Working vid task) awaited = refl
no_entry work (Publishing entry opened) awaited = absurd (cc (awaited))
no_entry work (Answered change) awaited = refl

may_command : (act : OpAct) (op : Op) → IsAwaitedAtOpStage act op.stage → MayComeTo (outcome_of_command act) (Commanding op)
may_command (op_acts.Append entry) op awaited = tt
may_command (op_acts.Work work) op awaited = no_entry work op.stage awaited
may_command (op_acts.Reply reply) op awaited = tt

command_moved : (session req : ℕ) (step : ops.OpStep) (so_far : StepState) → IsAwaitedByCommand step → HasNoWorkIn req so_far
    → StepHasOneWork so_far → HasSteppedFree session req (outcome_of_command step.act) (after_command_step session req step so_far)
command_moved session req step so_far awaited free good =
    let works = so_far.node.gateway.works in
    let request : Request = record { session = session; course = Commanding step.op } in
    let after = record (session_in session so_far) {
      disk = disk_after (disk_change step) (session_in session so_far).disk;
      command = Some req;
    } in
    record {
      good = driven_session works (tree.insert so_far.node.requests req request) so_far.node.sessions session after refl
          (driven_course works so_far.node.requests so_far.node.sessions req free good request);
      free = free_session req works so_far.node.sessions session after refl free;
      course = Commanding step.op;
      there = get-insert_same so_far.node.requests req request;
      may = may_command step.act step.op awaited;
    }

may_check : (act : CheckAct) (check : Check) → MayComeTo (outcome_of_check act) (Checking check)
may_check (check_acts.Work work) check = refl
may_check (check_acts.Reply found) check = tt

sole_moved : (session req : ℕ) (next : Outcome) (course : Course) (so_far : StepState) → MayComeTo next course → HasNoWorkIn req so_far
    → StepHasOneWork so_far → HasSteppedFree session req next (with_sole_request session req course so_far)
sole_moved session req next course so_far may free good =
    let works = so_far.node.gateway.works in
    let request : Request = record { session = session; course = course } in
    let after = record (session_in session so_far) { command = Some req } in
    record {
      good = driven_session works (tree.insert so_far.node.requests req request) so_far.node.sessions session after refl
          (driven_course works so_far.node.requests so_far.node.sessions req free good request);
      free = free_session req works so_far.node.sessions session after refl free;
      course = course;
      there = get-insert_same so_far.node.requests req request;
      may = may;
    }

-- a request whose work is no more
pub freed_good : {input : Input} {node : Node} → (session req number : ℕ) (work : Work) (attempt : Attempt) (status : Status) (so_far : StepState)
    → LearnsStatus input node so_far req number work attempt status → StepHasOneWork so_far
    → StepHasOneWork (without_ended_work session req work status so_far) × HasNoWorkIn req (without_ended_work session req work status so_far)
freed_good session req number work attempt status so_far learns good =
    let works = tree.remove so_far.node.gateway.works req in
    let after = record (session_in session so_far) { inode_queue = queue_after_end (session_in session so_far).inode_queue work.work } in (
      driven_session works so_far.node.requests so_far.node.sessions session after refl
          (driven_removed so_far.node.gateway.works so_far.node.requests so_far.node.sessions req good),
      free_session req works so_far.node.sessions session after refl
          (free_removed so_far.node.gateway.works so_far.node.requests so_far.node.sessions req work learns.there good),
    )

pub wanted_never : (entry : Entry) (course : Course) → waits_for_entry entry course ≡ true → may_work course ≡ false
wanted_never entry (Waiting ask) waits = refl
wanted_never entry (Driving driver) waits = absurd (cc (waits))
wanted_never entry (Commanding op) waits = by_entry (entry_wanted op) waits
  where
    by_entry : (o : Option Entry) → option_map_or (λ (wanted : Entry). is_same_entry wanted entry) o false ≡ true → is_none o ≡ false
    by_entry None waits = absurd (cc (waits))
    by_entry (Some wanted) waits = refl
wanted_never entry (Checking check) waits = absurd (cc (waits))
wanted_never entry (DoingWork work) waits = absurd (cc (waits))
wanted_never entry (AwaitingDecision wanted) waits = refl

pub free_in : (req : ℕ) (so_far : StepState) → may_work_at (tree.get so_far.node.requests req) ≡ false → StepHasOneWork so_far → HasNoWorkIn req so_far
free_in req so_far never good = free_at so_far.node.gateway.works so_far.node.requests so_far.node.sessions req never good

pub awaited_of : (one : Option ops.OpStep) (step : ops.OpStep) → IfSome one IsAwaitedByCommand → one ≡ Some step → IsAwaitedByCommand step
awaited_of one step awaited is = subst (λ (o : Option ops.OpStep). IfSome o IsAwaitedByCommand) is awaited

pub steps_free : {input : Input} {node : Node} → (so_far : StepState) (session req : ℕ) (next : Outcome) (moved : StepState) → RequestSteps input node so_far session req next moved → IsSoundStep input node → StepHasOneWork so_far → HasSteppedFree session req next moved
steps_free so_far session req next moved (DiskBegins ask disk there on may) sound good =
    driven_moved session req disk (drivers.begin_driver disk ask) so_far (free_in req so_far (ap may_work_at there) good) good
steps_free so_far session req next moved (DiskGoesOn number work attempt status bytes driver disk step ends on is) sound good =
    let (now, free) = freed_good session req number work attempt status so_far ends.ends.learns good in
    driven_moved session req disk step (without_ended_work session req work status so_far) free now
steps_free so_far session req next moved (CommandBegins ask step arrival is) sound good =
    let disk = inode_open (session_in session so_far).disk in
    command_moved session req step so_far
    (awaited_of (begin_command so_far.node.me session ask disk) step (begin_awaited so_far.node.me session ask disk) is)
    (free_in req so_far (ap may_work_at (arrival.none sound)) good) good
steps_free so_far session req next moved (CommandGoesOn number work attempt status bytes op step ends is) sound good =
    let (now, free) = freed_good session req number work attempt status so_far ends.ends.learns good in
    command_moved session req step (without_ended_work session req work status so_far)
    (awaited_of (op_on_done bytes op) step (done_awaited bytes op) is) free now
steps_free {input} {node} so_far session req next moved (CommandDecided entry op step from read there waits is) sound good =
    command_moved session req step so_far
    (awaited_of (on_decision (effects_of so_far.node.peer) (inode_open (session_in session so_far).disk) (decision_on entry node.peer) op) step
    (decision_awaited (effects_of so_far.node.peer) (inode_open (session_in session so_far).disk) (decision_on entry node.peer) op) is)
    (free_in req so_far (ap may_work_at there ∙ wanted_never entry (Commanding op) waits) good) good
steps_free so_far session req next moved (CheckBegins inode arrival on) sound good =
    let step = begin_check inode in
    sole_moved session req (outcome_of_check step.act) (Checking step.check) so_far (may_check step.act step.check)
    (free_in req so_far (ap may_work_at (arrival.none sound)) good) good
steps_free so_far session req next moved (CheckGoesOn number work attempt status bytes check step ends is) sound good =
    let (now, free) = freed_good session req number work attempt status so_far ends.ends.learns good in
    sole_moved session req (outcome_of_check step.act) (Checking step.check) (without_ended_work session req work status so_far)
    (may_check step.act step.check) free now
steps_free so_far session req next moved (ObjectBegins asked arrival) sound good =
    sole_moved session req (ToWork asked) (DoingWork asked) so_far refl (free_in req so_far (ap may_work_at (arrival.none sound)) good) good
steps_free so_far session req next moved (ObjectIsDone number work attempt status bytes asked ends) sound good =
    let (now, free) = freed_good session req number work attempt status so_far ends.ends.learns good in
    record { good = now; free = free; course = DoingWork asked; there = ends.ends.request; may = tt }
steps_free so_far session req next moved (EntryBegins entry arrival) sound good =
    sole_moved session req (ToEntry entry) (AwaitingDecision entry) so_far tt
    (free_in req so_far (ap may_work_at (arrival.none sound)) good) good
steps_free so_far session req next moved (EntryDecided entry wanted from read there waits) sound good = record {
  good = good;
  free = free_in req so_far (ap may_work_at there) good;
  course = AwaitingDecision wanted;
  there = there;
  may = tt;
}

-- ---- a work whose turn has come

-- the request may have a work, and none waits in a line
pub record MayOpenWork (session req : ℕ) (so_far : StepState) : Type 0 where
  pub good : StepHasOneWork so_far
  pub out : (number : ℕ) (waiting : lines.Waiting) → Contains (waiting_in number so_far.node.sessions) waiting → waiting.req ≢ req
  pub course : Course
  pub there : HasRequest session req course so_far
  pub may : may_work course ≡ true

-- one of a session that may have a work
record MayWork (session req : ℕ) (so_far : StepState) : Type 0 where
  course : Course
  there : HasRequest session req course so_far
  may : may_work course ≡ true

may_work_in : (session req : ℕ) (so_far : StepState) (request : Option Request) → tree.get so_far.node.requests req ≡ request
    → may_work_of session request ≡ true → MayWork session req so_far
may_work_in session req so_far None is may = absurd (cc (may))
may_work_in session req so_far (Some request) is may =
    let (own, so) = and_parts (request.session == session) (may_work request.course) may in
    let same : request.session ≡ session = eqb-true request.session session own in
    record { course = request.course; there = is ∙ (λ i. Some (record { session = same i; course = request.course })); may = so }

-- a request with an open work has none that waits
open_out : (req : ℕ) (work : Work) (so_far : StepState) → tree.get so_far.node.gateway.works req ≡ Some work → StepHasOneWork so_far
    → (number : ℕ) (waiting : lines.Waiting) → Contains (waiting_in number so_far.node.sessions) waiting → waiting.req ≢ req
open_out req work so_far there good number waiting waits same =
    let none : tree.get so_far.node.gateway.works req ≡ None
    = ap (tree.get so_far.node.gateway.works) (sym same) ∙ good.waiting_free number waiting waits in
    absurd (cc (there, none))

-- and it is there
pub never_alone : (req : ℕ) (work : Work) (so_far : StepState) → tree.get so_far.node.gateway.works req ≡ Some work → tree.get so_far.node.requests req ≡ None
    → StepHasOneWork so_far → ⊥
never_alone req work so_far there none good =
    let may = good.open_works req work there in
    let never = ap may_work_at none in
    cc (may, never)

pub comes_free : {input : Input} {node : Node} → (so_far : StepState) (session req : ℕ) (asked : Work) (lined : StepState) → WorkIsNext input node so_far session req asked lined → IsSoundStep input node → StepHasOneWork so_far → MayOpenWork session req lined
comes_free so_far session req asked lined (AtOnce work moved steps begins) sound good =
    let m = steps_free so_far session req (ToWork work) moved steps sound good in
    let inode_queue = (session_in session moved).inode_queue in
    let after = record (session_in session moved) { inode_queue = queue_with_open inode_queue req work } in
    record {
      good = driven_session moved.node.gateway.works moved.node.requests moved.node.sessions session after refl m.good;
      out = (free_session req moved.node.gateway.works moved.node.sessions session after refl m.free).out;
      course = m.course;
      there = m.there;
      may = m.may;
    }
comes_free so_far session req asked lined (InTurn work later none is) sound good =
    let first : lines.Waiting = record { req = req; work = work } in
    let after = record (session_in session so_far) { inode_queue = record { current = Some req; waiting = later } } in
    let there : Contains (waiting_in session so_far.node.sessions) first
    = subst (λ (list : List lines.Waiting). Contains list first) (sym is) (Contains-first first first later refl) in
    let attempt_with_status = may_work_in session req so_far (tree.get so_far.node.requests req) refl (good.waiting_works session first there) in
    record {
      good = driven_taken so_far.node.gateway.works so_far.node.requests so_far.node.sessions session after first later is refl good;
      out = (free_taken so_far.node.gateway.works so_far.node.requests so_far.node.sessions session after first later is refl good).out;
      course = attempt_with_status.course;
      there = attempt_with_status.there;
      may = attempt_with_status.may;
    }
comes_free so_far session req asked lined (Again work course from next there request) sound good = record {
  good = good;
  out = open_out req asked so_far there good;
  course = course;
  there = request;
  may = sym (ap may_work_at request) ∙ good.open_works req asked there;
}
comes_free so_far session req asked lined (AgainAlone work from next there none) sound good = absurd (never_alone req asked so_far there none good)

-- ---- the end of a request

pub ended_good : (session req : ℕ) (reply : GuestRsp) (so_far : StepState) → HasNoWorkIn req so_far → StepHasOneWork so_far → StepHasOneWork (request_ended session req reply so_far)
unfolding request_ended
ended_good session req reply so_far free good =
    driven_session so_far.node.gateway.works (tree.remove so_far.node.requests req) so_far.node.sessions session
    (record (session_in session so_far) { queue = queue_without req (session_in session so_far).queue; command = None }) refl
    (driven_gone so_far.node.gateway.works so_far.node.requests so_far.node.sessions req free good)

command_refused_good : (session req : ℕ) (end : Option OpEnd) (so_far : StepState) → HasNoWorkIn req so_far → StepHasOneWork so_far → StepHasOneWork (command_refused session req end so_far)
command_refused_good session req None so_far free good = good
command_refused_good session req (Some end) so_far free good = ended_good session req end.reply (with_optional_entry end.unlock so_far) free good

pub course_refused_good : (session req : ℕ) (cause : Cause) (course : Course) (so_far : StepState) → HasNoWorkIn req so_far → StepHasOneWork so_far
    → StepHasOneWork (course_refused session req cause course so_far)
course_refused_good session req cause (Waiting ask) so_far free good = good
course_refused_good session req cause (Driving driver) so_far free good = ended_good session req (Refused cause) so_far free good
course_refused_good session req cause (Commanding op) so_far free good = command_refused_good session req (on_refusal cause op) so_far free good
course_refused_good session req cause (Checking check) so_far free good = ended_good session req (Refused cause) so_far free good
course_refused_good session req cause (DoingWork work) so_far free good = ended_good session req (Refused cause) so_far free good
course_refused_good session req cause (AwaitingDecision entry) so_far free good = good

request_refused_good : (req : ℕ) (cause : Cause) (request : Option Request) (so_far : StepState) → HasNoWorkIn req so_far → StepHasOneWork so_far
    → StepHasOneWork (option_map_or (λ (request : Request). course_refused request.session req cause request.course so_far) request so_far)
request_refused_good req cause None so_far free good = good
request_refused_good req cause (Some request) so_far free good = course_refused_good request.session req cause request.course so_far free good

denied_good : (session req : ℕ) (asked : Work) (so_far : StepState) → MayOpenWork session req so_far
    → StepHasOneWork (without_denied_work session req asked so_far) × HasNoWorkIn req (without_denied_work session req asked so_far)
denied_good session req asked so_far lined =
    let works = tree.remove so_far.node.gateway.works req in
    let after = record (session_in session so_far) { inode_queue = queue_after_end (session_in session so_far).inode_queue asked.work } in (
      driven_session works so_far.node.requests so_far.node.sessions session after refl
          (driven_removed so_far.node.gateway.works so_far.node.requests so_far.node.sessions req lined.good),
      free_session req works so_far.node.sessions session after refl
          (record { idle = get-remove_same so_far.node.gateway.works req; out = lined.out }),
    )

-- ---- every change

-- a work in the place of one that is open
open_still : (req : ℕ) (work now : Work) (status : Status) (so_far : StepState) → tree.get so_far.node.gateway.works req ≡ Some work → StepHasOneWork so_far
    → StepHasOneWork (with_gateway (with_work req now (gateway_with_touch req work status so_far)) so_far)
open_still req work now status so_far there good =
    driven_insert so_far.node.gateway.works so_far.node.requests so_far.node.sessions req now (good.open_works req work there)
    (open_out req work so_far there good) good

none_there : (q : ℕ) → waiting_in q tree.empty ≡ []
none_there q = ap (λ (o : Option Session). (unwrap_or o new_session).inode_queue.waiting) (tree.get-empty {X = Session} nat_cmp q)

pub none_good : HaveOneWorkPerRequest tree.empty tree.empty tree.empty
none_good = record {
  open_works = λ req work there. let none = tree.get-empty {X = Work} nat_cmp req in absurd (cc (there, none));
  waiting_works = λ number waiting there. absurd (Contains-nil waiting (subst (λ (list : List lines.Waiting). Contains list waiting) (none_there number) there));
  waiting_free = λ number waiting there. absurd (Contains-nil waiting (subst (λ (list : List lines.Waiting). Contains list waiting) (none_there number) there));
  apart = λ number. subst AreOfDifferentRequests (sym (none_there number)) tt;
}

pub change_keeps_one_work : {input : Input} {node : Node} → (so_far next : StepState) → Change input node so_far next → IsSoundStep input node → StepHasOneWork so_far → StepHasOneWork next
change_keeps_one_work so_far next (changes.Marks req number work attempt status learns over) sound good =
    open_still req work (record work { stage = Open (attempt_with_status number status attempt) }) status so_far learns.there good
change_keeps_one_work so_far next (changes.Fails session req number work attempt status course ends done why) sound good =
    open_still req work (record work { ended = work.ended + 1; stage = Ended }) status so_far ends.learns.there good
change_keeps_one_work so_far next (changes.Stops session req number work attempt status course bytes ends over) sound good =
    (freed_good session req number work attempt status so_far ends.ends.learns good).0
change_keeps_one_work so_far next (changes.Refuses session req number work attempt status course cause ends done why) sound good =
    let (now, free) = freed_good session req number work attempt status so_far ends.learns good in
    course_refused_good session req cause course (without_ended_work session req work status so_far) free now
change_keeps_one_work so_far next (changes.Opens session req asked lined comes short) sound good =
    let l = comes_free so_far session req asked lined comes sound good in
    driven_insert lined.node.gateway.works lined.node.requests lined.node.sessions req (record asked { stage = Open (attempt_in asked lined.node) }) (ap may_work_at l.there ∙ l.may) l.out l.good
change_keeps_one_work so_far next (changes.Holds session req asked lined comes short touched) sound good =
    let l = comes_free so_far session req asked lined comes sound good in
    driven_insert lined.node.gateway.works lined.node.requests lined.node.sessions req (record asked { stage = WaitsForMembers (record { 0 = lined.node.peer.epoch }) }) (ap may_work_at l.there ∙ l.may) l.out l.good
change_keeps_one_work so_far next (changes.Denies session req asked lined request comes short untouched there own) sound good =
    let (now, free) = denied_good session req asked lined (comes_free so_far session req asked lined comes sound good) in
    request_refused_good req (Halt (zones_of_members lined.node) (zones_for asked.work)) request (without_denied_work session req asked lined) free now
change_keeps_one_work so_far next (changes.Strays req work gateway there none apart) sound good = absurd (never_alone req work so_far there none good)
change_keeps_one_work so_far next (changes.Lines session req work moved steps waits) sound good =
    let m = steps_free so_far session req (ToWork work) moved steps sound good in
    let inode_queue = (session_in session moved).inode_queue in
    driven_queued moved.node.gateway.works moved.node.requests moved.node.sessions session (record (session_in session moved) { inode_queue = queue_with_waiting inode_queue req work })
    (record { req = req; work = work }) refl
    (ap (may_work_of session) m.there ∙ ap (λ (b : Bool). b && may_work m.course) (eq-eqb session session refl) ∙ m.may)
    m.free m.good
change_keeps_one_work so_far next (changes.Appends session req entry moved steps) sound good = (steps_free so_far session req (ToEntry entry) moved steps sound good).good
change_keeps_one_work so_far next (changes.Replies session req reply moved steps) sound good =
    let m = steps_free so_far session req (ToReply reply) moved steps sound good in
    ended_good session req reply moved m.free m.good
change_keeps_one_work so_far next (changes.Arrives session req ask disk arrival on) sound good =
    let works = so_far.node.gateway.works in
    let request : Request = record { session = session; course = Waiting ask } in
    driven_session works (tree.insert so_far.node.requests req request) so_far.node.sessions session
    (record (session_in session so_far) { queue = (session_in session so_far).queue ++ queued_as disk.inode.spec.shift req ask ∷ [] }) refl
    (driven_course works so_far.node.requests so_far.node.sessions req (free_in req so_far (ap may_work_at (arrival.none sound)) good) good request)
change_keeps_one_work so_far next (changes.Rejects session req ask cause arrival) sound good = good
change_keeps_one_work so_far next (changes.Recovers due) sound good = good

-- a step begins so, on whatever input
pub received_one_work : (input : Input) (node : Node) → StepHasOneWork (at_first node) → StepHasOneWork (input_received input (at_first node))
received_one_work = received_keeps (λ works requests sessions. HaveOneWorkPerRequest works requests sessions) none_good
