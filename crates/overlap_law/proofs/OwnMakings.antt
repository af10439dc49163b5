-- The inode that a command creates is that of the id which it was granted, and what a check writes is the disk's: every change keeps that
-- of the works that are open, and of those that wait in a line.
use Rattle.std.proofs.Common.{◌≡◌, ℕ, true, false, List, [], ◌∷◌, All, Option, Some, None, IfSome, option_map, option_and_then, refl, sym}
use Rattle.std.proofs.Common.{subst}
use Rattle.std.specs.FinMap as tree
use Rattle.std.proofs.lemmas.List.Elements.{All-head}
use Rattle.std.proofs.lemmas.Option.{same_Some}
use Rattle.proof_tools.proofs.FiniteMaps.{get-insert_same}
use Rattle.object_id.specs.declared.entry.Entry.{Entry}
use Rattle.object_id.specs.declared.entry.Entry.TheVariants as entries
use Rattle.object_id.specs.declared.entry.Origin.TheVariants.{Fresh, SnapshotOf, CloneOf}
use Rattle.object_id.specs.declared.node.NodeId.{NodeId}
use Rattle.object_id.specs.declared.oid.Vid.{Vid}
use Rattle.object_id.specs.Oid.{IsVid, vid_of, inode_number}
use Rattle.inode.specs.Layout.{Content}
use Rattle.peer_proto.specs.declared.guest.VdiAsk.{VdiAsk}
use Rattle.peer_proto.specs.declared.work.ObjWork.{ObjWork}
use Rattle.peer_proto.specs.Work.{oid_of}
use Rattle.gateway.specs.Work.{is_making}
use Rattle.guest_driver.specs.declared.act.DriverAct.{DriverAct}
use Rattle.guest_driver.specs.declared.act.DriverAct.TheVariants as driver_acts
use Rattle.guest_driver.specs.declared.disk.Disk.{Disk}
use Rattle.guest_driver.specs.Driver.{DriverStep, begin_driver}
use Rattle.disk_check.specs.declared.act.CheckAct.{CheckAct}
use Rattle.disk_check.specs.declared.act.CheckAct.TheVariants as check_acts
use Rattle.disk_check.specs.Check as checks
use Rattle.disk_check.specs.Check.{Check, CheckStage, CheckStep, Comparing, WritingBack as Rewriting, check_on, begun_check, begin_check}
use Rattle.disk_check.specs.Check.{check_done_at, check_on_done, left_of}
use Rattle.disk_check.specs.Table.{own_indexes}
use Rattle.disk_check.specs.Value.{pieces_in}
use Rattle.vdi_directory.specs.declared.decision.Decision.{Decision}
use Rattle.vdi_directory.specs.declared.decision.Decision.TheVariants as decisions
use Rattle.vdi_directory.specs.declared.effect.Effect.{Effect}
use Rattle.vdi_directory.specs.declared.header.Header.{Header}
use Rattle.vdi_directory.specs.Chains.{chain_of}
use Rattle.vdi_directory.specs.Effects.{header_of}
use Rattle.vdi_ops.specs.declared.act.OpAct.{OpAct}
use Rattle.vdi_ops.specs.declared.act.OpAct.TheVariants as op_acts
use Rattle.vdi_ops.specs.Op.{Task, Opening, WritingBack, Tagging, Copying, Making, OpStage, Asked, Working, Publishing, Answered, Op}
use Rattle.vdi_ops.specs.Op.{OpStep, disk_change}
use Rattle.vdi_ops.specs.Steps.{begin_command, tag_step, copy_step, step_after_grant, step_after_decision, decided_at, on_decision}
use Rattle.vdi_ops.specs.Steps.{task_done, done_at, op_on_done}
use Rattle.sheep_node.specs.declared.course.Course.{Course}
use Rattle.sheep_node.specs.declared.course.Request.{Request}
use Rattle.sheep_node.specs.declared.input.Input.{Input}
use Rattle.sheep_node.specs.declared.session.Session.{Session}
use Rattle.sheep_node.specs.declared.course.Course.TheVariants.{Waiting, Driving, Commanding, Checking, DoingWork, AwaitingDecision}
use Rattle.sheep_node.specs.State.{Node}
use Rattle.sheep_node.specs.StepState.{StepState, at_first, session_in, with_sole_request}
use Rattle.sheep_node.specs.Courses.{after_driver_step, disk_after, after_command_step}
use Rattle.sheep_node.specs.OneWork.{waiting_in, HasNoWork}
use Rattle.sheep_node.specs.Changes.{outcome_of_driver, outcome_of_command, outcome_of_check, without_ended_work, IsSoundStep}
use Rattle.sheep_node.specs.Changes.{input_received, Leads, DiskBegins, DiskGoesOn, CommandBegins, CommandGoesOn, CommandDecided}
use Rattle.sheep_node.specs.Changes.{CheckBegins, CheckGoesOn, ObjectBegins, ObjectIsDone, EntryBegins, EntryDecided}
use Rattle.sheep_node.proofs.AwaitedWorks.{Works}
use Rattle.sheep_node.proofs.OneWorkParts.{Requests, Sessions}
use Rattle.sheep_node.proofs.OneWorkChanges.{StepHasOneWork, HasNoWorkIn, steps_free}
use Rattle.overlap_law.proofs.ClosedFirstStages.{begins_first}
use Rattle.overlap_law.proofs.KnownDisks.{Few, vid-of_object}
use Rattle.overlap_law.proofs.WorksAtCourses.{IsAt, HaveAt, AtSoFar, moved_at, freed_at, IsOutcomeAt, StepsKeepAt}

-- of a work that creates the inode by which an id is published. Where a snapshot is taken the task itself says which inode that is
abbrev pub IsOwnMaking : Vid → Option Content → ObjWork → Type 0
IsOwnMaking vid None work = oid_of work ≡ inode_number vid.0
IsOwnMaking vid (Some inode) work = Unit {0}

abbrev pub IsOwnTask : Vid → Task → ObjWork → Type 0
IsOwnTask vid (Opening snapshot ids header) work = Unit {0}
IsOwnTask vid (WritingBack inode) work = Unit {0}
IsOwnTask vid (Tagging old inode) work = Unit {0}
IsOwnTask vid (Copying ids header) work = Unit {0}
IsOwnTask vid (Making entry made) work = IsOwnMaking vid made work

abbrev pub IsOwnStage : OpStage → ObjWork → Type 0
IsOwnStage (Asked entry) work = Unit {0}
IsOwnStage (Working vid task) work = IsOwnTask vid task work
IsOwnStage (Publishing entry made) work = Unit {0}
IsOwnStage (Answered change) work = Unit {0}

abbrev pub MakesOwn : Course → ObjWork → Type 0
MakesOwn (Waiting ask) work = Unit {0}
MakesOwn (Driving driver) work = Unit {0}
MakesOwn (Commanding op) work = IsOwnStage op.stage work
MakesOwn (Checking check) work = is_making work ≡ true → vid_of (oid_of work) ≡ check.vid
MakesOwn (DoingWork asked) work = Unit {0}
MakesOwn (AwaitingDecision entry) work = Unit {0}

abbrev pub MakesOwnAt : Option Request → ObjWork → Type 0
MakesOwnAt request work = IfSome request (λ (request : Request). MakesOwn request.course work)

-- whichever disk is open
abbrev pub MakesOwnOf : Option Disk → Course → ObjWork → Type 0
MakesOwnOf disk course work = MakesOwn course work

-- each work is so
abbrev pub AreOwnMakings : Works → Requests → Sessions → Type 0
AreOwnMakings works requests sessions = HaveAt MakesOwnOf works requests sessions

abbrev pub MakeOwnSoFar : StepState → Type 0
MakeOwnSoFar so_far = AtSoFar MakesOwnOf so_far

-- ---- steps of a command

abbrev IsOwnAct : OpAct → OpStage → Type 0
IsOwnAct (op_acts.Append entry) stage = Unit {0}
IsOwnAct (op_acts.Work work) stage = IsOwnStage stage work
IsOwnAct (op_acts.Reply reply) stage = Unit {0}

abbrev IsOwnStep : OpStep → Type 0
IsOwnStep step = IsOwnAct step.act step.op.stage

given_own : (step next : OpStep) → Some step ≡ Some next → IsOwnStep step → IsOwnStep next
given_own step next same is = subst IsOwnStep (same_Some step next same) is

begins_own : (by : NodeId) (session : ℕ) (ask : VdiAsk) (disk : Option Content) (step : OpStep)
    → begin_command by session ask disk ≡ Some step
    → IsOwnStep step
begins_own by session ask disk step is = let (entry, same) = begins_first by session ask disk step is in subst IsOwnStep same tt

task_own : (op : Op) (vid : Vid) (bytes : List ℕ) (task : Task) → IsOwnStep (task_done op vid bytes task)
task_own op vid bytes (Opening true ids header) = tt
task_own op vid bytes (Opening false ids header) = tt
task_own op vid bytes (WritingBack inode) = tt
task_own op vid bytes (Tagging old inode) = tt
task_own op vid bytes (Copying ids header) = refl
task_own op vid bytes (Making entry made) = tt

goes_on_own : (bytes : List ℕ) (op : Op) (step : OpStep) → op_on_done bytes op ≡ Some step → IsOwnStep step
unfolding op_on_done
goes_on_own bytes op step next = by_stage op.stage next
  where
    by_stage : (stage : OpStage) → done_at bytes op stage ≡ Some step → IsOwnStep step
    by_stage (Asked entry) next = absurd (cc (next))
    by_stage (Working vid task) next = given_own (task_done op vid bytes task) step next (task_own op vid bytes task)
    by_stage (Publishing entry made) next = absurd (cc (next))
    by_stage (Answered change) next = absurd (cc (next))

module _ (known : List Effect) (disk : Option Content) (op : Op) (step : OpStep) where
  granted_own : (vid : Vid) (header : Header) (entry : Entry) → step_after_grant op vid (chain_of known vid.0) disk entry header ≡ Some step
      → IsOwnStep step
  granted_own vid header (entries.Format members) next = absurd (cc (next))
  granted_own vid header (entries.Join node zone vnodes) next = absurd (cc (next))
  granted_own vid header (entries.Leave node) next = absurd (cc (next))
  granted_own vid header (entries.Reweight node vnodes) next = absurd (cc (next))
  granted_own vid header (entries.Recovered node epoch) next = absurd (cc (next))
  granted_own vid header (entries.Reserve by session name (Fresh spec)) next = subst IsOwnStep (same_Some _ step next) refl
  granted_own vid header (entries.Reserve by session name (SnapshotOf tag)) next = by_disk disk next
    where
      by_disk : (disk : Option Content) → option_map (tag_step op vid tag header) disk ≡ Some step → IsOwnStep step
      by_disk None next = absurd (cc (next))
      by_disk (Some old) next = given_own (tag_step op vid tag header old) step next tt
  granted_own vid header (entries.Reserve by session name (CloneOf base tag)) next = by_parent header.parent next
    where
      by_parent : (parent : Option Vid) → option_map (copy_step op vid (chain_of known vid.0) header) parent ≡ Some step → IsOwnStep step
      by_parent None next = absurd (cc (next))
      by_parent (Some parent) next = given_own (copy_step op vid (chain_of known vid.0) header parent) step next tt
  granted_own vid header (entries.Publish by made) next = absurd (cc (next))
  granted_own vid header (entries.Clone by made) next = absurd (cc (next))
  granted_own vid header (entries.Snapshot by old made) next = absurd (cc (next))
  granted_own vid header (entries.Delete by session name tag) next = subst IsOwnStep (same_Some _ step next) tt
  granted_own vid header (entries.Lock by session name tag) next = subst IsOwnStep (same_Some _ step next) tt
  granted_own vid header (entries.Unlock by session old) next = subst IsOwnStep (same_Some _ step next) tt

  after_own : (entry : Entry) (decision : Decision) → step_after_decision known disk op entry decision ≡ Some step → IsOwnStep step
  after_own entry decisions.None next = subst IsOwnStep (same_Some _ step next) tt
  after_own entry (decisions.Granted vid) next = by_header (header_of known vid.0) next
    where
      by_header : (o : Option Header) → option_and_then (step_after_grant op vid (chain_of known vid.0) disk entry) o ≡ Some step
          → IsOwnStep step
      by_header None next = absurd (cc (next))
      by_header (Some header) next = granted_own vid header entry next
  after_own entry (decisions.Refused cause) next = subst IsOwnStep (same_Some _ step next) tt

  decided_own : (decision : Decision) → on_decision known disk decision op ≡ Some step → IsOwnStep step
  unfolding on_decision
  decided_own decision next = by_stage op.stage next
    where
      by_stage : (stage : OpStage) → decided_at known disk decision op stage ≡ Some step → IsOwnStep step
      by_stage (Asked entry) next = after_own entry decision next
      by_stage (Working vid task) next = absurd (cc (next))
      by_stage (Publishing entry made) next = subst IsOwnStep (same_Some _ step next) tt
      by_stage (Answered change) next = absurd (cc (next))

-- ---- steps of a check

abbrev IsOwnCheckAct : Check → CheckAct → Type 0
IsOwnCheckAct check (check_acts.Work work) = is_making work ≡ true → vid_of (oid_of work) ≡ check.vid
IsOwnCheckAct check (check_acts.Reply found) = Unit {0}

check_on_own : (check : Check) (left : List ℕ) → IsOwnCheckAct (check_on check left).check (check_on check left).act
check_on_own check [] = tt
check_on_own check (index ∷ later) = λ making. absurd (cc (making))

check_begins_own : (inode : Content) → IsOwnCheckAct (begin_check inode).check (begin_check inode).act
unfolding begin_check
check_begins_own inode = check_on_own (begun_check inode) (own_indexes inode)

check_goes_on_own : (bytes : List ℕ) (check : Check) (step : CheckStep) → check_on_done bytes check ≡ Some step → IsVid check.vid
    → All Few (left_of check.stage) → IsOwnCheckAct step.check step.act
unfolding check_on_done
check_goes_on_own bytes check step next id few = by_stage check.stage next few
  where
    given : (now : CheckStep) → Some now ≡ Some step → IsOwnCheckAct now.check now.act → IsOwnCheckAct step.check step.act
    given now same is = subst (λ (s : CheckStep). IsOwnCheckAct s.check s.act) (same_Some now step same) is

    by_stage : (stage : CheckStage) → check_done_at bytes check stage ≡ Some step → All Few (left_of stage)
        → IsOwnCheckAct step.check step.act
    by_stage (Comparing index later) next few =
        given (checks.write_back_step check index later (pieces_in check.spec bytes)) next
        (λ making. vid-of_object check.vid index id (All-head Few index later few))
    by_stage (Rewriting later) next few = given (check_on check later) next (check_on_own check later)
    by_stage checks.Answered next few = absurd (cc (next))

-- ---- a step that a request takes

put_own : (requests : Requests) (req : ℕ) (now : Request) (work : ObjWork) → MakesOwn now.course work
    → MakesOwnAt (tree.get (tree.insert requests req now) req) work
put_own requests req now work is = subst (λ (o : Option Request). MakesOwnAt o work) (sym (get-insert_same requests req now)) is

-- a request without a work is in another course
moved_own : (req number : ℕ) (course : Course) (session : Session) (so_far : StepState)
    → HasNoWork req so_far.node.gateway.works (tree.insert so_far.node.sessions number session)
    → session.inode_queue.waiting ≡ waiting_in number so_far.node.sessions → MakeOwnSoFar so_far
    → AreOwnMakings so_far.node.gateway.works (tree.insert so_far.node.requests req (record { session = number; course = course }))
    (tree.insert so_far.node.sessions number session)
moved_own req number course session so_far free line all =
    moved_at MakesOwnOf req (record { session = number; course = course }) number session so_far free line
    (λ q other work is. same_course (tree.get so_far.node.requests q) work is) all
  where
    same_course : (request : Option Request) (work : ObjWork) → IsAt MakesOwnOf so_far.node.sessions request work
        → IsAt MakesOwnOf (tree.insert so_far.node.sessions number session) request work
    same_course request work is = is

driven_own : (number req : ℕ) (disk : Disk) (step : DriverStep) (so_far : StepState)
    → HasNoWorkIn req (after_driver_step number req disk step so_far)
    → MakeOwnSoFar so_far
    → MakeOwnSoFar (after_driver_step number req disk step so_far)
    × IsOutcomeAt MakesOwnOf req (outcome_of_driver step.act) (after_driver_step number req disk step so_far)
driven_own number req disk step so_far free all = (moved_own req number (Driving step.driver) after so_far free refl all, by_act step.act)
  where
    now : Request
    now = record { session = number; course = Driving step.driver }

    after : Session
    after = record (session_in number so_far) { disk = Some (record disk { inode = step.inode }) }

    by_act : (act : DriverAct) → IsOutcomeAt MakesOwnOf req (outcome_of_driver act) (after_driver_step number req disk step so_far)
    by_act (driver_acts.Work work) = put_own so_far.node.requests req now work tt
    by_act (driver_acts.Reply reply) = tt

command_own : (number req : ℕ) (step : OpStep) (so_far : StepState) → IsOwnStep step
    → HasNoWorkIn req (after_command_step number req step so_far)
    → MakeOwnSoFar so_far
    → MakeOwnSoFar (after_command_step number req step so_far)
    × IsOutcomeAt MakesOwnOf req (outcome_of_command step.act) (after_command_step number req step so_far)
command_own number req step so_far is free all = (moved_own req number (Commanding step.op) after so_far free refl all, by_act step.act is)
  where
    now : Request
    now = record { session = number; course = Commanding step.op }

    after : Session
    after = record (session_in number so_far) { disk = disk_after (disk_change step) (session_in number so_far).disk; command = Some req }

    by_act : (act : OpAct) → IsOwnAct act step.op.stage
        → IsOutcomeAt MakesOwnOf req (outcome_of_command act) (after_command_step number req step so_far)
    by_act (op_acts.Append entry) is = tt
    by_act (op_acts.Work work) is = put_own so_far.node.requests req now work is
    by_act (op_acts.Reply reply) is = tt

sole_own : (number req : ℕ) (course : Course) (so_far : StepState) → HasNoWorkIn req (with_sole_request number req course so_far)
    → MakeOwnSoFar so_far
    → MakeOwnSoFar (with_sole_request number req course so_far)
sole_own number req course so_far free all =
    moved_own req number course (record (session_in number so_far) { command = Some req }) so_far free refl all

check_own : (number req : ℕ) (check : Check) (act : CheckAct) (so_far : StepState) → IsOwnCheckAct check act
    → IsOutcomeAt MakesOwnOf req (outcome_of_check act) (with_sole_request number req (Checking check) so_far)
check_own number req check (check_acts.Work work) so_far is =
    put_own so_far.node.requests req (record { session = number; course = Checking check }) work is
check_own number req check (check_acts.Reply found) so_far is = tt

-- ---- every change

-- each check that a step comes to has few objects left, of an id
abbrev pub ChecksAreFew : Input → Node → Type 0
ChecksAreFew input node =
    (so_far : StepState) → Leads input node (input_received input (at_first node)) so_far → (req : ℕ) (request : Request) (check : Check)
    → tree.get so_far.node.requests req ≡ Some request → request.course ≡ Checking check → IsVid check.vid × All Few (left_of check.stage)

-- what is known beside it in the middle of a step
abbrev pub WorksUnderWay : Input → Node → StepState → Type 0
WorksUnderWay input node so_far = Leads input node (input_received input (at_first node)) so_far × StepHasOneWork so_far

abbrev pub WorksWell : Input → Node → StepState → Type 0
WorksWell input node so_far = WorksUnderWay input node so_far × MakeOwnSoFar so_far

module _ {input : Input} {node : Node} (sound : IsSoundStep input node) (few : ChecksAreFew input node) where
  pub steps_own : StepsKeepAt MakesOwnOf input node (WorksUnderWay input node)
  steps_own so_far session req next moved (DiskBegins ask disk there on may_run) all =
      driven_own session req disk (begin_driver disk ask) so_far
      (steps_free so_far session req next moved (DiskBegins ask disk there on may_run) sound all.0.1).free all.1
  steps_own so_far session req next moved (DiskGoesOn number work attempt status bytes driver disk step ends on is) all =
      driven_own session req disk step (without_ended_work session req work status so_far)
      (steps_free so_far session req next moved (DiskGoesOn number work attempt status bytes driver disk step ends on is) sound
      all.0.1).free
      (freed_at MakesOwnOf session req work status so_far all.1)
  steps_own so_far session req next moved (CommandBegins ask step arrival is) all =
      command_own session req step so_far (begins_own so_far.node.me session ask _ step is)
      (steps_free so_far session req next moved (CommandBegins ask step arrival is) sound all.0.1).free all.1
  steps_own so_far session req next moved (CommandGoesOn number work attempt status bytes op step ends is) all =
      command_own session req step (without_ended_work session req work status so_far) (goes_on_own bytes op step is)
      (steps_free so_far session req next moved (CommandGoesOn number work attempt status bytes op step ends is) sound all.0.1).free
      (freed_at MakesOwnOf session req work status so_far all.1)
  steps_own so_far session req next moved (CommandDecided entry op step from read there waits is) all =
      command_own session req step so_far (decided_own _ _ op step _ is)
      (steps_free so_far session req next moved (CommandDecided entry op step from read there waits is) sound all.0.1).free all.1
  steps_own so_far session req next moved (CheckBegins inode arrival on) all = (
    sole_own session req (Checking (begin_check inode).check) so_far
        (steps_free so_far session req next moved (CheckBegins inode arrival on) sound all.0.1).free all.1,
    check_own session req (begin_check inode).check (begin_check inode).act so_far (check_begins_own inode),
  )
  steps_own so_far session req next moved (CheckGoesOn number work attempt status bytes check step ends is) all = (
    sole_own session req (Checking step.check) (without_ended_work session req work status so_far)
        (steps_free so_far session req next moved (CheckGoesOn number work attempt status bytes check step ends is) sound all.0.1).free
        (freed_at MakesOwnOf session req work status so_far all.1),
    (let is_few = few so_far all.0.0 req (record { session = session; course = Checking check }) check ends.ends.request refl in
        check_own session req step.check step.act (without_ended_work session req work status so_far)
        (check_goes_on_own bytes check step is is_few.0 is_few.1)),
  )
  steps_own so_far session req next moved (ObjectBegins asked arrival) all = (
    sole_own session req (DoingWork asked) so_far
        (steps_free so_far session req next moved (ObjectBegins asked arrival) sound all.0.1).free all.1,
    put_own so_far.node.requests req (record { session = session; course = DoingWork asked }) asked tt,
  )
  steps_own so_far session req next moved (ObjectIsDone number work attempt status bytes asked ends) all =
      (freed_at MakesOwnOf session req work status so_far all.1, tt)
  steps_own so_far session req next moved (EntryBegins entry arrival) all = (
    sole_own session req (AwaitingDecision entry) so_far
        (steps_free so_far session req next moved (EntryBegins entry arrival) sound all.0.1).free all.1,
    tt,
  )
  steps_own so_far session req next moved (EntryDecided entry wanted from read there waits) all = (all.1, tt)
