-- Which requests had no work yet; and over a change of a node, a request that had none by then had none before, or the step begins with it.
use Rattle.std.proofs.Common.{◌≡◌, ◌⊎◌, inl, inr, ℕ, Bool, true, false, List, Option, Some, None, is_none, refl, sym, ap, subst, ◌∙◌}
use Rattle.std.specs.FinMap as tree
use Rattle.std.proofs.lemmas.Option.{same_Some}
use Rattle.object_id.specs.declared.cause.Cause.{Cause}
use Rattle.object_id.specs.declared.oid.Vid.{Vid}
use Rattle.inode.specs.Layout.{Content}
use Rattle.peer_proto.specs.declared.guest.VdiAsk.TheVariants as disk_commands
use Rattle.vdi_directory.specs.declared.decision.Decision.{Decision}
use Rattle.vdi_directory.specs.declared.effect.Effect.{Effect}
use Rattle.peer_service.specs.State.{effects_of}
use Rattle.peer_service.specs.LogReading.{decision_on}
use Rattle.guest_driver.specs.Driver as drivers
use Rattle.disk_check.specs.Check.{begin_check}
use Rattle.vdi_ops.specs.Op as ops
use Rattle.vdi_ops.specs.Op.{Op, OpStage, Asked, Working, Publishing, Answered, Task, Opening, WritingBack, Tagging, Copying, Making}
use Rattle.vdi_ops.specs.Op.{entry_wanted_at}
use Rattle.vdi_ops.specs.Steps.{done_at, task_done, decided_at, op_on_done, on_decision}
use Rattle.sheep_node.specs.declared.ask.Ask.{Ask}
use Rattle.sheep_node.specs.declared.ask.Ask.TheVariants as asks
use Rattle.sheep_node.specs.declared.course.Course.{Course}
use Rattle.sheep_node.specs.declared.course.Request.{Request}
use Rattle.sheep_node.specs.declared.course.Course.TheVariants.{Waiting, Driving, Commanding, Checking, DoingWork, AwaitingDecision}
use Rattle.sheep_node.specs.declared.input.Input.{Input}
use Rattle.sheep_node.specs.declared.input.Input.TheVariants as inputs
use Rattle.sheep_node.specs.State.{Node}
use Rattle.sheep_node.specs.StepState.{StepState, session_in}
use Rattle.sheep_node.specs.Courses.{inode_open}
use Rattle.sheep_node.specs.OneWork.{may_work}
use Rattle.sheep_node.specs.Changes as changes
use Rattle.sheep_node.specs.Changes.{Outcome, RequestSteps, DiskBegins, DiskGoesOn, CommandBegins, CommandGoesOn, CommandDecided}
use Rattle.sheep_node.specs.Changes.{CheckBegins, CheckGoesOn, ObjectBegins, ObjectIsDone, EntryBegins, EntryDecided, Change}
use Rattle.sheep_node.proofs.OneWorkParts.{Requests}
use Rattle.overlap_law.proofs.TouchedStay.{Arrives}
use Rattle.overlap_law.proofs.RequestWalk.{IsWhereThere, put_there, change_there}

-- ---- courses

-- whether a command is past its first entry
abbrev pub is_past_first : OpStage → Bool
is_past_first (Asked entry) = false
is_past_first (Working vid task) = true
is_past_first (Publishing entry opened) = true
is_past_first (Answered change) = true

-- whether a request may have had a work by now
abbrev pub may_have_worked : Course → Bool
may_have_worked (Waiting ask) = false
may_have_worked (Driving driver) = true
may_have_worked (Commanding op) = is_past_first op.stage
may_have_worked (Checking check) = true
may_have_worked (DoingWork work) = true
may_have_worked (AwaitingDecision entry) = false

working_past : (stage : OpStage) → is_none (entry_wanted_at stage) ≡ true → is_past_first stage ≡ true
working_past (Asked entry) none = absurd (cc (none))
working_past (Working vid task) none = refl
working_past (Publishing entry opened) none = refl
working_past (Answered change) none = refl

-- one that may have a work may have had one
pub may_work-worked : (course : Course) → may_work course ≡ true → may_have_worked course ≡ true
may_work-worked (Waiting ask) may = absurd (cc (may))
may_work-worked (Driving driver) may = refl
may_work-worked (Commanding op) may = working_past op.stage may
may_work-worked (Checking check) may = refl
may_work-worked (DoingWork work) may = refl
may_work-worked (AwaitingDecision entry) may = absurd (cc (may))

task_past : (op : Op) (vid : Vid) (bytes : List ℕ) (task : Task) → is_past_first (task_done op vid bytes task).op.stage ≡ true
task_past op vid bytes (Opening true ids header) = refl
task_past op vid bytes (Opening false ids header) = refl
task_past op vid bytes (WritingBack inode) = refl
task_past op vid bytes (Tagging old inode) = refl
task_past op vid bytes (Copying ids header) = refl
task_past op vid bytes (Making entry opened) = refl

-- a command whose work is done is past its first entry
done_past : (bytes : List ℕ) (op : Op) (stage : OpStage) (step : ops.OpStep) → done_at bytes op stage ≡ Some step
    → is_past_first step.op.stage ≡ true
done_past bytes op (Asked entry) step is = absurd (cc (is))
done_past bytes op (Working vid task) step is =
    ap (λ (s : ops.OpStep). is_past_first s.op.stage) (sym (same_Some (task_done op vid bytes task) step is)) ∙ task_past op vid bytes task
done_past bytes op (Publishing entry opened) step is = absurd (cc (is))
done_past bytes op (Answered change) step is = absurd (cc (is))

pub went_past : (bytes : List ℕ) (op : Op) (step : ops.OpStep) → op_on_done bytes op ≡ Some step → is_past_first step.op.stage ≡ true
unfolding op_on_done
went_past bytes op step is = done_past bytes op op.stage step is

-- and one whose last entry is decided is so still
decided_past : (known : List Effect) (disk : Option Content) (decision : Decision) (op : Op) (stage : OpStage) (step : ops.OpStep)
    → decided_at known disk decision op stage ≡ Some step → is_past_first step.op.stage ≡ false → is_past_first stage ≡ false
decided_past known disk decision op (Asked entry) step is before = refl
decided_past known disk decision op (Working vid task) step is before = absurd (cc (is))
decided_past known disk decision op (Publishing entry opened) step is before =
    let past : true ≡ is_past_first step.op.stage = ap (λ (o : Option ops.OpStep). past_of o) is in
    absurd (cc (past, before))
  where
    past_of : Option ops.OpStep → Bool
    past_of None = true
    past_of (Some step) = is_past_first step.op.stage
decided_past known disk decision op (Answered change) step is before = absurd (cc (is))

pub went_on_past : (known : List Effect) (disk : Option Content) (decision : Decision) (op : Op) (step : ops.OpStep)
    → on_decision known disk decision op ≡ Some step
    → is_past_first step.op.stage ≡ false → is_past_first op.stage ≡ false
unfolding on_decision
went_on_past known disk decision op step is before = decided_past known disk decision op op.stage step is before

-- ---- a change of a node

-- the request is there, and had no work yet
pub record HadNoWork (q : ℕ) (so_far : StepState) : Type 0 where
  pub request : Request
  pub there : tree.get so_far.node.requests q ≡ Some request
  pub unworked : may_have_worked request.course ≡ false

module _ (q : ℕ) (input : Input) (node : Node) where
  abbrev pub HadNoneOrArrives : StepState → Type 0
  HadNoneOrArrives so_far = HadNoWork q so_far ⊎ Arrives q input node so_far

  -- if it is there, and had none by then
  abbrev IsFrom : StepState → Request → Type 0
  IsFrom origin r = may_have_worked r.course ≡ false → HadNoneOrArrives origin

  abbrev AreFrom : StepState → Requests → Type 0
  AreFrom origin = IsWhereThere q (IsFrom origin)

  abbrev From : StepState → StepState → Type 0
  From origin so_far = AreFrom origin so_far.node.requests

  put_from : (origin : StepState) (requests : Requests) (session req : ℕ) (course : Course)
      → (q ≡ req → may_have_worked course ≡ false → HadNoneOrArrives origin) → AreFrom origin requests
      → AreFrom origin (tree.insert requests req (record { session = session; course = course }))
  put_from origin requests session req course =
      put_there q (IsFrom origin) requests req (record { session = session; course = course })

  from_itself : (so_far : StepState) → From so_far so_far
  from_itself so_far r got unworked = inl (record { request = r; there = got; unworked = unworked })

  new_from : (so_far : StepState) (session req : ℕ) (ask : Ask) (refusal : Option Cause)
      → changes.Arrival input node so_far session req ask refusal → q ≡ req
      → Arrives q input node so_far
  new_from so_far session req ask refusal arrival own =
      record {
        session = session;
        ask = ask;
        from = subst (λ (k : ℕ). input ≡ inputs.Guest k session ask) (sym own) arrival.from;
        first = arrival.first;
      }

  put_new : (so_far : StepState) (session req : ℕ) (course : Course) (ask : Ask) (refusal : Option Cause)
      → changes.Arrival input node so_far session req ask refusal
      → AreFrom so_far (tree.insert so_far.node.requests req (record { session = session; course = course }))
  put_new so_far session req course ask refusal arrival =
      put_from so_far so_far.node.requests session req course (λ own unworked. inr (new_from so_far session req ask refusal arrival own))
      (from_itself so_far)

  -- one that has worked
  put_worked : (so_far : StepState) (session req : ℕ) (course : Course) → may_have_worked course ≡ true
      → AreFrom so_far (tree.insert so_far.node.requests req (record { session = session; course = course }))
  put_worked so_far session req course worked =
      put_from so_far so_far.node.requests session req course (λ own unworked. absurd (cc (worked, unworked))) (from_itself so_far)

  steps_from : (so_far : StepState) (session req : ℕ) (next : Outcome) (moved : StepState)
      → RequestSteps input node so_far session req next moved → From so_far moved
  steps_from so_far session req next moved (DiskBegins ask disk there on may) =
      put_worked so_far session req (Driving (drivers.begin_driver disk ask).driver) refl
  steps_from so_far session req next moved (DiskGoesOn number work attempt status bytes driver disk step ends on is) =
      put_worked so_far session req (Driving step.driver) refl
  steps_from so_far session req next moved (CommandBegins ask step arrival is) =
      put_new so_far session req (Commanding step.op) (asks.Vdi ask) None arrival
  steps_from so_far session req next moved (CommandGoesOn number work attempt status bytes op step ends is) =
      put_worked so_far session req (Commanding step.op) (went_past bytes op step is)
  steps_from so_far session req next moved (CommandDecided entry op step from read there waits is) =
      put_from so_far so_far.node.requests session req (Commanding step.op)
      (λ own unworked. inl (record {
        request = record { session = session; course = Commanding op };
        there = ap (tree.get so_far.node.requests) own ∙ there;
        unworked = went_on_past (effects_of so_far.node.peer) (inode_open (session_in session so_far).disk) (decision_on entry node.peer) op
            step is unworked;
      })) (from_itself so_far)
  steps_from so_far session req next moved (CheckBegins inode arrival on) =
      put_new so_far session req (Checking (begin_check inode).check) (asks.Vdi disk_commands.Check) None arrival
  steps_from so_far session req next moved (CheckGoesOn number work attempt status bytes check step ends is) =
      put_worked so_far session req (Checking step.check) refl
  steps_from so_far session req next moved (ObjectBegins asked arrival) =
      put_new so_far session req (DoingWork asked) (asks.Object asked) None arrival
  steps_from so_far session req next moved (ObjectIsDone number work attempt status bytes asked ends) = from_itself so_far
  steps_from so_far session req next moved (EntryBegins entry arrival) =
      put_new so_far session req (AwaitingDecision entry) (asks.Entry entry) None arrival
  steps_from so_far session req next moved (EntryDecided entry wanted from read there waits) = from_itself so_far

  pub change_from : (so_far next : StepState) → Change input node so_far next → From so_far next
  change_from so_far =
      change_there q (IsFrom so_far) so_far (steps_from so_far)
      (λ session req ask arrival own unworked. inr (new_from so_far session req (asks.Disk ask) None arrival own)) (from_itself so_far)
