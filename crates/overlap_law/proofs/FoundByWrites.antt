-- A check counts an own object as it comes to a write: where what is asked of a check that has counted one holds before a step in which the
-- check comes to no write, it does behind it.
use Rattle.std.proofs.Common.{◌≡◌, ℕ, true, List, [], ◌∷◌, Option, Some, None, refl, sym, ap, ◌∙◌}
use Rattle.std.specs.Option.{option_map_or}
use Rattle.std.specs.FinMap as tree
use Rattle.peer_proto.specs.declared.guest.GuestRsp.{GuestRsp}
use Rattle.peer_proto.specs.declared.guest.GuestRsp.TheVariants as answers
use Rattle.peer_proto.specs.declared.work.ObjWork.{ObjWork}
use Rattle.peer_proto.specs.declared.work.WorkDone.{WorkDone}
use Rattle.gateway.specs.declared.message.Status.{Status}
use Rattle.gateway.specs.Attempt.{Attempt}
use Rattle.gateway.specs.Outcomes.{work_done_in}
use Rattle.gateway.specs.declared.act.Act.{Act}
use Rattle.gateway.specs.declared.act.Act.TheVariants as acts
use Rattle.gateway.specs.State.{Gateway, Work}
use Rattle.guest_driver.specs.declared.act.DriverAct.{DriverAct}
use Rattle.guest_driver.specs.declared.act.DriverAct.TheVariants as driver_acts
use Rattle.guest_driver.specs.declared.disk.Disk.{Disk}
use Rattle.guest_driver.specs.Driver.{Driver, DriverStep, driver_on_done}
use Rattle.disk_check.specs.declared.act.CheckAct.{CheckAct}
use Rattle.disk_check.specs.declared.act.CheckAct.TheVariants as check_acts
use Rattle.disk_check.specs.Check.{Check, CheckStep, CheckStage, Comparing, WritingBack, Answered, check_on_done, check_done_at}
use Rattle.vdi_ops.specs.declared.act.OpAct.{OpAct}
use Rattle.vdi_ops.specs.declared.act.OpAct.TheVariants as op_acts
use Rattle.vdi_ops.specs.Op.{OpStep}
use Rattle.vdi_ops.specs.Steps.{op_on_done}
use Rattle.sheep_node.specs.declared.course.Course.{Course}
use Rattle.sheep_node.specs.declared.course.Course.TheVariants.{Waiting, Driving, Commanding, Checking, DoingWork, AwaitingDecision}
use Rattle.sheep_node.specs.declared.course.Request.{Request}
use Rattle.sheep_node.specs.declared.input.Input.{Input}
use Rattle.sheep_node.specs.declared.input.Input.TheVariants as inputs
use Rattle.sheep_node.specs.Changes.{Change, EndsWork}
use Rattle.sheep_node.specs.CheckWrites.{has_course_written}
use Rattle.sheep_node.specs.Courses.{after_command_step, after_driver_step, check_acted, check_stepped, command_acted, command_stepped}
use Rattle.sheep_node.specs.Courses.{course_went_on, disk_went_on, driver_acted, driver_stepped, work_reply}
use Rattle.sheep_node.specs.RequestWorks.{queue_left, course_refused, work_asked}
use Rattle.sheep_node.specs.State.{Node}
use Rattle.sheep_node.specs.StepState.{StepState, at_first, request_ended, session_in, with_gateway, with_sole_request}
use Rattle.sheep_node.specs.Waiting.{after_act, work_done, work_refused}
use Rattle.sheep_node.proofs.OneWorkParts.{Requests}
use Rattle.sheep_node.proofs.RefusedCourses.{course_refused-keeps}
use Rattle.overlap_law.proofs.CoursesStepOn.{IsKeptByCourses, IsSoAmong, change_so, ended_so, put_so}
use Rattle.overlap_law.proofs.RepliesToChecks.{asked_so, begins_so, idle}

module _ (req : ℕ) (B : Type 0) where
  -- where it has counted an own object, this holds
  abbrev pub HoldsIfFound : Course → Type 0
  HoldsIfFound course = has_course_written course ≡ true → B

  abbrev pub HoldIfFound : Requests → Type 0
  HoldIfFound = IsSoAmong req HoldsIfFound

  -- what an input by which no message is told does keeps it
  pub untold_parts : (input : Input) (node : Node)
      → ((so_far : StepState) (session number : ℕ) (work : Work) (attempt : Attempt) (status : Status) (bytes : List ℕ) (check : Check)
      → EndsWork input node so_far session req number work attempt status (Checking check) bytes → ⊥)
      → IsKeptByCourses req HoldsIfFound input node
  untold_parts input node never = record {
    begins = λ ask driver before is. absurd (cc (is));
    drives = λ driver next before is. absurd (cc (is));
    commands = λ op next before is. absurd (cc (is));
    checks = λ so_far session number work attempt status bytes check step ends is before.
        absurd (never so_far session number work attempt status bytes check ends);
  }

  pub changed : (so_far next : StepState) → Change inputs.RecoverTick idle so_far next → HoldIfFound so_far.node.requests
      → HoldIfFound next.node.requests
  changed =
      change_so req HoldsIfFound inputs.RecoverTick idle
      (untold_parts inputs.RecoverTick idle
      (λ so_far session number work attempt status bytes check ends. ends.ends.learns.told))
      (λ session ask is. absurd (cc (is)))

  pub ended : (session other : ℕ) (reply : GuestRsp) (so_far : StepState) → HoldIfFound so_far.node.requests
      → HoldIfFound (request_ended session other reply so_far).node.requests
  ended = ended_so req HoldsIfFound

  asked : (number other : ℕ) (work : ObjWork) (so_far : StepState) → HoldIfFound so_far.node.requests
      → HoldIfFound (work_asked number other work so_far).node.requests
  asked = asked_so HoldIfFound changed ended

  -- ---- a request goes on with what its work gave

  module _ (session other : ℕ) (so_far : StepState) (has : HoldIfFound so_far.node.requests) where
    driver_so : (disk : Disk) (step : DriverStep) → HoldIfFound (driver_stepped session other disk step so_far).node.requests
    unfolding driver_stepped
    driver_so disk step = by_act step.act
      where
        put : HoldIfFound (after_driver_step session other disk step so_far).node.requests
        put =
            put_so req HoldsIfFound so_far.node.requests other (record { session = session; course = Driving step.driver })
            (λ same is. absurd (cc (is))) has

        by_act : (act : DriverAct)
            → HoldIfFound (driver_acted session other act (after_driver_step session other disk step so_far)).node.requests
        by_act (driver_acts.Work work) = asked session other work (after_driver_step session other disk step so_far) put
        by_act (driver_acts.Reply reply) = ended session other reply (after_driver_step session other disk step so_far) put

    disk_so : (bytes : List ℕ) (driver : Driver) (disk : Option Disk)
        → HoldIfFound (disk_went_on session other bytes driver disk so_far).node.requests
    disk_so bytes driver None = has
    disk_so bytes driver (Some disk) = by_step (driver_on_done disk.inode bytes driver)
      where
        by_step : (o : Option DriverStep)
            → HoldIfFound (option_map_or (λ (step : DriverStep). driver_stepped session other disk step so_far) o so_far).node.requests
        by_step None = has
        by_step (Some step) = driver_so disk step

    command_so : (step : OpStep) → HoldIfFound (command_stepped session other step so_far).node.requests
    unfolding command_stepped
    command_so step = by_act step.act
      where
        put : HoldIfFound (after_command_step session other step so_far).node.requests
        put =
            put_so req HoldsIfFound so_far.node.requests other (record { session = session; course = Commanding step.op })
            (λ same is. absurd (cc (is))) has

        by_act : (act : OpAct)
            → HoldIfFound (command_acted session other act (after_command_step session other step so_far)).node.requests
        by_act (op_acts.Append entry) = put
        by_act (op_acts.Work work) = asked session other work (after_command_step session other step so_far) put
        by_act (op_acts.Reply reply) = ended session other reply (after_command_step session other step so_far) put

    check_so : (step : CheckStep) → (other ≡ req → HoldsIfFound (Checking step.check))
        → HoldIfFound (check_stepped session other step so_far).node.requests
    unfolding check_stepped
    check_so step own = by_act step.act
      where
        put : HoldIfFound (with_sole_request session other (Checking step.check) so_far).node.requests
        put = put_so req HoldsIfFound so_far.node.requests other (record { session = session; course = Checking step.check }) own has

        by_act : (act : CheckAct)
            → HoldIfFound (check_acted session other act (with_sole_request session other (Checking step.check) so_far)).node.requests
        by_act (check_acts.Work work) = asked session other work (with_sole_request session other (Checking step.check) so_far) put
        by_act (check_acts.Reply found) =
            ended session other (answers.Checked found) (with_sole_request session other (Checking step.check) so_far) put

    checked_so : (bytes : List ℕ) (check : Check) → (other ≡ req → HoldsIfFound (Checking check))
        → (other ≡ req → (index : ℕ) (later : List ℕ) → check.stage ≡ Comparing index later → ⊥)
        → HoldIfFound (option_map_or (λ (step : CheckStep). check_stepped session other step so_far) (check_on_done bytes check)
        so_far).node.requests
    unfolding check_on_done
    checked_so bytes check was past = by_stage check.stage refl
      where
        by_stage : (stage : CheckStage) → check.stage ≡ stage
            → HoldIfFound (option_map_or (λ (step : CheckStep). check_stepped session other step so_far) (check_done_at bytes check stage)
            so_far).node.requests
        by_stage (Comparing index later) at = check_so _ (λ same. absurd (past same index later at))
        by_stage (WritingBack []) at = check_so _ was
        by_stage (WritingBack (index ∷ later)) at = check_so _ was
        by_stage Answered at = has

    went_so : (bytes : List ℕ) (course : Course) → (other ≡ req → HoldsIfFound course)
        → (other ≡ req → (check : Check) (index : ℕ) (later : List ℕ) → course ≡ Checking check → check.stage ≡ Comparing index later → ⊥)
        → HoldIfFound (course_went_on session other bytes course so_far).node.requests
    unfolding course_went_on
    went_so bytes (Waiting ask) was past = has
    went_so bytes (Driving driver) was past = disk_so bytes driver (session_in session so_far).disk
    went_so bytes (Commanding op) was past = by_step (op_on_done bytes op)
      where
        by_step : (o : Option OpStep)
            → HoldIfFound (option_map_or (λ (step : OpStep). command_stepped session other step so_far) o so_far).node.requests
        by_step None = has
        by_step (Some step) = command_so step
    went_so bytes (Checking check) was past = checked_so bytes check was (λ same index later at. past same check index later refl at)
    went_so bytes (DoingWork work) was past = ended session other (work_reply work bytes) so_far has
    went_so bytes (AwaitingDecision entry) was past = has

  -- ---- an act of the gateway

  module _ (node : Node) (gateway : Gateway) (before : HoldIfFound node.requests) where
    abbrev first : StepState
    first = with_gateway gateway (at_first node)

    -- where no work of the request is done as its check compares
    pub act_so : (act : Act)
        → ((done : WorkDone) → work_done_in act ≡ Some done → done.req ≡ req → (session : ℕ) (check : Check) (index : ℕ) (later : List ℕ)
        → tree.get node.requests req ≡ Some (record { session = session; course = Checking check })
        → check.stage ≡ Comparing index later → ⊥)
        → HoldIfFound (after_act act first).node.requests
    act_so (acts.Send sends) past = before
    act_so acts.Wait past = before
    act_so (acts.Refused work other cause) past = by_request (tree.get node.requests other)
      where
        by_request : (o : Option Request) → HoldIfFound (work_refused work other cause o first).node.requests
        by_request None = before
        by_request (Some request) =
            begins_so HoldIfFound changed ended request.session
            (course_refused request.session other cause request.course (queue_left request.session work first))
            (course_refused-keeps (λ (so_far : StepState). HoldIfFound so_far.node.requests) ended (λ entry before now. now) request.session
            other cause request.course (queue_left request.session work first) before)
    act_so (acts.Done work done) past = by_request (tree.get node.requests done.req) refl
      where
        by_request : (o : Option Request) → tree.get node.requests done.req ≡ o
            → HoldIfFound (work_done work done.req done.bytes o first).node.requests
        by_request None got = before
        by_request (Some request) got =
            let left = queue_left request.session work first in
            begins_so HoldIfFound changed ended request.session
            (course_went_on request.session done.req done.bytes request.course left)
            (went_so request.session done.req left before done.bytes request.course
            (λ same. before request (ap (tree.get node.requests) (sym same) ∙ got))
            (λ same check index later course at.
            past done refl same request.session check index later
            (ap (tree.get node.requests) (sym same) ∙ got
            ∙ ap (λ (c : Course). Some (record { session = request.session; course = c })) course) at))
