use Rattle.std.proofs.Common.{OnOk, ◌≡◌, ◌∙◌, ap, sym, subst}
use Rattle.peer_proto.specs.declared.guest.GuestRsp.{GuestRsp}
use Rattle.sheep_node.specs.declared.course.Course.{Course}
use Rattle.sheep_node.specs.declared.course.Course.TheVariants.{AwaitingDecision}
use Rattle.sheep_node.specs.StepState.{StepState, with_course, request_ended}
use Rattle.sheep_node.specs.Courses.{course_decided, decision_reply}
use Rattle.sheep_node.proofs.CourseSteps.{ended_there}
use Rattle.sheep_node.proofs.step_state.StepState.decide.Goals as goal

pub returns-in-Waiting : goal.returns-in-Waiting
unfolding course_decided
returns-in-Waiting c =
    subst (λ (course : Course). OnOk c.set_course.result (c.set_course.new.self
    ≡ course_decided c.args.number c.args.req c.args.decision course (with_course c.args.number c.args.req course c.args.self.now)))
    (sym c.in-Waiting.is) c.set_course.ensures

pub returns-in-Driving : goal.returns-in-Driving
unfolding course_decided
returns-in-Driving c =
    subst (λ (course : Course). OnOk c.set_course-in-Driving.result (c.set_course-in-Driving.new.self
    ≡ course_decided c.args.number c.args.req c.args.decision course (with_course c.args.number c.args.req course c.args.self.now)))
    (sym c.in-Driving.is) c.set_course-in-Driving.ensures

pub returns-in-Checking : goal.returns-in-Checking
unfolding course_decided
returns-in-Checking c =
    subst (λ (course : Course). OnOk c.set_course-in-Checking.result (c.set_course-in-Checking.new.self
    ≡ course_decided c.args.number c.args.req c.args.decision course (with_course c.args.number c.args.req course c.args.self.now)))
    (sym c.in-Checking.is) c.set_course-in-Checking.ensures

pub returns-in-DoingWork : goal.returns-in-DoingWork
unfolding course_decided
returns-in-DoingWork c =
    subst (λ (course : Course). OnOk c.set_course-in-DoingWork.result (c.set_course-in-DoingWork.new.self
    ≡ course_decided c.args.number c.args.req c.args.decision course (with_course c.args.number c.args.req course c.args.self.now)))
    (sym c.in-DoingWork.is) c.set_course-in-DoingWork.ensures

pub returns : goal.returns
unfolding course_decided
returns c =
    let number = c.args.number in
    let req = c.args.req in
    subst (λ (course : Course). OnOk c.end_request.result (c.end_request.new.self
    ≡ course_decided number req c.args.decision course (with_course number req course c.args.self.now)))
    (sym c.in-AwaitingDecision.is)
    (subst (λ (after : StepState). OnOk c.end_request.result (c.end_request.new.self ≡ after))
    (ap (λ (reply : GuestRsp). request_ended number req reply c.args.self.now) c.decision_reply.ensures
    ∙ ended_there number req (AwaitingDecision c.in-AwaitingDecision.field-0) (decision_reply c.args.decision) c.args.self.now)
    c.end_request.ensures)
