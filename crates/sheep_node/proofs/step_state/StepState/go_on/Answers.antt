use Rattle.std.proofs.Common.{OnOk, ◌≡◌, ◌∙◌, ap, sym, subst}
use Rattle.peer_proto.specs.declared.guest.GuestRsp.{GuestRsp}
use Rattle.sheep_node.specs.declared.course.Course.{Course}
use Rattle.sheep_node.specs.declared.course.Course.TheVariants.{DoingWork}
use Rattle.sheep_node.specs.StepState.{StepState, with_course, request_ended}
use Rattle.sheep_node.specs.Courses.{course_went_on, work_reply}
use Rattle.sheep_node.proofs.CourseSteps.{ended_there}
use Rattle.sheep_node.proofs.step_state.StepState.go_on.Goals as goal

pub returns-in-Waiting : goal.returns-in-Waiting
unfolding course_went_on
returns-in-Waiting c =
    subst (λ (course : Course). OnOk c.set_course.result (c.set_course.new.self
    ≡ course_went_on c.args.number c.args.done.req c.args.done.bytes course (with_course c.args.number c.args.done.req course c.args.self.now)))
    (sym c.in-Waiting.is) c.set_course.ensures

pub returns-in-DoingWork : goal.returns-in-DoingWork
unfolding course_went_on
returns-in-DoingWork c =
    let number = c.args.number in
    let req = c.args.done.req in
    let work = c.in-DoingWork.work in
    subst (λ (course : Course). OnOk c.end_request.result (c.end_request.new.self
    ≡ course_went_on number req c.args.done.bytes course (with_course number req course c.args.self.now)))
    (sym c.in-DoingWork.is)
    (subst (λ (after : StepState). OnOk c.end_request.result (c.end_request.new.self ≡ after))
    (ap (λ (reply : GuestRsp). request_ended number req reply c.args.self.now) c.work_reply.ensures
    ∙ ended_there number req (DoingWork work) (work_reply work c.args.done.bytes) c.args.self.now)
    c.end_request.ensures)

pub returns-in-AwaitingDecision : goal.returns-in-AwaitingDecision
unfolding course_went_on
returns-in-AwaitingDecision c =
    subst (λ (course : Course). OnOk c.set_course-in-AwaitingDecision.result (c.set_course-in-AwaitingDecision.new.self
    ≡ course_went_on c.args.number c.args.done.req c.args.done.bytes course (with_course c.args.number c.args.done.req course c.args.self.now)))
    (sym c.in-AwaitingDecision.is) c.set_course-in-AwaitingDecision.ensures
