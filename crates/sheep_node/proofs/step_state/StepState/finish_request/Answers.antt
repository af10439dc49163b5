use Rattle.std.proofs.Common.{OnOk, Option, ◌≡◌, ◌∙◌, ap, sym, subst}
use Rattle.guest_driver.specs.declared.disk.Disk.{Disk}
use Rattle.sheep_node.specs.StepState.{StepState, session_in, with_course}
use Rattle.sheep_node.specs.Courses.{inode_open, course_went_on}
use Rattle.sheep_node.specs.Waiting.{let_begin}
use Rattle.sheep_node.specs.MayBegin.{MayGoOn}
use Rattle.sheep_node.specs.InStep.{IsInStep}
use Rattle.sheep_node.proofs.CourseSteps.{disk_behind}
use Rattle.sheep_node.proofs.step_state.StepState.finish_request.Goals as goal

pub go_on-requires-clause-goes_on : goal.go_on-requires-clause-goes_on
go_on-requires-clause-goes_on c =
    let number = c.args.request.session in
    subst (λ (disk : Option Disk). MayGoOn (inode_open disk) c.args.request.course c.args.done.bytes)
    (sym (ap (λ (so_far : StepState). (session_in number so_far).disk) c.in_ok-leave_queue.ensures
    ∙ disk_behind number c.args.work.now c.args.self.now))
    c.requires.goes_on

pub let_begin-requires : goal.let_begin-requires
let_begin-requires c =
    let number = c.args.request.session in
    let req = c.args.done.req in
    subst IsInStep
    (sym (c.in_ok-go_on.ensures
    ∙ ap (λ (so_far : StepState). course_went_on number req c.args.done.bytes c.args.request.course
    (with_course number req c.args.request.course so_far)) c.in_ok-leave_queue.ensures))
    c.requires.after

pub returns : goal.returns
returns c =
    let number = c.args.request.session in
    let req = c.args.done.req in
    subst (λ (after : StepState). OnOk c.let_begin.result (c.let_begin.new.self ≡ after))
    (ap (let_begin number) (c.in_ok-go_on.ensures
    ∙ ap (λ (so_far : StepState). course_went_on number req c.args.done.bytes c.args.request.course
    (with_course number req c.args.request.course so_far)) c.in_ok-leave_queue.ensures))
    c.let_begin.ensures
