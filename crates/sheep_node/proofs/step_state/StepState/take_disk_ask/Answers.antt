use Rattle.std.proofs.Common.{OnOk, ◌≡◌, ◌∙◌, ap, sym, subst}
use Rattle.sheep_node.specs.declared.course.Course.TheVariants.{Waiting}
use Rattle.sheep_node.specs.StepState.{StepState, session_in, with_course}
use Rattle.sheep_node.specs.Waiting.{begun_if_may}
use Rattle.sheep_node.specs.InStep.{IsInStep}
use Rattle.sheep_node.proofs.GuestSteps.{arrived, queued_first, arrived_begun}
use Rattle.sheep_node.proofs.step_state.StepState.take_disk_ask.Goals as goal

pub begin_if_may-requires : goal.begin_if_may-requires
begin_if_may-requires c =
    let disk = (session_in c.args.number c.args.self.now).disk in
    subst IsInStep
    (sym (c.in_ok-set_course.ensures
    ∙ ap (with_course c.args.number c.args.req (Waiting c.args.ask)) c.in_ok-queue_request.ensures
    ∙ queued_first c.args.number c.args.req c.args.ask c.args.self.now disk))
    c.requires.arrived

pub returns : goal.returns
returns c =
    let disk = (session_in c.args.number c.args.self.now).disk in
    let now : c.set_course.new.self ≡ arrived c.args.number c.args.req c.args.ask c.args.self.now disk
    = c.in_ok-set_course.ensures
    ∙ ap (with_course c.args.number c.args.req (Waiting c.args.ask)) c.in_ok-queue_request.ensures
    ∙ queued_first c.args.number c.args.req c.args.ask c.args.self.now disk in
    subst (λ (after : StepState). OnOk c.begin_if_may.result (c.begin_if_may.new.self ≡ after))
    (ap (λ (so_far : StepState). begun_if_may so_far c.args.req) now
    ∙ arrived_begun c.args.number c.args.req c.args.ask c.args.self.now)
    c.begin_if_may.ensures
