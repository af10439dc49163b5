use Rattle.std.proofs.Common.{OnOk, ◌≡◌, ◌∙◌, ap, sym, subst}
use Rattle.vdi_ops.specs.declared.act.OpAct.{OpAct}
use Rattle.vdi_ops.specs.Op.{IsAwaitedAtOpStage}
use Rattle.sheep_node.specs.StepState.{StepState, with_outbox_entry}
use Rattle.sheep_node.specs.RequestWorks.{work_asked}
use Rattle.sheep_node.specs.Courses.{command_stepped}
use Rattle.sheep_node.proofs.CourseSteps.{put_entry, came_to_work}
use Rattle.sheep_node.proofs.step_state.StepState.step_command.Goals as goal

pub returns-in_ok-set_sole_request-in-Append : goal.returns-in_ok-set_sole_request-in-Append
returns-in_ok-set_sole_request-in-Append c =
    subst (λ (after : StepState). OnOk c.put_later.result (c.put_later.new.self ≡ after))
    (ap (with_outbox_entry c.in-Append.entry) c.in_ok-set_sole_request-in-Append.ensures
    ∙ put_entry c.args.number c.args.req c.args.op c.in-Append.entry c.args.self.now
    (subst (λ (act : OpAct). IsAwaitedAtOpStage act c.args.op.stage) c.in-Append.is c.requires.awaited)
    ∙ ap (λ (act : OpAct). command_stepped c.args.number c.args.req (record { op = c.args.op; act = act }) c.args.self.now) (sym c.in-Append.is))
    c.put_later.ensures

pub returns-in_ok-set_sole_request-in-Work : goal.returns-in_ok-set_sole_request-in-Work
returns-in_ok-set_sole_request-in-Work c =
    subst (λ (after : StepState). OnOk c.ask_work.result (c.ask_work.new.self ≡ after))
    (ap (work_asked c.args.number c.args.req c.in-Work.work) c.in_ok-set_sole_request-in-Work.ensures
    ∙ came_to_work c.args.number c.args.req c.args.op c.in-Work.work c.args.self.now
    (subst (λ (act : OpAct). IsAwaitedAtOpStage act c.args.op.stage) c.in-Work.is c.requires.awaited)
    ∙ ap (λ (act : OpAct). command_stepped c.args.number c.args.req (record { op = c.args.op; act = act }) c.args.self.now) (sym c.in-Work.is))
    c.ask_work.ensures
