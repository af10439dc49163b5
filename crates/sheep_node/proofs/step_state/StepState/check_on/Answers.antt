use Rattle.std.proofs.Common.{OnOk, ◌≡◌, subst}
use Rattle.sheep_node.specs.StepState.{StepState}
use Rattle.sheep_node.proofs.CourseSteps.{checked}
use Rattle.sheep_node.proofs.step_state.StepState.check_on.Goals as goal

pub returns : goal.returns
returns c =
    subst (λ (after : StepState). OnOk c.step_check.result (c.step_check.new.self ≡ after))
    (checked c.args.number c.args.done.now.req c.args.done.now.bytes c.args.check c.on_done.new.self c.in_ok-act.act c.args.self.now
    c.in_ok-act.ensures.ok)
    c.step_check.ensures
