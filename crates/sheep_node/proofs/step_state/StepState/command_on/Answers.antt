use Rattle.std.proofs.Common.{OnOk, ◌≡◌, subst}
use Rattle.vdi_ops.specs.Steps.{op_on_done}
use Rattle.vdi_ops.proofs.StepLemmas.{done_awaited}
use Rattle.sheep_node.specs.StepState.{StepState}
use Rattle.sheep_node.proofs.OneWorkChanges.{awaited_of}
use Rattle.sheep_node.proofs.CourseSteps.{commanded}
use Rattle.sheep_node.proofs.step_state.StepState.command_on.Goals as goal

pub step_command-requires-clause-awaited : goal.step_command-requires-clause-awaited
step_command-requires-clause-awaited c =
    awaited_of (op_on_done c.args.done.now.bytes c.args.op) (record { op = c.on_done.new.self; act = c.in_ok-act.act })
    (done_awaited c.args.done.now.bytes c.args.op) c.in_ok-act.ensures.ok

pub returns : goal.returns
returns c =
    subst (λ (after : StepState). OnOk c.step_command.result (c.step_command.new.self ≡ after))
    (commanded c.args.number c.args.done.now.req c.args.done.now.bytes c.args.op c.on_done.new.self c.in_ok-act.act c.args.self.now
    c.in_ok-act.ensures.ok)
    c.step_command.ensures
