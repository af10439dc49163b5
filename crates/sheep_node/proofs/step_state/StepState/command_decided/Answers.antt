use Rattle.std.proofs.Common.{OnOk, ◌≡◌, subst}
use Rattle.peer_service.specs.State.{effects_of}
use Rattle.vdi_ops.specs.Steps.{on_decision}
use Rattle.vdi_ops.proofs.StepLemmas.{decision_awaited}
use Rattle.sheep_node.specs.StepState.{StepState, session_in}
use Rattle.sheep_node.specs.Courses.{inode_open}
use Rattle.sheep_node.proofs.OneWorkChanges.{awaited_of}
use Rattle.sheep_node.proofs.CourseSteps.{decided}
use Rattle.sheep_node.proofs.step_state.StepState.command_decided.Goals as goal

pub step_command-requires-clause-awaited : goal.step_command-requires-clause-awaited
step_command-requires-clause-awaited c =
    let known = effects_of c.args.self.now.node.peer in
    let disk = inode_open (session_in c.args.number c.args.self.now).disk in
    awaited_of (on_decision known disk c.args.decision.now c.args.op) (record { op = c.command_act.new.op; act = c.in_ok-act.act })
    (decision_awaited known disk c.args.decision.now c.args.op) c.in_ok-act.ensures.step

pub returns : goal.returns
returns c =
    subst (λ (after : StepState). OnOk c.step_command.result (c.step_command.new.self ≡ after))
    (decided c.args.number c.args.req c.args.decision.now c.args.op c.command_act.new.op c.in_ok-act.act c.args.self.now
    c.in_ok-act.ensures.step)
    c.step_command.ensures
