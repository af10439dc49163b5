use Rattle.std.proofs.Common.{OnOk, Option, Some, ◌≡◌, ◌∙◌, ap, sym, subst}
use Rattle.std.specs.Option.{option_copied}
use Rattle.object_id.specs.declared.node.NodeId.{NodeId}
use Rattle.inode.specs.Layout.{Content}
use Rattle.vdi_ops.specs.Op.{OpStep}
use Rattle.vdi_ops.specs.Steps.{begin_command}
use Rattle.sheep_node.specs.StepState.{StepState, session_in}
use Rattle.sheep_node.specs.Courses.{inode_open}
use Rattle.sheep_node.proofs.GuestSteps.{command_begun, begun_works, begun_awaited}
use Rattle.sheep_node.proofs.step_state.StepState.take_command.Goals as goal

pub step_command-requires-clause-work : goal.step_command-requires-clause-work
step_command-requires-clause-work c =
    begun_works c.me-me.result c.args.number c.args.ask (option_copied c.inode.result) (record { op = c.in_ok-op.op; act = c.in_ok-op.act }) c.in_ok-op.ensures.ok

pub step_command-requires-clause-awaited : goal.step_command-requires-clause-awaited
step_command-requires-clause-awaited c =
    begun_awaited c.me-me.result c.args.number c.args.ask (option_copied c.inode.result) (record { op = c.in_ok-op.op; act = c.in_ok-op.act }) c.in_ok-op.ensures.ok

pub returns : goal.returns
returns c =
    let step : OpStep = record { op = c.in_ok-op.op; act = c.in_ok-op.act } in
    let open_inode : Option Content = inode_open (session_in c.args.number c.args.self.now).disk in
    let begun : begin_command c.args.self.now.node.me c.args.number c.args.ask open_inode ≡ Some step
    = sym (ap (λ (me : NodeId). begin_command me c.args.number c.args.ask open_inode) c.me-me.ensures)
    ∙ sym (ap (λ (inode : Option Content). begin_command c.me-me.result c.args.number c.args.ask inode) c.inode.ensures)
    ∙ c.in_ok-op.ensures.ok in
    subst (λ (after : StepState). OnOk c.step_command.result (c.step_command.new.self ≡ after))
    (command_begun c.args.self.now c.args.number c.args.req c.args.ask step c.requires.entry begun)
    c.step_command.ensures
