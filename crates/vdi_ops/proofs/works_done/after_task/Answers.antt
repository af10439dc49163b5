use Rattle.std.proofs.Common.{ap, sym, ◌∙◌}
use Rattle.vdi_ops.specs.Op.{Copying}
use Rattle.vdi_ops.specs.Steps.{task_done}
use Rattle.vdi_ops.specs.Stage.{bare_op, id_numbers, op_task}
use Rattle.vdi_ops.proofs.works_done.after_task.Goals as goal

pub returns-in-Ok-after_tagging-clause-ok : goal.returns-in-Ok-after_tagging-clause-ok
returns-in-Ok-after_tagging-clause-ok c =
    c.in-Ok-after_tagging.ensures.ok c.args.bytes.now
    ∙ ap (λ task. task_done (bare_op c.args.by) c.args.vid c.args.bytes.now (op_task c.args.vid task)) (sym c.in-Tagging.is)

pub returns-in-Ok-after_copying-clause-ok : goal.returns-in-Ok-after_copying-clause-ok
returns-in-Ok-after_copying-clause-ok c =
    c.in-Ok-after_copying.ensures.ok
    ∙ ap (λ chain. task_done (bare_op c.args.by) c.args.vid c.args.bytes.now (Copying (id_numbers chain) c.in-Copying.header)) c.as_slice-in-Copying.ensures
    ∙ ap (λ task. task_done (bare_op c.args.by) c.args.vid c.args.bytes.now (op_task c.args.vid task)) (sym c.in-Copying.is)
