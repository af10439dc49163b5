use Rattle.std.proofs.Common.{◌≡◌, ℕ, List, length, Option, Some, IfSome, ap, ◌∙◌, sym, subst}
use Rattle.vdi_ops.specs.InodeWorks.{CommandBeginsWork}
use Rattle.vdi_ops.specs.Op.{Op, OpStep, op_bytes_wanted}
use Rattle.vdi_ops.specs.Steps.{done_at, op_on_done}
use Rattle.vdi_ops.specs.Stage.{op_stage, bare_op, step_to}
use Rattle.vdi_ops.proofs.MovedSteps.{done-step}
use Rattle.vdi_ops.proofs.WorkLemmas.{done-work}
use Rattle.vdi_ops.proofs.op.VdiOp.on_done.Goals as goal

pub returns-in-Ok-clause-ok : goal.returns-in-Ok-clause-ok
returns-in-Ok-clause-ok c =
    let op : Op = record { by = c.self.inside.by; session = c.self.inside.session; stage = op_stage c.self.inside.stage } in
    let made : done_at c.args.done.now.bytes (bare_op op.by) op.stage ≡ Some (step_to (bare_op op.by) c.in-Ok.next) =
    ap (λ (bytes : List ℕ). done_at bytes (bare_op op.by) op.stage) (sym c.as_slice.ensures)
    ∙ ap (λ stage. done_at c.as_slice.result.now (bare_op op.by) (op_stage stage)) (sym c.replace-stage.ensures.value)
    ∙ c.in-Ok.ensures.ok in
    ap (op_on_done c.args.done.now.bytes) (sym c.self.view_is) ∙ done-step op c.args.done.now.bytes c.in-Ok.next made

pub returns-in-Ok-clause-work : goal.returns-in-Ok-clause-work
returns-in-Ok-clause-work c =
    let op : Op = record { by = c.self.inside.by; session = c.self.inside.session; stage = op_stage c.self.inside.stage } in
    let bytes : List ℕ = c.args.done.now.bytes in
    let made : done_at bytes (bare_op op.by) op.stage ≡ Some (step_to (bare_op op.by) c.in-Ok.next) =
    ap (λ (bytes : List ℕ). done_at bytes (bare_op op.by) op.stage) (sym c.as_slice.ensures)
    ∙ ap (λ stage. done_at c.as_slice.result.now (bare_op op.by) (op_stage stage)) (sym c.replace-stage.ensures.value)
    ∙ c.in-Ok.ensures.ok in
    let wanted : op_bytes_wanted op ≡ Some (length bytes) = ap op_bytes_wanted c.self.view_is ∙ c.requires in
    subst (λ (step : Option OpStep). IfSome step (λ step. CommandBeginsWork step.act)) (done-step op bytes c.in-Ok.next made)
    (done-work bytes op c.self.invariant wanted)
