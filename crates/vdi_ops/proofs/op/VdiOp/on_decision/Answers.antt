use Rattle.std.proofs.Common.{◌≡◌, List, Option, Some, is_some, ap, ◌∙◌, sym}
use Rattle.std.specs.Option.{option_copied}
use Rattle.inode.specs.Layout.{Content}
use Rattle.vdi_directory.specs.declared.effect.Effect.{Effect}
use Rattle.vdi_directory.specs.Decisions.{log_effects}
use Rattle.vdi_ops.specs.Op.{Op}
use Rattle.vdi_ops.specs.Steps.{decided_at, on_decision}
use Rattle.vdi_ops.specs.Stage.{op_stage, bare_op, step_to}
use Rattle.vdi_ops.proofs.MovedSteps.{decided-step, decided-some}
use Rattle.vdi_ops.proofs.op.VdiOp.on_decision.Goals as goal

pub after_decision-requires-clause-step : goal.after_decision-requires-clause-step
after_decision-requires-clause-step c =
    let op : Op = record { by = c.self.inside.by; session = c.self.inside.session; stage = op_stage c.self.inside.stage } in
    let known : List Effect = log_effects c.args.directory.now in
    let disk : Option Content = option_copied c.args.disk in
    ap (λ stage. is_some (decided_at known disk c.args.decision.now (bare_op op.by) (op_stage stage))) c.replace-stage.ensures.value
    ∙ decided-some known disk c.args.decision.now op
    (ap (λ (op : Op). is_some (on_decision known disk c.args.decision.now op)) c.self.view_is ∙ c.requires.step)

pub returns-in-Ok-clause-ok : goal.returns-in-Ok-clause-ok
returns-in-Ok-clause-ok c =
    let op : Op = record { by = c.self.inside.by; session = c.self.inside.session; stage = op_stage c.self.inside.stage } in
    let known : List Effect = log_effects c.args.directory.now in
    let disk : Option Content = option_copied c.args.disk in
    let made : decided_at known disk c.args.decision.now (bare_op op.by) op.stage ≡ Some (step_to (bare_op op.by) c.in-Ok.next) =
    ap (λ stage. decided_at known disk c.args.decision.now (bare_op op.by) (op_stage stage)) (sym c.replace-stage.ensures.value)
    ∙ c.in-Ok.ensures.ok in
    ap (on_decision known disk c.args.decision.now) (sym c.self.view_is) ∙ decided-step known disk c.args.decision.now op c.in-Ok.next made
