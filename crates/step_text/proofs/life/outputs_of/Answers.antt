use Rattle.std.proofs.Common.{sym, ◌∙◌}
use Rattle.step_text.proofs.life.outputs_of.Goals as goal

pub step-requires-clause-may : goal.step-requires-clause-may
step-requires-clause-may c =
    (c.conditions_are_tests.ensures.may c.args.input c.args.node.now.node).0 (sym c.may.ensures ∙ c.if-not-may.false)
