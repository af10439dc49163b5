use Rattle.std.proofs.Common.{sym, ap, ◌∙◌}
use Rattle.sheep_node.specs.SpentNode.{NodeOrSpent}
use Rattle.sheep_node.specs.MayTests.{may}
use Rattle.live_workers.proofs.steps.act.Goals as goal

pub act-requires-clause-may : goal.act-requires-clause-may
act-requires-clause-may g c = λ lifetimes outlive.
    (c.conditions_are_tests.ensures.may c.args.input c.args.cell.now.node).0
    (sym (c.may.ensures ∙ ap (λ (seen : NodeOrSpent). may c.args.input seen.node) c.node.ensures.value) ∙ c.if-not-may.false)
