use Rattle.std.proofs.Common.{◌≡◌, sym, ap, ◌∙◌}
use Rattle.std.specs.Option.{option_copied}
use Rattle.std.proofs.lemmas.Result.{IfOk-weaker}
use Rattle.run_tests.proofs.MayBeAsked.{asked-by_test}
use Rattle.run_tests.proofs.asks.may_be_asked.Goals as goal

-- the node that may step on it takes it
pub returns-in-Some : goal.returns-in-Some
returns-in-Some c =
    IfOk-weaker c.may_step.result _ _ (λ may steps is takes.
    asked-by_test 0 20000 c.args.ask.now c.args.world.now.world c.in-Some.node.now (sym (ap option_copied c.in-Some.is) ∙ c.node.ensures)
    (sym steps ∙ is) takes) c.may_step.ensures
