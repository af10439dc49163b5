use Rattle.std.proofs.Common.{sym, ◌∙◌}
use Rattle.step_text.proofs.MayBeAsked.{asked-by_test}
use Rattle.step_text.proofs.client_lines.make_ask.Goals as goal

-- the node that may step on it may be asked so
pub ask-requires-clause-asked : goal.ask-requires-clause-asked
ask-requires-clause-asked c takes =
    asked-by_test c.args.node c.args.ask c.args.world.now.world (sym c.in_ok-may_be_asked.ensures ∙ c.if-not-branch.false) takes
