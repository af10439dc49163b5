use Rattle.std.proofs.Common.{sym, ap, ◌∙◌}
use Rattle.std.specs.Option.{option_copied}
use Rattle.std.proofs.lemmas.Result.{IfOk-weaker}
use Rattle.sheep_world.specs.World.{node_at}
use Rattle.step_text.proofs.MayBeAsked.{found_says, none_says}
use Rattle.step_text.proofs.client_lines.may_be_asked.Goals as goal

-- the node says whether it may step on it
pub returns-in-Some : goal.returns-in-Some
returns-in-Some c =
    IfOk-weaker c.may_step.result _ _ (λ steps is.
    is
    ∙ found_says c.args.ask.now c.in-Some.node.now (node_at c.args.node.0 c.args.world.now.world)
    (sym (ap option_copied c.in-Some.is) ∙ c.node.ensures)) c.may_step.ensures

pub returns-in-None : goal.returns-in-None
returns-in-None c =
    none_says c.args.ask.now (node_at c.args.node.0 c.args.world.now.world) (sym (ap option_copied c.in-None.is) ∙ c.node.ensures)
