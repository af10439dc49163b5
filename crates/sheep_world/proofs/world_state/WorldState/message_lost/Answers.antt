use Rattle.std.proofs.Common.{◌≡◌, None, IfOk, ap, sym, subst, ◌∙◌}
use Rattle.std.specs.FinMap as tree
use Rattle.sheep_world.specs.Opening.{no_outputs}
use Rattle.sheep_world.specs.World.{World}
use Rattle.sheep_world.specs.Messages.{without_message}
use Rattle.sheep_world.proofs.LostMessages.{lost_in, lost-told, lost-untold}
use Rattle.sheep_world.proofs.StepHistories.{replies-before}
use Rattle.sheep_world.proofs.world_state.WorldState.message_lost.Goals as goal

pub returns-then-not-is_up-clause-world : goal.returns-then-not-is_up-clause-world
returns-then-not-is_up-clause-world c =
    lost-untold c.args.script.now c.args.name c.args.self c.without_message-world.result
    (c.without_message-world.ensures
    ∙ ap (without_message c.args.name)
    (c.with_losses.ensures ∙ ap (λ (world : World). record world { losses = c.losses_after-losses.result }) c.at_rest.ensures
    ∙ ap (λ losses. record c.args.self { losses = losses; input = None; outputs = no_outputs }) c.losses_after-losses.ensures))
    (sym c.is_up.ensures ∙ c.if-not-is_up.true)

pub returns-clause-world : goal.returns-clause-world
returns-clause-world c =
    subst (λ (world : World). IfOk c.replied.result (λ made. made.0 ≡ world))
    (lost-told c.args.script.now c.args.name c.args.self c.without_message-world.result
    (c.without_message-world.ensures
    ∙ ap (without_message c.args.name)
    (c.with_losses.ensures ∙ ap (λ (world : World). record world { losses = c.losses_after-losses.result }) c.at_rest.ensures
    ∙ ap (λ losses. record c.args.self { losses = losses; input = None; outputs = no_outputs }) c.losses_after-losses.ensures))
    (sym c.is_up.ensures ∙ c.if-not-is_up.false))
    c.replied.ensures.world

pub returns-clause-grown : goal.returns-clause-grown
returns-clause-grown c =
    replies-before c.args.script.now c.args.self (tree.remove c.args.self.wire c.args.name) c.losses_after-losses.result None no_outputs
    c.replied.result c.without_message-world.result c.new-none.result
    (c.without_message-world.ensures
    ∙ ap (without_message c.args.name)
    (c.with_losses.ensures ∙ ap (λ (world : World). record world { losses = c.losses_after-losses.result }) c.at_rest.ensures))
    c.new-none.ensures c.replied.ensures.grown
