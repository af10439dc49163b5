use Rattle.std.proofs.Common.{◌≡◌, ℕ, Option, ap, subst, ◌∙◌}
use Rattle.std.specs.Option.{option_map}
use Rattle.sheep_node.specs.declared.check_write.CheckWrite.{CheckWrite}
use Rattle.sheep_node.specs.declared.input.Input.TheVariants as inputs
use Rattle.sheep_world.specs.World.{World}
use Rattle.sheep_world.specs.NodeSteps.{node_stepped, at_rest}
use Rattle.sheep_world.specs.Messages.{without_message}
use Rattle.sheep_world.specs.RepliesInParts.{AreRepliesAdded}
use Rattle.sheep_world.proofs.DeliveredHistory.{reply-history}
use Rattle.sheep_world.proofs.world_state.WorldState.reply_brought.Goals as goal

pub returns-clause-world : goal.returns-clause-world
returns-clause-world c =
    c.in_ok-world.ensures.world
    ∙ ap (node_stepped c.args.script.now c.args.name.sender.0 (inputs.Reply c.args.rsp))
    (c.without_message.ensures ∙ ap (without_message c.args.name) c.at_rest.ensures)

pub returns-clause-grown : goal.returns-clause-grown
returns-clause-grown c =
    reply-history c.args.script.now c.args.name c.args.self c.args.rsp c.in_ok-write.write c.in_ok-world.world c.in_ok-begun.begun
    c.in_ok-world.grown c.in_ok-write.ensures c.in_ok-begun.ensures
    (c.in_ok-world.ensures.world
    ∙ ap (node_stepped c.args.script.now c.args.name.sender.0 (inputs.Reply c.args.rsp))
    (c.without_message.ensures ∙ ap (without_message c.args.name) c.at_rest.ensures))
    (subst (λ (world : World).
    AreRepliesAdded c.args.script.now world (option_map (λ (write : CheckWrite). write.req) c.in_ok-write.write) c.in_ok-world.world
    c.in_ok-begun.begun c.in_ok-world.grown)
    (c.without_message.ensures ∙ ap (without_message c.args.name) c.at_rest.ensures)
    (subst (λ (write : Option ℕ).
    AreRepliesAdded c.args.script.now c.without_message.result write c.in_ok-world.world c.in_ok-begun.begun c.in_ok-world.grown)
    c.request_of.ensures c.in_ok-world.ensures.grown))
