use Rattle.std.proofs.Common.{List, ap, ◌∙◌}
use Rattle.sheep_node.specs.declared.event.Event.{Event}
use Rattle.sheep_world.specs.EnabledPlaces.{place_behind}
use Rattle.sheep_world.proofs.SenderEvents.{sender-between}
use Rattle.sheep_world.proofs.world_state.WorldState.pass_sender.Goals as goal

pub returns-then-are_ends_up_at : goal.returns-then-are_ends_up_at
returns-then-are_ends_up_at c =
    c.pass_between_up.ensures
    ∙ ap (λ (found : List Event). place_behind found c.args.place)
    (sender-between c.args.script.now c.args.self.now c.args.sender (c.are_ends_up_at.ensures c.if-are_ends_up_at.true))

pub returns : goal.returns
returns c = c.pass_each_message.ensures
