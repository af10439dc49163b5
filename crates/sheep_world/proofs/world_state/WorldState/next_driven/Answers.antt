use Rattle.std.proofs.Common.{Option, sym, ap, ◌∙◌}
use Rattle.std.specs.ControlFlow.{break_value}
use Rattle.std.specs.Option.{option_or}
use Rattle.sheep_node.specs.declared.event.Event.{Event}
use Rattle.sheep_world.proofs.EnabledPlaces.{nodes}
use Rattle.sheep_world.proofs.FirstDriven.{first_enabled, driven-first}
use Rattle.sheep_world.proofs.world_state.WorldState.next_driven.Goals as goal

pub returns-in-Continue : goal.returns-in-Continue
returns-in-Continue c =
    c.next_of_nodes.ensures
    ∙ ap (λ (found : Option Event). option_or found (first_enabled c.args.script.now c.args.self.now (nodes c.args.script.now c.args.self.now)))
    (ap break_value (sym c.in-Continue.is ∙ c.pass_messages.ensures))
    ∙ sym (driven-first c.args.script.now c.args.self.now)

pub returns-in-Break : goal.returns-in-Break
returns-in-Break c =
    ap (λ (found : Option Event). option_or found (first_enabled c.args.script.now c.args.self.now (nodes c.args.script.now c.args.self.now)))
    (ap break_value (sym c.in-Break.is ∙ c.pass_messages.ensures))
    ∙ sym (driven-first c.args.script.now c.args.self.now)
