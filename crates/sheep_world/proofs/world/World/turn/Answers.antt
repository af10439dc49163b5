use Rattle.std.proofs.Common.{sym, ap, ◌∙◌}
use Rattle.sheep_world.specs.ClientSteps.{next_driven}
use Rattle.sheep_world.proofs.DrivenEvents.{driven-enabled}
use Rattle.sheep_world.proofs.world.World.turn.Goals as goal

pub make-requires-clause-enabled : goal.make-requires-clause-enabled
make-requires-clause-enabled c =
    driven-enabled c.args.script.now c.args.self.now.world c.in-Some.event
    (ap (next_driven c.args.script.now) (sym c.state.ensures) ∙ sym c.next_driven-next.ensures ∙ c.in-Some.is)
