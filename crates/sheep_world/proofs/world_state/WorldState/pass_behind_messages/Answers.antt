use Rattle.std.proofs.Common.{sym, ◌∙◌}
use Rattle.sheep_world.proofs.EnabledPlaces.{behind-on, behind-found, nodes, last}
use Rattle.sheep_world.proofs.world_state.WorldState.pass_behind_messages.Goals as goal

pub returns-in-Continue : goal.returns-in-Continue
returns-in-Continue c =
    c.pass_next_control.ensures
    ∙ behind-on c.args.script.now c.args.self.now (nodes c.args.script.now c.args.self.now) (last c.args.script.now c.args.self.now)
    c.args.place c.in-Continue.left (sym c.in-Continue.is ∙ c.pass_nodes.ensures)

pub returns-in-Break : goal.returns-in-Break
returns-in-Break c =
    behind-found c.args.script.now c.args.self.now (nodes c.args.script.now c.args.self.now) (last c.args.script.now c.args.self.now)
    c.args.place c.in-Break.event (sym c.in-Break.is ∙ c.pass_nodes.ensures)
