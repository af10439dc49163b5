use Rattle.std.proofs.Common.{sym, ◌∙◌}
use Rattle.sheep_world.proofs.EnabledPlaces.{behind-on, behind-found, messages, behind_messages}
use Rattle.sheep_world.proofs.world_state.WorldState.pass_behind_guests.Goals as goal

pub returns-in-Continue : goal.returns-in-Continue
returns-in-Continue c =
    c.pass_behind_messages.ensures
    ∙ behind-on c.args.script.now c.args.self.now
    (messages c.args.script.now c.args.self.now) (behind_messages c.args.script.now c.args.self.now)
    c.args.place c.in-Continue.left (sym c.in-Continue.is ∙ c.pass_messages.ensures)

pub returns-in-Break : goal.returns-in-Break
returns-in-Break c =
    behind-found c.args.script.now c.args.self.now
    (messages c.args.script.now c.args.self.now) (behind_messages c.args.script.now c.args.self.now)
    c.args.place c.in-Break.event (sym c.in-Break.is ∙ c.pass_messages.ensures)
