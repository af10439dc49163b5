use Rattle.std.proofs.Common.{sym, ◌∙◌}
use Rattle.sheep_world.specs.Enabled.{guest_events}
use Rattle.sheep_world.proofs.EnabledPlaces.{behind-on, behind-found, behind_guests, all-behind}
use Rattle.sheep_world.proofs.world_state.WorldState.pass_all.Goals as goal

pub returns-in-Continue : goal.returns-in-Continue
returns-in-Continue c =
    c.pass_behind_guests.ensures
    ∙ behind-on c.args.script.now c.args.self.now (guest_events c.args.script.now) (behind_guests c.args.script.now c.args.self.now)
    c.args.place c.in-Continue.left (sym c.in-Continue.is ∙ c.pass_guests.ensures)
    ∙ all-behind c.args.script.now c.args.self.now c.args.place

pub returns-in-Break : goal.returns-in-Break
returns-in-Break c =
    behind-found c.args.script.now c.args.self.now (guest_events c.args.script.now) (behind_guests c.args.script.now c.args.self.now)
    c.args.place c.in-Break.event (sym c.in-Break.is ∙ c.pass_guests.ensures)
    ∙ all-behind c.args.script.now c.args.self.now c.args.place
