use Rattle.std.proofs.Common.{ap, sym, ◌∙◌}
use Rattle.std.specs.ControlFlow.{break_value}
use Rattle.sheep_world.specs.Enabled.{enabled_events}
use Rattle.sheep_world.proofs.EnabledParts.{enabled_at-slice_get}
use Rattle.sheep_world.proofs.EnabledPlaces.{place_behind-slice_get}
use Rattle.sheep_world.proofs.world_state.WorldState.enabled_at.Goals as goal

pub returns-in-Continue : goal.returns-in-Continue
returns-in-Continue c =
    ap break_value (sym c.in-Continue.is ∙ c.pass_all.ensures)
    ∙ place_behind-slice_get (enabled_events c.args.script.now c.args.self.now) c.args.place
    ∙ sym (enabled_at-slice_get c.args.script.now c.args.self.now c.args.place)

pub returns-in-Break : goal.returns-in-Break
returns-in-Break c =
    ap break_value (sym c.in-Break.is ∙ c.pass_all.ensures)
    ∙ place_behind-slice_get (enabled_events c.args.script.now c.args.self.now) c.args.place
    ∙ sym (enabled_at-slice_get c.args.script.now c.args.self.now c.args.place)
