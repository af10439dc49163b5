use Rattle.std.proofs.Common.{sym, ◌∙◌}
use Rattle.sheep_world.proofs.EnabledPlaces.{one-off, one-first, one-less}
use Rattle.sheep_world.proofs.world_state.WorldState.pass_event.Goals as goal

pub returns-then-not-is_enabled : goal.returns-then-not-is_enabled
returns-then-not-is_enabled c =
    one-off c.args.script.now c.args.self.now c.args.event c.args.place (sym c.is_enabled.ensures ∙ c.if-not-is_enabled.true)

pub returns-then-place-eq0 : goal.returns-then-place-eq0
returns-then-place-eq0 c =
    one-first c.args.script.now c.args.self.now c.args.event c.args.place (sym c.is_enabled.ensures ∙ c.if-not-is_enabled.false)
    c.if-place-eq0.true

pub returns : goal.returns
returns c =
    one-less c.args.script.now c.args.self.now c.args.event c.args.place (sym c.is_enabled.ensures ∙ c.if-not-is_enabled.false)
    c.if-place-eq0.false
