use Rattle.std.proofs.Common.{sym, ◌∙◌}
use Rattle.sheep_world.proofs.EnabledPlaces.{idle-passed}
use Rattle.sheep_world.proofs.world_state.WorldState.pass_node.Goals as goal

pub returns-then-not-may_act : goal.returns-then-not-may_act
returns-then-not-may_act c =
    idle-passed c.args.script.now c.args.self.now c.args.node.0 c.args.place (sym c.may_act.ensures ∙ c.if-not-may_act.true)
