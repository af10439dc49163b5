use Rattle.std.proofs.Common.{ap, ◌∙◌}
use Rattle.sheep_world.specs.declared.host_summary.HostSummary.{HostSummary}
use Rattle.sheep_world.specs.World.{is_up}
use Rattle.sheep_world.proofs.world_state.WorldState.is_up.Goals as goal

pub returns : goal.returns
returns c = ap (λ (summary : HostSummary). summary.is_up) c.summary.ensures ∙ ap (is_up c.args.node) c.self.view_is
