use Rattle.std.proofs.Common.{ap, ◌∙◌}
use Rattle.sheep_world.specs.declared.host_summary.HostSummary.{HostSummary}
use Rattle.sheep_world.specs.World.{is_lost}
use Rattle.sheep_world.proofs.world_state.WorldState.is_lost.Goals as goal

pub returns : goal.returns
returns c = ap (λ (summary : HostSummary). summary.is_lost) c.summary.ensures ∙ ap (is_lost c.args.node) c.self.view_is
