use Rattle.std.proofs.Common.{ap, ◌∙◌}
use Rattle.sheep_world.specs.declared.host_summary.HostSummary.{HostSummary}
use Rattle.sheep_world.specs.Conditions.{may_put}
use Rattle.sheep_world.proofs.world_state.WorldState.may_put.Goals as goal

pub returns : goal.returns
returns c = ap (λ (summary : HostSummary). summary.may_put) c.summary.ensures ∙ ap (may_put c.args.node) c.self.view_is
