use Rattle.std.proofs.Common.{ap, ◌∙◌}
use Rattle.sheep_world.specs.declared.host_summary.HostSummary.{HostSummary}
use Rattle.sheep_world.specs.Conditions.{may_retry}
use Rattle.sheep_world.proofs.world_state.WorldState.may_retry.Goals as goal

pub returns : goal.returns
returns c = ap (λ (summary : HostSummary). summary.may_retry) c.summary.ensures ∙ ap (may_retry c.args.node) c.self.view_is
