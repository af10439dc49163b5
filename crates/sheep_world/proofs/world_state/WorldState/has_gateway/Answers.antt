use Rattle.std.proofs.Common.{◌&&◌, ◌==◌, ap, ◌∙◌}
use Rattle.std.specs.FinMap as tree
use Rattle.cluster_script.specs.Index.{session_seen}
use Rattle.sheep_world.specs.declared.host_summary.HostSummary.{HostSummary}
use Rattle.sheep_world.specs.Conditions.{has_gateway}
use Rattle.sheep_world.proofs.HostSummaryLemmas.{serves-by_summary}
use Rattle.sheep_world.proofs.world_state.WorldState.has_gateway.Goals as goal

pub returns : goal.returns
returns c =
    c.serves.ensures
    ∙ ap (λ (summary : HostSummary). summary.is_up && summary.incarnation == c.args.session.incarnation && summary.is_member) c.summary.ensures
    ∙ serves-by_summary (tree.get c.self.inside.hosts c.args.session.node) (session_seen c.args.session)
    ∙ ap (has_gateway (session_seen c.args.session)) c.self.view_is
