use Rattle.std.proofs.Common.{◌&&◌, Bool, false, ap, ◌∙◌}
use Rattle.std.specs.Option.{option_map_or}
use Rattle.std.specs.FinMap as tree
use Rattle.sheep_node.specs.LogReading.{is_epoch_member}
use Rattle.sheep_world.specs.World.{Host, World, is_host_up, is_up_with}
use Rattle.sheep_world.specs.declared.host_summary.HostSummary.{HostSummary}
use Rattle.sheep_world.specs.ClientAsks.{is_answered}
use Rattle.sheep_world.proofs.DrivenEvents.{ask-by_summary}
use Rattle.sheep_world.proofs.world_state.WorldState.may_client_ask.Goals as goal

pub returns : goal.returns
returns c =
    let by_node : Bool → Bool
    = λ answered. option_map_or (λ (host : Host). is_host_up host && is_epoch_member host.node)
    (tree.get c.self.inside.hosts c.args.node) false && answered in
    c.takes_asks.ensures
    ∙ ap (λ (summary : HostSummary). summary.is_up && summary.is_member && c.is_answered-answered.result) c.summary.ensures
    ∙ ask-by_summary (tree.get c.self.inside.hosts c.args.node) c.is_answered-answered.result
    ∙ ap by_node c.is_answered-answered.ensures
    ∙ ap (λ (world : World). is_up_with is_epoch_member c.args.node world && is_answered c.args.self.now) c.self.view_is
