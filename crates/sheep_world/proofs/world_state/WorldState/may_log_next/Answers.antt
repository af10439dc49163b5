use Rattle.std.proofs.Common.{◌&&◌, nat_lt, length, ap, ◌∙◌}
use Rattle.std.specs.FinMap as tree
use Rattle.sheep_world.specs.Conditions.{may_log_next}
use Rattle.sheep_world.proofs.HostSummaryLemmas.{behind-by_summary}
use Rattle.sheep_world.proofs.world_state.WorldState.may_log_next.Goals as goal

pub returns : goal.returns
returns c =
    c.is_behind.ensures
    ∙ (λ i. (c.summary.ensures i).is_up && nat_lt (c.summary.ensures i).read_len (c.len.ensures i))
    ∙ behind-by_summary (tree.get c.self.inside.hosts c.args.node) (length c.self.inside.log)
    ∙ ap (may_log_next c.args.node) c.self.view_is
