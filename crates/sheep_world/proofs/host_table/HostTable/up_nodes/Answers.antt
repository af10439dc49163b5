use Rattle.std.proofs.Common.{List, get_or, ap, ◌∙◌}
use Rattle.sheep_world.specs.declared.host_summary.HostSummary.{HostSummary}
use Rattle.sheep_world.specs.HostSummaries.{no_summary}
use Rattle.sheep_world.proofs.host_table.HostTable.up_nodes.Goals as goal

pub returns : goal.returns
returns c = λ node below.
    c.self.invariant.1 node below ∙ ap (λ (summaries : List HostSummary). (get_or summaries node no_summary).is_up) c.self.view_is
