use Rattle.std.proofs.Common.{false, ap, ◌∙◌}
use Rattle.std.specs.Ordering.{nat_cmp}
use Rattle.std.specs.Option.{option_map_or}
use Rattle.std.specs.FinMap as tree
use Rattle.sheep_world.specs.declared.host_summary.HostSummary.{HostSummary}
use Rattle.sheep_world.specs.World.{Host, is_host_up}
use Rattle.sheep_world.proofs.hosts.Hosts.up_nodes.Goals as goal

pub returns : goal.returns
returns c = λ node below.
    c.up_nodes.ensures node below ∙ ap (λ (summary : HostSummary). summary.is_up) (c.self.invariant node below)
    ∙ ap (λ (hosts : tree.FinMap nat_cmp Host). option_map_or is_host_up (tree.get hosts node) false) c.self.view_is
