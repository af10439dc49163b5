use Rattle.std.proofs.Common.{ap, sym, ◌∙◌}
use Rattle.std.specs.Ordering.{nat_cmp}
use Rattle.std.specs.Option.{option_copied}
use Rattle.std.specs.FinMap as tree
use Rattle.sheep_world.specs.World.{Host}
use Rattle.sheep_world.specs.HostSummaries.{summary_of}
use Rattle.sheep_world.proofs.hosts.Hosts.summary.Goals as goal

pub returns-then-node-lt-NODES_MAX : goal.returns-then-node-lt-NODES_MAX
returns-then-node-lt-NODES_MAX c =
    c.summary_at.ensures ∙ c.self.invariant c.args.node c.if-node-lt-NODES_MAX.true
    ∙ ap (λ (hosts : tree.FinMap nat_cmp Host). summary_of (tree.get hosts c.args.node)) c.self.view_is

pub returns-in-Some : goal.returns-in-Some
returns-in-Some c = c.summary.ensures ∙ sym (ap summary_of (sym c.get.ensures ∙ ap option_copied c.in-Some.is))

pub returns-in-None : goal.returns-in-None
returns-in-None c = c.none.ensures ∙ sym (ap summary_of (sym c.get.ensures ∙ ap option_copied c.in-None.is))
