use Rattle.std.proofs.Common.{List, cond, get_or, ◌==◌, ap, ◌∙◌, arith}
use Rattle.sheep_world.specs.declared.host_summary.HostSummary.{HostSummary}
use Rattle.sheep_world.specs.HostSummaries.{no_summary}
use Rattle.sheep_world.proofs.HostSummaryLemmas.{summary-there, up-there, beyond-there}
use Rattle.sheep_world.proofs.host_table.HostTable.put.Goals as goal

pub returns-then-node-ge-NODES_MAX : goal.returns-then-node-ge-NODES_MAX
returns-then-node-ge-NODES_MAX c = λ other below.
    beyond-there c.args.self.now c.args.node c.args.summary c.if-node-ge-NODES_MAX.true other below

pub index_mut-requires : goal.index_mut-requires
index_mut-requires c =
    let all = c.self.invariant.0 in
    omega (arith, all, c.if-node-ge-NODES_MAX.false, c.self.inside.by_number.ok.0)

pub invariant_of-self : goal.invariant_of-self
invariant_of-self c =
    up-there c.self.inside.by_number.items c.self.inside.up c.args.node c.args.summary c.self.invariant (omega (arith, c.if-node-ge-NODES_MAX.false))
    c.with_node-self-inside.result c.with_node-self-inside.ensures

pub returns : goal.returns
returns c = λ other below.
    summary-there c.self.inside.by_number.items c.self.inside.up c.args.node c.args.summary c.self.invariant (omega (arith, c.if-node-ge-NODES_MAX.false)) other
    ∙ ap (λ (summaries : List HostSummary). cond (other == c.args.node) c.args.summary (get_or summaries other no_summary)) c.self.view_is
