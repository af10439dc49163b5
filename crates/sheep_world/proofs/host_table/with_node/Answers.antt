use Rattle.sheep_world.proofs.HostSummaryLemmas.{set-with, set-without}
use Rattle.sheep_world.proofs.host_table.with_node.Goals as goal

pub returns-then-is_in : goal.returns-then-is_in
returns-then-is_in c =
    set-with c.args.nodes c.insert.new.self c.args.node.0 c.args.is_in c.requires c.if-is_in.true c.insert.ensures.nodes

pub returns : goal.returns
returns c =
    set-without c.args.nodes c.remove.new.self c.args.node.0 c.args.is_in c.if-is_in.false c.remove.ensures
