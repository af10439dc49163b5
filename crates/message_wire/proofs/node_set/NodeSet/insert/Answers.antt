use Rattle.std.proofs.Common.{arith}
use Rattle.message_wire.proofs.NodeSetLemmas.{contains_node-set}
use Rattle.message_wire.proofs.node_set.NodeSet.insert.Goals as goal

pub returns-clause-nodes : goal.returns-clause-nodes
returns-clause-nodes c = λ other. contains_node-set c.args.node.0 c.args.self.now.bits (omega (arith, c.if-node-ge-NUMBERS.false)) other
