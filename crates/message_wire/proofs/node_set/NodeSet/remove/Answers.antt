use Rattle.message_wire.proofs.NodeSetLemmas.{contains_node-clear, contains_node-absent}
use Rattle.message_wire.proofs.node_set.NodeSet.remove.Goals as goal

pub returns-then-node-lt-NUMBERS : goal.returns-then-node-lt-NUMBERS
returns-then-node-lt-NUMBERS c = λ other. contains_node-clear c.args.node.0 c.args.self.now.bits c.if-node-lt-NUMBERS.true other

pub returns-else-node-lt-NUMBERS : goal.returns-else-node-lt-NUMBERS
returns-else-node-lt-NUMBERS c = λ other. contains_node-absent c.args.node.0 c.args.self.now c.if-node-lt-NUMBERS.false other
