use Rattle.message_wire.proofs.NodeSetLemmas.{contains_node-none}
use Rattle.message_wire.proofs.node_set.NodeSet.new.Goals as goal

pub returns : goal.returns
returns c = contains_node-none
