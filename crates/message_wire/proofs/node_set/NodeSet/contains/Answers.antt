use Rattle.std.proofs.Common.{sym, ◌∙◌}
use Rattle.std.proofs.lemmas.Bool.{le-ltb}
use Rattle.message_wire.proofs.NodeSetLemmas.{contains_node-then, contains_node-beyond}
use Rattle.message_wire.proofs.node_set.NodeSet.contains.Goals as goal

pub returns-then-node-lt-NUMBERS : goal.returns-then-node-lt-NUMBERS
returns-then-node-lt-NUMBERS c = contains_node-then c.args.node.0 c.args.self c.if-node-lt-NUMBERS.true

pub returns-else-node-lt-NUMBERS : goal.returns-else-node-lt-NUMBERS
returns-else-node-lt-NUMBERS c =
    le-ltb c.args.node.0 64 c.if-node-lt-NUMBERS.false ∙ sym (contains_node-beyond c.args.node.0 c.args.self c.if-node-lt-NUMBERS.false)
