use Rattle.message_wire.proofs.NodeSetLemmas.{is_subset}
use Rattle.message_wire.proofs.node_set.NodeSet.is_subset_of.Goals as goal

pub returns : goal.returns
returns c = is_subset c.args.self c.args.other c.are_bits_among.result c.are_bits_among.ensures
