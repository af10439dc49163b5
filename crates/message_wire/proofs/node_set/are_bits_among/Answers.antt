use Rattle.std.proofs.Common.{arith}
use Rattle.message_wire.proofs.NodeSetLemmas.{are_among}
use Rattle.message_wire.proofs.node_set.are_bits_among.Goals as goal

pub returns : goal.returns
returns c = are_among c.args.bits c.args.others (omega arith)
