use Rattle.sheep_world.proofs.SpelledPackets.{packets_spelled}
use Rattle.sheep_world.proofs.laws.what_is_in_the_wire_was_spelled.Goals as goal

pub returns : goal.returns
returns c = packets_spelled
