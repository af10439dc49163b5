use Rattle.sheep_node.proofs.SpelledSends.{sends_spelled}
use Rattle.sheep_node.proofs.laws.what_a_step_sends_can_be_spelled.Goals as goal

pub returns : goal.returns
returns c = sends_spelled
