use Rattle.sheep_node.proofs.NodeLaws.{sends_at_most_1000}
use Rattle.sheep_node.proofs.laws.a_step_sends_at_most_1000.Goals as goal

pub returns : goal.returns
returns c = sends_at_most_1000
