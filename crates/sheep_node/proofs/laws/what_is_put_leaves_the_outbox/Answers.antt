use Rattle.sheep_node.proofs.StepLaws.{left_step}
use Rattle.sheep_node.proofs.laws.what_is_put_leaves_the_outbox.Goals as goal

pub returns : goal.returns
returns c = left_step
