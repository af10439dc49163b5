use Rattle.sheep_node.proofs.StepChain.{step_chain}
use Rattle.sheep_node.proofs.laws.a_step_is_a_chain_of_changes.Goals as goal

pub returns : goal.returns
returns c = step_chain
