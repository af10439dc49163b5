use Rattle.sheep_node.proofs.RequestChanges.{requests_from_inputs}
use Rattle.sheep_node.proofs.laws.requests_come_from_inputs.Goals as goal

pub returns : goal.returns
returns c = requests_from_inputs
