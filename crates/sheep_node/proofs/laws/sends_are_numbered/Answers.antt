use Rattle.sheep_node.proofs.StepResults.{step_numbers, step_counts}
use Rattle.sheep_node.proofs.laws.sends_are_numbered.Goals as goal

pub returns : goal.returns
returns c = record { numbers = step_numbers; count = step_counts }
