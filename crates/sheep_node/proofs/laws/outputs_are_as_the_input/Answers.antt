use Rattle.sheep_node.proofs.StepResults.{step_says, step_gives, step_replies}
use Rattle.sheep_node.proofs.laws.outputs_are_as_the_input.Goals as goal

pub returns : goal.returns
returns c = record { say = step_says; put = step_gives; replies = step_replies }
