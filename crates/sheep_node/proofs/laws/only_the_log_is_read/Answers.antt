use Rattle.sheep_node.proofs.StepResults.{step_reads, step_me}
use Rattle.sheep_node.proofs.laws.only_the_log_is_read.Goals as goal

pub returns : goal.returns
returns c = record { read = step_reads; own = step_me }
