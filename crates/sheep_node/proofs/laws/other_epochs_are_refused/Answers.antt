use Rattle.sheep_node.proofs.StepLaws.{older_answer, newer_answer}
use Rattle.sheep_node.proofs.laws.other_epochs_are_refused.Goals as goal

pub returns : goal.returns
returns c = record { older = older_answer; newer = newer_answer }
