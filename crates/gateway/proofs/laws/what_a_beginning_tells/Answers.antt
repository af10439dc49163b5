use Rattle.gateway.proofs.SendLaws.{attempt_step-begins}
use Rattle.gateway.proofs.laws.what_a_beginning_tells.Goals as goal

pub returns : goal.returns
returns c = attempt_step-begins
