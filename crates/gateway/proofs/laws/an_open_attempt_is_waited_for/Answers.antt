use Rattle.gateway.proofs.TryLaws.{open-waits}
use Rattle.gateway.proofs.laws.an_open_attempt_is_waited_for.Goals as goal

pub returns : goal.returns
returns c = open-waits
