use Rattle.gateway_queue.proofs.RequestOrder.{may_run-oldest}
use Rattle.gateway_queue.proofs.laws.the_oldest_may_run.Goals as goal

pub returns : goal.returns
returns c = may_run-oldest
