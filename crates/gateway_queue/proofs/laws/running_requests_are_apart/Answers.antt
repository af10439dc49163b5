use Rattle.gateway_queue.proofs.RequestOrder.{running_apart}
use Rattle.gateway_queue.proofs.laws.running_requests_are_apart.Goals as goal

pub returns : goal.returns
returns c = running_apart
