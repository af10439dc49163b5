use Rattle.gateway_queue.proofs.RequestOrder.{earlier-lower}
use Rattle.gateway_queue.proofs.laws.earlier_has_the_lower_number.Goals as goal

pub returns : goal.returns
returns c = earlier-lower
