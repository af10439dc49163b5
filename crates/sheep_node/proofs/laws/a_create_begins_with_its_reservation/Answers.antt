use Rattle.sheep_node.proofs.StepLaws.{create_step}
use Rattle.sheep_node.proofs.laws.a_create_begins_with_its_reservation.Goals as goal

pub returns : goal.returns
returns c = create_step
