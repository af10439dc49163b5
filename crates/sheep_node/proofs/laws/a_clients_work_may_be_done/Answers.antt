use Rattle.sheep_node.proofs.OutsideAskLaws.{asked_work}
use Rattle.sheep_node.proofs.laws.a_clients_work_may_be_done.Goals as goal

pub returns : goal.returns
returns c = asked_work
