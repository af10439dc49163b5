use Rattle.sheep_node.proofs.OutsideAskLaws.{work_begins, entry_begins}
use Rattle.sheep_node.proofs.laws.a_clients_ask_begins_at_once.Goals as goal

pub returns-clause-work : goal.returns-clause-work
returns-clause-work c = work_begins

pub returns-clause-entry : goal.returns-clause-entry
returns-clause-entry c = entry_begins
