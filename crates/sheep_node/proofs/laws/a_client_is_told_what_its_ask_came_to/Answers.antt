use Rattle.sheep_node.proofs.OutsideAskLaws.{client_waits, client_decided, client_read}
use Rattle.sheep_node.proofs.laws.a_client_is_told_what_its_ask_came_to.Goals as goal

pub returns-clause-waits : goal.returns-clause-waits
returns-clause-waits c = client_waits

pub returns-clause-decided : goal.returns-clause-decided
returns-clause-decided c = client_decided

pub returns-clause-read : goal.returns-clause-read
returns-clause-read c = client_read
