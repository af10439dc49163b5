use Rattle.sheep_world.proofs.AsksOfClients.{clients_ask}
use Rattle.sheep_world.proofs.AsksTaken.{steps_on_read}
use Rattle.sheep_world.proofs.laws.clients_ask_one_at_a_time.Goals as goal

pub returns : goal.returns
returns c = record { asks = clients_ask; may = steps_on_read }
