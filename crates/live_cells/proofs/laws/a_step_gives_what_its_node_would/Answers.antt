use Rattle.live_cells.proofs.HistoryLemmas.{first_gives}
use Rattle.live_cells.proofs.laws.a_step_gives_what_its_node_would.Goals as goal

pub returns : goal.returns
returns c = first_gives
