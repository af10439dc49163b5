use Rattle.peer_service.proofs.ServeLemmas.{read_row, read_waiting, read_none, read_changes_nothing}
use Rattle.peer_service.proofs.laws.what_a_read_tells.Goals as goal

pub returns : goal.returns
returns c = record { row = read_row; waiting = read_waiting; none = read_none; stays = read_changes_nothing }
