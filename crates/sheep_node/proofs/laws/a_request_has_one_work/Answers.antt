use Rattle.sheep_node.proofs.NumberChanges.{one_work_at_opening, one_work_stays}
use Rattle.sheep_node.proofs.laws.a_request_has_one_work.Goals as goal

pub returns : goal.returns
returns c = record { opens = one_work_at_opening; stays = one_work_stays }
