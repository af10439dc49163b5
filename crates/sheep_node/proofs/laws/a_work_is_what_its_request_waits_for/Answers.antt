use Rattle.sheep_node.proofs.WantedChanges.{works_wanted_at_opening, works_stay_wanted}
use Rattle.sheep_node.proofs.laws.a_work_is_what_its_request_waits_for.Goals as goal

pub returns : goal.returns
returns c = record { opens = works_wanted_at_opening; stays = works_stay_wanted }
