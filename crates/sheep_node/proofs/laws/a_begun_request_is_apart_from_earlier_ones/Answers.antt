use Rattle.sheep_node.proofs.TurnChanges.{in_turn_at_opening, stay_in_turn}
use Rattle.sheep_node.proofs.laws.a_begun_request_is_apart_from_earlier_ones.Goals as goal

pub returns : goal.returns
returns c = record { opens = in_turn_at_opening; stays = stay_in_turn }
