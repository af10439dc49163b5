use Rattle.sheep_node.proofs.LogLaws.{opening_follows, step_follows}
use Rattle.sheep_node.proofs.laws.a_node_is_where_its_entries_have_it.Goals as goal

pub returns : goal.returns
returns c = record { opens = opening_follows; stays = step_follows }
