use Rattle.sheep_node.proofs.NodeLaws.{IsSoundNode-initial, IsSoundNode-step}
use Rattle.sheep_node.proofs.laws.a_node_stays_one.Goals as goal

pub returns : goal.returns
returns c = record { opens = IsSoundNode-initial; stays = IsSoundNode-step }
