use Rattle.sheep_node.proofs.QueueLengths.{queues_short_at_opening, queues_stay_short}
use Rattle.sheep_node.proofs.laws.a_queue_is_short.Goals as goal

pub returns : goal.returns
returns c = record { opens = queues_short_at_opening; stays = queues_stay_short }
