use Rattle.sheep_node.proofs.QueueChanges.{none_queued, queues_stay}
use Rattle.sheep_node.proofs.laws.a_queue_has_the_disk_requests.Goals as goal

pub returns : goal.returns
returns c = record { opens = λ me tries. none_queued; stays = queues_stay }
