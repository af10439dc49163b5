use Rattle.std.proofs.Common.{◌≡◌, map, take}
use Rattle.gateway_queue.specs.declared.queue.Queued.{Queued}
use Rattle.sheep_node.proofs.waiting.numbers_of.Given as goal

abbrev pub invariant-loop-queued : goal.invariant-loop-queued
invariant-loop-queued l = l.reqs.items ≡ map (λ (queued : Queued). queued.req) (take l.queued-index l.queue)
