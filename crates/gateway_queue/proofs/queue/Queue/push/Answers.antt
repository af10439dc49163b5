use Rattle.std.proofs.Common.{ap, ◌∙◌}
use Rattle.gateway_queue.specs.Queue.{is_queued, is_queue}
use Rattle.gateway_queue.proofs.QueueLemmas.{is_queue-push}
use Rattle.gateway_queue.proofs.queue.Queue.push.Goals as goal

pub invariant_of-self-2 : goal.invariant_of-self-2
invariant_of-self-2 c =
    ap is_queue c.in_ok-push.ensures.items
    ∙ is_queue-push c.self.inside.queued.items _ c.self.invariant (ap (is_queued c.args.req) c.self.view_is ∙ c.requires.new) c.requires.span
