use Rattle.std.proofs.Common.{not, ap, ◌∙◌, rules}
use Rattle.std.proofs.lemmas.Fn.{filter_same}
use Rattle.gateway_queue.specs.Queue.{has_request_number, is_queue, queue_without}
use Rattle.gateway_queue.proofs.QueueLemmas.{is_queue-queue_without}
use Rattle.gateway_queue.proofs.queue.Queue.done.Goals as goal

pub invariant_of-self : goal.invariant_of-self
invariant_of-self c =
    ap is_queue (filter_same _ (λ queued. not (has_request_number c.args.req queued)) _ (λ x b f' k. search rules) _ _ c.retain.ensures.filtered)
    ∙ is_queue-queue_without c.args.req c.self.inside.queued.items c.self.invariant

pub returns : goal.returns
returns c =
    filter_same _ (λ queued. not (has_request_number c.args.req queued)) _ (λ x b f' k. search rules) _ _ c.retain.ensures.filtered
    ∙ ap (queue_without c.args.req) c.self.view_is
