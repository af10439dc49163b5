use Rattle.std.proofs.Common.{sym, ◌∙◌}
use Rattle.sheep_node.proofs.StepStates.{none_left}
use Rattle.sheep_node.proofs.session.leave_queue.Goals as goal

pub returns-else-is_queued : goal.returns-else-is_queued
returns-else-is_queued c = sym (none_left c.args.req c.args.queue.now (sym c.is_queued.ensures ∙ c.if-is_queued.false))
