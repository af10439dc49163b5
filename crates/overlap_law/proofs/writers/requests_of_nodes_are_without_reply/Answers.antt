use Rattle.overlap_law.proofs.RequestsInRuns.{without_reply-in_run}
use Rattle.overlap_law.proofs.writers.requests_of_nodes_are_without_reply.Goals as goal

pub returns : goal.returns
returns c = λ script moves moment range is. without_reply-in_run script range moves moment is
