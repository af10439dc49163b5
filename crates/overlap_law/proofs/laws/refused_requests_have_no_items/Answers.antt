use Rattle.overlap_law.proofs.ItemsInRuns.{refused_none-in_run}
use Rattle.overlap_law.proofs.laws.refused_requests_have_no_items.Goals as goal

pub returns : goal.returns
returns c = λ script moves moment range is req disk block refused.
    refused_none-in_run script range req moves moment is refused disk block
