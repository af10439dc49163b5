use Rattle.overlap_law.proofs.UntouchedInRuns.{nothing_made-in_run}
use Rattle.overlap_law.proofs.laws.refused_requests_make_nothing.Goals as goal

pub returns : goal.returns
returns c = λ script moves moment range is. nothing_made-in_run script range moves moment is
