use Rattle.overlap_law.proofs.FoundInRuns.{counted-in_run}
use Rattle.overlap_law.proofs.items.a_check_that_counts_has_begun_a_write.Goals as goal

pub returns : goal.returns
returns c = λ script moves moment range is. counted-in_run script range moves moment is
