use Rattle.overlap_law.proofs.PastInRuns.{change_past, past_in_run}
use Rattle.overlap_law.proofs.laws.what_is_asked_is_of_the_past.Goals as goal

pub returns-clause-change : goal.returns-clause-change
returns-clause-change c =
    λ script start before after range began change tied past. change_past script range start before after began change tied past

pub returns-clause-run : goal.returns-clause-run
returns-clause-run c = λ script moves moment range is. past_in_run script range moves moment is
