use Rattle.overlap_law.proofs.EpochsOfAttempts.{change_begun, begun_in_run}
use Rattle.overlap_law.proofs.writers.attempts_are_of_epochs_that_began.Goals as goal

pub returns-clause-change : goal.returns-clause-change
returns-clause-change c = λ script start before after range began change begun. change_begun script range start began change begun

pub returns-clause-run : goal.returns-clause-run
returns-clause-run c = λ script moves moment range is. begun_in_run script range moves moment is
