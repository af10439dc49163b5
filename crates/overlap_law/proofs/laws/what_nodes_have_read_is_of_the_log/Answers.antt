use Rattle.overlap_law.proofs.EpochsInRuns.{members-in_run, read-in_run, settled-in_run}
use Rattle.overlap_law.proofs.laws.what_nodes_have_read_is_of_the_log.Goals as goal

pub returns-clause-members : goal.returns-clause-members
returns-clause-members c = λ script moves moment range is. members-in_run script range moves moment is

pub returns-clause-read : goal.returns-clause-read
returns-clause-read c = λ script moves moment range is. read-in_run script range moves moment is

pub returns-clause-settled : goal.returns-clause-settled
returns-clause-settled c = λ script moves moment range is. settled-in_run script range moves moment is
