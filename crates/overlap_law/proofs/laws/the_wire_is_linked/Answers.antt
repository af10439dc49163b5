use Rattle.overlap_law.proofs.WireInRuns.{change_come, linked-in_run, said-in_run, fenced-in_run}
use Rattle.overlap_law.proofs.laws.the_wire_is_linked.Goals as goal

pub returns-clause-linked : goal.returns-clause-linked
returns-clause-linked c = λ script moves moment range is. linked-in_run script range moves moment is

pub returns-clause-change : goal.returns-clause-change
returns-clause-change c = λ script start before after range began change come. change_come script range start before after began change come

pub returns-clause-said : goal.returns-clause-said
returns-clause-said c = λ script moves moment range is. said-in_run script range moves moment is

pub returns-clause-fenced : goal.returns-clause-fenced
returns-clause-fenced c = λ script moves moment range is. fenced-in_run script range moves moment is
