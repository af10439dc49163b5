use Rattle.overlap_law.proofs.WaitedInRuns.{waited-in_run}
use Rattle.overlap_law.proofs.works.works_are_waited_for.Goals as goal

pub returns : goal.returns
returns c = λ script moves moment range is. waited-in_run script range moves moment is
