use Rattle.overlap_law.proofs.WorksApart.{works_apart-in_run}
use Rattle.overlap_law.proofs.writers.works_are_apart.Goals as goal

pub returns : goal.returns
returns c = λ script moves moment range is. works_apart-in_run script range moves moment is
