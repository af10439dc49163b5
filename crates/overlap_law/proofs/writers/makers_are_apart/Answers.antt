use Rattle.overlap_law.proofs.MakersApart.{makers_apart-after, makers_apart-in_run}
use Rattle.overlap_law.proofs.writers.makers_are_apart.Goals as goal

pub returns-clause-change : goal.returns-clause-change
returns-clause-change c = λ script start before after range began change. makers_apart-after script range start began change

pub returns-clause-run : goal.returns-clause-run
returns-clause-run c = λ script moves start moment range is trail. makers_apart-in_run script range moves start moment is trail
