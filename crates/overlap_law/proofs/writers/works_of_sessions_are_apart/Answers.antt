use Rattle.overlap_law.proofs.MakersApart.{sessions_apart-after, sessions_apart-in_run}
use Rattle.overlap_law.proofs.writers.works_of_sessions_are_apart.Goals as goal

pub returns-clause-change : goal.returns-clause-change
returns-clause-change c = λ script start before after range began change. sessions_apart-after script range start began change

pub returns-clause-run : goal.returns-clause-run
returns-clause-run c = λ script moves start moment range is trail. sessions_apart-in_run script range moves start moment is trail
