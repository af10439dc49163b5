use Rattle.overlap_law.proofs.RunsByChanges.{on_the_way}
use Rattle.overlap_law.proofs.WorksOfAttempts.{AreOfWorks, change_works, kept_works}
use Rattle.overlap_law.proofs.since.attempts_are_of_works.Goals as goal

pub returns-clause-change : goal.returns-clause-change
returns-clause-change c = λ script start before after range began change are. change_works script range start before after began change are

pub returns-clause-run : goal.returns-clause-run
returns-clause-run c = λ script moves start moment range is trail.
    on_the_way script AreOfWorks (kept_works script range) moves start moment is trail
