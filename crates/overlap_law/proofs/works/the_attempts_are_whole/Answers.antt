use Rattle.overlap_law.proofs.WholeInRuns.{change_whole, whole-on_the_way}
use Rattle.overlap_law.proofs.works.the_attempts_are_whole.Goals as goal

pub returns-clause-change : goal.returns-clause-change
returns-clause-change c =
    λ script start before after range began change shaped are. change_whole script range start before after began change shaped are

pub returns-clause-run : goal.returns-clause-run
returns-clause-run c = λ script moves start moment range is trail. whole-on_the_way script range moves start moment is trail
