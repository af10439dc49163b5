use Rattle.overlap_law.proofs.NoRowsStand.{no_rows_true-on_the_way}
use Rattle.overlap_law.proofs.TellersInMoments.{tellers-on_the_way}
use Rattle.overlap_law.proofs.WholeLists.{lists_whole-on_the_way}
use Rattle.overlap_law.proofs.searches.what_was_told_stays.Goals as goal

pub returns-clause-beyond : goal.returns-clause-beyond
returns-clause-beyond c = λ script moves start moment range is trail. tellers-on_the_way script range moves start moment is trail

pub returns-clause-lists : goal.returns-clause-lists
returns-clause-lists c = λ script moves start moment live range is trail.
    lists_whole-on_the_way script range moves start moment is trail live

pub returns-clause-no_rows : goal.returns-clause-no_rows
returns-clause-no_rows c = λ script moves start moment good range is trail.
    no_rows_true-on_the_way script range moves start moment is trail good
