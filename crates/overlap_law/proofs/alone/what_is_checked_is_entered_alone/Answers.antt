use Rattle.overlap_law.proofs.AloneCheckers.{check_entries}
use Rattle.overlap_law.proofs.ReadsToldTables.{inodes_along}
use Rattle.overlap_law.proofs.alone.what_is_checked_is_entered_alone.Goals as goal

pub returns : goal.returns
returns c = λ script moves start moment range ran trail good_id test n host at_host up req request opened check there at course good alive
    index inside own j entry comes.
    check_entries script range moves start moment ran trail n host at_host up req request there opened at check course good_id
    (inodes_along script range moves start ran good_id test.fewer test.above trail).tables good alive index inside own j entry comes
