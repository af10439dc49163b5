use Rattle.overlap_law.proofs.AloneInRuns.{entered_alone}
use Rattle.overlap_law.proofs.ReadsToldTables.{inodes_along}
use Rattle.overlap_law.proofs.alone.what_is_written_is_entered_alone.Goals as goal

pub returns : goal.returns
returns c = λ script moves start moment range ran trail good_id test n host at_host up req request opened payload stage piece rest there at
    course good alive offset index j front one entry cut among at_index inside comes.
    entered_alone script range moves start moment ran trail good_id
    (inodes_along script range moves start ran good_id test.fewer test.above trail).tables n host at_host up req request opened payload
    stage piece rest there at course good alive offset index j front one entry cut among at_index inside comes
