use Rattle.overlap_law.proofs.AloneChecksTold.{all-on_the_way}
use Rattle.overlap_law.proofs.DoneReplies.{done_replied}
use Rattle.overlap_law.proofs.EndsKeepBlocks.{ends_keep}
use Rattle.overlap_law.proofs.NoRecoveredDue.{began-with_past}
use Rattle.overlap_law.proofs.PlacesKeepBlocks.{entries_keep-by_tests}
use Rattle.overlap_law.proofs.history.what_ends_keeps_blocks.Goals as goal

pub returns-clause-alone : goal.returns-clause-alone
returns-clause-alone c = λ script moves move start end before after range way good_id test.
    done_replied script range start (began-with_past script moves start way.run) good_id way.change
    (all-on_the_way script range moves move start end before after way good_id test)

pub returns-clause-keeps : goal.returns-clause-keeps
returns-clause-keeps c = λ script moves move start end before after range way good_id test.
    ends_keep script range moves start way.run good_id way.change way.behind
    (done_replied script range start (began-with_past script moves start way.run) good_id way.change
    (all-on_the_way script range moves move start end before after way good_id test))
    (entries_keep-by_tests script range moves move start end before after way good_id test)
