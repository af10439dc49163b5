use Rattle.overlap_law.proofs.HistoryCarried.{bases_stand, strips_of_reads}
use Rattle.overlap_law.proofs.reads_told.what_strips_give_is_to_come.Goals as goal

pub returns-clause-bases : goal.returns-clause-bases
returns-clause-bases c = λ script moves move start end before after range way good_id test.
    bases_stand script range moves move start end before after way good_id test

pub returns-clause-comes : goal.returns-clause-comes
returns-clause-comes c = λ script moves move start end before after range way good_id test.
    strips_of_reads script range moves move start end before after way good_id test
