use Rattle.overlap_law.proofs.HistoryCarried.{holes_come, pieces_come, go_on}
use Rattle.overlap_law.proofs.legal.what_reads_come_to_is_to_come.Goals as goal

pub returns-clause-holes : goal.returns-clause-holes
returns-clause-holes c = λ script moves move start end before after range way good_id test.
    holes_come script range moves move start end before after way good_id test

pub returns-clause-pieces : goal.returns-clause-pieces
returns-clause-pieces c = λ script moves move start end before after range way good_id test.
    pieces_come script range moves move start end before after way good_id test

pub returns-clause-go_on : goal.returns-clause-go_on
returns-clause-go_on c = λ script moves move start end before after range way good_id test.
    go_on script range moves move start end before after way good_id test
