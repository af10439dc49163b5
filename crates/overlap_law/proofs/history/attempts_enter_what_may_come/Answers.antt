use Rattle.overlap_law.proofs.EntersToCome.{enters_to_come}
use Rattle.overlap_law.proofs.ServedBackInRuns.{commands_write-by_tests}
use Rattle.overlap_law.proofs.history.attempts_enter_what_may_come.Goals as goal

pub returns : goal.returns
returns c = λ script moves move start end before after range way good_id test.
    enters_to_come script range moves start before after way.run way.behind way.change good_id
    (commands_write-by_tests script range moves move start end before after way good_id test)
