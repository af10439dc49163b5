use Rattle.overlap_law.proofs.CarriedTables.{good_id_at}
use Rattle.overlap_law.proofs.HistoryTests.{test_of_end}
use Rattle.overlap_law.proofs.ServedBackInRuns.{commands_write-by_tests}
use Rattle.overlap_law.proofs.history.commands_write_what_may_come.Goals as goal

pub returns : goal.returns
returns c = λ script moves move start end before after range run happens trail change left.
    commands_write-by_tests script range moves move start end before after
    (record { run = run; happens = happens; behind = trail; change = change; left = left }) (good_id_at end)
    (test_of_end script move start end happens left)
