use Rattle.vdi_directory.specs.Decisions.{log_effects}
use Rattle.overlap_law.specs.Headline.{ledger_of}
use Rattle.overlap_law.proofs.CarriedBlocks.{blocks_written}
use Rattle.overlap_law.proofs.CarriedTables.{good_id_at}
use Rattle.overlap_law.proofs.HistoryCarried.{stands-in_run, stands-by_tests}
use Rattle.overlap_law.proofs.HistoryToMake.{works_made}
use Rattle.overlap_law.proofs.NoRecoveredDue.{began-with_past}
use Rattle.overlap_law.proofs.ReadSoFar.{read_so_far}
use Rattle.overlap_law.proofs.whole.the_history_stands.Goals as goal

pub returns-clause-in_run : goal.returns-clause-in_run
returns-clause-in_run c = λ script range moves moment run. stands-in_run script range moves moment run

pub returns-clause-on_the_way : goal.returns-clause-on_the_way
returns-clause-on_the_way c = λ script moves move start moment end range run happens trail left good_id test.
    stands-by_tests script range moves move start end run happens good_id trail left test

pub returns-clause-written : goal.returns-clause-written
returns-clause-written c = λ script range moves moment run.
    blocks_written script range moves moment run (stands-in_run script range moves moment run).written

pub returns-clause-to_make : goal.returns-clause-to_make
returns-clause-to_make c = λ script range moves moment run.
    works_made script range moves moment run (good_id_at moment) (stands-in_run script range moves moment run).works

pub returns-clause-read : goal.returns-clause-read
returns-clause-read c = λ script range moves moment run.
    read_so_far script range moment.world (began-with_past script moves moment run) moment.past.attempts (ledger_of moment.past.history)
    (log_effects moment.world.log) (good_id_at moment) (stands-in_run script range moves moment run).reads
