use Rattle.overlap_law.proofs.CarriedTables.{tables-in_run}
use Rattle.overlap_law.proofs.MakingInRuns.{creates_first-in_run}
use Rattle.overlap_law.proofs.NothingLacked.{lacked-in_run, missing-in_run}
use Rattle.overlap_law.proofs.objects.no_object_is_lacked.Goals as goal

pub returns-clause-nowhere : goal.returns-clause-nowhere
returns-clause-nowhere c = λ script range moves moment is.
    lacked-in_run script range (creates_first-in_run script range)
    (λ earlier there so. (tables-in_run script range earlier there so).tables.tables) moves moment is

pub returns-clause-missing : goal.returns-clause-missing
returns-clause-missing c = λ script range is_script moves before event made is happened.
    missing-in_run script range (creates_first-in_run script range)
    (λ earlier there so. (tables-in_run script range earlier there so).tables.tables) moves before event made is happened
