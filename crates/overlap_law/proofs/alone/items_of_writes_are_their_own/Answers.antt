use Rattle.overlap_law.proofs.AloneItemsInRuns.{own_items-in_run}
use Rattle.overlap_law.proofs.AloneItemsInSteps.{own_in_step}
use Rattle.overlap_law.proofs.alone.items_of_writes_are_their_own.Goals as goal

pub returns-clause-in_run : goal.returns-clause-in_run
returns-clause-in_run c = λ script moves moment range ran. own_items-in_run script range moves moment ran

pub returns-clause-in_step : goal.returns-clause-in_step
returns-clause-in_step c = λ script moves start stepping so_far range ran is by leads req request got opened at offset payload asked.
    own_in_step script range moves start ran stepping is by so_far leads req request got opened at offset payload asked
