use Rattle.overlap_law.proofs.AwaitedInMoments.{opening_awaited, change_awaited, awaited-in_run}
use Rattle.overlap_law.proofs.laws.packets_are_of_open_works.Goals as goal

pub returns-clause-opening : goal.returns-clause-opening
returns-clause-opening c = λ script. opening_awaited script

pub returns-clause-change : goal.returns-clause-change
returns-clause-change c =
    λ script start before after range began change tied awaited. change_awaited script range start before after began change tied awaited

pub returns-clause-run : goal.returns-clause-run
returns-clause-run c = λ script moves moment range is. awaited-in_run script range moves moment is
