use Rattle.overlap_law.proofs.UntouchedInRuns.{untouched-within, untouched-in_run}
use Rattle.overlap_law.proofs.laws.attempts_of_the_refused_are_mute.Goals as goal

pub returns-clause-within : goal.returns-clause-within
returns-clause-within c = λ script moves start moment range is trail. untouched-within script range moves start moment is trail

pub returns-clause-run : goal.returns-clause-run
returns-clause-run c = λ script moves moment range is. untouched-in_run script range moves moment is
