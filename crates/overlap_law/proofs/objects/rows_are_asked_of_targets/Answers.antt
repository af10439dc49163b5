use Rattle.overlap_law.proofs.TargetsInRuns.{targets-in_run}
use Rattle.overlap_law.proofs.objects.rows_are_asked_of_targets.Goals as goal

pub returns : goal.returns
returns c = λ script moves moment range ran. targets-in_run script range moves moment ran
