use Rattle.overlap_law.proofs.PlacedInMoments.{placed-in_run}
use Rattle.overlap_law.proofs.rows.rows_are_at_targets.Goals as goal

pub returns : goal.returns
returns c = λ script moves moment range is. placed-in_run script range moves moment is
