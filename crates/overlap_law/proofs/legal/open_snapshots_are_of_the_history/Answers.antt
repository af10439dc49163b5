use Rattle.overlap_law.proofs.OpenSnapshotsOfHistory.{snapshots_of_history}
use Rattle.overlap_law.proofs.legal.open_snapshots_are_of_the_history.Goals as goal

pub returns : goal.returns
returns c = λ script moves moment range run. snapshots_of_history script range moves moment run
