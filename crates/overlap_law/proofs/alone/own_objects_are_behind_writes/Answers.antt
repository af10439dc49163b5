use Rattle.overlap_law.proofs.AloneInRuns.{own-in_run}
use Rattle.overlap_law.proofs.alone.own_objects_are_behind_writes.Goals as goal

pub returns : goal.returns
returns c = λ script moves start moment range is trail. own-in_run script range moves start moment is trail
