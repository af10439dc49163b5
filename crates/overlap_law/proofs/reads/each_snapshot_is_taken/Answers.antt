use Rattle.overlap_law.proofs.ReadsInMoments.{taken-in_run}
use Rattle.overlap_law.proofs.reads.each_snapshot_is_taken.Goals as goal

pub returns : goal.returns
returns c = λ script moves start moment range is trail. taken-in_run script range moves start moment is trail
