use Rattle.overlap_law.proofs.ReadsInMoments.{reads_known-in_run}
use Rattle.overlap_law.proofs.reads.reads_are_known.Goals as goal

pub returns : goal.returns
returns c = λ script moves start moment range is trail. reads_known-in_run script range moves start moment is trail
