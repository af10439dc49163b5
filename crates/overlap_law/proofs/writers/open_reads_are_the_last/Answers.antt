use Rattle.overlap_law.proofs.LastReads.{last_reads-in_run}
use Rattle.overlap_law.proofs.writers.open_reads_are_the_last.Goals as goal

pub returns : goal.returns
returns c = λ script moves start moment range is trail. last_reads-in_run script range moves start moment is trail
