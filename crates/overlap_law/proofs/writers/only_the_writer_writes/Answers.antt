use Rattle.overlap_law.proofs.GrantedAttempts.{only_writer-in_run}
use Rattle.overlap_law.proofs.writers.only_the_writer_writes.Goals as goal

pub returns : goal.returns
returns c = λ script moves start moment range is trail. only_writer-in_run script range moves start moment is trail
