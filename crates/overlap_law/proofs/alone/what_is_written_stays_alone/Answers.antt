use Rattle.overlap_law.proofs.WrittenStays.{written-in_run}
use Rattle.overlap_law.proofs.alone.what_is_written_stays_alone.Goals as goal

pub returns : goal.returns
returns c = λ script moves start moment range is trail. written-in_run script range moves start moment is trail
