use Rattle.overlap_law.proofs.SoundWaitersInRuns.{made_none-in_run}
use Rattle.overlap_law.proofs.sound.requests_that_wait_made_none.Goals as goal

pub returns : goal.returns
returns c = λ script moves start moment range is trail. made_none-in_run script range moves start moment is trail
