use Rattle.overlap_law.proofs.BlocksInRuns.{blocks-in_run}
use Rattle.overlap_law.proofs.items.disks_of_the_history_have_their_blocks.Goals as goal

pub returns : goal.returns
returns c = λ script moves moment range is. blocks-in_run script range moves moment is
