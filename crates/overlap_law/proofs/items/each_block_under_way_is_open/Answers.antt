use Rattle.overlap_law.proofs.StartedWrites.{blocks_open-in_run}
use Rattle.overlap_law.proofs.items.each_block_under_way_is_open.Goals as goal

pub returns : goal.returns
returns c = λ script moves moment range is. blocks_open-in_run script range moves moment is
