use Rattle.overlap_law.proofs.RepliesInFull.{done_on_disk}
use Rattle.overlap_law.proofs.reads_told.what_is_done_is_of_an_open_disk.Goals as goal

pub returns : goal.returns
returns c = done_on_disk
