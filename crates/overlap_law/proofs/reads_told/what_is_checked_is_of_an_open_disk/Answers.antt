use Rattle.overlap_law.proofs.CheckRepliesInFull.{checked_on_disk}
use Rattle.overlap_law.proofs.reads_told.what_is_checked_is_of_an_open_disk.Goals as goal

pub returns : goal.returns
returns c = checked_on_disk
