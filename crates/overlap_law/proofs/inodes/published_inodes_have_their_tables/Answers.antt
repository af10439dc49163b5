use Rattle.overlap_law.proofs.PublishedTables.{published_in_run}
use Rattle.overlap_law.proofs.inodes.published_inodes_have_their_tables.Goals as goal

pub returns : goal.returns
returns c = λ script moves start moment range is trail. published_in_run script range moves start moment is trail
