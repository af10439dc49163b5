use Rattle.overlap_law.proofs.UnwrittenInRuns.{reads_unwritten-on_the_way}
use Rattle.overlap_law.proofs.sound.blocks_that_are_read_are_not_written.Goals as goal

pub returns : goal.returns
returns c = λ script moves start moment range ran trail. reads_unwritten-on_the_way script range moves start ran trail
