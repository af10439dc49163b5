use Rattle.overlap_law.proofs.JoinedReads.{block_read}
use Rattle.overlap_law.proofs.told.blocks_are_read_through_their_strips.Goals as goal

pub returns : goal.returns
returns c = λ d p offset unit block messages is whole above is_block count points gave.
    block_read d p offset unit is whole above block is_block messages count points gave
