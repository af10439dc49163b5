use Rattle.sheep_world.proofs.EventEffects.{begins-blocks}
use Rattle.sheep_world.proofs.laws.a_write_begins_each_block_once.Goals as goal

pub returns : goal.returns
returns c = begins-blocks
