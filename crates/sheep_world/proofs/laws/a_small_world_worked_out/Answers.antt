use Rattle.sheep_world.proofs.SmallWorld.{small_enabled}
use Rattle.sheep_world.proofs.laws.a_small_world_worked_out.Goals as goal

pub returns : goal.returns
returns c = small_enabled
