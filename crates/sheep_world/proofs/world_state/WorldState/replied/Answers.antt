use Rattle.std.proofs.Common.{None, refl}
use Rattle.sheep_world.proofs.world_state.WorldState.replied.Goals as goal

pub returns-clause-grown : goal.returns-clause-grown
returns-clause-grown c = c.in_ok-world.ensures.grown None refl
