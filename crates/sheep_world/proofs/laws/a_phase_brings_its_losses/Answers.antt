use Rattle.sheep_world.proofs.EventEffects.{phase_is_present}
use Rattle.sheep_world.proofs.laws.a_phase_brings_its_losses.Goals as goal

pub returns : goal.returns
returns c = phase_is_present
