use Rattle.sheep_world.proofs.ScriptControls.{controls-fit}
use Rattle.sheep_world.proofs.laws.the_controls_to_come_fit.Goals as goal

pub returns : goal.returns
returns c = controls-fit
