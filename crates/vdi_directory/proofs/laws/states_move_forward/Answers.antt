use Rattle.vdi_directory.proofs.DecisionLaws.{states-forward}
use Rattle.vdi_directory.proofs.laws.states_move_forward.Goals as goal

pub returns : goal.returns
returns c = states-forward
