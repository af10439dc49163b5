use Rattle.sheep_world.proofs.StepsByCause.{steps_on_may}
use Rattle.sheep_world.proofs.WireAtEvents.{is_ready}
use Rattle.sheep_world.proofs.laws.nodes_step_on_what_they_may.Goals as goal

pub returns : goal.returns
returns c = λ statements world node host cause holds there up caused beside.
    steps_on_may statements world node host cause caused (is_ready statements world holds node host there up) beside
