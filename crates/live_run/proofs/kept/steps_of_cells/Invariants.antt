use Rattle.std.proofs.Common.{◌≡◌, take}
use Rattle.live_run.specs.KeptSteps.{steps_in}
use Rattle.live_run.proofs.kept.steps_of_cells.Given as goal

-- the steps of the cells so far
abbrev pub invariant-loop-cell : goal.invariant-loop-cell
invariant-loop-cell l = l.steps.items ≡ steps_in (take l.cell-index l.cells)
