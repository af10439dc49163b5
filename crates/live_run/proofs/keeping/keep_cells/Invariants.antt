use Rattle.std.proofs.Common.{◌<◌, ℕ, All}
use Rattle.std.specs.FinMap as tree
use Rattle.live_run.proofs.keeping.keep_cells.Given as goal

-- the cells that are kept have smaller numbers than those that are still to be kept
abbrev pub invariant-loop-slot : goal.invariant-loop-slot
invariant-loop-slot g l = All (λ (number : ℕ). number < l.least) (tree.keys l.kept.cells)
