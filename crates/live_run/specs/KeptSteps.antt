-- What contracts see of what a live cluster kept.
use Rattle.std.specs.Prelude.{◌≡◌, ◌<◌, ◌≤◌, ◌+◌, ℕ, false, List, [], ◌∷◌, ◌++◌, map, flat_map, All}
use Rattle.std.specs.Ordering.{nat_cmp}
use Rattle.std.specs.List.Sorted.{IsStrictlySortedBy}
use Rattle.std.specs.Map.{keys_of}
use Rattle.std.specs.FinMap as tree
use Rattle.cluster_script.specs.declared.statement.Statement.{Statement}
use Rattle.sheep_world.specs.Run.{initial_moment}
use Rattle.live_cells.specs.declared.step.Step.{Step}
use Rattle.live_cells.specs.Cell.{CellState}
use Rattle.schedule.specs.Merged.{Kept, KeptStep, IsByStamp, IsClashAt}
use Rattle.live_merge.specs.Steps.{kept_step}
use Rattle.live_workers.specs.OtherSteps.{IsOther}

-- the number of a cell's node, and its steps
abbrev pub cell_entry : CellState → ℕ × List KeptStep
cell_entry cell = (cell.node.me.0, map kept_step cell.steps)

-- the steps of these cells, one cell behind the other
abbrev pub steps_in : List CellState → List Step
steps_in cells = flat_map (λ (cell : CellState). cell.steps) cells

-- the cells by number, and the other steps
abbrev pub kept_steps_of : List CellState → List Step → Kept
kept_steps_of cells others = record { cells = tree.from_entries (map cell_entry cells); others = map kept_step others }

abbrev pub nothing_kept : Kept
nothing_kept = record { cells = tree.empty; others = [] }

-- with one cell more
abbrev pub with_cell : CellState → Kept → Kept
with_cell cell kept = record kept { cells = tree.insert kept.cells cell.node.me.0 (map kept_step cell.steps) }

-- with one other step more
abbrev pub with_other : Step → Kept → Kept
with_other step kept = record kept { others = kept.others ++ kept_step step ∷ [] }

-- no cell is spent, and they ascend by the numbers of their nodes; and at the other steps no node stepped
pub record IsWellKept (cells : List CellState) (others : List Step) : Type 0 where
  pub live : All (λ (cell : CellState). cell.spent ≡ false) cells
  pub ascending : IsStrictlySortedBy nat_cmp (keys_of (map cell_entry cells))
  pub of_no_node : All IsOther others

-- the steps that were kept clash at a place, by stamp
abbrev pub Clashes : List Statement → Kept → ℕ → Type 0
Clashes statements kept place =
    (steps : List KeptStep) × IsByStamp kept steps × IsClashAt statements (initial_moment statements) 0 steps place
