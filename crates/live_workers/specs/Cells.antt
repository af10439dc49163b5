-- The cell of a node by its number, as its lock keeps it, and whether its node may step.
use Rattle.std.specs.Prelude.{◌≡◌, ℕ, Bool, false, Option, None, Some}
use Rattle.sheep_node.specs.declared.input.Input.{Input}
use Rattle.sheep_node.specs.MayTests.{may}
use Rattle.live_cells.specs.Cell.{CellState}

-- a cell is that of the node of this number, as long as it isn't spent
abbrev pub IsCellOf : ℕ → CellState → Type 0
IsCellOf number cell = cell.spent ≡ false → cell.node.me.0 ≡ number

-- whether there is a cell whose node may step on an input
abbrev pub may_step : Input → Option CellState → Bool
may_step input None = false
may_step input (Some cell) = may input cell.node
