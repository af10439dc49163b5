use Rattle.std.proofs.Common.{◌≡◌, false, ap, subst, ◌∙◌}
use Rattle.live_cells.specs.Opening.{IsOpening}
use Rattle.live_cells.specs.History.{Replays}
use Rattle.live_cells.specs.Cell.{CellState, opening_of, IsCell}
use Rattle.live_cells.proofs.node_cell.NodeCell.steps.Goals as goal

pub returns-clause-history : goal.returns-clause-history
returns-clause-history c =
    subst (λ (cell : CellState). Replays (opening_of cell) cell.steps cell.node) c.self.view_is
    (c.self.invariant (ap (λ (cell : CellState). cell.spent) c.self.view_is ∙ c.requires)).1.history

pub returns-clause-opening : goal.returns-clause-opening
returns-clause-opening c =
    subst (λ (cell : CellState). IsOpening (opening_of cell)) c.self.view_is
    (c.self.invariant (ap (λ (cell : CellState). cell.spent) c.self.view_is ∙ c.requires)).1.opening
