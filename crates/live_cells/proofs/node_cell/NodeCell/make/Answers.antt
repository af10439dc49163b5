use Rattle.std.proofs.Common.{◌≡◌, false, sym, ap, subst, ◌∙◌}
use Rattle.sheep_node.specs.May.{May}
use Rattle.live_cells.specs.Cell.{CellState}
use Rattle.live_cells.proofs.node_cell.NodeCell.make.Goals as goal

pub add_step-requires-clause-live : goal.add_step-requires-clause-live
add_step-requires-clause-live c =
    (c.self.invariant (ap (λ (cell : CellState). cell.spent) c.self.view_is ∙ c.requires.live)).0

pub add_step-requires-clause-may : goal.add_step-requires-clause-may
add_step-requires-clause-may c =
    subst (λ (cell : CellState). May c.args.draft.input cell.node) (sym c.self.view_is) c.requires.may

pub add_step-requires-clause-cell : goal.add_step-requires-clause-cell
add_step-requires-clause-cell c =
    (c.self.invariant (ap (λ (cell : CellState). cell.spent) c.self.view_is ∙ c.requires.live)).1
