use Rattle.std.proofs.Common.{◌≡◌, false, ap, subst, All, ◌∙◌}
use Rattle.live_cells.specs.Cell.{CellState}
use Rattle.sheep_node.specs.PuttableEntries.{IsPuttable}
use Rattle.live_cells.proofs.CellLemmas.{live_node, node_is_live}
use Rattle.live_cells.proofs.PutLemmas.{all_puttable}
use Rattle.live_cells.proofs.node_cell.NodeCell.node.Goals as goal

pub returns-clause-value : goal.returns-clause-value
returns-clause-value c =
    node_is_live c.self.inside.node (c.self.invariant (ap (λ (cell : CellState). cell.spent) c.self.view_is ∙ c.requires)).0
    ∙ ap (λ (cell : CellState). live_node cell.node) c.self.view_is

pub returns-clause-puts : goal.returns-clause-puts
returns-clause-puts c =
    let is = (c.self.invariant (ap (λ (cell : CellState). cell.spent) c.self.view_is ∙ c.requires)).1 in
    subst (λ (cell : CellState). All IsPuttable cell.node.outbox) c.self.view_is
    (all_puttable c.self.inside.node.node.me c.self.inside.node.node.outbox is.own_entries.entries is.valid_disks.to_put)
