use Rattle.std.proofs.Common.{◌≡◌, ℕ, nat_lt, List, [], sym, subst}
use Rattle.live_cells.specs.declared.step.Step.{Step}
use Rattle.live_cells.specs.Cell.{IsCell}
use Rattle.live_cells.proofs.CellLemmas.{cell_opens}
use Rattle.live_cells.proofs.node_cell.NodeCell.new.Goals as goal

pub invariant_of-result : goal.invariant_of-result
invariant_of-result c = λ live. (
  c.requires.live,
  subst (λ (steps : List Step). IsCell (nat_lt 0 c.read_len-has_read.result) c.args.node.node steps) (sym c.in_ok-steps.ensures)
      (subst (λ (read : ℕ). IsCell (nat_lt 0 read) c.args.node.node []) (sym c.read_len-has_read.ensures)
      (cell_opens c.args.node.node c.requires.opening)),
)
