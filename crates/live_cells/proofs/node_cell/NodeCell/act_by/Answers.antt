use Rattle.std.proofs.Common.{◌≡◌, ◌<◌, ℕ, List, All, sym, subst}
use Rattle.live_cells.proofs.node_cell.NodeCell.act_by.Goals as goal

pub make-requires-clause-above : goal.make-requires-clause-above
make-requires-clause-above g c =
    subst (λ (used : List ℕ). All (λ (earlier : ℕ). earlier < c.in-Ok.stamp) used) (sym c.requires.used) c.in-Ok.ensures.above
