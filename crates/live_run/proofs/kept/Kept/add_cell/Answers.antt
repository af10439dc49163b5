use Rattle.std.proofs.Common.{ℕ, ◌<◌, List, All, sym, subst}
use Rattle.std.specs.FinMap as tree
use Rattle.live_cells.specs.Cell.{CellState}
use Rattle.schedule.specs.Merged.{Kept}
use Rattle.live_run.specs.KeptSteps.{IsWellKept}
use Rattle.live_run.proofs.KeptLemmas.{cells_more}
use Rattle.live_run.proofs.kept.Kept.add_cell.Goals as goal

pub invariant_of-self-2 : goal.invariant_of-self-2
invariant_of-self-2 c =
    subst (λ (cells : List CellState). IsWellKept cells c.self.inside.others.items) (sym c.in_ok-push.ensures.items)
    (cells_more c.self.inside.cells.items c.self.inside.others.items c.args.cell c.self.invariant
    (subst (λ (kept : Kept). All (λ (number : ℕ). number < c.args.cell.node.me.0) (tree.keys kept.cells)) (sym c.self.view_is) c.requires.later)
    c.requires.live)
