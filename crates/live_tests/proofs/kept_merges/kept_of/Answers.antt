use Rattle.std.proofs.Common.{ℕ, ◌<◌, All, sym, subst}
use Rattle.std.specs.FinMap as tree
use Rattle.std.proofs.lemmas.List.Elements.{All-nil}
use Rattle.schedule.specs.Merged.{Kept}
use Rattle.live_run.proofs.KeptNumbers.{no_keys}
use Rattle.live_tests.proofs.kept_merges.kept_of.Goals as goal

pub add_cell-requires-clause-later : goal.add_cell-requires-clause-later
add_cell-requires-clause-later c =
    let below = λ (number : ℕ). number < c.in_ok-cell.cell.node.me.0 in
    subst (λ (kept : Kept). All below (tree.keys kept.cells)) (sym c.new-kept.ensures)
    (subst (All below) (sym no_keys) (All-nil below))
