use Rattle.std.proofs.Common.{map, sym, ap, ◌∙◌}
use Rattle.std.specs.FinMap as tree
use Rattle.schedule.specs.Merged.{Kept}
use Rattle.live_run.specs.KeptSteps.{cell_entry}
use Rattle.live_run.proofs.KeptLemmas.{entries_cells}
use Rattle.live_run.proofs.kept.Kept.cells.Goals as goal

pub returns-clause-steps : goal.returns-clause-steps
returns-clause-steps c =
    ap (map cell_entry) c.as_slice.ensures.value
    ∙ sym (entries_cells c.self.inside.cells.items c.self.inside.others.items c.self.invariant)
    ∙ ap (λ (kept : Kept). tree.entries kept.cells) c.self.view_is
