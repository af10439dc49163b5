use Rattle.std.proofs.Common.{◌++◌, List, take, sym, ap, ◌∙◌}
use Rattle.live_cells.specs.declared.step.Step.{Step}
use Rattle.live_run.specs.KeptSteps.{steps_in}
use Rattle.live_run.proofs.KeptLemmas.{steps_more}
use Rattle.live_run.proofs.kept.steps_of_cells.Goals as goal

pub loop-cell-preserved : goal.loop-cell-preserved
loop-cell-preserved c =
    c.in_ok-add_copies.ensures
    ∙ ap (λ (first : List Step). first ++ c.steps.result.now) c.loop-cell.invariant
    ∙ ap (λ (later : List Step). steps_in (take c.loop-cell.cell-index c.args.cells.now) ++ later) c.steps.ensures.value
    ∙ sym (steps_more c.args.cells.now c.loop-cell.cell-index c.cell-item.result c.loop-cell-test.true c.cell-item.is)
