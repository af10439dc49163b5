use Rattle.std.proofs.Common.{◌≡◌, ◌++◌, List, map, ap, ◌∙◌}
use Rattle.live_cells.specs.declared.step.Step.{Step}
use Rattle.schedule.specs.Merged.{all_steps}
use Rattle.live_merge.specs.Steps.{kept_step}
use Rattle.live_run.specs.KeptSteps.{steps_in}
use Rattle.live_run.proofs.KeptLemmas.{all_in_order}
use Rattle.live_run.proofs.kept.Kept.all_steps.Goals as goal

pub returns : goal.returns
returns c =
    let copied : c.add_copies.new.steps.items ≡ steps_in c.self.inside.cells.items ++ c.self.inside.others.items =
    c.in_ok-add_copies.ensures
    ∙ ap (λ (first : List Step). first ++ c.as_slice-2.result.now) (c.in_ok-steps.ensures ∙ ap steps_in c.as_slice.ensures.value)
    ∙ ap (λ (later : List Step). steps_in c.self.inside.cells.items ++ later) c.as_slice-2.ensures.value in
    ap (map kept_step) copied
    ∙ all_in_order c.self.inside.cells.items c.self.inside.others.items c.self.invariant
    ∙ ap all_steps c.self.view_is
