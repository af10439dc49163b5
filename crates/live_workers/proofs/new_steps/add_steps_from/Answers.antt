use Rattle.std.proofs.Common.{◌≡◌, List, length, subst}
use Rattle.std.specs.Prelude.{slice_range}
use Rattle.live_cells.specs.declared.step.Step.{Step}
use Rattle.live_workers.proofs.NewStepLemmas.{steps_of_a_cell, part_is_kept, more_are_kept}
use Rattle.live_workers.proofs.new_steps.add_steps_from.Goals as goal

pub returns-in_ok-add_copies-clause-kept : goal.returns-in_ok-add_copies-clause-kept
returns-in_ok-add_copies-clause-kept c =
    more_are_kept c.args.steps.now.items c.in-Some.new.now c.add_copies.new.steps.items c.in_ok-add_copies.ensures c.requires
    (part_is_kept c.args.cell.now.steps c.in-Some.new.now c.args.from (length c.args.cell.now.steps)
    (subst (λ (all : List Step). c.in-Some.new.now ≡ slice_range all c.args.from (length all)) c.steps-all.ensures.value
    c.in-Some.ensures.lookup.0.2)
    (steps_of_a_cell _ c.args.cell.now.steps _ c.steps-all.ensures.history))
