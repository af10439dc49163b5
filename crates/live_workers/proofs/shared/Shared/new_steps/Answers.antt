use Rattle.std.proofs.Common.{rules}
use Rattle.std.proofs.lemmas.List.Elements.{All-same}
use Rattle.std.proofs.lemmas.List.Sorted.{All-permutation, IsNonDecreasingBy-from_sort_by_key}
use Rattle.live_cells.specs.declared.step.Step.{Step}
use Rattle.live_workers.specs.NewSteps.{IsKept}
use Rattle.live_workers.proofs.shared.Shared.new_steps.Goals.{in-Some+in_ok-add_steps_of, in_default}
use Rattle.live_workers.proofs.shared.Shared.new_steps.Goals as goal

pub loop-node-preserved : goal.loop-node-preserved
loop-node-preserved g c = elim c.match-get_mut.branch [
  | in-Some+in_ok-add_steps_of w ↦
      All-same IsKept c.match-get_mut.steps.items w.add_steps_of.new.steps.items (search rules) w.in_ok-add_steps_of.ensures.kept
  | in_default w ↦ All-same IsKept c.match-get_mut.steps.items c.loop-node.steps.items (search rules) c.loop-node.invariant
]

pub returns-clause-kept : goal.returns-clause-kept
returns-clause-kept g c =
    All-permutation IsKept c.add_others.new.steps.items c.sort_by_key.new.self.items c.sort_by_key.ensures.permutation
    c.in_ok-add_others.ensures.kept

pub returns-clause-ascending : goal.returns-clause-ascending
returns-clause-ascending g c =
    IsNonDecreasingBy-from_sort_by_key (λ (step : Step). step.stamp) c.sort_by_key.new.self.items c.in_ok-sort_by_key.ensures.sorted
    (λ a r q k. search rules)
