use Rattle.std.proofs.Common.{rules}
use Rattle.std.proofs.lemmas.List.Sorted.{answers_always}
use Rattle.live_cells.specs.declared.step.Step.{Step}
use Rattle.live_run.proofs.KeptLemmas.{by_stamp_kept}
use Rattle.live_run.proofs.kept.Kept.by_stamp.Goals as goal

pub returns : goal.returns
returns c =
    by_stamp_kept c.args.self.now c.in_ok-steps.steps.items c.sort_by_key.new.self.items c.in_ok-steps.ensures c.sort_by_key.ensures.permutation
    (c.in_ok-sort_by_key.ensures.sorted (λ (step : Step). step.stamp) (answers_always _ _ _ (λ f a r g h. search rules)))
    (c.sort_by_key.ensures.stable (λ (step : Step). step.stamp) (answers_always _ _ _ (λ f a r g h. search rules)))
