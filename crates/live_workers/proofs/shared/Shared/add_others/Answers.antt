use Rattle.std.proofs.Common.{rules}
use Rattle.std.proofs.lemmas.List.Elements.{All-same}
use Rattle.live_workers.specs.NewSteps.{IsKept}
use Rattle.live_workers.proofs.NewStepLemmas.{others_are_kept, part_is_kept, more_are_kept}
use Rattle.live_workers.proofs.shared.Shared.add_others.Goals.{in-Some+in_ok-add_copies, in_default}
use Rattle.live_workers.proofs.shared.Shared.add_others.Goals as goal

pub returns-clause-kept : goal.returns-clause-kept
returns-clause-kept g c = elim c.match-get.branch [
  | in-Some+in_ok-add_copies w ↦
      more_are_kept c.args.steps.now.items w.in-Some.new.now c.match-get.steps.items (search rules) c.requires
      (part_is_kept c.as_slice-all.result.now w.in-Some.new.now _ _ w.in-Some.ensures.lookup.0.2
      (others_are_kept c.as_slice-all.result.now c.as_slice-all.ensures.others))
  | in_default w ↦ All-same IsKept c.match-get.steps.items c.args.steps.now.items (search rules) c.requires
]
