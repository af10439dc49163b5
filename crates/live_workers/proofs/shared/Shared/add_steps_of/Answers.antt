use Rattle.std.proofs.Common.{rules}
use Rattle.std.proofs.lemmas.List.Elements.{All-same}
use Rattle.live_workers.specs.NewSteps.{IsKept}
use Rattle.live_workers.proofs.shared.Shared.add_steps_of.Goals.{in-Some-as_ref+in_ok-merged, in_default-as_ref}
use Rattle.live_workers.proofs.shared.Shared.add_steps_of.Goals as goal

pub returns-clause-kept : goal.returns-clause-kept
returns-clause-kept g c = elim c.match-as_ref.branch [
  | in-Some-as_ref+in_ok-merged w ↦
      All-same IsKept c.match-as_ref.steps.items w.add_steps_from.new.steps.items (search rules) w.in_ok-merged.ensures.kept
  | in_default-as_ref w ↦ All-same IsKept c.match-as_ref.steps.items c.args.steps.now.items (search rules) c.requires
]
