use Rattle.std.proofs.Common.{Err, map, ap}
use Rattle.live_merge.specs.Steps.{kept_step}
use Rattle.live_merge.proofs.OpeningLemmas.{clash-told, opening_clash}
use Rattle.live_merge.proofs.merge.merge_from_opening.Goals as goal

pub returns-in_err-merge_round-clause-clash : goal.returns-in_err-merge_round-clause-clash
returns-in_err-merge_round-clause-clash c = λ place is.
    opening_clash c.args.script.now (map kept_step c.args.steps.now) place c.in_ok-world.world c.new-run.result c.merge_round.new.run
    c.in_ok-world.ensures c.new-run.ensures
    (c.in_err-merge_round.ensures.clash place
    (ap Err (clash-told c.from_residual-in_err-merge_round.result c.in_err-merge_round.field-0.0 place c.from_residual-in_err-merge_round.ensures.1 is)))
