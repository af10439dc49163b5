use Rattle.std.proofs.Common.{Err, ap}
use Rattle.sheep_world.specs.SpentWorld.{WorldOrSpent}
use Rattle.live_merge.specs.Steps.{kept_step}
use Rattle.live_merge.proofs.MergeLemmas.{step_refused}
use Rattle.live_merge.proofs.merge.merge_step.Goals as goal

pub returns-in-Err-NotEnabled-clause-made : goal.returns-in-Err-NotEnabled-clause-made
returns-in-Err-NotEnabled-clause-made c =
    let stays = c.in-Err-NotEnabled.ensures.unchanged (ap Err c.in-Err-NotEnabled.field-0-is) in
    step_refused c.args.script.now (kept_step c.args.step.now) c.args.world.now.world c.go_on.new.world.world c.args.run.now c.go_on.new.self
    (c.in-Err-NotEnabled.ensures.refused.0 (ap Err c.in-Err-NotEnabled.field-0-is)) (ap (λ (w : WorldOrSpent). w.world) stays.0) stays.1
