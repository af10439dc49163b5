use Rattle.std.proofs.Common.{subst}
use Rattle.std.proofs.lemmas.Result.{on_ok_weaker}
use Rattle.sheep_world.specs.SpentWorld.{WorldOrSpent}
use Rattle.trace_text.specs.Lines.{lines_in}
use Rattle.step_text.specs.Traces.{AreTaken}
use Rattle.step_text.specs.Cases.{HasEnd}
use Rattle.step_text.proofs.case.told.Goals as goal

-- the lines are taken from the opening world on
pub returns-clause-taken : goal.returns-clause-taken
returns-clause-taken c =
    on_ok_weaker {
    Q = HasEnd c.args.script.now (lines_in c.args.trace.now)
    } c.told_of.result (λ taken. record {
      now = c.told_of.new.world;
      taken =
          subst (λ (opened : WorldOrSpent). AreTaken c.args.script.now (lines_in c.args.trace.now) opened c.told_of.new.world)
          c.in_ok-world.ensures taken;
    }) c.told_of.ensures.taken
