use Rattle.std.proofs.Common.{inl, inr, sym, ◌∙◌}
use Rattle.std.proofs.lemmas.Result.{on_ok_weaker}
use Rattle.step_text.specs.Traces.{IsLineTaken}
use Rattle.step_text.proofs.case.make_line.Goals as goal

-- the line is an event, or a client's
pub returns-in-Some-clause-taken : goal.returns-in-Some-clause-taken
returns-in-Some-clause-taken c =
    on_ok_weaker {
    Q = IsLineTaken c.args.script.now c.args.line.now c.args.world.now c.make_event.new.world
    } c.make_event.result (λ taken. inl (c.in-Some.event, sym c.event_in.ensures ∙ c.in-Some.is, taken)) c.make_event.ensures.taken

pub returns-in-None-clause-taken : goal.returns-in-None-clause-taken
returns-in-None-clause-taken c =
    on_ok_weaker {
    Q = IsLineTaken c.args.script.now c.args.line.now c.args.world.now c.make_client_line.new.world
    } c.make_client_line.result (λ taken. inr (sym c.event_in.ensures ∙ c.in-None.is, taken)) c.make_client_line.ensures.taken
