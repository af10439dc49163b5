use Rattle.std.proofs.Common.{inl, inr}
use Rattle.std.proofs.lemmas.Result.{on_ok_weaker}
use Rattle.step_text.specs.Traces.{IsMadeByClient}
use Rattle.step_text.proofs.client_lines.make_client_line.Goals as goal

-- the client asked, or waited for its reply
pub returns-in-Ok-Ask-clause-taken : goal.returns-in-Ok-Ask-clause-taken
returns-in-Ok-Ask-clause-taken c =
    on_ok_weaker {
    Q = IsMadeByClient c.args.script.now c.args.world.now c.make_ask.new.world
    } c.make_ask.result (λ asked. inl (c.in-Ok-Ask.node, c.in-Ok-Ask.ask, asked)) c.make_ask.ensures.taken

pub returns-in-Ok-Drive-clause-taken : goal.returns-in-Ok-Drive-clause-taken
returns-in-Ok-Drive-clause-taken c =
    on_ok_weaker {
    Q = IsMadeByClient c.args.script.now c.args.world.now c.drive.new.world
    } c.drive.result (λ driven. inr (c.in-Ok-Drive.turns, driven)) c.drive.ensures.taken
