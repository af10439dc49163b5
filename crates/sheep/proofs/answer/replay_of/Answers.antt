use Rattle.std.proofs.Common.{List, ℕ, Err, sym, ap, ◌∙◌}
use Rattle.trace_text.specs.Lines.{lines_in}
use Rattle.sheep.specs.declared.status.Status.TheVariants.{BadTrace}
use Rattle.sheep.specs.Answer.{replayed_answer}
use Rattle.sheep.proofs.answer.replay_of.Goals as goal

pub returns-in-Err-Bad : goal.returns-in-Err-Bad
returns-in-Err-Bad c =
    let told = c.in-Err-Bad.ensures.bad c.in-Err-Bad.field-0-0.place (ap Err c.in-Err-Bad.field-0-is) in
    ap (λ (text : List ℕ). record { status = BadTrace; text = text }) c.in_ok-bad_event-in-Err-Bad.ensures
    ∙ ap (replayed_answer c.args.script.now (lines_in c.args.trace.now)) (sym told)
