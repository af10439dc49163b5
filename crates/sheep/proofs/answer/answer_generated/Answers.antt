use Rattle.std.proofs.Common.{ap, ◌∙◌}
use Rattle.sheep.specs.Answer.{done_answer}
use Rattle.sheep.proofs.AnswerParts.{generated-told}
use Rattle.sheep.proofs.answer.answer_generated.Goals as goal

pub returns : goal.returns
returns c =
    c.done.ensures
    ∙ ap done_answer (generated-told c.args.number c.in_ok-script.script c.in_ok-report.field-0 c.in_ok-generated_line.field-0
    c.in_ok-script.ensures c.in_ok-report.ensures c.in_ok-generated_line.ensures)
