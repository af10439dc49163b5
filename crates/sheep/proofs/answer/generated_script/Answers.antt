use Rattle.std.proofs.Common.{◌∙◌}
use Rattle.schedule.specs.GeneratedScript.{generated_text, generated_statements}
use Rattle.schedule.proofs.GeneratedLaws.{generated-read}
use Rattle.sheep.proofs.AnswerParts.{read-same}
use Rattle.sheep.proofs.answer.generated_script.Goals as goal

pub returns-in-Ok : goal.returns-in-Ok
returns-in-Ok c =
    read-same c.as_slice.result.now (generated_text c.args.number) c.in-Ok.script (generated_statements c.args.number) c.in-Ok.ensures.exact
    (c.as_slice.ensures ∙ c.in_ok-text.ensures) (generated-read c.args.number)
