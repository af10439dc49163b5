use Rattle.std.proofs.Common.{◌+◌}
use Rattle.object_id.specs.declared.limits.TheConstants.{INPUT_BYTES_MAX}
use Rattle.sheep.proofs.AnswerParts.{takes-none}
use Rattle.sheep.proofs.answer.answer_call.Goals as goal

pub returns-in_ok-answer_generated-in-Some-Gen-clause-takes : goal.returns-in_ok-answer_generated-in-Some-Gen-clause-takes
returns-in_ok-answer_generated-in-Some-Gen-clause-takes g c = takes-none (g.S.Source.left c.args.source.now) (INPUT_BYTES_MAX + 1)
