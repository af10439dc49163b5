use Rattle.std.proofs.Common.{◌≡◌, ◌≤◌, List, ℕ, IfOk, length, sym, subst}
use Rattle.object_id.specs.declared.limits.TheConstants.{INPUT_BYTES_MAX}
use Rattle.trace_text.proofs.PartLengths.{script_part-short, trace_part-short}
use Rattle.sheep.specs.declared.answer.Answer.{Answer}
use Rattle.sheep.proofs.AnswerParts.{replayed-parts}
use Rattle.sheep.proofs.answer.answer_replay.Goals as goal

pub parse-requires : goal.parse-requires
parse-requires c =
    subst (λ (part : List ℕ). length part ≤ INPUT_BYTES_MAX) (sym c.input_parts.ensures.script)
    (script_part-short c.args.input.now INPUT_BYTES_MAX c.requires)

pub replay_of-requires : goal.replay_of-requires
replay_of-requires c =
    subst (λ (part : List ℕ). length part ≤ INPUT_BYTES_MAX) (sym c.input_parts.ensures.trace)
    (trace_part-short c.args.input.now INPUT_BYTES_MAX c.requires)

pub returns-in-Ok : goal.returns-in-Ok
returns-in-Ok c =
    subst (λ (whole : Answer). IfOk c.replay_of.result (λ (answer : Answer). answer ≡ whole))
    (replayed-parts c.args.input.now c.input_parts.result.0.now c.input_parts.result.1.now c.in-Ok.script c.input_parts.ensures.script
    c.input_parts.ensures.trace c.in-Ok.ensures.exact) c.replay_of.ensures
