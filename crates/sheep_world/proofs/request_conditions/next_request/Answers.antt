use Rattle.std.proofs.Common.{◌≡◌, ℕ, length, ap, sym, subst, ◌≤◌, ◌∙◌}
use Rattle.std.specs.Prelude.{slice_get}
use Rattle.object_id.specs.declared.limits.TheConstants.{INPUT_BYTES_MAX}
use Rattle.cluster_script.specs.NumberedRequests.{numbers_of_session}
use Rattle.sheep_world.proofs.ScriptLookUps.{few-begun}
use Rattle.sheep_world.proofs.request_conditions.next_request.Goals as goal

pub returns-clause-room : goal.returns-clause-room
returns-clause-room c =
    few-begun c.args.script.now c.args.session _ c.request_of_session.result
    (c.request_of_session.ensures ∙ ap (slice_get (numbers_of_session c.args.script.now c.args.session)) c.begun.ensures)
    (subst (λ statements. length statements ≤ INPUT_BYTES_MAX) c.statements-statements.ensures.statements
    c.statements-statements.ensures.count)
