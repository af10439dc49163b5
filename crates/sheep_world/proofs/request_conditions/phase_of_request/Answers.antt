use Rattle.std.proofs.Common.{sym, ap, ◌∙◌}
use Rattle.std.specs.Option.{option_map}
use Rattle.cluster_script.specs.Index.{request_seen}
use Rattle.sheep_world.proofs.ScriptLookUps.{request-indexed_at, none-indexed_at, phase_of_request-none}
use Rattle.sheep_world.proofs.request_conditions.phase_of_request.Goals as goal

pub returns-in-Some : goal.returns-in-Some
returns-in-Some c =
    sym (request-indexed_at c.args.script.now c.args.req (request_seen c.in-Some.request)
    (sym (ap (option_map request_seen) c.in-Some.is) ∙ c.request.ensures)).phase

pub returns-in-None : goal.returns-in-None
returns-in-None c =
    c.phase_count.ensures
    ∙ sym (phase_of_request-none c.args.script.now c.args.req
    (none-indexed_at c.args.script.now c.args.req (sym (ap (option_map request_seen) c.in-None.is) ∙ c.request.ensures)))
