use Rattle.std.proofs.Common.{sym, ap, ◌∙◌}
use Rattle.std.specs.Option.{option_map}
use Rattle.cluster_script.specs.Index.{IndexedRequest, request_seen}
use Rattle.sheep_world.proofs.ScriptLookUps.{statement-indexed_at}
use Rattle.sheep_world.proofs.script_requests.statement_of.Goals as goal

pub returns-in-Some : goal.returns-in-Some
returns-in-Some c =
    ap (option_map (λ (request : IndexedRequest). request.statement)) (sym (ap (option_map request_seen) c.in-Some.is) ∙ c.request.ensures)
    ∙ statement-indexed_at c.args.script.now c.args.req

pub returns-in-None : goal.returns-in-None
returns-in-None c =
    ap (option_map (λ (request : IndexedRequest). request.statement)) (sym (ap (option_map request_seen) c.in-None.is) ∙ c.request.ensures)
    ∙ statement-indexed_at c.args.script.now c.args.req
