use Rattle.std.proofs.Common.{◌≡◌, Option, IfOk, sym, ap, subst, ◌∙◌}
use Rattle.std.specs.Option.{option_map}
use Rattle.cluster_script.specs.Index.{request_seen}
use Rattle.sheep_node.specs.declared.input.Input.{Input}
use Rattle.sheep_world.proofs.ScriptLookUps.{input_of-request, input_of-none}
use Rattle.sheep_world.proofs.script_requests.input_of.Goals as goal

pub returns-in-Some : goal.returns-in-Some
returns-in-Some c =
    subst (λ (wanted : Option Input). IfOk c.input_by.result (λ input. input ≡ wanted))
    (sym (input_of-request c.args.script.now c.args.req (request_seen c.in-Some.request)
    (sym (ap (option_map request_seen) c.in-Some.is) ∙ c.request.ensures))) c.input_by.ensures

pub returns-in-None : goal.returns-in-None
returns-in-None c =
    sym (input_of-none c.args.script.now c.args.req (sym (ap (option_map request_seen) c.in-None.is) ∙ c.request.ensures))
