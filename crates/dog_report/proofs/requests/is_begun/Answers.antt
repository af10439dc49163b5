use Rattle.std.proofs.Common.{sym, ap, ◌∙◌}
use Rattle.std.specs.Option.{option_map}
use Rattle.cluster_script.specs.Index.{request_seen}
use Rattle.dog_report.proofs.RequestLaws.{begun-indexed, begun-none}
use Rattle.dog_report.proofs.requests.is_begun.Goals as goal

pub returns-in-Some : goal.returns-in-Some
returns-in-Some c =
    c.is_among_first.ensures
    ∙ begun-indexed c.args.script.now c.args.number c.begun.result (request_seen c.in-Some.request) c.args.world.now.world
    (sym (sym (ap (option_map request_seen) c.in-Some.is) ∙ c.request.ensures)) c.begun.ensures

pub returns-in-None : goal.returns-in-None
returns-in-None c =
    begun-none c.args.script.now c.args.number c.args.world.now.world
    (sym (sym (ap (option_map request_seen) c.in-None.is) ∙ c.request.ensures))
