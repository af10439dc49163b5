use Rattle.std.proofs.Common.{sym, ap, ◌∙◌}
use Rattle.std.specs.Option.{option_map}
use Rattle.cluster_script.specs.Index.{request_seen}
use Rattle.dog_report.proofs.RequestLaws.{lost-indexed, lost-none}
use Rattle.dog_report.proofs.requests.is_lost_request.Goals as goal

pub returns-in-Some : goal.returns-in-Some
returns-in-Some c =
    c.is_session_lost.ensures
    ∙ lost-indexed c.args.script.now c.args.number (request_seen c.in-Some.request) c.args.world.now.world
    (sym (sym (ap (option_map request_seen) c.in-Some.is) ∙ c.request.ensures))

pub returns-in-None : goal.returns-in-None
returns-in-None c =
    lost-none c.args.script.now c.args.number c.args.world.now.world
    (sym (sym (ap (option_map request_seen) c.in-None.is) ∙ c.request.ensures))
