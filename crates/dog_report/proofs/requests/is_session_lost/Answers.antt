use Rattle.std.proofs.Common.{false, Option, sym, ap, ◌∙◌}
use Rattle.std.specs.Option.{option_map, option_map_or}
use Rattle.cluster_script.specs.Index.{session_seen}
use Rattle.cluster_script.specs.Sessions.{ScriptSession}
use Rattle.sheep_world.specs.Incarnations.{is_session_gone}
use Rattle.dog_report.proofs.requests.is_session_lost.Goals as goal

pub returns-in-Some : goal.returns-in-Some
returns-in-Some c =
    c.has_gone.ensures
    ∙ ap (λ (found : Option ScriptSession). option_map_or (λ (session : ScriptSession). is_session_gone session c.args.world.now.world) found false)
    (sym (ap (option_map session_seen) c.in-Some.is) ∙ c.session.ensures)

pub returns-in-None : goal.returns-in-None
returns-in-None c =
    ap (λ (found : Option ScriptSession). option_map_or (λ (session : ScriptSession). is_session_gone session c.args.world.now.world) found false)
    (sym (ap (option_map session_seen) c.in-None.is) ∙ c.session.ensures)
