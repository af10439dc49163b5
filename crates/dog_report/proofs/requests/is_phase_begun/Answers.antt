use Rattle.std.proofs.Common.{nat_le, false, Option, sym, ap, ◌∙◌}
use Rattle.std.specs.Option.{option_map, option_map_or}
use Rattle.cluster_script.specs.Index.{IndexedRequest, request_seen}
use Rattle.dog_report.proofs.requests.is_phase_begun.Goals as goal

pub returns-in-Some : goal.returns-in-Some
returns-in-Some c =
    ap (λ (found : Option IndexedRequest). option_map_or (λ (request : IndexedRequest). nat_le request.phase c.args.phase) found false)
    (sym (ap (option_map request_seen) c.in-Some.is) ∙ c.request.ensures)

pub returns-in-None : goal.returns-in-None
returns-in-None c =
    ap (λ (found : Option IndexedRequest). option_map_or (λ (request : IndexedRequest). nat_le request.phase c.args.phase) found false)
    (sym (ap (option_map request_seen) c.in-None.is) ∙ c.request.ensures)
