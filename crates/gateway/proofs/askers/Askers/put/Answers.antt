use Rattle.std.proofs.Common.{ap, ◌∙◌}
use Rattle.std.specs.FinMap as tree
use Rattle.proof_tools.proofs.SeenMaps.{insert-seen}
use Rattle.gateway.proofs.askers.Askers.put.Goals as goal

pub returns-clause-ok : goal.returns-clause-ok
returns-clause-ok c =
    insert-seen c.self.inside.requests.entries c.insert.new.self.entries c.args.number c.args.req c.in_ok-insert.ensures.updates.0
    ∙ ap (λ seen. tree.insert seen c.args.number c.args.req) c.self.view_is
