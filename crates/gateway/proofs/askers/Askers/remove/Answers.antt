use Rattle.std.proofs.Common.{ap, ◌∙◌}
use Rattle.std.specs.FinMap as tree
use Rattle.proof_tools.proofs.SeenMaps.{remove-seen}
use Rattle.gateway.proofs.askers.Askers.remove.Goals as goal

pub returns : goal.returns
returns c =
    remove-seen c.self.inside.requests.entries c.remove.new.self.entries c.args.number c.remove.ensures.updates.0
    ∙ ap (λ seen. tree.remove seen c.args.number) c.self.view_is
