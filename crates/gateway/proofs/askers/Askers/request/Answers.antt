use Rattle.std.proofs.Common.{ap, sym, ◌∙◌}
use Rattle.std.specs.FinMap as tree
use Rattle.proof_tools.proofs.FiniteMaps.{get-from_entries}
use Rattle.gateway.proofs.askers.Askers.request.Goals as goal

pub returns : goal.returns
returns c =
    c.copied.ensures ∙ c.get.ensures.value ∙ sym (get-from_entries c.self.inside.requests.entries c.args.number)
    ∙ ap (λ seen. tree.get seen c.args.number) c.self.view_is
