use Rattle.std.proofs.Common.{ap, sym, ◌∙◌}
use Rattle.std.specs.FinMap as tree
use Rattle.proof_tools.proofs.FiniteMaps.{get-from_entries}
use Rattle.sheep_world.proofs.guests.Guests.get.Goals as goal

pub returns : goal.returns
returns c =
    c.get.ensures.value ∙ sym (get-from_entries c.self.inside.by_number.entries c.args.number)
    ∙ ap (λ seen. tree.get seen c.args.number) c.self.view_is
