use Rattle.std.proofs.Common.{ap, sym, ◌∙◌}
use Rattle.std.specs.FinMap as tree
use Rattle.proof_tools.proofs.FiniteMaps.{get-from_entries}
use Rattle.proof_tools.proofs.SeenMaps.{remove-seen}
use Rattle.dog_report.proofs.held_lines.HeldLines.take.Goals as goal

pub returns-clause-value : goal.returns-clause-value
returns-clause-value c =
    c.remove.ensures.value ∙ sym (get-from_entries c.self.inside.by_number.entries c.args.number)
    ∙ ap (λ seen. tree.get seen c.args.number) c.self.view_is

pub returns-clause-others : goal.returns-clause-others
returns-clause-others c =
    remove-seen c.self.inside.by_number.entries c.remove.new.self.entries c.args.number c.remove.ensures.updates.0
    ∙ ap (λ seen. tree.remove seen c.args.number) c.self.view_is
