use Rattle.std.proofs.Common.{ap, ◌∙◌}
use Rattle.std.specs.FinMap as tree
use Rattle.proof_tools.proofs.SeenMaps.{insert-seen}
use Rattle.dog_report.proofs.held_lines.HeldLines.put.Goals as goal

pub returns : goal.returns
returns c =
    insert-seen c.self.inside.by_number.entries c.insert.new.self.entries c.args.number c.args.line c.in_ok-insert.ensures.updates.0
    ∙ ap (λ seen. tree.insert seen c.args.number c.args.line) c.self.view_is
