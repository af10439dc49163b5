use Rattle.std.proofs.Common.{fold, sym, ap, subst, ◌∙◌}
use Rattle.sheep_node.specs.declared.outputs.Outputs.{Outputs}
use Rattle.sheep_world.specs.World.{World}
use Rattle.dog_report.specs.ToldPart.{held_with}
use Rattle.dog_report.specs.Reporter.{Reporter, IsReporterOf}
use Rattle.dog_report.proofs.ReporterLaws.{reporter-made}
use Rattle.dog_report.proofs.reporter.Reporter.add_made.Goals as goal

pub returns : goal.returns
returns c = λ statements report made here has.
    reporter-made statements report
    (record { lines = c.self.inside.lines; unsettled = c.self.inside.unsettled; next = c.self.inside.next }) c.hold_all.new.self made
    (subst (λ (reporter : Reporter). IsReporterOf statements reporter report) (sym c.self.view_is) has)
    (c.in_ok-hold_all.ensures
    ∙ ap (λ (outputs : Outputs). fold held_with c.self.inside.lines.held outputs.replies)
    (c.outputs.ensures ∙ sym (ap (λ (world : World). world.outputs) here)))
