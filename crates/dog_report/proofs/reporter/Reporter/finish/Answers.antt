use Rattle.std.proofs.Common.{◌≡◌, ℕ, List, fold, sym, ap, subst, ◌∙◌}
use Rattle.dog_report.specs.declared.counts.Counts.{Counts}
use Rattle.dog_report.specs.Report.{finished_report}
use Rattle.dog_report.specs.ToldPart.{ToldPart, told_part_of}
use Rattle.dog_report.specs.Settling.{lines_with_last}
use Rattle.dog_report.specs.Reporter.{Reporter, IsReporterOf}
use Rattle.dog_report.proofs.ReporterLaws.{reporter-finishes}
use Rattle.dog_report.proofs.reporter.Reporter.finish.Goals as goal

pub returns : goal.returns
returns c = λ report here has.
    let script = c.args.script.now in
    let reporter : Reporter = record { lines = c.self.inside.lines; unsettled = c.self.inside.unsettled; next = c.self.inside.next } in
    let told : c.tell_later.new.lines.told ≡ told_part_of (finished_report script report)
    = reporter-finishes script report reporter c.args.world.now.world c.tell_all.new.lines c.tell_later.new.lines here
    (subst (λ (reporter : Reporter). IsReporterOf script reporter report) (sym c.self.view_is) has)
    (c.in_ok-tell_all.ensures ∙ ap (fold (lines_with_last script c.args.world.now.world) c.self.inside.lines) c.as_slice.ensures)
    c.in_ok-tell_later.ensures in (
      ap (λ (parts : List ℕ × Counts). parts.0) c.into_parts-text.ensures ∙ ap (λ (part : ToldPart). part.text) told,
      ap (λ (parts : List ℕ × Counts). parts.1) c.into_parts-text.ensures ∙ ap (λ (part : ToldPart). part.counts) told,
    )
