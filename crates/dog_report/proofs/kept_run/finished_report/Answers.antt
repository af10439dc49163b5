use Rattle.std.proofs.Common.{◌≡◌, sym, ap, subst, ◌∙◌}
use Rattle.std.proofs.lemmas.Result.{IfOk-weaker}
use Rattle.dog_report.specs.declared.reporter.FinishedReport.{FinishedReport}
use Rattle.dog_report.specs.Report.{Report, finished_report, report_of, report_text}
use Rattle.dog_report.specs.ToldPart.{counts_of}
use Rattle.dog_report.specs.Reporter.{IsReporterOf}
use Rattle.dog_report.proofs.ReporterLaws.{report_of_first, report-more, report-ends}
use Rattle.dog_report.proofs.kept_run.finished_report.Goals as goal

pub loop-event-preserved : goal.loop-event-preserved
loop-event-preserved c =
    let script = c.args.script.now in
    let more = report-more script c.args.events.now c.loop-event.event-index _ c.loop-event-test.true in
    let after = c.in_ok-go_on.ensures.told (report_of_first script c.args.events.now c.loop-event.event-index)
    c.loop-event.invariant.world c.loop-event.invariant.told in
    record {
      live = c.in_ok-go_on.ensures.live;
      world = ap (λ (report : Report). report.world) more ∙ after.0;
      told = subst (λ (report : Report). IsReporterOf script c.go_on.new.reporter report) (sym more) after.1;
    }

pub returns-clause-text : goal.returns-clause-text
returns-clause-text c =
    let script = c.args.script.now in
    let events = c.args.events.now in
    IfOk-weaker c.finish.result
    (λ (finished : FinishedReport). (report : Report) → report.world ≡ c.loop-event.world.world
    → IsReporterOf script c.loop-event.reporter report
    → (finished.text ≡ report_text (finished_report script report)) × (finished.counts ≡ counts_of (finished_report script report)))
    (λ (finished : FinishedReport). finished.text ≡ report_text (report_of script events))
    (λ finished on. (on (report_of_first script events c.loop-event.event-index) c.loop-event.invariant.world c.loop-event.invariant.told).0
    ∙ ap report_text (report-ends script events c.loop-event.event-index c.loop-event-test.false))
    c.finish.ensures

pub returns-clause-counts : goal.returns-clause-counts
returns-clause-counts c =
    let script = c.args.script.now in
    let events = c.args.events.now in
    IfOk-weaker c.finish.result
    (λ (finished : FinishedReport). (report : Report) → report.world ≡ c.loop-event.world.world
    → IsReporterOf script c.loop-event.reporter report
    → (finished.text ≡ report_text (finished_report script report)) × (finished.counts ≡ counts_of (finished_report script report)))
    (λ (finished : FinishedReport). finished.counts ≡ counts_of (report_of script events))
    (λ finished on. (on (report_of_first script events c.loop-event.event-index) c.loop-event.invariant.world c.loop-event.invariant.told).1
    ∙ ap counts_of (report-ends script events c.loop-event.event-index c.loop-event-test.false))
    c.finish.ensures
