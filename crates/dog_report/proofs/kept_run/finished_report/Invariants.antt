use Rattle.std.proofs.Common.{◌≡◌, false}
use Rattle.dog_report.specs.Reporter.{IsReporterOf}
use Rattle.dog_report.proofs.ReporterLaws.{report_of_first}
use Rattle.dog_report.proofs.kept_run.finished_report.Given as goal

-- the reporter has the report of the events so far, in the world behind them
abbrev pub invariant-loop-event : goal.invariant-loop-event
invariant-loop-event l = record {
  live : l.world.spent ≡ false;
  world : (report_of_first l.script l.events l.event-index).world ≡ l.world.world;
  told : IsReporterOf l.script l.reporter (report_of_first l.script l.events l.event-index);
}
