-- A run as it is made and told.
use Rattle.std.specs.Prelude.{◌≡◌, false, List, fold, Some}
use Rattle.cluster_script.specs.declared.statement.Statement.{Statement}
use Rattle.disk_history.specs.declared.event.HistEvent.{HistEvent}
use Rattle.sheep_node.specs.declared.event.Event.{Event}
use Rattle.sheep_world.specs.Run.{run}
use Rattle.dog_report.specs.Report.{Report, empty_report, report_after, report_of, report_text}
use Rattle.dog_report.specs.Reporter.{IsReporterOf}
use Rattle.dog_report.specs.ToldPart.{counts_of}
use Rattle.sheep.specs.declared.told_run.ToldRun.{ToldRun}
use Rattle.sheep.specs.declared.told_run.FinishedRun.{FinishedRun}

-- the report in the making after these events
abbrev pub report_so_far : List Statement → List Event → Report
report_so_far statements events = fold (report_after statements) (empty_report statements) events

-- the events are a run of the script that led to the world, and the report is of them
pub record IsToldRun (statements : List Statement) (told : ToldRun) : Type 0 where
  pub live : told.world.spent ≡ false
  pub history : List HistEvent
  pub made : run statements told.events ≡ Some (record { world = told.world.world; history = history })
  pub same : (report_so_far statements told.events).world ≡ told.world.world
  pub reporter : IsReporterOf statements told.reporter (report_so_far statements told.events)

-- what was made is the run of these events, and the report is its whole report
pub record TellsRun (statements : List Statement) (events : List Event) (finished : FinishedRun) : Type 0 where
  pub same : finished.events ≡ events
  pub text : finished.report.text ≡ report_text (report_of statements events)
  pub counts : finished.report.counts ≡ counts_of (report_of statements events)
