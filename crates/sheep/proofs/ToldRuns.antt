-- A run as it is made and told: before the first event, one event more, and behind the last.
use Rattle.std.proofs.Common.{◌≡◌, false, List, [], ◌∷◌, ◌++◌, Option, Some, refl, sym, ap, subst, ◌∙◌}
use Rattle.std.proofs.lemmas.List.Sums.{fold-append}
use Rattle.cluster_script.specs.declared.statement.Statement.{Statement}
use Rattle.sheep_node.specs.declared.event.Event.{Event}
use Rattle.sheep_world.specs.World.{World}
use Rattle.sheep_world.specs.Opening.{initial_world}
use Rattle.sheep_world.specs.SpentWorld.{WorldOrSpent}
use Rattle.sheep_world.specs.Step.{EventOutcome, step}
use Rattle.sheep_world.specs.Run.{run_from, run}
use Rattle.schedule.proofs.RunLaws.{run-one_more}
use Rattle.dog_report.specs.Report.{Report, empty_report, report_before_event, report_with_made, report_after, finished_report, report_of, report_text}
use Rattle.dog_report.specs.ToldPart.{counts_of}
use Rattle.dog_report.specs.Reporter.{Reporter, IsReporterOf}
use Rattle.dog_report.specs.declared.reporter.FinishedReport.{FinishedReport}
use Rattle.sheep.specs.declared.told_run.ToldRun.{ToldRun}
use Rattle.sheep.specs.ToldRun.{report_so_far, IsToldRun, TellsRun}

module _ (statements : List Statement) where
  -- the report in the making, with the event
  pub report-on : (events : List Event) (event : Event) (world : World) (made : EventOutcome)
      → (report_so_far statements events).world ≡ world → step statements event world ≡ Some made
      → report_so_far statements (events ++ event ∷ [])
      ≡ report_with_made (Some made) (report_before_event statements event (report_so_far statements events))
  report-on events event world made same steps =
      fold-append (report_after statements) (empty_report statements) events (event ∷ [])
      ∙ ap (λ (made : Option EventOutcome). report_with_made made (report_before_event statements event (report_so_far statements events)))
      (ap (step statements event) same ∙ steps)

  -- before the first event
  pub told-first : (told : ToldRun) → told.world ≡ record { spent = false; world = initial_world statements } → told.events ≡ []
      → IsReporterOf statements told.reporter (empty_report statements) → IsToldRun statements told
  unfolding run_from
  told-first told at none reporter = record {
    live = ap (λ (w : WorldOrSpent). w.spent) at;
    history = [];
    made = ap (run statements) none ∙ ap (λ (w : WorldOrSpent). Some (record { world = w.world; history = [] })) (sym at);
    same =
        ap (λ (events : List Event). (report_so_far statements events).world) none
        ∙ ap (λ (w : WorldOrSpent). w.world) (sym at);
    reporter =
        subst (λ (events : List Event). IsReporterOf statements told.reporter (report_so_far statements events)) (sym none) reporter;
  }

  -- one event more, which was made
  pub told-next : (told grown : ToldRun) (event : Event) (made : EventOutcome) (before : Reporter) → IsToldRun statements told
      → step statements event told.world.world ≡ Some made → grown.world.spent ≡ false → made.world ≡ grown.world.world
      → grown.events ≡ told.events ++ event ∷ []
      → ((report : Report) → report.world ≡ told.world.world → IsReporterOf statements told.reporter report
      → IsReporterOf statements before (report_before_event statements event report))
      → ((report : Report) → IsReporterOf statements before report → IsReporterOf statements grown.reporter (report_with_made (Some made) report))
      → IsToldRun statements grown
  told-next told grown event made before so_far steps live here events ends adds = record {
    live = live;
    history = so_far.history ++ made.grown;
    made =
        ap (run statements) events
        ∙ run-one_more statements told.events event (record { world = told.world.world; history = so_far.history }) made so_far.made steps
        ∙ ap (λ (w : World). Some (record { world = w; history = so_far.history ++ made.grown })) here;
    same = ap (λ (report : Report). report.world) more ∙ here;
    reporter =
        subst (IsReporterOf statements grown.reporter) (sym more)
        (adds (report_before_event statements event (report_so_far statements told.events))
        (ends (report_so_far statements told.events) so_far.same so_far.reporter));
  }
    where
      more : report_so_far statements grown.events
          ≡ report_with_made (Some made) (report_before_event statements event (report_so_far statements told.events))
      more = ap (report_so_far statements) events ∙ report-on told.events event told.world.world made so_far.same steps

  -- behind the last event
  pub told-last : (told : ToldRun) (report : FinishedReport) → IsToldRun statements told
      → ((so_far : Report) → so_far.world ≡ told.world.world → IsReporterOf statements told.reporter so_far
      → (report.text ≡ report_text (finished_report statements so_far)) × (report.counts ≡ counts_of (finished_report statements so_far)))
      → TellsRun statements told.events (record { report = report; events = told.events })
  unfolding report_of
  told-last told report so_far finishes =
      let both = finishes (report_so_far statements told.events) so_far.same so_far.reporter in
      record { same = refl; text = both.0; counts = both.1 }
