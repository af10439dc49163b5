-- The headline of each run in range.
use Rattle.std.proofs.Common.{List}
use Rattle.cluster_script.specs.declared.statement.Statement.{Statement}
use Rattle.overlap_law.specs.Headline.{Headline}
use Rattle.overlap_law.specs.MomentChanges.{RunsAreInRange}
use Rattle.overlap_law.proofs.EpochLemmas.{run-changes_nothing}
use Rattle.overlap_law.proofs.HistoryCarried.{tells}
use Rattle.overlap_law.proofs.ItemsInRuns.{refused_none-in_run}
use Rattle.overlap_law.proofs.LegalReplies.{legal-in_run}
use Rattle.overlap_law.proofs.RefusedCommandsHold.{commands-in_run}
use Rattle.overlap_law.proofs.UntouchedInRuns.{nothing_made-in_run}

pub headline_holds : (script : List Statement) → RunsAreInRange script → Headline script
headline_holds script range is_script events moment run = record {
  legal = legal-in_run script range (tells script range) events moment run;
  no_items = λ req disk block refused. refused_none-in_run script range req events moment run refused disk block;
  nothing_made = nothing_made-in_run script range events moment run;
  commands = commands-in_run script range events moment run;
  other_epochs = run-changes_nothing script events moment run;
}
