-- The replies of each run in range are legal, where the reads of disks that were not available are left out, if each event tells the other
-- reads what may be read.
use Rattle.std.proofs.Common.{◌≡◌, List, [], ◌∷◌, ◌++◌, Some, refl, rules}
use Rattle.cluster_script.specs.declared.statement.Statement.{Statement}
use Rattle.overlap_law.specs.Headline.{IsLegalWhereAvailable}
use Rattle.overlap_law.specs.MomentChanges.{RunsAreInRange}
use Rattle.overlap_law.specs.Past.{MomentWithPast, first_moment, run_on, run_with_past}
use Rattle.overlap_law.specs.StandingReads.{EachEventTellsWhatMayBeRead}
use Rattle.overlap_law.proofs.LegalGrowth.{stays_legal}
use Rattle.overlap_law.proofs.LegalRuns.{all_follows}
use Rattle.overlap_law.proofs.RunsByEvents.{KeptByEvents, run-kept_by_events}
use Rattle.overlap_law.proofs.RunsWithOneMore.{run_with_one_more}
use Rattle.sheep_world.specs.RunsWithAsks.{Move}

module _ (script : List Statement) (range : RunsAreInRange script) (told : EachEventTellsWhatMayBeRead script) where
  -- a run ends in this moment, and its replies are legal
  record IsLegalThen (moment : MomentWithPast) : Type 0 where
    events : List Move
    run : run_with_past script events ≡ Some moment
    legal : IsLegalWhereAvailable moment.past

  opens_so : IsLegalThen (first_moment script)
  unfolding run_with_past run_on
  opens_so = record { events = []; run = refl; legal = search rules }

  events_so : KeptByEvents script IsLegalThen
  events_so event before made began is so = record {
    events = so.events ++ is.move ∷ [];
    run = run_with_one_more script event made so.events before is so.run;
    legal = stays_legal script so.events event before made so.run
        (all_follows script range so.events event before made so.run is)
        (told.each so.events event before made so.run is) so.legal;
  }

  pub legal-in_run : (events : List Move) (moment : MomentWithPast) → run_with_past script events ≡ Some moment
      → IsLegalWhereAvailable moment.past
  legal-in_run events moment run = (run-kept_by_events script IsLegalThen opens_so events_so events moment run).legal
