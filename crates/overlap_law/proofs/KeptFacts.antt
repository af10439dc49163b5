-- The groups of the attempts, of the rows, of the recoveries, of the tables and of requests and commands, what of writes, and the six
-- facts, of each moment that a run in range leads to.
use Rattle.std.proofs.Common.{◌≡◌, List, Some}
use Rattle.cluster_script.specs.declared.statement.Statement.{Statement}
use Rattle.overlap_law.specs.Holders.{is_available_disk, is_live_object, is_good, targets_by}
use Rattle.overlap_law.specs.MomentChanges.{RunsAreInRange, Still}
use Rattle.overlap_law.specs.Past.{MomentWithPast, run_with_past}
use Rattle.overlap_law.specs.Facts.{MeetsFacts}
use Rattle.overlap_law.specs.Groups.{AttemptsAreKept, RowsAreKept, SearchesAreKept, CoursesAreKept, TablesAreKept}
use Rattle.overlap_law.specs.Headline.{ledger_of}
use Rattle.overlap_law.specs.NoObjects.{NothingIsLacked}
use Rattle.overlap_law.specs.Pieces.{WritesHaveItems, WhatIsWrittenIsAlone}
use Rattle.overlap_law.specs.ToDo.{WorksNameWhatIsMade}
use Rattle.vdi_directory.specs.Decisions.{log_effects}
use Rattle.overlap_law.proofs.AloneWritten.{alone-in_run}
use Rattle.overlap_law.proofs.CarriedTables.{tables-in_run}
use Rattle.overlap_law.proofs.CarriedRows.{rows-in_run, searches-in_run}
use Rattle.overlap_law.proofs.FactsOfRuns.{facts-in_run}
use Rattle.overlap_law.proofs.KeptByMoves.{IsKeptByMoves, kept_by_moves}
use Rattle.overlap_law.proofs.MakingInRuns.{creates_first-in_run, own_entries-in_run}
use Rattle.overlap_law.proofs.NothingLacked.{lacked-in_run}
use Rattle.overlap_law.proofs.PlacesInRuns.{courses_kept-in_run}
use Rattle.overlap_law.proofs.StandingPieces.{written-in_run}
use Rattle.overlap_law.proofs.TablesKept.{tables_kept, table-in_run}
use Rattle.sheep_world.specs.RunsWithAsks.{Move}

-- the whole groups of the attempts, of the rows, of the recoveries, of the tables and of requests and commands, that what works name is
-- made, that what a write has still to write has its items and what it has behind it is alone, that nothing is lacked, and the six facts
pub record KeepsFacts (moment : MomentWithPast) : Type 0 where
  pub attempts : AttemptsAreKept (targets_by moment.world.log) moment.world.log moment.world.hosts moment.world.wire
      moment.past.refused moment.past.lost moment.past.attempts
  pub rows : RowsAreKept (targets_by moment.world.log) moment.world.log (log_effects moment.world.log)
      (is_live_object moment.world.log moment.past.attempts) (is_good moment.world.log moment.past.attempts moment.past.unavailable)
      moment.world.hosts moment.past.attempts
  pub recoveries : SearchesAreKept (targets_by moment.world.log) moment.world.log (log_effects moment.world.log)
      (is_live_object moment.world.log moment.past.attempts) (is_good moment.world.log moment.past.attempts moment.past.unavailable)
      moment.past.listed moment.world.hosts moment.world.wire moment.past.attempts
  pub tables : TablesAreKept moment.world.log (log_effects moment.world.log) (is_live_object moment.world.log moment.past.attempts)
      (is_available_disk moment.world.log moment.past.unavailable) moment.world.hosts moment.past.attempts
  pub courses : CoursesAreKept moment.world.log (log_effects moment.world.log) (is_available_disk moment.world.log moment.past.unavailable)
      moment.world.hosts moment.past.attempts
  pub named : WorksNameWhatIsMade (log_effects moment.world.log) (is_available_disk moment.world.log moment.past.unavailable)
      moment.world.hosts moment.past.attempts
  pub to_write : WritesHaveItems (ledger_of moment.past.history) moment.world.hosts
  pub alone : WhatIsWrittenIsAlone (ledger_of moment.past.history) (log_effects moment.world.log)
      (is_available_disk moment.world.log moment.past.unavailable) moment.world.hosts moment.past.attempts
  pub lacked : NothingIsLacked (log_effects moment.world.log) (is_available_disk moment.world.log moment.past.unavailable)
      moment.world.hosts moment.world.wire
  pub facts : MeetsFacts moment.world moment.past

pub facts_kept : (script : List Statement) → RunsAreInRange script → (events : List Move) (moment : MomentWithPast)
    → run_with_past script events ≡ Some moment → KeepsFacts moment
facts_kept script range events moment is =
    let of_run : IsKeptByMoves script moment = kept_by_moves script range events moment is in
    let first = creates_first-in_run script range in
    record {
      attempts = record {
        fates = of_run.tied.fates;
        incarnations = of_run.tied.incarnations;
        reached = of_run.tied.reached;
        shape = of_run.shaped.shape;
        units = of_run.whole;
        known = of_run.shaped.known;
        ordered = of_run.ordered;
        latest = of_run.latest;
        of_works = of_run.works;
        worked = of_run.fates;
        touched = of_run.touched;
        losers = of_run.losers;
        untouched = of_run.untouched;
        create_first = first events moment moment is Still;
      };
      rows = rows-in_run script range first events moment is;
      recoveries = searches-in_run script range first events moment is;
      tables = tables_kept script range events moment is;
      courses = courses_kept-in_run script range events moment is;
      named = (tables-in_run script range events moment is).inodes.named;
      to_write = written-in_run script range events moment is;
      alone =
          alone-in_run script range events moment is (is_available_disk moment.world.log moment.past.unavailable)
          (table-in_run script range events moment is);
      lacked = lacked-in_run script range (creates_first-in_run script range)
          (λ earlier there so. (tables-in_run script range earlier there so).tables.tables) events moment is;
      facts = facts-in_run script range events moment is first (own_entries-in_run script range events moment is _);
    }
