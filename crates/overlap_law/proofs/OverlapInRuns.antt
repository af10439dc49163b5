-- The whole invariant holds in each moment of a run in range: each conjunct from what is proved of it.
use Rattle.std.proofs.Common.{◌≡◌, List, [], ◌∷◌, ◌++◌, Some}
use Rattle.cluster_script.specs.declared.statement.Statement.{Statement}
use Rattle.sheep_world.specs.RunsWithAsks.{Move}
use Rattle.vdi_directory.specs.Decisions.{log_effects}
use Rattle.overlap_law.specs.Groups.{WrittenIsKept, PiecesAreKept}
use Rattle.overlap_law.specs.Headline.{ledger_of}
use Rattle.overlap_law.specs.MomentChanges.{RunsAreInRange, Still}
use Rattle.overlap_law.specs.Overlap.{OverlapOf}
use Rattle.overlap_law.specs.Past.{MomentWithPast, next_moment, run_with_past}
use Rattle.overlap_law.specs.TiedAttempts.{IsTied}
use Rattle.overlap_law.proofs.CarriedBlocks.{blocks_written}
use Rattle.overlap_law.proofs.CarriedTables.{good_id_at}
use Rattle.overlap_law.proofs.CheckedAlone.{checks_have-in_run}
use Rattle.overlap_law.proofs.HistoryCarried.{stands-in_run, tells}
use Rattle.overlap_law.proofs.HistoryToMake.{works_made}
use Rattle.overlap_law.proofs.JoinsInRuns.{joins_in_run}
use Rattle.overlap_law.proofs.KeptFacts.{KeepsFacts, facts_kept}
use Rattle.overlap_law.proofs.KeptByMoves.{IsKeptByMoves, kept_by_moves}
use Rattle.overlap_law.proofs.LegalReplies.{legal-in_run}
use Rattle.overlap_law.proofs.NoRecoveredDue.{began-with_past}
use Rattle.overlap_law.proofs.ReadSoFar.{read_so_far}
use Rattle.overlap_law.proofs.RunsByChanges.{on_the_way}
use Rattle.overlap_law.proofs.RunsWithOneMore.{run_with_next}
use Rattle.overlap_law.proofs.SoundAlike.{sound_unless_written}
use Rattle.overlap_law.proofs.SoundCodedRuns.{coded-in_run}
use Rattle.overlap_law.proofs.TiedInRuns.{kept_tied}

module _ (script : List Statement) (range : RunsAreInRange script) (events : List Move) (moment : MomentWithPast)
    (run : run_with_past script events ≡ Some moment) where
  written_kept : WrittenIsKept (ledger_of moment.past.history) (log_effects moment.world.log) (good_id_at moment) moment.world.hosts
      moment.past.attempts
  written_kept =
      let stands = stands-in_run script range events moment run in
      record {
        written = blocks_written script range events moment run stands.written;
        sound =
            sound_unless_written (ledger_of moment.past.history) (log_effects moment.world.log) (good_id_at moment) moment.world.hosts
            moment.past.attempts (coded-in_run script range events moment run) stands.written
            (on_the_way script IsTied (kept_tied script range) events moment moment run Still).fates.whole;
      }

  pieces_kept : PiecesAreKept (ledger_of moment.past.history) (log_effects moment.world.log) (good_id_at moment) moment.world.hosts
      moment.past.attempts
  pieces_kept =
      let stands = stands-in_run script range events moment run in
      let facts : KeepsFacts moment = facts_kept script range events moment run in
      record {
        named = facts.named;
        to_make = works_made script range events moment run (good_id_at moment) stands.works;
        to_write = facts.to_write;
        alone = facts.alone;
        read =
            read_so_far script range moment.world (began-with_past script events moment run) moment.past.attempts
            (ledger_of moment.past.history) (log_effects moment.world.log) (good_id_at moment) stands.reads;
        checks = checks_have-in_run script range events moment run (good_id_at moment);
      }

  pub overlap_holds : OverlapOf script moment
  overlap_holds =
      let of_run : IsKeptByMoves script moment = kept_by_moves script range events moment run in
      let facts : KeepsFacts moment = facts_kept script range events moment run in
      record {
        overlap = record {
          flight = of_run.wire;
          attempts = facts.attempts;
          writers = of_run.writers;
          terms = of_run.epochs;
          rows = facts.rows;
          searches = facts.recoveries;
          tables = facts.tables;
          written = written_kept;
          courses = facts.courses;
          pieces = pieces_kept;
          lacked = facts.lacked;
          legal = legal-in_run script range (tells script range) events moment run;
          no_items = of_run.no_items;
          nothing_made = of_run.nothing_made;
        };
        asked = of_run.asked;
        began = of_run.scripts;
        answered = of_run.refused;
        joins = joins_in_run script range.is_script events moment run;
      }

-- a run with one event more
run_then : (script : List Statement) (events : List Move) (event : Move) (before after : MomentWithPast)
    → run_with_past script events ≡ Some before → next_moment script event before ≡ Some after
    → run_with_past script (events ++ event ∷ []) ≡ Some after
run_then script events event before after run happens = run_with_next script event events before after happens run

-- so it does behind each event that may happen in a run
pub overlap_holds_behind : (script : List Statement) → RunsAreInRange script → (events : List Move) (event : Move)
    (before after : MomentWithPast) → run_with_past script events ≡ Some before → next_moment script event before ≡ Some after
    → OverlapOf script after
overlap_holds_behind script range events event before after run happens =
    overlap_holds script range (events ++ event ∷ []) after (run_then script events event before after run happens)
