-- The history stands over events: what a block may come to be read as may be read of it, and the reads of nodes stand, both by each test
-- for good ids that serves there. So it does in every run in range, of the disks that were available, and each event tells what may be
-- read.
use Rattle.std.proofs.Common.{◌≡◌, ℕ, Bool, List, Some, refl}
use Rattle.cluster_script.specs.declared.statement.Statement.{Statement}
use Rattle.vdi_directory.specs.Decisions.{log_effects}
use Rattle.overlap_law.specs.Headline.{ledger_of}
use Rattle.overlap_law.specs.HistoryStands.{CallsAvailable, HistoryStands}
use Rattle.overlap_law.specs.KeptHistory.{StripCopiesMayStay, EntriesKeepBlocks, RepliesAreAlone, KeepsHistory}
use Rattle.overlap_law.specs.MomentChanges.{MomentTrail, TrailLeft, IsOnTheWay, RunsAreInRange, Then, Next}
use Rattle.overlap_law.specs.NamedWorks.{AboveIsGood}
use Rattle.overlap_law.specs.Overlap.{CallsFewer}
use Rattle.overlap_law.specs.Past.{MomentWithPast, first_moment, next_moment, run_with_past}
use Rattle.overlap_law.specs.ReadsToldApart.{ChecksReadWhatMayBeRead}
use Rattle.overlap_law.specs.StandingReads.{asked_in, AllReadsStand, AllReadsAreKept, StripPiecesAreToCome}
use Rattle.overlap_law.specs.StandingReads.{ReadsMayGoOnIn, ReadHolesAreToCome, ReadPiecesAreToCome}
use Rattle.overlap_law.specs.StandingReads.{EachChangeServesReads, EachEventTellsWhatMayBeRead}
use Rattle.overlap_law.specs.StayingBlocks.{BlocksStayWritten, WorksMayStay}
use Rattle.overlap_law.specs.StripReadsBases.{StripsHaveBases}
use Rattle.overlap_law.specs.ToldReads.{MayStayReadAs}
use Rattle.overlap_law.proofs.AloneChecksTold.{all-on_the_way}
use Rattle.overlap_law.proofs.CarriedBlocks.{history_keeps, more_block, fewer_blocks, blocks_open}
use Rattle.overlap_law.proofs.CarriedTables.{good_id_at}
use Rattle.overlap_law.proofs.CheckedOnTheWay.{checked_after}
use Rattle.overlap_law.proofs.CopiedBeside.{beside_unwritten}
use Rattle.overlap_law.proofs.CopiedBlocks.{strips_stay}
use Rattle.overlap_law.proofs.CheckReadsTold.{checks_read}
use Rattle.overlap_law.proofs.CreatedBlocks.{creates_stay}
use Rattle.overlap_law.proofs.HistoryApart.{done_apart}
use Rattle.overlap_law.proofs.UnwrittenInRuns.{reads_unwritten-on_the_way}
use Rattle.overlap_law.proofs.HistoryTests.{test_before, test_at_start, test_of_start, IsKeptByTests, by_tests-in_run, by_tests-on_the_way}
use Rattle.overlap_law.proofs.HistoryCoded.{coded_after, coded_before}
use Rattle.overlap_law.proofs.HistoryStrips.{strips_alike}
use Rattle.overlap_law.proofs.MakingInRuns.{each_object}
use Rattle.overlap_law.proofs.MessagesInMoments.{no_works}
use Rattle.overlap_law.proofs.NoRecoveredDue.{began-with_past}
use Rattle.overlap_law.proofs.OpeningOverlap.{no_request}
use Rattle.overlap_law.proofs.PiecesOfReads.{holes_are_to_come, pieces_are_to_come}
use Rattle.overlap_law.proofs.PlacesKeepBlocks.{entries_keep-by_tests}
use Rattle.overlap_law.proofs.ReadsGoing.{reads_may_go_on}
use Rattle.overlap_law.proofs.ReadsLater.{stand_fewer}
use Rattle.overlap_law.proofs.ReadsToldEvents.{event_tells}
use Rattle.overlap_law.proofs.ReadsToldKept.{reads_kept}
use Rattle.overlap_law.proofs.ReadsToldTables.{tables_along}
use Rattle.overlap_law.proofs.ServedBackInRuns.{commands_write-by_tests}
use Rattle.overlap_law.proofs.StandingInMoments.{reads_stand_then}
use Rattle.overlap_law.proofs.StandingOnTheWay.{written_after}
use Rattle.overlap_law.proofs.StripReadsBased.{bases_at}
use Rattle.overlap_law.proofs.StripReadsBegun.{bytes-on_the_way}
use Rattle.overlap_law.proofs.StripReadsItems.{bytes_stand}
use Rattle.overlap_law.proofs.StripReadsToCome.{strips_are_to_come}
use Rattle.sheep_world.specs.RunsWithAsks.{Move}

-- what is so of more ids is so of fewer
fewer_stand : (script : List Statement) (few many : ℕ → Bool) (moment : MomentWithPast) → CallsFewer few many
    → HistoryStands script many moment → HistoryStands script few moment
fewer_stand script few many moment fewer stands = record {
  written = fewer_blocks few many moment fewer stands.written;
  works = record {
    each = λ n host there up req vid index unit work disk spec got object block.
        stands.works.each n host there up req vid index unit work disk spec got object
        (more_block few many (ledger_of moment.past.history) (log_effects moment.world.log) vid disk spec index unit fewer block);
  };
  reads = record {
    each = λ n host there up.
        stand_fewer (MayStayReadAs moment.past.attempts) (ledger_of moment.past.history) (log_effects moment.world.log) many few fewer
        (asked_in script) host.node (stands.reads.each n host there up);
  };
}

opens : (script : List Statement) → HistoryStands script (good_id_at (first_moment script)) (first_moment script)
opens script = record {
  written = blocks_open script;
  works = record {
    each = λ n host there up req vid index unit work disk spec got. absurd (no_works script n host there req work got);
  };
  reads = record { each = λ n host there up. record { each = λ req request got. no_request script n host there req request got } };
}

module _ (script : List Statement) (range : RunsAreInRange script) where
  -- ---- over a change

  module _ (events : List Move) (event : Move) (start end before after : MomentWithPast)
      (way : IsOnTheWay script events event start end before after) where
    reads_are_kept : AllReadsAreKept script start before after
    reads_are_kept = reads_kept script range events start way.run way.change way.change way.behind
        (done_apart script range events start way.run before after way.behind)

    -- strips that were read have bases, so what comes of them is to come, by a test that serves before the change
    module _ (good_id : ℕ → Bool) (test : CallsAvailable start before good_id) (stands : HistoryStands script good_id before) where
      based : StripsHaveBases script start before (ledger_of before.past.history) (log_effects before.world.log) good_id
      based =
          bases_at script range events start way.run good_id test.fewer (test_at_start script way.change good_id test) before way.behind
          (ledger_of before.past.history)
          (strips_alike (ledger_of before.past.history) (log_effects before.world.log) good_id before.world.hosts before.past.attempts
          (coded_before script range events start way.run way.change) stands.written
          (reads_unwritten-on_the_way script range events start way.run way.behind))
          stands.written (coded_before script range events start way.run way.change)
          (bytes_stand before.past.history (bytes-on_the_way script range events start before way.run way.behind))

      strips_come : StripPiecesAreToCome script start before (ledger_of before.past.history) (log_effects before.world.log) good_id
      strips_come =
          strips_are_to_come script range events start way.run good_id test.fewer (test_at_start script way.change good_id test) before
          way.behind (ledger_of before.past.history) based

      -- so is what comes of each read
      comes : ReadPiecesAreToCome script start before (ledger_of before.past.history) (log_effects before.world.log) good_id
      comes =
          pieces_are_to_come script range events start way.run good_id test.fewer (test_at_start script way.change good_id test) before
          way.behind (ledger_of before.past.history) strips_come

      goes_on : ReadsMayGoOnIn script start before (MayStayReadAs before.past.attempts) (ledger_of before.past.history)
          (log_effects before.world.log) good_id
      goes_on =
          reads_may_go_on script range start (began-with_past script events start way.run) (ledger_of before.past.history)
          (log_effects before.world.log) good_id before way.behind stands.written
          (holes_are_to_come script range events start way.run good_id test.fewer (test_at_start script way.change good_id test) before
          way.behind)
          comes

    module _ (good_id : ℕ → Bool) (test : CallsAvailable start after good_id) (stands : HistoryStands script good_id before) where
      was : CallsAvailable start before good_id
      was = test_before script way.change good_id test

      above : AboveIsGood (log_effects start.world.log) good_id
      above = test_at_start script way.change good_id was

      entries : EntriesKeepBlocks good_id before after
      entries = entries_keep-by_tests script range events event start end before after way good_id test

      replies : RepliesAreAlone script good_id start before after
      replies = all-on_the_way script range events event start end before after way good_id test

      copies_stay : StripCopiesMayStay (ledger_of after.past.history) (log_effects after.world.log) good_id after.world.hosts
          after.past.attempts
      copies_stay =
          strips_stay script range events event start end before after way good_id test replies entries stands.written
          (bytes_stand after.past.history (bytes-on_the_way script range events start after way.run (Then way.behind way.change)))
          (coded_after script range events start way.run way.change)
          (beside_unwritten script range events start before after way.run way.behind way.change)

      keeps_history : KeepsHistory script good_id start before after
      keeps_history = record {
        entries = entries;
        replies = replies;
        commands = commands_write-by_tests script range events event start end before after way good_id test;
        written = written_after script range events start way.run way.change;
        checked = checked_after script range events start way.run way.change;
        creates = creates_stay script range events event start end before after way good_id test replies entries stands.written copies_stay;
      }

      blocks_then : BlocksStayWritten (ledger_of after.past.history) (log_effects after.world.log) good_id after.world.hosts
          after.past.attempts
          × WorksMayStay (ledger_of after.past.history) (log_effects after.world.log) good_id after.world.hosts after.past.attempts
      blocks_then =
          history_keeps script range events start before after way.run way.behind way.change each_object good_id keeps_history
          (record { each = λ vid published alive good. refl })
          (tables_along script range events start way.run good_id test.fewer above (Then way.behind way.change)).inodes.entries
          stands.written

      reads_then : AllReadsStand script (MayStayReadAs after.past.attempts) (ledger_of after.past.history) (log_effects after.world.log)
          good_id after.world.hosts
      reads_then =
          reads_stand_then script range events start before after way.run way.behind way.change good_id
          (goes_on good_id was stands)
          reads_are_kept stands.reads

  -- ---- in every run

  stands_kept : IsKeptByTests script (HistoryStands script)
  stands_kept = record {
    fewer = fewer_stand script;
    opens = opens script;
    keeps = λ events event start end before after way good_id test stands. record {
      written = (blocks_then events event start end before after way good_id test stands).0;
      works = (blocks_then events event start end before after way good_id test stands).1;
      reads = reads_then events event start end before after way good_id test stands;
    };
  }

  pub stands-in_run : (events : List Move) (moment : MomentWithPast) → run_with_past script events ≡ Some moment
      → HistoryStands script (good_id_at moment) moment
  stands-in_run = by_tests-in_run script (HistoryStands script) stands_kept

  pub stands-by_tests : (events : List Move) (event : Move) (start end : MomentWithPast) → run_with_past script events ≡ Some start
      → next_moment script event start ≡ Some end → (good_id : ℕ → Bool) → {moment : MomentWithPast} → MomentTrail script start moment
      → TrailLeft script start moment end → CallsAvailable start moment good_id → HistoryStands script good_id moment
  stands-by_tests = by_tests-on_the_way script (HistoryStands script) stands_kept

  -- ---- what comes of reads, before each change on the way of an event

  module _ (events : List Move) (event : Move) (start end before after : MomentWithPast)
      (way : IsOnTheWay script events event start end before after) (good_id : ℕ → Bool) (test : CallsAvailable start before good_id) where
    stands_before : HistoryStands script good_id before
    stands_before = stands-by_tests events event start end way.run way.happens good_id way.behind (Next way.change way.left) test

    pub bases_stand : StripsHaveBases script start before (ledger_of before.past.history) (log_effects before.world.log) good_id
    bases_stand = based events event start end before after way good_id test stands_before

    pub strips_of_reads : StripPiecesAreToCome script start before (ledger_of before.past.history) (log_effects before.world.log) good_id
    strips_of_reads = strips_come events event start end before after way good_id test stands_before

    pub holes_come : ReadHolesAreToCome script start before (log_effects before.world.log) good_id
    holes_come =
        holes_are_to_come script range events start way.run good_id test.fewer (test_at_start script way.change good_id test) before
        way.behind

    pub pieces_come : ReadPiecesAreToCome script start before (ledger_of before.past.history) (log_effects before.world.log) good_id
    pieces_come = comes events event start end before after way good_id test stands_before

    pub go_on : ReadsMayGoOnIn script start before (MayStayReadAs before.past.attempts) (ledger_of before.past.history)
        (log_effects before.world.log) good_id
    go_on = goes_on events event start end before after way good_id test stands_before

  -- ---- what reads are told

  pub serves_reads : EachChangeServesReads script
  serves_reads = record {
    each = λ events event start end before after way.
        let at_start = test_of_start script way.change in
        let stands : HistoryStands script (good_id_at start) before
        = stands-by_tests events event start end way.run way.happens (good_id_at start) way.behind (Next way.change way.left) at_start in
        record {
          stand = stands.reads;
          goes = goes_on events event start end before after way (good_id_at start) at_start stands;
          kept = reads_are_kept events event start end before after way;
        };
  }

  pub checks_may : ChecksReadWhatMayBeRead script
  checks_may = record {
    each = λ events start stepping write run is comes.
        checks_read script range events start stepping write run (stands-in_run events start run).written is comes;
  }

  pub tells : EachEventTellsWhatMayBeRead script
  tells = record {
    each = λ events event before made run is. event_tells script range serves_reads checks_may events event before made run is;
  }
