-- What commands write back to inodes was served over events, by each test for good ids that serves on their way; so it was in every run in
-- range, of disks that were available, and what commands write might come before.
use Rattle.std.proofs.Common.{ℕ, Bool, List, refl}
use Rattle.vdi_directory.specs.Decisions.{log_effects}
use Rattle.cluster_script.specs.declared.statement.Statement.{Statement}
use Rattle.overlap_law.specs.HistoryStands.{CallsAvailable}
use Rattle.overlap_law.specs.InodesRead.{ReadsAreToCome}
use Rattle.overlap_law.specs.KeptHistory.{CommandsWriteWhatMayCome}
use Rattle.overlap_law.specs.MomentChanges.{IsOnTheWay, RunsAreInRange, Then, Next}
use Rattle.overlap_law.specs.NamedWorks.{AboveIsGood}
use Rattle.overlap_law.specs.OpenedTables.{EntriesReadAreKept}
use Rattle.overlap_law.specs.Overlap.{CallsFewer}
use Rattle.overlap_law.specs.Past.{MomentWithPast}
use Rattle.overlap_law.specs.ServedLast.{WrittenBackWasServed}
use Rattle.overlap_law.proofs.CarriedInodes.{HasInodes}
use Rattle.overlap_law.proofs.EntriesReadKept.{entries_kept}
use Rattle.overlap_law.proofs.HistoryTests.{test_before, test_at_start, IsKeptByTests, by_tests-on_the_way}
use Rattle.overlap_law.proofs.MakingInRuns.{each_object}
use Rattle.overlap_law.proofs.OpeningOverlap.{no_request}
use Rattle.overlap_law.proofs.ReadsToComeInRuns.{reads_to_come-in_run}
use Rattle.overlap_law.proofs.ReadsToldTables.{tables_along, inodes_along}
use Rattle.overlap_law.proofs.ServedBack.{back_served, commands_write}
use Rattle.sheep_world.specs.RunsWithAsks.{Move}

abbrev pub HasBackServed : (ℕ → Bool) → MomentWithPast → Type 0
HasBackServed good_id moment = WrittenBackWasServed (log_effects moment.world.log) good_id moment.world.hosts moment.past.attempts

-- what is so of more ids is so of fewer
fewer_back : (few many : ℕ → Bool) (moment : MomentWithPast) → CallsFewer few many → HasBackServed many moment → HasBackServed few moment
fewer_back few many moment fewer back = record {
  each = λ n host there up req index request op vid inode got command at good.
      back.each n host there up req index request op vid inode got command at (fewer inode.vid good);
}

module _ (script : List Statement) (range : RunsAreInRange script) where
  module _ (events : List Move) (event : Move) (start end before after : MomentWithPast)
      (way : IsOnTheWay script events event start end before after) (good_id : ℕ → Bool) (test : CallsAvailable start after good_id) where
    above : AboveIsGood (log_effects start.world.log) good_id
    above = test_at_start script way.change good_id (test_before script way.change good_id test)

    kept : EntriesReadAreKept script good_id start before
    kept =
        entries_kept script range events start before way.run way.behind each_object good_id (λ oid some alive. refl)
        (tables_along script range events start way.run good_id test.fewer above way.behind).inodes.entries

    reads : ReadsAreToCome script good_id start before
    reads = reads_to_come-in_run script range events start before way.run way.behind good_id test.fewer

    inodes : HasInodes good_id after
    inodes = inodes_along script range events start way.run good_id test.fewer above (Then way.behind way.change)

    goes_on : HasBackServed good_id before → HasBackServed good_id after
    goes_on back =
        back_served script range events start before after way.run way.behind way.change good_id kept reads back inodes.written_back

    writes : HasBackServed good_id before → CommandsWriteWhatMayCome good_id before after
    writes back =
        commands_write script range events start before after way.run way.behind way.change good_id kept reads back inodes.written_back

  back_kept : IsKeptByTests script HasBackServed
  back_kept = record {
    fewer = fewer_back;
    opens = record {
      each = λ n host there up req index request op vid inode got command at good lives inside.
          no_request script n host there req request got;
    };
    keeps = λ events event start end before after way good_id test back.
        goes_on events event start end before after way good_id test back;
  }

  pub commands_write-by_tests : (events : List Move) (event : Move) (start end before after : MomentWithPast)
      → IsOnTheWay script events event start end before after → (good_id : ℕ → Bool) → CallsAvailable start after good_id
      → CommandsWriteWhatMayCome good_id before after
  commands_write-by_tests events event start end before after way good_id test =
      writes events event start end before after way good_id test
      (by_tests-on_the_way script HasBackServed back_kept events event start end way.run way.happens good_id way.behind
      (Next way.change way.left) (test_before script way.change good_id test))
