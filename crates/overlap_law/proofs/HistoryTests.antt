-- What each change on the way of an event keeps by each test for good ids that serves there holds by each such test at each moment on the
-- way of an event; so it holds in every run, of the disks that were available.
use Rattle.std.proofs.Common.{◌≡◌, ℕ, Bool, List, Some, sym, ap, subst, ◌∙◌}
use Rattle.object_id.specs.declared.entry.Entry.{Entry}
use Rattle.cluster_script.specs.declared.statement.Statement.{Statement}
use Rattle.vdi_directory.specs.Chains.{is_above}
use Rattle.vdi_directory.specs.Decisions.{log_effects}
use Rattle.overlap_law.specs.HistoryStands.{CallsAvailable}
use Rattle.overlap_law.specs.MomentChanges.{MomentChange, MomentTrail, TrailLeft, IsOnTheWay, Still, Then, AtEnd, Next}
use Rattle.overlap_law.specs.NamedWorks.{AboveIsGood}
use Rattle.overlap_law.specs.Overlap.{CallsFewer}
use Rattle.overlap_law.specs.Past.{MomentWithPast, first_moment, next_moment, run_with_past}
use Rattle.overlap_law.proofs.ChainTables.{above_later}
use Rattle.overlap_law.proofs.LogsOfMoments.{log_before}
use Rattle.overlap_law.proofs.EndTests.{was_good_id}
use Rattle.overlap_law.proofs.GoodAbove.{above_good_on_the_way, available_above}
use Rattle.overlap_law.proofs.KeptInRuns.{kept_at_events}
use Rattle.overlap_law.proofs.KeptToTheEnd.{good_id_at}
use Rattle.overlap_law.proofs.LogsInMoments.{log_grows}
use Rattle.overlap_law.proofs.MomentTrails.{event_trail}
use Rattle.sheep_world.specs.RunsWithAsks.{Move}

-- ---- the tests

-- a test that serves behind a change serves before it
pub test_before : (script : List Statement) {start before after : MomentWithPast} → MomentChange script start before after
    → (good_id : ℕ → Bool) → CallsAvailable start after good_id → CallsAvailable start before good_id
test_before script {start} {before} {after} change good_id test =
    let grows = log_grows script change in
    record {
      fewer = test.fewer;
      above = λ elder vid over good.
          test.above elder vid
          (ap (λ (log : List Entry). is_above (log_effects log) elder vid) grows.is
          ∙ above_later before.world.log grows.rest elder vid over) good;
    }

-- and as the event began
pub test_at_start : (script : List Statement) {start before after : MomentWithPast} → MomentChange script start before after
    → (good_id : ℕ → Bool) → CallsAvailable start before good_id → AboveIsGood (log_effects start.world.log) good_id
test_at_start script change good_id test =
    subst (λ (log : List Entry). AboveIsGood (log_effects log) good_id) (log_before script change) test.above

-- the test of the event's beginning, before a change
pub test_of_start : (script : List Statement) {start before after : MomentWithPast} → MomentChange script start before after
    → CallsAvailable start before (good_id_at start)
test_of_start script {start} change = record {
  fewer = λ vid good. good;
  above = subst (λ (log : List Entry). AboveIsGood (log_effects log) (good_id_at start)) (sym (log_before script change))
      (λ elder vid over good. available_above start.world.log elder vid over start.past.unavailable good);
}

-- that of its end, at each moment on its way
pub test_of_end : (script : List Statement) (event : Move) (start end : MomentWithPast) → next_moment script event start ≡ Some end
    → {moment : MomentWithPast} → TrailLeft script start moment end → CallsAvailable start moment (good_id_at end)
test_of_end script event start end happens left = record {
  fewer = was_good_id script event start end happens;
  above = above_good_on_the_way script left;
}

-- ---- what is carried by them

pub record IsKeptByTests (script : List Statement) (P : (ℕ → Bool) → MomentWithPast → Type 0) : Type 0 where
  pub fewer : (few many : ℕ → Bool) (moment : MomentWithPast) → CallsFewer few many → P many moment → P few moment
  pub opens : P (good_id_at (first_moment script)) (first_moment script)
  pub keeps : (events : List Move) (event : Move) (start end before after : MomentWithPast)
      → IsOnTheWay script events event start end before after → (good_id : ℕ → Bool) → CallsAvailable start after good_id
      → P good_id before → P good_id after

module _ (script : List Statement) (P : (ℕ → Bool) → MomentWithPast → Type 0) (kept : IsKeptByTests script P) where
  along : (events : List Move) (event : Move) (start end : MomentWithPast) → run_with_past script events ≡ Some start
      → next_moment script event start ≡ Some end → (good_id : ℕ → Bool) → {moment : MomentWithPast} → MomentTrail script start moment
      → TrailLeft script start moment end → CallsAvailable start moment good_id → P (good_id_at start) start → P good_id moment
  along events event start end run happens good_id Still left test holds =
      kept.fewer good_id (good_id_at start) start test.fewer holds
  along events event start end run happens good_id (Then {moment} {next} trail change) left test holds =
      kept.keeps events event start end moment next
      (record { run = run; happens = happens; behind = trail; change = change; left = left }) good_id test
      (along events event start end run happens good_id trail (Next change left) (test_before script change good_id test) holds)

  pub by_tests-in_run : (events : List Move) (moment : MomentWithPast) → run_with_past script events ≡ Some moment
      → P (good_id_at moment) moment
  by_tests-in_run =
      kept_at_events script (λ (moment : MomentWithPast). P (good_id_at moment) moment) kept.opens
      (λ events event start end run then happens holds.
      along events event start end run happens (good_id_at end) (event_trail script event start end happens) AtEnd
      (test_of_end script event start end happens AtEnd) holds)

  pub by_tests-on_the_way : (events : List Move) (event : Move) (start end : MomentWithPast) → run_with_past script events ≡ Some start
      → next_moment script event start ≡ Some end → (good_id : ℕ → Bool) → {moment : MomentWithPast} → MomentTrail script start moment
      → TrailLeft script start moment end → CallsAvailable start moment good_id → P good_id moment
  by_tests-on_the_way events event start end run happens good_id trail left test =
      along events event start end run happens good_id trail left test (by_tests-in_run events start run)
