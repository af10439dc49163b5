-- The rows and recoveries of good objects over events: what each change keeps of them together, by the test for good objects of the moment
-- at which the event ends, so that they hold in every run in range in which a made create comes before each write of its object.
use Rattle.std.proofs.Common.{◌≡◌, ℕ, Bool, true, false, not, List, [], ◌++◌, Some, sym, ap, ◌∙◌, append-nil, append_assoc}
use Rattle.std.proofs.lemmas.Bool.{and_parts}
use Rattle.object_id.specs.declared.entry.Entry.{Entry}
use Rattle.object_id.specs.Oid.{vid_of}
use Rattle.vdi_directory.specs.Decisions.{log_effects}
use Rattle.cluster_script.specs.declared.statement.Statement.{Statement}
use Rattle.overlap_law.specs.BornObjects.{IsBorn}
use Rattle.overlap_law.specs.Fates.{CreatesComeFirst}
use Rattle.overlap_law.specs.Groups.{RowsAreKept, SearchesAreKept}
use Rattle.overlap_law.specs.Holders.{is_object_among, targets_by, is_live_object, is_good, is_dead_by_log}
use Rattle.overlap_law.specs.Lists.{ListsAreComplete, WhatIsNotPendingIsThere}
use Rattle.overlap_law.specs.MomentChanges.{MomentTrail, TrailLeft, IsOnTheWay, RunsAreInRange, Still, Then, AtEnd, Next}
use Rattle.overlap_law.specs.Past.{MomentWithPast, first_moment, next_moment, run_with_past}
use Rattle.overlap_law.specs.Rows.{RecoveredRowsAreKept, AttemptsAreCarried}
use Rattle.overlap_law.specs.Searches.{ToldRowsAreSince, TheMadeIsNotMissing}
use Rattle.overlap_law.specs.Since.{RowsAreSince}
use Rattle.overlap_law.proofs.BornFirst.{of_the_born}
use Rattle.overlap_law.proofs.EndTargets.{carried_to_the_end}
use Rattle.overlap_law.proofs.EndTests.{speaks, lived, was_good}
use Rattle.overlap_law.proofs.FewerObjects.{rows_of_fewer, searches_of_fewer}
use Rattle.overlap_law.proofs.HeldLevels.{has_made}
use Rattle.overlap_law.proofs.KeptByMoves.{IsKeptByMoves, kept_by_moves}
use Rattle.overlap_law.proofs.KeptTogether.{complete_after, nothing_missing, there_after, kept_rows_after}
use Rattle.overlap_law.proofs.LevelsAskedInRuns.{levels_asked-on_the_way}
use Rattle.overlap_law.proofs.LogsInMoments.{log_grows}
use Rattle.overlap_law.proofs.OpeningOverlap.{overlap_opens}
use Rattle.overlap_law.proofs.PassedInRuns.{passed-on_the_way}
use Rattle.overlap_law.proofs.SinceKept.{since_kept}
use Rattle.overlap_law.proofs.StayingRows.{alive_before, not_dead}
use Rattle.overlap_law.proofs.ToldSinceInRuns.{told_since-on_the_way}
use Rattle.overlap_law.proofs.KeptToTheEnd.{BeginsToTheEnd, IsKeptToTheEnd, to_the_end-in_run, to_the_end-on_the_way}
use Rattle.sheep_world.specs.RunsWithAsks.{Move}

-- what is carried of a moment, of the objects that a test calls good
pub record CarriesRows (good : ℕ → Bool) (moment : MomentWithPast) : Type 0 where
  pub since : RowsAreSince (log_effects moment.world.log) good moment.world.hosts moment.past.attempts
  pub kept : RecoveredRowsAreKept (targets_by moment.world.log) moment.world.log (log_effects moment.world.log) good moment.world.hosts
      moment.past.attempts
  pub carried : AttemptsAreCarried (targets_by moment.world.log) moment.world.log (log_effects moment.world.log) good moment.world.hosts
      moment.past.attempts
  pub complete : ListsAreComplete good moment.past.listed moment.world.hosts moment.past.attempts
  pub has : WhatIsNotPendingIsThere (targets_by moment.world.log) (log_effects moment.world.log) good moment.world.hosts
      moment.past.attempts
  pub row_told_since : ToldRowsAreSince (log_effects moment.world.log) good moment.world.hosts moment.world.wire moment.past.attempts
  pub not_missing : TheMadeIsNotMissing good moment.world.hosts moment.past.attempts

abbrev pub good_at : MomentWithPast → ℕ → Bool
good_at moment = is_good moment.world.log moment.past.attempts moment.past.unavailable

abbrev live_at : MomentWithPast → ℕ → Bool
live_at moment = is_live_object moment.world.log moment.past.attempts

module _ (script : List Statement) where
  -- the log of a moment on the way goes on to that of the end
  pub log_left : {start moment end : MomentWithPast} → TrailLeft script start moment end
      → (rest : List Entry) × (end.world.log ≡ moment.world.log ++ rest)
  log_left {start} {moment} AtEnd = ([], sym (append-nil moment.world.log))
  log_left {start} {moment} (Next change left) =
      let grows = log_grows script change in
      let later = log_left left in (
        grows.rest ++ later.0,
        later.1 ∙ ap (λ (log : List Entry). log ++ later.0) grows.is ∙ append_assoc moment.world.log grows.rest later.0,
      )

  -- what is good at the end isn't dead on the way
  alive_on_the_way : {start moment end : MomentWithPast} → TrailLeft script start moment end → (oid : ℕ) → good_at end oid ≡ true
      → is_dead_by_log moment.world.log oid ≡ false
  alive_on_the_way {start} {moment} {end} left oid is =
      let later = log_left left in
      alive_before moment.world.log later.0 (vid_of oid)
      (ap (λ (log : List Entry). is_dead_by_log log oid) (sym later.1)
      ∙ not_dead end.world.log end.past.attempts oid (lives_good end oid is))
    where
      lives_good : (last : MomentWithPast) (o : ℕ) → good_at last o ≡ true → live_at last o ≡ true
      lives_good last o good = (and_parts (live_at last o) (not (is_object_among o last.past.unavailable)) good).0

module _ (script : List Statement) (range : RunsAreInRange script) where
  -- ---- the groups of rows and recoveries, of a run

  module _ (events : List Move) (moment : MomentWithPast) (is : run_with_past script events ≡ Some moment)
      (carries : CarriesRows (good_at moment) moment) where
    of_run : IsKeptByMoves script moment
    of_run = kept_by_moves script range events moment is

    rows_kept : RowsAreKept (targets_by moment.world.log) moment.world.log (log_effects moment.world.log) (live_at moment) (good_at moment)
        moment.world.hosts moment.past.attempts
    rows_kept = record {
      ends = of_run.ends;
      one_open = of_run.one_open;
      apart = of_run.rows_apart;
      row_shape = of_run.row_shape;
      placed = of_run.placed;
      begun = of_run.rows_begun;
      stays = of_run.stays;
      since = carries.since;
      of_attempts = of_run.of_attempts (live_at moment);
      kept = carries.kept;
      carried = carries.carried;
    }

    searches_kept : SearchesAreKept (targets_by moment.world.log) moment.world.log (log_effects moment.world.log) (live_at moment)
        (good_at moment) moment.past.listed moment.world.hosts moment.world.wire moment.past.attempts
    searches_kept = record {
      listing = of_run.listing;
      told_beyond = of_run.told_beyond;
      list_told = of_run.list_told (live_at moment);
      complete = carries.complete;
      pending = of_run.pending (live_at moment);
      has = carries.has;
      search_first = of_run.search_first;
      asked = levels_asked-on_the_way script range events moment moment is Still (good_at moment);
      row_told = of_run.row_told (good_at moment);
      row_told_since = carries.row_told_since;
      told_of_attempts = of_run.told_of_attempts (live_at moment);
      norow_told = of_run.norow_told (good_at moment);
      passed = passed-on_the_way script range events moment moment is Still (good_at moment);
      not_missing = carries.not_missing;
    }

  -- ---- over an event

  module _ (first : (events : List Move) (start moment : MomentWithPast) → run_with_past script events ≡ Some start
      → MomentTrail script start moment → CreatesComeFirst moment.past.attempts) where
    -- by the test of the end
    begins : BeginsToTheEnd script (λ (end moment : MomentWithPast). CarriesRows (good_at end) moment)
    begins events event start end run happens carries =
        let speaks_so = speaks script range events event start end run happens
        (of_the_born start.past.attempts (first events start start run Still)) in
        let rows = rows_of_fewer (IsBorn start.past.attempts) (lived script event start end happens)
        (was_good script event start end happens) speaks_so (rows_kept events start run carries) in
        let searches = searches_of_fewer (IsBorn start.past.attempts) (lived script event start end happens)
        (was_good script event start end happens) speaks_so (searches_kept events start run carries) in
        record {
          since = rows.since;
          kept = rows.kept;
          carried = rows.carried;
          complete = searches.complete;
          has = searches.has;
          row_told_since = searches.row_told_since;
          not_missing = searches.not_missing;
        }

    goes_on : (events : List Move) (event : Move) (start end before after : MomentWithPast)
        → IsOnTheWay script events event start end before after → CarriesRows (good_at end) before → CarriesRows (good_at end) after
    goes_on events event start end before after way carries =
        record {
          since = since_kept script range events start way.run way.behind way.change (good_at end) (record {
            has = has_made script range events start before way.run way.behind (good_at end) alive_before_it carries.kept carries.carried;
            passed = passed-on_the_way script range events start before way.run way.behind (good_at end);
            since = carries.since;
            told = carries.row_told_since;
          });
          kept =
              kept_rows_after script range events start before after way.run way.behind way.change (good_at end) alive
              carries.carried carried carries.kept carries.complete carries.has carries.not_missing;
          carried = carried;
          complete =
              complete_after script range events start before after way.run way.behind way.change (good_at end) alive
              carries.carried carried carries.kept carries.complete carries.has carries.not_missing;
          has =
              there_after script range events start before after way.run way.behind way.change (good_at end) alive carries.carried carried
              carries.kept carries.complete carries.has carries.not_missing;
          row_told_since =
              told_since-on_the_way script range events start before after way.run way.behind way.change (good_at end) carries.since
              carries.row_told_since;
          not_missing =
              nothing_missing script range events start before after way.run way.behind way.change (good_at end) alive
              carries.carried carried carries.kept carries.complete carries.has carries.not_missing;
        }
      where
        alive : (oid : ℕ) → good_at end oid ≡ true → is_dead_by_log after.world.log oid ≡ false
        alive = alive_on_the_way script way.left

        alive_before_it : (oid : ℕ) → good_at end oid ≡ true → is_dead_by_log before.world.log oid ≡ false
        alive_before_it = alive_on_the_way script (Next way.change way.left)

        carried : AttemptsAreCarried (targets_by after.world.log) after.world.log (log_effects after.world.log) (good_at end)
            after.world.hosts after.past.attempts
        carried =
            carried_to_the_end script range events event start end before after way
            (first events start after way.run (Then way.behind way.change)) carries.carried

    -- ---- in every run

    opens : CarriesRows (good_at (first_moment script)) (first_moment script)
    opens =
        let at_first = (overlap_opens script range).overlap in
        record {
          since = at_first.rows.since;
          kept = at_first.rows.kept;
          carried = at_first.rows.carried;
          complete = at_first.searches.complete;
          has = at_first.searches.has;
          row_told_since = at_first.searches.row_told_since;
          not_missing = at_first.searches.not_missing;
        }

    kept : IsKeptToTheEnd script (λ (end moment : MomentWithPast). CarriesRows (good_at end) moment)
    kept = record { opens = opens; begins = begins; keeps = goes_on }

    carried-in_run : (events : List Move) (moment : MomentWithPast) → run_with_past script events ≡ Some moment
        → CarriesRows (good_at moment) moment
    carried-in_run = to_the_end-in_run script (λ (end moment : MomentWithPast). CarriesRows (good_at end) moment) kept

    -- on the way of an event rows have what they owe, by the test of the end
    pub since-on_the_way : (events : List Move) (event : Move) (start end : MomentWithPast) → run_with_past script events ≡ Some start
        → next_moment script event start ≡ Some end → {moment : MomentWithPast} → MomentTrail script start moment
        → TrailLeft script start moment end
        → RowsAreSince (log_effects moment.world.log) (good_at end) moment.world.hosts moment.past.attempts
    since-on_the_way events event start end run happens trail left =
        (to_the_end-on_the_way script (λ (last now : MomentWithPast). CarriesRows (good_at last) now) kept events event start end run
        happens trail left).since

    pub rows-in_run : (events : List Move) (moment : MomentWithPast) → run_with_past script events ≡ Some moment
        → RowsAreKept (targets_by moment.world.log) moment.world.log (log_effects moment.world.log) (live_at moment) (good_at moment)
        moment.world.hosts moment.past.attempts
    rows-in_run events moment is = rows_kept events moment is (carried-in_run events moment is)

    pub searches-in_run : (events : List Move) (moment : MomentWithPast) → run_with_past script events ≡ Some moment
        → SearchesAreKept (targets_by moment.world.log) moment.world.log (log_effects moment.world.log) (live_at moment) (good_at moment)
        moment.past.listed moment.world.hosts moment.world.wire moment.past.attempts
    searches-in_run events moment is = searches_kept events moment is (carried-in_run events moment is)
