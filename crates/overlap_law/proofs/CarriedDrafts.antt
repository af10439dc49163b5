-- What the inodes of reserved ids may come to have stays drawn from what the ids are made from over events, by each test for good ids that
-- serves on their way; so it holds in every run in range, of disks that were available.
use Rattle.std.proofs.Common.{◌≡◌, ℕ, ◌==◌, Bool, List, Option, Some, refl, ap, ◌∙◌}
use Rattle.std.proofs.lemmas.Bool.{eq-eqb, or_left}
use Rattle.object_id.specs.declared.entry.Entry.{Entry}
use Rattle.object_id.specs.declared.oid.Vid.{Vid}
use Rattle.cluster_script.specs.Settings.{opening_members}
use Rattle.cluster_script.specs.declared.statement.Statement.{Statement}
use Rattle.vdi_directory.specs.Chains.{is_above}
use Rattle.vdi_directory.specs.Decisions.{log_effects}
use Rattle.vdi_directory.specs.declared.effect.Reservation.{Reservation}
use Rattle.vdi_directory.specs.Effects.{reservation_on, reservations_of}
use Rattle.vdi_directory.specs.States.{Unused, state_of}
use Rattle.vdi_directory.proofs.ChainLemmas.{is_parent_or_above}
use Rattle.vdi_directory.proofs.LineLemmas.{above-line, line-log_effects}
use Rattle.sheep_world.specs.Opening.{initial_world}
use Rattle.sheep_world.specs.RunsWithAsks.{Move}
use Rattle.overlap_law.specs.Drafts.{IsReservedEntry}
use Rattle.overlap_law.specs.HistoryStands.{CallsAvailable}
use Rattle.overlap_law.specs.MomentChanges.{MomentTrail, TrailLeft, RunsAreInRange}
use Rattle.overlap_law.specs.NamedWorks.{AboveIsGood}
use Rattle.overlap_law.specs.Overlap.{CallsFewer}
use Rattle.overlap_law.specs.Past.{MomentWithPast, first_moment, next_moment, run_with_past}
use Rattle.overlap_law.specs.StayingDrafts.{DraftsStayDrawn, ParentsAreGood}
use Rattle.overlap_law.proofs.ClonesDrawn.{clones_drawn}
use Rattle.overlap_law.proofs.DraftsOfLogs.{state_reserved}
use Rattle.overlap_law.proofs.DraftsStay.{drafts_stay}
use Rattle.overlap_law.proofs.DrawnInodes.{inodes_drawn}
use Rattle.overlap_law.proofs.HistoryTests.{test_before, test_at_start, test_of_end, IsKeptByTests, by_tests-in_run, by_tests-on_the_way}
use Rattle.overlap_law.proofs.MakingInRuns.{each_object}
use Rattle.overlap_law.proofs.OpeningOverlap.{unused_at_opening}
use Rattle.overlap_law.proofs.ReadsToComeInRuns.{reads_to_come-in_run}
use Rattle.overlap_law.proofs.ReadsToldTables.{tables_along, inodes_along}
use Rattle.overlap_law.proofs.SnappedFrozen.{snapshots_frozen}
use Rattle.overlap_law.proofs.KeptToTheEnd.{good_id_at}

abbrev pub HasDrafts : (ℕ → Bool) → MomentWithPast → Type 0
HasDrafts good_id moment = DraftsStayDrawn (log_effects moment.world.log) good_id moment.world.hosts moment.past.attempts

-- what is so of more ids is so of fewer
fewer_drafts : (few many : ℕ → Bool) (moment : MomentWithPast) → CallsFewer few many → HasDrafts many moment → HasDrafts few moment
fewer_drafts few many moment fewer drafts = record {
  bases = λ vid index draft. drafts.bases vid index (of_more vid index draft);
  inodes = λ vid index draft. drafts.inodes vid index (of_more vid index draft);
  works = λ n host at up req work has vid index draft. drafts.works n host at up req work has vid index (of_more vid index draft);
}
  where
    of_more : (vid index : ℕ) → IsReservedEntry (log_effects moment.world.log) few vid index
        → IsReservedEntry (log_effects moment.world.log) many vid index
    of_more vid index draft = record {
      reservation = draft.reservation;
      stands = draft.stands;
      good = fewer vid draft.good;
      spec = draft.spec;
      made_with = draft.made_with;
      within = draft.within;
    }

-- what an id is made from is above it
pub parents_good : (log : List Entry) (good_id : ℕ → Bool) → AboveIsGood (log_effects log) good_id
    → ParentsAreGood (log_effects log) good_id
parents_good log good_id above_good vid base parent good =
    above_good base.0 vid
    (above-line (log_effects log) (line-log_effects log) base.0 vid
    ∙ ap (λ (o : Option Vid). is_parent_or_above (is_above (log_effects log)) base.0 o) parent
    ∙ or_left (base.0 == base.0) (is_above (log_effects log) base.0 base.0) (eq-eqb base.0 base.0 refl))
    good

-- as a script opens no id is reserved
pub none_reserved : {P : Type 0} (script : List Statement) (vid : ℕ) (r : Reservation)
    → reservation_on (record { 0 = vid }) (reservations_of (log_effects (first_moment script).world.log)) ≡ Some r → P
unfolding initial_world
none_reserved script vid r stands =
    let reserved = state_reserved (first_moment script).world.log vid r stands in
    let unused : state_of (log_effects (first_moment script).world.log) vid ≡ Unused
    = unused_at_opening (opening_members script) vid in
    absurd (cc (reserved, unused))

module _ (script : List Statement) (range : RunsAreInRange script) where
  kept : IsKeptByTests script HasDrafts
  kept = record {
    fewer = fewer_drafts;
    opens = record {
      bases = λ vid index draft. none_reserved script vid draft.reservation draft.stands;
      inodes = λ vid index draft. none_reserved script vid draft.reservation draft.stands;
      works = λ n host at up req work has vid index draft. none_reserved script vid draft.reservation draft.stands;
    };
    keeps = λ events event start end before after way good_id test drafts.
        let was = test_before script way.change good_id test in
        let at_start = test_at_start script way.change good_id was in
        let named = tables_along script range events start way.run good_id test.fewer at_start way.behind in
        let inodes = inodes_along script range events start way.run good_id test.fewer at_start way.behind in
        let were_good = parents_good before.world.log good_id was.above in
        let are_good = parents_good after.world.log good_id test.above in
        drafts_stay script range events start before after way.run way.behind way.change good_id
        (inodes_drawn script range events start before way.run way.behind good_id
        (clones_drawn script range events start before way.run way.behind good_id
        (reads_to_come-in_run script range events start before way.run way.behind good_id test.fewer) each_object (λ oid. refl)
        named.inodes.entries were_good drafts))
        are_good
        (snapshots_frozen before.world.log good_id before.world.hosts before.past.attempts inodes.frozen) drafts;
  }

  pub drafts-in_run : (events : List Move) (moment : MomentWithPast) → run_with_past script events ≡ Some moment
      → HasDrafts (good_id_at moment) moment
  drafts-in_run = by_tests-in_run script HasDrafts kept

  -- by each test that serves, at each moment on the way of an event
  pub drafts-by_tests : (events : List Move) (event : Move) (start end : MomentWithPast) → run_with_past script events ≡ Some start
      → next_moment script event start ≡ Some end → (good_id : ℕ → Bool) → {moment : MomentWithPast} → MomentTrail script start moment
      → TrailLeft script start moment end → CallsAvailable start moment good_id → HasDrafts good_id moment
  drafts-by_tests = by_tests-on_the_way script HasDrafts kept

  pub drafts-on_the_way : (events : List Move) (event : Move) (start end : MomentWithPast) → run_with_past script events ≡ Some start
      → next_moment script event start ≡ Some end → {moment : MomentWithPast} → MomentTrail script start moment
      → TrailLeft script start moment end → HasDrafts (good_id_at end) moment
  drafts-on_the_way events event start end run happens trail left =
      drafts-by_tests events event start end run happens (good_id_at end) trail left (test_of_end script event start end happens left)
