-- On the way of each event of a run in range, what an entry of the log adds to the history keeps what blocks may come to be read as, by
-- each test for good ids that serves there: the log gets an entry only as an event begins, or ends with it.
use Rattle.std.proofs.Common.{◌≡◌, ⊎_elim, ℕ, Bool, List, sym, subst, ◌∙◌}
use Rattle.cluster_script.specs.declared.statement.Statement.{Statement}
use Rattle.vdi_directory.specs.Decisions.{log_effects}
use Rattle.overlap_law.specs.HistoryStands.{CallsAvailable}
use Rattle.overlap_law.specs.KeptHistory.{EntriesKeepBlocks}
use Rattle.overlap_law.specs.MomentChanges.{IsOnTheWay, Next, RunsAreInRange}
use Rattle.overlap_law.specs.Overlap.{CallsFewer}
use Rattle.overlap_law.specs.Past.{MomentWithPast}
use Rattle.overlap_law.specs.StayingDrafts.{PlacesStayDrawn}
use Rattle.overlap_law.proofs.CarriedDrafts.{drafts-by_tests, parents_good}
use Rattle.overlap_law.proofs.CarriedTables.{good_id_at}
use Rattle.overlap_law.proofs.HistoryTests.{test_before}
use Rattle.overlap_law.proofs.LogsOfMoments.{log_or_start}
use Rattle.overlap_law.proofs.MadeLike.{entries_keep}
use Rattle.overlap_law.proofs.PlacesInRuns.{places_drawn-in_run}
use Rattle.overlap_law.proofs.TurnsInRuns.{never_pushed}
use Rattle.sheep_world.specs.RunsWithAsks.{Move}

abbrev HasPlaces : (ℕ → Bool) → MomentWithPast → Type 0
HasPlaces good_id moment = PlacesStayDrawn (log_effects moment.world.log) good_id moment.world.hosts moment.past.attempts

-- what is so of more ids is so of fewer
fewer_places : (few many : ℕ → Bool) (moment : MomentWithPast) → CallsFewer few many → HasPlaces many moment → HasPlaces few moment
fewer_places few many moment fewer places vid index draft = places vid index (record {
  reservation = draft.reservation;
  stands = draft.stands;
  good = fewer vid draft.good;
  spec = draft.spec;
  made_with = draft.made_with;
  within = draft.within;
})

pub entries_keep-by_tests : (script : List Statement) → RunsAreInRange script → (events : List Move) (event : Move)
    (start end before after : MomentWithPast) → IsOnTheWay script events event start end before after → (good_id : ℕ → Bool)
    → CallsAvailable start after good_id → EntriesKeepBlocks good_id before after
entries_keep-by_tests script range events event start end before after way good_id test = ⊎_elim
    (λ (same : after.world.log ≡ before.world.log). record {
      each = λ entry longer. absurd (never_pushed before.world.log entry (sym same ∙ longer));
    })
    (λ (first : before ≡ start).
    entries_keep script range events start before after way.run way.behind way.change good_id
    (drafts-by_tests script range events event start end way.run way.happens good_id way.behind (Next way.change way.left)
    (test_before script way.change good_id test))
    (subst (HasPlaces good_id) (sym first)
    (fewer_places good_id (good_id_at start) start test.fewer (places_drawn-in_run script range events start way.run)))
    (parents_good after.world.log good_id test.above))
    (log_or_start script way.change)
