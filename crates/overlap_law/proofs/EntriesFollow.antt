-- At each moment the disks that the history has are those that the log has made, deleted where they are so by the log: so what an entry
-- would add may come next in the history.
use Rattle.std.proofs.Common.{◌≡◌, ℕ, List, ◌++◌, Some, None, refl, sym, ap, ◌∙◌}
use Rattle.std.proofs.lemmas.List.Sums.{fold-append}
use Rattle.object_id.specs.declared.entry.Entry.{Entry}
use Rattle.cluster_script.specs.declared.statement.Statement.{Statement}
use Rattle.disk_history.specs.declared.event.HistEvent.{HistEvent}
use Rattle.sheep_world.specs.Granted.{entry_adds}
use Rattle.sheep_world.specs.HistoryAdditions.{writers_lost}
use Rattle.sheep_world.specs.Opening.{initial_world}
use Rattle.vdi_directory.specs.Decisions.{log_effects}
use Rattle.vdi_directory.specs.States.{state_of}
use Rattle.overlap_law.specs.Headline.{ledger_of}
use Rattle.overlap_law.specs.HistoryGrowth.{added_at_cause, added_by_reply, HistoryGrows, NothingIsAdded, WritesBegin, RequestIsReplied}
use Rattle.overlap_law.specs.HistoryGrowth.{EntryAdds, WritersAreLost}
use Rattle.overlap_law.specs.MomentChanges.{KeptByChanges, RunsAreInRange}
use Rattle.overlap_law.specs.Past.{MomentWithPast, first_moment}
use Rattle.overlap_law.specs.ToldReads.{AllElseMayFollow}
use Rattle.overlap_law.proofs.DiskShapes.{Shapes, shapes_after, shapes, shapes_so, behind_shapes, among_shapes, cause_plain, reply_plain}
use Rattle.overlap_law.proofs.DiskShapes.{lost_plain}
use Rattle.overlap_law.proofs.LogsOfMoments.{log_before}
use Rattle.overlap_law.proofs.DrawnClones.{shown}
use Rattle.overlap_law.proofs.HistoryInMoments.{history_grows}
use Rattle.overlap_law.proofs.EntriesFit.{made_follow, entry_shown, entry_may}

-- ---- at each moment

-- the history has the disks that the log has made, deleted where they are so by the log
abbrev pub AreShown : MomentWithPast → Type 0
AreShown moment = (v : ℕ) → shapes moment.past.history v ≡ shown (state_of (log_effects moment.world.log) v)

module _ (script : List Statement) where
  module _ (start before after : MomentWithPast) (same : before.world.log ≡ start.world.log) (were : AreShown before) where
    abbrev AreShownBy : List HistEvent → Type 0
    AreShownBy history = (v : ℕ) → shapes history v ≡ shown (state_of (log_effects after.world.log) v)

    plainly : (history : List HistEvent) → after.world.log ≡ start.world.log → shapes history ≡ shapes before.past.history
        → AreShownBy history
    plainly history log alike v =
        ap (λ (f : Shapes). f v) alike ∙ were v
        ∙ ap (λ (entries : List Entry). shown (state_of (log_effects entries) v)) (same ∙ sym log)

    by_growth : (history later : List HistEvent) → before.past.history ≡ history
        → HistoryGrows script start.world after.world.log history later → AreShownBy later
    by_growth history later is (NothingIsAdded log) = plainly history log (ap shapes (sym is))
    by_growth history later is (WritesBegin cause log) =
        plainly (history ++ added_at_cause script start.world cause) log
        (behind_shapes history (added_at_cause script start.world cause) (cause_plain script start.world cause) ∙ ap shapes (sym is))
    by_growth history later is (RequestIsReplied cause reply front back log parts apart) =
        plainly (front ++ added_by_reply script start.world cause reply ++ back) log
        (among_shapes front (added_by_reply script start.world cause reply) back (reply_plain script start.world cause reply)
        ∙ ap shapes (sym parts ∙ sym is))
    by_growth history later is (EntryAdds entry log) = λ v.
        ap (λ (f : Shapes). f v) (fold-append shapes_after (λ (v : ℕ). None) history (entry_adds start.world.log entry))
        ∙ entry_shown start.world.log (shapes history)
        (λ v. ap (λ (events : List HistEvent). shapes events v) (sym is) ∙ were v
        ∙ ap (λ (entries : List Entry). shown (state_of (log_effects entries) v)) same) entry v
        ∙ ap (λ (entries : List Entry). shown (state_of (log_effects entries) v)) (sym log)
    by_growth history later is (WritersAreLost n host log) =
        plainly (history ++ writers_lost script start.world n (Some host)) log
        (behind_shapes history (writers_lost script start.world n (Some host)) (lost_plain script start.world n host) ∙ ap shapes (sym is))

  first_shown : AreShown (first_moment script)
  unfolding state_of log_effects initial_world
  first_shown v = refl

  pub kept_shown : RunsAreInRange script → KeptByChanges script AreShown
  kept_shown range = record {
    opens = first_shown;
    keeps = λ start before after began change were.
        by_growth start before after (log_before script change) were before.past.history after.past.history refl
        (history_grows script range start began change);
  }

pub entries_follow : (moment : MomentWithPast) → AreShown moment → (entry : Entry)
    → AllElseMayFollow (ledger_of moment.past.history) (entry_adds moment.world.log entry)
entries_follow moment are entry =
    made_follow (entry_adds moment.world.log entry) (ledger_of moment.past.history) (shapes moment.past.history)
    (shapes_so moment.past.history) (entry_may moment.world.log (shapes moment.past.history) are entry)
