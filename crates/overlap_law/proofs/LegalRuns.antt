-- In each run in range all of the history, reads aside, might come next in its turn.
use Rattle.std.proofs.Common.{◌≡◌, List, [], ◌∷◌, ◌++◌, Some, refl}
use Rattle.cluster_script.specs.declared.statement.Statement.{Statement}
use Rattle.disk_history.specs.Ledger.{empty_ledger}
use Rattle.sheep_node.specs.declared.event.Event.{Event}
use Rattle.sheep_world.specs.Opening.{initial_world}
use Rattle.sheep_world.specs.Step.{EventOutcome}
use Rattle.sheep_world.proofs.ClientReads.{goes_by_kind}
use Rattle.sheep_world.specs.RunsWithAsks.{Move}
use Rattle.sheep_world.specs.Began.{MakesMove}
use Rattle.overlap_law.specs.Headline.{ledger_of}
use Rattle.overlap_law.specs.MomentChanges.{RunsAreInRange}
use Rattle.overlap_law.specs.Past.{MomentWithPast, past_after_event, first_moment, run_on, run_with_past}
use Rattle.overlap_law.specs.ToldReads.{AllElseMayFollow}
use Rattle.overlap_law.proofs.EndingWrites.{WritersAreOnDisks}
use Rattle.overlap_law.proofs.FollowingEvents.{both_follow}
use Rattle.overlap_law.proofs.NoRecoveredDue.{began-with_past}
use Rattle.overlap_law.proofs.RefusedInRuns.{AreAnsweredAt, none_unanswered, opens_answered, events_answered}
use Rattle.overlap_law.proofs.RunsByEvents.{KeptByEvents, run-kept_by_events}
use Rattle.overlap_law.proofs.RunsWithOneMore.{run_with_one_more}
use Rattle.overlap_law.proofs.StandingWriters.{AreStanding, event_stands}
use Rattle.overlap_law.proofs.LegalEvents.{event_follows, event_placed, none_ended}

module _ (script : List Statement) (range : RunsAreInRange script) where
  -- a run ends in this moment, and all of it, reads aside, might come next in its turn
  pub record IsLegalSoFar (moment : MomentWithPast) : Type 0 where
    pub events : List Move
    pub run : run_with_past script events ≡ Some moment
    pub legal : AllElseMayFollow empty_ledger moment.past.history
    pub standing : AreStanding script moment.world.hosts moment.world.guests moment.past.history
    pub placed : WritersAreOnDisks moment.world.hosts moment.past.history

  opens_legal : IsLegalSoFar (first_moment script)
  unfolding run_with_past run_on initial_world
  opens_legal = record {
    events = [];
    run = refl;
    legal = tt;
    standing = λ q started among. absurd (none_unanswered script q started among);
    placed = λ n host there up req request got. refl;
  }

  events_legal : KeptByEvents script IsLegalSoFar
  unfolding past_after_event
  events_legal event before made began is so =
      let kind = goes_by_kind script event before.world made is in
      let are = run-kept_by_events script (AreAnsweredAt script) (opens_answered script) (events_answered script) so.events before so.run in
      record {
        events = so.events ++ is.move ∷ [];
        run = run_with_one_more script event made so.events before is so.run;
        legal = both_follow [] before.past.history made.grown so.legal
            (event_follows script range so.events before so.run began so.legal so.standing so.placed event made kind);
        standing = event_stands script range before.world began before.past.history before.past.refused are
            (none_ended script range so.events before so.run began so.legal so.standing so.placed) so.standing event made kind;
        placed = event_placed script range so.events before so.run began so.legal so.standing so.placed event made kind;
      }

  pub all_follows : (events : List Move) (event : Event) (before : MomentWithPast) (made : EventOutcome)
      → run_with_past script events ≡ Some before → MakesMove script event before.world made
      → AllElseMayFollow (ledger_of before.past.history) made.grown
  all_follows events event before made run is =
      let so = run-kept_by_events script IsLegalSoFar opens_legal events_legal events before run in
      let began = began-with_past script events before run in
      event_follows script range so.events before so.run began so.legal so.standing so.placed event made
      (goes_by_kind script event before.world made is)

  -- so may all that it has
  pub legal-in_run : (events : List Move) (moment : MomentWithPast) → run_with_past script events ≡ Some moment
      → AllElseMayFollow empty_ledger moment.past.history
  legal-in_run events moment run = (run-kept_by_events script IsLegalSoFar opens_legal events_legal events moment run).legal
