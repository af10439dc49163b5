-- What is kept of the working disk on which a write or check is under way, and holds as one begins, holds in each run in range.
use Rattle.std.proofs.Common.{◌≡◌, ⊎_elim, ℕ, Bool, true, false, List, Some, refl, sym, subst, ◌∙◌}
use Rattle.std.specs.List.{list_any}
use Rattle.std.specs.FinMap as tree
use Rattle.std.proofs.lemmas.Bool.{or_cases}
use Rattle.std.proofs.lemmas.List.Folds.{list_any-append}
use Rattle.disk_history.specs.declared.event.HistEvent.{HistEvent}
use Rattle.object_id.specs.declared.entry.Entry.{Entry}
use Rattle.cluster_script.specs.declared.statement.Statement.{Statement}
use Rattle.cluster_script.specs.Sessions.{ScriptSession}
use Rattle.sheep_node.specs.declared.event.Event.{Event}
use Rattle.sheep_node.specs.declared.ask.Ask.{Ask}
use Rattle.sheep_world.specs.World.{Host}
use Rattle.sheep_world.specs.Began.{Began}
use Rattle.sheep_world.specs.Opening.{initial_world}
use Rattle.sheep_world.specs.NodeCauses.{GuestAsks, IsCause}
use Rattle.sheep_world.proofs.BegunWorlds.{goes_on}
use Rattle.sheep_world.proofs.ClientReads.{goes_by_kind}
use Rattle.sheep_world.proofs.WireAtOpening.{opening_found}
use Rattle.sheep_world.specs.RunsWithAsks.{Move}
use Rattle.overlap_law.specs.MomentChanges.{RunsAreInRange}
use Rattle.overlap_law.specs.Past.{MomentWithPast, past_after_event, first_moment, run_with_past}
use Rattle.overlap_law.proofs.BegunWriters.{IsBegunWriter, event_begins, event_grows, still_writer}
use Rattle.overlap_law.proofs.DisksOfWriters.{IsWriterAt}
use Rattle.overlap_law.proofs.ItemsInRuns.{BothAt, opens_known, events_known}
use Rattle.overlap_law.proofs.ItemsInSteps.{old_apart}
use Rattle.overlap_law.proofs.ItemsOfRequests.{begins_write_of, may_have_items}
use Rattle.overlap_law.proofs.RunsByEvents.{KeptByEvents, run-kept_by_events}
use Rattle.overlap_law.proofs.UnansweredRequests.{first_empty}
use Rattle.overlap_law.proofs.UnderWay.{HoldsFor, IsKeptOnHeld}
use Rattle.overlap_law.proofs.UnderWayOfEvents.{HoldsAtBegin, event_so}

module _ (script : List Statement) (range : RunsAreInRange script) (req : ℕ) where
  -- who began to write was begun, and is a write or a check
  abbrev BeganToWrite : MomentWithPast → Type 0
  BeganToWrite moment = list_any (begins_write_of req) moment.past.history ≡ true → IsBegunWriter script req moment.world.guests

  abbrev KnownAt : MomentWithPast → Type 0
  KnownAt moment = BothAt script range req moment × BeganToWrite moment

  opens_begun : KnownAt (first_moment script)
  opens_begun = (opens_known script range req, λ is. absurd (cc (is)))

  events_begun : KeptByEvents script KnownAt
  unfolding past_after_event
  events_begun event before made began is all =
      let kind = goes_by_kind script event before.world made is in (
        events_known script range req event before made began is all.0,
        λ so. ⊎_elim
            (λ (old : list_any (begins_write_of req) before.past.history ≡ true).
            still_writer script req before.world.guests made.world.guests (event_grows script req event before.world made began kind)
            (all.1 old))
            (λ (new : list_any (begins_write_of req) made.grown ≡ true).
            event_begins script req event before.world made began kind new)
            (or_cases (list_any (begins_write_of req) before.past.history) (list_any (begins_write_of req) made.grown)
            (sym (list_any-append (begins_write_of req) before.past.history made.grown) ∙ so)),
      )

  -- who began to write is a write or a check
  pub writer_in_run : (events : List Move) (moment : MomentWithPast) → run_with_past script events ≡ Some moment
      → list_any (begins_write_of req) moment.past.history ≡ true → IsWriterAt script req
  writer_in_run events moment is so = ((run-kept_by_events script KnownAt opens_begun events_begun events moment is).1 so).writer

  -- and was begun
  pub begun-in_run : (events : List Move) (moment : MomentWithPast) → run_with_past script events ≡ Some moment
      → list_any (begins_write_of req) moment.past.history ≡ true → IsBegunWriter script req moment.world.guests
  begun-in_run events moment is so = (run-kept_by_events script KnownAt opens_begun events_begun events moment is).1 so

  module _ (writer : IsWriterAt script req) (P : List Entry → List HistEvent → ℕ → Type 0) (keeps : IsKeptOnHeld script range req writer P)
      (starts : HoldsAtBegin script range req writer P) where
    abbrev pub HoldsAt : MomentWithPast → Type 0
    HoldsAt moment = (n : ℕ) (host : Host) → tree.get moment.world.hosts n ≡ Some host → host.is_lost ≡ false
        → HoldsFor script range req writer P moment.world.log moment.past.history host

    abbrev AllAt : MomentWithPast → Type 0
    AllAt moment = KnownAt moment × HoldsAt moment

    opens_all : AllAt (first_moment script)
    unfolding initial_world
    opens_all = (
      opens_begun,
      λ n host got up opened way.
          let (member, own, is) = opening_found script n host got in
          absurd ((first_empty script member.node).asked req way.request
          (subst (λ (h : Host). tree.get h.node.requests req ≡ Some way.request) (sym is) way.there)),
    )

    events_all : KeptByEvents script AllAt
    unfolding past_after_event
    events_all event before made began is all =
        let known = events_begun event before made began is all.0 in (
          known,
          event_so script range req writer P keeps starts before.world began before.past.history all.1 event
              (λ n host there session other ask caused same. unbegun event before began all.0 n host there session other ask caused same)
              made (goes_by_kind script event before.world made is) is (goes_on script event before.world made began is) known.0.1.0.single,
        )
      where
        unbegun : (event : Event) (before : MomentWithPast) (began : Began script before.world) → KnownAt before → (n : ℕ) (host : Host)
            → tree.get before.world.hosts n ≡ Some host → (session : ScriptSession) (other : ℕ) (ask : Ask)
            → IsCause script before.world n host (GuestAsks session other ask) → other ≡ req
            → list_any (begins_write_of req) before.past.history ≡ false
        unbegun event before began known n host there session other ask caused same =
            by_value (list_any (begins_write_of req) before.past.history) refl
          where
            by_value : (b : Bool) → list_any (begins_write_of req) before.past.history ≡ b
                → list_any (begins_write_of req) before.past.history ≡ false
            by_value false none = none
            by_value true so =
                let was = known.1 so in
                absurd (old_apart script range req before.world began n host there before.past.refused
                (may_have_items req before.past.history) known.0.0 known.0.1.0 known.0.1.1 session other ask caused was.session was.begun
                same)

    pub holds-in_run : (events : List Move) (moment : MomentWithPast) → run_with_past script events ≡ Some moment
        → (n : ℕ) (host : Host) → tree.get moment.world.hosts n ≡ Some host → host.is_lost ≡ false
        → HoldsFor script range req writer P moment.world.log moment.past.history host
    holds-in_run events moment is = (run-kept_by_events script AllAt opens_all events_all events moment is).1
