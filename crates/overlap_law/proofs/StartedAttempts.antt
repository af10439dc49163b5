-- In every run each attempt is for a request that was started. So a request that begins has no attempt yet: its number is asked once.
use Rattle.std.proofs.Common.{◌≡◌, ⊎_elim, arith, ℕ, ◌<◌, List, slice_get, Some, sym, ap, subst, ◌∙◌}
use Rattle.std.specs.Ordering.{nat_cmp}
use Rattle.std.specs.FinMap as tree
use Rattle.proof_tools.proofs.FiniteMaps.{get-insert_same}
use Rattle.cluster_script.specs.declared.statement.Statement.{Statement}
use Rattle.cluster_script.specs.Statements.{requests_of}
use Rattle.cluster_script.specs.NumberedRequests.{numbers_of_session}
use Rattle.sheep_node.specs.declared.event.Event.{Event}
use Rattle.sheep_node.specs.declared.input.Input.TheVariants as inputs
use Rattle.sheep_node.specs.Step.{node_step}
use Rattle.sheep_world.specs.World.{Host, World}
use Rattle.sheep_world.specs.declared.progress.SessionProgress.{SessionProgress}
use Rattle.sheep_world.specs.Step.{EventOutcome}
use Rattle.sheep_world.specs.Began.{Began, MakesMove}
use Rattle.sheep_world.specs.BegunRequests.{begun_count, WasBegun}
use Rattle.sheep_world.specs.NodeCauses.{NodeCause, GuestAsks, RequestComes, ReplyComes, LossIsTold, EntryIsRead, EntryIsPut, RecoveryTicks}
use Rattle.sheep_world.specs.NodeCauses.{WorkIsRetried, ClientAsks, event_of_cause, progress_at_cause, host_with_node, world_after_cause}
use Rattle.sheep_world.specs.EventKinds.{outcome_of_step, log_after_return, EventKind, NodeStep, UntoldLoss, UnreadDelivery, NodeLoss}
use Rattle.sheep_world.specs.EventKinds.{NodeLeave, NodeReweight, NodeJoin, NodeReturn, PhaseEnd}
use Rattle.sheep_world.proofs.BegunRequestLaws.{Grows, were_begun}
use Rattle.sheep_world.proofs.BegunWorlds.{goes_on}
use Rattle.sheep_world.proofs.ClientReads.{goes_by_kind}
use Rattle.sheep_world.proofs.SessionNumbers.{once}
use Rattle.sheep_world.specs.RunsWithAsks.{Move}
use Rattle.overlap_law.specs.Attempts.{AttemptRecord, attempts_begun_by}
use Rattle.overlap_law.specs.BegunAttempts.{attempts_after}
use Rattle.overlap_law.specs.Past.{MomentWithPast, past_after_event, moment_after, first_moment, run_with_past}
use Rattle.overlap_law.specs.StepMoments.{SteppingNode, IsStepping, StepsByChanges, StepsAtOnce, last_in_step, moment_in_step}
use Rattle.overlap_law.specs.StepMoments.{attempts_with_loss, attempts_at_cause}
use Rattle.overlap_law.proofs.AttemptsInSteps.{attempts-in_step, attempts-at_end}
use Rattle.overlap_law.proofs.AttemptsOfEvents.{attempts-of_untold_loss, attempts-of_unread_delivery, attempts-of_loss, attempts-of_leave}
use Rattle.overlap_law.proofs.AttemptsOfEvents.{attempts-of_reweight, attempts-of_join, attempts-of_return, attempts-of_phase_end}
use Rattle.overlap_law.proofs.KnownFates.{got_either, begun_asked, begun_makes}
use Rattle.overlap_law.proofs.KnownFatesLater.{WasMarked, as_it_was, lost_was, caused_was}
use Rattle.overlap_law.proofs.RefusedInRuns.{replies_grow, still_begun, found_grows}
use Rattle.overlap_law.proofs.RunsByEvents.{KeptByEvents, run-kept_by_events}
use Rattle.overlap_law.proofs.GoingOn.{goes_as}
use Rattle.overlap_law.proofs.MakersOfScript.{makers_in_world}
use Rattle.overlap_law.specs.MomentChanges.{RunsAreInRange}

abbrev pub Guests : Type 0
Guests = tree.FinMap nat_cmp SessionProgress

no_less : (guests : Guests) → Grows guests guests
no_less guests = λ q. omega arith

module _ (script : List Statement) where
  -- a session has begun the request
  abbrev pub IsStarted : Guests → ℕ → Type 0
  IsStarted guests req = (session : ℕ) × WasBegun script guests session req

  abbrev pub AreStarted : Guests → List AttemptRecord → Type 0
  AreStarted guests attempts = (j : ℕ) (attempt : AttemptRecord) → slice_get attempts j ≡ Some attempt → IsStarted guests attempt.req

  -- the next request of a session was not started
  pub next_is_new : (guests : Guests) (number req : ℕ) → slice_get (numbers_of_session script number) (begun_count number guests) ≡ Some req
      → IsStarted guests req → ⊥
  next_is_new guests number req next started =
      let (session, begun) = started in
      let same = once 1 (requests_of script) number session (begun_count number guests) begun.place req next begun.there in
      let place : begun_count number guests ≡ begun.place = same.1 in
      let below : begun.place < begun_count number guests = subst (λ (k : ℕ). begun.place < begun_count k guests) (sym same.0)
      begun.before in
      omega (arith, place, below)

  -- ---- every event

  module _ (range : RunsAreInRange script) (start : MomentWithPast) (began : Began script start.world)
      (all : AreStarted start.world.guests start.past.attempts) where
    abbrev StartedAfter : Event → EventOutcome → Type 0
    StartedAfter event made = AreStarted made.world.guests (moment_after script event start made).past.attempts

    -- an attempt that was there
    old_started : (later : Guests) → Grows start.world.guests later → (j : ℕ) (now : AttemptRecord) → WasMarked start.past.attempts j now
        → IsStarted later now.req
    old_started later grows j now w =
        let (session, begun) = all j w.was w.at in (
          session,
          subst (λ (a : AttemptRecord). WasBegun script later session a.req) w.same
              (still_begun script start.world.guests later grows session w.was.req begun),
        )

    module _ (stepping : SteppingNode) (is : IsStepping script start.world stepping)
        (next : Began script (world_after_cause script stepping.n stepping.host stepping.cause start.world)) where
      abbrev after : World
      after = world_after_cause script stepping.n stepping.host stepping.cause start.world

      abbrev new : Host
      new = host_with_node stepping.host (last_in_step stepping).node

      abbrev ended : MomentWithPast
      ended = moment_in_step script stepping start (last_in_step stepping)

      grows : Grows start.world.guests after.guests
      grows = λ q.
          let found = found_grows script start.world began stepping.n stepping.host is.there stepping.cause q in
          let later = replies_grow script (last_in_step stepping).outputs.replies (progress_at_cause stepping.cause start.world) q in
          omega (arith, found, later)

      -- one that began is for a request that the node has
      new_started : (k : ℕ) (now : AttemptRecord) → slice_get (attempts_begun_by stepping.host new) k ≡ Some now
          → IsStarted after.guests now.req
      new_started k now got =
          let (request, asked) = begun_asked stepping.host new k now got in
          let (work, there, making) = begun_makes stepping.host new k now got in
          let at = get-insert_same start.world.hosts stepping.n new in
          let of_script = makers_in_world script range after next stepping.n new at now.req work request there making asked in
          let begun = were_begun script after next stepping.n new at now.req request asked of_script in
          (begun.session.number, begun.begun)

      by_changes : StepsByChanges stepping.cause → AreStarted after.guests ended.past.attempts
      by_changes by j now at = ⊎_elim
          (λ (old : slice_get (attempts_at_cause stepping.host.node stepping.cause start.past.attempts) j ≡ Some now).
          old_started after.guests grows j now (caused_was stepping.host.node stepping.cause start.past.attempts j now old))
          (λ (begins : (k : ℕ) × (slice_get (attempts_begun_by stepping.host new) k ≡ Some now)). new_started begins.0 now begins.1)
          (got_either (attempts_at_cause stepping.host.node stepping.cause start.past.attempts) (attempts_begun_by stepping.host new) j now
          (ap (λ (all : List AttemptRecord). slice_get all j) (sym (attempts-in_step script start stepping is by (last_in_step stepping)))
          ∙ at))

      at_once : StepsAtOnce stepping.cause → AreStarted after.guests ended.past.attempts
      at_once by j now at =
          old_started after.guests grows j now
          (caused_was stepping.host.node stepping.cause start.past.attempts j now
          (ap (λ (all : List AttemptRecord). slice_get all j) (sym (attempts-at_end script start stepping is by)) ∙ at))

      either_way : (cause : NodeCause) → (StepsByChanges cause → AreStarted after.guests ended.past.attempts)
          → (StepsAtOnce cause → AreStarted after.guests ended.past.attempts) → AreStarted after.guests ended.past.attempts
      either_way (GuestAsks session req ask) many one = many tt
      either_way (RequestComes name to request) many one = one tt
      either_way (ReplyComes name from rsp) many one = many tt
      either_way (LossIsTold name packet) many one = many tt
      either_way (EntryIsRead entry) many one = many tt
      either_way (EntryIsPut entry) many one = one tt
      either_way RecoveryTicks many one = one tt
      either_way WorkIsRetried many one = many tt
      either_way (ClientAsks req ask) many one = many tt

      step_started : StartedAfter (event_of_cause stepping.n stepping.cause)
          (outcome_of_step script stepping.n stepping.host stepping.cause start.world)
      step_started = either_way stepping.cause by_changes at_once

    made_so : {event own : Event} {made its : EventOutcome} → own ≡ event → its ≡ made → StartedAfter own its → StartedAfter event made
    made_so {event} {own} {made} {its} is so started = subst (λ (e : Event). StartedAfter e made) is (subst (StartedAfter own) so started)

    -- where no node steps
    event_so : (event : Event) (made : EventOutcome) (attempts : List AttemptRecord)
        → attempts_after script event start.world made.world start.past.attempts ≡ attempts
        → Grows start.world.guests made.world.guests
        → ((j : ℕ) (now : AttemptRecord) → slice_get attempts j ≡ Some now → WasMarked start.past.attempts j now)
        → StartedAfter event made
    unfolding past_after_event
    event_so event made attempts so grows marked j now at =
        old_started made.world.guests grows j now (marked j now (ap (λ (all : List AttemptRecord). slice_get all j) (sym so) ∙ at))

    abbrev GrowsBy : EventOutcome → Type 0
    GrowsBy made = Grows start.world.guests made.world.guests

    event_started : (event : Event) (made : EventOutcome) → MakesMove script event start.world made
        → EventKind script event start.world made → StartedAfter event made
    event_started event made happened (NodeStep h) =
        let is_made = goes_as script start.world h.event_so h.made_so happened in
        made_so h.event_so h.made_so
        (step_started (record { n = h.n; host = h.host; cause = h.cause })
        (record { there = h.there; up = h.up; caused = h.caused; made = is_made })
        (goes_on script (event_of_cause h.n h.cause) start.world (outcome_of_step script h.n h.host h.cause start.world) began is_made))
    event_started event made happened (UntoldLoss h) =
        event_so event made (attempts_with_loss h.name h.packet start.past.attempts)
        (attempts-of_untold_loss script event start.world made start.past.attempts h)
        (subst GrowsBy h.made_so (no_less start.world.guests)) (lost_was h.name h.packet start.past.attempts)
    event_started event made happened (UnreadDelivery h) =
        event_so event made start.past.attempts (attempts-of_unread_delivery script event start.world made start.past.attempts h)
        (subst GrowsBy h.made_so (no_less start.world.guests)) (as_it_was start.past.attempts)
    event_started event made happened (NodeLoss h) =
        event_so event made start.past.attempts (attempts-of_loss script event start.world made start.past.attempts h)
        (subst GrowsBy h.made_so (no_less start.world.guests)) (as_it_was start.past.attempts)
    event_started event made happened (NodeLeave h) =
        event_so event made start.past.attempts (attempts-of_leave script event start.world made start.past.attempts h)
        (subst GrowsBy h.made_so (no_less start.world.guests)) (as_it_was start.past.attempts)
    event_started event made happened (NodeReweight h) =
        event_so event made start.past.attempts (attempts-of_reweight script event start.world made start.past.attempts h)
        (subst GrowsBy h.made_so (no_less start.world.guests)) (as_it_was start.past.attempts)
    event_started event made happened (NodeJoin h) =
        event_so event made start.past.attempts (attempts-of_join script event start.world made start.past.attempts h)
        (subst GrowsBy h.made_so (no_less start.world.guests)) (as_it_was start.past.attempts)
    event_started event made happened (NodeReturn h) =
        event_so event made start.past.attempts (attempts-of_return script event start.world made start.past.attempts h)
        (subst GrowsBy h.made_so
        (replies_grow script (node_step (inputs.Back (log_after_return script h.n start.world)) h.host.node).outputs.replies
        start.world.guests)) (as_it_was start.past.attempts)
    event_started event made happened (PhaseEnd h) =
        event_so event made start.past.attempts (attempts-of_phase_end script event start.world made start.past.attempts h)
        (subst GrowsBy h.made_so (no_less start.world.guests)) (as_it_was start.past.attempts)

  -- ---- every run

  abbrev pub StartedAt : MomentWithPast → Type 0
  StartedAt moment = AreStarted moment.world.guests moment.past.attempts

  pub opening_started : StartedAt (first_moment script)
  opening_started j attempt got = absurd (cc (got))

  pub events_started : RunsAreInRange script → KeptByEvents script StartedAt
  events_started range event before made began is all =
      event_started range before began all event made is (goes_by_kind script event before.world made is)

  pub started-in_run : RunsAreInRange script → (events : List Move) (moment : MomentWithPast) → run_with_past script events ≡ Some moment
      → StartedAt moment
  started-in_run range events moment is = run-kept_by_events script StartedAt opening_started (events_started range) events moment is
