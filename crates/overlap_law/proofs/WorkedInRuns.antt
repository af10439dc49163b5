-- In every run in range what a node that isn't lost knows of the messages of its open creates and writes fits their fates: over each event.
use Rattle.std.proofs.Common.{◌≡◌, ◌≢◌, ◌⊎◌, inl, inr, ⊎_elim, ℕ, ◌≤◌, not, true, false, List, [], ◌∷◌, Option, Some, None, option_map}
use Rattle.std.proofs.Common.{option_and_then, slice_get, refl, sym, ap, subst, ◌∙◌}
use Rattle.std.specs.Ordering.{nat_cmp}
use Rattle.std.specs.FinMap as tree
use Rattle.std.proofs.lemmas.Bool.{and_parts, not-true}
use Rattle.std.proofs.lemmas.List.Elements.{All-contains}
use Rattle.std.proofs.lemmas.Option.{same_Some}
use Rattle.proof_tools.proofs.FiniteMaps.{get-insert_cases}
use Rattle.object_id.specs.declared.node.NodeId.{NodeId}
use Rattle.cluster_script.specs.declared.statement.Statement.{Statement}
use Rattle.peer_proto.specs.declared.ask.PeerReq.{PeerReq}
use Rattle.gateway.specs.declared.message.Message.{Message}
use Rattle.gateway.specs.declared.message.Status.{Status}
use Rattle.gateway.specs.declared.message.Status.TheVariants as statuses
use Rattle.gateway.specs.Attempt as gateways
use Rattle.gateway.specs.Attempt.{send_of}
use Rattle.gateway.specs.State.{Work, Gateway}
use Rattle.sheep_node.specs.declared.event.Event.{Event}
use Rattle.sheep_node.specs.State.{Node}
use Rattle.sheep_node.specs.May.{has_numbers}
use Rattle.sheep_world.specs.World.{Host, World, is_host_up}
use Rattle.sheep_world.specs.MembershipChanges.{lost_host}
use Rattle.sheep_world.specs.Step.{EventOutcome}
use Rattle.sheep_world.specs.Began.{Began, MakesMove}
use Rattle.sheep_world.specs.WireMatch.{asked_by, own_name, IsInFlight}
use Rattle.sheep_world.specs.HostChanges.{host_after_return, joined_host}
use Rattle.sheep_world.specs.NodeCauses.{NodeCause, GuestAsks, RequestComes, ReplyComes, LossIsTold, EntryIsRead, EntryIsPut, RecoveryTicks}
use Rattle.sheep_world.specs.NodeCauses.{WorkIsRetried, ClientAsks, event_of_cause, host_with_node, world_after_cause}
use Rattle.sheep_world.specs.EventKinds.{outcome_of_step, log_after_return, EventKind, NodeStep, UntoldLoss, UnreadDelivery, NodeLoss}
use Rattle.sheep_world.specs.EventKinds.{NodeLeave, NodeReweight, NodeJoin, NodeReturn, PhaseEnd}
use Rattle.sheep_world.proofs.BegunWorlds.{goes_on, goes_by_move}
use Rattle.sheep_world.proofs.ClientReads.{goes_by_kind}
use Rattle.sheep_world.proofs.ReturningNodes.{stepped_renewed}
use Rattle.sheep_world.specs.RunsWithAsks.{Move, made_by, event_of_move}
use Rattle.overlap_law.specs.Attempts.{AttemptRecord, MessageFate, attempts_begun_by}
use Rattle.overlap_law.specs.BegunAttempts.{attempts_after}
use Rattle.overlap_law.specs.MomentChanges.{RunsAreInRange}
use Rattle.overlap_law.specs.OpenWorks.{IsOpenAs, IsStatusOf, WorksKnowTheirFates}
use Rattle.overlap_law.specs.Packets.{message_name_at}
use Rattle.overlap_law.specs.Past.{MomentWithPast, past_after_event, moment_after, run_on, first_moment, run_with_past}
use Rattle.overlap_law.specs.StepMoments.{SteppingNode, IsStepping, StepsByChanges, StepsAtOnce, last_in_step, moment_in_step}
use Rattle.overlap_law.specs.StepMoments.{attempts_with_loss, attempts_at_cause}
use Rattle.overlap_law.specs.TiedAttempts.{IsTied}
use Rattle.overlap_law.proofs.AttemptsInSteps.{attempts-in_step, attempts-at_end}
use Rattle.overlap_law.proofs.AttemptsOfEvents.{attempts-of_untold_loss, attempts-of_unread_delivery, attempts-of_loss, attempts-of_leave}
use Rattle.overlap_law.proofs.AttemptsOfEvents.{attempts-of_reweight, attempts-of_join, attempts-of_return, attempts-of_phase_end}
use Rattle.overlap_law.proofs.KnownFates.{FitsFate, got_either, begun_above}
use Rattle.overlap_law.proofs.KnownFatesLater.{NodeFits, KnownFatesFit, WasMarked, lost_was, caused_was, still_fits}
use Rattle.overlap_law.proofs.KnownSteps.{together}
use Rattle.overlap_law.proofs.NoRecoveredDue.{began-with_past}
use Rattle.overlap_law.proofs.RunsByChanges.{event_kept}
use Rattle.overlap_law.proofs.TiedInRuns.{kept_tied, opening_tied}
use Rattle.overlap_law.proofs.ToldFates.{asked_message, in_flight}
use Rattle.overlap_law.proofs.WorkedSteps.{step_fits}
use Rattle.overlap_law.proofs.GoingOn.{next_by, goes_as}

-- a node without works
none_fit : (node : Node) (attempts : List AttemptRecord) → node.gateway.works ≡ tree.empty → NodeFits node attempts
none_fit node attempts empty j attempt at req work current place message fate opened got has =
    let none = tree.get-empty {X = Work} nat_cmp req in
    let there : tree.get tree.empty req ≡ Some work = ap (λ (works : tree.FinMap nat_cmp Work). tree.get works req) (sym empty)
    ∙ opened.there in
    absurd (cc (there, none))

module _ (script : List Statement) (range : RunsAreInRange script) where
  module _ (start : MomentWithPast) (began : Began script start.world) (tied : IsTied start)
      (fit : KnownFatesFit start.world.hosts start.past.attempts) where
    abbrev world : World
    world = start.world

    -- ---- every event

    abbrev FitAfter : Event → EventOutcome → Type 0
    FitAfter event made =
        IsTied (moment_after script event start made) → KnownFatesFit made.world.hosts (moment_after script event start made).past.attempts

    module _ (stepping : SteppingNode) (is : IsStepping script start.world stepping) where
      abbrev ended : MomentWithPast
      ended = moment_in_step script stepping start (last_in_step stepping)

      abbrev Origin : List AttemptRecord → Type 0
      Origin after = (j : ℕ) (now : AttemptRecord) → slice_get after j ≡ Some now
          → WasMarked start.past.attempts j now ⊎ ((stepping.host.node.sends ≤ now.first) × (now.gateway ≡ (last_in_step stepping).node.me))

      by_changes : StepsByChanges stepping.cause → Origin ended.past.attempts
      by_changes by j now at = ⊎_elim
          (λ (old : slice_get (attempts_at_cause stepping.host.node stepping.cause start.past.attempts) j ≡ Some now).
          inl (caused_was stepping.host.node stepping.cause start.past.attempts j now old))
          (λ (new : (k : ℕ)
          × (slice_get (attempts_begun_by stepping.host (host_with_node stepping.host (last_in_step stepping).node)) k ≡ Some now)).
          inr (begun_above stepping.host (host_with_node stepping.host (last_in_step stepping).node) new.0 now new.1))
          (got_either (attempts_at_cause stepping.host.node stepping.cause start.past.attempts)
          (attempts_begun_by stepping.host (host_with_node stepping.host (last_in_step stepping).node)) j now
          (ap (λ (all : List AttemptRecord). slice_get all j) (sym (attempts-in_step script start stepping is by (last_in_step stepping)))
          ∙ at))

      at_once : StepsAtOnce stepping.cause → Origin ended.past.attempts
      at_once by j now at =
          inl (caused_was stepping.host.node stepping.cause start.past.attempts j now
          (ap (λ (all : List AttemptRecord). slice_get all j) (sym (attempts-at_end script start stepping is by)) ∙ at))

      either_way : (cause : NodeCause) → (StepsByChanges cause → Origin ended.past.attempts)
          → (StepsAtOnce cause → Origin ended.past.attempts)
          → Origin ended.past.attempts
      either_way (GuestAsks session req ask) many one = many tt
      either_way (RequestComes name to request) many one = one tt
      either_way (ReplyComes name from rsp) many one = many tt
      either_way (LossIsTold name packet) many one = many tt
      either_way (EntryIsRead entry) many one = many tt
      either_way (EntryIsPut entry) many one = one tt
      either_way RecoveryTicks many one = one tt
      either_way WorkIsRetried many one = many tt
      either_way (ClientAsks req ask) many one = many tt

      step_event : Began script (world_after_cause script stepping.n stepping.host stepping.cause world)
          → FitAfter (event_of_cause stepping.n stepping.cause) (outcome_of_step script stepping.n stepping.host stepping.cause world)
      step_event next tied_after =
          step_fits script range start began tied fit stepping.n stepping.host stepping.cause is.there is.up is.caused next
          ended.past.attempts tied_after.fates (either_way stepping.cause by_changes at_once)

    made_so : {event own : Event} {made its : EventOutcome} → own ≡ event → its ≡ made → FitAfter own its → FitAfter event made
    made_so {event} {own} {made} {its} is so fits = subst (λ (e : Event). FitAfter e made) is (subst (FitAfter own) so fits)

    -- where no node steps, by the attempts and the hosts then
    event_so : (event : Event) (made : EventOutcome) (attempts : List AttemptRecord)
        → attempts_after script event world made.world start.past.attempts ≡ attempts
        → KnownFatesFit made.world.hosts attempts → FitAfter event made
    unfolding past_after_event
    event_so event made attempts so fits tied_after = subst (KnownFatesFit made.world.hosts) (sym so) fits

    abbrev FitNow : EventOutcome → Type 0
    FitNow made = KnownFatesFit made.world.hosts start.past.attempts

    one_more : (k : ℕ) (new : Host) → (new.is_lost ≡ false → NodeFits new.node start.past.attempts)
        → KnownFatesFit (tree.insert world.hosts k new) start.past.attempts
    one_more k new own n host at up = ⊎_elim
        (λ (is : (n ≡ k) × (new ≡ host)). subst (λ (h : Host). NodeFits h.node start.past.attempts) is.1
        (own (ap (λ (h : Host). h.is_lost) is.1 ∙ up)))
        (λ (apart : (n ≢ k) × (tree.get world.hosts n ≡ Some host)). fit n host apart.1 up)
        (get-insert_cases world.hosts k new n host at)

    event_fits : (event : Event) (made : EventOutcome) → MakesMove script event world made → EventKind script event world made
        → FitAfter event made
    event_fits event made happened (NodeStep h) =
        let is_made = goes_as script world h.event_so h.made_so happened in
        made_so h.event_so h.made_so
        (step_event (record { n = h.n; host = h.host; cause = h.cause })
        (record { there = h.there; up = h.up; caused = h.caused; made = is_made })
        (goes_on script (event_of_cause h.n h.cause) world (outcome_of_step script h.n h.host h.cause world) began is_made))
    event_fits event made happened (UntoldLoss h) =
        event_so event made (attempts_with_loss h.name h.packet start.past.attempts)
        (attempts-of_untold_loss script event world made start.past.attempts h)
        (subst (λ (m : EventOutcome). KnownFatesFit m.world.hosts (attempts_with_loss h.name h.packet start.past.attempts)) h.made_so
        (λ n host there up.
        still_fits host.node start.past.attempts (attempts_with_loss h.name h.packet start.past.attempts)
        (lost_was h.name h.packet start.past.attempts) (fit n host there up)))
    event_fits event made happened (UnreadDelivery h) =
        event_so event made start.past.attempts (attempts-of_unread_delivery script event world made start.past.attempts h)
        (subst FitNow h.made_so fit)
    event_fits event made happened (NodeLoss h) =
        event_so event made start.past.attempts (attempts-of_loss script event world made start.past.attempts h)
        (subst FitNow h.made_so (one_more h.n (lost_host h.host) (λ up. absurd (cc (up)))))
    event_fits event made happened (NodeLeave h) =
        event_so event made start.past.attempts (attempts-of_leave script event world made start.past.attempts h)
        (subst FitNow h.made_so fit)
    event_fits event made happened (NodeReweight h) =
        event_so event made start.past.attempts (attempts-of_reweight script event world made start.past.attempts h)
        (subst FitNow h.made_so fit)
    event_fits event made happened (NodeJoin h) =
        event_so event made start.past.attempts (attempts-of_join script event world made start.past.attempts h)
        (subst FitNow h.made_so (one_more h.n (joined_host script h.n)
        (λ up. none_fit (joined_host script h.n).node start.past.attempts refl)))
    event_fits event made happened (NodeReturn h) =
        let log = log_after_return script h.n world in
        event_so event made start.past.attempts (attempts-of_return script event world made start.past.attempts h)
        (subst FitNow h.made_so (one_more h.n (host_after_return log h.host)
        (λ up.
        none_fit (host_after_return log h.host).node start.past.attempts
        (ap (λ (gateway : Gateway). gateway.works) (stepped_renewed log h.host.node).node_so.gateway_so))))
    event_fits event made happened (PhaseEnd h) =
        event_so event made start.past.attempts (attempts-of_phase_end script event world made start.past.attempts h)
        (subst FitNow h.made_so fit)

  -- ---- every run

  pub record HoldsAt (moment : MomentWithPast) : Type 0 where
    pub begun : Began script moment.world
    pub tied : IsTied moment
    pub fit : KnownFatesFit moment.world.hosts moment.past.attempts

  at_event : (event : Event) (before : MomentWithPast) (made : EventOutcome) → MakesMove script event before.world made → HoldsAt before
      → HoldsAt (moment_after script event before made)
  at_event event before made is holds =
      let tied = event_kept script IsTied (kept_tied script range) is.move before (moment_after script event before made) holds.begun
      (next_by script event before made is) holds.tied in
      record {
        begun = goes_on script event before.world made holds.begun is;
        tied = tied;
        fit = event_fits before holds.begun holds.tied holds.fit event made is (goes_by_kind script event before.world made is) tied;
      }

  along : (event : Move) (events : List Move) (first last : MomentWithPast) → HoldsAt first
      → ((next : MomentWithPast) → HoldsAt next → run_on script next events ≡ Some last → HoldsAt last) → (o : Option EventOutcome)
      → made_by script event first.world ≡ o
      → option_and_then (λ (next : MomentWithPast). run_on script next events)
      (option_map (moment_after script (event_of_move event) first) o) ≡ Some last → HoldsAt last
  along event events first last holds later None is so = absurd (cc (so))
  along event events first last holds later (Some made) is so = later (moment_after script (event_of_move event) first made)
      (at_event (event_of_move event) first made (goes_by_move script event first.world made is) holds) so

  run_on-holds : (events : List Move) (first last : MomentWithPast) → HoldsAt first → run_on script first events ≡ Some last → HoldsAt last
  unfolding run_on
  run_on-holds [] first last holds is = subst HoldsAt (same_Some first last is) holds
  run_on-holds (event ∷ events) first last holds is =
      along event events first last holds (λ next next_holds so. run_on-holds events next last next_holds so)
      (made_by script event first.world) refl is

  module _ (events : List Move) (moment : MomentWithPast) (is : run_with_past script events ≡ Some moment) where
    pub holds_then : HoldsAt moment
    unfolding run_with_past run_on
    holds_then = run_on-holds events (first_moment script) moment (record {
      begun = began-with_past script [] (first_moment script) refl;
      tied = opening_tied script;
      fit = λ n host there up j attempt at. absurd (cc (at));
    }) is

    pub worked-in_run : WorksKnowTheirFates moment.world.hosts moment.world.wire moment.past.attempts
    worked-in_run = record {
      each = λ n host there up j attempt at req work current place message fate opened got has.
          status_so n host there up attempt req work current place message fate opened got message.status refl
          (holds_then.fit n host there (not-true host.is_lost (and_parts (not host.is_lost) (has_numbers host.node) up).0) j attempt at req
          work current place message fate opened got has);
    }
      where
        status_so : (n : ℕ) (host : Host) → tree.get moment.world.hosts n ≡ Some host → is_host_up host ≡ true
            → (attempt : AttemptRecord) (req : ℕ) (work : Work)
            (current : gateways.Attempt) (place : ℕ) (message : Message) (fate : MessageFate) → IsOpenAs host.node req work current attempt
            → slice_get current.messages place ≡ Some message → (status : Status) → message.status ≡ status → FitsFate status fate
            → IsStatusOf moment.world.wire attempt place status fate
        status_so n host there up attempt req work current place message fate opened got statuses.Unanswered so fits =
            let send : NodeId × PeerReq = send_of host.node.me current.epoch work.work message in
            let name_so : own_name host.node send ≡ message_name_at attempt place
            = λ i. record { sender = sym opened.same.gateway i; number = opened.same.numbers place message got i } in
            in_flight host.node send moment.world.wire (message_name_at attempt place) name_so
            (All-contains (λ (send : NodeId × PeerReq). IsInFlight host.node send (tree.get moment.world.wire (own_name host.node send)))
            (asked_by host.node) send ((together script range moment.world holds_then.begun).wired.on_the_way n host there up)
            (asked_message host.node req work current place message opened.there opened.stage got so))
        status_so n host there up attempt req work current place message fate opened got (statuses.Succeeded bytes) so fits = fits
        status_so n host there up attempt req work current place message fate opened got (statuses.Refused refusal) so fits = fits
        status_so n host there up attempt req work current place message fate opened got statuses.Lost so fits = fits
