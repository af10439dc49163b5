-- In each run in range what a write without reply has to write stands by the history.
use Rattle.std.proofs.Common.{◌≡◌, ◌≢◌, ⊎_elim, ℕ, ◌+◌, ◌/◌, ◌<◌, Bool, true, false, List, [], ◌∷◌, ◌++◌, length, fold, filter, Contains}
use Rattle.std.proofs.Common.{Option, Some, None, refl, sym, ap, subst, ◌∙◌}
use Rattle.std.specs.Prelude.{flat_map}
use Rattle.std.specs.Option.{option_map_or}
use Rattle.std.specs.Ordering.{nat_cmp}
use Rattle.std.specs.FinMap as tree
use Rattle.std.proofs.lemmas.Option.{same_Some}
use Rattle.proof_tools.proofs.FiniteMaps.{get-insert_cases}
use Rattle.proof_tools.proofs.Lists.{Contains-nil}
use Rattle.disk_history.specs.declared.event.HistEvent.{HistEvent}
use Rattle.cluster_script.specs.declared.statement.Statement.{Statement}
use Rattle.cluster_script.specs.NumberedRequests.{numbered_requests}
use Rattle.peer_proto.specs.declared.guest.DiskAsk.TheVariants as disk_asks
use Rattle.peer_proto.specs.declared.guest.GuestRsp.{GuestRsp}
use Rattle.sheep_node.specs.declared.ask.Ask.{Ask}
use Rattle.sheep_node.specs.declared.ask.Ask.TheVariants as asks
use Rattle.sheep_node.specs.declared.course.Request.{Request}
use Rattle.sheep_node.specs.declared.event.Event.{Event}
use Rattle.sheep_node.specs.declared.input.Input.TheVariants as inputs
use Rattle.sheep_node.specs.State.{Node}
use Rattle.sheep_node.specs.Step.{node_step}
use Rattle.sheep_node.proofs.StepChain.{kept_by_chain, step_chain}
use Rattle.sheep_world.specs.Began.{Began, MakesMove}
use Rattle.sheep_world.specs.EventKinds.{log_after_return, outcome_of_step, EventKind, NodeStep, UntoldLoss, UnreadDelivery, NodeLoss}
use Rattle.sheep_world.specs.EventKinds.{NodeLeave, NodeReweight, NodeJoin, NodeReturn, PhaseEnd}
use Rattle.sheep_world.specs.HistoryAdditions.{block_in, check_write_by, check_write_grown, is_lost_write, replies_grown}
use Rattle.sheep_world.specs.HostChanges.{host_after_return, joined_host}
use Rattle.sheep_world.specs.MembershipChanges.{lost_host}
use Rattle.sheep_world.specs.NodeCauses.{NodeCause, GuestAsks, RequestComes, ReplyComes, LossIsTold, EntryIsRead, EntryIsPut, RecoveryTicks}
use Rattle.sheep_world.specs.NodeCauses.{WorkIsRetried, ClientAsks, input_of_cause, event_of_cause, IsCause, history_of_cause}
use Rattle.sheep_world.specs.NodeCauses.{host_with_node, progress_at_cause, world_after_cause}
use Rattle.sheep_world.specs.NodeSteps.{progress_after_reply}
use Rattle.sheep_world.specs.Opening.{initial_world}
use Rattle.sheep_world.specs.Step.{EventOutcome}
use Rattle.sheep_world.specs.World.{Host, World, is_host_up}
use Rattle.sheep_world.proofs.ClientReads.{goes_by_kind}
use Rattle.sheep_world.proofs.WireAtOpening.{opening_found}
use Rattle.sheep_world.specs.RunsWithAsks.{Move}
use Rattle.overlap_law.specs.HistoryGrowth.{added_at_cause, added_by_reply}
use Rattle.overlap_law.specs.MomentChanges.{RunsAreInRange}
use Rattle.overlap_law.specs.Past.{MomentWithPast, first_moment, past_after_event, run_on, run_with_past}
use Rattle.overlap_law.specs.StepMoments.{StepsAtOnce, StepsByChanges}
use Rattle.overlap_law.proofs.AnswersInMoments.{not_lost}
use Rattle.overlap_law.proofs.CoursesOfScript.{asked_by, BeganOn}
use Rattle.overlap_law.proofs.DiskEventsOfHolders.{HasNone, append_none}
use Rattle.overlap_law.proofs.EndsOfWrites.{loss_ends_none}
use Rattle.overlap_law.proofs.HistoryInMoments.{request_silent, tick_silent}
use Rattle.overlap_law.proofs.RefusedInRuns.{left_by}
use Rattle.overlap_law.proofs.RequestsInSteps.{KnownIn, change_known, received_none, received_replies}
use Rattle.overlap_law.proofs.RunsByEvents.{KeptByEvents, run-kept_by_events}
use Rattle.overlap_law.proofs.RunsWithOneMore.{run_with_one_more}
use Rattle.overlap_law.proofs.SessionsOfRequests.{brought, asked_so_far, are_asked, by_line, are_asked_by_line, of_ask}
use Rattle.overlap_law.proofs.StandingLists.{AreCalm, check_calm, entry_calm, lost_calm, replies_calm, strays, waiting}
use Rattle.overlap_law.proofs.StandingMoments.{stands_then}
use Rattle.overlap_law.proofs.StandingOnDisks.{StandsIn}
use Rattle.overlap_law.proofs.StandingUnderWay.{StandAt, StandIn, began, began_same, goes_on, later_none, on_it, once}
use Rattle.overlap_law.proofs.UnansweredRequests.{Guests, back_empty, first_empty}
use Rattle.overlap_law.proofs.GoingOn.{goes_as}

-- what has no reply behind some had none before
pub began_left : (script : List Statement) (guests : Guests) (replies : List (ℕ × GuestRsp)) (req : ℕ) (disk : Option ℕ)
    → BeganOn script (fold (progress_after_reply script) guests replies) req disk → BeganOn script guests req disk
began_left script guests replies req disk is = record {
  session = is.session;
  asking = is.asking;
  started = is.started;
  there = (left_by script replies guests is.session is.started is.there).0;
  number = is.number;
  on = is.on;
}

-- none is told
none_calm : (script : List Statement) (req session block : ℕ) (replies : List (ℕ × GuestRsp)) → replies ≡ []
    → AreCalm script req session block replies
none_calm script req session block replies none reply among =
    absurd (Contains-nil reply (subst (λ (list : List (ℕ × GuestRsp)). Contains list reply) none among))

-- who is there behind a step that no guest begins was there before
was_before : (cause : NodeCause) → StepsAtOnce cause → (node : Node) (req : ℕ) (request : Request)
    → tree.get (node_step (input_of_cause cause) node).node.requests req ≡ Some request
    → (was : Request) × (tree.get node.requests req ≡ Some was)
was_before cause at_once node req request got =
    (kept_by_chain (KnownIn IsOld)
    (change_known IsOld (input_of_cause cause) node (λ other number ask from. absurd (no_guest cause at_once other number ask from)))
    (step_chain (input_of_cause cause) node)
    (received_none IsOld (input_of_cause cause) node (received_replies (input_of_cause cause) node)
    (λ other was got. (was, got)))).asked req request got
  where
    IsOld : ℕ → ℕ → Bool → Type 0
    IsOld other its disk = (was : Request) × (tree.get node.requests other ≡ Some was)

    no_guest : (cause : NodeCause) → StepsAtOnce cause → (other number : ℕ) (ask : Ask)
        → input_of_cause cause ≡ inputs.Guest other number ask → ⊥
    no_guest (GuestAsks session req ask) at_once other number own from = at_once
    no_guest (RequestComes name to request) at_once other number own from = cc (from)
    no_guest (ReplyComes name to rsp) at_once other number own from = at_once
    no_guest (LossIsTold name packet) at_once other number own from = at_once
    no_guest (EntryIsRead entry) at_once other number own from = at_once
    no_guest (EntryIsPut entry) at_once other number own from = cc (from)
    no_guest RecoveryTicks at_once other number own from = cc (from)
    no_guest WorkIsRetried at_once other number own from = at_once
    no_guest (ClientAsks req ask) at_once other number own from = at_once

module _ (script : List Statement) (range : RunsAreInRange script) (events : List Move) (start : MomentWithPast)
    (ran : run_with_past script events ≡ Some start) (all : StandAt script start) (event : Event) where
  begun : Began script start.world
  begun = began script range events start ran

  -- what an event leaves
  abbrev Leaves : EventOutcome → Type 0
  Leaves m = MakesMove script event start.world m → StandIn script m.world.hosts m.world.guests (start.past.history ++ m.grown)

  -- of a write that a node had before, where nothing strays in what the event adds
  had_stands : (m : EventOutcome) → MakesMove script event start.world m → (n : ℕ) (host : Host)
      → tree.get start.world.hosts n ≡ Some host → host.is_lost ≡ false → (req : ℕ) (was : Request)
      → tree.get host.node.requests req ≡ Some was → (session : ℕ) → was.session ≡ session → (vid : ℕ)
      → BeganOn script start.world.guests req (Some vid) → (offset : ℕ) (payload : List ℕ)
      → asked_by script req ≡ Some (asks.Disk (disk_asks.Write offset payload)) → (place : ℕ) → place < length payload / 512
      → HasNone (strays script req was.session (offset / 512 + place)) m.grown
      → StandsIn req (waiting script req session (offset / 512 + place)) vid (offset / 512 + place) (block_in payload place)
      (start.past.history ++ m.grown)
  had_stands m happened n host there up req was had session same vid at offset payload is place inside untouched =
      let opened = on_it script range events start ran n host there up req was had offset payload is in
      let id : opened.disk.inode.vid ≡ vid
      = same_Some opened.disk.inode.vid vid
      (began_same script start.world.guests (once script range events start ran) req (Some opened.disk.inode.vid) (Some vid) opened.on
      at) in
      subst (λ (v : ℕ).
      StandsIn req (waiting script req session (offset / 512 + place)) v (offset / 512 + place) (block_in payload place)
      (start.past.history ++ m.grown)) id
      (subst (λ (k : ℕ).
      StandsIn req (waiting script req k (offset / 512 + place)) opened.disk.inode.vid (offset / 512 + place) (block_in payload place)
      (start.past.history ++ m.grown)) same
      (goes_on script range events start ran n host there up req was had offset payload is all place inside m.grown
      (later_none script range events start ran n host there up req was had offset payload is (offset / 512 + place) event m happened)
      untouched))

  -- ---- a step

  module _ (n : ℕ) (host : Host) (there : tree.get start.world.hosts n ≡ Some host) (up : is_host_up host ≡ true) where
    abbrev after : NodeCause → World
    after cause = world_after_cause script n host cause start.world

    abbrev outcome : NodeCause → EventOutcome
    outcome cause = outcome_of_step script n host cause start.world

    -- that goes by changes
    grown_so : (cause : NodeCause) → StepsByChanges cause
        → history_of_cause script cause start.world (world_after_cause script n host cause start.world)
        ≡ added_at_cause script start.world cause
        ++ flat_map (added_by_reply script start.world cause) (node_step (input_of_cause cause) host.node).outputs.replies
    grown_so (GuestAsks session req ask) by = refl
    grown_so (RequestComes name to request) by = absurd by
    grown_so (ReplyComes name from rsp) by = refl
    grown_so (LossIsTold name packet) by = refl
    grown_so (EntryIsRead entry) by = refl
    grown_so (EntryIsPut entry) by = absurd by
    grown_so RecoveryTicks by = absurd by
    grown_so WorkIsRetried by = refl
    grown_so (ClientAsks req ask) by = refl

    many_so : (cause : NodeCause) → IsCause script start.world n host cause → StepsByChanges cause
        → MakesMove script (event_of_cause n cause) start.world (outcome cause)
        → StandIn script (after cause).hosts (after cause).guests (start.past.history ++ (outcome cause).grown)
    many_so cause caused by made q now at_end up_now req request got vid at offset payload is place inside =
        subst (λ (grown : List HistEvent).
        StandsIn req (waiting script req request.session (offset / 512 + place)) vid (offset / 512 + place) (block_in payload place)
        (start.past.history ++ grown)) (sym (grown_so cause by))
        (stands_then script range events start ran all (record { n = n; host = host; cause = cause })
        (record { there = there; up = up; caused = caused; made = made }) by (node_step (input_of_cause cause) host.node)
        (step_chain (input_of_cause cause) host.node) req offset payload is place inside q now at_end up_now request got vid
        (began_left script (progress_at_cause cause start.world) (node_step (input_of_cause cause) host.node).outputs.replies req (Some vid)
        at))

    -- that is made at once
    calm_so : (req session block : ℕ) (cause : NodeCause) → StepsAtOnce cause
        → HasNone (strays script req session block) (history_of_cause script cause start.world (after cause))
    calm_so req session block (GuestAsks of other ask) at_once = absurd at_once
    calm_so req session block (RequestComes name to request) at_once =
        let cause = RequestComes name to request in
        append_none (strays script req session block)
        (option_map_or (check_write_grown script) (check_write_by name start.world (after cause)) [])
        (replies_grown script start.world (check_write_by name start.world (after cause)) (after cause))
        (check_calm script req session block (check_write_by name start.world (after cause)))
        (replies_calm script req session block start.world (check_write_by name start.world (after cause)) (after cause).outputs.replies
        (none_calm script req session block (after cause).outputs.replies (request_silent request host.node)))
    calm_so req session block (ReplyComes name from rsp) at_once = absurd at_once
    calm_so req session block (LossIsTold name packet) at_once = absurd at_once
    calm_so req session block (EntryIsRead entry) at_once = absurd at_once
    calm_so req session block (EntryIsPut entry) at_once = entry_calm script req session block start.world.log entry
    calm_so req session block RecoveryTicks at_once =
        replies_calm script req session block start.world None (after RecoveryTicks).outputs.replies
        (none_calm script req session block (after RecoveryTicks).outputs.replies (tick_silent host.node))
    calm_so req session block WorkIsRetried at_once = absurd at_once
    calm_so req session block (ClientAsks number asks) at_once = absurd at_once

    found_same : (cause : NodeCause) → StepsAtOnce cause → progress_at_cause cause start.world ≡ start.world.guests
    found_same (GuestAsks of other ask) at_once = absurd at_once
    found_same (RequestComes name to request) at_once = refl
    found_same (ReplyComes name from rsp) at_once = absurd at_once
    found_same (LossIsTold name packet) at_once = absurd at_once
    found_same (EntryIsRead entry) at_once = absurd at_once
    found_same (EntryIsPut entry) at_once = refl
    found_same RecoveryTicks at_once = refl
    found_same WorkIsRetried at_once = absurd at_once
    found_same (ClientAsks req ask) at_once = absurd at_once

    one_so : (cause : NodeCause) → IsCause script start.world n host cause → StepsAtOnce cause
        → MakesMove script event start.world (outcome cause)
        → StandIn script (after cause).hosts (after cause).guests (start.past.history ++ (outcome cause).grown)
    one_so cause caused at_once happened q now at_end up_now req request got vid at offset payload is place inside = ⊎_elim
        (λ (own : (q ≡ n) × (host_with_node host (node_step (input_of_cause cause) host.node).node ≡ now)).
        let here = ap (λ (h : Host). tree.get h.node.requests req) own.1 ∙ got in
        let (was, had) = was_before cause at_once host.node req request here in
        of_old n host there (not_lost host up) was had (same_session was had here))
        (λ (other : (q ≢ n) × (tree.get start.world.hosts q ≡ Some now)). of_old q now other.1 up_now request got refl)
        (get-insert_cases start.world.hosts n (host_with_node host (node_step (input_of_cause cause) host.node).node) q now at_end)
      where
        of_old : (m : ℕ) (second : Host) → tree.get start.world.hosts m ≡ Some second → second.is_lost ≡ false → (was : Request)
            → tree.get second.node.requests req ≡ Some was → was.session ≡ request.session
            → StandsIn req (waiting script req request.session (offset / 512 + place)) vid (offset / 512 + place) (block_in payload place)
            (start.past.history ++ (outcome cause).grown)
        of_old m second found up_second was had same =
            had_stands (outcome cause) happened m second found up_second req was had request.session same vid
            (subst (λ (guests : Guests). BeganOn script guests req (Some vid)) (found_same cause at_once)
            (began_left script (progress_at_cause cause start.world) (node_step (input_of_cause cause) host.node).outputs.replies req
            (Some vid) at))
            offset payload is place inside (calm_so req was.session (offset / 512 + place) cause at_once)

        same_session : (was : Request) → tree.get host.node.requests req ≡ Some was
            → tree.get (node_step (input_of_cause cause) host.node).node.requests req ≡ Some request → was.session ≡ request.session
        same_session was had here =
            let of_script = of_ask script req (asks.Disk (disk_asks.Write offset payload)) is in
            let before = are_asked_by_line script start.world begun n host there req was had of_script in
            let then = by_line script n host.incarnation req request.session
            ((asked_so_far script n host.incarnation (input_of_cause cause) host.node
            (brought script start.world n host cause caused) (are_asked script start.world begun n host there)
            (step_chain (input_of_cause cause) host.node)).asked req request here) of_script in
            same_Some was.session request.session (sym before.asking ∙ then.asking)

    step_so : (cause : NodeCause) → IsCause script start.world n host cause → event_of_cause n cause ≡ event → Leaves (outcome cause)
    step_so cause caused named happened = either cause
        (λ by. many_so cause caused by (goes_as script start.world named refl happened))
        (λ at_once. one_so cause caused at_once happened)
      where
        either : (other : NodeCause)
            → (StepsByChanges other → StandIn script (after cause).hosts (after cause).guests (start.past.history ++ (outcome cause).grown))
            → (StepsAtOnce other → StandIn script (after cause).hosts (after cause).guests (start.past.history ++ (outcome cause).grown))
            → StandIn script (after cause).hosts (after cause).guests (start.past.history ++ (outcome cause).grown)
        either (GuestAsks session req ask) many one = many tt
        either (RequestComes name to request) many one = one tt
        either (ReplyComes name from rsp) many one = many tt
        either (LossIsTold name packet) many one = many tt
        either (EntryIsRead entry) many one = many tt
        either (EntryIsPut entry) many one = one tt
        either RecoveryTicks many one = one tt
        either WorkIsRetried many one = many tt
        either (ClientAsks req ask) many one = many tt

  -- ---- every event

  empty_none : (req : ℕ) (request : Request) → tree.get (tree.empty {X = Request} {R = nat_cmp}) req ≡ Some request → ⊥
  empty_none req request got = let none = tree.get-empty {X = Request} nat_cmp req in absurd (cc (none, got))

  event_so : (made : EventOutcome) → EventKind script event start.world made → Leaves made
  event_so made (NodeStep h) = subst Leaves h.made_so (step_so h.n h.host h.there h.up h.cause h.caused h.event_so)
  event_so made (UntoldLoss h) = subst Leaves h.made_so
      (λ happened n now got up req request there vid at offset payload is place inside.
      had_stands _ happened n now got up req request there request.session refl vid at offset payload is place inside refl)
  event_so made (UnreadDelivery h) = subst Leaves h.made_so
      (λ happened n now got up req request there vid at offset payload is place inside.
      had_stands _ happened n now got up req request there request.session refl vid at offset payload is place inside refl)
  event_so made (NodeLoss h) = subst Leaves h.made_so
      (λ happened n now got up req request there vid at offset payload is place inside. ⊎_elim
      (λ (own : (n ≡ h.n) × (lost_host h.host ≡ now)).
      let lost : now.is_lost ≡ true = ap (λ (host : Host). host.is_lost) (sym own.1) in absurd (cc (lost, up)))
      (λ (other : (n ≢ h.n) × (tree.get start.world.hosts n ≡ Some now)).
      had_stands _ happened n now other.1 up req request there request.session refl vid at offset payload is place inside
      (lost_calm script req request.session (offset / 512 + place)
      (filter (is_lost_write script start.world h.n h.host) (numbered_requests script))
      (loss_ends_none req script start.world h.n h.host n now.incarnation request.session other.0
      (are_asked_by_line script start.world begun n now other.1 req request there
      (of_ask script req (asks.Disk (disk_asks.Write offset payload)) is)))))
      (get-insert_cases start.world.hosts h.n (lost_host h.host) n now got))
  event_so made (NodeLeave h) = subst Leaves h.made_so
      (λ happened n now got up req request there vid at offset payload is place inside.
      had_stands _ happened n now got up req request there request.session refl vid at offset payload is place inside refl)
  event_so made (NodeReweight h) = subst Leaves h.made_so
      (λ happened n now got up req request there vid at offset payload is place inside.
      had_stands _ happened n now got up req request there request.session refl vid at offset payload is place inside refl)
  event_so made (NodeJoin h) = subst Leaves h.made_so
      (λ happened n now got up req request there vid at offset payload is place inside. ⊎_elim
      (λ (own : (n ≡ h.n) × (joined_host script h.n ≡ now)).
      absurd (empty_none req request (ap (λ (host : Host). tree.get host.node.requests req) own.1 ∙ there)))
      (λ (other : (n ≢ h.n) × (tree.get start.world.hosts n ≡ Some now)).
      had_stands _ happened n now other.1 up req request there request.session refl vid at offset payload is place inside refl)
      (get-insert_cases start.world.hosts h.n (joined_host script h.n) n now got))
  event_so made (NodeReturn h) = subst Leaves h.made_so
      (λ happened n now got up req request there vid at offset payload is place inside.
      let log = log_after_return script h.n start.world in ⊎_elim
      (λ (own : (n ≡ h.n) × (host_after_return log h.host ≡ now)).
      absurd ((back_empty script log h.host.node).asked req request
      (ap (λ (host : Host). tree.get host.node.requests req) own.1 ∙ there)))
      (λ (other : (n ≢ h.n) × (tree.get start.world.hosts n ≡ Some now)).
      had_stands _ happened n now other.1 up req request there request.session refl vid
      (began_left script start.world.guests (node_step (inputs.Back log) h.host.node).outputs.replies req (Some vid) at)
      offset payload is place inside refl)
      (get-insert_cases start.world.hosts h.n (host_after_return log h.host) n now got))
  event_so made (PhaseEnd h) = subst Leaves h.made_so
      (λ happened n now got up req request there vid at offset payload is place inside.
      had_stands _ happened n now got up req request there request.session refl vid at offset payload is place inside refl)

-- ---- each run

module _ (script : List Statement) (range : RunsAreInRange script) where
  -- the moment of a run, in which they stand
  abbrev StandsInRun : MomentWithPast → Type 0
  StandsInRun moment = ((events : List Move) × (run_with_past script events ≡ Some moment)) × StandAt script moment

  opens_so : StandsInRun (first_moment script)
  unfolding run_with_past run_on initial_world
  opens_so = (
    ([], refl),
    λ n host got up req request there vid at offset payload is place inside.
        let (member, own, same) = opening_found script n host got in
        absurd ((first_empty script member.node).asked req request
        (subst (λ (h : Host). tree.get h.node.requests req ≡ Some request) (sym same) there)),
  )

  events_so : KeptByEvents script StandsInRun
  unfolding past_after_event
  events_so event before made is happened ((events, ran), all) = (
    (events ++ happened.move ∷ [], run_with_one_more script event made events before happened ran),
    event_so script range events before ran all event made (goes_by_kind script event before.world made happened) happened,
  )

  pub stand-in_run : (events : List Move) (moment : MomentWithPast) → run_with_past script events ≡ Some moment → StandAt script moment
  stand-in_run events moment is = (run-kept_by_events script StandsInRun opens_so events_so events moment is).1
