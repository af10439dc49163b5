-- In every run a request without reply hasn't ended in the history, as long as its gateway may still reply: the gateway isn't lost in the
-- incarnation of the request's session, or that is still to come.
use Rattle.std.proofs.Common.{◌≡◌, ◌≢◌, ◌⊎◌, inl, inr, ⊎_elim, arith, ℕ, ◌+◌, ◌<◌, ◌==◌, ◌&&◌, ◌||◌, Bool, true, false, List, [], ◌∷◌, ◌++◌}
use Rattle.std.proofs.Common.{map, filter, fold, Contains, Option, Some, None, is_some, refl, sym, ap, subst, ◌∙◌}
use Rattle.std.specs.List.{list_any, slice_get}
use Rattle.std.specs.Option.{option_map_or}
use Rattle.std.specs.FinMap as tree
use Rattle.std.proofs.lemmas.Bool.{cases_eq, and_parts, both_ways, eq-eqb, eqb-true, or_cases}
use Rattle.std.proofs.lemmas.List.Folds.{list_any-append}
use Rattle.proof_tools.proofs.FiniteMaps.{get-insert_same, get-insert_other}
use Rattle.proof_tools.proofs.Lists.{Contains-nil, Contains-cons_cases, Contains-cons, Contains-head, filter-contains}
use Rattle.cluster_script.specs.NumberedRequests.{request_at}
use Rattle.cluster_script.specs.declared.statement.Statement.{Statement}
use Rattle.cluster_script.specs.declared.statement.Statement.TheVariants as lines
use Rattle.cluster_script.specs.NumberedRequests.{numbers_of_session, numbered_requests, session_of}
use Rattle.disk_history.specs.declared.event.HistEvent.{HistEvent}
use Rattle.disk_history.specs.declared.event.HistEvent.TheVariants.{WriterLost}
use Rattle.peer_proto.specs.declared.guest.GuestRsp.{GuestRsp}
use Rattle.sheep_node.specs.declared.event.Event.{Event}
use Rattle.sheep_node.specs.declared.input.Input.TheVariants as inputs
use Rattle.sheep_node.specs.Step.{node_step}
use Rattle.sheep_world.specs.BegunRequests.{IsOfScript}
use Rattle.sheep_world.specs.declared.progress.StartedRequest.{StartedRequest}
use Rattle.sheep_world.specs.World.{Host, World}
use Rattle.sheep_world.specs.Asking.{session_asking}
use Rattle.sheep_world.specs.Began.{Began}
use Rattle.sheep_world.specs.BegunRequests.{begun_count, WasBegun}
use Rattle.sheep_world.specs.Effects.{disk_open}
use Rattle.sheep_world.specs.EventKinds.{log_after_return, outcome_of_step, EventKind, NodeStep, UntoldLoss, UnreadDelivery, NodeLoss}
use Rattle.sheep_world.specs.EventKinds.{NodeLeave, NodeReweight, NodeJoin, NodeReturn, PhaseEnd}
use Rattle.sheep_world.specs.HistoryAdditions.{disk_of, is_lost_write, is_of_incarnation, is_writing_request, writers_lost}
use Rattle.sheep_world.specs.HostChanges.{joined_host, host_after_return}
use Rattle.sheep_world.specs.MembershipChanges.{lost_host}
use Rattle.sheep_world.specs.NodeCauses.{NodeCause, GuestAsks, RequestComes, ReplyComes, LossIsTold, EntryIsRead, EntryIsPut, RecoveryTicks}
use Rattle.sheep_world.specs.NodeCauses.{WorkIsRetried, ClientAsks, input_of_cause, IsCause, host_with_node, progress_at_cause}
use Rattle.sheep_world.specs.NodeCauses.{world_after_cause, history_of_cause}
use Rattle.sheep_world.specs.NodeSteps.{progress_after_reply}
use Rattle.sheep_world.specs.Step.{EventOutcome}
use Rattle.sheep_world.proofs.BegunRequestLaws.{Grows}
use Rattle.sheep_world.proofs.ControlLaws.{next_fits}
use Rattle.sheep_world.proofs.ClientReads.{goes_by_kind}
use Rattle.sheep_world.specs.RunsWithAsks.{Move}
use Rattle.overlap_law.specs.DiskEvents.{ends_write_of}
use Rattle.overlap_law.specs.MomentChanges.{RunsAreInRange}
use Rattle.overlap_law.specs.Past.{MomentWithPast, past_after_event, first_moment, run_with_past}
use Rattle.overlap_law.specs.Words.{Hosts}
use Rattle.overlap_law.proofs.AskedOnDisks.{on_disk}
use Rattle.overlap_law.proofs.EndsOfWrites.{step_ends_none, loss_ends_none_of}
use Rattle.overlap_law.proofs.EndsOfWrites.{unasked_ends_none}
use Rattle.overlap_law.proofs.KnownSteps.{together}
use Rattle.overlap_law.proofs.RefusedInRuns.{AreAnswered, AreAnsweredAt, events_answered, found_grows, left_by, new_or_was, opens_answered}
use Rattle.overlap_law.proofs.RefusedInRuns.{replies_begun, replies_grow, still_begun}
use Rattle.overlap_law.proofs.RunsByEvents.{KeptByEvents, run-kept_by_events}
use Rattle.overlap_law.proofs.SessionsOfRequests.{IsAskedIn}
use Rattle.overlap_law.proofs.StartedAttempts.{IsStarted, next_is_new}
use Rattle.overlap_law.proofs.UnansweredRequests.{Guests, unanswered_in}

-- whether a request ended in these events
abbrev pub has_ended : ℕ → List HistEvent → Bool
has_ended req events = list_any (ends_write_of req) events

-- the gateway of a session of this incarnation may still reply: it isn't there yet, or isn't in it yet, or is in it and isn't lost
abbrev pub MayReply : Option Host → ℕ → Type 0
MayReply None incarnation = Unit {0}
MayReply (Some host) incarnation = (host.incarnation < incarnation) ⊎ ((host.incarnation ≡ incarnation) × (host.is_lost ≡ false))

-- what is found by a test
mapped_found : {X : Type 0} (make : X → HistEvent) (p : HistEvent → Bool) (xs : List X) → list_any p (map make xs) ≡ true
    → (x : X) × Contains xs x × (p (make x) ≡ true)
mapped_found make p [] is = absurd (cc (is))
mapped_found make p (x ∷ xs) is = ⊎_elim
    (λ (own : p (make x) ≡ true). (x, Contains-head x xs, own))
    (λ (rest : list_any p (map make xs) ≡ true).
    let (y, among, passes) = mapped_found make p xs rest in (y, Contains-cons x xs y among, passes))
    (or_cases (p (make x)) (list_any p (map make xs)) is)

-- a request has a reply among some, or none of them is to it
pub replied_or_not : (req : ℕ) (replies : List (ℕ × GuestRsp)) → ((reply : ℕ × GuestRsp) × Contains replies reply × (reply.0 ≡ req))
    ⊎ ((reply : ℕ × GuestRsp) → Contains replies reply → reply.0 ≢ req)
replied_or_not req [] = inr (λ reply among. absurd (Contains-nil reply among))
replied_or_not req (first ∷ later) = ⊎_elim
    (λ (own : first.0 ≡ req). inl (first, Contains-head first later, own))
    (λ (other : first.0 ≢ req). ⊎_elim
    (λ (behind : (reply : ℕ × GuestRsp) × Contains later reply × (reply.0 ≡ req)).
    inl (behind.0, Contains-cons first later behind.0 behind.1, behind.2))
    (λ (none : (reply : ℕ × GuestRsp) → Contains later reply → reply.0 ≢ req).
    inr (λ reply among. ⊎_elim
    (λ (same : first ≡ reply). subst (λ (r : ℕ × GuestRsp). r.0 ≢ req) same other)
    (λ (rest : Contains later reply). none reply rest)
    (Contains-cons_cases first later reply among)))
    (replied_or_not req later))
    (cases_eq first.0 req)

-- what isn't true
pub never_true : (b : Bool) → (b ≡ true → ⊥) → b ≡ false
never_true false not = refl
never_true true not = absurd (not refl)

module _ (script : List Statement) where
  -- what ended was begun, and what has no reply hasn't ended as long as its gateway may reply
  pub record AreUnended (guests : Guests) (hosts : Hosts) (history : List HistEvent) : Type 0 where
    pub begun : (req : ℕ) → has_ended req history ≡ true → IsStarted script guests req
    pub unended : (n incarnation req session : ℕ) (started : StartedRequest) → IsAskedIn script n incarnation req session
        → Contains (unanswered_in session guests) started → started.req ≡ req → MayReply (tree.get hosts n) incarnation
        → has_ended req history ≡ false

  module _ (range : RunsAreInRange script) (world : World) (began : Began script world) (refused : List ℕ)
      (are : AreAnswered script world.guests refused) (history : List HistEvent) (all : AreUnended world.guests world.hosts history) where
    -- ---- what an event leaves

    -- a request has neither ended before nor by these
    abbrev NeverEnds : ℕ → List HistEvent → Type 0
    NeverEnds req grown = (has_ended req history ≡ false) × (has_ended req grown ≡ false)

    abbrev Leaves : EventOutcome → Type 0
    Leaves m = AreUnended m.world.guests m.world.hosts (history ++ m.grown)

    leaves : (guests : Guests) (hosts : Hosts) (grown : List HistEvent) → Grows world.guests guests
        → ((req : ℕ) → has_ended req grown ≡ true → IsStarted script guests req)
        → ((n incarnation req session : ℕ) (started : StartedRequest) → IsAskedIn script n incarnation req session
        → Contains (unanswered_in session guests) started → started.req ≡ req → MayReply (tree.get hosts n) incarnation
        → NeverEnds req grown)
        → AreUnended guests hosts (history ++ grown)
    leaves guests hosts grown grows new never = record {
      begun = λ req is. ⊎_elim
          (λ (old : has_ended req history ≡ true).
          let (session, was) = all.begun req old in (session, still_begun script world.guests guests grows session req was))
          (λ (now : has_ended req grown ≡ true). new req now)
          (or_cases (has_ended req history) (has_ended req grown) (sym (list_any-append (ends_write_of req) history grown) ∙ is));
      unended = λ n incarnation req session started asked there number may.
          let (before, by) = never n incarnation req session started asked there number may in
          list_any-append (ends_write_of req) history grown ∙ (λ i. before i || by i);
    }

    same_guests : Grows world.guests world.guests
    same_guests = λ q. omega arith

    -- by what the event's outcome has of these
    of_parts : (m : EventOutcome) (guests : Guests) (hosts : Hosts) (grown : List HistEvent) → m.world.guests ≡ guests
        → m.world.hosts ≡ hosts → m.grown ≡ grown → AreUnended guests hosts (history ++ grown) → Leaves m
    of_parts m guests hosts grown guests_so hosts_so grown_so so =
        subst (λ (g : Guests). AreUnended g m.world.hosts (history ++ m.grown)) (sym guests_so)
        (subst (λ (h : Hosts). AreUnended guests h (history ++ m.grown)) (sym hosts_so)
        (subst (λ (events : List HistEvent). AreUnended guests hosts (history ++ events)) (sym grown_so) so))

    abbrev guests_of : EventOutcome → Guests
    guests_of m = m.world.guests

    abbrev hosts_of : EventOutcome → Hosts
    hosts_of m = m.world.hosts

    abbrev grown_of : EventOutcome → List HistEvent
    grown_of m = m.grown

    -- ---- an event at which no node steps, and nothing ends

    quiet : (made m : EventOutcome) (guests : Guests) (hosts : Hosts) → m ≡ made → guests ≡ m.world.guests → hosts ≡ m.world.hosts
        → [] ≡ m.grown → Grows world.guests guests
        → ((session : ℕ) (started : StartedRequest) → Contains (unanswered_in session guests) started
        → Contains (unanswered_in session world.guests) started)
        → ((n incarnation : ℕ) → MayReply (tree.get hosts n) incarnation → MayReply (tree.get world.hosts n) incarnation)
        → Leaves made
    quiet made m guests hosts so guests_so hosts_so none grows before may_before =
        of_parts made guests hosts [] (ap guests_of (sym so) ∙ sym guests_so) (ap hosts_of (sym so) ∙ sym hosts_so)
        (ap grown_of (sym so) ∙ sym none)
        (leaves guests hosts [] grows (λ req is. absurd (cc (is)))
        (λ n incarnation req session started asked there number may.
        (all.unended n incarnation req session started asked (before session started there) number (may_before n incarnation may), refl)))

    -- where the guests are as they were
    rests : (made m : EventOutcome) (hosts : Hosts) → m ≡ made → world.guests ≡ m.world.guests → hosts ≡ m.world.hosts → [] ≡ m.grown
        → ((n incarnation : ℕ) → MayReply (tree.get hosts n) incarnation → MayReply (tree.get world.hosts n) incarnation)
        → Leaves made
    rests made m hosts so guests_so hosts_so none may_before =
        quiet made m world.guests hosts so guests_so hosts_so none same_guests (λ session started among. among) may_before

    -- where one host is another, that may reply only if the old one may
    hosts_before : (n : ℕ) (new : Host) (old : Option Host) → tree.get world.hosts n ≡ old
        → ((incarnation : ℕ) → MayReply (Some new) incarnation → MayReply old incarnation)
        → (m incarnation : ℕ) → MayReply (tree.get (tree.insert world.hosts n new) m) incarnation
        → MayReply (tree.get world.hosts m) incarnation
    hosts_before n new old was own m incarnation may = ⊎_elim
        (λ (same : m ≡ n).
        let now : tree.get (tree.insert world.hosts n new) m ≡ Some new
        = ap (tree.get (tree.insert world.hosts n new)) same ∙ get-insert_same world.hosts n new in
        let before : tree.get world.hosts m ≡ old = ap (tree.get world.hosts) same ∙ was in
        subst (λ (o : Option Host). MayReply o incarnation) (sym before)
        (own incarnation (subst (λ (o : Option Host). MayReply o incarnation) now may)))
        (λ (other : m ≢ n).
        subst (λ (o : Option Host). MayReply o incarnation) (get-insert_other world.hosts n new m other) may)
        (cases_eq m n)

    -- ---- a step

    -- what has no reply as the step finds it had none before, or is the request with which it begins
    abbrev IsOldOrNew : ℕ → StartedRequest → Type 0
    IsOldOrNew q started = Contains (unanswered_in q world.guests) started
        ⊎ ((number : ℕ) × (slice_get (numbers_of_session script number) (begun_count number world.guests) ≡ Some started.req))

    module _ (n : ℕ) (host : Host) (there : tree.get world.hosts n ≡ Some host) where
      old_or_new : (cause : NodeCause) → IsCause script world n host cause → (q : ℕ) (started : StartedRequest)
          → Contains (unanswered_in q (progress_at_cause cause world)) started → IsOldOrNew q started
      old_or_new (GuestAsks session req ask) caused q started among =
          let new : StartedRequest = record { req = req; disk = disk_open session world } in ⊎_elim
          (λ (own : (q ≡ session.number) × (new ≡ started)).
          inr (session.number, caused.next ∙ ap (λ (s : StartedRequest). Some s.req) own.1))
          (λ (old : Contains (unanswered_in q world.guests) started). inl old)
          (new_or_was script world.guests refused session.number new caused.next are q started among)
      old_or_new (RequestComes name to request) caused q started among = inl among
      old_or_new (ReplyComes name from rsp) caused q started among = inl among
      old_or_new (LossIsTold name packet) caused q started among = inl among
      old_or_new (EntryIsRead entry) caused q started among = inl among
      old_or_new (EntryIsPut entry) caused q started among = inl among
      old_or_new RecoveryTicks caused q started among = inl among
      old_or_new WorkIsRetried caused q started among = inl among
      old_or_new (ClientAsks req ask) caused q started among = inl among

      -- it hasn't ended before
      pub found_unended : (cause : NodeCause) → IsCause script world n host cause → (m incarnation req session : ℕ)
          (started : StartedRequest) → IsAskedIn script m incarnation req session
          → Contains (unanswered_in session (progress_at_cause cause world)) started → started.req ≡ req
          → MayReply (tree.get world.hosts m) incarnation → has_ended req history ≡ false
      found_unended cause caused m incarnation req session started asked among number may = ⊎_elim
          (λ (old : Contains (unanswered_in session world.guests) started).
          all.unended m incarnation req session started asked old number may)
          (λ (new : (k : ℕ) × (slice_get (numbers_of_session script k) (begun_count k world.guests) ≡ Some started.req)).
          never_true (has_ended req history)
          (λ is. next_is_new script world.guests new.0 req (new.1 ∙ ap (λ (r : ℕ). Some r) number) (all.begun req is)))
          (old_or_new cause caused session started among)

      abbrev after : NodeCause → World
      after cause = world_after_cause script n host cause world

      abbrev replies : NodeCause → List (ℕ × GuestRsp)
      replies cause = (node_step (input_of_cause cause) host.node).outputs.replies

      step_grows : (cause : NodeCause) → Grows world.guests (after cause).guests
      step_grows cause = λ q.
          let found = found_grows script world began n host there cause q in
          let later = replies_grow script (replies cause) (progress_at_cause cause world) q in
          omega (arith, found, later)

      -- what ends is of a request of the script
      ended_of_script : (req : ℕ) (cause : NodeCause) → has_ended req (history_of_cause script cause world (after cause)) ≡ true
          → IsOfScript script req
      ended_of_script req cause is = by_line (request_at script req) refl
        where
          by_line : (o : Option Statement) → request_at script req ≡ o → is_some o ≡ true
          by_line None none =
              absurd (both_ways (has_ended req (history_of_cause script cause world (after cause)))
              (unasked_ends_none req script world (after cause) none cause) is)
          by_line (Some line) at = refl

      step_leaves : (cause : NodeCause) → IsCause script world n host cause → Leaves (outcome_of_step script n host cause world)
      step_leaves cause caused =
          leaves (after cause).guests (after cause).hosts (history_of_cause script cause world (after cause)) (step_grows cause)
          (λ req is. ⊎_elim
          (λ (replied : (reply : ℕ × GuestRsp) × Contains (replies cause) reply × (reply.0 ≡ req)).
          let (session, was) = replies_begun script world began n host there cause caused replied.0 replied.1
          (subst (IsOfScript script) (sym replied.2) (ended_of_script req cause is)) in (
            session,
            subst (WasBegun script (after cause).guests session) replied.2
                (still_begun script (progress_at_cause cause world) (after cause).guests
                (replies_grow script (replies cause) (progress_at_cause cause world)) session replied.0.0 was),
          ))
          (λ (none : (reply : ℕ × GuestRsp) → Contains (replies cause) reply → reply.0 ≢ req).
          absurd (both_ways (has_ended req (history_of_cause script cause world (after cause)))
          (step_ends_none req script world (after cause) none cause) is))
          (replied_or_not req (replies cause)))
          (λ m incarnation req session started asked among number may.
          let (found, others) = left_by script (replies cause) (progress_at_cause cause world) session started among in
          let apart : (reply : ℕ × GuestRsp) → Contains (after cause).outputs.replies reply → reply.0 ≢ req
          = λ reply replied same.
          both_ways (started.req == reply.0) (others reply replied (ap (session_asking script) same ∙ asked.asking))
          (eq-eqb started.req reply.0 (number ∙ sym same)) in (
            found_unended cause caused m incarnation req session started asked found number
                (hosts_before n (host_with_node host (node_step (input_of_cause cause) host.node).node) (Some host) there (λ k own. own)
                m incarnation may),
            step_ends_none req script world (after cause) apart cause,
          ))

    -- ---- a node is lost

    loss_leaves : (n : ℕ) (host : Host) → tree.get world.hosts n ≡ Some host
        → AreUnended world.guests (tree.insert world.hosts n (lost_host host)) (history ++ writers_lost script world n (Some host))
    loss_leaves n host there = so
      where
        lost : List HistEvent
        lost = writers_lost script world n (Some host)

        new : (req : ℕ) → has_ended req lost ≡ true → IsStarted script world.guests req
        new req is =
            let (request, among, own) = mapped_found (λ (request : ℕ × Statement). WriterLost request.0) (ends_write_of req)
            (filter (is_lost_write script world n host) (numbered_requests script)) is in
            let (listed, passes) = filter-contains (is_lost_write script world n host) (numbered_requests script) request among in
            let on = (and_parts (is_writing_request host.node request
            && option_map_or (is_of_incarnation script n host.incarnation) (session_of request.1) false)
            (is_some (disk_of script request.0 world)) passes).1 in
            let found = on_disk script world request.0 on in (
              found.session,
              subst (WasBegun script world.guests found.session) (found.number ∙ eqb-true request.0 req own)
                  (are.unanswered found.session found.started found.there),
            )

        before : (k incarnation : ℕ) → MayReply (tree.get (tree.insert world.hosts n (lost_host host)) k) incarnation
            → MayReply (tree.get world.hosts k) incarnation × (k ≡ n → incarnation ≡ host.incarnation → ⊥)
        before k incarnation may = (
          hosts_before n (lost_host host) (Some host) there
              (λ i own. ⊎_elim
              (λ (later : host.incarnation < i). inl later)
              (λ (here : (host.incarnation ≡ i) × (true ≡ false)). absurd (cc (here.1)))
              own)
              k incarnation may,
          λ same lived. ⊎_elim
              (λ (later : host.incarnation < incarnation). omega (arith, later, lived))
              (λ (here : (host.incarnation ≡ incarnation) × (true ≡ false)). cc (here.1))
              (subst (λ (o : Option Host). MayReply o incarnation)
              (ap (tree.get (tree.insert world.hosts n (lost_host host))) same ∙ get-insert_same world.hosts n (lost_host host)) may),
        )

        so : AreUnended world.guests (tree.insert world.hosts n (lost_host host)) (history ++ lost)
        so = leaves world.guests (tree.insert world.hosts n (lost_host host)) lost same_guests new
            (λ k incarnation req session started asked among number may.
            let (was, apart) = before k incarnation may in (
              all.unended k incarnation req session started asked among number was,
              loss_ends_none_of req script world n host k incarnation session apart asked,
            ))

    -- ---- every event

    none_there : (o : Option Host) → is_some o ≡ false → o ≡ None
    none_there None none = refl
    none_there (Some host) none = absurd (cc (none))

    event_leaves : (event : Event) (made : EventOutcome) → EventKind script event world made → Leaves made
    event_leaves event made (NodeStep h) = subst Leaves h.made_so (step_leaves h.n h.host h.there h.cause h.caused)
    event_leaves event made (UntoldLoss h) = rests made _ world.hosts h.made_so refl refl refl (λ n incarnation may. may)
    event_leaves event made (UnreadDelivery h) = rests made _ world.hosts h.made_so refl refl refl (λ n incarnation may. may)
    event_leaves event made (NodeLoss h) =
        of_parts made world.guests (tree.insert world.hosts h.n (lost_host h.host)) (writers_lost script world h.n (Some h.host))
        (ap guests_of (sym h.made_so)) (ap hosts_of (sym h.made_so)) (ap grown_of (sym h.made_so)) (loss_leaves h.n h.host h.there)
    event_leaves event made (NodeLeave h) = rests made _ world.hosts h.made_so refl refl refl (λ n incarnation may. may)
    event_leaves event made (NodeReweight h) = rests made _ world.hosts h.made_so refl refl refl (λ n incarnation may. may)
    event_leaves event made (NodeJoin h) =
        rests made _ (tree.insert world.hosts h.n (joined_host script h.n)) h.made_so refl refl refl
        (hosts_before h.n (joined_host script h.n) None
        (none_there (tree.get world.hosts h.n)
        (next_fits script world (lines.Join h.n) h.control (together script range world began).fit).1)
        (λ incarnation may. tt))
    event_leaves event made (NodeReturn h) =
        let log = log_after_return script h.n world in
        let replies = (node_step (inputs.Back log) h.host.node).outputs.replies in
        quiet made _ (fold (progress_after_reply script) world.guests replies) (tree.insert world.hosts h.n (host_after_return log h.host))
        h.made_so refl refl refl (replies_grow script replies world.guests)
        (λ session started among. (left_by script replies world.guests session started among).0)
        (hosts_before h.n (host_after_return log h.host) (Some h.host) h.there
        (λ incarnation may. ⊎_elim
        (λ (later : h.host.incarnation + 1 < incarnation). inl (omega (arith, later)))
        (λ (here : (h.host.incarnation + 1 ≡ incarnation) × (false ≡ false)). let is = here.0 in inl (omega (arith, is)))
        may))
    event_leaves event made (PhaseEnd h) = rests made _ world.hosts h.made_so refl refl refl (λ n incarnation may. may)

  -- ---- every run

  abbrev pub UnendedAt : MomentWithPast → Type 0
  UnendedAt moment = AreAnsweredAt script moment × AreUnended moment.world.guests moment.world.hosts moment.past.history

  opens_unended : UnendedAt (first_moment script)
  opens_unended = (
    opens_answered script,
    record {
      begun = λ req is. absurd (cc (is));
      unended = λ n incarnation req session started asked among number may. refl;
    },
  )

  events_unended : RunsAreInRange script → KeptByEvents script UnendedAt
  unfolding past_after_event
  events_unended range event before made began is both = (
    events_answered script event before made began is both.0,
    event_leaves range before.world began before.past.refused both.0 before.past.history both.1 event made
        (goes_by_kind script event before.world made is),
  )

  pub unended-in_run : RunsAreInRange script → (events : List Move) (moment : MomentWithPast) → run_with_past script events ≡ Some moment
      → UnendedAt moment
  unended-in_run range events moment is = run-kept_by_events script UnendedAt opens_unended (events_unended range) events moment is
