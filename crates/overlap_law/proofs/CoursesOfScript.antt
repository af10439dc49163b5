-- In each run in range each request of a node is at a place that its statement allows, and began on the disk that its session has open.
use Rattle.std.proofs.Common.{◌≡◌, ◌≢◌, ⊎_elim, ℕ, true, List, [], ◌∷◌, ◌++◌, fold, Contains, Option, Some, None, option_map, refl, sym, ap}
use Rattle.std.proofs.Common.{subst, ◌∙◌, false}
use Rattle.std.specs.Prelude.{unwrap_or}
use Rattle.std.specs.Option.{option_and_then}
use Rattle.std.specs.FinMap as tree
use Rattle.std.proofs.lemmas.List.Elements.{Contains-push}
use Rattle.std.proofs.lemmas.Option.{same_Some}
use Rattle.proof_tools.proofs.Booleans.{cond_either}
use Rattle.proof_tools.proofs.FiniteMaps.{get-insert_same, get-insert_cases}
use Rattle.cluster_script.specs.declared.statement.Statement.{Statement}
use Rattle.cluster_script.specs.NumberedRequests.{session_of, request_at}
use Rattle.cluster_script.specs.Sessions.{ScriptSession}
use Rattle.cluster_script.specs.Settings.{tries_of}
use Rattle.object_id.specs.declared.entry.Entry.{Entry}
use Rattle.object_id.specs.declared.node.NodeId.{NodeId}
use Rattle.peer_proto.specs.declared.ask.PeerReq.{PeerReq}
use Rattle.peer_proto.specs.declared.guest.GuestRsp.{GuestRsp}
use Rattle.sheep_node.specs.declared.ask.Ask.{Ask}
use Rattle.sheep_node.specs.declared.ask.Ask.TheVariants as asks
use Rattle.sheep_node.specs.declared.event.Event.{Event}
use Rattle.sheep_node.specs.declared.input.Input.TheVariants as inputs
use Rattle.sheep_node.specs.declared.course.Request.{Request}
use Rattle.sheep_node.specs.LogReading.{on_back}
use Rattle.sheep_node.specs.SessionQueues.{session_among}
use Rattle.sheep_node.specs.State as nodes
use Rattle.sheep_node.specs.State.{Node, session_at}
use Rattle.sheep_node.specs.Step.{on_request, is_due, with_recovered, recovered_put, on_input, node_step}
use Rattle.sheep_node.specs.StepState.{StepState, at_first, with_node}
use Rattle.sheep_node.specs.Changes.{IsSoundStep}
use Rattle.sheep_node.proofs.StepChain.{step_chain}
use Rattle.sheep_world.specs.declared.progress.StartedRequest.{StartedRequest}
use Rattle.sheep_world.specs.declared.progress.SessionProgress.{SessionProgress}
use Rattle.sheep_world.specs.Asking.{ask_of_statement, session_asking}
use Rattle.sheep_world.specs.Began.{Began, IsInvariant}
use Rattle.sheep_world.specs.Effects.{disk_open, progress_with_started}
use Rattle.sheep_world.specs.EventKinds.{log_after_return, world_after_return, EventKind, NodeStep, UntoldLoss, UnreadDelivery, NodeLoss}
use Rattle.sheep_world.specs.EventKinds.{NodeLeave, NodeReweight, NodeJoin, NodeReturn, PhaseEnd}
use Rattle.sheep_world.specs.HostChanges.{joined_host, host_after_return}
use Rattle.sheep_world.specs.MembershipChanges.{lost_host}
use Rattle.sheep_world.specs.NodeCauses.{NodeCause, GuestAsks, RequestComes, ReplyComes, LossIsTold, EntryIsRead, EntryIsPut, RecoveryTicks}
use Rattle.sheep_world.specs.NodeCauses.{WorkIsRetried, ClientAsks, input_of_cause, IsCause, progress_at_cause, world_after_cause}
use Rattle.sheep_world.specs.NodeCauses.{host_with_node}
use Rattle.sheep_world.specs.NodeSteps.{progress_after_reply}
use Rattle.sheep_world.specs.Opening.{initial_world, format_entry}
use Rattle.sheep_world.specs.Step.{EventOutcome}
use Rattle.sheep_world.specs.World.{Host, World, node_at, no_progress, progress_at, is_host_up}
use Rattle.sheep_world.proofs.BegunWorlds.{by_induction}
use Rattle.sheep_world.proofs.ClientReads.{goes_by_kind}
use Rattle.sheep_world.proofs.StepsByCause.{sound_step}
use Rattle.sheep_world.proofs.WireAtEvents.{is_ready}
use Rattle.sheep_world.proofs.WireAtOpening.{opening_found}
use Rattle.sheep_world.specs.RunsWithAsks.{Move}
use Rattle.overlap_law.specs.Past.{MomentWithPast, run_with_past}
use Rattle.overlap_law.specs.MomentChanges.{RunsAreInRange}
use Rattle.overlap_law.specs.RequestsOfScript.{IsCourseOfAsk, IsRequestOfScript, RequestsAreTheScripts, is_of_client}
use Rattle.overlap_law.proofs.CausedWorks.{IsNotServed}
use Rattle.overlap_law.proofs.CoursesOfAsks.{id_of_disk, IsOfSession, ArePlaced, IsPlacedIn, IsBrought, IsBroughtBy, brought_by, placed_as}
use Rattle.overlap_law.proofs.CoursesAtChanges.{none_placed, placed_in_chain, placed_grows}
use Rattle.overlap_law.proofs.GuestsOfScript.{asked_inside}
use Rattle.overlap_law.proofs.KnownSteps.{together}
use Rattle.overlap_law.proofs.NoRecoveredDue.{began-with_past}
use Rattle.overlap_law.proofs.RepliesApart.{step_apart}
use Rattle.overlap_law.proofs.RequestsInRuns.{at_place, statement_of}
use Rattle.overlap_law.proofs.SessionsOfRequests.{are_scripts}
use Rattle.overlap_law.proofs.UnansweredRequests.{Guests, unanswered_in, stays_by, found_unanswered, back_empty, first_empty}
use Rattle.overlap_law.proofs.WholeInRuns.{sound_here, may_change}
use Rattle.overlap_law.proofs.RepliesElsewhere.{unreplied_elsewhere}
use Rattle.overlap_law.proofs.AsksInCauses.{no_request}
use Rattle.sheep_world.specs.ClientAsks.{is_read_ask}

-- what the request of a number asks
abbrev pub asked_by : List Statement → ℕ → Option Ask
asked_by script req = option_and_then ask_of_statement (request_at script req)

-- a session's request without reply began on this disk
pub record BeganOn (script : List Statement) (guests : Guests) (req : ℕ) (disk : Option ℕ) : Type 0 where
  pub session : ℕ
  pub asking : session_asking script req ≡ Some session
  pub started : StartedRequest
  pub there : Contains (unanswered_in session guests) started
  pub number : started.req ≡ req
  pub on : started.disk ≡ disk

-- each request of a node is placed, with what sessions have without reply
abbrev pub HasPlaced : List Statement → Guests → Node → Type 0
HasPlaced script guests node = ArePlaced (asked_by script) (BeganOn script guests) node.requests node.sessions

-- ---- what a session asks

of_session : (line : Statement) (ask : Ask) → ask_of_statement line ≡ Some ask → IsOfSession ask
of_session line (asks.Disk ask) is = tt
of_session line (asks.Vdi ask) is = tt
of_session line (asks.Object work) is = let inside = asked_inside line (asks.Object work) is in absurd (cc (inside))
of_session line (asks.Entry entry) is = let inside = asked_inside line (asks.Entry entry) is in absurd (cc (inside))

-- ---- requests that a step leaves

due_placed : (script : List Statement) (guests : Guests) (so_far : StepState) → HasPlaced script guests so_far.node
    → HasPlaced script guests (recovered_put so_far).node
unfolding recovered_put
due_placed script guests so_far is =
    cond_either (λ (now : StepState). HasPlaced script guests now.node) (is_due so_far.node) (with_recovered so_far) so_far is is

served_placed : (script : List Statement) (guests : Guests) (request : PeerReq) (node : Node) → HasPlaced script guests node
    → HasPlaced script guests (node_step (inputs.Request request) node).node
unfolding node_step on_input on_request
served_placed script guests request node is = due_placed script guests (on_request request (at_first node)) is

back_placed : (script : List Statement) (guests : Guests) (entries : List Entry) (node : Node)
    → HasPlaced script guests (node_step (inputs.Back entries) node).node
unfolding node_step on_input on_back
back_placed script guests entries node =
    due_placed script guests (with_node (on_back entries node) (at_first node)) (none_placed (asked_by script) (BeganOn script guests))

module _ (script : List Statement) where
  -- what has no reply stays so, where none is given
  pub still_began : (guests : Guests) (replies : List (ℕ × GuestRsp)) (req : ℕ) (disk : Option ℕ)
      → ((reply : ℕ × GuestRsp) → Contains replies reply → reply.0 ≢ req) → BeganOn script guests req disk
      → BeganOn script (fold (progress_after_reply script) guests replies) req disk
  still_began guests replies req disk others is = record {
    session = is.session;
    asking = is.asking;
    started = is.started;
    there = stays_by script replies guests is.session is.started (λ reply among same. others reply among (same ∙ is.number)) is.there;
    number = is.number;
    on = is.on;
  }

  pub found_began : (world : World) (n : ℕ) (host : Host) (cause : NodeCause) (req : ℕ) (disk : Option ℕ)
      → BeganOn script world.guests req disk
      → BeganOn script (progress_at_cause cause world) req disk
  found_began world n host cause req disk is = record {
    session = is.session;
    asking = is.asking;
    started = is.started;
    there = found_unanswered script world n host cause is.session is.started is.there;
    number = is.number;
    on = is.on;
  }

  -- the disk that a session has open at its node
  open_here : (world : World) (n : ℕ) (host : Host) (session : ScriptSession) → tree.get world.hosts n ≡ Some host → session.node ≡ n
      → disk_open session world ≡ id_of_disk (session_among session.number host.node.sessions).disk
  open_here world n host session there own =
      let found : node_at session.node world ≡ Some host.node
      = ap (λ (k : ℕ). node_at k world) own ∙ ap (λ (o : Option Host). option_map (λ (h : Host). h.node) o) there in
      ap (λ (o : Option Node). id_of_disk (option_and_then (λ (node : Node). (session_at session.number node).disk) o)) found

  begins_asked : (world : World) (n : ℕ) (host : Host) (session : ScriptSession) (req : ℕ) (ask : Ask) → tree.get world.hosts n ≡ Some host
      → IsCause script world n host (GuestAsks session req ask)
      → IsOfSession ask × (asked_by script req ≡ Some ask)
      × BeganOn script (progress_at_cause (GuestAsks session req ask) world) req
      (id_of_disk (session_among session.number host.node.sessions).disk)
  begins_asked world n host session req ask there asked =
      let new : StartedRequest = record { req = req; disk = disk_open session world } in
      let guest : SessionProgress = progress_with_started new (progress_at session.number world) in
      let is : unanswered_in session.number (tree.insert world.guests session.number guest)
      ≡ (progress_at session.number world).unanswered ++ new ∷ []
      = ap (λ (o : Option SessionProgress). (unwrap_or o no_progress).unanswered)
      (get-insert_same world.guests session.number guest) in (
        of_session asked.line ask asked.asks,
        ap (option_and_then ask_of_statement) asked.stands ∙ asked.asks,
        record {
          session = session.number;
          asking = ap (option_and_then session_of) asked.stands ∙ asked.own;
          started = new;
          there = subst (λ (list : List StartedRequest). Contains list new) (sym is)
              (Contains-push (progress_at session.number world).unanswered new);
          number = refl;
          on = open_here world n host session there asked.gateway;
        },
      )

  client_brings : (world : World) (host : Host) (req number : ℕ) (own : Ask) → is_read_ask own ≡ true → asked_by script req ≡ None
      → IsBroughtBy (asked_by script) (BeganOn script world.guests) req (session_among number host.node.sessions).disk own
  client_brings world host req number (asks.Disk ask) reads none = absurd (cc (reads))
  client_brings world host req number (asks.Vdi ask) reads none = absurd (cc (reads))
  client_brings world host req number (asks.Object work) reads none = none
  client_brings world host req number (asks.Entry entry) reads none = absurd (cc (reads))

  pub brings : (world : World) (n : ℕ) (host : Host) (cause : NodeCause) → tree.get world.hosts n ≡ Some host
      → IsCause script world n host cause
      → IsBrought (asked_by script) (BeganOn script (progress_at_cause cause world)) (input_of_cause cause) host.node
  brings world n host (GuestAsks session begins ask) there asked req number own from =
      let found = progress_at_cause (GuestAsks session begins ask) world in
      let Brings : ℕ → ℕ → Ask → Type 0
      = λ (req number : ℕ) (ask : Ask). IsBroughtBy (asked_by script) (BeganOn script found) req
      (session_among number host.node.sessions).disk ask in
      let same : begins ≡ req = cc (from) in
      let of : session.number ≡ number = cc (from) in
      let what : ask ≡ own = cc (from) in
      subst (λ (k : ℕ). Brings k number own) same
      (subst (λ (k : ℕ). Brings begins k own) of
      (subst (Brings begins session.number) what
      (brought_by (asked_by script) (BeganOn script found) begins (session_among session.number host.node.sessions).disk ask
      (begins_asked world n host session begins ask there asked))))
  brings world n host (RequestComes name to request) there so req number own from = absurd (cc (from))
  brings world n host (ReplyComes name to rsp) there so req number own from = absurd (cc (from))
  brings world n host (LossIsTold name packet) there so req number own from = absurd (cc (from))
  brings world n host (EntryIsRead entry) there so req number own from = absurd (cc (from))
  brings world n host (EntryIsPut entry) there so req number own from = absurd (cc (from))
  brings world n host RecoveryTicks there so req number own from = absurd (cc (from))
  brings world n host WorkIsRetried there so req number own from = absurd (cc (from))
  brings world n host (ClientAsks begins what) there so req number own from =
      let same : begins ≡ req = cc (from) in
      let asks : what ≡ own = cc (from) in
      client_brings world host req number own (ap is_read_ask (sym asks) ∙ so.reads)
      (ap (option_and_then ask_of_statement) (no_request so req same))

  -- ---- each node's requests

  abbrev AllPlaced : World → Type 0
  AllPlaced world = (m : ℕ) (host : Host) → tree.get world.hosts m ≡ Some host → HasPlaced script world.guests host.node

  abbrev opening : NodeId → Node
  opening me = (node_step (inputs.LogEntry (format_entry script)) (nodes.initial_node me (tries_of script))).node

  opens_placed : AllPlaced (initial_world script)
  unfolding initial_world
  opens_placed m host got =
      let (member, own, is) = opening_found script m host got in
      subst (λ (h : Host). HasPlaced script tree.empty h.node) is (first_placed member.node)
    where
      first_placed : (me : NodeId) → HasPlaced script tree.empty (opening me)
      first_placed me req = by_got (tree.get (opening me).requests req) refl
        where
          by_got : (o : Option Request) → tree.get (opening me).requests req ≡ o
              → IsPlacedIn (asked_by script) (BeganOn script tree.empty) req (opening me).sessions o
          by_got None got = tt
          by_got (Some request) got = absurd ((first_empty script me).asked req request got)

  -- ---- a step

  module _ (range : RunsAreInRange script) (world : World) (began : Began script world) where
    module _ (n : ℕ) (host : Host) (there : tree.get world.hosts n ≡ Some host) (up : is_host_up host ≡ true) (cause : NodeCause)
        (caused : IsCause script world n host cause) where
      abbrev found : Guests
      found = progress_at_cause cause world

      abbrev last : Node
      last = (node_step (input_of_cause cause) host.node).node

      abbrev replies : List (ℕ × GuestRsp)
      replies = (node_step (input_of_cause cause) host.node).outputs.replies

      sound : IsSoundStep (input_of_cause cause) host.node
      sound = sound_step script world n host cause caused (is_ready script world (together script range world began) n host there up)

      -- its own requests, as the step leaves them
      by_step : IsNotServed cause → HasPlaced script (progress_at_cause cause world) host.node
          → HasPlaced script (progress_at_cause cause world) (node_step (input_of_cause cause) host.node).node
      by_step not are =
          let here = sound_here script range world began n host there up in
          placed_in_chain (asked_by script) (BeganOn script found) (input_of_cause cause) host.node
          (may_change script range world began n host there up cause not caused) here.queues here.sole_commands
          (brings world n host cause there caused) are (node_step (input_of_cause cause) host.node)
          (step_chain (input_of_cause cause) host.node)

    stepped_placed : (n : ℕ) (host : Host) (there : tree.get world.hosts n ≡ Some host) (up : is_host_up host ≡ true) (cause : NodeCause)
        (caused : IsCause script world n host cause) → HasPlaced script (progress_at_cause cause world) host.node
        → HasPlaced script (progress_at_cause cause world) (node_step (input_of_cause cause) host.node).node
    stepped_placed n host there up (GuestAsks session req ask) caused are =
        by_step n host there up (GuestAsks session req ask) caused tt are
    stepped_placed n host there up (RequestComes name to request) caused are = served_placed script world.guests request host.node are
    stepped_placed n host there up (ReplyComes name from rsp) caused are = by_step n host there up (ReplyComes name from rsp) caused tt are
    stepped_placed n host there up (LossIsTold name packet) caused are = by_step n host there up (LossIsTold name packet) caused tt are
    stepped_placed n host there up (EntryIsRead entry) caused are = by_step n host there up (EntryIsRead entry) caused tt are
    stepped_placed n host there up (EntryIsPut entry) caused are = by_step n host there up (EntryIsPut entry) caused tt are
    stepped_placed n host there up RecoveryTicks caused are = by_step n host there up RecoveryTicks caused tt are
    stepped_placed n host there up WorkIsRetried caused are = by_step n host there up WorkIsRetried caused tt are
    stepped_placed n host there up (ClientAsks req ask) caused are = by_step n host there up (ClientAsks req ask) caused tt are

    -- with the world's sessions as the step finds them, and as it leaves them
    pub placed_found : (n : ℕ) (host : Host) (cause : NodeCause) (node : Node) → HasPlaced script world.guests node
        → HasPlaced script (progress_at_cause cause world) node
    placed_found n host cause node are =
        placed_grows (asked_by script) (BeganOn script world.guests)
        (BeganOn script (progress_at_cause cause world)) node.requests node.sessions
        (λ req request disk got b. found_began world n host cause req disk b) are

    placed_left : (guests : Guests) (replies : List (ℕ × GuestRsp)) (node : Node)
        → ((req : ℕ) (request : Request) → tree.get node.requests req ≡ Some request → (reply : ℕ × GuestRsp) → Contains replies reply
        → reply.0 ≢ req)
        → HasPlaced script guests node → HasPlaced script (fold (progress_after_reply script) guests replies) node
    placed_left guests replies node others are =
        placed_grows (asked_by script) (BeganOn script guests)
        (BeganOn script (fold (progress_after_reply script) guests replies)) node.requests
        node.sessions (λ req request disk got b. still_began guests replies req disk (others req request got) b) are

    module _ (are : AllPlaced world) where
      step_placed : (n : ℕ) (host : Host) (cause : NodeCause) → tree.get world.hosts n ≡ Some host → is_host_up host ≡ true
          → IsCause script world n host cause → AllPlaced (world_after_cause script n host cause world)
      step_placed n host cause there up caused m now got = ⊎_elim
          (λ (own : (m ≡ n) × (host_with_node host (node_step (input_of_cause cause) host.node).node ≡ now)).
          subst (λ (h : Host). HasPlaced script (world_after_cause script n host cause world).guests h.node) own.1
          (placed_left (progress_at_cause cause world) (node_step (input_of_cause cause) host.node).outputs.replies
          (node_step (input_of_cause cause) host.node).node
          (λ req request has reply among.
          step_apart (input_of_cause cause) host.node (sound n host there up cause caused) req request reply has among)
          (stepped_placed n host there up cause caused (placed_found n host cause host.node (are n host there)))))
          (λ (other : (m ≢ n) × (tree.get world.hosts m ≡ Some now)).
          placed_left (progress_at_cause cause world) (node_step (input_of_cause cause) host.node).outputs.replies now.node
          (λ req request has reply among.
          unreplied_elsewhere script range.is_script world began n m host now there other.1 other.0 req request has cause caused reply
          among) (placed_found n host cause now.node (are m now other.1)))
          (get-insert_cases world.hosts n (host_with_node host (node_step (input_of_cause cause) host.node).node) m now got)

      return_placed : (n : ℕ) (host : Host) → AllPlaced (world_after_return script n host world)
      return_placed n host m now got =
          let log = log_after_return script n world in
          ⊎_elim
          (λ (own : (m ≡ n) × (host_after_return (log_after_return script n world) host ≡ now)).
          subst (λ (h : Host). HasPlaced script (world_after_return script n host world).guests h.node) own.1
          (back_placed script (world_after_return script n host world).guests log host.node))
          (λ (other : (m ≢ n) × (tree.get world.hosts m ≡ Some now)).
          placed_left world.guests (node_step (inputs.Back log) host.node).outputs.replies now.node
          (λ req request has reply among same. ((back_empty script log host.node).replied reply among).2) (are m now other.1))
          (get-insert_cases world.hosts n (host_after_return log host) m now got)

      one_placed : (n : ℕ) (new : Host) → HasPlaced script world.guests new.node → (m : ℕ) (now : Host)
          → tree.get (tree.insert world.hosts n new) m ≡ Some now → HasPlaced script world.guests now.node
      one_placed n new is m now got = ⊎_elim
          (λ (own : (m ≡ n) × (new ≡ now)). subst (λ (h : Host). HasPlaced script world.guests h.node) own.1 is)
          (λ (other : (m ≢ n) × (tree.get world.hosts m ≡ Some now)). are m now other.1)
          (get-insert_cases world.hosts n new m now got)

      kind_placed : (event : Event) (made : EventOutcome) → EventKind script event world made → AllPlaced made.world
      kind_placed event made (NodeStep h) =
          subst (λ (m : EventOutcome). AllPlaced m.world) h.made_so (step_placed h.n h.host h.cause h.there h.up h.caused)
      kind_placed event made (UntoldLoss h) = subst (λ (m : EventOutcome). AllPlaced m.world) h.made_so are
      kind_placed event made (UnreadDelivery h) = subst (λ (m : EventOutcome). AllPlaced m.world) h.made_so are
      kind_placed event made (NodeLoss h) =
          subst (λ (m : EventOutcome). AllPlaced m.world) h.made_so (one_placed h.n (lost_host h.host) (are h.n h.host h.there))
      kind_placed event made (NodeLeave h) = subst (λ (m : EventOutcome). AllPlaced m.world) h.made_so are
      kind_placed event made (NodeReweight h) = subst (λ (m : EventOutcome). AllPlaced m.world) h.made_so are
      kind_placed event made (NodeJoin h) =
          subst (λ (m : EventOutcome). AllPlaced m.world) h.made_so
          (one_placed h.n (joined_host script h.n) (none_placed (asked_by script) (BeganOn script world.guests)))
      kind_placed event made (NodeReturn h) = subst (λ (m : EventOutcome). AllPlaced m.world) h.made_so (return_placed h.n h.host)
      kind_placed event made (PhaseEnd h) = subst (λ (m : EventOutcome). AllPlaced m.world) h.made_so are

  -- ---- every world

  module _ (range : RunsAreInRange script) where
    placed_invariant : IsInvariant script AllPlaced
    placed_invariant = record {
      opens = opens_placed;
      keeps = λ event world made began is are. kind_placed range world began are event made (goes_by_kind script event world made is);
    }

    pub requests_placed : (world : World) → Began script world → AllPlaced world
    requests_placed = by_induction script AllPlaced placed_invariant

    -- as the invariant says it
    of_script : (world : World) → Began script world → (n req : ℕ) (host : Host) (request : Request) → tree.get world.hosts n ≡ Some host
        → tree.get host.node.requests req ≡ Some request → is_of_client request.course ≡ false
        → IsRequestOfScript script world n host req request
    of_script world began n req host request there got none =
        let (disk, at, course) = placed_as (asked_by script) (BeganOn script world.guests) req
        (session_among request.session host.node.sessions).disk request.course none
        (subst (IsPlacedIn (asked_by script) (BeganOn script world.guests) req host.node.sessions) got
        (requests_placed world began n host there req)) in
        let asked = are_scripts script range.is_script world began n host there req request got none in
        let (statement, stands, own) = statement_of request.session (request_at script req) asked.asking in
        let session : at.session ≡ request.session = same_Some at.session request.session (sym at.asking ∙ asked.asking) in
        let there_too : Contains (progress_at request.session world).unanswered at.started
        = subst (λ (k : ℕ). Contains (unanswered_in k world.guests) at.started) session at.there in
        let (place, unanswered) = at_place (progress_at request.session world).unanswered at.started there_too in
        let asks : asked_by script req ≡ ask_of_statement statement = ap (option_and_then ask_of_statement) stands in
        let opened = (session_among request.session host.node.sessions).disk in
        record {
          asked = record {
            session = asked.of;
            statement = statement;
            place = place;
            started = at.started;
            declared = asked.declared;
            of_node = asked.of_node;
            of_incarnation = asked.of_incarnation;
            stands = stands;
            own = own;
            unanswered = unanswered;
            number = at.number;
          };
          course = subst (λ (o : Option ℕ). IsCourseOfAsk (ask_of_statement statement) opened o request.course) (sym at.on)
              (subst (λ (a : Option Ask). IsCourseOfAsk a opened disk request.course) asks course);
        }

  pub requests-in_run : RunsAreInRange script → (events : List Move) (moment : MomentWithPast) → run_with_past script events ≡ Some moment
      → RequestsAreTheScripts script moment.world
  requests-in_run range events moment is = record {
    each = λ n req host request there up got asks.
        of_script range moment.world (began-with_past script events moment is) n req host request there got asks;
  }
