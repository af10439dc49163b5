-- In each world of a run in range a session has room for its next request, so that each step is one that a node may take; and so queues,
-- commands and works of sessions are sound there.
use Rattle.std.proofs.Common.{is_some, ◌≡◌, ◌≢◌, arith, ℕ, ◌-◌, ◌≤◌, ◌<◌, ◌==◌, Bool, true, false, ◌&&◌, List, [], ◌∷◌, length, map}
use Rattle.std.proofs.Common.{Contains, inl, inr, Option, Some, None, is_none, refl, sym, ap, subst, ◌∙◌}
use Rattle.std.specs.Prelude.{nat_le, nat_lt, nat_eq}
use Rattle.std.specs.List.{list_all, AllByRecursion, IsDistinct}
use Rattle.std.specs.Cmp.{nat_eq_equiv}
use Rattle.std.specs.FinMap as tree
use Rattle.std.proofs.lemmas.Bool.{eqb-true, eq-eqb, ne_eqb, and_parts, le-leb, ltb-true}
use Rattle.std.proofs.lemmas.List.{length-map}
use Rattle.std.proofs.lemmas.Map.Made.{length-le_from_is_member, is_member-Decides}
use Rattle.proof_tools.proofs.Booleans.{cond_either}
use Rattle.proof_tools.proofs.Lists.{Contains-nil, Contains-head, Contains-cons, Contains-cons_cases, Contains-map}
use Rattle.object_id.specs.declared.limits.TheConstants.{REQUESTS_AT_ONCE}
use Rattle.object_id.specs.declared.node.NodeId.{NodeId}
use Rattle.object_id.specs.declared.entry.Entry.{Entry}
use Rattle.cluster_script.specs.declared.statement.Statement.{Statement}
use Rattle.cluster_script.specs.Phases.{phase_of_request}
use Rattle.cluster_script.specs.Settings.{tries_of}
use Rattle.peer_proto.specs.declared.ask.PeerReq.{PeerReq}
use Rattle.gateway_queue.specs.declared.queue.Queued.{Queued}
use Rattle.sheep_node.specs.declared.ask.Ask.{Ask}
use Rattle.sheep_node.specs.declared.ask.Ask.TheVariants as asks
use Rattle.sheep_node.specs.declared.input.Input.{Input}
use Rattle.sheep_node.specs.declared.input.Input.TheVariants as inputs
use Rattle.sheep_node.specs.declared.course.Request.{Request}
use Rattle.sheep_node.specs.declared.limits.TheConstants.{SENDS_MAX}
use Rattle.sheep_node.specs.State as nodes
use Rattle.sheep_node.specs.State.{Node, session_at}
use Rattle.sheep_node.specs.StepState.{StepState, at_first, with_node}
use Rattle.sheep_node.specs.Step.{on_request, is_due, with_recovered, recovered_put, on_input, node_step}
use Rattle.sheep_node.specs.LogReading.{on_back}
use Rattle.sheep_node.specs.May.{is_disk_course, queued_at_most, has_room_for, May}
use Rattle.sheep_node.specs.OneWork.{HasOneWorkPerRequest}
use Rattle.sheep_node.specs.OpenLines.{LinesAreOpen}
use Rattle.sheep_node.specs.SessionQueues.{is_disk_request_of, queue_in, command_in, AreDiskRequests, HaveSoleCommands, AreInTurn}
use Rattle.sheep_node.specs.DrivenDisks.{AreOnDisks}
use Rattle.sheep_node.specs.WantedWorks.{HaveWantedWorks}
use Rattle.sheep_node.specs.Changes.{IsSoundStep}
use Rattle.sheep_node.proofs.AwaitedWorks.{Works}
use Rattle.sheep_node.proofs.DrivenChanges.{on_disks_at_opening, stay_on_disks}
use Rattle.sheep_node.proofs.LineChanges.{lines_open_at_opening, lines_stay_open}
use Rattle.sheep_node.proofs.NumberChanges.{meets_numbers, one_work_at_opening}
use Rattle.sheep_node.proofs.OneWorkParts.{Requests, Sessions}
use Rattle.sheep_node.proofs.QueueChanges.{none_queued}
use Rattle.sheep_node.proofs.SoleCommands.{commands_alone_at_opening, commands_stay_alone}
use Rattle.sheep_node.proofs.StepChain.{step_chain}
use Rattle.sheep_node.proofs.TurnChanges.{in_turn_at_opening, stay_in_turn}
use Rattle.sheep_node.proofs.WantedChanges.{works_wanted_at_opening, works_stay_wanted}
use Rattle.sheep_world.specs.declared.progress.StartedRequest.{StartedRequest}
use Rattle.sheep_world.specs.World.{Host, World, progress_at, is_host_up}
use Rattle.sheep_world.specs.Conditions.{is_disk_request_at, fits_beside}
use Rattle.sheep_world.specs.Opening.{format_entry, initial_world}
use Rattle.sheep_world.specs.NodeCauses.{NodeCause, GuestAsks, RequestComes, ReplyComes, LossIsTold, EntryIsRead, EntryIsPut, RecoveryTicks}
use Rattle.sheep_world.specs.NodeCauses.{WorkIsRetried, ClientAsks, input_of_cause, IsCause}
use Rattle.sheep_world.specs.EventKinds.{log_after_return}
use Rattle.sheep_world.specs.HostChanges.{HostsKeep}
use Rattle.sheep_world.specs.Began.{Began}
use Rattle.sheep_world.proofs.BegunWorlds.{each_where}
use Rattle.sheep_world.proofs.LogAtOpening.{opens_log}
use Rattle.sheep_world.proofs.NextEntries.{reads-may}
use Rattle.sheep_world.proofs.StepsByCause.{IsReady, steps_on_may}
use Rattle.sheep_world.proofs.ValidNodes.{first_may}
use Rattle.sheep_world.proofs.WireAtEvents.{is_ready}
use Rattle.overlap_law.specs.MomentChanges.{RunsAreInRange}
use Rattle.overlap_law.proofs.GuestsOfScript.{guest_asks}
use Rattle.overlap_law.proofs.KnownSteps.{together}
use Rattle.overlap_law.proofs.QueueOnce.{IsOnce, AreOnceIn, none_once, once_so_far}
use Rattle.overlap_law.proofs.RequestsInSteps.{is_disk_ask}
use Rattle.overlap_law.proofs.UnansweredRequests.{Guests, unanswered_in, RequestsAreTied, brings_tied, requests_tied, IsTied}
use Rattle.sheep_world.proofs.AsksOfClients.{clients_ask}
use Rattle.sheep_world.proofs.AsksTaken.{meets_read}
use Rattle.cluster_script.specs.Language.{IsScript}
use Rattle.cluster_script.specs.Sessions.{ScriptSession, session_numbered}
use Rattle.sheep_world.proofs.AsksInSteps.{session_above}
use Rattle.overlap_law.proofs.SessionsOfRequests.{asked_in_session, of_asking}

-- what sessions have is sound: their queues are their reads and writes, each once, any other request is alone, a read or write that began
-- is apart from the earlier ones and on the open disk, works are those that are waited for, and its line is open as its works are
pub record AreSoundGuests (works : Works) (requests : Requests) (sessions : Sessions) : Type 0 where
  pub queues : AreDiskRequests requests sessions
  pub once : AreOnceIn sessions
  pub alone : HaveSoleCommands requests sessions
  pub in_turn : AreInTurn requests sessions
  pub wanted : HaveWantedWorks works requests sessions
  pub on_disks : AreOnDisks requests sessions
  pub lines : LinesAreOpen works requests sessions

abbrev pub HasSoundGuests : Node → Type 0
HasSoundGuests node = AreSoundGuests node.gateway.works node.requests node.sessions

opening_sound : (me : NodeId) (tries : ℕ) → HasSoundGuests (nodes.initial_node me tries)
opening_sound me tries = record {
  queues = none_queued;
  once = none_once;
  alone = commands_alone_at_opening me tries;
  in_turn = in_turn_at_opening me tries;
  wanted = works_wanted_at_opening me tries;
  on_disks = on_disks_at_opening me tries;
  lines = lines_open_at_opening me tries;
}

-- a step that the node may take
may_sound : (input : Input) (node : Node) → May input node → HasOneWorkPerRequest node → HasSoundGuests node
    → HasSoundGuests (node_step input node).node
may_sound input node may driven is =
    let sound : IsSoundStep input node = (meets_numbers input node may.condition, driven) in
    let both = once_so_far sound (step_chain input node) is.queues is.once in
    record {
      queues = both.0;
      once = both.1;
      alone = commands_stay_alone input node may is.queues is.alone;
      in_turn = stay_in_turn input node is.in_turn;
      wanted = works_stay_wanted input node may driven is.queues is.alone is.wanted;
      on_disks = stay_on_disks input node may is.queues is.alone is.on_disks;
      lines = lines_stay_open input node may driven is.lines;
    }

-- a request that is served leaves them, and so does a node that comes back
due_sound : (so_far : StepState) → HasSoundGuests so_far.node → HasSoundGuests (recovered_put so_far).node
unfolding recovered_put
due_sound so_far is = cond_either (λ (now : StepState). HasSoundGuests now.node) (is_due so_far.node) (with_recovered so_far) so_far is is

served_sound : (request : PeerReq) (node : Node) → HasSoundGuests node → HasSoundGuests (node_step (inputs.Request request) node).node
unfolding node_step on_input on_request
served_sound request node is = due_sound (on_request request (at_first node)) is

back_sound : (entries : List Entry) (node : Node) → HasSoundGuests (node_step (inputs.Back entries) node).node
unfolding node_step on_input on_back
back_sound entries node = due_sound (with_node (on_back entries node) (at_first node)) (opening_sound node.me node.gateway.tries)

-- ---- room

both_true : (a b : Bool) → a ≡ true → b ≡ true → (a && b) ≡ true
both_true a b p q = λ i. p i && q i

three_parts : (a b c : Bool) → (a && b && c) ≡ true → (a ≡ true) × (b ≡ true) × (c ≡ true)
three_parts true true true is = (refl, refl, refl)
three_parts true true false is = absurd (cc (is))
three_parts true false c is = absurd (cc (is))
three_parts false b c is = absurd (cc (is))

all_pass : {X : Type 0} (p : X → Bool) (xs : List X) (x : X) → Contains xs x → list_all p xs ≡ true → p x ≡ true
all_pass p [] x there all = absurd (Contains-nil x there)
all_pass p (y ∷ ys) x there all =
    let (own, rest) = and_parts (p y) (list_all p ys) all in
    elim (Contains-cons_cases y ys x there) [ inl same ↦ ap p (sym same) ∙ own | inr later ↦ all_pass p ys x later rest ]

-- a queue has no more entries than there are requests without reply
apart_numbers : (req : ℕ) (queue : List Queued) → ((other : Queued) → Contains queue other → other.req ≢ req)
    → AllByRecursion (λ y. nat_eq req y ≡ false) (map (λ (one : Queued). one.req) queue)
apart_numbers req [] apart = tt
apart_numbers req (first ∷ later) apart = (
  ne_eqb req first.req (λ same. apart first (Contains-head first later) (sym same)),
  apart_numbers req later (λ other there. apart other (Contains-cons first later other there)),
)

once_distinct : (queue : List Queued) → IsOnce queue → IsDistinct nat_eq (map (λ (one : Queued). one.req) queue)
unfolding IsDistinct
once_distinct [] is = tt
once_distinct (first ∷ later) is = (apart_numbers first.req later is.0, once_distinct later is.1)

number_in : (q : ℕ) (queue : List Queued) → Contains (map (λ (one : Queued). one.req) queue) q
    → (one : Queued) × Contains queue one × (one.req ≡ q)
number_in q [] there = absurd (Contains-nil q there)
number_in q (first ∷ later) there = elim (Contains-cons_cases first.req (map (λ (one : Queued). one.req) later) q there) [
  | inl same ↦ (first, Contains-head first later, same)
  | inr behind ↦ (let (one, among, is) = number_in q later behind in (one, Contains-cons first later one among, is))
]

same_number : (a b : ℕ) → (nat_eq a b ≡ true → a ≡ b) × (a ≡ b → nat_eq a b ≡ true)
same_number a b = (eqb-true a b, eq-eqb a b)

few_queued : (queue : List Queued) (unanswered : List StartedRequest) → IsOnce queue
    → ((one : Queued) → Contains queue one → (started : StartedRequest) × Contains unanswered started × (started.req ≡ one.req))
    → length queue ≤ length unanswered
few_queued queue unanswered once each =
    let ours = map (λ (one : Queued). one.req) queue in
    let theirs = map (λ (started : StartedRequest). started.req) unanswered in
    let most : length ours ≤ length theirs
    = length-le_from_is_member nat_eq_equiv ours theirs (once_distinct queue once)
    (λ q member.
    let (one, there, same) = number_in q queue ((is_member-Decides same_number ours q).0 member) in
    let (started, among, number) = each one there in
    (is_member-Decides same_number theirs q).1
    (subst (λ (k : ℕ). Contains theirs k) (number ∙ same) (Contains-map (λ (started : StartedRequest). started.req) unanswered started
    among))) in
    let left : length ours ≡ length queue = length-map queue (λ (one : Queued). one.req) in
    let right : length theirs ≡ length unanswered = length-map unanswered (λ (started : StartedRequest). started.req) in
    omega (arith, most, left, right)

-- the requests of a session that the script declares are tied to it
pub tied_of : (script : List Statement) → IsScript script → (world : World) → Began script world → (n : ℕ) (host : Host)
    → tree.get world.hosts n ≡ Some host → (session : ScriptSession) → session_numbered script session.number ≡ Some session
    → RequestsAreTied script world.guests host.node → (req : ℕ) (request : Request) → tree.get host.node.requests req ≡ Some request
    → request.session ≡ session.number → IsTied script world.guests req request.session (is_disk_course request.course)
tied_of script is_script world began n host there session declared tied req request got own =
    let asked = asked_in_session script world began n host there req request got
    (λ zero. let above = session_above script is_script session.number session declared in omega (arith, above, zero, own)) in
    tied req request got (of_asking script req request.session asked.asking)

module _ (script : List Statement) (guests : Guests) (node : Node) (sound : HasSoundGuests node) (session : ℕ)
    (tied : (req : ℕ) (request : Request) → tree.get node.requests req ≡ Some request → request.session ≡ session
    → IsTied script guests req request.session (is_disk_course request.course)) where
  abbrev left : List StartedRequest
  left = unanswered_in session guests

  queued_left : (one : Queued) → Contains (queue_in session node.sessions) one
      → (started : StartedRequest) × Contains left started × (started.req ≡ one.req)
  queued_left one there = by_request (tree.get node.requests one.req) refl (sound.queues.there session one.req (one, there, refl))
    where
      by_request : (o : Option Request) → tree.get node.requests one.req ≡ o → is_disk_request_of session o ≡ true
          → (started : StartedRequest) × Contains left started × (started.req ≡ one.req)
      by_request None got on = absurd (cc (on))
      by_request (Some request) got on =
          let own = eqb-true request.session session (and_parts (request.session == session) (is_disk_course request.course) on).0 in
          let is = (tied one.req request got own).unanswered in
          (is.started, subst (λ (k : ℕ). Contains (unanswered_in k guests) is.started) own is.there, is.number)

  command_left : (req : ℕ) → command_in session node.sessions ≡ Some req
      → (started : StartedRequest) × Contains left started × (started.req ≡ req) × (is_disk_request_at script req ≡ false)
  command_left req is =
      let (request, got, own, off) = sound.alone.there session req is in
      let tie = tied req request got own in
      let has = tie.unanswered in
      (has.started, subst (λ (k : ℕ). Contains (unanswered_in k guests) has.started) own has.there, has.number, sym tie.kind ∙ off)

  short : (list : List StartedRequest) → left ≡ list → length (queue_in session node.sessions) ≤ length list
  short list is =
      few_queued (queue_in session node.sessions) list (sound.once session)
      (λ one there. let (started, among, number) = queued_left one there in
      (started, subst (λ (l : List StartedRequest). Contains l started) is among, number))

  -- no command is there where what has no reply is a read or write
  no_command : (list : List StartedRequest) → left ≡ list
      → list_all (λ (started : StartedRequest). is_disk_request_at script started.req) list ≡ true
      → is_none (command_in session node.sessions) ≡ true
  no_command list is all = by_command (command_in session node.sessions) refl
    where
      by_command : (o : Option ℕ) → command_in session node.sessions ≡ o → is_none o ≡ true
      by_command None none = refl
      by_command (Some req) has =
          let (started, among, number, off) = command_left req has in
          let on = all_pass (λ (started : StartedRequest). is_disk_request_at script started.req) list started
          (subst (λ (l : List StartedRequest). Contains l started) is among) all in
          let on_it : is_disk_request_at script req ≡ true = ap (is_disk_request_at script) (sym number) ∙ on in
          absurd (cc (on_it, off))

  pub room : (req : ℕ) (ask : Ask) → is_disk_ask ask ≡ is_disk_request_at script req → fits_beside script req left ≡ true
      → has_room_for ask (session_at session node) ≡ true
  room req ask kind fits = by_list left refl fits
    where
      by_list : (list : List StartedRequest) → left ≡ list → fits_beside script req list ≡ true
          → has_room_for ask (session_at session node) ≡ true
      by_list [] is fits =
          let none : length (queue_in session node.sessions) ≤ 0 = short [] is in
          both_true (is_none (command_in session node.sessions)) (nat_le (length (queue_in session node.sessions)) (queued_at_most ask))
          (no_command [] is refl) (le-leb (length (queue_in session node.sessions)) (queued_at_most ask) (omega (arith, none)))
      by_list (first ∷ later) is fits =
          let (few, disk, all) = three_parts (nat_lt (length (first ∷ later)) REQUESTS_AT_ONCE) (is_disk_request_at script req)
          (list_all (λ (started : StartedRequest). is_disk_request_at script started.req) (first ∷ later)) fits in
          both_true (is_none (command_in session node.sessions)) (nat_le (length (queue_in session node.sessions)) (queued_at_most ask))
          (no_command (first ∷ later) is all)
          (by_ask ask (kind ∙ disk) (short (first ∷ later) is) (ltb-true (length (first ∷ later)) REQUESTS_AT_ONCE few))
        where
          by_ask : (ask : Ask) → is_disk_ask ask ≡ true → length (queue_in session node.sessions) ≤ length (first ∷ later)
              → length (first ∷ later) < REQUESTS_AT_ONCE → nat_le (length (queue_in session node.sessions)) (queued_at_most ask) ≡ true
          by_ask (asks.Disk ask) on most few =
              le-leb (length (queue_in session node.sessions)) (REQUESTS_AT_ONCE - 1) (omega (arith, most, few))
          by_ask (asks.Vdi ask) on most few = absurd (cc (on))
          by_ask (asks.Object work) on most few = absurd (cc (on))
          by_ask (asks.Entry entry) on most few = absurd (cc (on))

-- ---- each world

module _ (script : List Statement) (range : RunsAreInRange script) where
  step_sound : (world : World) → Began script world → (n : ℕ) (host : Host) → tree.get world.hosts n ≡ Some host → is_host_up host ≡ true
      → HasSoundGuests host.node → (cause : NodeCause) → IsCause script world n host cause
      → HasSoundGuests (node_step (input_of_cause cause) host.node).node
  step_sound world began n host there up is cause caused = by_cause cause caused
    where
      ready : IsReady script world n host
      ready = is_ready script world (together script range world began) n host there up

      by_cause : (cause : NodeCause) → IsCause script world n host cause → HasSoundGuests (node_step (input_of_cause cause) host.node).node
      by_cause (GuestAsks session req ask) asked =
          let fits = (and_parts (nat_le (phase_of_request script req) world.phase)
          (fits_beside script req (progress_at session.number world).unanswered) asked.may).1 in
          let kind = (brings_tied script world n host (GuestAsks session req ask) asked req session.number ask refl
          (ap (λ (o : Option Statement). is_some o) asked.stands)).kind in
          may_sound (inputs.Guest req session.number ask) host.node
          (steps_on_may script world n host (GuestAsks session req ask) asked ready (
            room script world.guests host.node is session.number
                (tied_of script range.is_script world began n host there session asked.declared
                (requests_tied script range world began n host there)) req ask kind fits,
            guest_asks host.node script range.is_script req asked.line ask asked.stands asked.asks,
          )) ready.driven is
      by_cause (RequestComes name to request) here = served_sound request host.node is
      by_cause (ReplyComes name from rsp) here =
          may_sound (inputs.Reply rsp) host.node (steps_on_may script world n host (ReplyComes name from rsp) here ready tt) ready.driven is
      by_cause (LossIsTold name packet) here =
          may_sound (inputs.Lost name.number) host.node (steps_on_may script world n host (LossIsTold name packet) here ready tt)
          ready.driven is
      by_cause (EntryIsRead entry) next =
          may_sound (inputs.LogEntry entry) host.node
          (steps_on_may script world n host (EntryIsRead entry) next ready
          (reads-may script range.is_script range.room world began n host entry there next))
          ready.driven is
      by_cause (EntryIsPut entry) first =
          may_sound inputs.Put host.node (steps_on_may script world n host (EntryIsPut entry) first ready tt) ready.driven is
      by_cause RecoveryTicks may =
          may_sound inputs.RecoverTick host.node (steps_on_may script world n host RecoveryTicks may ready tt) ready.driven is
      by_cause WorkIsRetried may =
          may_sound inputs.RetryTick host.node (steps_on_may script world n host WorkIsRetried may ready tt) ready.driven is
      by_cause (ClientAsks req ask) may =
          may_sound (inputs.Guest req 0 ask) host.node
          (steps_on_may script world n host (ClientAsks req ask) may ready
          (meets_read script world (clients_ask script range.is_script world began) n host there up req ask may is.alone)) ready.driven is

  guests_kept : HostsKeep script (Began script) (λ (world : World) (n : ℕ) (host : Host). HasSoundGuests host.node)
  unfolding initial_world
  guests_kept = record {
    opens = λ member.
        let node = nodes.initial_node member.node (tries_of script) in
        may_sound (inputs.LogEntry (format_entry script)) node
        (record {
          numbers = le-leb 0 SENDS_MAX (omega arith);
          condition = first_may (format_entry script) [] (opens_log script range.is_script).log;
        })
        (one_work_at_opening member.node (tries_of script)) (opening_sound member.node (tries_of script));
    stays = λ event world made h began n host so. so;
    steps = λ world n host cause began there up caused so. step_sound world began n host there up so cause caused;
    fails = λ world n host began so. so;
    returns = λ world n host began there so. back_sound (log_after_return script n world) host.node;
    joins = λ world n began control. opening_sound (record { 0 = n }) (tries_of script);
  }

  pub guests_sound : (world : World) → Began script world → (n : ℕ) (host : Host) → tree.get world.hosts n ≡ Some host
      → HasSoundGuests host.node
  guests_sound =
      each_where script (Began script) (λ (world : World) (n : ℕ) (host : Host). HasSoundGuests host.node) (λ world began. began)
      guests_kept
