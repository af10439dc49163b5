-- In each world of a run in range, and at each moment on the way of its events, the entries of a node's commands that are on their way are
-- awaited, once each; and each command is its session's.
use Rattle.std.proofs.Common.{is_some, ◌≡◌, ◌≢◌, ⊎_elim, arith, ℕ, ◌+◌, Bool, true, false, not, List, [], ◌∷◌, ◌++◌, All, drop, length}
use Rattle.std.proofs.Common.{Option, Some, None, is_none, refl, sym, ap, subst, ◌∙◌, append_assoc}
use Rattle.std.specs.Prelude.{nat_le}
use Rattle.std.specs.List.{slice_get}
use Rattle.std.specs.FinMap as tree
use Rattle.std.proofs.lemmas.Bool.{and_parts, cases_eq, not-true}
use Rattle.std.proofs.lemmas.List.Elements.{All-head}
use Rattle.std.proofs.Math.Seq.{drop-append_seam}
use Rattle.proof_tools.proofs.FiniteMaps.{get-insert_same, get-insert_other, get-insert_cases}
use Rattle.object_id.specs.declared.node.NodeId.{NodeId}
use Rattle.object_id.specs.declared.entry.Entry.{Entry}
use Rattle.object_id.specs.Same.{is_same_entry}
use Rattle.cluster_script.specs.declared.statement.Statement.{Statement}
use Rattle.cluster_script.specs.declared.statement.Statement.TheVariants as lines
use Rattle.cluster_script.specs.Phases.{phase_of_request}
use Rattle.cluster_script.specs.Settings.{tries_of}
use Rattle.sheep_node.specs.declared.ask.Ask.{Ask}
use Rattle.sheep_node.specs.declared.ask.Ask.TheVariants as asks
use Rattle.sheep_node.specs.declared.input.Input.{Input}
use Rattle.sheep_node.specs.declared.input.Input.TheVariants as inputs
use Rattle.sheep_node.specs.declared.course.Course.{Course}
use Rattle.sheep_node.specs.declared.course.Request.{Request}
use Rattle.sheep_node.specs.declared.course.Course.TheVariants.{Waiting, Driving, Commanding, Checking, DoingWork, AwaitingDecision}
use Rattle.sheep_node.specs.May.{is_disk_course, queued_at_most, has_numbers}
use Rattle.sheep_node.specs.OwnEntries.{IsEntryOf, HasOnlyOwnEntries, AsksForOwn}
use Rattle.sheep_node.specs.SessionQueues.{queue_in, command_in}
use Rattle.sheep_node.specs.State as nodes
use Rattle.sheep_node.specs.State.{Node}
use Rattle.sheep_node.specs.StepFacts.{read_after}
use Rattle.sheep_node.specs.StepState.{StepState, at_first}
use Rattle.sheep_node.specs.Step.{node_step}
use Rattle.sheep_node.specs.Changes.{input_received, Leads}
use Rattle.sheep_node.proofs.OwnEntryChanges.{own_entries_stay, own_entries_at_opening}
use Rattle.sheep_node.proofs.StepChain.{step_chain}
use Rattle.sheep_node.proofs.StepEffects.{Untouched}
use Rattle.sheep_node.proofs.StepResults.{step_reads}
use Rattle.sheep_world.specs.World.{Host, World, is_host_up, progress_at}
use Rattle.sheep_world.specs.Asking.{ask_of_statement}
use Rattle.sheep_world.specs.Began.{Began}
use Rattle.sheep_world.specs.Conditions.{fits_beside}
use Rattle.sheep_world.specs.HostChanges.{NodesKeep}
use Rattle.sheep_world.specs.LogFronts.{IsFront}
use Rattle.sheep_world.specs.NodeCauses.{NodeCause, GuestAsks, RequestComes, ReplyComes, LossIsTold, EntryIsRead, EntryIsPut, RecoveryTicks}
use Rattle.sheep_world.specs.NodeCauses.{WorkIsRetried, ClientAsks, input_of_cause, IsCause, host_with_node, log_after_cause}
use Rattle.sheep_world.specs.Opening.{format_entry}
use Rattle.sheep_world.proofs.BegunWorlds.{each_began}
use Rattle.sheep_world.proofs.HostChangeLaws.{hosts_of_nodes}
use Rattle.sheep_world.proofs.LogFrontLaws.{all_read, next_after}
use Rattle.sheep_world.proofs.NodesByTheLog.{knows_its_number}
use Rattle.sheep_world.proofs.StepsByCause.{sound_step}
use Rattle.sheep_world.proofs.WireAtEvents.{is_ready}
use Rattle.overlap_law.specs.AwaitedEntries.{IsCommandEntry}
use Rattle.overlap_law.specs.MomentChanges.{RunsAreInRange}
use Rattle.overlap_law.specs.Reached.{Hosts}
use Rattle.overlap_law.proofs.AwaitedCommands.{is_command}
use Rattle.overlap_law.proofs.AwaitedChanges.{AreAwaited}
use Rattle.overlap_law.proofs.AwaitedInputs.{AreAwaitedAt, UnreadGoes, IsThen, received_awaited, rests, one_more_unread}
use Rattle.overlap_law.proofs.AwaitedSteps.{entry_of_input, MeetsCommands, chain_awaited}
use Rattle.overlap_law.proofs.CountedEntries.{times, once_if, times-push, none_of_them, of_one_node}
use Rattle.overlap_law.proofs.KnownSteps.{together}
use Rattle.overlap_law.proofs.RoomOfSessions.{room, guests_sound, tied_of}
use Rattle.overlap_law.proofs.SendsOfChanges.{in_order_so_far}
use Rattle.overlap_law.proofs.UnansweredRequests.{brings_tied, requests_tied}
use Rattle.sheep_world.specs.ClientAsks.{is_read_ask}
use Rattle.sheep_world.proofs.AsksOfClients.{clients_ask}
use Rattle.sheep_world.proofs.AsksTaken.{none_of_clients}

-- what of a log a node hasn't read
abbrev pub unread_of : List Entry → Node → List Entry
unread_of log node = drop (length node.peer.entries) log

-- each node that isn't lost is so; and no node has an entry in the log that was never there
pub record AreAwaitedAmong (log : List Entry) (hosts : Hosts) : Type 0 where
  pub each : (n : ℕ) (host : Host) → tree.get hosts n ≡ Some host → host.is_lost ≡ false → AreAwaitedAt (unread_of log host.node) host.node
  pub absent : (n : ℕ) (entry : Entry) → tree.get hosts n ≡ None → IsCommandEntry (record { 0 = n }) entry → times entry log ≡ 0

-- ---- what a node hasn't read

unread_is : (read rest log : List Entry) → log ≡ read ++ rest → drop (length read) log ≡ rest
unread_is read rest log is = ap (drop (length read)) is ∙ drop-append_seam read rest

-- an entry more
pub unread_more : (log : List Entry) (node : Node) (entry : Entry) → IsFront node.peer.entries log
    → unread_of (log ++ entry ∷ []) node ≡ unread_of log node ++ entry ∷ []
unread_more log node entry front =
    unread_is node.peer.entries (front.rest ++ entry ∷ []) (log ++ entry ∷ [])
    (ap (λ (all : List Entry). all ++ entry ∷ []) front.is ∙ append_assoc node.peer.entries front.rest (entry ∷ []))
    ∙ ap (λ (rest : List Entry). rest ++ entry ∷ []) (sym (unread_is node.peer.entries front.rest log front.is))

pub unread_goes : (script : List Statement) (world : World) (n : ℕ) (host : Host) (cause : NodeCause) → IsCause script world n host cause
    → IsFront host.node.peer.entries world.log
    → UnreadGoes (input_of_cause cause) host.node (unread_of world.log host.node)
    (drop (length (read_after (input_of_cause cause) host.node.peer.entries)) (log_after_cause cause world.log))
unread_goes script world n host (GuestAsks session req ask) so front = refl
unread_goes script world n host (RequestComes name to request) so front = refl
unread_goes script world n host (ReplyComes name from rsp) so front = refl
unread_goes script world n host (LossIsTold name packet) so front = refl
unread_goes script world n host (EntryIsRead entry) so front =
    let read = host.node.peer.entries in
    let (later, is) = next_after read front.rest entry (ap (λ (log : List Entry). slice_get log (length read)) (sym front.is) ∙ so) in
    let all : world.log ≡ read ++ entry ∷ later = front.is ∙ ap (λ (rest : List Entry). read ++ rest) is in
    unread_is read (entry ∷ later) world.log all
    ∙ ap (λ (rest : List Entry). entry ∷ rest)
    (sym (unread_is (read ++ entry ∷ []) later world.log (all ∙ sym (append_assoc read (entry ∷ []) later))))
unread_goes script world n host (EntryIsPut entry) so front = (entry, so.0, so.1, unread_more world.log host.node entry front)
unread_goes script world n host RecoveryTicks so front = refl
unread_goes script world n host WorkIsRetried so front = refl
unread_goes script world n host (ClientAsks req ask) so front = refl

-- ---- what a step meets

asks_no_entry : (line : Statement) (entry : Entry) → ask_of_statement line ≡ Some (asks.Entry entry) → ⊥
asks_no_entry (lines.Create session policy shift name size) entry is = absurd (cc (is))
asks_no_entry (lines.OpenDisk session name tag) entry is = absurd (cc (is))
asks_no_entry (lines.Close session) entry is = absurd (cc (is))
asks_no_entry (lines.Read session offset size) entry is = absurd (cc (is))
asks_no_entry (lines.Write session offset size pattern) entry is = absurd (cc (is))
asks_no_entry (lines.Snapshot session tag) entry is = absurd (cc (is))
asks_no_entry (lines.Clone session base tag name) entry is = absurd (cc (is))
asks_no_entry (lines.Delete session name tag) entry is = absurd (cc (is))
asks_no_entry (lines.Check session) entry is = absurd (cc (is))
asks_no_entry _ entry is = absurd (cc (is))

no_guest : (script : List Statement) (world : World) (n : ℕ) (host : Host) (cause : NodeCause) → IsCause script world n host cause
    → (req session : ℕ) (entry : Entry) → input_of_cause cause ≡ inputs.Guest req session (asks.Entry entry) → ⊥
no_guest script world n host (GuestAsks of own ask) so req session entry from =
    let same : ask ≡ asks.Entry entry = cc (from) in
    asks_no_entry so.line entry (so.asks ∙ ap (λ (a : Ask). Some a) same)
no_guest script world n host (RequestComes name to request) so req session entry from = absurd (cc (from))
no_guest script world n host (ReplyComes name of rsp) so req session entry from = absurd (cc (from))
no_guest script world n host (LossIsTold name packet) so req session entry from = absurd (cc (from))
no_guest script world n host (EntryIsRead of) so req session entry from = absurd (cc (from))
no_guest script world n host (EntryIsPut of) so req session entry from = absurd (cc (from))
no_guest script world n host RecoveryTicks so req session entry from = absurd (cc (from))
no_guest script world n host WorkIsRetried so req session entry from = absurd (cc (from))
no_guest script world n host (ClientAsks begins what) so req session entry from =
    let same : what ≡ asks.Entry entry = cc (from) in
    let reads : false ≡ true = ap is_read_ask (sym same) ∙ so.reads in
    cc (reads)

-- of an input that is no guest's
pub meets_otherwise : (input : Input) (node : Node) → ((req session : ℕ) (ask : Ask) → input ≡ inputs.Guest req session ask → ⊥)
    → MeetsCommands (read_after input node.peer.entries) input node
meets_otherwise input node never = record {
  no_entry = λ req session entry from. never req session (asks.Entry entry) from;
  sound = λ req session ask from. absurd (never req session ask from);
  free = λ req session ask from other request got command of. never req session ask from;
  read_so = λ entry from. ap (λ (input : Input). read_after input node.peer.entries) from;
}

-- a node's outbox has its own entries
asks_own : (me : NodeId) (input : Input) → ((req session : ℕ) (entry : Entry) → input ≡ inputs.Guest req session (asks.Entry entry) → ⊥)
    → AsksForOwn me input
asks_own me (inputs.Guest req session (asks.Disk ask)) never = tt
asks_own me (inputs.Guest req session (asks.Vdi ask)) never = tt
asks_own me (inputs.Guest req session (asks.Object work)) never = tt
asks_own me (inputs.Guest req session (asks.Entry entry)) never = absurd (never req session entry refl)
asks_own me (inputs.Request request) never = tt
asks_own me (inputs.Reply rsp) never = tt
asks_own me (inputs.Lost number) never = tt
asks_own me (inputs.LogEntry entry) never = tt
asks_own me inputs.Put never = tt
asks_own me inputs.RecoverTick never = tt
asks_own me inputs.RetryTick never = tt
asks_own me (inputs.Back entries) never = tt

pub own_entries : (script : List Statement) (world : World) → Began script world → (n : ℕ) (host : Host)
    → tree.get world.hosts n ≡ Some host
    → HasOnlyOwnEntries host.node
own_entries script = each_began script (λ (world : World) (n : ℕ) (host : Host). HasOnlyOwnEntries host.node)
    (hosts_of_nodes script (λ (n incarnation : ℕ) (node : Node). HasOnlyOwnEntries node) kept)
  where
    kept : NodesKeep script (λ (n incarnation : ℕ) (node : Node). HasOnlyOwnEntries node)
    kept = record {
      opens = λ member. own_entries_stay (inputs.LogEntry (format_entry script)) (nodes.initial_node member.node (tries_of script)) tt
          (own_entries_at_opening member.node (tries_of script));
      steps = λ world n host cause caused own. own_entries_stay (input_of_cause cause) host.node
          (asks_own host.node.me (input_of_cause cause) (no_guest script world n host cause caused)) own;
      returns = λ log n incarnation node own. own_entries_stay (inputs.Back log) node tt own;
      joins = λ n. own_entries_at_opening (record { 0 = n }) (tries_of script);
    }

-- what a node has read in the middle of a step
pub entries_so : (input : Input) (node : Node) (so_far : StepState) → Leads input node (input_received input (at_first node)) so_far
    → so_far.node.peer.entries ≡ read_after input node.peer.entries
entries_so input node so_far leads =
    ap (λ (u : Untouched). u.peer.entries) ((in_order_so_far so_far leads).same
    ∙ sym (in_order_so_far (node_step input node) (step_chain input node)).same)
    ∙ step_reads input node

-- ---- a step, as far as it has come

-- from what holds once its input was received
pub along_chain : (log : List Entry) (input : Input) (node : Node) → MeetsCommands (read_after input node.peer.entries) input node
    → IsThen node input (drop (length (read_after input node.peer.entries)) log) (input_received input (at_first node))
    → (so_far : StepState) → Leads input node (input_received input (at_first node)) so_far
    → AreAwaitedAt (unread_of log so_far.node) so_far.node
along_chain log input node meets first so_far leads =
    let read = read_after input node.peer.entries in
    let after = drop (length read) log in
    subst (λ (entries : List Entry). AreAwaited entries so_far.node.me (drop (length entries) log) None so_far.node.me so_far.node.requests
    so_far.node.outbox) (sym (entries_so input node so_far leads))
    (rests read node.me after (entry_of_input input) so_far.node.me so_far.node.requests so_far.node.outbox
    (chain_awaited read after input node meets leads first))

module _ (script : List Statement) (range : RunsAreInRange script) (world : World) (began : Began script world)
    (n : ℕ) (host : Host) (there : tree.get world.hosts n ≡ Some host) (up : is_host_up host ≡ true) where
  not_disk : (course : Course) → is_command course ≡ true → is_disk_course course ≡ false
  not_disk (Waiting ask) is = absurd (cc (is))
  not_disk (Driving driver) is = absurd (cc (is))
  not_disk (Commanding op) is = refl
  not_disk (Checking check) is = refl
  not_disk (DoingWork work) is = refl
  not_disk (AwaitingDecision entry) is = refl

  -- a session whose next request comes has no command
  asks_free : (cause : NodeCause) → IsCause script world n host cause → (req session : ℕ) (ask : Ask)
      → input_of_cause cause ≡ inputs.Guest req session ask
      → (other : ℕ) (request : Request) → tree.get host.node.requests other ≡ Some request → is_command request.course ≡ true
      → request.session ≢ session
  asks_free (GuestAsks of own asked) so req session ask from other request got command same =
      let sound = guests_sound script range world began n host there in
      let fits = (and_parts (nat_le (phase_of_request script own) world.phase)
      (fits_beside script own (progress_at of.number world).unanswered) so.may).1 in
      let kind = (brings_tied script world n host (GuestAsks of own asked) so own of.number asked refl
      (ap (λ (o : Option Statement). is_some o) so.stands)).kind in
      let roomy = room script world.guests host.node sound of.number
      (tied_of script range.is_script world began n host there of so.declared (requests_tied script range world began n host there)) own
      asked kind fits in
      let none : is_none (command_in of.number host.node.sessions) ≡ true = (and_parts (is_none (command_in of.number host.node.sessions))
      (nat_le (length (queue_in of.number host.node.sessions)) (queued_at_most asked)) roomy).0 in
      let number : of.number ≡ session = cc (from) in
      let has : command_in of.number host.node.sessions ≡ Some other
      = ap (λ (k : ℕ). command_in k host.node.sessions) (number ∙ sym same)
      ∙ sound.alone.named other request got (not_disk request.course command) in
      absurd (cc (sym none ∙ ap (λ (o : Option ℕ). is_none o) has))
  asks_free (RequestComes name to request) so req session ask from other second got command same = absurd (cc (from))
  asks_free (ReplyComes name of rsp) so req session ask from other second got command same = absurd (cc (from))
  asks_free (LossIsTold name packet) so req session ask from other second got command same = absurd (cc (from))
  asks_free (EntryIsRead entry) so req session ask from other second got command same = absurd (cc (from))
  asks_free (EntryIsPut entry) so req session ask from other second got command same = absurd (cc (from))
  asks_free RecoveryTicks so req session ask from other second got command same = absurd (cc (from))
  asks_free WorkIsRetried so req session ask from other second got command same = absurd (cc (from))
  asks_free (ClientAsks begins what) so req session ask from other second got command same =
      let zero : 0 ≡ session = cc (from) in
      none_of_clients script world (clients_ask script range.is_script world began) n host there up begins what so other second got
      (same ∙ sym zero)

  pub meets : (cause : NodeCause) → IsCause script world n host cause
      → MeetsCommands (read_after (input_of_cause cause) host.node.peer.entries) (input_of_cause cause) host.node
  meets cause so = record {
    no_entry = no_guest script world n host cause so;
    sound = λ req session ask from. sound_step script world n host cause so
        (is_ready script world (together script range world began) n host there up);
    free = asks_free cause so;
    read_so = λ entry from. ap (λ (input : Input). read_after input host.node.peer.entries) from;
  }

  module _ (cause : NodeCause) (so : IsCause script world n host cause) (all : AreAwaitedAmong world.log world.hosts) where
    up_not_lost : host.is_lost ≡ false
    up_not_lost = not-true host.is_lost (and_parts (not host.is_lost) (has_numbers host.node) up).0

    -- the node that steps, once its input was received
    pub own_first : IsThen host.node (input_of_cause cause) (drop (length (read_after (input_of_cause cause) host.node.peer.entries))
        (log_after_cause cause world.log))
        (input_received (input_of_cause cause) (at_first host.node))
    own_first =
        received_awaited host.node (unread_of world.log host.node) (input_of_cause cause)
        (drop (length (read_after (input_of_cause cause) host.node.peer.entries)) (log_after_cause cause world.log))
        (unread_goes script world n host cause so (all_read script world began n host there)) (all.each n host there up_not_lost)

    own_step : (so_far : StepState)
        → Leads (input_of_cause cause) host.node (input_received (input_of_cause cause) (at_first host.node)) so_far
        → AreAwaitedAt (unread_of (log_after_cause cause world.log) so_far.node) so_far.node
    own_step so_far leads =
        along_chain (log_after_cause cause world.log) (input_of_cause cause) host.node (meets cause so) own_first so_far leads

  -- what it puts is its own
  puts_own : (entry : Entry) → IsCause script world n host (EntryIsPut entry) → IsEntryOf host.node.me entry
  puts_own entry so =
      All-head (IsEntryOf host.node.me) entry so.0 (subst (All (IsEntryOf host.node.me)) so.1
      (own_entries script world began n host there).entries)

  -- so no other node's
  puts_for_none : (entry : Entry) → IsCause script world n host (EntryIsPut entry) → (q : ℕ) (me : NodeId) → me.0 ≡ q → q ≢ n
      → (other : Entry)
      → IsCommandEntry me other → is_same_entry other entry ≡ false
  puts_for_none entry so q me number apart other is =
      none_of_them me other entry is (λ claims.
      let same : host.node.me ≡ me = of_one_node me host.node.me entry claims (puts_own entry so) in
      apart (sym number ∙ ap (λ (m : NodeId). m.0) (sym same) ∙ knows_its_number script world began n host there))

  -- another node
  other_step : (cause : NodeCause) → IsCause script world n host cause → (q : ℕ) (other : Host) → q ≢ n
      → tree.get world.hosts q ≡ Some other
      → AreAwaitedAt (unread_of world.log other.node) other.node
      → AreAwaitedAt (unread_of (log_after_cause cause world.log) other.node) other.node
  other_step (GuestAsks session req ask) so q other apart at is = is
  other_step (RequestComes name to request) so q other apart at is = is
  other_step (ReplyComes name from rsp) so q other apart at is = is
  other_step (LossIsTold name packet) so q other apart at is = is
  other_step (EntryIsRead entry) so q other apart at is = is
  other_step (EntryIsPut entry) so q other apart at is =
      subst (λ (unread : List Entry). AreAwaitedAt unread other.node)
      (sym (unread_more world.log other.node entry (all_read script world began q other at)))
      (one_more_unread other.node.peer.entries other.node.me (unread_of world.log other.node) other.node.requests other.node.outbox entry
      (λ command claims. puts_for_none entry so q other.node.me (knows_its_number script world began q other at) apart command claims) is)
  other_step RecoveryTicks so q other apart at is = is
  other_step WorkIsRetried so q other apart at is = is
  other_step (ClientAsks req ask) so q other apart at is = is

  -- one that isn't there
  absent_step : (cause : NodeCause) → IsCause script world n host cause → (q : ℕ) → q ≢ n → (entry : Entry)
      → IsCommandEntry (record { 0 = q }) entry
      → times entry world.log ≡ 0 → times entry (log_after_cause cause world.log) ≡ 0
  absent_step (GuestAsks session req ask) so q apart entry is none = none
  absent_step (RequestComes name to request) so q apart entry is none = none
  absent_step (ReplyComes name from rsp) so q apart entry is none = none
  absent_step (LossIsTold name packet) so q apart entry is none = none
  absent_step (EntryIsRead read) so q apart entry is none = none
  absent_step (EntryIsPut put) so q apart entry is none =
      let more : times entry (world.log ++ put ∷ []) ≡ times entry world.log + 0
      = times-push entry world.log put
      ∙ ap (λ (b : Bool). times entry world.log + once_if b) (puts_for_none put so q (record { 0 = q }) refl apart entry is) in
      omega (arith, more, none)
  absent_step RecoveryTicks so q apart entry is none = none
  absent_step WorkIsRetried so q apart entry is none = none
  absent_step (ClientAsks req ask) so q apart entry is none = none

  pub step_awaited : (cause : NodeCause) → IsCause script world n host cause → AreAwaitedAmong world.log world.hosts → (so_far : StepState)
      → Leads (input_of_cause cause) host.node (input_received (input_of_cause cause) (at_first host.node)) so_far
      → AreAwaitedAmong (log_after_cause cause world.log) (tree.insert world.hosts n (host_with_node host so_far.node))
  step_awaited cause so all so_far leads = record {
    each = λ q other at up_too. ⊎_elim
        (λ (own : (q ≡ n) × (host_with_node host so_far.node ≡ other)).
        subst (λ (h : Host). AreAwaitedAt (unread_of (log_after_cause cause world.log) h.node) h.node) own.1
        (own_step cause so all so_far leads)) (λ (apart : (q ≢ n) × (tree.get world.hosts q ≡ Some other)). other_step cause so q other
        apart.0 apart.1 (all.each q other apart.1 up_too)) (get-insert_cases world.hosts n (host_with_node host so_far.node) q other at);
    absent = λ q entry gone is. ⊎_elim
        (λ (own : q ≡ n).
        let here = ap (tree.get (tree.insert world.hosts n (host_with_node host so_far.node))) own
        ∙ get-insert_same world.hosts n (host_with_node host so_far.node) in
        absurd (cc (gone, here)))
        (λ (apart : q ≢ n).
        absent_step cause so q apart entry is
        (all.absent q entry (sym (get-insert_other world.hosts n (host_with_node host so_far.node) q apart) ∙ gone) is))
        (cases_eq q n);
  }
