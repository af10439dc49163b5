-- The step of a node is a chain of changes: on a guest's request, on an entry of the log, and so on every input.
use Rattle.std.proofs.Common.{◌≡◌, ℕ, suc, ◌+◌, ◌≤◌, arith, not, Bool, true, false, cond, Option, Some, None, is_some, length, refl, ap, subst, ◌∙◌, ⊎_elim}
use Rattle.std.specs.Prelude.{IsTrue}
use Rattle.std.specs.Ordering.{nat_cmp}
use Rattle.std.specs.FinMap as tree
use Rattle.std.proofs.lemmas.Bool.{eqb-true, or_cases}
use Rattle.proof_tools.proofs.Lists.{find-contains}
use Rattle.proof_tools.proofs.FiniteMaps.{get-entry, get-insert_same}
use Rattle.object_id.specs.declared.cause.Cause.{Cause}
use Rattle.object_id.specs.declared.entry.Entry.{Entry}
use Rattle.vdi_directory.specs.declared.decision.Decision.{Decision}
use Rattle.peer_proto.specs.declared.guest.DiskAsk.{DiskAsk}
use Rattle.peer_proto.specs.declared.guest.VdiAsk.{VdiAsk}
use Rattle.peer_proto.specs.declared.say.PeerSay.{PeerSay}
use Rattle.peer_proto.specs.declared.say.PeerSay.TheVariants as says
use Rattle.peer_proto.specs.declared.say.PeerRsp.{PeerRsp}
use Rattle.gf256.specs.Part.{part_size}
use Rattle.object_id.specs.Oid.{kind_of}
use Rattle.peer_proto.specs.declared.work.ObjWork.{ObjWork}
use Rattle.peer_proto.specs.declared.work.ObjWork.TheVariants.{Create, Write, Read, ReadAll}
use Rattle.peer_service.specs.State.{effects_of}
use Rattle.peer_service.specs.LogReading.{decision_on}
use Rattle.gateway.specs.declared.message.Status.TheVariants.{Lost}
use Rattle.gateway.specs.Messages.{IsPieceFor}
use Rattle.gateway.specs.Attempt.{is_unanswered, status_by}
use Rattle.gateway.specs.State as gateways
use Rattle.gateway.specs.State.{Work, asker, fits_work, fits_asker}
use Rattle.gateway.specs.Step as gateway_steps
use Rattle.guest_driver.specs.declared.disk.Disk.{Disk}
use Rattle.vdi_ops.specs.Op as ops
use Rattle.vdi_ops.specs.Op.{Op}
use Rattle.vdi_ops.specs.Steps.{begin_command, on_decision}
use Rattle.recovery.specs.State as recoveries
use Rattle.recovery.specs.Fits as recovery_fits
use Rattle.recovery.specs.Steps as recovery_steps
use Rattle.sheep_node.specs.declared.ask.Ask.{Ask}
use Rattle.sheep_node.specs.declared.ask.Ask.TheVariants as asks
use Rattle.sheep_node.specs.declared.input.Input.{Input}
use Rattle.sheep_node.specs.declared.input.Input.TheVariants as inputs
use Rattle.sheep_node.specs.declared.course.Course.{Course}
use Rattle.sheep_node.specs.declared.course.Request.{Request}
use Rattle.sheep_node.specs.declared.course.Course.TheVariants.{Waiting, Driving, Commanding, Checking, DoingWork, AwaitingDecision}
use Rattle.sheep_node.specs.State.{Node}
use Rattle.sheep_node.specs.RecoveryView.{recovery_state_of}
use Rattle.sheep_node.specs.StepState.{StepState, at_first, with_node, session_in, with_course, with_sole_request}
use Rattle.sheep_node.specs.Courses.{inode_open, command_stepped, course_decided, check_stepped, decision_reply}
use Rattle.sheep_node.specs.Waiting.{course_begun, after_gateway_step}
use Rattle.sheep_node.specs.Guests.{request_refusal, with_queued_request, request_taken, request_taken_unless, on_guest, command_taken}
use Rattle.sheep_node.specs.AwaitedEntry.{waits_for_entry}
use Rattle.sheep_node.specs.LogReading.{entry_read, asker_of, decision_told, on_log_entry}
use Rattle.sheep_node.specs.Step as steps
use Rattle.sheep_node.specs.Step.{recovery_stepped, on_input, is_due, with_recovered, recovered_put, node_step}
use Rattle.sheep_node.specs.May.{fits_node}
use Rattle.sheep_node.specs.Changes as changes
use Rattle.sheep_node.specs.Changes.{input_received, IsSoundStep, HasRequest, Arrival, CommandBegins, CommandDecided, Change, Leads, Still, Then, CheckBegins, ObjectBegins, EntryBegins, EntryDecided}
use Rattle.sheep_node.proofs.ReachedSteps.{changes_in, QueuesStayShort, IsReached, at_most, one_more, reached_by, asked_walk, command_stepped_walk, check_stepped_walk, course_begun_walk, let_begin_walk}
use Rattle.sheep_node.proofs.EndedWorks.{answered_walk, retry_walk}
use Rattle.sheep_node.proofs.OneWorkChanges.{StepHasOneWork, received_one_work}
use Rattle.disk_check.specs.Check.{begin_check}
use Rattle.disk_check.specs.Check as checks
use Rattle.inode.specs.Layout.{Content}
use Rattle.peer_proto.specs.declared.guest.VdiAsk.TheVariants.{Create, Attach, Close, Snapshot, Clone, Delete}
use Rattle.peer_proto.specs.declared.guest.VdiAsk.TheVariants as disk_commands
use Rattle.std.specs.Option.{option_map, option_map_or}

module _ {input : Input} {node : Node} {first : StepState} {n : ℕ} where
  module _ (so_far : StepState) (walk : IsReached input node first n so_far) where
    -- ---- a guest's request

    module _ (session req : ℕ) (ask : Ask) (start : so_far ≡ at_first node) (from : input ≡ inputs.Guest req session ask)
        (none : IsSoundStep input node → tree.get so_far.node.requests req ≡ None) where
      arrival : (refusal : Option Cause) → request_refusal so_far.node.peer (session_in session so_far).disk ask ≡ refusal
          → Arrival input node so_far session req ask refusal
      arrival refusal is = record { first = start; from = from; none = none; refused = is }

    arrives_walk : (session req : ℕ) (ask : DiskAsk) → Arrival input node so_far session req (asks.Disk ask) None → (disk : Option Disk)
        → (session_in session so_far).disk ≡ disk
        → IsReached input node first (suc (suc n)) (course_begun session req (Waiting ask) (with_queued_request session req ask disk (with_course session req (Waiting ask) so_far)))
    arrives_walk session req ask arrival None on =
        let allowed : request_refusal so_far.node.peer None (asks.Disk ask) ≡ None
        = subst (λ (disk : Option Disk). request_refusal so_far.node.peer disk (asks.Disk ask) ≡ None) on arrival.refused in
        absurd (cc (allowed))
    arrives_walk session req ask arrival (Some disk) on =
        course_begun_walk (with_queued_request session req ask (Some disk) (with_course session req (Waiting ask) so_far)) session req (Waiting ask)
        (get-insert_same so_far.node.requests req (record { session = session; course = Waiting ask }))
        (reached_by walk (changes.Arrives session req ask disk arrival on))

    command_begun_walk : (session req : ℕ) (ask : VdiAsk) → Arrival input node so_far session req (asks.Vdi ask) None
        → (step : Option ops.OpStep) → begin_command so_far.node.me session ask (inode_open (session_in session so_far).disk) ≡ step
        → IsReached input node first (suc n) (option_map_or (λ (step : ops.OpStep). command_stepped session req step so_far) step so_far)
    command_begun_walk session req ask arrival None is = one_more walk
    command_begun_walk session req ask arrival (Some step) is =
        command_stepped_walk so_far session req step so_far (CommandBegins ask step arrival is) walk

    check_begun_walk : (session req : ℕ) → Arrival input node so_far session req (asks.Vdi disk_commands.Check) None
        → (inode : Option Content) → inode_open (session_in session so_far).disk ≡ inode
        → IsReached input node first (suc n) (option_map_or (λ (step : checks.CheckStep). check_stepped session req step so_far) (option_map begin_check inode) so_far)
    check_begun_walk session req arrival None is = one_more walk
    check_begun_walk session req arrival (Some inode) is =
        check_stepped_walk so_far session req (begin_check inode) so_far (CheckBegins inode arrival is) walk

    command_taken_walk : (session req : ℕ) (ask : VdiAsk) → Arrival input node so_far session req (asks.Vdi ask) None
        → IsReached input node first (suc n) (command_taken session req ask so_far)
    command_taken_walk session req disk_commands.Check arrival =
        check_begun_walk session req arrival (inode_open (session_in session so_far).disk) refl
    command_taken_walk session req (Create name spec) arrival = command_begun_walk session req (Create name spec) arrival
        (begin_command so_far.node.me session (Create name spec) (inode_open (session_in session so_far).disk)) refl
    command_taken_walk session req (Attach name tag) arrival = command_begun_walk session req (Attach name tag) arrival
        (begin_command so_far.node.me session (Attach name tag) (inode_open (session_in session so_far).disk)) refl
    command_taken_walk session req Close arrival = command_begun_walk session req Close arrival
        (begin_command so_far.node.me session Close (inode_open (session_in session so_far).disk)) refl
    command_taken_walk session req (Snapshot tag) arrival = command_begun_walk session req (Snapshot tag) arrival
        (begin_command so_far.node.me session (Snapshot tag) (inode_open (session_in session so_far).disk)) refl
    command_taken_walk session req (Clone base tag name) arrival = command_begun_walk session req (Clone base tag name) arrival
        (begin_command so_far.node.me session (Clone base tag name) (inode_open (session_in session so_far).disk)) refl
    command_taken_walk session req (Delete name tag) arrival = command_begun_walk session req (Delete name tag) arrival
        (begin_command so_far.node.me session (Delete name tag) (inode_open (session_in session so_far).disk)) refl

    taken_walk : (session req : ℕ) (ask : Ask) → Arrival input node so_far session req ask None
        → IsReached input node first (suc (suc n)) (request_taken session req ask so_far)
    taken_walk session req (asks.Disk ask) arrival = arrives_walk session req ask arrival (session_in session so_far).disk refl
    taken_walk session req (asks.Vdi ask) arrival = one_more (command_taken_walk session req ask arrival)
    taken_walk session req (asks.Object work) arrival = one_more
        (asked_walk so_far session req work (with_sole_request session req (DoingWork work) so_far) (ObjectBegins work arrival) walk)
    taken_walk session req (asks.Entry entry) arrival = one_more
        (reached_by walk (changes.Appends session req entry (with_sole_request session req (AwaitingDecision entry) so_far) (EntryBegins entry arrival)))

    pub guest_walk : (session req : ℕ) (ask : Ask) → so_far ≡ at_first node → input ≡ inputs.Guest req session ask
        → (IsSoundStep input node → tree.get so_far.node.requests req ≡ None) → IsReached input node first (suc (suc n)) (on_guest req session ask so_far)
    unfolding on_guest
    guest_walk session req ask start from none = by_cause (request_refusal so_far.node.peer (session_in session so_far).disk ask) refl
      where
        by_cause : (cause : Option Cause) → request_refusal so_far.node.peer (session_in session so_far).disk ask ≡ cause
            → IsReached input node first (suc (suc n)) (request_taken_unless cause session req ask so_far)
        by_cause None allowed = taken_walk session req ask (arrival session req ask start from none None allowed)
        by_cause (Some cause) refuses =
            one_more (reached_by walk (changes.Rejects session req ask cause (arrival session req ask start from none (Some cause) refuses)))

  -- ---- an entry of the log

  module _ (entry : Entry) (from : input ≡ inputs.LogEntry entry) (so_far : StepState) (read : so_far.node.peer ≡ (entry_read entry node).peer)
      (same : so_far.node.requests ≡ node.requests) (walk : IsReached input node first n so_far) where
    abbrev pub decision : Decision
    decision = decision_on entry node.peer

    decided_walk : (req session : ℕ) (op : Op) → HasRequest session req (Commanding op) so_far
        → waits_for_entry entry (Commanding op) ≡ true → (step : Option ops.OpStep)
        → on_decision (effects_of so_far.node.peer) (inode_open (session_in session so_far).disk) decision op ≡ step → IsReached input node first (suc n) (option_map_or (λ (step : ops.OpStep). command_stepped session req step so_far) step so_far)
    decided_walk req session op there waits None none = one_more walk
    decided_walk req session op there waits (Some step) next =
        command_stepped_walk so_far session req step so_far (CommandDecided entry op step from read there waits next) walk

    pub course_walk : (req session : ℕ) (course : Course) → HasRequest session req course so_far → waits_for_entry entry course ≡ true
        → IsReached input node first (suc n) (course_decided session req decision course so_far)
    unfolding course_decided
    course_walk req session (Waiting ask) there waits = one_more walk
    course_walk req session (Driving driver) there waits = one_more walk
    course_walk req session (Commanding op) there waits =
        decided_walk req session op there waits (on_decision (effects_of so_far.node.peer) (inode_open (session_in session so_far).disk) decision op) refl
    course_walk req session (Checking check) there waits = one_more walk
    course_walk req session (DoingWork work) there waits = one_more walk
    course_walk req session (AwaitingDecision wanted) there waits = reached_by walk
        (changes.Replies session req (decision_reply decision) so_far (EntryDecided entry wanted from read there waits))

    pub told_walk : (found : Option (ℕ × Request)) → asker_of entry node ≡ found
        → IsReached input node first (17 + suc n) (decision_told decision found so_far)
    told_walk None is = at_most (omega arith) walk
    told_walk (Some found) is =
        let test = λ (found : ℕ × Request). waits_for_entry entry found.1.course in
        let there : tree.get so_far.node.requests found.0 ≡ Some found.1
        = ap (λ (requests : tree.FinMap nat_cmp Request). tree.get requests found.0) same
        ∙ get-entry node.requests found (find-contains test (tree.entries node.requests) found is).0 in
        let_begin_walk found.1.session (course_decided found.1.session found.0 decision found.1.course so_far)
        (course_walk found.0 found.1.session found.1.course there (find-contains test (tree.entries node.requests) found is).1)

-- ---- every input

-- what a reply that fits says of its message is settled
settled_by : (work : ObjWork) (say : PeerSay) → fits_work work say ≡ true → is_unanswered (status_by say) ≡ false
settled_by work says.Success fit = refl
settled_by work (says.Piece bytes) fit = refl
settled_by work (says.Objects oids) fit = absurd (cc (fit))
settled_by work (says.Row row) fit = absurd (cc (fit))
settled_by work says.NoRow fit = absurd (cc (fit))
settled_by work (says.Refused request_refusal) fit = refl

pub fits_settled : (node : Node) (rsp : PeerRsp) → recoveries.recovery_awaits rsp.number node.recovery ≡ false → fits_node rsp node ≡ true
    → is_unanswered (status_by rsp.say) ≡ false
fits_settled node rsp apart fit = ⊎_elim
    (λ (works : gateways.fits_gateway rsp node.gateway ≡ true). by_asker (asker rsp.number node.gateway) works)
    (λ (recovers : recovery_fits.fits_recovery rsp (recovery_state_of node) ≡ true).
    by_message (recoveries.message_of rsp.number (recoveries.all_unanswered node.recovery)) apart recovers)
    (or_cases (gateways.fits_gateway rsp node.gateway) (recovery_fits.fits_recovery rsp (recovery_state_of node)) fit)
  where
    by_asker : (o : Option (ℕ × Work)) → fits_asker o rsp.say ≡ true → is_unanswered (status_by rsp.say) ≡ false
    by_asker None fit = absurd (cc (fit))
    by_asker (Some found) fit = settled_by found.1.work rsp.say fit

    by_message : (o : Option recoveries.Message) → is_some o ≡ false → recovery_fits.fits_message (recovery_state_of node).shown o rsp.say ≡ true
        → is_unanswered (status_by rsp.say) ≡ false
    by_message None none fit = absurd (cc (fit))
    by_message (Some message) none fit = absurd (cc (none))

-- and of a read's message it gives a piece as long as what was asked for
piece_by : (work : ObjWork) (say : PeerSay) → fits_work work say ≡ true → IsPieceFor work (status_by say)
piece_by (Create oid policy size offset bytes) say fit = tt
piece_by (Write oid policy offset bytes) say fit = tt
piece_by (Read oid policy offset size) says.Success fit = absurd (cc (fit))
piece_by (Read oid policy offset size) (says.Piece bytes) fit = eqb-true (length bytes) (part_size policy (kind_of oid) size) fit
piece_by (Read oid policy offset size) (says.Objects oids) fit = tt
piece_by (Read oid policy offset size) (says.Row row) fit = tt
piece_by (Read oid policy offset size) says.NoRow fit = tt
piece_by (Read oid policy offset size) (says.Refused refusal) fit = tt
piece_by (ReadAll oid policy size) says.Success fit = absurd (cc (fit))
piece_by (ReadAll oid policy size) (says.Piece bytes) fit = eqb-true (length bytes) (part_size policy (kind_of oid) size) fit
piece_by (ReadAll oid policy size) (says.Objects oids) fit = tt
piece_by (ReadAll oid policy size) (says.Row row) fit = tt
piece_by (ReadAll oid policy size) says.NoRow fit = tt
piece_by (ReadAll oid policy size) (says.Refused refusal) fit = tt

pub fits_piece : (node : Node) (rsp : PeerRsp) → recoveries.recovery_awaits rsp.number node.recovery ≡ false → fits_node rsp node ≡ true
    → (found : ℕ × Work) → asker rsp.number node.gateway ≡ Some found → IsPieceFor found.1.work (status_by rsp.say)
fits_piece node rsp apart fit found is = ⊎_elim
    (λ (works : gateways.fits_gateway rsp node.gateway ≡ true).
    piece_by found.1.work rsp.say (subst (λ (o : Option (ℕ × Work)). fits_asker o rsp.say ≡ true) is works))
    (λ (recovers : recovery_fits.fits_recovery rsp (recovery_state_of node) ≡ true).
    by_message (recoveries.message_of rsp.number (recoveries.all_unanswered node.recovery)) apart recovers)
    (or_cases (gateways.fits_gateway rsp node.gateway) (recovery_fits.fits_recovery rsp (recovery_state_of node)) fit)
  where
    by_message : (o : Option recoveries.Message) → is_some o ≡ false → recovery_fits.fits_message (recovery_state_of node).shown o rsp.say ≡ true
        → IsPieceFor found.1.work (status_by rsp.say)
    by_message None none fit = absurd (cc (fit))
    by_message (Some message) none fit = absurd (cc (none))

-- a lost message gives none
pub lost_piece : (work : ObjWork) → IsPieceFor work Lost
lost_piece (Create oid policy size offset bytes) = tt
lost_piece (Write oid policy offset bytes) = tt
lost_piece (Read oid policy offset size) = tt
lost_piece (ReadAll oid policy size) = tt

-- a number that isn't taken has nothing
pub untaken : (node : Node) (req : ℕ) → IsTrue (not (tree.contains_key node.requests req)) → tree.get node.requests req ≡ None
untaken node req free = by_got (tree.get node.requests req) refl free
  where
    by_got : (o : Option Request) → tree.get node.requests req ≡ o → IsTrue (not (is_some o)) → tree.get node.requests req ≡ None
    by_got None is free = is
    by_got (Some request) is free = absurd (cc (free))

-- a chain begins where a node is as it was, but for what no work sees
still : {input : Input} {node : Node} (first : StepState) → (StepHasOneWork (at_first node) → StepHasOneWork first)
    → IsReached input node first 0 first
still first keeps = record { leads = Still; good = λ sound. keeps sound.1.driven; count = λ short. omega arith }

pub begins : (input : Input) (node : Node) → IsReached input node (input_received input (at_first node)) 0 (input_received input (at_first node))
begins input node = still (input_received input (at_first node)) (received_one_work input node)

-- which goes no further
ends : (input : Input) (node : Node) → IsReached input node (input_received input (at_first node)) 18 (input_received input (at_first node))
ends input node = at_most (omega arith) (begins input node)

pub input_chain : (input : Input) (node : Node) → IsReached input node (input_received input (at_first node)) 18 (on_input input (at_first node))
unfolding entry_read on_input steps.on_reply steps.on_loss steps.on_retry_tick after_gateway_step on_log_entry recovery_steps.recovery_on_reply recovery_steps.recovery_on_loss
input_chain (inputs.Guest req session ask) node = at_most (omega arith)
    (guest_walk (at_first node) (begins (inputs.Guest req session ask) node) session req ask refl refl (λ sound. untaken node req sound.0))
input_chain (inputs.Request request) node = ends (inputs.Request request) node
input_chain (inputs.Reply rsp) node = by_waits (gateways.gateway_awaits rsp.number node.gateway) refl
  where
    by_waits : (b : Bool) → gateways.gateway_awaits rsp.number node.gateway ≡ b
        → IsReached (inputs.Reply rsp) node (cond b (at_first node) (recovery_stepped (recovery_steps.message_end rsp.number (Some rsp.say) (recovery_state_of node)) (at_first node)))
        18 (cond b (after_gateway_step (gateway_steps.gateway_on_reply node.gateway rsp) (at_first node))
        (recovery_stepped (recovery_steps.message_end rsp.number (Some rsp.say) (recovery_state_of node)) (at_first node)))
    by_waits true waits =
        (answered_walk (at_first node) (still (at_first node) (λ good. good)) rsp.number (status_by rsp.say)
        (λ sound. fits_settled node rsp (sound.1.recovers rsp.number waits) sound.0)
        (λ sound. fits_piece node rsp (sound.1.recovers rsp.number waits) sound.0) (refl, refl)).0
    by_waits false none = at_most (omega arith)
        (still (recovery_stepped (recovery_steps.message_end rsp.number (Some rsp.say) (recovery_state_of node)) (at_first node)) (λ good. good))
input_chain (inputs.Lost number) node = by_waits (gateways.gateway_awaits number node.gateway) refl
  where
    by_waits : (b : Bool) → gateways.gateway_awaits number node.gateway ≡ b
        → IsReached (inputs.Lost number) node (cond b (at_first node) (recovery_stepped (recovery_steps.message_end number None (recovery_state_of node)) (at_first node)))
        18 (cond b (after_gateway_step (gateway_steps.gateway_on_loss node.gateway number) (at_first node))
        (recovery_stepped (recovery_steps.message_end number None (recovery_state_of node)) (at_first node)))
    by_waits true waits =
        (answered_walk (at_first node) (still (at_first node) (λ good. good)) number Lost (λ sound. refl)
        (λ sound found is. lost_piece found.1.work) (refl, refl)).0
    by_waits false none = at_most (omega arith)
        (still (recovery_stepped (recovery_steps.message_end number None (recovery_state_of node)) (at_first node)) (λ good. good))
input_chain (inputs.LogEntry entry) node =
    told_walk entry refl (with_node (entry_read entry node) (at_first node)) refl refl (begins (inputs.LogEntry entry) node) (asker_of entry node) refl
input_chain inputs.Put node = ends inputs.Put node
input_chain inputs.RecoverTick node = ends inputs.RecoverTick node
input_chain inputs.RetryTick node = (retry_walk (at_first node) (begins inputs.RetryTick node) refl).0
input_chain (inputs.Back entries) node = ends (inputs.Back entries) node

-- and so is the step whole
reached_step : (input : Input) (node : Node) → IsReached input node (input_received input (at_first node)) 19 (node_step input node)
unfolding node_step recovered_put
reached_step input node = by_due (is_due (on_input input (at_first node)).node) refl
  where
    by_due : (b : Bool) → is_due (on_input input (at_first node)).node ≡ b
        → IsReached input node (input_received input (at_first node)) 19 (cond b (with_recovered (on_input input (at_first node))) (on_input input (at_first node)))
    by_due true due = reached_by (input_chain input node) (changes.Recovers due)
    by_due false none = one_more (input_chain input node)

pub step_chain : (input : Input) (node : Node) → Leads input node (input_received input (at_first node)) (node_step input node)
step_chain input node = (reached_step input node).leads

-- of 19 changes at most: one of a request, what waited in its session, of 16 requests at most, one of the session's works, and `Recovered`
pub changes_in-step_chain : (input : Input) (node : Node) → QueuesStayShort input node (input_received input (at_first node))
    → changes_in (step_chain input node) ≤ 19
unfolding step_chain
changes_in-step_chain input node short = (reached_step input node).count short

-- what every change keeps a chain keeps
pub kept_by_chain : {input : Input} {node : Node} (P : StepState → Type 0)
    → ((so_far next : StepState) → Change input node so_far next → P so_far → P next) → {first so_far : StepState}
    → Leads input node first so_far → P first → P so_far
kept_by_chain P keeps Still start = start
kept_by_chain P keeps (Then {so_far} {next} leads change) start = keeps so_far next change (kept_by_chain P keeps leads start)
