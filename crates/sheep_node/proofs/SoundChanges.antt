-- Every change leaves sound what a node has at work, in a step that the node may take: a done work gave as many bytes as its request waits for, and what
-- comes of them is a work that a gateway takes and that can be asked for.
use Rattle.std.proofs.Common.{◌≡◌, inl, ℕ, ◌+◌, ◌≤◌, true, false, List, [], length, map, All, Option, Some, None, IfSome, IsTrue, unwrap_or, refl, ap, sym, subst, ◌∙◌, arith, ltb-false}
use Rattle.std.specs.Prelude.{min}
use Rattle.std.specs.FinMap as tree
use Rattle.proof_tools.proofs.FiniteMaps.{get-insert_same}
use Rattle.object_id.specs.Oid.{kind_of}
use Rattle.object_id.specs.Policy.{wanted_of}
use Rattle.object_id.specs.declared.entry.Entry.{Entry}
use Rattle.object_id.specs.declared.node.NodeId.{NodeId}
use Rattle.epoch_log.specs.Appending.{IsReservable}
use Rattle.vnode_table.specs.Targets.{targets_in}
use Rattle.inode.specs.Layout.{Content}
use Rattle.peer_proto.specs.Work.{oid_of, policy_of}
use Rattle.peer_proto.specs.declared.ask.PeerReq.{PeerReq}
use Rattle.peer_proto.specs.declared.guest.DiskAsk.{DiskAsk}
use Rattle.peer_proto.specs.declared.work.ObjWork.{ObjWork}
use Rattle.peer_service.specs.State.{Peer, effects_of}
use Rattle.peer_service.specs.LogReading.{decision_on}
use Rattle.gateway.specs.declared.message.Status.{Status}
use Rattle.gateway.specs.Attempt.{Attempt, messages_with_status, bytes_given, send_of}
use Rattle.gateway.specs.Messages.{AreMessagesFor}
use Rattle.gateway.specs.State.{WorkStage, Work}
use Rattle.gateway.specs.Work.{zones_for, bytes_of_work}
use Rattle.gateway.proofs.AskingLemmas.{AreMessagesFor-messages_of, targets-count, targets-most, zones_wanted, policy_is}
use Rattle.gateway.proofs.LengthLaws.{length-bytes_given}
use Rattle.gateway.proofs.MessageLemmas.{AreMessagesFor-with_status}
use Rattle.guest_driver.specs.declared.disk.Disk.{Disk}
use Rattle.guest_driver.specs.InodeQueue as lines
use Rattle.guest_driver.specs.Pieces.{is_ask}
use Rattle.guest_driver.specs.Driver.{begin_driver}
use Rattle.vdi_ops.specs.Entries.{IsVdiAsk}
use Rattle.vdi_ops.specs.Op.{Stays, Opens, Closes, OpStage, Asked, Working, Publishing, Answered, disk_change_at, OpStep}
use Rattle.disk_check.specs.Check.{begin_check, check_bytes_wanted}
use Rattle.sheep_node.specs.declared.ask.Ask.{Ask}
use Rattle.sheep_node.specs.declared.ask.Ask.TheVariants as asks
use Rattle.sheep_node.specs.declared.input.Input.{Input}
use Rattle.sheep_node.specs.declared.input.Input.TheVariants as inputs
use Rattle.sheep_node.specs.declared.course.Course.{Course}
use Rattle.sheep_node.specs.declared.course.Request.{Request}
use Rattle.sheep_node.specs.declared.session.Session.{Session}
use Rattle.sheep_node.specs.declared.course.Course.TheVariants.{Waiting, Driving, Commanding, Checking, DoingWork, AwaitingDecision}
use Rattle.sheep_node.specs.State.{Node, initial_node, new_session}
use Rattle.sheep_node.specs.StepState.{StepState, at_first, session_in}
use Rattle.sheep_node.specs.Courses.{disk_after, inode_open, after_command_step}
use Rattle.sheep_node.specs.LogReading.{entry_read}
use Rattle.sheep_node.specs.Step.{node_step}
use Rattle.sheep_node.specs.SessionQueues.{session_among}
use Rattle.sheep_node.specs.DrivenDisks.{IsCourseOn, RequestsAreOnDisks}
use Rattle.sheep_node.specs.WantedWorks.{IsWorkWanted, IsWantedAt}
use Rattle.sheep_node.specs.MayBegin.{MayGoOn}
use Rattle.sheep_node.specs.WorkRange.{IsWorkInRange}
use Rattle.sheep_node.specs.Validity.{IsValidSessionBy, AreValidBy}
use Rattle.sheep_node.specs.SoundWorks.{HasMessagesFor, IsSoundWork, IsSoundInode, IsSoundStage, work_validity, HasSoundWorks}
use Rattle.sheep_node.specs.Changes.{IsSoundStep, input_received, EndsWork, without_ended_work, with_open_attempt, has_too_few_zones, zones_of_members, attempt_in, Outcome, ToWork, ToEntry, ToReply, RequestSteps, DiskBegins, DiskGoesOn, CommandBegins, CommandGoesOn, CommandDecided, CheckBegins, CheckGoesOn, ObjectBegins, ObjectIsDone, EntryBegins, EntryDecided, Leads, outcome_of_command}
use Rattle.sheep_node.proofs.MessageCounts.{attempt_few}
use Rattle.sheep_node.proofs.GoingOn.{bytes_for_check, may_go_on}
use Rattle.sheep_node.proofs.OneWorkChanges.{never_alone}
use Rattle.sheep_node.proofs.ReachedSteps.{changes_in}
use Rattle.sheep_node.proofs.ReceivedInputs.{received_keeps}
use Rattle.sheep_node.proofs.SoundCommands.{IsSoundCommandStep, HeadersAreSound, command_begins-sound, command_goes_on-sound, command_decided-sound}
use Rattle.sheep_node.proofs.SoundSteps.{IsSoundOutcome, driver_begins-sound, driver_goes_on-sound, check_begins-sound, check_goes_on-sound}
use Rattle.sheep_node.proofs.ValidityChanges.{AnySent, none_is, IsValidStepBy, IsKeptBy, chain_valid, session_valid, disk_valid, inode_valid, course_valid, sole_put, freed_valid, driven_valid, commanded_valid}
use Rattle.sheep_node.proofs.WantedChanges.{WaitsWell}

abbrev pub IsSoundSoFar : (NodeId × PeerReq → Type 0) → ℕ → StepState → Type 0
IsSoundSoFar Sent = IsValidStepBy work_validity Sent

-- what is known beside it: works are what requests wait for, one each, and reads and writes are on the disks that are open
abbrev pub IsKnown : StepState → Type 0
IsKnown so_far = WaitsWell so_far × RequestsAreOnDisks so_far.node

-- what is asked leads to works that can be asked for
abbrev pub IsSoundAsk : Ask → Type 0
IsSoundAsk (asks.Disk ask) = Unit {0}
IsSoundAsk (asks.Vdi ask) = IsVdiAsk ask
IsSoundAsk (asks.Object work) = IsWorkInRange work
IsSoundAsk (asks.Entry entry) = Unit {0}

abbrev pub IsSoundInput : Input → Type 0
IsSoundInput (inputs.Guest req session ask) = IsSoundAsk ask
IsSoundInput _ = Unit {0}

-- ---- the messages of a work

-- those of an attempt that begins
attempt_messages : (asked : Work) (node : Node) → IsWorkInRange asked.work → has_too_few_zones asked node ≡ false
    → AreMessagesFor asked.work (attempt_in asked node).messages
attempt_messages asked node range short =
    let work : ObjWork = asked.work in
    let epochs = node.epochs in
    let targets : List NodeId = targets_in epochs node.peer.epoch (oid_of work) (policy_of work) in
    let wanted : ℕ = wanted_of (policy_of work) (kind_of (oid_of work)) in
    let count : length targets ≡ min wanted (zones_of_members node) = targets-count epochs node.peer.epoch (oid_of work) (policy_of work) in
    let some : zones_for work ≤ zones_of_members node = ltb-false (zones_of_members node) (zones_for work) short in
    let few : zones_for work ≤ wanted = zones_wanted work range.is_work in
    AreMessagesFor-messages_of work asked.ended node.sends targets
    (targets-most epochs node.peer.epoch (oid_of work) (policy_of work) (policy_is work range.is_work))
    (omega (arith, count, some, few)) (omega (arith, count))

-- ---- what a command leaves open

left_open : (stage : OpStage) (disk : Option Disk) → IsSoundStage stage → IfSome disk (λ (disk : Disk). IsSoundInode disk.inode)
    → IfSome (disk_after (disk_change_at stage) disk) (λ (disk : Disk). IsSoundInode disk.inode)
left_open (Asked entry) disk so was = was
left_open (Working vid task) disk so was = was
left_open (Publishing entry opened) disk so was = was
left_open (Answered Stays) disk so was = was
left_open (Answered (Opens snapshot inode)) disk so was = so
left_open (Answered Closes) disk so was = tt

commanded : (Sent : NodeId × PeerReq → Type 0) {most : ℕ} (session req : ℕ) (step : OpStep) (so_far : StepState) → IsSoundCommandStep step → IsSoundSoFar Sent most so_far
    → IsSoundSoFar Sent most (after_command_step session req step so_far) × IsSoundOutcome (outcome_of_command step.act)
commanded Sent session req step so_far so all = (
  commanded_valid work_validity Sent session req step so_far so.stage
      (left_open step.op.stage (session_in session so_far).disk so.stage (session_valid work_validity Sent session so_far all).disk) all,
  so.outcome,
)

module _ (Sent : NodeId × PeerReq → Type 0) {input : Input} {node : Node} (sound : IsSoundStep input node)
    (headers : (entry : Entry) → input ≡ inputs.LogEntry entry → HeadersAreSound (effects_of (entry_read entry node).peer))
    (asked : IsSoundInput input) where
  -- ---- a work is done

  module _ (so_far : StepState) (session req number : ℕ) (work : Work) (attempt : Attempt) (status : Status) (course : Course) (bytes : List ℕ)
      (ends : EndsWork input node so_far session req number work attempt status course bytes) (known : IsKnown so_far) (is : IsSoundWork work) where
    abbrev freed : StepState
    freed = without_ended_work session req work status so_far

    abbrev open_disk : Option Disk
    open_disk = (session_among session so_far.node.sessions).disk

    bytes_long : length bytes ≡ bytes_of_work work.work
    bytes_long =
        let learns = ends.ends.learns in
        let before : AreMessagesFor work.work attempt.messages = subst (HasMessagesFor work.work) learns.open_so is.messages in
        ap length (sym ends.given)
        ∙ length-bytes_given work.work (messages_with_status number status attempt.messages) is.range.is_work
        (AreMessagesFor-with_status work.work number status attempt.messages (learns.piece sound) before) ends.done

    wanted : IsWorkWanted (inode_open open_disk) course work.work
    wanted =
        subst (λ (o : Option Request). IsWantedAt so_far.node.sessions o work.work) ends.ends.request
        (known.0.2 req work.work (inl (work, ends.ends.learns.there, refl)))

    on_disk : IsCourseOn (inode_open open_disk) course
    on_disk =
        subst (λ (o : Option Request). IfSome o (λ (request : Request). IsCourseOn
        (inode_open (session_among request.session so_far.node.sessions).disk) request.course)) ends.ends.request (known.1 req)

    goes_on : MayGoOn (inode_open open_disk) course bytes
    goes_on = may_go_on open_disk course work.work bytes wanted on_disk bytes_long

    -- the session has the same disk open then
    same_disk : (session_in session freed).disk ≡ open_disk
    same_disk =
        ap (λ (o : Option Session). (unwrap_or o new_session).disk)
        (get-insert_same so_far.node.sessions session
        (record (session_in session so_far) { inode_queue = lines.queue_after_end (session_in session so_far).inode_queue work.work }))

  work_of : (so_far : StepState) (most session req number : ℕ) (work : Work) (attempt : Attempt) (status : Status) (course : Course) (bytes : List ℕ)
      → EndsWork input node so_far session req number work attempt status course bytes → IsSoundSoFar Sent most so_far → IsSoundWork work
  work_of so_far most session req number work attempt status course bytes ends all = all.0.open_works req work ends.ends.learns.there

  steps_sound : (most : ℕ) (so_far : StepState) (session req : ℕ) (next : Outcome) (moved : StepState)
      → RequestSteps input node so_far session req next moved → IsKnown so_far → IsSoundSoFar Sent most so_far
      → IsSoundSoFar Sent most moved × IsSoundOutcome next
  steps_sound most so_far session req next moved (DiskBegins ask disk there on may) known all =
      let whole : IsTrue (is_ask ask)
      = subst (λ (o : Option Request). IfSome o (λ (request : Request). IsCourseOn
      (inode_open (session_among request.session so_far.node.sessions).disk) request.course)) there (known.1 req) in
      let so = driver_begins-sound disk ask (disk_valid work_validity Sent session so_far disk on all) whole in
      (driven_valid work_validity Sent session req disk (begin_driver disk ask) so_far so.inode so.blocks all, so.outcome)
  steps_sound most so_far session req next moved (DiskGoesOn number work attempt status bytes driver disk step ends on is) known all =
      let one = work_of so_far most session req number work attempt status (Driving driver) bytes ends all in
      let now = freed_valid work_validity Sent session req work status so_far all in
      let here : (session_among session so_far.node.sessions).disk ≡ Some disk
      = sym (same_disk so_far session req number work attempt status (Driving driver) bytes ends known one) ∙ on in
      let may = subst (λ (o : Option Disk). MayGoOn (inode_open o) (Driving driver) bytes) here
      (goes_on so_far session req number work attempt status (Driving driver) bytes ends known one) in
      let so = driver_goes_on-sound disk.inode bytes driver step is
      (disk_valid work_validity Sent session (without_ended_work session req work status so_far) disk on now) may.1
      (course_valid work_validity Sent session req (Driving driver) so_far ends.ends.request all) may.0 in
      (driven_valid work_validity Sent session req disk step (without_ended_work session req work status so_far) so.inode so.blocks now, so.outcome)
  steps_sound most so_far session req next moved (CommandBegins ask step arrival is) known all =
      commanded Sent session req step so_far
      (command_begins-sound so_far.node.me session ask (inode_open (session_in session so_far).disk) step is
      (subst IsSoundInput arrival.from asked)) all
  steps_sound most so_far session req next moved (CommandGoesOn number work attempt status bytes op step ends is) known all =
      let one = work_of so_far most session req number work attempt status (Commanding op) bytes ends all in
      commanded Sent session req step (without_ended_work session req work status so_far)
      (command_goes_on-sound bytes op step is (course_valid work_validity Sent session req (Commanding op) so_far ends.ends.request all)
      (goes_on so_far session req number work attempt status (Commanding op) bytes ends known one))
      (freed_valid work_validity Sent session req work status so_far all)
  steps_sound most so_far session req next moved (CommandDecided entry op step from read there waits is) known all =
      commanded Sent session req step so_far
      (command_decided-sound (effects_of so_far.node.peer) (inode_open (session_in session so_far).disk) op step
      (subst (λ (peer : Peer). HeadersAreSound (effects_of peer)) (sym read) (headers entry from)) (inode_valid work_validity Sent session so_far all)
      (decision_on entry node.peer) is (course_valid work_validity Sent session req (Commanding op) so_far there all)) all
  steps_sound most so_far session req next moved (CheckBegins inode arrival on) known all =
      let so = check_begins-sound inode
      (subst (λ (o : Option Content). IfSome o IsSoundInode) on (inode_valid work_validity Sent session so_far all)) in
      (sole_put work_validity Sent session req (Checking (begin_check inode).check) so_far so.check all, so.outcome)
  steps_sound most so_far session req next moved (CheckGoesOn number work attempt status bytes check step ends is) known all =
      let one = work_of so_far most session req number work attempt status (Checking check) bytes ends all in
      let here = course_valid work_validity Sent session req (Checking check) so_far ends.ends.request all in
      let given : length bytes ≡ bytes_of_work work.work
      = bytes_long so_far session req number work attempt status (Checking check) bytes ends known one in
      let waits : check_bytes_wanted check ≡ Some (length bytes)
      = bytes_for_check check check.stage work.work
      (wanted so_far session req number work attempt status (Checking check) bytes ends known one) refl here ∙ ap Some (sym given) in
      let so = check_goes_on-sound bytes check step is here waits in (
        sole_put work_validity Sent session req (Checking step.check) (without_ended_work session req work status so_far) so.check
            (freed_valid work_validity Sent session req work status so_far all),
        so.outcome,
      )
  steps_sound most so_far session req next moved (ObjectBegins work arrival) known all =
      (sole_put work_validity Sent session req (DoingWork work) so_far tt all, subst IsSoundInput arrival.from asked)
  steps_sound most so_far session req next moved (ObjectIsDone number work attempt status bytes done ends) known all =
      (freed_valid work_validity Sent session req work status so_far all, tt)
  steps_sound most so_far session req next moved (EntryBegins entry arrival) known all =
      (sole_put work_validity Sent session req (AwaitingDecision entry) so_far tt all, tt)
  steps_sound most so_far session req next moved (EntryDecided entry awaited from read there waits) known all = (all, tt)

  -- where this is known, and more by which what an attempt sends is such
  pub works_are_kept : {Known : StepState → Type 0} → ((so_far : StepState) → Known so_far → IsKnown so_far)
      → ((req : ℕ) (asked : Work) (lined : StepState) → Known (with_open_attempt req asked lined) → IsWorkInRange asked.work
      → All Sent (map (send_of lined.node.gateway.me (record { 0 = lined.node.peer.epoch }) asked.work) (attempt_in asked lined.node).messages))
      → IsKeptBy work_validity Sent input node Known
  works_are_kept knows sends = record {
    steps = λ most so_far session req next moved steps known all.
        steps_sound most so_far session req next moved steps (knows so_far known) all;
    arrives = λ so_far session req ask arrival. tt;
    asks = λ work is. is.range;
    marks = λ so_far req number work attempt status learns known is.
        let before : AreMessagesFor work.work attempt.messages = subst (HasMessagesFor work.work) learns.open_so is.messages in
        record {
          range = is.range;
          messages = AreMessagesFor-with_status work.work number status attempt.messages (learns.piece sound) before;
        };
    fails = λ work is. record { range = is.range; messages = tt };
    opens = λ asked node range short. record { range = range; messages = attempt_messages asked node range short };
    holds = λ asked epoch range. record { range = range; messages = tt };
    strays = λ so_far req work gateway there none apart known all. absurd (never_alone req work so_far there none (knows so_far known).0.0);
    few = λ asked node range. attempt_few asked node (policy_is asked.work range.is_work);
    sends = sends;
    unlocks = λ by session vid. tt;
    recovers = λ me epoch. tt;
  }

-- ---- the beginning of a step

none_sound : AreValidBy work_validity tree.empty tree.empty tree.empty
none_sound = record { open_works = none_is IsSoundWork; courses = none_is (λ (request : Request). work_validity.course request.course); each_session = none_is (IsValidSessionBy work_validity) }

pub received_sound : (input : Input) (node : Node) → HasSoundWorks node → HasSoundWorks (input_received input (at_first node)).node
received_sound = received_keeps (AreValidBy work_validity) none_sound

pub sound_works_at_opening : (me : NodeId) (tries : ℕ) → HasSoundWorks (initial_node me tries)
sound_works_at_opening me tries = none_sound

-- what a node has at work is sound in the middle of a step
pub sound_in_chain : (input : Input) (node : Node) → IsSoundStep input node
    → ((entry : Entry) → input ≡ inputs.LogEntry entry → HeadersAreSound (effects_of (entry_read entry node).peer)) → IsSoundInput input
    → ((so_far : StepState) → Leads input node (input_received input (at_first node)) so_far → IsKnown so_far) → HasSoundWorks node
    → (so_far : StepState) → Leads input node (input_received input (at_first node)) so_far → HasSoundWorks so_far.node
sound_in_chain input node sound headers asked known is so_far leads =
    let first : StepState = input_received input (at_first node) in
    (chain_valid work_validity AnySent (length first.outputs.sends) (changes_in leads)
    (works_are_kept AnySent sound headers asked (λ here known. known) (λ req asked lined later range k d within. tt))
    (λ here before short. known here before) leads (omega arith)
    (received_sound input node is, record { few = omega (arith); sent = λ k d within. tt; to_put = λ k d within. tt })).0
