-- Each change of a node leaves what it has at work on disks that it knows: so it is in the middle of a step, and at its end.
use Rattle.std.proofs.Common.{◌≡◌, ◌≢◌, ⊎_elim, arith, ℕ, ◌+◌, ◌*◌, List, [], ◌∷◌, length, All, Option, Some, None, IfSome, IsTrue, refl}
use Rattle.std.proofs.Common.{sym, ap, subst, ◌∙◌}
use Rattle.std.specs.FinMap as tree
use Rattle.std.proofs.lemmas.Bool.{cases_eq}
use Rattle.std.proofs.lemmas.List.Elements.{All-weaker}
use Rattle.std.proofs.lemmas.Option.{same_Some}
use Rattle.proof_tools.proofs.Booleans.{cond_either}
use Rattle.object_id.specs.declared.entry.Entry.{Entry}
use Rattle.object_id.specs.declared.entry.VdiSpec.{VdiSpec}
use Rattle.object_id.specs.declared.oid.Vid.{Vid}
use Rattle.object_id.specs.declared.policy.Policy.{Policy}
use Rattle.object_id.specs.Oid.{vid_of, kind_of}
use Rattle.epoch_log.specs.Appending.{IsReservable}
use Rattle.inode.specs.Layout.{Content}
use Rattle.vdi_directory.specs.declared.effect.Effect.{Effect}
use Rattle.vdi_directory.specs.Decisions.{log_effects}
use Rattle.peer_proto.specs.Work.{oid_of, policy_of}
use Rattle.peer_proto.specs.declared.work.ObjWork.{ObjWork}
use Rattle.peer_proto.specs.declared.work.ObjWork.TheVariants as works
use Rattle.peer_service.specs.State.{effects_of, object_size}
use Rattle.peer_service.specs.LogReading.{decision_on}
use Rattle.gateway.specs.State as gateways
use Rattle.gateway.specs.State.{Work}
use Rattle.guest_driver.specs.declared.disk.Disk.{Disk}
use Rattle.guest_driver.specs.Driver.{begin_driver}
use Rattle.guest_driver.specs.InodeQueue as lines
use Rattle.guest_driver.specs.Pieces.{is_ask}
use Rattle.vdi_ops.specs.Steps.{on_decision}
use Rattle.vdi_ops.specs.Op.{Task, Opening, WritingBack, Tagging, Copying, Making, DiskChange, Stays, Opens, Closes, OpStage, Asked}
use Rattle.vdi_ops.specs.Op.{Working, Publishing, Answered, OpStep}
use Rattle.disk_check.specs.Check.{begin_check}
use Rattle.recovery.specs.Steps as recovery_steps
use Rattle.sheep_node.specs.declared.ask.Ask.{Ask}
use Rattle.sheep_node.specs.declared.ask.Ask.TheVariants as asks
use Rattle.sheep_node.specs.declared.input.Input.{Input}
use Rattle.sheep_node.specs.declared.input.Input.TheVariants as inputs
use Rattle.sheep_node.specs.declared.course.Course.{Course}
use Rattle.sheep_node.specs.declared.course.Request.{Request}
use Rattle.sheep_node.specs.declared.session.Session.{Session}
use Rattle.sheep_node.specs.declared.course.Course.TheVariants.{Waiting, Driving, Commanding, Checking, DoingWork, AwaitingDecision}
use Rattle.sheep_node.specs.State.{Node}
use Rattle.sheep_node.specs.RecoveryView.{recovery_state_of}
use Rattle.sheep_node.specs.StepState.{StepState, at_first, session_in}
use Rattle.sheep_node.specs.LogReading.{entry_read, on_back}
use Rattle.sheep_node.specs.Step.{on_request, recovery_stepped, on_put, on_recover_tick, node_step}
use Rattle.sheep_node.specs.StepFacts.{read_after}
use Rattle.sheep_node.specs.Courses.{inode_open, after_command_step}
use Rattle.sheep_node.specs.Validity.{IsValidSessionBy, AreValidBy}
use Rattle.sheep_node.specs.Changes.{input_received, without_ended_work, Outcome, outcome_of_command, RequestSteps, DiskBegins, DiskGoesOn}
use Rattle.sheep_node.specs.Changes.{CommandBegins, CommandGoesOn, CommandDecided, CheckBegins, CheckGoesOn, ObjectBegins, ObjectIsDone}
use Rattle.sheep_node.specs.Changes.{EntryBegins, EntryDecided, WorkIsNext, Leads}
use Rattle.sheep_node.proofs.KnownChains.{headers_are_sound}
use Rattle.sheep_node.proofs.MessageCounts.{attempt_few}
use Rattle.sheep_node.proofs.PeerLog.{entries_reading}
use Rattle.sheep_node.proofs.ReachedSteps.{changes_in}
use Rattle.sheep_node.proofs.SoundCommands.{HeadersAreSound}
use Rattle.sheep_node.proofs.StepChain.{step_chain}
use Rattle.sheep_node.proofs.StepResults.{step_reads}
use Rattle.sheep_node.proofs.ValidityChanges as walk
use Rattle.sheep_node.proofs.ValidityChanges.{AnySent, none_is, IsValidStepBy, IsKeptBy, session_valid, disk_valid, inode_valid}
use Rattle.sheep_node.proofs.ValidityChanges.{course_valid, sole_put, freed_valid, driven_valid, commanded_valid}
use Rattle.overlap_law.proofs.GrantedEpochs.{spec_known, spec_stays}
use Rattle.overlap_law.proofs.KnownDisks.{IsKnownDisk, IsKnownInode, IsOnKnownDisk, CreatesWhole, IsKnownWork, IsKnownTask, IsKnownChange}
use Rattle.overlap_law.proofs.KnownDisks.{IsKnownStage, IsKnownCourse, known_validity, IsKnownOutcome, driver_begins-known}
use Rattle.overlap_law.proofs.KnownDisks.{driver_goes_on-known, check_begins-known, check_goes_on-known}
use Rattle.overlap_law.proofs.KnownCommands.{IsKnownCommandStep, command_begins-known, command_goes_on-known, command_decided-known}
use Rattle.overlap_law.proofs.KnownCommands.{left_open}

-- a node's works, requests and sessions are on disks that are known
abbrev pub AreOnKnown : List Effect → Node → Type 0
AreOnKnown known node = AreValidBy (known_validity known) node.gateway.works node.requests node.sessions

abbrev pub IsKnownSoFar : List Effect → ℕ → StepState → Type 0
IsKnownSoFar known = IsValidStepBy (known_validity known) AnySent

-- what is asked is so
abbrev pub IsKnownAsk : List Effect → Ask → Type 0
IsKnownAsk known (asks.Disk ask) = IsTrue (is_ask ask)
IsKnownAsk known (asks.Vdi ask) = Unit {0}
IsKnownAsk known (asks.Object work) = IsKnownWork known work
IsKnownAsk known (asks.Entry entry) = Unit {0}

abbrev pub IsKnownInput : List Effect → Input → Type 0
IsKnownInput known (inputs.Guest req session ask) = IsKnownAsk known ask
IsKnownInput known _ = Unit {0}

-- ---- a change of a node

commanded : (known : List Effect) {most : ℕ} (session req : ℕ) (step : OpStep) (so_far : StepState) → IsKnownCommandStep known step
    → IsKnownSoFar known most so_far
    → IsKnownSoFar known most (after_command_step session req step so_far) × IsKnownOutcome known (outcome_of_command step.act)
commanded known session req step so_far so all = (
  commanded_valid (known_validity known) AnySent session req step so_far so.stage
      (left_open known step.op.stage (session_in session so_far).disk so.stage
      (session_valid (known_validity known) AnySent session so_far all).disk) all,
  so.outcome,
)

module _ (known : List Effect) {input : Input} {node : Node}
    (read : (entry : Entry) → input ≡ inputs.LogEntry entry → effects_of (entry_read entry node).peer ≡ known)
    (headers : HeadersAreSound known) (asked : IsKnownInput known input) where
  steps_known : (most : ℕ) (so_far : StepState) (session req : ℕ) (next : Outcome) (moved : StepState)
      → RequestSteps input node so_far session req next moved → Unit {0} → IsKnownSoFar known most so_far
      → IsKnownSoFar known most moved × IsKnownOutcome known next
  steps_known most so_far session req next moved (DiskBegins ask disk there on may) nothing all =
      let so = driver_begins-known known disk ask (disk_valid (known_validity known) AnySent session so_far disk on all)
      (course_valid (known_validity known) AnySent session req (Waiting ask) so_far there all) in
      (driven_valid (known_validity known) AnySent session req disk (begin_driver disk ask) so_far so.inode so.few all, so.outcome)
  steps_known most so_far session req next moved (DiskGoesOn number work attempt status bytes driver disk step ends on is) nothing all =
      let freed : StepState = without_ended_work session req work status so_far in
      let now = freed_valid (known_validity known) AnySent session req work status so_far all in
      let so = driver_goes_on-known known disk.inode bytes driver step is
      (disk_valid (known_validity known) AnySent session freed disk on now)
      (course_valid (known_validity known) AnySent session req (Driving driver) so_far ends.ends.request all) in
      (driven_valid (known_validity known) AnySent session req disk step freed so.inode so.few now, so.outcome)
  steps_known most so_far session req next moved (CommandBegins ask step arrival is) nothing all =
      commanded known session req step so_far
      (command_begins-known known so_far.node.me session ask (inode_open (session_in session so_far).disk) step is) all
  steps_known most so_far session req next moved (CommandGoesOn number work attempt status bytes op step ends is) nothing all =
      commanded known session req step (without_ended_work session req work status so_far)
      (command_goes_on-known known bytes op step is (course_valid (known_validity known) AnySent session req (Commanding op) so_far
      ends.ends.request all)) (freed_valid (known_validity known) AnySent session req work status so_far all)
  steps_known most so_far session req next moved (CommandDecided entry op step from reading there waits is) nothing all =
      let same : effects_of so_far.node.peer ≡ known = ap effects_of reading ∙ read entry from in
      commanded known session req step so_far
      (command_decided-known known (inode_open (session_in session so_far).disk) op step headers
      (inode_valid (known_validity known) AnySent session so_far all) (decision_on entry node.peer)
      (subst (λ (effects : List Effect). on_decision effects (inode_open (session_in session so_far).disk) (decision_on entry node.peer) op
      ≡ Some step) same is) (course_valid (known_validity known) AnySent session req (Commanding op) so_far there all)) all
  steps_known most so_far session req next moved (CheckBegins inode arrival on) nothing all =
      let so = check_begins-known known inode
      (subst (λ (o : Option Content). IfSome o (IsKnownInode known)) on (inode_valid (known_validity known) AnySent session so_far all)) in
      (sole_put (known_validity known) AnySent session req (Checking (begin_check inode).check) so_far so.check all, so.outcome)
  steps_known most so_far session req next moved (CheckGoesOn number work attempt status bytes check step ends is) nothing all =
      let so = check_goes_on-known known bytes check step is (course_valid (known_validity known) AnySent session req (Checking check)
      so_far ends.ends.request all) in (
        sole_put (known_validity known) AnySent session req (Checking step.check) (without_ended_work session req work status so_far)
            so.check
            (freed_valid (known_validity known) AnySent session req work status so_far all),
        so.outcome,
      )
  steps_known most so_far session req next moved (ObjectBegins work arrival) nothing all =
      (sole_put (known_validity known) AnySent session req (DoingWork work) so_far tt all, subst (IsKnownInput known) arrival.from asked)
  steps_known most so_far session req next moved (ObjectIsDone number work attempt status bytes asked ends) nothing all =
      (freed_valid (known_validity known) AnySent session req work status so_far all, tt)
  steps_known most so_far session req next moved (EntryBegins entry arrival) nothing all =
      (sole_put (known_validity known) AnySent session req (AwaitingDecision entry) so_far tt all, tt)
  steps_known most so_far session req next moved (EntryDecided entry wanted from reading there waits) nothing all = (all, tt)

  pub works_are_kept : IsKeptBy (known_validity known) AnySent input node (λ so_far. Unit {0})
  works_are_kept = record {
    steps = steps_known;
    arrives = λ so_far session req ask arrival. subst (IsKnownInput known) arrival.from asked;
    asks = λ work is. is;
    marks = λ so_far req number work attempt status learns nothing is. is;
    fails = λ work is. is;
    opens = λ asked node is short. is;
    holds = λ asked epoch is. is;
    strays = λ so_far req work gateway there none apart nothing all q now got. ⊎_elim
        (λ (own : q ≡ req).
        let (was, before, same) = apart.same now (ap (tree.get gateway.works) (sym own) ∙ got) in
        subst (IsKnownWork known) (sym same) (all req was before))
        (λ (other : q ≢ req). all q now (sym (apart.others q other) ∙ got))
        (cases_eq q req);
    few = λ asked node is. attempt_few asked node is.policy;
    sends = λ req asked lined later is k d within. tt;
    unlocks = λ by session vid. tt;
    recovers = λ me epoch. tt;
  }

  -- along a chain
  pub known_in_chain : {first so_far : StepState} → (leads : Leads input node first so_far) → AreOnKnown known first.node
      → IsKnownSoFar known (31 * changes_in leads + length first.outputs.sends) so_far
  known_in_chain {first} {so_far} leads all =
      walk.chain_valid (known_validity known) AnySent (length first.outputs.sends) (changes_in leads) works_are_kept
      (λ here before short. tt) leads (omega arith) (all, record { few = omega arith; sent = λ k d within. tt; to_put = λ k d within. tt })

  -- and a work whose turn has come
  pub next_known : {most : ℕ} (so_far : StepState) (session req : ℕ) (asked : Work) (lined : StepState)
      → WorkIsNext input node so_far session req asked lined
      → IsKnownSoFar known most so_far → IsKnownWork known asked.work
  next_known so_far session req asked lined comes all =
      (walk.next_valid (known_validity known) AnySent works_are_kept so_far session req asked lined comes tt all).1

-- ---- what is known grows

module _ (old new : List Effect) (grows : (vid : ℕ) (spec : VdiSpec) → spec_known old vid ≡ Some spec → spec_known new vid
    ≡ Some spec) where
  disk_grows : (vid : ℕ) (spec : VdiSpec) → IsKnownDisk old vid spec → IsKnownDisk new vid spec
  disk_grows vid spec is = record { id = is.id; spec_valid = is.spec_valid; made = grows vid spec is.made }

  inode_grows : (inode : Content) → IsKnownInode old inode → IsKnownInode new inode
  inode_grows inode is = record { disk = disk_grows inode.vid inode.spec is.disk; count = is.count }

  on_grows : (oid : ℕ) (policy : Policy) → IsOnKnownDisk old oid policy → IsOnKnownDisk new oid policy
  on_grows oid policy is = record { spec = is.spec; made = grows (vid_of oid) is.spec is.made; policy_so = is.policy_so }

  pub work_grows : (work : ObjWork) → IsKnownWork old work → IsKnownWork new work
  work_grows work is = record {
    policy = is.policy;
    making = λ making. on_grows (oid_of work) (policy_of work) (is.making making);
    whole = by_kind work is;
  }
    where
      by_kind : (work : ObjWork) → IsKnownWork old work → CreatesWhole new work
      by_kind (works.Create oid policy size offset bytes) is = λ other there.
          let disk = is.making refl in
          let same : disk.spec ≡ other = same_Some disk.spec other (sym (grows (vid_of oid) disk.spec disk.made) ∙ there) in
          is.whole disk.spec disk.made ∙ ap (λ (s : VdiSpec). object_size s (kind_of oid)) same
      by_kind (works.Write oid policy offset bytes) is = tt
      by_kind (works.Read oid policy offset size) is = tt
      by_kind (works.ReadAll oid policy size) is = tt

  if_grows : (o : Option Content) → IfSome o (IsKnownInode old) → IfSome o (IsKnownInode new)
  if_grows None is = tt
  if_grows (Some inode) is = inode_grows inode is

  task_grows : (vid : Vid) (task : Task) → IsKnownTask old vid task → IsKnownTask new vid task
  task_grows vid (Opening snapshot ids header) is = disk_grows vid.0 header.spec is
  task_grows vid (WritingBack inode) is = inode_grows inode is
  task_grows vid (Tagging of inode) is = inode_grows inode is
  task_grows vid (Copying ids header) is = disk_grows vid.0 header.spec is
  task_grows vid (Making entry opened) is = if_grows opened is

  change_grows : (change : DiskChange) → IsKnownChange old change → IsKnownChange new change
  change_grows Stays is = tt
  change_grows (Opens snapshot inode) is = inode_grows inode is
  change_grows Closes is = tt

  stage_grows : (stage : OpStage) → IsKnownStage old stage → IsKnownStage new stage
  stage_grows (Asked entry) is = tt
  stage_grows (Working vid task) is = task_grows vid task is
  stage_grows (Publishing entry opened) is = if_grows opened is
  stage_grows (Answered change) is = change_grows change is

  course_grows : (course : Course) → IsKnownCourse old course → IsKnownCourse new course
  course_grows (Waiting ask) is = is
  course_grows (Driving driver) is = is
  course_grows (Commanding op) is = stage_grows op.stage is
  course_grows (Checking check) is = record { disk = disk_grows check.vid check.spec is.disk; within = is.within }
  course_grows (DoingWork work) is = tt
  course_grows (AwaitingDecision entry) is = tt

  session_grows : (session : Session) → IsValidSessionBy (known_validity old) session → IsValidSessionBy (known_validity new) session
  session_grows session is = record {
    disk = by_disk session.disk is.disk;
    waiting =
        All-weaker (λ (waiting : lines.Waiting). IsKnownWork old waiting.work) (λ (waiting : lines.Waiting). IsKnownWork new waiting.work)
        (λ waiting so. work_grows waiting.work so) session.inode_queue.waiting is.waiting;
  }
    where
      by_disk : (o : Option Disk) → IfSome o (λ (disk : Disk). IsKnownInode old disk.inode)
          → IfSome o (λ (disk : Disk). IsKnownInode new disk.inode)
      by_disk None is = tt
      by_disk (Some disk) is = inode_grows disk.inode is

  pub all_grow : (node : Node) → AreOnKnown old node → AreOnKnown new node
  all_grow node all = record {
    open_works = λ req work got. work_grows work.work (all.open_works req work got);
    courses = λ req request got. course_grows request.course (all.courses req request got);
    each_session = λ number session got. session_grows session (all.each_session number session got);
  }

-- ---- a step

pub none_known : (known : List Effect) → AreValidBy (known_validity known) tree.empty tree.empty tree.empty
none_known known = record {
  open_works = none_is (λ (work : Work). IsKnownWork known work.work);
  courses = none_is (λ (request : Request). IsKnownCourse known request.course);
  each_session = none_is (IsValidSessionBy (known_validity known));
}

-- what a node has read by the end of a step on an input
abbrev pub effects_after : Input → Node → List Effect
effects_after input node = log_effects (read_after input node.peer.entries)

pub received_known : (input : Input) (node : Node) → AreOnKnown (effects_of node.peer) node
    → AreOnKnown (effects_after input node) (input_received input (at_first node)).node
unfolding entry_read on_request on_recover_tick on_back
received_known (inputs.Guest req session ask) node all = all
received_known (inputs.Request request) node all = all
received_known (inputs.Reply rsp) node all =
    cond_either (λ (start : StepState). AreOnKnown (effects_of node.peer) start.node) (gateways.gateway_awaits rsp.number node.gateway)
    (at_first node) (recovery_stepped (recovery_steps.recovery_on_reply rsp (recovery_state_of node)) (at_first node)) all all
received_known (inputs.Lost number) node all =
    cond_either (λ (start : StepState). AreOnKnown (effects_of node.peer) start.node) (gateways.gateway_awaits number node.gateway)
    (at_first node) (recovery_stepped (recovery_steps.recovery_on_loss number (recovery_state_of node)) (at_first node)) all all
received_known (inputs.LogEntry entry) node all =
    all_grow (effects_of node.peer) (effects_after (inputs.LogEntry entry) node)
    (λ vid spec is. spec_stays node.peer.entries (entry ∷ []) vid spec is) node all
received_known inputs.Put node all = by_outbox node.outbox
  where
    by_outbox : (outbox : List Entry) → AreOnKnown (effects_of node.peer) (on_put outbox (at_first node)).node
    by_outbox [] = all
    by_outbox (entry ∷ later) = all
received_known inputs.RecoverTick node all = all
received_known inputs.RetryTick node all = all
received_known (inputs.Back entries) node all = none_known (effects_after (inputs.Back entries) node)

module _ (input : Input) (node : Node) (reservable : All IsReservable (read_after input node.peer.entries))
    (asked : IsKnownInput (effects_after input node) input) where
  read_so : (entry : Entry) → input ≡ inputs.LogEntry entry → effects_of (entry_read entry node).peer ≡ effects_after input node
  read_so entry from =
      ap log_effects (entries_reading entry node ∙ sym (ap (λ (input : Input). read_after input node.peer.entries) from))

  headers : HeadersAreSound (effects_after input node)
  headers = headers_are_sound (read_after input node.peer.entries) reservable

  module _ (all : AreOnKnown (effects_of node.peer) node) where
    -- in the middle of a step
    pub step_known : (so_far : StepState) (leads : Leads input node (input_received input (at_first node)) so_far)
        → IsKnownSoFar (effects_after input node) (31 * changes_in leads + length (input_received input (at_first node)).outputs.sends)
        so_far
    step_known so_far leads = known_in_chain (effects_after input node) read_so headers asked leads (received_known input node all)

    -- a work whose turn has come then
    pub work_known : (so_far : StepState) → Leads input node (input_received input (at_first node)) so_far
        → (session req : ℕ) (work : Work) (lined : StepState)
        → WorkIsNext input node so_far session req work lined → IsKnownWork (effects_after input node) work.work
    work_known so_far leads session req work lined comes =
        next_known (effects_after input node) read_so headers asked so_far session req work lined comes (step_known so_far leads)

    -- and at its end
    pub stepped_known : AreOnKnown (effects_of (node_step input node).node.peer) (node_step input node).node
    stepped_known =
        subst (λ (entries : List Entry). AreOnKnown (log_effects entries) (node_step input node).node) (sym (step_reads input node))
        (step_known (node_step input node) (step_chain input node)).0
