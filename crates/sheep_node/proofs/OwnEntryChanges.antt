-- Every change leaves the outbox to this node's entries.
use Rattle.std.proofs.Common.{◌≡◌, ◌≢◌, ℕ, true, false, List, [], ◌∷◌, ◌++◌, All, option_to_list, Option, Some, None, IfSome, refl, sym, ap, subst, ◌∙◌, ⊎_elim}
use Rattle.std.specs.Ordering.{nat_cmp}
use Rattle.std.specs.FinMap as tree
use Rattle.std.specs.Option.{option_map, option_and_then, option_map_or}
use Rattle.std.proofs.lemmas.List.{append-nil}
use Rattle.std.proofs.lemmas.List.Elements.{All-nil, All-push, All-tail}
use Rattle.std.proofs.lemmas.Bool.{cases_eq}
use Rattle.proof_tools.proofs.Booleans.{cond_either}
use Rattle.proof_tools.proofs.FiniteMaps.{get-insert_cases, get-remove_other, get-remove_same}
use Rattle.object_id.specs.declared.oid.Vid.{Vid}
use Rattle.object_id.specs.declared.cause.Cause.{Cause}
use Rattle.object_id.specs.declared.cause.Cause.TheVariants.{Halt}
use Rattle.object_id.specs.declared.node.NodeId.{NodeId}
use Rattle.object_id.specs.declared.entry.Entry.{Entry}
use Rattle.object_id.specs.declared.entry.Entry.TheVariants as entries
use Rattle.object_id.specs.declared.entry.Entry.TheVariants.{Format, Join, Leave, Reweight, Recovered, Reserve, Publish, Lock, Unlock}
use Rattle.object_id.specs.declared.entry.Origin.TheVariants.{Fresh, SnapshotOf, CloneOf}
use Rattle.inode.specs.Layout.{Content}
use Rattle.vdi_directory.specs.declared.header.Header.{Header}
use Rattle.vdi_directory.specs.declared.effect.Effect.{Effect}
use Rattle.vdi_directory.specs.declared.decision.Decision.{Decision}
use Rattle.vdi_directory.specs.declared.decision.Decision.TheVariants as decisions
use Rattle.vdi_directory.specs.Effects.{header_of}
use Rattle.peer_proto.specs.declared.guest.GuestRsp.{GuestRsp}
use Rattle.peer_proto.specs.declared.guest.GuestRsp.TheVariants.{Refused}
use Rattle.peer_proto.specs.declared.guest.VdiAsk.{VdiAsk}
use Rattle.peer_proto.specs.declared.guest.VdiAsk.TheVariants.{Create, Attach, Close, Snapshot, Clone, Delete, Check}
use Rattle.peer_service.specs.State.{effects_of}
use Rattle.peer_service.specs.LogReading.{decision_on}
use Rattle.gateway.specs.Work.{zones_for}
use Rattle.gateway.specs.State as gateways
use Rattle.gateway.specs.State.{Work}
use Rattle.recovery.specs.Steps as recovery_steps
use Rattle.guest_driver.specs.declared.act.DriverAct.{DriverAct}
use Rattle.guest_driver.specs.Driver as drivers
use Rattle.guest_driver.specs.declared.act.DriverAct.TheVariants as driver_acts
use Rattle.vdi_ops.specs.declared.act.OpAct.{OpAct}
use Rattle.vdi_ops.specs.declared.act.OpAct.TheVariants as op_acts
use Rattle.vdi_ops.specs.declared.end.OpEnd.{OpEnd}
use Rattle.vdi_ops.specs.Entries.{first_entry}
use Rattle.vdi_directory.specs.Chains.{chain_of}
use Rattle.vdi_ops.specs.Op as ops
use Rattle.vdi_ops.specs.Op.{Task, Opening, WritingBack, Tagging, Copying, Making, OpStage, Asked, Working, Publishing, Answered, Op, IsAwaitedAtOpStage, IsAwaitedByCommand}
use Rattle.vdi_ops.specs.Steps.{first_step, begin_command, tag_step, copy_step, step_after_grant, step_after_decision, decided_at, on_decision, task_done, done_at, op_on_done, refused_at, on_refusal}
use Rattle.vdi_ops.proofs.StepLemmas.{begin_awaited, done_awaited, decision_awaited}
use Rattle.sheep_node.specs.declared.input.Input.{Input}
use Rattle.sheep_node.specs.declared.input.Input.TheVariants as inputs
use Rattle.sheep_node.specs.declared.course.Course.{Course}
use Rattle.sheep_node.specs.declared.course.Request.{Request}
use Rattle.sheep_node.specs.declared.course.Course.TheVariants.{Waiting, Driving, Commanding, Checking, DoingWork, AwaitingDecision}
use Rattle.sheep_node.specs.State.{Node, initial_node}
use Rattle.sheep_node.specs.RecoveryView.{recovery_state_of}
use Rattle.sheep_node.specs.StepState.{StepState, at_first, with_optional_entry, session_in, request_ended, with_sole_request}
use Rattle.sheep_node.specs.RequestWorks.{command_refused, course_refused}
use Rattle.sheep_node.specs.Courses.{inode_open, after_command_step}
use Rattle.sheep_node.specs.LogReading.{entry_read, on_back}
use Rattle.sheep_node.specs.Step.{on_request, recovery_stepped, on_put, on_recover_tick, node_step}
use Rattle.sheep_node.specs.OwnEntries.{IsEntryOf, IsTaskOf, IsStageOf, IsCommandOf, IsCourseOf, AreOwnEntries, HasOnlyOwnEntries, AsksForOwn}
use Rattle.sheep_node.specs.Changes as changes
use Rattle.sheep_node.specs.Changes.{HasRequest, Outcome, ToWork, ToEntry, ToReply, outcome_of_driver, outcome_of_command, without_ended_work, RequestSteps, DiskBegins, DiskGoesOn, CommandBegins, CommandGoesOn, CommandDecided, WorkIsNext, AtOnce, InTurn, Again, AgainAlone, input_received, Change, CheckBegins, CheckGoesOn, ObjectBegins, ObjectIsDone, EntryBegins, EntryDecided, outcome_of_check}
use Rattle.sheep_node.proofs.OneWorkChanges.{awaited_of}
use Rattle.sheep_node.proofs.StepChain.{kept_by_chain, step_chain}
use Rattle.disk_check.specs.declared.act.CheckAct.{CheckAct}
use Rattle.disk_check.specs.Check.{begin_check}
use Rattle.sheep_node.specs.OutsideAsks.{IsEntryAsk}
use Rattle.sheep_node.specs.May.{May}
use Rattle.disk_check.specs.declared.act.CheckAct.TheVariants as check_acts
use Rattle.sheep_node.specs.declared.ask.Ask.TheVariants as asks

-- ---- the steps of a command

abbrev StepOf : NodeId → ops.OpStep → Type 0
StepOf me step = IsCommandOf me step.op

first_of : (by : NodeId) (session : ℕ) (disk : Option Content) (ask : VdiAsk) → IfSome (first_entry by session disk ask) (IsEntryOf by)
first_of by session disk (Create name spec) = refl
first_of by session disk (Attach name tag) = refl
first_of by session None Close = tt
first_of by session (Some inode) Close = refl
first_of by session None (Snapshot tag) = tt
first_of by session (Some inode) (Snapshot tag) = refl
first_of by session disk (Clone base tag name) = refl
first_of by session disk (Delete name tag) = refl
first_of by session disk Check = tt

begun_of : (by : NodeId) (session : ℕ) (entry : Option Entry) → IfSome entry (IsEntryOf by) → IfSome (option_map (first_step by session) entry) (StepOf by)
begun_of by session None of = tt
begun_of by session (Some entry) of = (refl, of)

begin_of : (by : NodeId) (session : ℕ) (ask : VdiAsk) (disk : Option Content) → IfSome (begin_command by session ask disk) (StepOf by)
unfolding begin_command
begin_of by session ask disk = begun_of by session (first_entry by session disk ask) (first_of by session disk ask)

module _ (me : NodeId) (op : Op) (own : op.by ≡ me) where
  taken_of : (vid : Vid) (tag : List ℕ) (header : Header) (disk : Option Content) → IfSome (option_map (tag_step op vid tag header) disk) (StepOf me)
  taken_of vid tag header None = tt
  taken_of vid tag header (Some old) = (own, tt)

  copied_of : (vid : Vid) (chain : List ℕ) (header : Header) (parent : Option Vid) → IfSome (option_map (copy_step op vid chain header) parent) (StepOf me)
  copied_of vid chain header None = tt
  copied_of vid chain header (Some parent) = (own, tt)

  granted_of : (vid : Vid) (chain : List ℕ) (disk : Option Content) (entry : Entry) (header : Header) → IfSome (step_after_grant op vid chain disk entry header) (StepOf me)
  granted_of vid chain disk (Reserve by session name (Fresh spec)) header = (own, own)
  granted_of vid chain disk (Reserve by session name (SnapshotOf tag)) header = taken_of vid tag header disk
  granted_of vid chain disk (Reserve by session name (CloneOf base tag)) header = copied_of vid chain header header.parent
  granted_of vid chain disk (Lock by session name tag) header = (own, tt)
  granted_of vid chain disk (Unlock by session id) header = (own, tt)
  granted_of vid chain disk (entries.Delete by session name tag) header = (own, tt)
  granted_of vid chain disk (Format members) header = tt
  granted_of vid chain disk (Join node zone vnodes) header = tt
  granted_of vid chain disk (Leave node) header = tt
  granted_of vid chain disk (Reweight node vnodes) header = tt
  granted_of vid chain disk (Recovered node epoch) header = tt
  granted_of vid chain disk (Publish by id) header = tt
  granted_of vid chain disk (entries.Clone by id) header = tt
  granted_of vid chain disk (entries.Snapshot by old id) header = tt

  known_of : (vid : Vid) (chain : List ℕ) (disk : Option Content) (entry : Entry) (header : Option Header)
      → IfSome (option_and_then (step_after_grant op vid chain disk entry) header) (StepOf me)
  known_of vid chain disk entry None = tt
  known_of vid chain disk entry (Some header) = granted_of vid chain disk entry header

  decided_of : (known : List Effect) (disk : Option Content) (entry : Entry) (decision : Decision) → IfSome (step_after_decision known disk op entry decision) (StepOf me)
  decided_of known disk entry decisions.None = (own, tt)
  decided_of known disk entry (decisions.Granted vid) = known_of vid (chain_of known vid.0) disk entry (header_of known vid.0)
  decided_of known disk entry (decisions.Refused cause) = (own, tt)

  at_decision : (known : List Effect) (disk : Option Content) (decision : Decision) (stage : OpStage) → IfSome (decided_at known disk decision op stage) (StepOf me)
  at_decision known disk decision (Asked entry) = decided_of known disk entry decision
  at_decision known disk decision (Working vid task) = tt
  at_decision known disk decision (Publishing entry opened) = (own, tt)
  at_decision known disk decision (Answered change) = tt

  task_of : (vid : Vid) (bytes : List ℕ) (task : Task) → IsTaskOf me task → StepOf me (task_done op vid bytes task)
  task_of vid bytes (Opening true ids header) of = (own, tt)
  task_of vid bytes (Opening false ids header) of = (own, tt)
  task_of vid bytes (WritingBack inode) of = (own, tt)
  task_of vid bytes (Tagging old inode) of = (own, own)
  task_of vid bytes (Copying ids header) of = (own, own)
  task_of vid bytes (Making entry opened) of = (own, of)

  at_done : (bytes : List ℕ) (stage : OpStage) → IsStageOf me stage → IfSome (done_at bytes op stage) (StepOf me)
  at_done bytes (Asked entry) of = tt
  at_done bytes (Working vid task) of = task_of vid bytes task of
  at_done bytes (Publishing entry opened) of = tt
  at_done bytes (Answered change) of = tt

  at_refusal : (cause : Cause) (stage : OpStage) → IfSome (refused_at cause op stage) (λ (end : OpEnd). IfSome end.unlock (IsEntryOf me))
  at_refusal cause (Asked entry) = tt
  at_refusal cause (Working vid task) = own
  at_refusal cause (Publishing entry opened) = tt
  at_refusal cause (Answered change) = tt

  done_of : (bytes : List ℕ) → IsStageOf me op.stage → IfSome (op_on_done bytes op) (StepOf me)
  unfolding op_on_done
  done_of bytes of = at_done bytes op.stage of

  decision_of : (known : List Effect) (disk : Option Content) (decision : Decision) → IfSome (on_decision known disk decision op) (StepOf me)
  unfolding on_decision
  decision_of known disk decision = at_decision known disk decision op.stage

  refusal_of : (cause : Cause) → IfSome (on_refusal cause op) (λ (end : OpEnd). IfSome end.unlock (IsEntryOf me))
  unfolding on_refusal
  refusal_of cause = at_refusal cause op.stage

step_of : (me : NodeId) (one : Option ops.OpStep) (step : ops.OpStep) → IfSome one (StepOf me) → one ≡ Some step → StepOf me step
step_of me one step of is = subst (λ (o : Option ops.OpStep). IfSome o (StepOf me)) is of

-- ---- requests

module _ (P : Request → Type 0) (requests : tree.FinMap nat_cmp Request) (all : (req : ℕ) (request : Request) → tree.get requests req ≡ Some request → P request) where
  all_put : (req : ℕ) (request : Request) → P request → (q : ℕ) (at : Request) → tree.get (tree.insert requests req request) q ≡ Some at → P at
  all_put req request so q at got = ⊎_elim
      (λ (own : (q ≡ req) × (request ≡ at)). subst P own.1 so)
      (λ (other : (q ≢ req) × (tree.get requests q ≡ Some at)). all q at other.1)
      (get-insert_cases requests req request q at got)

  all_gone : (req q : ℕ) (at : Request) → tree.get (tree.remove requests req) q ≡ Some at → P at
  all_gone req q at got = ⊎_elim
      (λ (own : q ≡ req).
      let none : tree.get (tree.remove requests req) q ≡ None = ap (tree.get (tree.remove requests req)) own ∙ get-remove_same requests req in
      absurd (cc (none, got)))
      (λ (other : q ≢ req). all q at (sym (get-remove_other requests req q other) ∙ got))
      (cases_eq q req)

module _ (me : NodeId) where
  abbrev pub OnlyOwn : StepState → Type 0
  OnlyOwn so_far = AreOwnEntries me so_far.node.me so_far.node.requests so_far.node.outbox

  abbrev At : Request → Type 0
  At request = IsCourseOf me request.course

  abbrev NextOf : Outcome → Type 0
  NextOf (ToWork work) = Unit {0}
  NextOf (ToEntry entry) = IsEntryOf me entry
  NextOf (ToReply reply) = Unit {0}

  append_of : (entry : Entry) (stage : OpStage) → IsAwaitedAtOpStage (op_acts.Append entry) stage → IsStageOf me stage → IsEntryOf me entry
  append_of entry (Asked wanted) awaited of = let same : entry ≡ wanted = cc (awaited) in subst (IsEntryOf me) (sym same) of
  append_of entry (Working vid task) awaited of = absurd (cc (awaited.1))
  append_of entry (Publishing wanted opened) awaited of = let same : entry ≡ wanted = cc (awaited) in subst (IsEntryOf me) (sym same) of
  append_of entry (Answered change) awaited of = absurd (cc (awaited.1))

  command_next : (act : OpAct) (stage : OpStage) → IsAwaitedAtOpStage act stage → IsStageOf me stage → NextOf (outcome_of_command act)
  command_next (op_acts.Append entry) stage awaited of = append_of entry stage awaited of
  command_next (op_acts.Work work) stage awaited of = tt
  command_next (op_acts.Reply reply) stage awaited of = tt

  command_own : (session req : ℕ) (step : ops.OpStep) (so_far : StepState) → IsAwaitedByCommand step → IsCommandOf me step.op → OnlyOwn so_far
      → OnlyOwn (after_command_step session req step so_far) × NextOf (outcome_of_command step.act)
  command_own session req step so_far awaited of own = (
    record {
      own_so = own.own_so;
      commands = all_put At so_far.node.requests own.commands req (record { session = session; course = Commanding step.op }) of;
      entries = own.entries;
    },
    command_next step.act step.op.stage awaited of.1,
  )

  driver_next : (act : DriverAct) → NextOf (outcome_of_driver act)
  driver_next (driver_acts.Work work) = tt
  driver_next (driver_acts.Reply reply) = tt

  check_next : (act : CheckAct) → NextOf (outcome_of_check act)
  check_next (check_acts.Work work) = tt
  check_next (check_acts.Reply found) = tt

  sole_own : (session req : ℕ) (course : Course) (so_far : StepState) → IsCourseOf me course → OnlyOwn so_far
      → OnlyOwn (with_sole_request session req course so_far)
  sole_own session req course so_far of own = record {
    own_so = own.own_so;
    commands = all_put At so_far.node.requests own.commands req (record { session = session; course = course }) of;
    entries = own.entries;
  }

  -- an entry that the input asks for is this node's
  entry_asked_own : (input : Input) (req session : ℕ) (entry : Entry) → AsksForOwn me input → input ≡ inputs.Guest req session (asks.Entry entry)
      → IsEntryOf me entry
  entry_asked_own input req session entry own from = subst (AsksForOwn me) from own

  module _ (input : Input) (node : Node) (asked_own : AsksForOwn me input) where
    steps_own : (so_far : StepState) (session req : ℕ) (next : Outcome) (moved : StepState) → RequestSteps input node so_far session req next moved → OnlyOwn so_far → OnlyOwn moved × NextOf next
    steps_own so_far session req next moved (DiskBegins ask disk there on may) own = (
      record {
        own_so = own.own_so;
        commands = all_put At so_far.node.requests own.commands req (record { session = session; course = Driving (drivers.begin_driver disk ask).driver }) tt;
        entries = own.entries;
      },
      driver_next (drivers.begin_driver disk ask).act,
    )
    steps_own so_far session req next moved (DiskGoesOn number work attempt status bytes driver disk step ends on is) own = (
      record {
        own_so = own.own_so;
        commands = all_put At so_far.node.requests own.commands req (record { session = session; course = Driving step.driver }) tt;
        entries = own.entries;
      },
      driver_next step.act,
    )
    steps_own so_far session req next moved (CommandBegins ask step arrival is) own =
        let disk = inode_open (session_in session so_far).disk in
        command_own session req step so_far
        (awaited_of (begin_command so_far.node.me session ask disk) step (begin_awaited so_far.node.me session ask disk) is)
        (subst (λ (by : NodeId). IsCommandOf by step.op) own.own_so
        (step_of so_far.node.me (begin_command so_far.node.me session ask disk) step (begin_of so_far.node.me session ask disk) is)) own
    steps_own so_far session req next moved (CommandGoesOn number work attempt status bytes op step ends is) own =
        let of = own.commands req (record { session = session; course = Commanding op }) ends.ends.request in
        command_own session req step (without_ended_work session req work status so_far)
        (awaited_of (op_on_done bytes op) step (done_awaited bytes op) is) (step_of me (op_on_done bytes op) step (done_of me op of.0 bytes of.1) is)
        (record { own_so = own.own_so; commands = own.commands; entries = own.entries })
    steps_own so_far session req next moved (CommandDecided entry op step from read there waits is) own =
        let of = own.commands req (record { session = session; course = Commanding op }) there in
        command_own session req step so_far
        (awaited_of (on_decision (effects_of so_far.node.peer) (inode_open (session_in session so_far).disk) (decision_on entry node.peer) op) step
        (decision_awaited (effects_of so_far.node.peer) (inode_open (session_in session so_far).disk) (decision_on entry node.peer) op) is)
        (step_of me (on_decision (effects_of so_far.node.peer) (inode_open (session_in session so_far).disk) (decision_on entry node.peer) op) step
        (decision_of me op of.0 (effects_of so_far.node.peer) (inode_open (session_in session so_far).disk) (decision_on entry node.peer)) is) own
    steps_own so_far session req next moved (CheckBegins inode arrival on) own =
        (sole_own session req (Checking (begin_check inode).check) so_far tt own, check_next (begin_check inode).act)
    steps_own so_far session req next moved (CheckGoesOn number work attempt status bytes check step ends is) own = (
      sole_own session req (Checking step.check) (without_ended_work session req work status so_far) tt
          (record { own_so = own.own_so; commands = own.commands; entries = own.entries }),
      check_next step.act,
    )
    steps_own so_far session req next moved (ObjectBegins asked arrival) own = (sole_own session req (DoingWork asked) so_far tt own, tt)
    steps_own so_far session req next moved (ObjectIsDone number work attempt status bytes asked ends) own =
        (record { own_so = own.own_so; commands = own.commands; entries = own.entries }, tt)
    steps_own so_far session req next moved (EntryBegins entry arrival) own =
        let of = entry_asked_own input req session entry asked_own arrival.from in
        (sole_own session req (AwaitingDecision entry) so_far of own, of)
    steps_own so_far session req next moved (EntryDecided entry wanted from read there waits) own = (own, tt)

    comes_own : (so_far : StepState) (session req : ℕ) (asked : Work) (lined : StepState) → WorkIsNext input node so_far session req asked lined → OnlyOwn so_far → OnlyOwn lined
    comes_own so_far session req asked lined (AtOnce work moved steps begins) own =
        let m = (steps_own so_far session req (ToWork work) moved steps own).0 in
        record { own_so = m.own_so; commands = m.commands; entries = m.entries }
    comes_own so_far session req asked lined (InTurn work later none is) own = record { own_so = own.own_so; commands = own.commands; entries = own.entries }
    comes_own so_far session req asked lined (Again work course from next there request) own = own
    comes_own so_far session req asked lined (AgainAlone work from next there none) own = own

    ended_own : (session req : ℕ) (reply : GuestRsp) (so_far : StepState) → OnlyOwn so_far → OnlyOwn (request_ended session req reply so_far)
    unfolding request_ended
    ended_own session req reply so_far own =
        record { own_so = own.own_so; commands = all_gone At so_far.node.requests own.commands req; entries = own.entries }

    more_own : (outbox : List Entry) (entry : Entry) → All (IsEntryOf me) outbox → IsEntryOf me entry → All (IsEntryOf me) (outbox ++ entry ∷ [])
    more_own outbox entry all of = All-push (IsEntryOf me) outbox entry all of

    refused_own : (session req : ℕ) (cause : Cause) (course : Course) (so_far : StepState) → IsCourseOf me course → OnlyOwn so_far
        → OnlyOwn (course_refused session req cause course so_far)
    refused_own session req cause (Waiting ask) so_far of own = own
    refused_own session req cause (Driving driver) so_far of own = ended_own session req (Refused cause) so_far own
    refused_own session req cause (Checking check) so_far of own = ended_own session req (Refused cause) so_far own
    refused_own session req cause (DoingWork work) so_far of own = ended_own session req (Refused cause) so_far own
    refused_own session req cause (AwaitingDecision entry) so_far of own = own
    refused_own session req cause (Commanding op) so_far of own = by_end (on_refusal cause op) (refusal_of me op of.0 cause)
      where
        more : (unlock : Option Entry) → IfSome unlock (IsEntryOf me) → All (IsEntryOf me) (so_far.node.outbox ++ option_to_list unlock)
        more None of = subst (All (IsEntryOf me)) (sym (append-nil so_far.node.outbox)) own.entries
        more (Some entry) of = more_own so_far.node.outbox entry own.entries of

        by_end : (end : Option OpEnd) → IfSome end (λ (end : OpEnd). IfSome end.unlock (IsEntryOf me)) → OnlyOwn (command_refused session req end so_far)
        by_end None of = own
        by_end (Some end) of =
            ended_own session req end.reply (with_optional_entry end.unlock so_far)
            (record { own_so = own.own_so; commands = own.commands; entries = more end.unlock of })

    request_refused_own : (req : ℕ) (cause : Cause) (request : Option Request) (so_far : StepState) → tree.get so_far.node.requests req ≡ request → OnlyOwn so_far
        → OnlyOwn (option_map_or (λ (request : Request). course_refused request.session req cause request.course so_far) request so_far)
    request_refused_own req cause None so_far there own = own
    request_refused_own req cause (Some request) so_far there own =
        refused_own request.session req cause request.course so_far (own.commands req request there) own

    pub change_keeps_own_entries : (so_far next : StepState) → Change input node so_far next → OnlyOwn so_far → OnlyOwn next
    change_keeps_own_entries so_far next (changes.Marks req number work attempt status learns over) own = own
    change_keeps_own_entries so_far next (changes.Fails session req number work attempt status course ends done why) own = own
    change_keeps_own_entries so_far next (changes.Stops session req number work attempt status course bytes ends over) own = own
    change_keeps_own_entries so_far next (changes.Refuses session req number work attempt status course cause ends done why) own =
        refused_own session req cause course (without_ended_work session req work status so_far) (own.commands req (record { session = session; course = course }) ends.request) own
    change_keeps_own_entries so_far next (changes.Opens session req asked lined comes short) own = comes_own so_far session req asked lined comes own
    change_keeps_own_entries so_far next (changes.Holds session req asked lined comes short touched) own = comes_own so_far session req asked lined comes own
    change_keeps_own_entries so_far next (changes.Denies session req asked lined request comes short untouched there is_own) own =
        request_refused_own req (Halt (changes.zones_of_members lined.node) (zones_for asked.work)) request (changes.without_denied_work session req asked lined) there
        (comes_own so_far session req asked lined comes own)
    change_keeps_own_entries so_far next (changes.Strays req work gateway there none apart) own = own
    change_keeps_own_entries so_far next (changes.Lines session req work moved steps waits) own = (steps_own so_far session req (ToWork work) moved steps own).0
    change_keeps_own_entries so_far next (changes.Appends session req entry moved steps) own =
        let m = steps_own so_far session req (ToEntry entry) moved steps own in
        record { own_so = m.0.own_so; commands = m.0.commands; entries = more_own moved.node.outbox entry m.0.entries m.1 }
    change_keeps_own_entries so_far next (changes.Replies session req reply moved steps) own =
        ended_own session req reply moved (steps_own so_far session req (ToReply reply) moved steps own).0
    change_keeps_own_entries so_far next (changes.Arrives session req ask disk arrival on) own = record {
      own_so = own.own_so;
      commands = all_put At so_far.node.requests own.commands req (record { session = session; course = Waiting ask }) tt;
      entries = own.entries;
    }
    change_keeps_own_entries so_far next (changes.Rejects session req ask cause arrival) own = own
    change_keeps_own_entries so_far next (changes.Recovers due) own = record {
      own_so = own.own_so;
      commands = own.commands;
      entries = more_own so_far.node.outbox (Recovered so_far.node.me (record { 0 = so_far.node.recovery.epoch })) own.entries own.own_so;
    }

  received_own_entries : (input : Input) (node : Node) → OnlyOwn (at_first node) → OnlyOwn (input_received input (at_first node))
  unfolding entry_read on_request on_recover_tick on_back
  received_own_entries (inputs.Guest req session ask) node own = own
  received_own_entries (inputs.Request request) node own = own
  received_own_entries (inputs.Reply rsp) node own =
      cond_either OnlyOwn (gateways.gateway_awaits rsp.number node.gateway) (at_first node)
      (recovery_stepped (recovery_steps.recovery_on_reply rsp (recovery_state_of node)) (at_first node)) own own
  received_own_entries (inputs.Lost number) node own =
      cond_either OnlyOwn (gateways.gateway_awaits number node.gateway) (at_first node)
      (recovery_stepped (recovery_steps.recovery_on_loss number (recovery_state_of node)) (at_first node)) own own
  received_own_entries (inputs.LogEntry entry) node own = own
  received_own_entries inputs.Put node own = by_outbox node.outbox own.entries
    where
      by_outbox : (outbox : List Entry) → All (IsEntryOf me) outbox → OnlyOwn (on_put outbox (at_first node))
      by_outbox [] all = own
      by_outbox (entry ∷ later) all =
          record { own_so = own.own_so; commands = own.commands; entries = All-tail (IsEntryOf me) entry later all }
  received_own_entries inputs.RecoverTick node own = own
  received_own_entries inputs.RetryTick node own = own
  received_own_entries (inputs.Back entries) node own = record {
    own_so = own.own_so;
    commands = λ req request got. let none = tree.get-empty {X = Request} nat_cmp req in absurd (cc (none, got));
    entries = All-nil (IsEntryOf me);
  }

-- a node that may step on an input is asked for entries of its own alone
pub asks_for_own : (input : Input) (node : Node) → May input node → AsksForOwn node.me input
asks_for_own (inputs.Guest req session (asks.Disk ask)) node may = tt
asks_for_own (inputs.Guest req session (asks.Vdi ask)) node may = tt
asks_for_own (inputs.Guest req session (asks.Object work)) node may = tt
asks_for_own (inputs.Guest req session (asks.Entry entry)) node may = by_kind entry may.condition.asked
  where
    by_kind : (entry : Entry) → IsEntryAsk node.me entry → IsEntryOf node.me entry
    by_kind (Lock by session name tag) asked = asked.0
    by_kind (Unlock by session vid) asked = asked.0
    by_kind _ asked = absurd asked
asks_for_own (inputs.Request request) node may = tt
asks_for_own (inputs.Reply rsp) node may = tt
asks_for_own (inputs.Lost number) node may = tt
asks_for_own (inputs.LogEntry entry) node may = tt
asks_for_own inputs.Put node may = tt
asks_for_own inputs.RecoverTick node may = tt
asks_for_own inputs.RetryTick node may = tt
asks_for_own (inputs.Back entries) node may = tt

-- a node whose outbox has its own entries keeps it so
pub own_entries_stay : (input : Input) (node : Node) → AsksForOwn node.me input → HasOnlyOwnEntries node
    → HasOnlyOwnEntries (node_step input node).node
own_entries_stay input node asked own =
    let after : AreOwnEntries node.me (node_step input node).node.me (node_step input node).node.requests (node_step input node).node.outbox
    = kept_by_chain (OnlyOwn node.me) (change_keeps_own_entries node.me input node asked) (step_chain input node)
    (received_own_entries node.me input node own) in
    subst (λ (me : NodeId). AreOwnEntries me (node_step input node).node.me (node_step input node).node.requests (node_step input node).node.outbox)
    (sym after.own_so) after

-- so it opens
pub own_entries_at_opening : (me : NodeId) (tries : ℕ) → HasOnlyOwnEntries (initial_node me tries)
own_entries_at_opening me tries = record {
  own_so = refl;
  commands = λ req request got. let none = tree.get-empty {X = Request} nat_cmp req in absurd (cc (none, got));
  entries = All-nil (IsEntryOf me);
}
