-- The last entry of a command that is to have an inode open then is on its way: its node hasn't read it in the log, or has it still to put;
-- or just reads it. Each change of a step keeps that, since a command waits for such an entry from the change on that puts it.
use Rattle.std.proofs.Common.{◌≡◌, ◌≢◌, ◌⊎◌, inl, inr, ⊎_elim, arith, ℕ, ◌+◌, ◌≤◌, Bool, true, false, List, [], ◌∷◌, ◌++◌, Option, Some}
use Rattle.std.proofs.Common.{None, append-nil, refl, sym, ap, subst, ◌∙◌}
use Rattle.std.specs.FinMap as tree
use Rattle.std.specs.Option.{option_to_list}
use Rattle.std.proofs.lemmas.Bool.{cases_eq}
use Rattle.std.proofs.lemmas.Option.{same_Some}
use Rattle.proof_tools.proofs.FiniteMaps.{get-insert_cases, get-remove_same, get-remove_other}
use Rattle.object_id.specs.declared.cause.Cause.TheVariants.{Halt}
use Rattle.object_id.specs.declared.entry.Entry.{Entry}
use Rattle.object_id.specs.declared.entry.Entry.TheVariants.{Recovered}
use Rattle.object_id.specs.Same.{is_same_entry}
use Rattle.peer_proto.specs.declared.guest.GuestRsp.{GuestRsp}
use Rattle.peer_service.specs.LogReading.{decision_on}
use Rattle.peer_service.specs.State.{effects_of}
use Rattle.gateway.specs.State.{Work}
use Rattle.gateway.specs.Work.{zones_for}
use Rattle.guest_driver.specs.Driver as drivers
use Rattle.guest_driver.specs.declared.act.DriverAct.{DriverAct}
use Rattle.guest_driver.specs.declared.act.DriverAct.TheVariants as driver_acts
use Rattle.disk_check.specs.Check.{begin_check}
use Rattle.disk_check.specs.declared.act.CheckAct.{CheckAct}
use Rattle.disk_check.specs.declared.act.CheckAct.TheVariants as check_acts
use Rattle.vdi_ops.specs.declared.act.OpAct.{OpAct}
use Rattle.vdi_ops.specs.declared.act.OpAct.TheVariants as op_acts
use Rattle.vdi_ops.specs.Op.{OpStage, Asked, Working, Publishing, Answered, Op, IsAwaitedAtOpStage}
use Rattle.vdi_ops.specs.Steps.{begin_command, on_decision, op_on_done}
use Rattle.vdi_ops.proofs.StepLemmas.{begin_awaited, done_awaited, decision_awaited}
use Rattle.sheep_node.specs.declared.course.Course.{Course}
use Rattle.sheep_node.specs.declared.course.Request.{Request}
use Rattle.sheep_node.specs.declared.course.Course.TheVariants.{Waiting, Driving, Commanding, Checking, DoingWork, AwaitingDecision}
use Rattle.sheep_node.specs.declared.input.Input.{Input}
use Rattle.sheep_node.specs.State.{Node}
use Rattle.sheep_node.specs.StepState.{StepState, session_in, request_ended, with_optional_entry}
use Rattle.sheep_node.specs.Courses.{inode_open}
use Rattle.sheep_node.specs.Changes as changes
use Rattle.sheep_node.specs.Changes.{Outcome, ToWork, ToEntry, ToReply, outcome_of_driver, outcome_of_command, outcome_of_check}
use Rattle.sheep_node.specs.Changes.{without_ended_work, without_denied_work, zones_of_members, RequestSteps, DiskBegins, DiskGoesOn}
use Rattle.sheep_node.specs.Changes.{CommandBegins, CommandGoesOn, CommandDecided, CheckBegins, CheckGoesOn, ObjectBegins, ObjectIsDone}
use Rattle.sheep_node.specs.Changes.{EntryBegins, EntryDecided, WorkIsNext, AtOnce, InTurn, Again, AgainAlone, Change, Leads}
use Rattle.sheep_node.proofs.OneWorkChanges.{awaited_of}
use Rattle.sheep_node.proofs.OneWorkParts.{Requests}
use Rattle.sheep_node.proofs.RefusedCourses.{course_refused-keeps, request_refused-keeps}
use Rattle.sheep_node.proofs.StepChain.{kept_by_chain}
use Rattle.overlap_law.proofs.AwaitedCommands.{waits_at, put_waited, none_waited}
use Rattle.overlap_law.proofs.CountedEntries.{times, once_if, times-push, same_entry, itself}

-- the last entry of a command that is to have an inode open then
abbrev pub last_at : OpStage → Option Entry
last_at (Asked entry) = None
last_at (Working vid task) = None
last_at (Publishing entry None) = None
last_at (Publishing entry (Some inode)) = Some entry
last_at (Answered change) = None

abbrev pub last_of : Course → Option Entry
last_of (Waiting ask) = None
last_of (Driving driver) = None
last_of (Commanding op) = last_at op.stage
last_of (Checking check) = None
last_of (DoingWork work) = None
last_of (AwaitingDecision entry) = None

-- it is the one that the command waits for
last_waits : (stage : OpStage) (entry other : Entry) → last_at stage ≡ Some entry → waits_at other stage ≡ true → entry ≡ other
last_waits (Asked wanted) entry other is waits = absurd (cc (is))
last_waits (Working vid task) entry other is waits = absurd (cc (is))
last_waits (Publishing wanted None) entry other is waits = absurd (cc (is))
last_waits (Publishing wanted (Some inode)) entry other is waits = sym (same_Some wanted entry is) ∙ same_entry wanted other waits
last_waits (Answered change) entry other is waits = absurd (cc (is))

none_last : (stage : OpStage) (entry : Entry) → last_at stage ≡ Some entry → ((other : Entry) → waits_at other stage ≡ false) → ⊥
none_last (Asked wanted) entry is none = cc (is)
none_last (Working vid task) entry is none = cc (is)
none_last (Publishing wanted None) entry is none = cc (is)
none_last (Publishing wanted (Some inode)) entry is none =
    let not = none wanted in let own = itself wanted in cc (not, own)
none_last (Answered change) entry is none = cc (is)

-- what of the log a node hasn't read, and the entry that it just reads
module _ (unread : List Entry) (reading : Option Entry) where
  abbrev pub IsOnWay : Entry → List Entry → Type 0
  IsOnWay entry outbox = (1 ≤ times entry unread + times entry outbox) ⊎ (reading ≡ Some entry)

  abbrev pub AreOnWay : Requests → List Entry → Type 0
  AreOnWay requests outbox = (req : ℕ) (request : Request) (entry : Entry) → tree.get requests req ≡ Some request
      → last_of request.course ≡ Some entry → IsOnWay entry outbox

  abbrev pub AreOnWaySoFar : StepState → Type 0
  AreOnWaySoFar so_far = AreOnWay so_far.node.requests so_far.node.outbox

  more : (entry last : Entry) (outbox : List Entry) → IsOnWay entry outbox → IsOnWay entry (outbox ++ last ∷ [])
  more entry last outbox (inl some) =
      let longer : times entry (outbox ++ last ∷ []) ≡ times entry outbox + once_if (is_same_entry entry last)
      = times-push entry outbox last in
      inl (omega (arith, some, longer))
  more entry last outbox (inr reads) = inr reads

  grown : (requests : Requests) (outbox : List Entry) (last : Entry) → AreOnWay requests outbox → AreOnWay requests (outbox ++ last ∷ [])
  grown requests outbox last all req request entry got is = more entry last outbox (all req request entry got is)

  grown_if : (requests : Requests) (outbox : List Entry) (last : Option Entry) → AreOnWay requests outbox
      → AreOnWay requests (outbox ++ option_to_list last)
  grown_if requests outbox None all = subst (AreOnWay requests) (sym (append-nil outbox)) all
  grown_if requests outbox (Some last) all = grown requests outbox last all

  put : (requests : Requests) (outbox : List Entry) (session req : ℕ) (course : Course) → AreOnWay requests outbox
      → ((entry : Entry) → last_of course ≡ Some entry → IsOnWay entry outbox)
      → AreOnWay (tree.insert requests req (record { session = session; course = course })) outbox
  put requests outbox session req course all own q request entry got is = ⊎_elim
      (λ (here : (q ≡ req) × (record { session = session; course = course } ≡ request)).
      own entry (ap (λ (r : Request). last_of r.course) here.1 ∙ is))
      (λ (other : (q ≢ req) × (tree.get requests q ≡ Some request)). all q request entry other.1 is)
      (get-insert_cases requests req (record { session = session; course = course }) q request got)

  put_plain : (requests : Requests) (outbox : List Entry) (session req : ℕ) (course : Course) → last_of course ≡ None
      → AreOnWay requests outbox → AreOnWay (tree.insert requests req (record { session = session; course = course })) outbox
  put_plain requests outbox session req course none all =
      put requests outbox session req course all (λ entry is. absurd (cc (none, is)))

  ended : (session req : ℕ) (reply : GuestRsp) (so_far : StepState) → AreOnWaySoFar so_far
      → AreOnWaySoFar (request_ended session req reply so_far)
  unfolding request_ended
  ended session req reply so_far all q request entry got is = ⊎_elim
      (λ (own : q ≡ req).
      let none = ap (tree.get (tree.remove so_far.node.requests req)) own
      ∙ get-remove_same so_far.node.requests req in absurd (cc (none, got)))
      (λ (other : q ≢ req). all q request entry (sym (get-remove_other so_far.node.requests req q other) ∙ got) is)
      (cases_eq q req)

  -- ---- a request takes a step

  -- what stands in the outbox once the step is gone
  abbrev outbox_then : Outcome → List Entry → List Entry
  outbox_then (ToWork work) outbox = outbox
  outbox_then (ToEntry entry) outbox = outbox ++ entry ∷ []
  outbox_then (ToReply reply) outbox = outbox

  by_driver : (act : DriverAct) (requests : Requests) (outbox : List Entry) → AreOnWay requests outbox
      → AreOnWay requests (outbox_then (outcome_of_driver act) outbox)
  by_driver (driver_acts.Work work) requests outbox all = all
  by_driver (driver_acts.Reply reply) requests outbox all = all

  by_check : (act : CheckAct) (requests : Requests) (outbox : List Entry) → AreOnWay requests outbox
      → AreOnWay requests (outbox_then (outcome_of_check act) outbox)
  by_check (check_acts.Work work) requests outbox all = all
  by_check (check_acts.Reply found) requests outbox all = all

  by_command : (requests : Requests) (outbox : List Entry) (session req : ℕ) (op : Op) (act : OpAct) → IsAwaitedAtOpStage act op.stage
      → AreOnWay requests outbox
      → AreOnWay (tree.insert requests req (record { session = session; course = Commanding op }))
      (outbox_then (outcome_of_command act) outbox)
  by_command requests outbox session req op (op_acts.Append entry) awaited all =
      put requests (outbox ++ entry ∷ []) session req (Commanding op) (grown requests outbox entry all)
      (λ last is.
      let same : last ≡ entry = last_waits op.stage last entry is (put_waited entry op.stage awaited) in
      let longer : times entry (outbox ++ entry ∷ []) ≡ times entry outbox + 1
      = times-push entry outbox entry ∙ ap (λ (b : Bool). times entry outbox + once_if b) (itself entry) in
      subst (λ (e : Entry). IsOnWay e (outbox ++ entry ∷ [])) (sym same) (inl (omega (arith, longer))))
  by_command requests outbox session req op (op_acts.Work work) awaited all =
      put requests outbox session req (Commanding op) all
      (λ last is. absurd (none_last op.stage last is (none_waited (op_acts.Work work) op.stage tt awaited)))
  by_command requests outbox session req op (op_acts.Reply reply) awaited all =
      put requests outbox session req (Commanding op) all
      (λ last is. absurd (none_last op.stage last is (none_waited (op_acts.Reply reply) op.stage tt awaited)))

  module _ (input : Input) (node : Node) where
    steps_on : (so_far : StepState) (session req : ℕ) (next : Outcome) (moved : StepState)
        → RequestSteps input node so_far session req next moved → AreOnWaySoFar so_far
        → AreOnWay moved.node.requests (outbox_then next moved.node.outbox)
    steps_on so_far session req next moved (DiskBegins ask disk there on may) all =
        let driver = (drivers.begin_driver disk ask).driver in
        by_driver (drivers.begin_driver disk ask).act moved.node.requests moved.node.outbox
        (put_plain so_far.node.requests so_far.node.outbox session req (Driving driver) refl all)
    steps_on so_far session req next moved (DiskGoesOn number work attempt status bytes driver disk step ends on is) all =
        by_driver step.act moved.node.requests moved.node.outbox
        (put_plain so_far.node.requests so_far.node.outbox session req (Driving step.driver) refl all)
    steps_on so_far session req next moved (CommandBegins ask step arrival is) all =
        let disk = inode_open (session_in session so_far).disk in
        by_command so_far.node.requests so_far.node.outbox session req step.op step.act
        (awaited_of (begin_command so_far.node.me session ask disk) step (begin_awaited so_far.node.me session ask disk) is) all
    steps_on so_far session req next moved (CommandGoesOn number work attempt status bytes op step ends is) all =
        by_command so_far.node.requests so_far.node.outbox session req step.op step.act
        (awaited_of (op_on_done bytes op) step (done_awaited bytes op) is) all
    steps_on so_far session req next moved (CommandDecided entry op step from read there waits is) all =
        let disk = inode_open (session_in session so_far).disk in
        by_command so_far.node.requests so_far.node.outbox session req step.op step.act
        (awaited_of (on_decision (effects_of so_far.node.peer) disk (decision_on entry node.peer) op) step
        (decision_awaited (effects_of so_far.node.peer) disk (decision_on entry node.peer) op) is) all
    steps_on so_far session req next moved (CheckBegins inode arrival on) all =
        by_check (begin_check inode).act moved.node.requests moved.node.outbox
        (put_plain so_far.node.requests so_far.node.outbox session req (Checking (begin_check inode).check) refl all)
    steps_on so_far session req next moved (CheckGoesOn number work attempt status bytes check step ends is) all =
        by_check step.act moved.node.requests moved.node.outbox
        (put_plain so_far.node.requests so_far.node.outbox session req (Checking step.check) refl all)
    steps_on so_far session req next moved (ObjectBegins asked arrival) all =
        put_plain so_far.node.requests so_far.node.outbox session req (DoingWork asked) refl all
    steps_on so_far session req next moved (ObjectIsDone number work attempt status bytes asked ends) all = all
    steps_on so_far session req next moved (EntryBegins entry arrival) all =
        grown moved.node.requests so_far.node.outbox entry
        (put_plain so_far.node.requests so_far.node.outbox session req (AwaitingDecision entry) refl all)
    steps_on so_far session req next moved (EntryDecided entry wanted from read there waits) all = all

    next_on : (so_far : StepState) (session req : ℕ) (asked : Work) (lined : StepState)
        → WorkIsNext input node so_far session req asked lined → AreOnWaySoFar so_far → AreOnWaySoFar lined
    next_on so_far session req asked lined (AtOnce work moved steps begins) all =
        steps_on so_far session req (ToWork work) moved steps all
    next_on so_far session req asked lined (InTurn work later none is) all = all
    next_on so_far session req asked lined (Again work course from next there request) all = all
    next_on so_far session req asked lined (AgainAlone work from next there none) all = all

    unlocked : (entry : Option Entry) (so_far : StepState) → AreOnWaySoFar so_far → AreOnWaySoFar (with_optional_entry entry so_far)
    unlocked entry so_far all = grown_if so_far.node.requests so_far.node.outbox entry all

    change_on : (so_far next : StepState) → Change input node so_far next → AreOnWaySoFar so_far → AreOnWaySoFar next
    change_on so_far next (changes.Marks req number work attempt status learns over) all = all
    change_on so_far next (changes.Fails session req number work attempt status course ends done why) all = all
    change_on so_far next (changes.Stops session req number work attempt status course bytes ends over) all = all
    change_on so_far next (changes.Refuses session req number work attempt status course cause ends done why) all =
        course_refused-keeps AreOnWaySoFar ended unlocked session req cause course (without_ended_work session req work status so_far) all
    change_on so_far next (changes.Opens session req asked lined comes enough) all = next_on so_far session req asked lined comes all
    change_on so_far next (changes.Holds session req asked lined comes short touched) all =
        next_on so_far session req asked lined comes all
    change_on so_far next (changes.Denies session req asked lined request comes short untouched there own) all =
        request_refused-keeps AreOnWaySoFar ended unlocked req (Halt (zones_of_members lined.node) (zones_for asked.work)) request
        (without_denied_work session req asked lined) (next_on so_far session req asked lined comes all)
    change_on so_far next (changes.Strays req work gateway there none apart) all = all
    change_on so_far next (changes.Lines session req work moved steps waits) all =
        steps_on so_far session req (ToWork work) moved steps all
    change_on so_far next (changes.Appends session req entry moved steps) all =
        steps_on so_far session req (ToEntry entry) moved steps all
    change_on so_far next (changes.Replies session req reply moved steps) all =
        ended session req reply moved (steps_on so_far session req (ToReply reply) moved steps all)
    change_on so_far next (changes.Arrives session req ask disk arrival on) all =
        put_plain so_far.node.requests so_far.node.outbox session req (Waiting ask) refl all
    change_on so_far next (changes.Rejects session req ask cause arrival) all = all
    change_on so_far next (changes.Recovers due) all =
        grown so_far.node.requests so_far.node.outbox
        (Recovered so_far.node.me (record { 0 = so_far.node.recovery.epoch })) all

    pub on_way_in_chain : {first so_far : StepState} → Leads input node first so_far → AreOnWaySoFar first → AreOnWaySoFar so_far
    on_way_in_chain leads all = kept_by_chain AreOnWaySoFar change_on leads all
