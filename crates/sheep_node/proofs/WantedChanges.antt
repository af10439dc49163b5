-- Every change leaves each work to a request that waits for it.
use Rattle.std.proofs.Common.{◌≡◌, ◌≢◌, ℕ, ◌+◌, List, [], ◌∷◌, ◌++◌, Contains, Option, Some, None, unwrap_or, refl, sym, ap, subst, ◌∙◌, inl, inr, ⊎_elim}
use Rattle.std.specs.Ordering.{nat_cmp}
use Rattle.std.specs.FinMap as tree
use Rattle.std.proofs.lemmas.Bool.{cases_eq}
use Rattle.proof_tools.proofs.Lists.{Contains-cons, Contains-first}
use Rattle.proof_tools.proofs.FiniteMaps.{get-insert_other, get-insert_same}
use Rattle.object_id.specs.declared.cause.Cause.TheVariants.{Halt}
use Rattle.object_id.specs.declared.node.NodeId.{NodeId}
use Rattle.peer_proto.specs.declared.work.ObjWork.{ObjWork}
use Rattle.peer_service.specs.State.{effects_of}
use Rattle.peer_service.specs.LogReading.{decision_on}
use Rattle.gateway.specs.Work.{zones_for}
use Rattle.gateway.specs.State.{Work, Open, Ended, WaitsForMembers}
use Rattle.gateway.specs.Step.{attempt_with_status}
use Rattle.guest_driver.specs.declared.disk.Disk.{Disk}
use Rattle.guest_driver.specs.declared.act.DriverAct.{DriverAct}
use Rattle.guest_driver.specs.declared.act.DriverAct.TheVariants as driver_acts
use Rattle.guest_driver.specs.Driver.{DriverStep, begin_driver}
use Rattle.guest_driver.specs.InodeQueue as lines
use Rattle.guest_driver.specs.InodeQueue.{queue_with_open, queue_with_waiting, queue_after_end}
use Rattle.disk_check.specs.declared.act.CheckAct.{CheckAct}
use Rattle.disk_check.specs.declared.act.CheckAct.TheVariants as check_acts
use Rattle.disk_check.specs.Check as checks
use Rattle.disk_check.specs.Check.{begin_check}
use Rattle.vdi_ops.specs.declared.act.OpAct.{OpAct}
use Rattle.vdi_ops.specs.declared.act.OpAct.TheVariants as op_acts
use Rattle.vdi_ops.specs.Op as ops
use Rattle.vdi_ops.specs.Op.{disk_change, IsAwaitedAtOpStage, IsAwaitedByCommand}
use Rattle.vdi_ops.specs.Steps.{begin_command, op_on_done, on_decision}
use Rattle.vdi_ops.proofs.StepLemmas.{begin_awaited, done_awaited, decision_awaited}
use Rattle.sheep_node.specs.declared.ask.Ask.TheVariants as asks
use Rattle.sheep_node.specs.declared.input.Input.{Input}
use Rattle.sheep_node.specs.declared.course.Course.{Course}
use Rattle.sheep_node.specs.declared.course.Request.{Request}
use Rattle.sheep_node.specs.declared.session.Session.{Session}
use Rattle.sheep_node.specs.declared.course.Course.TheVariants.{Waiting, Driving, Commanding, Checking, DoingWork, AwaitingDecision}
use Rattle.sheep_node.specs.State.{Node, new_session, initial_node}
use Rattle.sheep_node.specs.StepState.{StepState, at_first, session_in, with_sole_request}
use Rattle.sheep_node.specs.Courses.{after_driver_step, disk_after, inode_open, after_command_step}
use Rattle.sheep_node.specs.Guests.{queued_as}
use Rattle.sheep_node.specs.Step.{node_step}
use Rattle.sheep_node.specs.May.{May}
use Rattle.sheep_node.specs.OneWork.{may_work_at, waiting_in, HasOneWorkPerRequest, HasNoWork}
use Rattle.sheep_node.specs.SessionQueues.{QueuesAreDiskRequests, CommandsAreAlone}
use Rattle.sheep_node.specs.WantedWorks.{IsWorkWanted, IsWantedAt, HasWork, HaveWantedWorks, WorksAreWanted}
use Rattle.sheep_node.specs.Changes as changes
use Rattle.sheep_node.specs.Changes.{IsSoundStep, IsApart, Outcome, ToWork, ToEntry, ToReply, outcome_of_driver, outcome_of_command, outcome_of_check, without_ended_work, without_denied_work, zones_of_members, attempt_in, RequestSteps, DiskBegins, DiskGoesOn, CommandBegins, CommandGoesOn, CommandDecided, CheckBegins, CheckGoesOn, ObjectBegins, ObjectIsDone, EntryBegins, EntryDecided, WorkIsNext, AtOnce, InTurn, Again, AgainAlone, input_received, Leads, Change}
use Rattle.sheep_node.proofs.OneWorkParts.{same_waiting}
use Rattle.sheep_node.proofs.OneWorkChanges.{StepHasOneWork, HasNoWorkIn, steps_free, free_in, awaited_of, change_keeps_one_work, received_one_work}
use Rattle.sheep_node.proofs.NumberChanges.{meets_numbers}
use Rattle.sheep_node.proofs.SessionViews.{open_in, same_seen, alike_seen, free_seen, own_seen}
use Rattle.sheep_node.proofs.RefusedCourses.{course_refused-keeps, request_refused-keeps}
use Rattle.sheep_node.proofs.SoleParts.{CommandsAre, IsFreeFor, command_is_free}
use Rattle.sheep_node.proofs.SoleCommands.{free, change_keeps_alone, received_alone}
use Rattle.sheep_node.proofs.WantedSteps.{IsDriverActWanted, IsWantedStep, driver_begins-wanted, driver_goes_on-wanted, IsCheckActWanted, check_begins-wanted, check_goes_on-wanted}
use Rattle.sheep_node.proofs.WantedParts.{AreWanted, Waits, still_waits, line_had, stage_had, gone_had, session_wanted, work_wanted, freed_wanted, ended_wanted, strayed_wanted, lined_wanted}
use Rattle.sheep_node.proofs.StepChain.{kept_by_chain, step_chain}
use Rattle.sheep_node.proofs.ReceivedInputs.{received_keeps}

-- ---- a step that a request takes

-- a work that a request comes to is what it then waits for
abbrev pub IsOutcomeWanted : ℕ → Outcome → StepState → Type 0
IsOutcomeWanted req (ToWork work) so_far = IsWantedAt so_far.node.sessions (tree.get so_far.node.requests req) work
IsOutcomeWanted req (ToEntry entry) so_far = Unit {0}
IsOutcomeWanted req (ToReply reply) so_far = Unit {0}

-- a request without a work is in another course, and its session changes so that others wait for what they did
moved_wanted : (req : ℕ) (now : Request) (number : ℕ) (session : Session) (so_far : StepState)
    → HasNoWork req so_far.node.gateway.works (tree.insert so_far.node.sessions number session)
    → session.inode_queue.waiting ≡ waiting_in number so_far.node.sessions
    → ((q : ℕ) → q ≢ req → (work : ObjWork) → IsWantedAt so_far.node.sessions (tree.get so_far.node.requests q) work
    → IsWantedAt (tree.insert so_far.node.sessions number session) (tree.get so_far.node.requests q) work)
    → AreWanted so_far
    → HaveWantedWorks so_far.node.gateway.works (tree.insert so_far.node.requests req now) (tree.insert so_far.node.sessions number session)
moved_wanted req now number session so_far free line view all q work has = ⊎_elim
    (λ (own : q ≡ req). absurd (none own has))
    (λ (other : q ≢ req).
    subst (λ (o : Option Request). IsWantedAt (tree.insert so_far.node.sessions number session) o work)
    (sym (get-insert_other so_far.node.requests req now q other))
    (view q other work (all q work (line_had so_far.node.gateway.works so_far.node.sessions number session line q work has))))
    (cases_eq q req)
  where
    none : q ≡ req → HasWork q work so_far.node.gateway.works (tree.insert so_far.node.sessions number session) → ⊥
    none own (inl (one, got, is)) =
        let idle : tree.get so_far.node.gateway.works q ≡ None = ap (tree.get so_far.node.gateway.works) own ∙ free.idle in
        absurd (cc (idle, got))
    none own (inr (k, there)) = free.out k (record { req = q; work = work }) there own

driven_wanted : (number req : ℕ) (disk : Disk) (step : DriverStep) (so_far : StepState) → (session_in number so_far).disk ≡ Some disk
    → IsWantedStep disk.inode step → HasNoWorkIn req (after_driver_step number req disk step so_far) → AreWanted so_far
    → AreWanted (after_driver_step number req disk step so_far)
    × IsOutcomeWanted req (outcome_of_driver step.act) (after_driver_step number req disk step so_far)
driven_wanted number req disk step so_far on wanted free all = (
  moved_wanted req (record { session = number; course = Driving step.driver }) number after so_far free refl
      (λ q other work is. alike_seen open_in (Waits work) so_far.node.sessions number after (Some disk.inode) (Some step.inode) (ap inode_open on) refl
      (still_waits disk.inode step.inode work wanted.spec wanted.vid) (tree.get so_far.node.requests q) is) all,
  by_act step.act wanted.act,
)
  where
    after : Session
    after = record (session_in number so_far) { disk = Some (record disk { inode = step.inode }) }

    by_act : (act : DriverAct) → IsDriverActWanted step.inode step.driver act
        → IsOutcomeWanted req (outcome_of_driver act) (after_driver_step number req disk step so_far)
    by_act (driver_acts.Work work) is = own_seen open_in (Waits work) so_far.node.sessions number after req (Driving step.driver) so_far.node.requests is
    by_act (driver_acts.Reply reply) is = tt

command_wanted : (number req : ℕ) (step : ops.OpStep) (so_far : StepState) → IsAwaitedByCommand step → IsFreeFor number req so_far.node.requests
    → HasNoWorkIn req (after_command_step number req step so_far) → AreWanted so_far
    → AreWanted (after_command_step number req step so_far)
    × IsOutcomeWanted req (outcome_of_command step.act) (after_command_step number req step so_far)
command_wanted number req step so_far awaited alone free all = (
  moved_wanted req (record { session = number; course = Commanding step.op }) number after so_far free refl
      (λ q other work is. free_seen open_in (Waits work) so_far.node.sessions number after req q so_far.node.requests alone other is) all,
  by_act step.act awaited,
)
  where
    after : Session
    after = record (session_in number so_far) { disk = disk_after (disk_change step) (session_in number so_far).disk; command = Some req }

    by_act : (act : OpAct) → IsAwaitedAtOpStage act step.op.stage
        → IsOutcomeWanted req (outcome_of_command act) (after_command_step number req step so_far)
    by_act (op_acts.Work work) is = own_seen open_in (Waits work) so_far.node.sessions number after req (Commanding step.op) so_far.node.requests is
    by_act (op_acts.Append entry) is = tt
    by_act (op_acts.Reply reply) is = tt

sole_wanted : (number req : ℕ) (course : Course) (so_far : StepState) → HasNoWorkIn req (with_sole_request number req course so_far) → AreWanted so_far
    → AreWanted (with_sole_request number req course so_far)
sole_wanted number req course so_far free all =
    let after : Session = record (session_in number so_far) { command = Some req } in
    moved_wanted req (record { session = number; course = course }) number after so_far free refl
    (λ q other work is. same_seen open_in (Waits work) so_far.node.sessions number after refl (tree.get so_far.node.requests q) is) all

-- a work that it comes to there
sole_outcome : (number req : ℕ) (course : Course) (so_far : StepState) (work : ObjWork)
    → IsWorkWanted (inode_open (session_in number so_far).disk) course work
    → IsWantedAt (with_sole_request number req course so_far).node.sessions
    (tree.get (with_sole_request number req course so_far).node.requests req) work
sole_outcome number req course so_far work is =
    own_seen open_in (Waits work) so_far.node.sessions number (record (session_in number so_far) { command = Some req }) req course so_far.node.requests is

check_outcome : (number req : ℕ) (step : checks.CheckStep) (so_far : StepState) → IsCheckActWanted step.check step.act
    → IsOutcomeWanted req (outcome_of_check step.act) (with_sole_request number req (Checking step.check) so_far)
check_outcome number req step so_far wanted = by_act step.act wanted
  where
    by_act : (act : CheckAct) → IsCheckActWanted step.check act
        → IsOutcomeWanted req (outcome_of_check act) (with_sole_request number req (Checking step.check) so_far)
    by_act (check_acts.Work work) is = sole_outcome number req (Checking step.check) so_far work is
    by_act (check_acts.Reply found) is = tt

-- ---- every change

abbrev pub WaitsWell : StepState → Type 0
WaitsWell so_far = StepHasOneWork so_far × CommandsAre so_far × AreWanted so_far

module _ {input : Input} {node : Node} (may : May input node) (sound : IsSoundStep input node) (queued : QueuesAreDiskRequests node)
    (sole : CommandsAreAlone node) where
  steps_wanted : (so_far : StepState) (session req : ℕ) (next : Outcome) (moved : StepState) → RequestSteps input node so_far session req next moved
      → WaitsWell so_far → AreWanted moved × IsOutcomeWanted req next moved
  steps_wanted so_far session req next moved (DiskBegins ask disk there on may_run) all =
      driven_wanted session req disk (begin_driver disk ask) so_far on (driver_begins-wanted disk ask)
      (steps_free so_far session req next moved (DiskBegins ask disk there on may_run) sound all.0).free all.2
  steps_wanted so_far session req next moved (DiskGoesOn number work attempt status bytes driver disk step ends on is) all =
      driven_wanted session req disk step (without_ended_work session req work status so_far) on (driver_goes_on-wanted disk.inode bytes driver step is)
      (steps_free so_far session req next moved (DiskGoesOn number work attempt status bytes driver disk step ends on is) sound all.0).free
      (freed_wanted session req work status so_far all.2)
  steps_wanted so_far session req next moved (CommandBegins ask step arrival is) all =
      let disk = inode_open (session_in session so_far).disk in
      command_wanted session req step so_far
      (awaited_of (begin_command so_far.node.me session ask disk) step (begin_awaited so_far.node.me session ask disk) is)
      (free may queued sole so_far session req (asks.Vdi ask) None arrival refl)
      (steps_free so_far session req next moved (CommandBegins ask step arrival is) sound all.0).free all.2
  steps_wanted so_far session req next moved (CommandGoesOn number work attempt status bytes op step ends is) all =
      command_wanted session req step (without_ended_work session req work status so_far)
      (awaited_of (op_on_done bytes op) step (done_awaited bytes op) is)
      (command_is_free session req (Commanding op) so_far ends.ends.request refl all.1)
      (steps_free so_far session req next moved (CommandGoesOn number work attempt status bytes op step ends is) sound all.0).free
      (freed_wanted session req work status so_far all.2)
  steps_wanted so_far session req next moved (CommandDecided entry op step from read there waits is) all =
      command_wanted session req step so_far
      (awaited_of (on_decision (effects_of so_far.node.peer) (inode_open (session_in session so_far).disk) (decision_on entry node.peer) op) step
      (decision_awaited (effects_of so_far.node.peer) (inode_open (session_in session so_far).disk) (decision_on entry node.peer) op) is)
      (command_is_free session req (Commanding op) so_far there refl all.1)
      (steps_free so_far session req next moved (CommandDecided entry op step from read there waits is) sound all.0).free all.2
  steps_wanted so_far session req next moved (CheckBegins inode arrival on) all = (
    sole_wanted session req (Checking (begin_check inode).check) so_far
        (steps_free so_far session req next moved (CheckBegins inode arrival on) sound all.0).free all.2,
    check_outcome session req (begin_check inode) so_far (check_begins-wanted inode),
  )
  steps_wanted so_far session req next moved (CheckGoesOn number work attempt status bytes check step ends is) all = (
    sole_wanted session req (Checking step.check) (without_ended_work session req work status so_far)
        (steps_free so_far session req next moved (CheckGoesOn number work attempt status bytes check step ends is) sound all.0).free
        (freed_wanted session req work status so_far all.2),
    check_outcome session req step (without_ended_work session req work status so_far) (check_goes_on-wanted bytes check step is),
  )
  steps_wanted so_far session req next moved (ObjectBegins asked arrival) all = (
    sole_wanted session req (DoingWork asked) so_far (steps_free so_far session req next moved (ObjectBegins asked arrival) sound all.0).free all.2,
    sole_outcome session req (DoingWork asked) so_far asked refl,
  )
  steps_wanted so_far session req next moved (ObjectIsDone number work attempt status bytes asked ends) all =
      (freed_wanted session req work status so_far all.2, tt)
  steps_wanted so_far session req next moved (EntryBegins entry arrival) all =
      (sole_wanted session req (AwaitingDecision entry) so_far (steps_free so_far session req next moved (EntryBegins entry arrival) sound all.0).free all.2, tt)
  steps_wanted so_far session req next moved (EntryDecided entry wanted from read there waits) all = (all.2, tt)

  -- the next work is what its request waits for
  next_wanted : (so_far : StepState) (session req : ℕ) (asked : Work) (lined : StepState) → WorkIsNext input node so_far session req asked lined
      → WaitsWell so_far → AreWanted lined × IsWantedAt lined.node.sessions (tree.get lined.node.requests req) asked.work
  next_wanted so_far session req asked lined (AtOnce work moved steps begins) all =
      let now = steps_wanted so_far session req (ToWork work) moved steps all in
      let after : Session = record (session_in session moved) { inode_queue = queue_with_open (session_in session moved).inode_queue req work } in (
        session_wanted moved.node.gateway.works moved.node.requests moved.node.sessions session after refl refl now.0,
        same_seen open_in (Waits work) moved.node.sessions session after refl (tree.get moved.node.requests req) now.1,
      )
  next_wanted so_far session req asked lined (InTurn work later none is) all = (
    λ q other has. same_seen open_in (Waits other) so_far.node.sessions session after refl (tree.get so_far.node.requests q) (all.2 q other (had q other has)),
    same_seen open_in (Waits work) so_far.node.sessions session after refl (tree.get so_far.node.requests req)
        (all.2 req work (inr (session, subst (λ (list : List lines.Waiting). Contains list first) (sym is) (Contains-first first first later refl)))),
  )
    where
      first : lines.Waiting
      first = record { req = req; work = work }

      after : Session
      after = record (session_in session so_far) { inode_queue = record { current = Some req; waiting = later } }

      in_line : (q : ℕ) (other : ObjWork) (k : ℕ) → Contains (waiting_in k (tree.insert so_far.node.sessions session after)) (record { req = q; work = other })
          → Contains (waiting_in k so_far.node.sessions) (record { req = q; work = other })
      in_line q other k there = ⊎_elim
          (λ (here : k ≡ session).
          let now : waiting_in k (tree.insert so_far.node.sessions session after) ≡ later
          = ap (λ (k : ℕ). waiting_in k (tree.insert so_far.node.sessions session after)) here
          ∙ ap (λ (o : Option Session). (unwrap_or o new_session).inode_queue.waiting) (get-insert_same so_far.node.sessions session after) in
          let was : waiting_in k so_far.node.sessions ≡ first ∷ later = ap (λ (k : ℕ). waiting_in k so_far.node.sessions) here ∙ is in
          subst (λ (list : List lines.Waiting). Contains list (record { req = q; work = other })) (sym was)
          (Contains-cons first later (record { req = q; work = other })
          (subst (λ (list : List lines.Waiting). Contains list (record { req = q; work = other })) now there)))
          (λ (apart : k ≢ session).
          subst (λ (list : List lines.Waiting). Contains list (record { req = q; work = other }))
          (ap (λ (o : Option Session). (unwrap_or o new_session).inode_queue.waiting) (get-insert_other so_far.node.sessions session after k apart)) there)
          (cases_eq k session)

      had : (q : ℕ) (other : ObjWork) → HasWork q other so_far.node.gateway.works (tree.insert so_far.node.sessions session after)
          → HasWork q other so_far.node.gateway.works so_far.node.sessions
      had q other (inl one) = inl one
      had q other (inr (k, there)) = inr (k, in_line q other k there)
  next_wanted so_far session req asked lined (Again work course from next there request) all = (all.2, all.2 req asked.work (inl (asked, there, refl)))
  next_wanted so_far session req asked lined (AgainAlone work from next there none) all = (all.2, all.2 req asked.work (inl (asked, there, refl)))

  -- the work is at the gateway
  begun_wanted : (so_far : StepState) (session req : ℕ) (asked now : Work) (lined : StepState) → WorkIsNext input node so_far session req asked lined
      → now.work ≡ asked.work → WaitsWell so_far
      → HaveWantedWorks (tree.insert lined.node.gateway.works req now) lined.node.requests lined.node.sessions
  begun_wanted so_far session req asked now lined comes same all =
      let next = next_wanted so_far session req asked lined comes all in
      work_wanted lined.node.gateway.works lined.node.requests lined.node.sessions req now
      (subst (λ (work : ObjWork). IsWantedAt lined.node.sessions (tree.get lined.node.requests req) work) (sym same) next.1) next.0

  change_keeps_wanted : (so_far next : StepState) → Change input node so_far next → WaitsWell so_far → AreWanted next
  change_keeps_wanted so_far next (changes.Marks req number work attempt status learns over) all =
      λ q other has. all.2 q other (stage_had so_far.node.gateway.works so_far.node.sessions req work
      (record work { stage = Open (attempt_with_status number status attempt) }) learns.there refl q other has)
  change_keeps_wanted so_far next (changes.Fails session req number work attempt status course ends done why) all =
      λ q other has. all.2 q other (stage_had so_far.node.gateway.works so_far.node.sessions req work
      (record work { ended = work.ended + 1; stage = Ended }) ends.learns.there refl q other has)
  change_keeps_wanted so_far next (changes.Stops session req number work attempt status course bytes ends over) all =
      freed_wanted session req work status so_far all.2
  change_keeps_wanted so_far next (changes.Refuses session req number work attempt status course cause ends done why) all =
      course_refused-keeps AreWanted ended_wanted (λ entry before now. now) session req cause course
      (without_ended_work session req work status so_far) (freed_wanted session req work status so_far all.2)
  change_keeps_wanted so_far next (changes.Opens session req asked lined comes short) all =
      begun_wanted so_far session req asked (record asked { stage = Open (attempt_in asked lined.node) }) lined comes refl all
  change_keeps_wanted so_far next (changes.Holds session req asked lined comes short touched) all =
      begun_wanted so_far session req asked (record asked { stage = WaitsForMembers (record { 0 = lined.node.peer.epoch }) }) lined comes refl all
  change_keeps_wanted so_far next (changes.Denies session req asked lined request comes short untouched there own) all =
      request_refused-keeps AreWanted ended_wanted (λ entry before now. now) req (Halt (zones_of_members lined.node) (zones_for asked.work)) request
      (without_denied_work session req asked lined)
      (session_wanted (tree.remove lined.node.gateway.works req) lined.node.requests lined.node.sessions session
      (record (session_in session lined) { inode_queue = queue_after_end (session_in session lined).inode_queue asked.work }) refl refl
      (λ q work has. (next_wanted so_far session req asked lined comes all).0 q work
      (gone_had lined.node.gateway.works lined.node.sessions req q work has)))
  change_keeps_wanted so_far next (changes.Strays req work gateway there none apart) all = strayed_wanted req gateway so_far none apart all.2
  change_keeps_wanted so_far next (changes.Lines session req work moved steps waits) all =
      let now = steps_wanted so_far session req (ToWork work) moved steps all in
      lined_wanted session req work moved now.0 now.1
  change_keeps_wanted so_far next (changes.Appends session req entry moved steps) all = (steps_wanted so_far session req (ToEntry entry) moved steps all).0
  change_keeps_wanted so_far next (changes.Replies session req reply moved steps) all =
      ended_wanted session req reply moved (steps_wanted so_far session req (ToReply reply) moved steps all).0
  change_keeps_wanted so_far next (changes.Arrives session req ask disk arrival on) all =
      let after : Session = record (session_in session so_far) { queue = (session_in session so_far).queue ++ queued_as disk.inode.spec.shift req ask ∷ [] } in
      let free = free_in req so_far (ap may_work_at (arrival.none sound)) all.0 in
      moved_wanted req (record { session = session; course = Waiting ask }) session after so_far
      (record {
        idle = free.idle;
        out = λ k waiting there.
            free.out k waiting (subst (λ (list : List lines.Waiting). Contains list waiting) (same_waiting so_far.node.sessions session after refl k) there);
      }) refl
      (λ q other work is. same_seen open_in (Waits work) so_far.node.sessions session after refl (tree.get so_far.node.requests q) is) all.2
  change_keeps_wanted so_far next (changes.Rejects session req ask cause arrival) all = all.2
  change_keeps_wanted so_far next (changes.Recovers due) all = all.2

  change_keeps_all : (so_far next : StepState) → Change input node so_far next → WaitsWell so_far → WaitsWell next
  change_keeps_all so_far next change all = (
    change_keeps_one_work so_far next change sound all.0,
    change_keeps_alone may queued sole so_far next change all.1,
    change_keeps_wanted so_far next change all,
  )

none_wanted : HaveWantedWorks tree.empty tree.empty tree.empty
none_wanted req work has = subst (λ (o : Option Request). IsWantedAt tree.empty o work) (sym (tree.get-empty {X = Request} nat_cmp req)) tt

received_wanted : (input : Input) (node : Node) → AreWanted (at_first node) → AreWanted (input_received input (at_first node))
received_wanted = received_keeps (λ works requests sessions. HaveWantedWorks works requests sessions) none_wanted

pub works_wanted_at_opening : (me : NodeId) (tries : ℕ) → WorksAreWanted (initial_node me tries)
works_wanted_at_opening me tries = none_wanted

-- and in the middle of a step, beside what goes with it
pub waits_well_in_chain : (input : Input) (node : Node) → May input node → HasOneWorkPerRequest node → QueuesAreDiskRequests node
    → CommandsAreAlone node → WorksAreWanted node → (so_far : StepState) → Leads input node (input_received input (at_first node)) so_far
    → WaitsWell so_far
waits_well_in_chain input node may driven queued sole wanted so_far leads =
    let sound : IsSoundStep input node = (meets_numbers input node may.condition, driven) in
    kept_by_chain WaitsWell (λ so_far next change. change_keeps_all may sound queued sole so_far next change) leads (
      received_one_work input node driven.driven,
      received_alone input node sole,
      received_wanted input node wanted,
    )

pub works_stay_wanted : (input : Input) (node : Node) → May input node → HasOneWorkPerRequest node → QueuesAreDiskRequests node
    → CommandsAreAlone node → WorksAreWanted node → WorksAreWanted (node_step input node).node
works_stay_wanted input node may driven queued sole wanted =
    (waits_well_in_chain input node may driven queued sole wanted (node_step input node) (step_chain input node)).2
