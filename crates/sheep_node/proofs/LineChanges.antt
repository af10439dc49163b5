-- Every change leaves the lines of sessions with the gateway's works.
use Rattle.std.proofs.Common.{◌≡◌, ◌≢◌, ℕ, ◌+◌, Bool, true, false, not, ◌||◌, cond, List, [], ◌∷◌, ◌++◌, All, Contains, Option, Some, None, is_none, unwrap_or, refl, sym, ap, subst, ◌∙◌}
use Rattle.std.specs.Ordering.{nat_cmp}
use Rattle.std.specs.FinMap as tree
use Rattle.std.proofs.lemmas.List.Elements.{All-head, All-nil, All-push, All-tail}
use Rattle.proof_tools.proofs.Lists.{Contains-first}
use Rattle.proof_tools.proofs.FiniteMaps.{get-insert_other, get-insert_same, get-remove_other, get-remove_same}
use Rattle.object_id.specs.declared.cause.Cause.{Cause}
use Rattle.object_id.specs.declared.cause.Cause.TheVariants.{Halt}
use Rattle.object_id.specs.declared.node.NodeId.{NodeId}
use Rattle.peer_proto.specs.declared.guest.GuestRsp.{GuestRsp}
use Rattle.peer_proto.specs.declared.work.ObjWork.{ObjWork}
use Rattle.gateway.specs.declared.message.Status.{Status}
use Rattle.gateway.specs.Work.{zones_for}
use Rattle.gateway.specs.Attempt.{Attempt}
use Rattle.gateway.specs.State.{Work, Open, Ended, WaitsForMembers}
use Rattle.gateway.specs.Step.{attempt_with_status}
use Rattle.gateway_queue.specs.Queue.{queue_without}
use Rattle.guest_driver.specs.Driver.{begin_driver}
use Rattle.guest_driver.specs.InodeQueue as lines
use Rattle.guest_driver.specs.InodeQueue.{InodeQueue, is_on_inode, may_open_work, queue_with_open, queue_with_waiting, queue_after_end}
use Rattle.disk_check.specs.Check.{begin_check}
use Rattle.vdi_ops.specs.Op.{disk_change_at, OpStep}
use Rattle.sheep_node.specs.declared.input.Input.{Input}
use Rattle.sheep_node.specs.declared.course.Course.{Course}
use Rattle.sheep_node.specs.declared.course.Request.{Request}
use Rattle.sheep_node.specs.declared.session.Session.{Session}
use Rattle.sheep_node.specs.declared.course.Course.TheVariants.{Waiting, Driving, Commanding, Checking, DoingWork, AwaitingDecision}
use Rattle.sheep_node.specs.State.{Node, new_session, initial_node}
use Rattle.sheep_node.specs.StepState.{StepState, at_first, session_in, with_session, with_course, with_sole_request, request_ended}
use Rattle.sheep_node.specs.Courses.{disk_after, after_command_step}
use Rattle.sheep_node.specs.Guests.{queued_as}
use Rattle.sheep_node.specs.Step.{node_step}
use Rattle.sheep_node.specs.May.{May}
use Rattle.sheep_node.specs.OneWork.{may_work_at, waiting_in, HasOneWorkPerRequest}
use Rattle.sheep_node.specs.OpenLines.{HasInodeWork, IsOnInode, LinesAreOpen, HasOpenLines}
use Rattle.sheep_node.specs.Changes as changes
use Rattle.sheep_node.specs.Changes.{HasRequest, IsSoundStep, input_received, EndsAttempt, Outcome, ToWork, ToEntry, ToReply, RequestSteps, DiskBegins, DiskGoesOn, CommandBegins, CommandGoesOn, CommandDecided, CheckBegins, CheckGoesOn, ObjectBegins, ObjectIsDone, EntryBegins, EntryDecided, WorkIsNext, AtOnce, InTurn, Again, AgainAlone, without_ended_work, without_denied_work, zones_of_members, attempt_in, Change}
use Rattle.sheep_node.proofs.LineParts.{line_in, session_lined, same_line_lined, request_lined, work_lined, begun_lined, ended_lined}
use Rattle.sheep_node.proofs.NumberChanges.{meets_numbers}
use Rattle.sheep_node.proofs.OneWorkChanges.{StepHasOneWork, steps_free, free_in, comes_free, never_alone, change_keeps_one_work, received_one_work}
use Rattle.sheep_node.proofs.OneWorkParts.{Requests, Sessions}
use Rattle.sheep_node.proofs.ReceivedInputs.{received_keeps}
use Rattle.sheep_node.proofs.RefusedCourses.{this_refused-keeps, this_if_there-keeps}
use Rattle.sheep_node.proofs.StepChain.{kept_by_chain, step_chain}

abbrev pub StepIsLined : StepState → Type 0
StepIsLined so_far = LinesAreOpen so_far.node.gateway.works so_far.node.requests so_far.node.sessions

-- a request without a work is in another course, and its session changes, but for its line
moved : (req : ℕ) (now : Request) (number : ℕ) (session : Session) (so_far : StepState) → tree.get so_far.node.gateway.works req ≡ None
    → session.inode_queue ≡ (session_in number so_far).inode_queue → StepIsLined so_far
    → LinesAreOpen so_far.node.gateway.works (tree.insert so_far.node.requests req now) (tree.insert so_far.node.sessions number session)
moved req now number session so_far idle same lined =
    request_lined so_far.node.gateway.works so_far.node.requests (tree.insert so_far.node.requests req now)
    (tree.insert so_far.node.sessions number session) req idle (λ q other. get-insert_other so_far.node.requests req now q other)
    (same_line_lined so_far.node.gateway.works so_far.node.requests so_far.node.sessions number session same lined)

-- a request without a work ends
ended : (session req : ℕ) (reply : GuestRsp) (so_far : StepState) → tree.get so_far.node.gateway.works req ≡ None → StepIsLined so_far
    → StepIsLined (request_ended session req reply so_far)
unfolding request_ended
ended session req reply so_far idle lined =
    let after : Session = record (session_in session so_far) { queue = queue_without req (session_in session so_far).queue; command = None } in
    request_lined so_far.node.gateway.works so_far.node.requests (tree.remove so_far.node.requests req)
    (tree.insert so_far.node.sessions session after) req idle (λ q other. get-remove_other so_far.node.requests req q other)
    (same_line_lined so_far.node.gateway.works so_far.node.requests so_far.node.sessions session after refl lined)

-- the state of a step in which a request has no work
abbrev IsLinedWithout : ℕ → StepState → Type 0
IsLinedWithout req so_far = StepIsLined so_far × (tree.get so_far.node.gateway.works req ≡ None)

ended_without : (req session : ℕ) (reply : GuestRsp) (so_far : StepState) → IsLinedWithout req so_far
    → IsLinedWithout req (request_ended session req reply so_far)
unfolding request_ended
ended_without req session reply so_far now = (ended session req reply so_far now.1 now.0, now.1)

command_moved : (session req : ℕ) (step : OpStep) (so_far : StepState) → tree.get so_far.node.gateway.works req ≡ None → StepIsLined so_far
    → StepIsLined (after_command_step session req step so_far)
command_moved session req step so_far idle lined =
    moved req (record { session = session; course = Commanding step.op }) session
    (record (session_in session so_far) {
      disk = disk_after (disk_change_at step.op.stage) (session_in session so_far).disk;
      command = Some req;
    }) so_far idle refl lined

sole_moved : (session req : ℕ) (course : Course) (so_far : StepState) → tree.get so_far.node.gateway.works req ≡ None → StepIsLined so_far
    → StepIsLined (with_sole_request session req course so_far)
sole_moved session req course so_far idle lined =
    moved req (record { session = session; course = course }) session (record (session_in session so_far) { command = Some req }) so_far idle
    refl lined

-- no work on an inode begins where one is open
none_open : (current : Option ℕ) (on : Bool) → (not on || is_none current) ≡ true → on ≡ true → current ≡ None
none_open None on may is = refl
none_open (Some req) true may is = absurd (cc (may))
none_open (Some req) false may is = absurd (cc (is))

module _ {input : Input} {node : Node} where
  freed : (so_far : StepState) (session req number : ℕ) (work : Work) (attempt : Attempt) (status : Status) (course : Course)
      → EndsAttempt input node so_far session req number work attempt status course → StepIsLined so_far
      → IsLinedWithout req (without_ended_work session req work status so_far)
  freed so_far session req number work attempt status course ends lined =
      let works = so_far.node.gateway.works in
      let after : Session = record (session_in session so_far) { inode_queue = queue_after_end (session_in session so_far).inode_queue work.work } in (
        ended_lined works (tree.remove works req) so_far.node.requests so_far.node.sessions session req work
            (record { session = session; course = course }) after ends.learns.there (get-remove_same works req)
            (λ q other. get-remove_other works req q other) ends.request refl refl refl lined,
        get-remove_same works req,
      )

  module _ (sound : IsSoundStep input node) where
    -- ---- a step that a request takes

    module _ (so_far : StepState) (session req : ℕ) where
      idle : (next : Outcome) (moved : StepState) → RequestSteps input node so_far session req next moved → StepHasOneWork so_far
          → tree.get moved.node.gateway.works req ≡ None
      idle next moved steps good = (steps_free so_far session req next moved steps sound good).free.idle

      steps_lined : (next : Outcome) (moved : StepState) → RequestSteps input node so_far session req next moved → StepHasOneWork so_far
          → StepIsLined so_far → StepIsLined moved
      steps_lined next now (DiskBegins ask disk there on may) good lined =
          moved req (record { session = session; course = Driving (begin_driver disk ask).driver }) session
          (record (session_in session so_far) { disk = Some (record disk { inode = (begin_driver disk ask).inode }) }) so_far
          (idle next now (DiskBegins ask disk there on may) good) refl lined
      steps_lined next now (DiskGoesOn number work attempt status bytes driver disk step ends on is) good lined =
          let freed_so_far = without_ended_work session req work status so_far in
          let before = freed so_far session req number work attempt status (Driving driver) ends.ends lined in
          moved req (record { session = session; course = Driving step.driver }) session
          (record (session_in session freed_so_far) { disk = Some (record disk { inode = step.inode }) }) freed_so_far before.1 refl before.0
      steps_lined next now (CommandBegins ask step arrival is) good lined =
          command_moved session req step so_far (idle next now (CommandBegins ask step arrival is) good) lined
      steps_lined next now (CommandGoesOn number work attempt status bytes op step ends is) good lined =
          let before = freed so_far session req number work attempt status (Commanding op) ends.ends lined in
          command_moved session req step (without_ended_work session req work status so_far) before.1 before.0
      steps_lined next now (CommandDecided entry op step from read there waits is) good lined =
          command_moved session req step so_far (idle next now (CommandDecided entry op step from read there waits is) good) lined
      steps_lined next now (CheckBegins inode arrival on) good lined =
          sole_moved session req (Checking (begin_check inode).check) so_far (idle next now (CheckBegins inode arrival on) good) lined
      steps_lined next now (CheckGoesOn number work attempt status bytes check step ends is) good lined =
          let before = freed so_far session req number work attempt status (Checking check) ends.ends lined in
          sole_moved session req (Checking step.check) (without_ended_work session req work status so_far) before.1 before.0
      steps_lined next now (ObjectBegins asked arrival) good lined =
          sole_moved session req (DoingWork asked) so_far (idle next now (ObjectBegins asked arrival) good) lined
      steps_lined next now (ObjectIsDone number work attempt status bytes asked ends) good lined =
          (freed so_far session req number work attempt status (DoingWork asked) ends.ends lined).0
      steps_lined next now (EntryBegins entry arrival) good lined =
          sole_moved session req (AwaitingDecision entry) so_far (idle next now (EntryBegins entry arrival) good) lined
      steps_lined next now (EntryDecided entry wanted from read there waits) good lined = lined

    -- ---- a work's turn has come

    -- the next work is at the gateway
    begun : (so_far : StepState) (session req : ℕ) (asked now : Work) (lined : StepState) → WorkIsNext input node so_far session req asked lined
        → now.work ≡ asked.work → StepHasOneWork so_far → StepIsLined so_far
        → LinesAreOpen (tree.insert lined.node.gateway.works req now) lined.node.requests lined.node.sessions
    begun so_far session req asked now lined (AtOnce work moved steps begins) same good before =
        let line : InodeQueue = (session_in session moved).inode_queue in
        let free = steps_free so_far session req (ToWork work) moved steps sound good in
        let there = steps_lined so_far session req (ToWork work) moved steps good before in
        begun_lined moved.node.gateway.works moved.node.requests moved.node.sessions session req now
        (record { session = session; course = free.course }) (record (session_in session moved) { inode_queue = queue_with_open line req work })
        free.free.idle free.there refl (ap (λ (work : ObjWork). cond (is_on_inode work) (Some req) line.current) (sym same))
        (λ on. none_open line.current (is_on_inode work) begins (ap is_on_inode (sym same) ∙ on)) (there.waiting session) there
    begun so_far session req asked now lined (InTurn work later none is) same good before =
        let first : lines.Waiting = record { req = req; work = work } in
        let free = comes_free so_far session req asked lined (InTurn work later none is) sound good in
        let waits : All IsOnInode (first ∷ later) = subst (All IsOnInode) is (before.waiting session) in
        let on : is_on_inode now.work ≡ true = ap is_on_inode same ∙ All-head IsOnInode first later waits in
        let idle : tree.get so_far.node.gateway.works req ≡ None
        = good.waiting_free session first
        (subst (λ (list : List lines.Waiting). Contains list first) (sym is) (Contains-first first first later refl)) in
        begun_lined so_far.node.gateway.works so_far.node.requests so_far.node.sessions session req now
        (record { session = session; course = free.course })
        (record (session_in session so_far) { inode_queue = record { current = Some req; waiting = later } }) idle free.there refl
        (ap (λ (b : Bool). cond b (Some req) (session_in session so_far).inode_queue.current) (sym on)) (λ is. none)
        (All-tail IsOnInode first later waits) before
    begun so_far session req asked now lined (Again work course from next there request) same good before =
        work_lined so_far.node.gateway.works so_far.node.requests so_far.node.sessions req asked now there same before
    begun so_far session req asked now lined (AgainAlone work from next there none) same good before =
        absurd (never_alone req asked so_far there none good)

    -- ---- every change

    pub change_keeps_lined : (so_far next : StepState) → Change input node so_far next → StepHasOneWork so_far → StepIsLined so_far → StepIsLined next
    change_keeps_lined so_far next (changes.Marks req number work attempt status learns over) good lined =
        work_lined so_far.node.gateway.works so_far.node.requests so_far.node.sessions req work
        (record work { stage = Open (attempt_with_status number status attempt) }) learns.there refl lined
    change_keeps_lined so_far next (changes.Fails session req number work attempt status course ends done why) good lined =
        work_lined so_far.node.gateway.works so_far.node.requests so_far.node.sessions req work
        (record work { ended = work.ended + 1; stage = Ended }) ends.learns.there refl lined
    change_keeps_lined so_far next (changes.Stops session req number work attempt status course bytes ends over) good lined =
        (freed so_far session req number work attempt status course ends.ends lined).0
    change_keeps_lined so_far next (changes.Refuses session req number work attempt status course cause ends done why) good lined =
        (this_refused-keeps req (IsLinedWithout req) (ended_without req) (λ entry before now. now) session cause course
        (without_ended_work session req work status so_far) (freed so_far session req number work attempt status course ends lined)).0
    change_keeps_lined so_far next (changes.Opens session req asked lined comes short) good before =
        begun so_far session req asked (record asked { stage = Open (attempt_in asked lined.node) }) lined comes refl good before
    change_keeps_lined so_far next (changes.Holds session req asked lined comes short touched) good before =
        begun so_far session req asked (record asked { stage = WaitsForMembers (record { 0 = lined.node.peer.epoch }) }) lined comes refl good before
    change_keeps_lined so_far next (changes.Denies session req asked lined request comes short untouched there own) good before =
        let works = lined.node.gateway.works in
        let free = comes_free so_far session req asked lined comes sound good in
        let after : Session = record (session_in session lined) { inode_queue = queue_after_end (session_in session lined).inode_queue asked.work } in
        (this_if_there-keeps req (IsLinedWithout req) (ended_without req) (λ entry before now. now)
        (Halt (zones_of_members lined.node) (zones_for asked.work)) request (without_denied_work session req asked lined) (
          ended_lined (tree.insert works req asked) (tree.remove works req) lined.node.requests lined.node.sessions session req asked
              (record { session = session; course = free.course }) after (get-insert_same works req asked) (get-remove_same works req)
              (λ q other. get-remove_other works req q other ∙ sym (get-insert_other works req asked q other)) free.there refl refl refl
              (begun so_far session req asked asked lined comes refl good before),
          get-remove_same works req,
        )).0
    change_keeps_lined so_far next (changes.Strays req work gateway there none apart) good lined =
        absurd (never_alone req work so_far there none good)
    change_keeps_lined so_far next (changes.Lines session req work moved steps waits) good lined =
        let line : InodeQueue = (session_in session moved).inode_queue in
        let now = steps_lined so_far session req (ToWork work) moved steps good lined in
        session_lined moved.node.gateway.works moved.node.requests moved.node.sessions session
        (record (session_in session moved) { inode_queue = queue_with_waiting line req work }) refl
        (All-push IsOnInode line.waiting (record { req = req; work = work }) (now.waiting session)
        (on_inode (is_on_inode work) (is_none line.current) waits)) now
      where
        on_inode : (on none : Bool) → (not on || none) ≡ false → on ≡ true
        on_inode true none waits = refl
        on_inode false none waits = absurd (cc (waits))
    change_keeps_lined so_far next (changes.Appends session req entry moved steps) good lined =
        steps_lined so_far session req (ToEntry entry) moved steps good lined
    change_keeps_lined so_far next (changes.Replies session req reply moved steps) good lined =
        ended session req reply moved (idle so_far session req (ToReply reply) moved steps good)
        (steps_lined so_far session req (ToReply reply) moved steps good lined)
    change_keeps_lined so_far next (changes.Arrives session req ask disk arrival on) good lined =
        moved req (record { session = session; course = Waiting ask }) session
        (record (session_in session so_far) { queue = (session_in session so_far).queue ++ queued_as disk.inode.spec.shift req ask ∷ [] }) so_far
        (free_in req so_far (ap may_work_at (arrival.none sound)) good).idle refl lined
    change_keeps_lined so_far next (changes.Rejects session req ask cause arrival) good lined = lined
    change_keeps_lined so_far next (changes.Recovers due) good lined = lined

pub none_lined : LinesAreOpen tree.empty tree.empty tree.empty
none_lined = record {
  current = λ number req. (
    (λ is.
        let none : (line_in number tree.empty).current ≡ None = ap (λ (line : InodeQueue). line.current) (new_line number) in
        absurd (cc (none, is))),
    λ has.
        let none = tree.get-empty {X = Work} nat_cmp req in
        let there = has.there in
        absurd (cc (none, there)),
  );
  waiting = λ number. subst (λ (line : InodeQueue). All IsOnInode line.waiting) (sym (new_line number)) (All-nil IsOnInode);
}
  where
    new_line : (number : ℕ) → line_in number tree.empty ≡ new_session.inode_queue
    new_line number = ap (λ (o : Option Session). (unwrap_or o new_session).inode_queue) (tree.get-empty {X = Session} nat_cmp number)

pub lines_open_at_opening : (me : NodeId) (tries : ℕ) → HasOpenLines (initial_node me tries)
lines_open_at_opening me tries = none_lined

pub lines_stay_open : (input : Input) (node : Node) → May input node → HasOneWorkPerRequest node → HasOpenLines node
    → HasOpenLines (node_step input node).node
lines_stay_open input node may driven lined =
    let sound : IsSoundStep input node = (meets_numbers input node may.condition, driven) in
    (kept_by_chain (λ so_far. StepHasOneWork so_far × StepIsLined so_far)
    (λ so_far next change all.
    (change_keeps_one_work so_far next change sound all.0, change_keeps_lined sound so_far next change all.0 all.1))
    (step_chain input node) (
      received_one_work input node driven.driven,
      received_keeps (λ works requests sessions. LinesAreOpen works requests sessions) none_lined input node lined,
    )).1
