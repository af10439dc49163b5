-- Over each change in the middle of a step a work that is open, or waits in a line, was so before, or is the one to which its request comes
-- by the change.
use Rattle.std.proofs.Common.{◌≡◌, ◌≢◌, ◌⊎◌, inl, inr, ⊎_elim, ℕ, ◌+◌, List, [], ◌∷◌, ◌++◌, Contains, Option, Some, None, unwrap_or, refl}
use Rattle.std.proofs.Common.{sym, ap, subst, ◌∙◌}
use Rattle.std.specs.FinMap as tree
use Rattle.std.proofs.lemmas.Bool.{cases_eq}
use Rattle.std.proofs.lemmas.List.Elements.{Contains-push_cases}
use Rattle.proof_tools.proofs.Lists.{Contains-cons, Contains-first}
use Rattle.proof_tools.proofs.FiniteMaps.{get-insert_same, get-insert_other, get-insert_cases}
use Rattle.object_id.specs.declared.cause.Cause.TheVariants.{Halt}
use Rattle.peer_proto.specs.declared.guest.GuestRsp.{GuestRsp}
use Rattle.peer_proto.specs.declared.work.ObjWork.{ObjWork}
use Rattle.gateway.specs.declared.message.Status.{Status}
use Rattle.gateway.specs.Work.{zones_for}
use Rattle.gateway.specs.State.{Open, Ended, WaitsForMembers, Gateway, Work}
use Rattle.gateway.specs.Step.{attempt_with_status}
use Rattle.gateway_queue.specs.Queue.{queue_without}
use Rattle.guest_driver.specs.InodeQueue as lines
use Rattle.guest_driver.specs.InodeQueue.{queue_with_open, queue_with_waiting, queue_after_end}
use Rattle.guest_driver.specs.declared.disk.Disk.{Disk}
use Rattle.guest_driver.specs.Driver.{DriverStep, begin_driver}
use Rattle.disk_check.specs.Check.{begin_check}
use Rattle.vdi_ops.specs.Op.{OpStep, disk_change}
use Rattle.sheep_node.specs.declared.course.Course.{Course}
use Rattle.sheep_node.specs.declared.course.Course.TheVariants.{Checking, DoingWork, AwaitingDecision}
use Rattle.sheep_node.specs.declared.input.Input.{Input}
use Rattle.sheep_node.specs.declared.session.Session.{Session}
use Rattle.sheep_node.specs.State.{Node, new_session}
use Rattle.sheep_node.specs.StepState.{StepState, session_in, request_ended, with_sole_request}
use Rattle.sheep_node.specs.Courses.{after_driver_step, disk_after, after_command_step}
use Rattle.sheep_node.specs.Guests.{queued_as}
use Rattle.sheep_node.specs.OneWork.{waiting_in}
use Rattle.sheep_node.specs.WantedWorks.{HasWork}
use Rattle.sheep_node.specs.Changes as changes
use Rattle.sheep_node.specs.Changes.{Outcome, ToWork, ToEntry, ToReply, without_ended_work, without_denied_work, zones_of_members}
use Rattle.sheep_node.specs.Changes.{attempt_in, IsApart, RequestSteps, DiskBegins, DiskGoesOn, CommandBegins, CommandGoesOn}
use Rattle.sheep_node.specs.Changes.{CommandDecided, CheckBegins, CheckGoesOn, ObjectBegins, ObjectIsDone, EntryBegins, EntryDecided}
use Rattle.sheep_node.specs.Changes.{WorkIsNext, AtOnce, InTurn, Again, AgainAlone, Change}
use Rattle.sheep_node.proofs.AwaitedWorks.{Works}
use Rattle.sheep_node.proofs.OneWorkParts.{Sessions}
use Rattle.sheep_node.proofs.RefusedCourses.{course_refused-keeps, request_refused-keeps}
use Rattle.sheep_node.proofs.WantedParts.{stage_had, gone_had, line_had}

-- ---- the first work of a session's line comes next

module _ (session req : ℕ) (work : ObjWork) (later : List lines.Waiting) (so_far : StepState)
    (is : waiting_in session so_far.node.sessions ≡ record { req = req; work = work } ∷ later) where
  abbrev first : lines.Waiting
  first = record { req = req; work = work }

  -- the line without it
  abbrev pub session_in_turn : Session
  session_in_turn = record (session_in session so_far) { inode_queue = record { current = Some req; waiting = later } }

  in_whole_line : (q : ℕ) (other : ObjWork) (k : ℕ)
      → Contains (waiting_in k (tree.insert so_far.node.sessions session session_in_turn)) (record { req = q; work = other })
      → Contains (waiting_in k so_far.node.sessions) (record { req = q; work = other })
  in_whole_line q other k there = ⊎_elim
      (λ (here : k ≡ session).
      let now : waiting_in k (tree.insert so_far.node.sessions session session_in_turn) ≡ later
      = ap (λ (k : ℕ). waiting_in k (tree.insert so_far.node.sessions session session_in_turn)) here
      ∙ ap (λ (o : Option Session). (unwrap_or o new_session).inode_queue.waiting)
      (get-insert_same so_far.node.sessions session session_in_turn) in
      let was : waiting_in k so_far.node.sessions ≡ first ∷ later = ap (λ (k : ℕ). waiting_in k so_far.node.sessions) here ∙ is in
      subst (λ (list : List lines.Waiting). Contains list (record { req = q; work = other })) (sym was)
      (Contains-cons first later (record { req = q; work = other })
      (subst (λ (list : List lines.Waiting). Contains list (record { req = q; work = other })) now there)))
      (λ (apart : k ≢ session).
      subst (λ (list : List lines.Waiting). Contains list (record { req = q; work = other }))
      (ap (λ (o : Option Session). (unwrap_or o new_session).inode_queue.waiting)
      (get-insert_other so_far.node.sessions session session_in_turn k apart)) there)
      (cases_eq k session)

  -- what is still there was there before
  pub had_in_turn : (q : ℕ) (other : ObjWork)
      → HasWork q other so_far.node.gateway.works (tree.insert so_far.node.sessions session session_in_turn)
      → HasWork q other so_far.node.gateway.works so_far.node.sessions
  had_in_turn q other (inl one) = inl one
  had_in_turn q other (inr (k, there)) = inr (k, in_whole_line q other k there)

  -- and so was the first
  pub has_first : HasWork req work so_far.node.gateway.works so_far.node.sessions
  has_first =
      inr (session, subst (λ (list : List lines.Waiting). Contains list first) (sym is) (Contains-first first first later refl))

-- each work is so
abbrev pub AreAll : (ℕ → ObjWork → Type 0) → Works → Sessions → Type 0
AreAll Q works sessions = (req : ℕ) (work : ObjWork) → HasWork req work works sessions → Q req work

abbrev pub AllSoFar : (ℕ → ObjWork → Type 0) → StepState → Type 0
AllSoFar Q so_far = AreAll Q so_far.node.gateway.works so_far.node.sessions

module _ (Q : ℕ → ObjWork → Type 0) where
  -- a session that keeps its line
  session_all : (works : Works) (sessions : Sessions) (number : ℕ) (session : Session)
      → session.inode_queue.waiting ≡ waiting_in number sessions → AreAll Q works sessions
      → AreAll Q works (tree.insert sessions number session)
  session_all works sessions number session line all q work has = all q work (line_had works sessions number session line q work has)

  freed_all : (number req : ℕ) (work : Work) (status : Status) (so_far : StepState) → AllSoFar Q so_far
      → AllSoFar Q (without_ended_work number req work status so_far)
  freed_all number req work status so_far all =
      session_all (tree.remove so_far.node.gateway.works req) so_far.node.sessions number
      (record (session_in number so_far) { inode_queue = queue_after_end (session_in number so_far).inode_queue work.work }) refl
      (λ q work has. all q work (gone_had so_far.node.gateway.works so_far.node.sessions req q work has))

  ended_all : (number req : ℕ) (reply : GuestRsp) (so_far : StepState) → AllSoFar Q so_far
      → AllSoFar Q (request_ended number req reply so_far)
  unfolding request_ended
  ended_all number req reply so_far all =
      session_all so_far.node.gateway.works so_far.node.sessions number
      (record (session_in number so_far) { queue = queue_without req (session_in number so_far).queue; command = None }) refl all

  driven_all : (number req : ℕ) (disk : Disk) (step : DriverStep) (so_far : StepState) → AllSoFar Q so_far
      → AllSoFar Q (after_driver_step number req disk step so_far)
  driven_all number req disk step so_far all =
      session_all so_far.node.gateway.works so_far.node.sessions number
      (record (session_in number so_far) { disk = Some (record disk { inode = step.inode }) }) refl all

  command_all : (number req : ℕ) (step : OpStep) (so_far : StepState) → AllSoFar Q so_far
      → AllSoFar Q (after_command_step number req step so_far)
  command_all number req step so_far all =
      session_all so_far.node.gateway.works so_far.node.sessions number
      (record (session_in number so_far) {
        disk = disk_after (disk_change step) (session_in number so_far).disk;
        command = Some req;
      }) refl all

  sole_all : (number req : ℕ) (course : Course) (so_far : StepState) → AllSoFar Q so_far
      → AllSoFar Q (with_sole_request number req course so_far)
  sole_all number req course so_far all =
      session_all so_far.node.gateway.works so_far.node.sessions number (record (session_in number so_far) { command = Some req }) refl all

  -- a step that a request takes leaves the works of the others
  steps_all : (input : Input) (node : Node) (so_far : StepState) (session req : ℕ) (next : Outcome) (moved : StepState)
      → RequestSteps input node so_far session req next moved → AllSoFar Q so_far → AllSoFar Q moved
  steps_all input node so_far session req next moved (DiskBegins ask disk there on may_run) all =
      driven_all session req disk (begin_driver disk ask) so_far all
  steps_all input node so_far session req next moved (DiskGoesOn number work attempt status bytes driver disk step ends on is) all =
      driven_all session req disk step (without_ended_work session req work status so_far) (freed_all session req work status so_far all)
  steps_all input node so_far session req next moved (CommandBegins ask step arrival is) all = command_all session req step so_far all
  steps_all input node so_far session req next moved (CommandGoesOn number work attempt status bytes op step ends is) all =
      command_all session req step (without_ended_work session req work status so_far) (freed_all session req work status so_far all)
  steps_all input node so_far session req next moved (CommandDecided entry op step from read there waits is) all =
      command_all session req step so_far all
  steps_all input node so_far session req next moved (CheckBegins inode arrival on) all =
      sole_all session req (Checking (begin_check inode).check) so_far all
  steps_all input node so_far session req next moved (CheckGoesOn number work attempt status bytes check step ends is) all =
      sole_all session req (Checking step.check) (without_ended_work session req work status so_far)
      (freed_all session req work status so_far all)
  steps_all input node so_far session req next moved (ObjectBegins asked arrival) all = sole_all session req (DoingWork asked) so_far all
  steps_all input node so_far session req next moved (ObjectIsDone number work attempt status bytes asked ends) all =
      freed_all session req work status so_far all
  steps_all input node so_far session req next moved (EntryBegins entry arrival) all =
      sole_all session req (AwaitingDecision entry) so_far all
  steps_all input node so_far session req next moved (EntryDecided entry wanted from read there waits) all = all

  -- a work comes
  pub work_all : (works : Works) (sessions : Sessions) (req : ℕ) (now : Work) → Q req now.work → AreAll Q works sessions
      → AreAll Q (tree.insert works req now) sessions
  work_all works sessions req now is all q work (inl (one, got, same)) = ⊎_elim
      (λ (own : (q ≡ req) × (now ≡ one)).
      subst (λ (work : ObjWork). Q q work) (ap (λ (work : Work). work.work) own.1 ∙ same)
      (subst (λ (k : ℕ). Q k now.work) (sym own.0) is))
      (λ (other : (q ≢ req) × (tree.get works q ≡ Some one)). all q work (inl (one, other.1, same)))
      (get-insert_cases works req now q one got)
  work_all works sessions req now is all q work (inr waits) = all q work (inr waits)

  -- a work whose request isn't there goes on in the gateway alone
  pub strayed_all : (req : ℕ) (gateway : Gateway) (so_far : StepState) → IsApart req so_far.node.gateway gateway → AllSoFar Q so_far
      → AreAll Q gateway.works so_far.node.sessions
  strayed_all req gateway so_far apart all q other (inl (one, got, is)) = ⊎_elim
      (λ (own : q ≡ req).
      let (was, there, same) = apart.same one (ap (tree.get gateway.works) (sym own) ∙ got) in
      all q other (inl (was, ap (tree.get so_far.node.gateway.works) own ∙ there, sym same ∙ is)))
      (λ (later : q ≢ req). all q other (inl (one, sym (apart.others q later) ∙ got, is)))
      (cases_eq q req)
  strayed_all req gateway so_far apart all q other (inr waits) = all q other (inr waits)

  -- a session's line has a work more
  module _ (session req : ℕ) (work : ObjWork) (so_far : StepState) (all : AllSoFar Q so_far) (is : Q req work) where
    abbrev new_waiting : lines.Waiting
    new_waiting = record { req = req; work = work }

    abbrev session_lined : Session
    session_lined = record (session_in session so_far) { inode_queue = queue_with_waiting (session_in session so_far).inode_queue req work }

    in_longer_line : (q : ℕ) (other : ObjWork)
        → Contains (waiting_in session so_far.node.sessions ++ new_waiting ∷ []) (record { req = q; work = other }) → Q q other
    in_longer_line q other there = ⊎_elim
        (λ (before : Contains (waiting_in session so_far.node.sessions) (record { req = q; work = other })).
        all q other (inr (session, before)))
        (λ (same : new_waiting ≡ record { req = q; work = other }). subst (λ (waiting : lines.Waiting). Q waiting.req waiting.work) same is)
        (Contains-push_cases (waiting_in session so_far.node.sessions) new_waiting (record { req = q; work = other }) there)

    pub lined_all : AreAll Q so_far.node.gateway.works
        (tree.insert so_far.node.sessions session
        (record (session_in session so_far) { inode_queue = queue_with_waiting (session_in session so_far).inode_queue req work }))
    lined_all q other (inl one) = all q other (inl one)
    lined_all q other (inr (k, there)) = ⊎_elim
        (λ (here : k ≡ session).
        let is : waiting_in k (tree.insert so_far.node.sessions session session_lined)
        ≡ waiting_in session so_far.node.sessions ++ new_waiting ∷ []
        = ap (λ (k : ℕ). waiting_in k (tree.insert so_far.node.sessions session session_lined)) here
        ∙ ap (λ (o : Option Session). (unwrap_or o new_session).inode_queue.waiting)
        (get-insert_same so_far.node.sessions session session_lined) in
        in_longer_line q other
        (subst (λ (list : List lines.Waiting). Contains list (record { req = q; work = other })) is there))
        (λ (apart : k ≢ session).
        let is : waiting_in k (tree.insert so_far.node.sessions session session_lined) ≡ waiting_in k so_far.node.sessions
        = ap (λ (o : Option Session). (unwrap_or o new_session).inode_queue.waiting)
        (get-insert_other so_far.node.sessions session session_lined k apart) in
        all q other (inr (k, subst (λ (list : List lines.Waiting). Contains list (record { req = q; work = other })) is there)))
        (cases_eq k session)

  -- ---- a change

  module _ (input : Input) (node : Node) (so_far : StepState) (all : AllSoFar Q so_far)
      (comes_so : (session req : ℕ) (work : ObjWork) (moved : StepState) → RequestSteps input node so_far session req (ToWork work) moved
      → Q req work) where
    -- the next work
    next_all : (session req : ℕ) (asked : Work) (lined : StepState) → WorkIsNext input node so_far session req asked lined
        → AllSoFar Q lined × Q req asked.work
    next_all session req asked lined (AtOnce work moved steps begins) =
        let after : Session
        = record (session_in session moved) { inode_queue = queue_with_open (session_in session moved).inode_queue req work } in (
          session_all moved.node.gateway.works moved.node.sessions session after refl
              (steps_all input node so_far session req (ToWork work) moved steps all),
          comes_so session req work moved steps,
        )
    next_all session req asked lined (InTurn work later none is) = (
      λ q other has. all q other (had_in_turn session req work later so_far is q other has),
      all req work (has_first session req work later so_far is),
    )
    next_all session req asked lined (Again work course from next there request) = (all, all req asked.work (inl (asked, there, refl)))
    next_all session req asked lined (AgainAlone work from next there none) = (all, all req asked.work (inl (asked, there, refl)))

    -- the work is at the gateway
    begun_all : (session req : ℕ) (asked now : Work) (lined : StepState) → WorkIsNext input node so_far session req asked lined
        → now.work ≡ asked.work → AreAll Q (tree.insert lined.node.gateway.works req now) lined.node.sessions
    begun_all session req asked now lined comes same =
        let next = next_all session req asked lined comes in
        work_all lined.node.gateway.works lined.node.sessions req now (subst (λ (work : ObjWork). Q req work) (sym same) next.1) next.0

    pub change_all : (next : StepState) → Change input node so_far next → AllSoFar Q next
    change_all next (changes.Marks req number work attempt status learns over) =
        λ q other has. all q other (stage_had so_far.node.gateway.works so_far.node.sessions req work
        (record work { stage = Open (attempt_with_status number status attempt) }) learns.there refl q other has)
    change_all next (changes.Fails session req number work attempt status course ends done why) =
        λ q other has. all q other (stage_had so_far.node.gateway.works so_far.node.sessions req work
        (record work { ended = work.ended + 1; stage = Ended }) ends.learns.there refl q other has)
    change_all next (changes.Stops session req number work attempt status course bytes ends over) =
        freed_all session req work status so_far all
    change_all next (changes.Refuses session req number work attempt status course cause ends done why) =
        course_refused-keeps (AllSoFar Q) ended_all (λ entry before now. now) session req cause course
        (without_ended_work session req work status so_far) (freed_all session req work status so_far all)
    change_all next (changes.Opens session req asked lined comes short) =
        begun_all session req asked (record asked { stage = Open (attempt_in asked lined.node) }) lined comes refl
    change_all next (changes.Holds session req asked lined comes short touched) =
        begun_all session req asked (record asked { stage = WaitsForMembers (record { 0 = lined.node.peer.epoch }) }) lined comes refl
    change_all next (changes.Denies session req asked lined request comes short untouched there own) =
        request_refused-keeps (AllSoFar Q) ended_all (λ entry before now. now) req
        (Halt (zones_of_members lined.node) (zones_for asked.work)) request (without_denied_work session req asked lined)
        (session_all (tree.remove lined.node.gateway.works req) lined.node.sessions session
        (record (session_in session lined) { inode_queue = queue_after_end (session_in session lined).inode_queue asked.work }) refl
        (λ q work has. (next_all session req asked lined comes).0 q work
        (gone_had lined.node.gateway.works lined.node.sessions req q work has)))
    change_all next (changes.Strays req work gateway there none apart) = strayed_all req gateway so_far apart all
    change_all next (changes.Lines session req work moved steps waits) =
        lined_all session req work moved (steps_all input node so_far session req (ToWork work) moved steps all)
        (comes_so session req work moved steps)
    change_all next (changes.Appends session req entry moved steps) =
        steps_all input node so_far session req (ToEntry entry) moved steps all
    change_all next (changes.Replies session req reply moved steps) =
        ended_all session req reply moved (steps_all input node so_far session req (ToReply reply) moved steps all)
    change_all next (changes.Arrives session req ask disk arrival on) =
        session_all so_far.node.gateway.works so_far.node.sessions session
        (record (session_in session so_far) {
          queue =
              (session_in session so_far).queue ++ queued_as disk.inode.spec.shift req ask ∷ [];
        }) refl all
    change_all next (changes.Rejects session req ask cause arrival) = all
    change_all next (changes.Recovers due) = all

-- ---- where a work comes from

-- its request comes to it now
pub record ComesNow (input : Input) (node : Node) (so_far : StepState) (req : ℕ) (work : ObjWork) : Type 0 where
  pub session : ℕ
  pub moved : StepState
  pub steps : RequestSteps input node so_far session req (ToWork work) moved

pub works_come : (input : Input) (node : Node) (so_far next : StepState) → Change input node so_far next → (req : ℕ) (work : ObjWork)
    → HasWork req work next.node.gateway.works next.node.sessions
    → HasWork req work so_far.node.gateway.works so_far.node.sessions ⊎ ComesNow input node so_far req work
works_come input node so_far next change =
    change_all
    (λ req work. HasWork req work so_far.node.gateway.works so_far.node.sessions ⊎ ComesNow input node so_far req work)
    input node so_far (λ req work has. inl has)
    (λ session req work moved steps. inr (record { session = session; moved = moved; steps = steps })) next change
