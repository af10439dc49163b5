-- Works and the courses of their requests, with what their sessions have open: every change keeps what a step of a request keeps of them.
use Rattle.gateway.specs.State.{Work, Gateway, Open, Ended, WaitsForMembers}
use Rattle.gateway.specs.Step.{attempt_with_status}
use Rattle.gateway.specs.Work.{zones_for}
use Rattle.gateway.specs.declared.message.Status.{Status}
use Rattle.gateway_queue.specs.Queue.{queue_without}
use Rattle.guest_driver.specs.InodeQueue.{queue_with_open, queue_with_waiting, queue_after_end}
use Rattle.guest_driver.specs.declared.disk.Disk.{Disk}
use Rattle.object_id.specs.declared.cause.Cause.TheVariants.{Halt}
use Rattle.overlap_law.proofs.WorksCome.{had_in_turn, has_first, lined_all, session_in_turn, strayed_all, work_all}
use Rattle.overlap_law.proofs.CoursesOfAsks.{disk_in}
use Rattle.peer_proto.specs.declared.guest.GuestRsp.{GuestRsp}
use Rattle.peer_proto.specs.declared.work.ObjWork.{ObjWork}
use Rattle.proof_tools.proofs.FiniteMaps.{get-insert_other, get-remove_other, get-remove_same}
use Rattle.sheep_node.proofs.AwaitedWorks.{Works}
use Rattle.sheep_node.proofs.OneWorkChanges.{StepHasOneWork, free_in}
use Rattle.sheep_node.proofs.OneWorkParts.{Requests, Sessions, same_waiting}
use Rattle.sheep_node.proofs.ReceivedInputs.{received_keeps}
use Rattle.sheep_node.proofs.RefusedCourses.{course_refused-keeps, request_refused-keeps}
use Rattle.sheep_node.proofs.SessionViews.{IsSeen, same_seen}
use Rattle.sheep_node.proofs.SoleCommands.{free}
use Rattle.sheep_node.proofs.WantedParts.{stage_had, gone_had, line_had}
use Rattle.sheep_node.specs.Changes.{IsApart, without_ended_work, IsSoundStep, Outcome, ToWork, ToEntry, ToReply, without_denied_work}
use Rattle.sheep_node.specs.Changes.{zones_of_members, attempt_in, RequestSteps, WorkIsNext, AtOnce, InTurn, Again, AgainAlone}
use Rattle.sheep_node.specs.Changes.{input_received, Change}
use Rattle.sheep_node.specs.Guests.{queued_as}
use Rattle.sheep_node.specs.OneWork.{may_work_at, waiting_in, HasNoWork}
use Rattle.sheep_node.specs.SessionQueues.{session_among}
use Rattle.sheep_node.specs.State.{Node}
use Rattle.sheep_node.specs.StepState.{StepState, at_first, session_in, request_ended}
use Rattle.sheep_node.specs.WantedWorks.{HasWork}
use Rattle.sheep_node.specs.declared.course.Course.{Course}
use Rattle.sheep_node.specs.declared.course.Course.TheVariants.{Waiting}
use Rattle.sheep_node.specs.declared.course.Request.{Request}
use Rattle.sheep_node.specs.declared.input.Input.{Input}
use Rattle.sheep_node.specs.declared.session.Session.{Session}
use Rattle.std.proofs.Common.{◌≡◌, ◌≢◌, ℕ, List, [], ◌∷◌, ◌++◌, Contains, Option, None, refl, sym, ap, subst, ◌∙◌, inl, inr, ⊎_elim, ◌+◌}
use Rattle.std.proofs.lemmas.Bool.{cases_eq}
use Rattle.std.specs.Ordering.{nat_cmp}
use Rattle.guest_driver.specs.InodeQueue as lines
use Rattle.sheep_node.specs.Changes as changes
use Rattle.std.specs.FinMap as tree

module _ (Q : Option Disk → Course → ObjWork → Type 0) where
  -- that a course is so with a work
  abbrev At : ObjWork → Option Disk → Course → Type 0
  At work disk course = Q disk course work

  -- a request that was looked up is so with a work, if it is there
  abbrev pub IsAt : Sessions → Option Request → ObjWork → Type 0
  IsAt sessions request work = IsSeen disk_in (At work) sessions request

  -- that the request of a number is
  abbrev OfRequests : Requests → Sessions → ℕ → ObjWork → Type 0
  OfRequests requests sessions req work = IsAt sessions (tree.get requests req) work

  -- each work is so with its request
  abbrev pub HaveAt : Works → Requests → Sessions → Type 0
  HaveAt works requests sessions = (req : ℕ) (work : ObjWork) → HasWork req work works sessions → IsAt sessions (tree.get requests req) work

  abbrev pub AtSoFar : StepState → Type 0
  AtSoFar so_far = HaveAt so_far.node.gateway.works so_far.node.requests so_far.node.sessions

  -- a session that keeps its line and what it has open
  pub session_at : (works : Works) (requests : Requests) (sessions : Sessions) (number : ℕ) (session : Session)
      → session.inode_queue.waiting ≡ waiting_in number sessions → session.disk ≡ (session_among number sessions).disk
      → HaveAt works requests sessions → HaveAt works requests (tree.insert sessions number session)
  session_at works requests sessions number session line same all q work has =
      same_seen disk_in (At work) sessions number session same (tree.get requests q)
      (all q work (line_had works sessions number session line q work has))

  -- a work comes to a request that waits for it
  pub work_at : (works : Works) (requests : Requests) (sessions : Sessions) (req : ℕ) (now : Work)
      → IsAt sessions (tree.get requests req) now.work
      → HaveAt works requests sessions → HaveAt (tree.insert works req now) requests sessions
  work_at works requests sessions req now is all = work_all (OfRequests requests sessions) works sessions req now is all

  -- ---- a work or a request ends

  pub freed_at : (number req : ℕ) (work : Work) (status : Status) (so_far : StepState) → AtSoFar so_far
      → AtSoFar (without_ended_work number req work status so_far)
  freed_at number req work status so_far all =
      session_at (tree.remove so_far.node.gateway.works req) so_far.node.requests so_far.node.sessions number
      (record (session_in number so_far) { inode_queue = queue_after_end (session_in number so_far).inode_queue work.work }) refl refl
      (λ q work has. all q work (gone_had so_far.node.gateway.works so_far.node.sessions req q work has))

  pub ended_at : (number req : ℕ) (reply : GuestRsp) (so_far : StepState) → AtSoFar so_far → AtSoFar (request_ended number req reply so_far)
  unfolding request_ended
  ended_at number req reply so_far all =
      session_at so_far.node.gateway.works (tree.remove so_far.node.requests req) so_far.node.sessions number
      (record (session_in number so_far) { queue = queue_without req (session_in number so_far).queue; command = None }) refl refl
      (λ q work has. ⊎_elim
      (λ (own : q ≡ req).
      let none : tree.get (tree.remove so_far.node.requests req) q ≡ None
      = ap (tree.get (tree.remove so_far.node.requests req)) own ∙ get-remove_same so_far.node.requests req in
      subst (λ (o : Option Request). IsAt so_far.node.sessions o work) (sym none) tt)
      (λ (other : q ≢ req).
      subst (λ (o : Option Request). IsAt so_far.node.sessions o work) (sym (get-remove_other so_far.node.requests req q other))
      (all q work has))
      (cases_eq q req))

  -- a work whose request isn't there goes on in the gateway alone
  strayed_at : (req : ℕ) (gateway : Gateway) (so_far : StepState) → IsApart req so_far.node.gateway gateway → AtSoFar so_far
      → HaveAt gateway.works so_far.node.requests so_far.node.sessions
  strayed_at req gateway so_far apart all = strayed_all (OfRequests so_far.node.requests so_far.node.sessions) req gateway so_far apart all

  -- a work waits in its session's line
  lined_at : (session req : ℕ) (work : ObjWork) (so_far : StepState) → AtSoFar so_far
      → IsAt so_far.node.sessions (tree.get so_far.node.requests req) work
      → HaveAt so_far.node.gateway.works so_far.node.requests (tree.insert so_far.node.sessions session
      (record (session_in session so_far) { inode_queue = queue_with_waiting (session_in session so_far).inode_queue req work }))
  lined_at session req work so_far all is q other has =
      same_seen disk_in (At other) so_far.node.sessions session
      (record (session_in session so_far) { inode_queue = queue_with_waiting (session_in session so_far).inode_queue req work }) refl
      (tree.get so_far.node.requests q)
      (lined_all (OfRequests so_far.node.requests so_far.node.sessions) session req work so_far all is q other has)

  -- ---- a step that a request takes

  -- a request without a work is in another course, and its session changes so that others wait for what they did
  pub moved_at : (req : ℕ) (now : Request) (number : ℕ) (session : Session) (so_far : StepState)
      → HasNoWork req so_far.node.gateway.works (tree.insert so_far.node.sessions number session)
      → session.inode_queue.waiting ≡ waiting_in number so_far.node.sessions
      → ((q : ℕ) → q ≢ req → (work : ObjWork) → IsAt so_far.node.sessions (tree.get so_far.node.requests q) work
      → IsAt (tree.insert so_far.node.sessions number session) (tree.get so_far.node.requests q) work)
      → AtSoFar so_far
      → HaveAt so_far.node.gateway.works (tree.insert so_far.node.requests req now) (tree.insert so_far.node.sessions number session)
  moved_at req now number session so_far free line view all q work has = ⊎_elim
      (λ (own : q ≡ req). absurd (none own has))
      (λ (other : q ≢ req).
      subst (λ (o : Option Request). IsAt (tree.insert so_far.node.sessions number session) o work)
      (sym (get-insert_other so_far.node.requests req now q other))
      (view q other work (all q work (line_had so_far.node.gateway.works so_far.node.sessions number session line q work has))))
      (cases_eq q req)
    where
      none : q ≡ req → HasWork q work so_far.node.gateway.works (tree.insert so_far.node.sessions number session) → ⊥
      none own (inl (one, got, is)) =
          let idle : tree.get so_far.node.gateway.works q ≡ None = ap (tree.get so_far.node.gateway.works) own ∙ free.idle in
          absurd (cc (idle, got))
      none own (inr (k, there)) = free.out k (record { req = q; work = work }) there own

  -- a work that a request comes to is so with it
  abbrev pub IsOutcomeAt : ℕ → Outcome → StepState → Type 0
  IsOutcomeAt req (ToWork work) so_far = IsAt so_far.node.sessions (tree.get so_far.node.requests req) work
  IsOutcomeAt req (ToEntry entry) so_far = Unit {0}
  IsOutcomeAt req (ToReply reply) so_far = Unit {0}

  -- what a step keeps, where something else is known so far
  abbrev pub StepsKeepAt : Input → Node → (StepState → Type 0) → Type 0
  StepsKeepAt input node Known = (so_far : StepState) (session req : ℕ) (next : Outcome) (moved : StepState)
      → RequestSteps input node so_far session req next moved → Known so_far × AtSoFar so_far → AtSoFar moved × IsOutcomeAt req next moved

  module _ {input : Input} {node : Node} (sound : IsSoundStep input node) (Known : StepState → Type 0)
      (one_work : (so_far : StepState) → Known so_far → StepHasOneWork so_far) (steps_at : StepsKeepAt input node Known) where
    -- the next work
    pub next_at : (so_far : StepState) (session req : ℕ) (asked : Work) (lined : StepState)
        → WorkIsNext input node so_far session req asked lined
        → (Known so_far × AtSoFar so_far) → AtSoFar lined × IsAt lined.node.sessions (tree.get lined.node.requests req) asked.work
    next_at so_far session req asked lined (AtOnce work moved steps begins) all =
        let now = steps_at so_far session req (ToWork work) moved steps all in
        let after : Session
        = record (session_in session moved) { inode_queue = queue_with_open (session_in session moved).inode_queue req work } in (
          session_at moved.node.gateway.works moved.node.requests moved.node.sessions session after refl refl now.0,
          same_seen disk_in (At work) moved.node.sessions session after refl (tree.get moved.node.requests req) now.1,
        )
    next_at so_far session req asked lined (InTurn work later none is) all =
        let after : Session = session_in_turn session req work later so_far is in (
          λ q other has. same_seen disk_in (At other) so_far.node.sessions session after refl (tree.get so_far.node.requests q)
              (all.1 q other (had_in_turn session req work later so_far is q other has)),
          same_seen disk_in (At work) so_far.node.sessions session after refl (tree.get so_far.node.requests req)
              (all.1 req work (has_first session req work later so_far is)),
        )
    next_at so_far session req asked lined (Again work course from next there request) all =
        (all.1, all.1 req asked.work (inl (asked, there, refl)))
    next_at so_far session req asked lined (AgainAlone work from next there none) all =
        (all.1, all.1 req asked.work (inl (asked, there, refl)))

    -- the work is at the gateway
    begun_at : (so_far : StepState) (session req : ℕ) (asked now : Work) (lined : StepState)
        → WorkIsNext input node so_far session req asked lined
        → now.work ≡ asked.work → (Known so_far × AtSoFar so_far)
        → HaveAt (tree.insert lined.node.gateway.works req now) lined.node.requests lined.node.sessions
    begun_at so_far session req asked now lined comes same all =
        let next = next_at so_far session req asked lined comes all in
        work_at lined.node.gateway.works lined.node.requests lined.node.sessions req now
        (subst (λ (work : ObjWork). IsAt lined.node.sessions (tree.get lined.node.requests req) work) (sym same) next.1) next.0

    pub change_keeps_at : (so_far next : StepState) → Change input node so_far next → (Known so_far × AtSoFar so_far) → AtSoFar next
    change_keeps_at so_far next (changes.Marks req number work attempt status learns over) all =
        λ q other has. all.1 q other (stage_had so_far.node.gateway.works so_far.node.sessions req work
        (record work { stage = Open (attempt_with_status number status attempt) }) learns.there refl q other has)
    change_keeps_at so_far next (changes.Fails session req number work attempt status course ends done why) all =
        λ q other has. all.1 q other (stage_had so_far.node.gateway.works so_far.node.sessions req work
        (record work { ended = work.ended + 1; stage = Ended }) ends.learns.there refl q other has)
    change_keeps_at so_far next (changes.Stops session req number work attempt status course bytes ends over) all =
        freed_at session req work status so_far all.1
    change_keeps_at so_far next (changes.Refuses session req number work attempt status course cause ends done why) all =
        course_refused-keeps AtSoFar ended_at (λ entry before now. now) session req cause course
        (without_ended_work session req work status so_far) (freed_at session req work status so_far all.1)
    change_keeps_at so_far next (changes.Opens session req asked lined comes short) all =
        begun_at so_far session req asked (record asked { stage = Open (attempt_in asked lined.node) }) lined comes refl all
    change_keeps_at so_far next (changes.Holds session req asked lined comes short touched) all =
        begun_at so_far session req asked
        (record asked { stage = WaitsForMembers (record { 0 = lined.node.peer.epoch }) }) lined comes refl all
    change_keeps_at so_far next (changes.Denies session req asked lined request comes short untouched there own) all =
        request_refused-keeps AtSoFar ended_at (λ entry before now. now) req
        (Halt (zones_of_members lined.node) (zones_for asked.work)) request
        (without_denied_work session req asked lined)
        (session_at (tree.remove lined.node.gateway.works req) lined.node.requests lined.node.sessions session
        (record (session_in session lined) { inode_queue = queue_after_end (session_in session lined).inode_queue asked.work }) refl refl
        (λ q work has. (next_at so_far session req asked lined comes all).0 q work
        (gone_had lined.node.gateway.works lined.node.sessions req q work has)))
    change_keeps_at so_far next (changes.Strays req work gateway there none apart) all = strayed_at req gateway so_far apart all.1
    change_keeps_at so_far next (changes.Lines session req work moved steps waits) all =
        let now = steps_at so_far session req (ToWork work) moved steps all in
        lined_at session req work moved now.0 now.1
    change_keeps_at so_far next (changes.Appends session req entry moved steps) all =
        (steps_at so_far session req (ToEntry entry) moved steps all).0
    change_keeps_at so_far next (changes.Replies session req reply moved steps) all =
        ended_at session req reply moved (steps_at so_far session req (ToReply reply) moved steps all).0
    change_keeps_at so_far next (changes.Arrives session req ask disk arrival on) all =
        let after : Session
        = record (session_in session so_far) {
          queue =
              (session_in session so_far).queue ++ queued_as disk.inode.spec.shift req ask ∷ [];
        } in
        let free = free_in req so_far (ap may_work_at (arrival.none sound)) (one_work so_far all.0) in
        moved_at req (record { session = session; course = Waiting ask }) session after so_far
        (record {
          idle = free.idle;
          out = λ k waiting there.
              free.out k waiting
              (subst (λ (list : List lines.Waiting). Contains list waiting) (same_waiting so_far.node.sessions session after refl k) there);
        }) refl
        (λ q other work is. same_seen disk_in (At work) so_far.node.sessions session after refl (tree.get so_far.node.requests q) is) all.1
    change_keeps_at so_far next (changes.Rejects session req ask cause arrival) all = all.1
    change_keeps_at so_far next (changes.Recovers due) all = all.1

  pub none_at : HaveAt tree.empty tree.empty tree.empty
  none_at req work has = subst (λ (o : Option Request). IsAt tree.empty o work) (sym (tree.get-empty {X = Request} nat_cmp req)) tt

  pub received_at : (input : Input) (node : Node) → AtSoFar (at_first node) → AtSoFar (input_received input (at_first node))
  received_at = received_keeps (λ works requests sessions. HaveAt works requests sessions) none_at
