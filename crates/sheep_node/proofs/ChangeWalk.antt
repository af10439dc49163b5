-- What holds of a node's requests and sessions, whatever works wait in a session's line, holds after a change of the node's step, if it
-- does after a step that a request takes, once a request ends, and where a read or write comes.
use Rattle.std.proofs.Common.{◌≡◌, ℕ, [], ◌∷◌, ◌++◌, Some, None}
use Rattle.std.specs.FinMap as tree
use Rattle.object_id.specs.declared.cause.Cause.TheVariants.{Halt}
use Rattle.object_id.specs.declared.entry.Entry.{Entry}
use Rattle.peer_proto.specs.declared.guest.DiskAsk.{DiskAsk}
use Rattle.peer_proto.specs.declared.guest.GuestRsp.{GuestRsp}
use Rattle.peer_proto.specs.declared.work.ObjWork.{ObjWork}
use Rattle.gateway.specs.declared.message.Status.{Status}
use Rattle.gateway.specs.Work.{zones_for}
use Rattle.gateway.specs.State.{Work}
use Rattle.guest_driver.specs.declared.disk.Disk.{Disk}
use Rattle.guest_driver.specs.InodeQueue.{InodeQueue, queue_with_open, queue_with_waiting, queue_after_end}
use Rattle.sheep_node.specs.declared.ask.Ask.TheVariants as asks
use Rattle.sheep_node.specs.declared.course.Course.TheVariants.{Waiting}
use Rattle.sheep_node.specs.declared.input.Input.{Input}
use Rattle.sheep_node.specs.Changes as changes
use Rattle.sheep_node.specs.Changes.{Arrival, Outcome, ToWork, ToEntry, ToReply, without_ended_work, without_denied_work, zones_of_members}
use Rattle.sheep_node.specs.Changes.{RequestSteps, WorkIsNext, AtOnce, InTurn, Again, AgainAlone, Change}
use Rattle.sheep_node.specs.Guests.{queued_as}
use Rattle.sheep_node.specs.SessionQueues.{session_among}
use Rattle.sheep_node.specs.State.{Node}
use Rattle.sheep_node.specs.StepState.{StepState, session_in, request_ended, with_session, with_course}
use Rattle.sheep_node.proofs.OneWorkParts.{Requests, Sessions}
use Rattle.sheep_node.proofs.RefusedCourses.{course_refused-keeps, request_refused-keeps}

module _ (P : Requests → Sessions → Type 0)
    (lined : (requests : Requests) (sessions : Sessions) (number : ℕ) (queue : InodeQueue) → P requests sessions
    → P requests (tree.insert sessions number (record (session_among number sessions) { inode_queue = queue }))) where
  abbrev pub HoldsSoFar : StepState → Type 0
  HoldsSoFar so_far = P so_far.node.requests so_far.node.sessions

  -- a read or write stands behind the others of its session
  abbrev pub ComesNext : Input → Node → StepState → Type 0
  ComesNext input node so_far = (session req : ℕ) (ask : DiskAsk) (disk : Disk)
      → Arrival input node so_far session req (asks.Disk ask) None → (session_in session so_far).disk ≡ Some disk
      → HoldsSoFar (with_session session (record (session_in session so_far) {
        queue = (session_in session so_far).queue ++ queued_as disk.inode.spec.shift req ask ∷ [];
      }) (with_course session req (Waiting ask) so_far))

  -- the parts of a change, from a state of the step
  pub record IsKeptByParts (input : Input) (node : Node) (so_far : StepState) : Type 0 where
    pub works : (session req : ℕ) (work : ObjWork) (moved : StepState)
        → RequestSteps input node so_far session req (ToWork work) moved → HoldsSoFar moved
    pub entries : (session req : ℕ) (entry : Entry) (moved : StepState)
        → RequestSteps input node so_far session req (ToEntry entry) moved → HoldsSoFar moved
    pub replies : (session req : ℕ) (reply : GuestRsp) (moved : StepState)
        → RequestSteps input node so_far session req (ToReply reply) moved → HoldsSoFar (request_ended session req reply moved)
    pub ended : (session req : ℕ) (reply : GuestRsp) (state : StepState) → HoldsSoFar state
        → HoldsSoFar (request_ended session req reply state)
    pub comes : ComesNext input node so_far

  -- where each step of a request keeps it
  pub kept_by_steps : {input : Input} {node : Node} (so_far : StepState)
      → ((session req : ℕ) (next : Outcome) (moved : StepState) → RequestSteps input node so_far session req next moved
      → HoldsSoFar moved)
      → ((session req : ℕ) (reply : GuestRsp) (state : StepState) → HoldsSoFar state
      → HoldsSoFar (request_ended session req reply state))
      → ComesNext input node so_far → IsKeptByParts input node so_far
  kept_by_steps so_far steps ended comes = record {
    works = λ session req work moved takes. steps session req (ToWork work) moved takes;
    entries = λ session req entry moved takes. steps session req (ToEntry entry) moved takes;
    replies = λ session req reply moved takes. ended session req reply moved (steps session req (ToReply reply) moved takes);
    ended = ended;
    comes = comes;
  }

  -- a session's work leaves its line
  pub freed_holds : (session req : ℕ) (work : Work) (status : Status) (so_far : StepState) → HoldsSoFar so_far
      → HoldsSoFar (without_ended_work session req work status so_far)
  freed_holds session req work status so_far holds =
      lined so_far.node.requests so_far.node.sessions session (queue_after_end (session_in session so_far).inode_queue work.work) holds

  module _ {input : Input} {node : Node} (so_far : StepState) (parts : IsKeptByParts input node so_far) (holds : HoldsSoFar so_far) where
    pub next_holds : (session req : ℕ) (asked : Work) (next : StepState) → WorkIsNext input node so_far session req asked next
        → HoldsSoFar next
    next_holds session req asked next (AtOnce work moved takes may_open) =
        lined moved.node.requests moved.node.sessions session (queue_with_open (session_in session moved).inode_queue req work)
        (parts.works session req work moved takes)
    next_holds session req asked next (InTurn work later none is) =
        lined so_far.node.requests so_far.node.sessions session (record { current = Some req; waiting = later }) holds
    next_holds session req asked next (Again work course from turn there request) = holds
    next_holds session req asked next (AgainAlone work from turn there none) = holds

    pub change_holds : (next : StepState) → Change input node so_far next → HoldsSoFar next
    change_holds next (changes.Marks req number work attempt status learns over) = holds
    change_holds next (changes.Fails session req number work attempt status course ends done why) = holds
    change_holds next (changes.Stops session req number work attempt status course bytes ends over) =
        freed_holds session req work status so_far holds
    change_holds next (changes.Refuses session req number work attempt status course cause ends done why) =
        course_refused-keeps HoldsSoFar parts.ended (λ entry before now. now) session req cause course
        (without_ended_work session req work status so_far) (freed_holds session req work status so_far holds)
    change_holds next (changes.Opens session req asked lined_up is short) = next_holds session req asked lined_up is
    change_holds next (changes.Holds session req asked lined_up is short touched) = next_holds session req asked lined_up is
    change_holds next (changes.Denies session req asked lined_up request is short untouched there own) =
        request_refused-keeps HoldsSoFar parts.ended (λ entry before now. now) req
        (Halt (zones_of_members lined_up.node) (zones_for asked.work)) request (without_denied_work session req asked lined_up)
        (lined lined_up.node.requests lined_up.node.sessions session
        (queue_after_end (session_in session lined_up).inode_queue asked.work) (next_holds session req asked lined_up is))
    change_holds next (changes.Strays req work gateway there none apart) = holds
    change_holds next (changes.Lines session req work moved takes waits) =
        lined moved.node.requests moved.node.sessions session (queue_with_waiting (session_in session moved).inode_queue req work)
        (parts.works session req work moved takes)
    change_holds next (changes.Appends session req entry moved takes) = parts.entries session req entry moved takes
    change_holds next (changes.Replies session req reply moved takes) = parts.replies session req reply moved takes
    change_holds next (changes.Arrives session req ask disk arrival on) = parts.comes session req ask disk arrival on
    change_holds next (changes.Rejects session req ask cause arrival) = holds
    change_holds next (changes.Recovers due) = holds
