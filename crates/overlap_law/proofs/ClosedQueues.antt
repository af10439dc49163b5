-- What holds of the queue of each session of a node holds after a change of its step, if it holds of an empty queue, stays so as a request
-- leaves the queue, and is so of the queue with the read or write that comes.
use Rattle.std.proofs.Common.{◌≡◌, ◌≢◌, ⊎_elim, ℕ, List, [], ◌∷◌, ◌++◌, Option, Some, None, refl, sym, ap, subst, ◌∙◌}
use Rattle.std.specs.Prelude.{unwrap_or}
use Rattle.std.specs.Ordering.{nat_cmp}
use Rattle.std.specs.FinMap as tree
use Rattle.std.proofs.lemmas.Bool.{cases_eq}
use Rattle.proof_tools.proofs.FiniteMaps.{get-insert_other, get-insert_same}
use Rattle.peer_proto.specs.declared.guest.DiskAsk.{DiskAsk}
use Rattle.peer_proto.specs.declared.guest.GuestRsp.{GuestRsp}
use Rattle.gateway.specs.State.{Work}
use Rattle.gateway.specs.declared.message.Status.{Status}
use Rattle.gateway_queue.specs.declared.queue.Queued.{Queued}
use Rattle.gateway_queue.specs.Queue.{queue_without}
use Rattle.guest_driver.specs.declared.disk.Disk.{Disk}
use Rattle.guest_driver.specs.InodeQueue.{InodeQueue}
use Rattle.vdi_ops.specs.Op.{OpStep, disk_change}
use Rattle.sheep_node.specs.declared.ask.Ask.TheVariants as asks
use Rattle.sheep_node.specs.declared.input.Input.{Input}
use Rattle.sheep_node.specs.declared.session.Session.{Session}
use Rattle.sheep_node.specs.State.{Node, new_session}
use Rattle.sheep_node.specs.StepState.{StepState, session_in, request_ended}
use Rattle.sheep_node.specs.Courses.{disk_after, after_command_step}
use Rattle.sheep_node.specs.Guests.{queued_as}
use Rattle.sheep_node.specs.SessionQueues.{queue_in, session_among}
use Rattle.sheep_node.specs.Changes.{Arrival, Outcome, RequestSteps, DiskBegins, DiskGoesOn, CommandBegins, CommandGoesOn, CommandDecided}
use Rattle.sheep_node.specs.Changes.{CheckBegins, CheckGoesOn, ObjectBegins, ObjectIsDone, EntryBegins, EntryDecided, Change}
use Rattle.sheep_node.specs.Changes.{without_ended_work}
use Rattle.sheep_node.proofs.OneWorkParts.{Requests, Sessions}
use Rattle.sheep_node.proofs.ChangeWalk.{freed_holds, kept_by_steps, change_holds}

module _ (P : List Queued → Type 0) (empty : P [])
    (without : (req : ℕ) (queue : List Queued) → P queue → P (queue_without req queue)) where
  abbrev AllQueues : Sessions → Type 0
  AllQueues sessions = (number : ℕ) → P (queue_in number sessions)

  abbrev OfSessions : Requests → Sessions → Type 0
  OfSessions requests sessions = AllQueues sessions

  session_queues : (sessions : Sessions) (number : ℕ) (session : Session) → P session.queue → AllQueues sessions
      → AllQueues (tree.insert sessions number session)
  session_queues sessions number session is all q = ⊎_elim
      (λ (own : q ≡ number).
      subst (λ (o : Option Session). P (unwrap_or o new_session).queue)
      (sym (ap (tree.get (tree.insert sessions number session)) own ∙ get-insert_same sessions number session)) is)
      (λ (other : q ≢ number).
      subst (λ (o : Option Session). P (unwrap_or o new_session).queue) (sym (get-insert_other sessions number session q other))
      (all q))
      (cases_eq q number)

  -- a session whose queue stays as it is
  same_queues : (number : ℕ) (after : Session) (so_far : StepState) → after.queue ≡ (session_in number so_far).queue
      → AllQueues so_far.node.sessions → AllQueues (tree.insert so_far.node.sessions number after)
  same_queues number after so_far same all =
      session_queues so_far.node.sessions number after (subst P (sym same) (all number)) all

  lined_queues : (requests : Requests) (sessions : Sessions) (number : ℕ) (queue : InodeQueue) → AllQueues sessions
      → AllQueues (tree.insert sessions number (record (session_among number sessions) { inode_queue = queue }))
  lined_queues requests sessions number queue all =
      session_queues sessions number (record (session_among number sessions) { inode_queue = queue }) (all number) all

  ended_queues : (session req : ℕ) (reply : GuestRsp) (so_far : StepState) → AllQueues so_far.node.sessions
      → AllQueues (request_ended session req reply so_far).node.sessions
  unfolding request_ended
  ended_queues session req reply so_far all =
      session_queues so_far.node.sessions session
      (record (session_in session so_far) { queue = queue_without req (session_in session so_far).queue; command = None })
      (without req (session_in session so_far).queue (all session)) all

  freed_queues : (session req : ℕ) (work : Work) (status : Status) (so_far : StepState) → AllQueues so_far.node.sessions
      → AllQueues (without_ended_work session req work status so_far).node.sessions
  freed_queues = freed_holds OfSessions lined_queues

  command_queues : (session req : ℕ) (step : OpStep) (so_far : StepState) → AllQueues so_far.node.sessions
      → AllQueues (after_command_step session req step so_far).node.sessions
  command_queues session req step so_far all =
      same_queues session
      (record (session_in session so_far) {
        disk = disk_after (disk_change step) (session_in session so_far).disk;
        command = Some req;
      }) so_far refl all

  sole_queues : (session req : ℕ) (so_far : StepState) → AllQueues so_far.node.sessions
      → AllQueues (tree.insert so_far.node.sessions session (record (session_in session so_far) { command = Some req }))
  sole_queues session req so_far all = same_queues session (record (session_in session so_far) { command = Some req }) so_far refl all

  -- no session has a queue at first
  pub none_queues : (number : ℕ) → P (queue_in number tree.empty)
  none_queues number =
      subst (λ (o : Option Session). P (unwrap_or o new_session).queue) (sym (tree.get-empty {X = Session} nat_cmp number)) empty

  module _ {input : Input} {node : Node} where
    steps_queues : (so_far : StepState) (session req : ℕ) (next : Outcome) (moved : StepState)
        → RequestSteps input node so_far session req next moved → AllQueues so_far.node.sessions → AllQueues moved.node.sessions
    steps_queues so_far session req next moved (DiskBegins ask disk there on may) all =
        same_queues session _ so_far refl all
    steps_queues so_far session req next moved (DiskGoesOn number work attempt status bytes driver disk step ends on is) all =
        same_queues session _ (without_ended_work session req work status so_far) refl
        (freed_queues session req work status so_far all)
    steps_queues so_far session req next moved (CommandBegins ask step arrival is) all = command_queues session req step so_far all
    steps_queues so_far session req next moved (CommandGoesOn number work attempt status bytes op step ends is) all =
        command_queues session req step (without_ended_work session req work status so_far)
        (freed_queues session req work status so_far all)
    steps_queues so_far session req next moved (CommandDecided entry op step from read there waits is) all =
        command_queues session req step so_far all
    steps_queues so_far session req next moved (CheckBegins inode arrival on) all = sole_queues session req so_far all
    steps_queues so_far session req next moved (CheckGoesOn number work attempt status bytes check step ends is) all =
        sole_queues session req (without_ended_work session req work status so_far) (freed_queues session req work status so_far all)
    steps_queues so_far session req next moved (ObjectBegins asked arrival) all = sole_queues session req so_far all
    steps_queues so_far session req next moved (ObjectIsDone number work attempt status bytes asked ends) all =
        freed_queues session req work status so_far all
    steps_queues so_far session req next moved (EntryBegins entry arrival) all = sole_queues session req so_far all
    steps_queues so_far session req next moved (EntryDecided entry wanted from read there waits) all = all

    pub change_queues : (so_far next : StepState) → Change input node so_far next
        → ((session req : ℕ) (ask : DiskAsk) (disk : Disk) → Arrival input node so_far session req (asks.Disk ask) None
        → P (queue_in session so_far.node.sessions)
        → P ((session_in session so_far).queue ++ queued_as disk.inode.spec.shift req ask ∷ []))
        → ((number : ℕ) → P (queue_in number so_far.node.sessions)) → (number : ℕ) → P (queue_in number next.node.sessions)
    change_queues so_far next change comes all =
        change_holds OfSessions lined_queues so_far
        (kept_by_steps OfSessions lined_queues so_far
        (λ session req outcome moved takes. steps_queues so_far session req outcome moved takes all) ended_queues
        (λ session req ask disk arrival on.
        session_queues so_far.node.sessions session
        (record (session_in session so_far) {
          queue = (session_in session so_far).queue ++ queued_as disk.inode.spec.shift req ask ∷ [];
        })
        (comes session req ask disk arrival (all session)) all)) all next change
