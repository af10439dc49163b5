-- What holds of where each request is, by the disk that its session has open and by the session's queue, stays so over every change of a
-- step: if it does over what drivers, commands and checks do, and as other requests of the session come and end.
use Rattle.std.proofs.Common.{◌≡◌, ◌≢◌, ◌⊎◌, inl, inr, ℕ, true, List, [], ◌∷◌, ◌++◌, Option, Some, None, refl, sym, ap, subst, ⊎_elim}
use Rattle.std.specs.Ordering.{nat_cmp}
use Rattle.std.specs.FinMap as tree
use Rattle.object_id.specs.declared.entry.Entry.{Entry}
use Rattle.inode.specs.Layout.{Content}
use Rattle.peer_proto.specs.declared.guest.DiskAsk.{DiskAsk}
use Rattle.peer_proto.specs.declared.guest.GuestRsp.{GuestRsp}
use Rattle.peer_proto.specs.declared.guest.VdiAsk.{VdiAsk}
use Rattle.peer_proto.specs.declared.guest.VdiAsk.TheVariants as disk_commands
use Rattle.peer_proto.specs.declared.work.ObjWork.{ObjWork}
use Rattle.gateway.specs.declared.message.Status.{Status}
use Rattle.gateway.specs.State.{Work}
use Rattle.gateway_queue.specs.declared.queue.Queued.{Queued}
use Rattle.gateway_queue.specs.Queue.{queue_without, may_run}
use Rattle.guest_driver.specs.declared.disk.Disk.{Disk}
use Rattle.guest_driver.specs.Driver.{Driver, DriverStep, begin_driver, driver_on_done}
use Rattle.guest_driver.specs.InodeQueue.{InodeQueue}
use Rattle.disk_check.specs.Check.{Check, CheckStep, begin_check, check_on_done}
use Rattle.vdi_ops.specs.Op.{Op, OpStep, disk_change}
use Rattle.sheep_node.specs.declared.ask.Ask.TheVariants as asks
use Rattle.sheep_node.specs.declared.input.Input.{Input}
use Rattle.sheep_node.specs.declared.course.Course.{Course}
use Rattle.sheep_node.specs.declared.course.Request.{Request}
use Rattle.sheep_node.specs.declared.session.Session.{Session}
use Rattle.sheep_node.specs.declared.course.Course.TheVariants.{Waiting, Driving, Commanding, Checking, DoingWork, AwaitingDecision}
use Rattle.sheep_node.specs.State.{Node}
use Rattle.sheep_node.specs.StepState.{StepState, at_first, session_in, request_ended, with_sole_request}
use Rattle.sheep_node.specs.Courses.{after_driver_step, disk_after, inode_open, after_command_step}
use Rattle.sheep_node.specs.Guests.{queued_as}
use Rattle.sheep_node.specs.May.{May}
use Rattle.sheep_node.specs.SessionQueues.{session_among, QueuesAreDiskRequests, CommandsAreAlone}
use Rattle.sheep_node.specs.Changes.{HasRequest, Arrival, Outcome, without_ended_work, RequestSteps, DiskBegins, DiskGoesOn, CommandBegins}
use Rattle.sheep_node.specs.Changes.{CommandGoesOn, CommandDecided, CheckBegins, CheckGoesOn, ObjectBegins, ObjectIsDone, EntryBegins}
use Rattle.sheep_node.specs.Changes.{EntryDecided, input_received, Change, Leads}
use Rattle.sheep_node.proofs.OneWorkParts.{Requests, Sessions}
use Rattle.sheep_node.proofs.SoleParts.{CommandsAre, IsFreeFor, command_is_free}
use Rattle.sheep_node.proofs.SoleCommands.{free, change_keeps_alone, received_alone}
use Rattle.sheep_node.proofs.SessionViews.{IsSeen, same_seen, alike_seen, free_seen}
use Rattle.sheep_node.proofs.SeenCourses.{AreSeen, moved_seen, gone_seen, course_seen, lined_seen}
use Rattle.sheep_node.proofs.ChangeWalk.{ComesNext, freed_holds, kept_by_steps, change_holds}
use Rattle.sheep_node.proofs.WantedSteps.{driver_begins-wanted, driver_goes_on-wanted}
use Rattle.sheep_node.proofs.StepChain.{kept_by_chain}
use Rattle.sheep_node.proofs.ReceivedInputs.{received_keeps}

-- of a session only the disk is seen
abbrev pub by_disk : {X : Type 0} → (Option Disk → X) → Option Disk → List Queued → X
by_disk f disk queue = f disk

-- what is seen of a session's disk and of its queue, and what is to hold of that and of where a request is
module _ {X : Type 0} (f : Option Disk → List Queued → X) (Q : ℕ → X → Course → Type 0) where
  abbrev pub seen_in : Session → X
  seen_in session = f session.disk session.queue

  -- it holds of each request
  abbrev pub AreSo : Requests → Sessions → Type 0
  AreSo = AreSeen seen_in Q

  abbrev AreSoFar : StepState → Type 0
  AreSoFar so_far = AreSo so_far.node.requests so_far.node.sessions

  -- it begins with a request, and what a driver or a check does keeps it; commands and entries have it at once
  pub record IsKeptByParts (input : Input) (node : Node) : Type 0 where
    pub arrives : (so_far : StepState) (session req : ℕ) (ask : DiskAsk) (disk : Disk)
        → Arrival input node so_far session req (asks.Disk ask) None → (session_in session so_far).disk ≡ Some disk
        → Q req (f (Some disk) ((session_in session so_far).queue ++ queued_as disk.inode.spec.shift req ask ∷ [])) (Waiting ask)
    pub begins : (req : ℕ) (disk : Disk) (queue : List Queued) (ask : DiskAsk) → may_run req queue ≡ true
        → Q req (f (Some disk) queue) (Waiting ask)
        → Q req (f (Some (record disk { inode = (begin_driver disk ask).inode })) queue) (Driving (begin_driver disk ask).driver)
    pub goes_on : (req : ℕ) (disk : Disk) (queue : List Queued) (bytes : List ℕ) (driver : Driver) (step : DriverStep)
        → driver_on_done disk.inode bytes driver ≡ Some step → Q req (f (Some disk) queue) (Driving driver)
        → Q req (f (Some (record disk { inode = step.inode })) queue) (Driving step.driver)
    pub commands : (req : ℕ) (seen : X) (op : Op) → Q req seen (Commanding op)
    pub checks : (so_far : StepState) (session req : ℕ) (inode : Content)
        → Arrival input node so_far session req (asks.Vdi disk_commands.Check) None
        → inode_open (session_in session so_far).disk ≡ Some inode
        → Q req (seen_in (session_in session so_far)) (Checking (begin_check inode).check)
    pub checked : (req : ℕ) (seen : X) (bytes : List ℕ) (check : Check) (step : CheckStep) → check_on_done bytes check ≡ Some step
        → Q req seen (Checking check) → Q req seen (Checking step.check)
    pub objects : (so_far : StepState) (session req : ℕ) (asked : ObjWork) → Arrival input node so_far session req (asks.Object asked) None
        → Q req (seen_in (session_in session so_far)) (DoingWork asked)
    pub entries : (req : ℕ) (seen : X) (entry : Entry) → Q req seen (AwaitingDecision entry)
    -- beside other requests of its session: one comes, or ends, and a driver may change the disk's table, and nothing else of it
    pub comes_beside : (req : ℕ) (disk : Option Disk) (queue : List Queued) (one : Queued) → req ≢ one.req → (course : Course)
        → Q req (f disk queue) course → Q req (f disk (queue ++ one ∷ [])) course
    pub ends_beside : (req other : ℕ) (disk : Option Disk) (queue : List Queued) → req ≢ other → (course : Course)
        → Q req (f disk queue) course → Q req (f disk (queue_without other queue)) course
    pub drives_beside : (req : ℕ) (disk : Disk) (queue : List Queued) (inode : Content) → inode.spec ≡ disk.inode.spec
        → inode.vid ≡ disk.inode.vid → (course : Course) → Q req (f (Some disk) queue) course
        → Q req (f (Some (record disk { inode = inode })) queue) course

  -- nothing is seen of the disk
  abbrev pub SeesNoDisk : Type 0
  SeesNoDisk = (one other : Option Disk) (queue : List Queued) → f one queue ≡ f other queue

  -- a command of the session begins or is there
  abbrev HasCommand : Input → Node → StepState → ℕ → ℕ → Type 0
  HasCommand input node so_far session req =
      ((ask : VdiAsk) × Arrival input node so_far session req (asks.Vdi ask) None)
      ⊎ ((op : Op) × HasRequest session req (Commanding op) so_far)

  -- its session has no other request, or nothing is seen of the disk, which a command may open or close
  abbrev CommandsAreApart : Input → Node → StepState → Type 0
  CommandsAreApart input node so_far = (session req : ℕ) → HasCommand input node so_far session req
      → SeesNoDisk ⊎ IsFreeFor session req so_far.node.requests

  -- ---- sessions and requests

  lined_kept : (requests : Requests) (sessions : Sessions) (number : ℕ) (queue : InodeQueue) → AreSo requests sessions
      → AreSo requests (tree.insert sessions number (record (session_among number sessions) { inode_queue = queue }))
  lined_kept = lined_seen seen_in Q (λ session queue. refl)

  freed_kept : (number req : ℕ) (work : Work) (status : Status) (so_far : StepState) → AreSoFar so_far
      → AreSoFar (without_ended_work number req work status so_far)
  freed_kept = freed_holds AreSo lined_kept

  sole_kept : (number req : ℕ) (course : Course) (so_far : StepState) → Q req (seen_in (session_in number so_far)) course → AreSoFar so_far
      → AreSoFar (with_sole_request number req course so_far)
  sole_kept number req course so_far is all =
      let after : Session = record (session_in number so_far) { command = Some req } in
      moved_seen seen_in Q req number course after so_far is
      (λ q other seen. same_seen seen_in (Q q) so_far.node.sessions number after refl (tree.get so_far.node.requests q) seen) all

  module _ {input : Input} {node : Node} (parts : IsKeptByParts input node) where
    ended_kept : (number req : ℕ) (reply : GuestRsp) (so_far : StepState) → AreSoFar so_far
        → AreSoFar (request_ended number req reply so_far)
    unfolding request_ended
    ended_kept number req reply so_far all =
        let before : Session = session_in number so_far in
        let after : Session = record before { queue = queue_without req before.queue; command = None } in
        gone_seen seen_in Q req number after so_far
        (λ q other seen. alike_seen seen_in (Q q) so_far.node.sessions number after (seen_in before) (seen_in after) refl refl
        (parts.ends_beside q req before.disk before.queue other) (tree.get so_far.node.requests q) seen) all

    driven_kept : (number req : ℕ) (disk : Disk) (step : DriverStep) (so_far : StepState) → (session_in number so_far).disk ≡ Some disk
        → Q req (f (Some (record disk { inode = step.inode })) (session_in number so_far).queue) (Driving step.driver)
        → step.inode.spec ≡ disk.inode.spec → step.inode.vid ≡ disk.inode.vid → AreSoFar so_far
        → AreSoFar (after_driver_step number req disk step so_far)
    driven_kept number req disk step so_far on is spec vid all =
        let queue : List Queued = (session_in number so_far).queue in
        let after : Session = record (session_in number so_far) { disk = Some (record disk { inode = step.inode }) } in
        moved_seen seen_in Q req number (Driving step.driver) after so_far is
        (λ q other seen. alike_seen seen_in (Q q) so_far.node.sessions number after (f (Some disk) queue) (seen_in after)
        (ap (λ (o : Option Disk). f o queue) on) refl
        (parts.drives_beside q disk queue step.inode spec vid) (tree.get so_far.node.requests q) seen) all

    command_kept : (number req : ℕ) (step : OpStep) (so_far : StepState) → SeesNoDisk ⊎ IsFreeFor number req so_far.node.requests
        → AreSoFar so_far → AreSoFar (after_command_step number req step so_far)
    command_kept number req step so_far apart all =
        let before : Session = session_in number so_far in
        let after : Session = record before { disk = disk_after (disk_change step) before.disk; command = Some req } in
        moved_seen seen_in Q req number (Commanding step.op) after so_far (parts.commands req (seen_in after) step.op)
        (λ q other seen. ⊎_elim
        (λ (none : SeesNoDisk).
        same_seen seen_in (Q q) so_far.node.sessions number after (none after.disk before.disk before.queue)
        (tree.get so_far.node.requests q) seen)
        (λ (alone : IsFreeFor number req so_far.node.requests).
        free_seen seen_in (Q q) so_far.node.sessions number after req q so_far.node.requests alone other seen) apart) all

    -- ---- every change

    module _ (so_far : StepState) (apart : CommandsAreApart input node so_far) (all : AreSoFar so_far) where
      steps_kept : (session req : ℕ) (next : Outcome) (moved : StepState) → RequestSteps input node so_far session req next moved
          → AreSoFar moved
      steps_kept session req next moved (DiskBegins ask disk there on runs) =
          let wanted = driver_begins-wanted disk ask in
          let queue : List Queued = (session_in session so_far).queue in
          let waits = subst (λ (o : Option Disk). Q req (f o queue) (Waiting ask)) on
          (course_seen seen_in Q session req (Waiting ask) so_far there all) in
          driven_kept session req disk (begin_driver disk ask) so_far on (parts.begins req disk queue ask runs waits) wanted.spec wanted.vid
          all
      steps_kept session req next moved (DiskGoesOn number work attempt status bytes driver disk step ends on is) =
          let freed = without_ended_work session req work status so_far in
          let now = freed_kept session req work status so_far all in
          let wanted = driver_goes_on-wanted disk.inode bytes driver step is in
          let queue : List Queued = (session_in session freed).queue in
          let before = subst (λ (o : Option Disk). Q req (f o queue) (Driving driver)) on
          (course_seen seen_in Q session req (Driving driver) freed ends.ends.request now) in
          driven_kept session req disk step freed on (parts.goes_on req disk queue bytes driver step is before) wanted.spec wanted.vid now
      steps_kept session req next moved (CommandBegins ask step arrival is) =
          command_kept session req step so_far (apart session req (inl (ask, arrival))) all
      steps_kept session req next moved (CommandGoesOn number work attempt status bytes op step ends is) =
          command_kept session req step (without_ended_work session req work status so_far)
          (apart session req (inr (op, ends.ends.request))) (freed_kept session req work status so_far all)
      steps_kept session req next moved (CommandDecided entry op step from read there waits is) =
          command_kept session req step so_far (apart session req (inr (op, there))) all
      steps_kept session req next moved (CheckBegins inode arrival on) =
          sole_kept session req (Checking (begin_check inode).check) so_far (parts.checks so_far session req inode arrival on) all
      steps_kept session req next moved (CheckGoesOn number work attempt status bytes check step ends is) =
          let freed = without_ended_work session req work status so_far in
          let now = freed_kept session req work status so_far all in
          sole_kept session req (Checking step.check) freed
          (parts.checked req (seen_in (session_in session freed)) bytes check step is
          (course_seen seen_in Q session req (Checking check) freed ends.ends.request now)) now
      steps_kept session req next moved (ObjectBegins asked arrival) =
          sole_kept session req (DoingWork asked) so_far (parts.objects so_far session req asked arrival) all
      steps_kept session req next moved (ObjectIsDone number work attempt status bytes asked ends) =
          freed_kept session req work status so_far all
      steps_kept session req next moved (EntryBegins entry arrival) =
          sole_kept session req (AwaitingDecision entry) so_far (parts.entries req (seen_in (session_in session so_far)) entry) all
      steps_kept session req next moved (EntryDecided entry wanted from read there waits) = all

      comes : ComesNext AreSo lined_kept input node so_far
      comes session req ask disk arrival on =
          let before : Session = session_in session so_far in
          let new : Queued = queued_as disk.inode.spec.shift req ask in
          let after : Session = record before { queue = before.queue ++ new ∷ [] } in
          moved_seen seen_in Q req session (Waiting ask) after so_far
          (subst (λ (o : Option Disk). Q req (f o after.queue) (Waiting ask)) (sym on)
          (parts.arrives so_far session req ask disk arrival on))
          (λ q other seen. alike_seen seen_in (Q q) so_far.node.sessions session after (seen_in before) (seen_in after) refl refl
          (parts.comes_beside q before.disk before.queue new other) (tree.get so_far.node.requests q) seen) all

      change_keeps_so : (next : StepState) → Change input node so_far next → AreSoFar next
      change_keeps_so next change =
          change_holds AreSo lined_kept so_far (kept_by_steps AreSo lined_kept so_far steps_kept ended_kept comes) all next change

  pub none_so : AreSo tree.empty tree.empty
  none_so req = subst (IsSeen seen_in (Q req) tree.empty) (sym (tree.get-empty {X = Request} nat_cmp req)) tt

  received_so : (input : Input) (node : Node) → AreSoFar (at_first node) → AreSoFar (input_received input (at_first node))
  received_so = received_keeps (λ works requests sessions. AreSo requests sessions) none_so

  -- so it is in the middle of a step, and at its end: where commands are alone in their sessions
  pub so_in_chain : (input : Input) (node : Node) → IsKeptByParts input node → May input node → QueuesAreDiskRequests node
      → CommandsAreAlone node → AreSo node.requests node.sessions → (so_far : StepState)
      → Leads input node (input_received input (at_first node)) so_far → AreSoFar so_far
  so_in_chain input node parts may queued sole all so_far leads =
      (kept_by_chain (λ (so_far : StepState). CommandsAre so_far × AreSoFar so_far)
      (λ so_far next change now. (
        change_keeps_alone may queued sole so_far next change now.0,
        change_keeps_so parts so_far (alone so_far now.0) now.1 next change,
      ))
      leads (received_alone input node sole, received_so input node all)).1
    where
      alone : (so_far : StepState) → CommandsAre so_far → CommandsAreApart input node so_far
      alone so_far commands session req has = inr (⊎_elim
          (λ (begins : (ask : VdiAsk) × Arrival input node so_far session req (asks.Vdi ask) None).
          free may queued sole so_far session req (asks.Vdi begins.0) None begins.1 refl)
          (λ (there : (op : Op) × HasRequest session req (Commanding op) so_far).
          command_is_free session req (Commanding there.0) so_far there.1 refl commands)
          has)

  -- or where nothing is seen of the disk
  pub so_without_disk : SeesNoDisk → (input : Input) (node : Node) → IsKeptByParts input node → AreSo node.requests node.sessions
      → (so_far : StepState) → Leads input node (input_received input (at_first node)) so_far → AreSoFar so_far
  so_without_disk none input node parts all so_far leads =
      kept_by_chain AreSoFar
      (λ so_far next change now. change_keeps_so parts so_far (λ session req has. inl none) now next change) leads
      (received_so input node all)
