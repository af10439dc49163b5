-- What holds of what each session has open, and of what each command has come to, stays so over every change of a step, if it does over
-- what drivers and commands do.
use Rattle.std.proofs.Common.{◌≡◌, ◌≢◌, ℕ, Bool, true, List, [], ◌∷◌, ◌++◌, Option, Some, None, IfSome, unwrap_or, refl, sym, ap, subst}
use Rattle.std.proofs.Common.{◌∙◌, ⊎_elim}
use Rattle.std.specs.Ordering.{nat_cmp}
use Rattle.std.specs.FinMap as tree
use Rattle.std.proofs.lemmas.Bool.{cases_eq}
use Rattle.proof_tools.proofs.FiniteMaps.{get-insert_same, get-insert_other, get-remove_other, get-remove_same}
use Rattle.object_id.specs.declared.entry.Entry.{Entry}
use Rattle.inode.specs.Layout.{Content}
use Rattle.peer_proto.specs.declared.guest.DiskAsk.{DiskAsk}
use Rattle.peer_proto.specs.declared.guest.GuestRsp.{GuestRsp}
use Rattle.peer_service.specs.State.{effects_of}
use Rattle.peer_service.specs.LogReading.{decision_on}
use Rattle.gateway.specs.declared.message.Status.{Status}
use Rattle.gateway.specs.State.{Work}
use Rattle.gateway_queue.specs.Queue.{queue_without}
use Rattle.guest_driver.specs.declared.disk.Disk.{Disk}
use Rattle.guest_driver.specs.Driver.{Driver, DriverStep, begin_driver, driver_on_done}
use Rattle.disk_check.specs.Check.{begin_check}
use Rattle.vdi_ops.specs.Op.{Stays, Opens, Closes, OpStage, Asked, Working, Publishing, Answered, Op, OpStep, disk_change, disk_change_at}
use Rattle.vdi_ops.specs.Steps.{on_decision, op_on_done}
use Rattle.sheep_node.specs.declared.input.Input.{Input}
use Rattle.sheep_node.specs.declared.input.Input.TheVariants as inputs
use Rattle.sheep_node.specs.declared.course.Course.{Course}
use Rattle.sheep_node.specs.declared.course.Request.{Request}
use Rattle.sheep_node.specs.declared.session.Session.{Session}
use Rattle.sheep_node.specs.declared.course.Course.TheVariants.{Waiting, Driving, Commanding, Checking, DoingWork, AwaitingDecision}
use Rattle.sheep_node.specs.AwaitedEntry.{waits_for_entry}
use Rattle.sheep_node.specs.LogReading.{entry_read}
use Rattle.sheep_node.specs.State.{Node, new_session}
use Rattle.sheep_node.specs.StepState.{StepState, at_first, session_in, request_ended, with_sole_request}
use Rattle.sheep_node.specs.Courses.{after_driver_step, disk_after, inode_open, after_command_step}
use Rattle.sheep_node.specs.Guests.{queued_as}
use Rattle.sheep_node.specs.SessionQueues.{session_among}
use Rattle.sheep_node.specs.Changes.{Outcome, without_ended_work, RequestSteps, DiskBegins, DiskGoesOn, CommandBegins, CommandGoesOn}
use Rattle.sheep_node.specs.Changes.{CommandDecided, CheckBegins, CheckGoesOn, ObjectBegins, ObjectIsDone, EntryBegins, EntryDecided}
use Rattle.sheep_node.specs.Changes.{input_received, Change, Leads}
use Rattle.sheep_node.proofs.OneWorkParts.{Requests, Sessions}
use Rattle.sheep_node.proofs.StepChain.{kept_by_chain}
use Rattle.sheep_node.proofs.ReceivedInputs.{received_keeps}
use Rattle.overlap_law.proofs.ClosedFirstStages.{begins_so}
use Rattle.sheep_node.proofs.ChangeWalk.{freed_holds, kept_by_steps, change_holds}
use Rattle.guest_driver.specs.InodeQueue.{InodeQueue}

-- what is to hold of an open disk, and of what a command waits for
module _ (P : Disk → Type 0) (S : OpStage → Type 0) where
  abbrev pub HasStage : Course → Type 0
  HasStage (Waiting ask) = Unit {0}
  HasStage (Driving driver) = Unit {0}
  HasStage (Commanding op) = S op.stage
  HasStage (Checking check) = Unit {0}
  HasStage (DoingWork work) = Unit {0}
  HasStage (AwaitingDecision entry) = Unit {0}

  -- a request that was looked up, if it is there
  abbrev pub IsAtStage : Option Request → Type 0
  IsAtStage found = IfSome found (λ (request : Request). HasStage request.course)

  pub record AreSo (requests : Requests) (sessions : Sessions) : Type 0 where
    pub disks : (number : ℕ) → IfSome (session_among number sessions).disk P
    pub stages : (req : ℕ) → IsAtStage (tree.get requests req)

  abbrev pub AreSoFar : StepState → Type 0
  AreSoFar so_far = AreSo so_far.node.requests so_far.node.sessions

  -- what a driver does with an inode keeps it of the disk, and what a command does keeps it of the stage; what is opened then is so
  pub record IsKeptByParts (input : Input) (node : Node) : Type 0 where
    pub begins : (disk : Disk) (ask : DiskAsk) → P disk → P (record disk { inode = (begin_driver disk ask).inode })
    pub goes_on : (disk : Disk) (bytes : List ℕ) (driver : Driver) (step : DriverStep) → driver_on_done disk.inode bytes driver ≡ Some step
        → P disk → P (record disk { inode = step.inode })
    pub asked : (entry : Entry) → S (Asked entry)
    pub done : (bytes : List ℕ) (op : Op) (step : OpStep) → op_on_done bytes op ≡ Some step → S op.stage → S step.op.stage
    pub decided : (so_far : StepState) (session : ℕ) (entry : Entry) (op : Op) (step : OpStep) → input ≡ inputs.LogEntry entry
        → so_far.node.peer ≡ (entry_read entry node).peer → waits_for_entry entry (Commanding op) ≡ true
        → on_decision (effects_of so_far.node.peer) (inode_open (session_in session so_far).disk) (decision_on entry node.peer) op
        ≡ Some step
        → IfSome (session_in session so_far).disk P → S op.stage → S step.op.stage
    pub opens : (snapshot : Bool) (inode : Content) → S (Answered (Opens snapshot inode))
        → P (record { inode = inode; snapshot = snapshot })

  -- ---- sessions and requests

  disks_kept : (sessions : Sessions) (number : ℕ) (session : Session) → IfSome session.disk P
      → ((k : ℕ) → IfSome (session_among k sessions).disk P) → (k : ℕ)
      → IfSome (session_among k (tree.insert sessions number session)).disk P
  disks_kept sessions number session is all k = ⊎_elim
      (λ (here : k ≡ number).
      let now : session_among k (tree.insert sessions number session) ≡ session
      = ap (λ (k : ℕ). session_among k (tree.insert sessions number session)) here
      ∙ ap (λ (o : Option Session). unwrap_or o new_session) (get-insert_same sessions number session) in
      subst (λ (s : Session). IfSome s.disk P) (sym now) is)
      (λ (apart : k ≢ number).
      let now : session_among k (tree.insert sessions number session) ≡ session_among k sessions
      = ap (λ (o : Option Session). unwrap_or o new_session) (get-insert_other sessions number session k apart) in
      subst (λ (s : Session). IfSome s.disk P) (sym now) (all k))
      (cases_eq k number)

  stages_kept : (requests : Requests) (req : ℕ) (now : Request) → HasStage now.course → ((q : ℕ) → IsAtStage (tree.get requests q))
      → (q : ℕ)
      → IsAtStage (tree.get (tree.insert requests req now) q)
  stages_kept requests req now is all q = ⊎_elim
      (λ (own : q ≡ req).
      let there : tree.get (tree.insert requests req now) q ≡ Some now
      = ap (tree.get (tree.insert requests req now)) own ∙ get-insert_same requests req now in
      subst IsAtStage (sym there) is)
      (λ (other : q ≢ req). subst IsAtStage (sym (get-insert_other requests req now q other)) (all q))
      (cases_eq q req)

  -- a session that keeps what it has open
  session_kept : (requests : Requests) (sessions : Sessions) (number : ℕ) (session : Session)
      → session.disk ≡ (session_among number sessions).disk
      → AreSo requests sessions → AreSo requests (tree.insert sessions number session)
  session_kept requests sessions number session same all = record {
    disks = disks_kept sessions number session (subst (λ (o : Option Disk). IfSome o P) (sym same) (all.disks number)) all.disks;
    stages = all.stages;
  }

  moved_kept : (req number : ℕ) (course : Course) (session : Session) (so_far : StepState) → HasStage course → IfSome session.disk P
      → AreSoFar so_far
      → AreSo (tree.insert so_far.node.requests req (record { session = number; course = course }))
      (tree.insert so_far.node.sessions number session)
  moved_kept req number course session so_far stage disk all = record {
    disks = disks_kept so_far.node.sessions number session disk all.disks;
    stages = stages_kept so_far.node.requests req (record { session = number; course = course }) stage all.stages;
  }

  lined_kept : (requests : Requests) (sessions : Sessions) (number : ℕ) (queue : InodeQueue) → AreSo requests sessions
      → AreSo requests (tree.insert sessions number (record (session_among number sessions) { inode_queue = queue }))
  lined_kept requests sessions number queue all =
      session_kept requests sessions number (record (session_among number sessions) { inode_queue = queue }) refl all

  freed_kept : (number req : ℕ) (work : Work) (status : Status) (so_far : StepState) → AreSoFar so_far
      → AreSoFar (without_ended_work number req work status so_far)
  freed_kept = freed_holds AreSo lined_kept

  ended_kept : (number req : ℕ) (reply : GuestRsp) (so_far : StepState) → AreSoFar so_far → AreSoFar (request_ended number req reply so_far)
  unfolding request_ended
  ended_kept number req reply so_far all =
      session_kept (tree.remove so_far.node.requests req) so_far.node.sessions number
      (record (session_in number so_far) { queue = queue_without req (session_in number so_far).queue; command = None }) refl (record {
        disks = all.disks;
        stages = λ q. ⊎_elim
            (λ (own : q ≡ req).
            let none : tree.get (tree.remove so_far.node.requests req) q ≡ None
            = ap (tree.get (tree.remove so_far.node.requests req)) own ∙ get-remove_same so_far.node.requests req in
            subst IsAtStage (sym none) tt)
            (λ (other : q ≢ req). subst IsAtStage (sym (get-remove_other so_far.node.requests req q other)) (all.stages q))
            (cases_eq q req);
      })

  sole_kept : (number req : ℕ) (course : Course) (so_far : StepState) → HasStage course → AreSoFar so_far
      → AreSoFar (with_sole_request number req course so_far)
  sole_kept number req course so_far stage all =
      moved_kept req number course (record (session_in number so_far) { command = Some req }) so_far stage (all.disks number) all

  stage_so : (number req : ℕ) (op : Op) (so_far : StepState)
      → tree.get so_far.node.requests req ≡ Some (record { session = number; course = Commanding op }) → AreSoFar so_far → S op.stage
  stage_so number req op so_far there all = subst IsAtStage there (all.stages req)

  disk_so : (number : ℕ) (disk : Disk) (so_far : StepState) → (session_in number so_far).disk ≡ Some disk → AreSoFar so_far → P disk
  disk_so number disk so_far on all = subst (λ (o : Option Disk). IfSome o P) on (all.disks number)

  -- ---- every change

  module _ {input : Input} {node : Node} (parts : IsKeptByParts input node) where
    left_open : (stage : OpStage) (disk : Option Disk) → S stage → IfSome disk P → IfSome (disk_after (disk_change_at stage) disk) P
    left_open (Asked entry) disk so was = was
    left_open (Working vid task) disk so was = was
    left_open (Publishing entry made) disk so was = was
    left_open (Answered Stays) disk so was = was
    left_open (Answered (Opens snapshot inode)) disk so was = parts.opens snapshot inode so
    left_open (Answered Closes) disk so was = tt

    driven_kept : (number req : ℕ) (disk : Disk) (step : DriverStep) (so_far : StepState) → P (record disk { inode = step.inode })
        → AreSoFar so_far → AreSoFar (after_driver_step number req disk step so_far)
    driven_kept number req disk step so_far is all =
        moved_kept req number (Driving step.driver)
        (record (session_in number so_far) { disk = Some (record disk { inode = step.inode }) }) so_far tt is all

    command_kept : (number req : ℕ) (step : OpStep) (so_far : StepState) → S step.op.stage → AreSoFar so_far
        → AreSoFar (after_command_step number req step so_far)
    command_kept number req step so_far is all =
        moved_kept req number (Commanding step.op)
        (record (session_in number so_far) {
          disk = disk_after (disk_change step)
              (session_in number so_far).disk;
          command = Some req;
        }) so_far is
        (left_open step.op.stage (session_in number so_far).disk is (all.disks number)) all

    steps_kept : (so_far : StepState) (session req : ℕ) (next : Outcome) (moved : StepState)
        → RequestSteps input node so_far session req next moved
        → AreSoFar so_far → AreSoFar moved
    steps_kept so_far session req next moved (DiskBegins ask disk there on may_run) all =
        driven_kept session req disk (begin_driver disk ask) so_far (parts.begins disk ask (disk_so session disk so_far on all)) all
    steps_kept so_far session req next moved (DiskGoesOn number work attempt status bytes driver disk step ends on is) all =
        let freed = without_ended_work session req work status so_far in
        let now = freed_kept session req work status so_far all in
        driven_kept session req disk step freed (parts.goes_on disk bytes driver step is (disk_so session disk freed on now)) now
    steps_kept so_far session req next moved (CommandBegins ask step arrival is) all =
        command_kept session req step so_far
        (begins_so S parts.asked so_far.node.me session ask (inode_open (session_in session so_far).disk) step is) all
    steps_kept so_far session req next moved (CommandGoesOn number work attempt status bytes op step ends is) all =
        command_kept session req step (without_ended_work session req work status so_far)
        (parts.done bytes op step is (stage_so session req op so_far ends.ends.request all)) (freed_kept session req work status so_far all)
    steps_kept so_far session req next moved (CommandDecided entry op step from read there waits is) all =
        command_kept session req step so_far
        (parts.decided so_far session entry op step from read waits is (all.disks session) (stage_so session req op so_far there all)) all
    steps_kept so_far session req next moved (CheckBegins inode arrival on) all =
        sole_kept session req (Checking (begin_check inode).check) so_far tt all
    steps_kept so_far session req next moved (CheckGoesOn number work attempt status bytes check step ends is) all =
        sole_kept session req (Checking step.check) (without_ended_work session req work status so_far) tt
        (freed_kept session req work status so_far all)
    steps_kept so_far session req next moved (ObjectBegins asked arrival) all = sole_kept session req (DoingWork asked) so_far tt all
    steps_kept so_far session req next moved (ObjectIsDone number work attempt status bytes asked ends) all =
        freed_kept session req work status so_far all
    steps_kept so_far session req next moved (EntryBegins entry arrival) all = sole_kept session req (AwaitingDecision entry) so_far tt all
    steps_kept so_far session req next moved (EntryDecided entry wanted from read there waits) all = all

    change_keeps_so : (so_far next : StepState) → Change input node so_far next → AreSoFar so_far → AreSoFar next
    change_keeps_so so_far next change all =
        change_holds AreSo lined_kept so_far
        (kept_by_steps AreSo lined_kept so_far
        (λ session req outcome moved takes. steps_kept so_far session req outcome moved takes all) ended_kept
        (λ session req ask disk arrival on.
        moved_kept req session (Waiting ask)
        (record (session_in session so_far) {
          queue = (session_in session so_far).queue ++ queued_as disk.inode.spec.shift req ask ∷ [];
        }) so_far tt (all.disks session) all)) all next change

  pub none_so : AreSo tree.empty tree.empty
  none_so = record {
    disks = λ number. subst (λ (o : Option Session). IfSome (unwrap_or o new_session).disk P)
        (sym (tree.get-empty {X = Session} nat_cmp number)) tt;
    stages = λ req. subst IsAtStage (sym (tree.get-empty {X = Request} nat_cmp req)) tt;
  }

  pub received_so : (input : Input) (node : Node) → AreSoFar (at_first node) → AreSoFar (input_received input (at_first node))
  received_so = received_keeps (λ works requests sessions. AreSo requests sessions) none_so

  -- so it is in the middle of a step, and at its end, from what holds once the input was received
  pub so_in_chain : (input : Input) (node : Node) → IsKeptByParts input node → AreSoFar (input_received input (at_first node))
      → (so_far : StepState)
      → Leads input node (input_received input (at_first node)) so_far → AreSoFar so_far
  so_in_chain input node parts all so_far leads =
      kept_by_chain AreSoFar (λ so_far next change. change_keeps_so parts so_far next change) leads all
