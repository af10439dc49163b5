-- Every change leaves each request of a node at a place that what it asked allows.
use Rattle.sheep_node.specs.declared.course.Course.{Course}
use Rattle.std.proofs.Common.{◌≡◌, ℕ, false, [], ◌∷◌, ◌++◌, Option, Some, None, refl, sym, ap, subst, ◌∙◌}
use Rattle.std.specs.Ordering.{nat_cmp}
use Rattle.std.specs.FinMap as tree
use Rattle.std.proofs.lemmas.Option.{same_Some}
use Rattle.object_id.specs.declared.cause.Cause.{Cause}
use Rattle.inode.specs.Layout.{Content}
use Rattle.peer_proto.specs.declared.guest.VdiAsk.TheVariants as disk_commands
use Rattle.peer_service.specs.State.{effects_of}
use Rattle.peer_service.specs.LogReading.{decision_on}
use Rattle.guest_driver.specs.declared.disk.Disk.{Disk}
use Rattle.guest_driver.specs.Driver.{begin_driver}
use Rattle.guest_driver.specs.InodeQueue.{queue_after_end}
use Rattle.disk_check.specs.Check.{begin_check}
use Rattle.vdi_ops.specs.Entries.{command_refusal}
use Rattle.sheep_node.specs.declared.ask.Ask.{Ask}
use Rattle.sheep_node.specs.declared.ask.Ask.TheVariants as asks
use Rattle.sheep_node.specs.declared.input.Input.{Input}
use Rattle.sheep_node.specs.declared.course.Request.{Request}
use Rattle.sheep_node.specs.declared.session.Session.{Session}
use Rattle.sheep_node.specs.declared.course.Course.TheVariants.{Waiting, Driving, Commanding, Checking, DoingWork, AwaitingDecision}
use Rattle.sheep_node.specs.State.{Node}
use Rattle.sheep_node.specs.StepState.{StepState, at_first, session_in}
use Rattle.sheep_node.specs.Courses.{inode_open}
use Rattle.sheep_node.specs.Guests.{queued_as, seen_by_command}
use Rattle.sheep_node.specs.May.{May}
use Rattle.sheep_node.specs.SessionQueues.{QueuesAreDiskRequests, CommandsAreAlone}
use Rattle.sheep_node.specs.Changes.{Arrival, Outcome, ToWork, ToEntry, ToReply, without_ended_work, RequestSteps, DiskBegins, DiskGoesOn}
use Rattle.sheep_node.specs.Changes.{CommandBegins, CommandGoesOn, CommandDecided, CheckBegins, CheckGoesOn, ObjectBegins, ObjectIsDone}
use Rattle.sheep_node.specs.Changes.{EntryBegins, EntryDecided, input_received, Change, Leads}
use Rattle.sheep_node.proofs.OneWorkParts.{Requests, Sessions}
use Rattle.sheep_node.proofs.ReceivedInputs.{received_keeps}
use Rattle.sheep_node.proofs.SessionViews.{same_seen, own_seen}
use Rattle.sheep_node.proofs.SoleCommands.{free, change_keeps_alone, received_alone}
use Rattle.sheep_node.proofs.SoleParts.{CommandsAre, same_command, command_is_free}
use Rattle.sheep_node.proofs.StepChain.{kept_by_chain}
use Rattle.sheep_node.proofs.WantedSteps.{driver_begins-wanted, driver_goes_on-wanted}
use Rattle.overlap_law.specs.RequestsOfScript.{IsDriverOf, IsOnDisk}
use Rattle.overlap_law.proofs.CoursesOfAsks.{disk_in, id_of_disk, check_working, IsPlacedAt, IsPlacedIn, ArePlaced, PlacedSoFar, IsBrought}
use Rattle.overlap_law.proofs.CoursesOfAsks.{session_placed, all_placed, moved_others, freed_placed, others_ended, ended_placed}
use Rattle.overlap_law.proofs.CoursesOfAsks.{course_placed, HasMoved, driven_placed, commanded_placed, checked_placed, IsBroughtBy}
use Rattle.overlap_law.proofs.CoursesOfAsks.{object_placed, but_one}
use Rattle.overlap_law.proofs.StepsOfAsks.{IsCheckAsked, driver_begins-asked, driver_goes_on-asked, check_begins-asked, check_goes_on-asked}
use Rattle.overlap_law.proofs.StepsOfAsks.{command_begins-asked, command_goes_on-asked, command_decided-asked}
use Rattle.sheep_node.proofs.ChangeWalk.{ComesNext, IsKeptByParts, change_holds}
use Rattle.guest_driver.specs.InodeQueue.{InodeQueue}
use Rattle.sheep_node.specs.SessionQueues.{session_among}

-- a check that isn't refused is of the working disk that is open
pub record IsOnWorking (opened : Option Disk) (inode : Content) : Type 0 where
  pub disk : Disk
  pub there : opened ≡ Some disk
  pub same : disk.inode ≡ inode
  pub working : disk.snapshot ≡ false

pub on_working : (opened : Option Disk) (inode : Content) → command_refusal (seen_by_command opened) disk_commands.Check ≡ None
    → inode_open opened ≡ Some inode → IsOnWorking opened inode
on_working None inode allowed on = absurd (cc (on))
on_working (Some disk) inode allowed on =
    record { disk = disk; there = refl; same = same_Some disk.inode inode on; working = check_working disk allowed }

module _ (asked : ℕ → Option Ask) (Began : ℕ → Option ℕ → Type 0) {input : Input} {node : Node} (may : May input node)
    (queued : QueuesAreDiskRequests node) (sole : CommandsAreAlone node) (brought : IsBrought asked Began input node) where
  abbrev Placed : StepState → Type 0
  Placed = PlacedSoFar asked Began

  abbrev AreInPlace : StepState → Type 0
  AreInPlace so_far = CommandsAre so_far × Placed so_far

  -- what a request that comes brings
  abbrev Brings : ℕ → Ask → StepState → ℕ → Type 0
  Brings session ask so_far req = IsBroughtBy asked Began req (session_in session so_far).disk ask

  brings : (so_far : StepState) (session req : ℕ) (ask : Ask) (refusal : Option Cause)
      → Arrival input node so_far session req ask refusal → Brings session ask so_far req
  brings so_far session req ask refusal arrival =
      subst (λ (state : StepState). Brings session ask state req) (sym arrival.first) (brought req session ask arrival.from)

  steps_placed : (so_far : StepState) (session req : ℕ) (next : Outcome) (moved : StepState)
      → RequestSteps input node so_far session req next moved
      → AreInPlace so_far → HasMoved asked Began req next moved
  steps_placed so_far session req next moved (DiskBegins ask disk there on may_run) all =
      let here = course_placed asked Began session req (Waiting ask) so_far there all.1 in
      let wanted = driver_begins-wanted disk ask in
      driven_placed asked Began session req (Waiting ask) disk
      (begin_driver disk ask) so_far all.0 there refl on wanted.vid wanted.spec ask here.0 here.1
      here.2.0 (subst (λ (d : Option Disk). IsOnDisk d here.0) on here.2.1) (driver_begins-asked disk ask) all.1
  steps_placed so_far session req next moved (DiskGoesOn number work attempt status bytes driver disk step ends on is) all =
      let freed = without_ended_work session req work status so_far in
      let now = freed_placed asked Began session req work status so_far all.1 in
      let here = course_placed asked Began session req (Driving driver) freed ends.ends.request now in
      let wanted = driver_goes_on-wanted disk.inode bytes driver step is in
      let same : disk ≡ here.2.on.disk = same_Some disk here.2.on.disk (sym on ∙ here.2.on.there) in
      let alone : CommandsAre freed
      = same_command so_far.node.requests so_far.node.sessions session
      (record (session_in session so_far) { inode_queue = queue_after_end (session_in session so_far).inode_queue work.work }) refl all.0 in
      driven_placed asked Began session req
      (Driving driver) disk step freed alone ends.ends.request refl on wanted.vid wanted.spec here.2.ask here.0
      here.1 here.2.of (record { disk = disk; there = refl; same = here.2.on.same ∙ ap (λ (d : Disk). Some d.inode.vid) (sym same) })
      (driver_goes_on-asked disk here.2.ask disk.inode bytes driver step is
      (subst (λ (d : Disk). IsDriverOf d here.2.ask driver) (sym same) here.2.is)) now
  steps_placed so_far session req next moved (CommandBegins ask step arrival is) all =
      let here = brings so_far session req (asks.Vdi ask) None arrival in
      let disk = (session_in session so_far).disk in
      commanded_placed asked Began session req step so_far (free may queued sole so_far session req (asks.Vdi ask) None arrival refl) ask
      (id_of_disk disk)
      here.2 here.1 (command_begins-asked ask so_far.node.me session (inode_open disk) step is) all.1
  steps_placed so_far session req next moved (CommandGoesOn number work attempt status bytes op step ends is) all =
      let freed = without_ended_work session req work status so_far in
      let now = freed_placed asked Began session req work status so_far all.1 in
      let here = course_placed asked Began session req (Commanding op) freed ends.ends.request now in
      commanded_placed asked Began session req step freed
      (command_is_free session req (Commanding op) so_far ends.ends.request refl all.0) here.2.ask
      here.0 here.1 here.2.of (command_goes_on-asked here.2.ask bytes op step is here.2.is) now
  steps_placed so_far session req next moved (CommandDecided entry op step from read there waits is) all =
      let here = course_placed asked Began session req (Commanding op) so_far there all.1 in
      commanded_placed asked Began session req step so_far
      (command_is_free session req (Commanding op) so_far there refl all.0) here.2.ask here.0 here.1
      here.2.of
      (command_decided-asked here.2.ask (effects_of so_far.node.peer) (inode_open (session_in session so_far).disk) op step
      (decision_on entry node.peer)
      is here.2.is) all.1
  steps_placed so_far session req next moved (CheckBegins inode arrival on) all =
      let here = brings so_far session req (asks.Vdi disk_commands.Check) None arrival in
      let opened = (session_in session so_far).disk in
      let working = on_working opened inode arrival.refused on in
      let began : id_of_disk opened ≡ Some working.disk.inode.vid = ap id_of_disk working.there in
      let step = begin_check inode in
      checked_placed asked Began session req step so_far working.disk working.there (id_of_disk opened) here.2
      (record { disk = working.disk; there = refl; same = began }) working.working here.1
      (subst (λ (i : Content). IsCheckAsked working.disk (begin_check i)) working.same (check_begins-asked working.disk)) all.1
  steps_placed so_far session req next moved (CheckGoesOn number work attempt status bytes check step ends is) all =
      let freed = without_ended_work session req work status so_far in
      let now = freed_placed asked Began session req work status so_far all.1 in
      let here = course_placed asked Began session req (Checking check) freed ends.ends.request now in
      checked_placed asked Began session req step freed here.2.on.disk here.2.on.there here.0 here.1
      (record { disk = here.2.on.disk; there = refl; same = here.2.on.same }) here.2.working here.2.of
      (check_goes_on-asked here.2.on.disk bytes check step is here.2.is) now
  steps_placed so_far session req next moved (ObjectBegins work arrival) all =
      object_placed asked Began session req work so_far (brings so_far session req (asks.Object work) None arrival) all.1
  steps_placed so_far session req next moved (ObjectIsDone number work attempt status bytes does ends) all =
      let freed = without_ended_work session req work status so_far in (
        but_one asked Began req freed.node.requests freed.node.sessions (freed_placed asked Began session req work status so_far all.1),
        tt,
      )
  steps_placed so_far session req next moved (EntryBegins entry arrival) all =
      absurd (brings so_far session req (asks.Entry entry) None arrival).0
  steps_placed so_far session req next moved (EntryDecided entry wanted from read there waits) all =
      absurd (course_placed asked Began session req (AwaitingDecision wanted) so_far there all.1).2

  change_keeps_placed : (so_far next : StepState) → Change input node so_far next → AreInPlace so_far → Placed next
  change_keeps_placed so_far next change all = change_holds (ArePlaced asked Began) lined so_far parts all.1 next change
    where
      lined : (requests : Requests) (sessions : Sessions) (number : ℕ) (queue : InodeQueue) → ArePlaced asked Began requests sessions
          → ArePlaced asked Began requests (tree.insert sessions number (record (session_among number sessions) { inode_queue = queue }))
      lined requests sessions number queue =
          session_placed asked Began requests sessions number (record (session_among number sessions) { inode_queue = queue }) refl

      comes : ComesNext (ArePlaced asked Began) lined input node so_far
      comes session req ask disk arrival on =
          let here = brings so_far session req (asks.Disk ask) None arrival in
          let after : Session
          = record (session_in session so_far) {
            queue = (session_in session so_far).queue ++ queued_as disk.inode.spec.shift req ask ∷ [];
          } in
          let began : id_of_disk (session_in session so_far).disk ≡ Some disk.inode.vid = ap id_of_disk on in
          all_placed asked Began req (tree.insert so_far.node.requests req (record { session = session; course = Waiting ask }))
          (tree.insert so_far.node.sessions session after)
          (moved_others asked Began req session (Waiting ask) after so_far
          (λ q other. same_seen disk_in (IsPlacedAt asked Began q) so_far.node.sessions session after refl (tree.get so_far.node.requests q)
          (all.1 q)))
          (own_seen disk_in (IsPlacedAt asked Began req) so_far.node.sessions session after req (Waiting ask) so_far.node.requests
          (id_of_disk (session_in session so_far).disk, here.2, (here.1, record { disk = disk; there = on; same = began })))

      parts : IsKeptByParts (ArePlaced asked Began) lined input node so_far
      parts = record {
        works = λ session req work moved takes.
            let now = steps_placed so_far session req (ToWork work) moved takes all in
            all_placed asked Began req moved.node.requests moved.node.sessions now.0 now.1;
        entries = λ session req entry moved takes.
            let now = steps_placed so_far session req (ToEntry entry) moved takes all in
            all_placed asked Began req moved.node.requests moved.node.sessions now.0 now.1;
        replies = λ session req reply moved takes.
            others_ended asked Began session req reply moved (steps_placed so_far session req (ToReply reply) moved takes all).0;
        ended = ended_placed asked Began;
        comes = comes;
      }

  change_keeps_place : (so_far next : StepState) → Change input node so_far next → AreInPlace so_far → AreInPlace next
  change_keeps_place so_far next change all =
      (change_keeps_alone may queued sole so_far next change all.0, change_keeps_placed so_far next change all)

pub none_placed : (asked : ℕ → Option Ask) (Began : ℕ → Option ℕ → Type 0) → ArePlaced asked Began tree.empty tree.empty
none_placed asked Began req = subst (IsPlacedIn asked Began req tree.empty) (sym (tree.get-empty {X = Request} nat_cmp req)) tt

received_placed : (asked : ℕ → Option Ask) (Began : ℕ → Option ℕ → Type 0) (input : Input) (node : Node)
    → ArePlaced asked Began node.requests node.sessions → PlacedSoFar asked Began (input_received input (at_first node))
received_placed asked Began =
    received_keeps (λ works requests sessions. ArePlaced asked Began requests sessions) (none_placed asked Began)

-- in the middle of a step
pub placed_in_chain : (asked : ℕ → Option Ask) (Began : ℕ → Option ℕ → Type 0) (input : Input) (node : Node) → May input node
    → QueuesAreDiskRequests node → CommandsAreAlone node → IsBrought asked Began input node
    → ArePlaced asked Began node.requests node.sessions
    → (so_far : StepState) → Leads input node (input_received input (at_first node)) so_far → PlacedSoFar asked Began so_far
placed_in_chain asked Began input node may queued sole brought all so_far leads =
    (kept_by_chain (AreInPlace asked Began may queued sole brought)
    (λ so_far next change. change_keeps_place asked Began may queued sole brought so_far next change) leads
    (received_alone input node sole, received_placed asked Began input node all)).1

-- where more is known of the disks on which requests began
pub placed_grows : (asked : ℕ → Option Ask) (Began Begins : ℕ → Option ℕ → Type 0) (requests : Requests) (sessions : Sessions)
    → ((req : ℕ) (request : Request) (disk : Option ℕ) → tree.get requests req ≡ Some request → Began req disk → Begins req disk)
    → ArePlaced asked Began requests sessions → ArePlaced asked Begins requests sessions
placed_grows asked Began Begins requests sessions grows all req = by_got (tree.get requests req) refl (all req)
  where
    by_got : (o : Option Request) → tree.get requests req ≡ o → IsPlacedIn asked Began req sessions o
        → IsPlacedIn asked Begins req sessions o
    by_got None got is = tt
    by_got (Some request) got is = by_course request.course (λ began b. grows req request began got b) is
      where
        by_course : (course : Course) → ((began : Option ℕ) → Began req began → Begins req began)
            → IsPlacedAt asked Began req (disk_in (session_among request.session sessions)) course
            → IsPlacedAt asked Begins req (disk_in (session_among request.session sessions)) course
        by_course (Waiting ask) more (began, b, is) = (began, more began b, is)
        by_course (Driving driver) more (began, b, is) = (began, more began b, is)
        by_course (Commanding op) more (began, b, is) = (began, more began b, is)
        by_course (Checking check) more (began, b, is) = (began, more began b, is)
        by_course (DoingWork work) more none = none
        by_course (AwaitingDecision entry) more (began, b, is) = (began, more began b, is)
