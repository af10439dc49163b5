-- Each change of a node leaves its reads where they stand, and tells those that it replies to as they may be read: if what comes of a piece
-- may be read of it, and zeros of holes.
use Rattle.std.proofs.Common.{◌≡◌, ◌≢◌, ⊎_elim, ℕ, Bool, true, List, [], ◌∷◌, ◌++◌, Option, Some, None, refl, sym, ap, subst, ◌∙◌}
use Rattle.std.specs.Prelude.{IsTrue, unwrap_or}
use Rattle.std.specs.FinMap as tree
use Rattle.std.proofs.lemmas.Option.{same_Some}
use Rattle.proof_tools.proofs.FiniteMaps.{get-insert_same}
use Rattle.object_id.specs.declared.cause.Cause.{Cause}
use Rattle.disk_history.specs.Ledger.{Ledger}
use Rattle.vdi_directory.specs.declared.effect.Effect.{Effect}
use Rattle.peer_proto.specs.declared.guest.DiskAsk.{DiskAsk}
use Rattle.peer_proto.specs.declared.guest.DiskAsk.TheVariants as disk_asks
use Rattle.peer_proto.specs.declared.guest.GuestRsp.{GuestRsp}
use Rattle.peer_proto.specs.declared.guest.VdiAsk.TheVariants as commands
use Rattle.disk_check.specs.Check.{begin_check}
use Rattle.gateway.specs.declared.message.Status.{Status}
use Rattle.gateway.specs.State.{Work}
use Rattle.gateway_queue.specs.Queue.{queue_without}
use Rattle.guest_driver.specs.declared.act.DriverAct.{DriverAct}
use Rattle.guest_driver.specs.declared.act.DriverAct.TheVariants as driver_acts
use Rattle.guest_driver.specs.declared.disk.Disk.{Disk}
use Rattle.guest_driver.specs.Driver.{Driver, DriverStep, begin_driver}
use Rattle.guest_driver.specs.InodeQueue.{queue_after_end}
use Rattle.guest_driver.specs.Pieces.{is_ask}
use Rattle.vdi_ops.specs.Op.{OpStep, disk_change}
use Rattle.sheep_node.specs.declared.ask.Ask.{Ask}
use Rattle.sheep_node.specs.declared.ask.Ask.TheVariants as asks
use Rattle.sheep_node.specs.declared.input.Input.TheVariants as inputs
use Rattle.sheep_node.specs.declared.input.Input.{Input}
use Rattle.sheep_node.specs.declared.course.Course.{Course}
use Rattle.sheep_node.specs.declared.course.Course.TheVariants.{Waiting, Driving, Commanding, Checking, DoingWork, AwaitingDecision}
use Rattle.sheep_node.specs.declared.course.Request.{Request}
use Rattle.sheep_node.specs.declared.session.Session.{Session}
use Rattle.sheep_node.specs.State.{new_session}
use Rattle.sheep_node.specs.State.{Node}
use Rattle.sheep_node.specs.StepState.{StepState, session_in, request_ended, with_sole_request}
use Rattle.sheep_node.specs.Courses.{after_driver_step, disk_after, after_command_step}
use Rattle.sheep_node.specs.Guests.{queued_as}
use Rattle.sheep_node.specs.May.{May}
use Rattle.sheep_node.specs.SessionQueues.{QueuesAreDiskRequests, CommandsAreAlone}
use Rattle.sheep_node.specs.Changes.{HasRequest, Arrival, EndsWork, Outcome, ToReply, outcome_of_driver, without_ended_work, RequestSteps}
use Rattle.sheep_node.specs.Changes.{DiskBegins, DiskGoesOn, CommandBegins, CommandGoesOn, CommandDecided, CheckBegins, CheckGoesOn}
use Rattle.sheep_node.specs.Changes.{ObjectBegins, ObjectIsDone, EntryBegins, EntryDecided, Change}
use Rattle.sheep_node.proofs.OneWorkParts.{Requests, Sessions}
use Rattle.sheep_node.proofs.SoleParts.{CommandsAre, IsFreeFor, command_is_free}
use Rattle.sheep_node.proofs.SoleCommands.{free}
use Rattle.sheep_node.proofs.SessionViews.{IsSeen, same_seen, alike_seen, free_seen}
use Rattle.sheep_node.proofs.WantedSteps.{driver_begins-wanted, driver_goes_on-wanted}
use Rattle.overlap_law.specs.StandingReads.{IsNoDiskAsk, IsCourseStanding, ReadsStand, IsToldAll, ReadsMayGoOn}
use Rattle.overlap_law.specs.ToldReads.{Reading}
use Rattle.overlap_law.proofs.CoursesOfAsks.{disk_in}
use Rattle.overlap_law.proofs.LedReads.{IsLed, begins_led, course_alike, goes_led}
use Rattle.sheep_node.proofs.SeenCourses.{AreSeen, moved_seen, gone_seen, course_seen, lined_seen}
use Rattle.sheep_node.proofs.ChangeWalk.{ComesNext, freed_holds, kept_by_steps, change_holds}
use Rattle.guest_driver.specs.InodeQueue.{InodeQueue}
use Rattle.sheep_node.specs.SessionQueues.{session_among}
use Rattle.sheep_world.specs.ClientAsks.{is_read_ask}

module _ (May_be : Reading) (ledger : Ledger) (effects : List Effect) (good_id : ℕ → Bool) (asked : ℕ → Option Ask) where
  abbrev Q : ℕ → Option Disk → Course → Type 0
  Q req = IsCourseStanding May_be ledger effects good_id (asked req)

  -- each request stands
  abbrev pub AreSo : Requests → Sessions → Type 0
  AreSo = AreSeen disk_in (λ (req : ℕ). IsCourseStanding May_be ledger effects good_id (asked req))

  abbrev pub AreSoFar : StepState → Type 0
  AreSoFar so_far = AreSo so_far.node.requests so_far.node.sessions

  lined_kept : (requests : Requests) (sessions : Sessions) (number : ℕ) (queue : InodeQueue) → AreSo requests sessions
      → AreSo requests (tree.insert sessions number (record (session_among number sessions) { inode_queue = queue }))
  lined_kept = lined_seen disk_in Q (λ session queue. refl)

  freed_kept : (number req : ℕ) (work : Work) (status : Status) (so_far : StepState) → AreSoFar so_far
      → AreSoFar (without_ended_work number req work status so_far)
  freed_kept = freed_holds AreSo lined_kept

  ended_kept : (number req : ℕ) (reply : GuestRsp) (so_far : StepState) → AreSoFar so_far → AreSoFar (request_ended number req reply so_far)
  unfolding request_ended
  ended_kept number req reply so_far all =
      let after : Session
      = record (session_in number so_far) { queue = queue_without req (session_in number so_far).queue; command = None } in
      gone_seen disk_in Q req number after so_far
      (λ q other seen. same_seen disk_in (Q q) so_far.node.sessions number after refl (tree.get so_far.node.requests q) seen) all

  course_so : (number req : ℕ) (course : Course) (so_far : StepState) → HasRequest number req course so_far → AreSoFar so_far
      → Q req (session_in number so_far).disk course
  course_so = course_seen disk_in Q

  sole_kept : (number req : ℕ) (course : Course) (so_far : StepState) → Q req (session_in number so_far).disk course → AreSoFar so_far
      → AreSoFar (with_sole_request number req course so_far)
  sole_kept number req course so_far is all =
      let after : Session = record (session_in number so_far) { command = Some req } in
      moved_seen disk_in Q req number course after so_far is
      (λ q other seen. same_seen disk_in (Q q) so_far.node.sessions number after refl (tree.get so_far.node.requests q) seen) all

  -- an ended work leaves the disk open
  freed_disk : (session req : ℕ) (work : Work) (status : Status) (so_far : StepState)
      → (session_in session (without_ended_work session req work status so_far)).disk ≡ (session_in session so_far).disk
  freed_disk session req work status so_far =
      ap (λ (o : Option Session). disk_in (unwrap_or o new_session))
      (get-insert_same so_far.node.sessions session
      (record (session_in session so_far) { inode_queue = queue_after_end (session_in session so_far).inode_queue work.work }))

  driven_kept : (number req : ℕ) (disk : Disk) (step : DriverStep) (so_far : StepState) → (session_in number so_far).disk ≡ Some disk
      → Q req (Some (record disk { inode = step.inode })) (Driving step.driver) → step.inode.spec ≡ disk.inode.spec
      → step.inode.vid ≡ disk.inode.vid → AreSoFar so_far → AreSoFar (after_driver_step number req disk step so_far)
  driven_kept number req disk step so_far on is spec vid all =
      let after : Session = record (session_in number so_far) { disk = Some (record disk { inode = step.inode }) } in
      moved_seen disk_in Q req number (Driving step.driver) after so_far is
      (λ q other seen. alike_seen disk_in (Q q) so_far.node.sessions number after (Some disk) after.disk on refl
      (course_alike May_be ledger effects good_id (asked q) disk (record disk { inode = step.inode }) vid spec)
      (tree.get so_far.node.requests q) seen) all

  command_kept : (number req : ℕ) (step : OpStep) (so_far : StepState) → IsFreeFor number req so_far.node.requests → IsNoDiskAsk (asked req)
      → AreSoFar so_far → AreSoFar (after_command_step number req step so_far)
  command_kept number req step so_far alone none all =
      let after : Session = record (session_in number so_far) {
        disk = disk_after (disk_change step) (session_in number so_far).disk;
        command = Some req;
      } in
      moved_seen disk_in Q req number (Commanding step.op) after so_far none
      (λ q other seen. free_seen disk_in (Q q) so_far.node.sessions number after req q so_far.node.requests alone other seen) all

  module _ {input : Input} {node : Node} (may : May input node) (queued : QueuesAreDiskRequests node) (sole : CommandsAreAlone node)
      (so_far : StepState) (goes : ReadsMayGoOn May_be ledger effects good_id asked input node so_far)
      (alone : CommandsAre so_far) (all : AreSoFar so_far) where
    -- behind a step of a request, its reply tells all
    record HasStepped (session req : ℕ) (next : Outcome) (moved : StepState) : Type 0 where
      kept : AreSoFar moved
      told : (reply : GuestRsp) → next ≡ ToReply reply → (disk : Disk) → (session_in session so_far).disk ≡ Some disk
          → IsToldAll May_be ledger effects good_id disk.inode (asked req) reply

    -- one that no read asked
    unasked : (session req : ℕ) (next : Outcome) (moved : StepState) → AreSoFar moved → IsNoDiskAsk (asked req)
        → HasStepped session req next moved
    unasked session req next moved kept none = record {
      kept = kept;
      told = λ reply is disk on offset size told asks_so tells. absurd (none (disk_asks.Read offset size) asks_so);
    }

    -- a driver's step
    driven : (session req : ℕ) (disk : Disk) (step : DriverStep) (from : StepState) → (session_in session from).disk ≡ Some disk
        → (session_in session so_far).disk ≡ Some disk → step.inode.spec ≡ disk.inode.spec → step.inode.vid ≡ disk.inode.vid
        → AreSoFar from → IsLed May_be ledger effects good_id (asked req) disk step
        → HasStepped session req (outcome_of_driver step.act) (after_driver_step session req disk step from)
    driven session req disk step from on was_on spec vid before led = record {
      kept = driven_kept session req disk step from on led.stands spec vid before;
      told = λ reply is other there.
          let same : disk ≡ other = same_Some disk other (sym was_on ∙ there) in
          subst (λ (d : Disk). IsToldAll May_be ledger effects good_id d.inode (asked req) reply) same
          (led.told reply (by_act step.act reply is));
    }
      where
        by_act : (act : DriverAct) (reply : GuestRsp) → outcome_of_driver act ≡ ToReply reply → act ≡ driver_acts.Reply reply
        by_act (driver_acts.Work work) reply is = absurd (cc (is))
        by_act (driver_acts.Reply other) reply is = let same : other ≡ reply = cc (is) in ap (λ (r : GuestRsp). driver_acts.Reply r) same

    -- a command's
    commanded : (session req : ℕ) (next : Outcome) (step : OpStep) (from : StepState) → IsFreeFor session req from.node.requests
        → IsNoDiskAsk (asked req) → AreSoFar from → HasStepped session req next (after_command_step session req step from)
    commanded session req next step from alone none before =
        unasked session req next (after_command_step session req step from) (command_kept session req step from alone none before) none

    brings_none : (session req : ℕ) (ask : Ask) (refusal : Option Cause) → Arrival input node so_far session req ask refusal
        → ((disk_ask : DiskAsk) → ask ≢ asks.Disk disk_ask) → IsNoDiskAsk (asked req)
    brings_none session req ask refusal arrival other disk_ask asks_so =
        ⊎_elim
        (λ (so : asked req ≡ Some ask). other disk_ask (same_Some ask (asks.Disk disk_ask) (sym so ∙ asks_so)))
        (λ (none : (asked req ≡ None) × (is_read_ask ask ≡ true)). let nothing = none.0 in cc (nothing, asks_so))
        (goes.brought req session ask arrival.from)

    steps_so : (session req : ℕ) (next : Outcome) (moved : StepState) → RequestSteps input node so_far session req next moved
        → HasStepped session req next moved
    steps_so session req next moved (DiskBegins ask disk there on may_run) =
        let wanted = driver_begins-wanted disk ask in
        let waits = subst (λ (o : Option Disk). Q req o (Waiting ask)) on (course_so session req (Waiting ask) so_far there all) in
        driven session req disk (begin_driver disk ask) so_far on on wanted.spec wanted.vid all
        (begins_led May_be ledger effects good_id (asked req) disk ask (goes.sound session disk on)
        (λ offset size reads.
        goes.begins session req offset size disk (subst (λ (a : DiskAsk). HasRequest session req (Waiting a) so_far) reads there) on
        may_run)
        waits)
    steps_so session req next moved (DiskGoesOn number work attempt status bytes driver disk step ends on is) =
        let freed = without_ended_work session req work status so_far in
        let now = freed_kept session req work status so_far all in
        let was_on : (session_in session so_far).disk ≡ Some disk = sym (freed_disk session req work status so_far) ∙ on in
        let wanted = driver_goes_on-wanted disk.inode bytes driver step is in
        let before = subst (λ (o : Option Disk). Q req o (Driving driver)) on
        (course_so session req (Driving driver) freed ends.ends.request now) in
        driven session req disk step freed on was_on wanted.spec wanted.vid now
        (goes_led May_be ledger effects good_id (asked req) disk bytes driver step is
        (λ told piece rest same.
        goes.comes session req number work attempt status told bytes piece rest disk
        (subst (λ (d : Driver). EndsWork input node so_far session req number work attempt status (Driving d) bytes) same ends) was_on)
        before)
    steps_so session req next moved (CommandBegins ask step arrival is) =
        commanded session req next step so_far (free may queued sole so_far session req (asks.Vdi ask) None arrival refl)
        (brings_none session req (asks.Vdi ask) None arrival (λ disk_ask same. cc (same))) all
    steps_so session req next moved (CommandGoesOn number work attempt status bytes op step ends is) =
        commanded session req next step (without_ended_work session req work status so_far)
        (command_is_free session req (Commanding op) so_far ends.ends.request refl alone)
        (course_so session req (Commanding op) so_far ends.ends.request all)
        (freed_kept session req work status so_far all)
    steps_so session req next moved (CommandDecided entry op step from read there waits is) =
        commanded session req next step so_far (command_is_free session req (Commanding op) so_far there refl alone)
        (course_so session req (Commanding op) so_far there all) all
    steps_so session req next moved (CheckBegins inode arrival on) =
        let none = brings_none session req (asks.Vdi commands.Check) None arrival (λ disk_ask same. cc (same)) in
        unasked session req next moved (sole_kept session req (Checking (begin_check inode).check) so_far none all) none
    steps_so session req next moved (CheckGoesOn number work attempt status bytes check step ends is) =
        let none = course_so session req (Checking check) so_far ends.ends.request all in
        unasked session req next moved
        (sole_kept session req (Checking step.check) (without_ended_work session req work status so_far) none
        (freed_kept session req work status so_far all)) none
    steps_so session req next moved (ObjectBegins object arrival) =
        let none = brings_none session req (asks.Object object) None arrival (λ disk_ask same. cc (same)) in
        unasked session req next moved (sole_kept session req (DoingWork object) so_far none all) none
    steps_so session req next moved (ObjectIsDone number work attempt status bytes object ends) =
        unasked session req next moved (freed_kept session req work status so_far all)
        (course_so session req (DoingWork object) so_far ends.ends.request all)
    steps_so session req next moved (EntryBegins entry arrival) =
        let none = brings_none session req (asks.Entry entry) None arrival (λ disk_ask same. cc (same)) in
        unasked session req next moved (sole_kept session req (AwaitingDecision entry) so_far none all) none
    steps_so session req next moved (EntryDecided entry wanted from read there waits) =
        unasked session req next moved all (course_so session req (AwaitingDecision wanted) so_far there all)

    -- a read or write that comes is asked under its number
    asks_disk : (req session : ℕ) (ask : DiskAsk) → input ≡ inputs.Guest req session (asks.Disk ask) → asked req ≡ Some (asks.Disk ask)
    asks_disk req session ask from = ⊎_elim
        (λ (so : asked req ≡ Some (asks.Disk ask)). so)
        (λ (none : (asked req ≡ None) × (is_read_ask (asks.Disk ask) ≡ true)). let reads = none.1 in absurd (cc (reads)))
        (goes.brought req session (asks.Disk ask) from)

    comes : ComesNext AreSo lined_kept input node so_far
    comes session req ask disk arrival on =
        let after : Session
        = record (session_in session so_far) {
          queue = (session_in session so_far).queue ++ queued_as disk.inode.spec.shift req ask ∷ [];
        } in
        let may_come = subst (λ (input : Input). May input node) arrival.from may in
        let whole : IsTrue (is_ask ask) = may_come.condition.asked in
        moved_seen disk_in Q req session (Waiting ask) after so_far
        (asks_disk req session ask arrival.from, whole)
        (λ q other seen. same_seen disk_in (Q q) so_far.node.sessions session after refl (tree.get so_far.node.requests q) seen) all

    pub change_so : (next : StepState) → Change input node so_far next → AreSoFar next
    change_so next change =
        change_holds AreSo lined_kept so_far
        (kept_by_steps AreSo lined_kept so_far (λ session req outcome moved steps. (steps_so session req outcome moved steps).kept)
        ended_kept comes) all next change

    -- a reply to a request that goes on tells all
    pub reply_tells : (session req : ℕ) (reply : GuestRsp) (moved : StepState)
        → RequestSteps input node so_far session req (ToReply reply) moved → (disk : Disk) → (session_in session so_far).disk ≡ Some disk
        → IsToldAll May_be ledger effects good_id disk.inode (asked req) reply
    reply_tells session req reply moved steps disk on = (steps_so session req (ToReply reply) moved steps).told reply refl disk on

  -- ---- in the words of nodes

  seen_so : (node : Node) → ReadsStand May_be ledger effects good_id asked node → AreSo node.requests node.sessions
  seen_so node stand req = by_got (tree.get node.requests req) refl
    where
      by_got : (o : Option Request) → tree.get node.requests req ≡ o → IsSeen disk_in (Q req) node.sessions o
      by_got None got = tt
      by_got (Some request) got = stand.each req request got

  stand_so : (node : Node) → AreSo node.requests node.sessions → ReadsStand May_be ledger effects good_id asked node
  stand_so node all = record { each = λ req request got. subst (IsSeen disk_in (Q req) node.sessions) got (all req) }

  pub reads_go_on : (input : Input) (node : Node) (so_far next : StepState) → May input node → QueuesAreDiskRequests node
      → CommandsAreAlone node → CommandsAreAlone so_far.node → Change input node so_far next
      → ReadsMayGoOn May_be ledger effects good_id asked input node so_far
      → ReadsStand May_be ledger effects good_id asked so_far.node → ReadsStand May_be ledger effects good_id asked next.node
  reads_go_on input node so_far next may queued sole alone change goes stand =
      stand_so next.node (change_so may queued sole so_far goes alone (seen_so so_far.node stand) next change)

  pub reads_are_told : (input : Input) (node : Node) (so_far moved : StepState) (session req : ℕ) (reply : GuestRsp) (disk : Disk)
      → May input node → QueuesAreDiskRequests node → CommandsAreAlone node → CommandsAreAlone so_far.node
      → RequestSteps input node so_far session req (ToReply reply) moved → (session_in session so_far).disk ≡ Some disk
      → ReadsMayGoOn May_be ledger effects good_id asked input node so_far
      → ReadsStand May_be ledger effects good_id asked so_far.node
      → IsToldAll May_be ledger effects good_id disk.inode (asked req) reply
  reads_are_told input node so_far moved session req reply disk may queued sole alone steps on goes stand =
      reply_tells may queued sole so_far goes alone (seen_so so_far.node stand) session req reply moved steps disk on
