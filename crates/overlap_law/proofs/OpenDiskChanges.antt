-- Each change of a node leaves its commands with what their sessions have open.
use Rattle.std.proofs.Common.{◌≡◌, ◌≢◌, ⊎_elim, ℕ, Bool, true, false, List, Option, Some, None, unwrap_or, refl, sym, ap, subst, ◌∙◌}
use Rattle.std.specs.Ordering.{nat_cmp}
use Rattle.std.specs.FinMap as tree
use Rattle.std.proofs.lemmas.Bool.{cases_eq}
use Rattle.proof_tools.proofs.FiniteMaps.{get-insert_same, get-insert_other, get-insert_cases, get-remove_same, get-remove_other}
use Rattle.object_id.specs.declared.entry.Entry.{Entry}
use Rattle.peer_proto.specs.declared.guest.GuestRsp.{GuestRsp}
use Rattle.peer_service.specs.LogReading.{decision_on}
use Rattle.peer_service.specs.State.{effects_of}
use Rattle.gateway.specs.State.{Work}
use Rattle.gateway.specs.declared.message.Status.{Status}
use Rattle.guest_driver.specs.declared.disk.Disk.{Disk}
use Rattle.guest_driver.specs.Driver as drivers
use Rattle.vdi_ops.specs.Op.{OpStep, disk_change}
use Rattle.disk_check.specs.Check.{begin_check}
use Rattle.sheep_node.specs.declared.ask.Ask.TheVariants as asks
use Rattle.sheep_node.specs.declared.input.Input.{Input}
use Rattle.sheep_node.specs.declared.course.Course.{Course}
use Rattle.sheep_node.specs.declared.course.Request.{Request}
use Rattle.sheep_node.specs.declared.session.Session.{Session}
use Rattle.sheep_node.specs.declared.course.Course.TheVariants.{Waiting, Driving, Commanding, Checking, DoingWork, AwaitingDecision}
use Rattle.sheep_node.specs.State.{Node, new_session}
use Rattle.sheep_node.specs.StepState.{StepState, at_first, session_in, request_ended}
use Rattle.sheep_node.specs.Courses.{disk_after, after_driver_step, after_command_step}
use Rattle.sheep_node.specs.Changes.{Outcome, without_ended_work, input_received, RequestSteps, DiskBegins, DiskGoesOn, CommandBegins}
use Rattle.sheep_node.specs.Changes.{CommandGoesOn, CommandDecided, CheckBegins, CheckGoesOn, ObjectBegins, ObjectIsDone, EntryBegins}
use Rattle.sheep_node.specs.Changes.{EntryDecided, WorkIsNext, Change, Leads}
use Rattle.sheep_node.proofs.QueueChanges.{same_view}
use Rattle.sheep_node.proofs.ReceivedInputs.{received_keeps}
use Rattle.sheep_node.proofs.StepChain.{kept_by_chain}
use Rattle.sheep_node.proofs.WantedSteps.{IsWantedStep, driver_begins-wanted, driver_goes_on-wanted}
use Rattle.overlap_law.specs.CommandDisks.{opened_as, opened_in, IsOpenAtStage, IsOpenAtCourse}
use Rattle.overlap_law.proofs.AwaitedChanges.{Requests, AreAwaitedSoFar}
use Rattle.overlap_law.proofs.AwaitedCommands.{is_command}
use Rattle.overlap_law.proofs.AwaitedSteps.{entry_of_input, MeetsCommands, change_awaited}
use Rattle.overlap_law.proofs.OpenCommands.{begins_open, goes_on_open, decided_open, left_open}
use Rattle.sheep_node.proofs.ChangeWalk.{IsKeptByParts, kept_by_steps, next_holds, change_holds}
use Rattle.guest_driver.specs.InodeQueue.{InodeQueue}
use Rattle.sheep_node.specs.SessionQueues.{session_among}

abbrev Sessions : Type 0
Sessions = tree.FinMap nat_cmp Session

-- each request is with what its session has open
abbrev pub AreOpenSo : Requests → Sessions → Type 0
AreOpenSo requests sessions = (req : ℕ) (request : Request) → tree.get requests req ≡ Some request
    → IsOpenAtCourse (opened_in request.session sessions) request.course

abbrev pub AreOpenSoFar : StepState → Type 0
AreOpenSoFar so_far = AreOpenSo so_far.node.requests so_far.node.sessions

pub none_open : AreOpenSo tree.empty tree.empty
none_open req request got = let none = tree.get-empty {X = Request} nat_cmp req in absurd (cc (none, got))

-- a request that is no command is with anything
plain_open : (opened : Option (Bool × ℕ)) (course : Course) → is_command course ≡ false → IsOpenAtCourse opened course
plain_open opened (Waiting ask) plain = tt
plain_open opened (Driving driver) plain = tt
plain_open opened (Commanding op) plain = absurd (cc (plain))
plain_open opened (Checking check) plain = tt
plain_open opened (DoingWork work) plain = tt
plain_open opened (AwaitingDecision entry) plain = tt

-- ---- sessions change, but not in what they have open

alike_open : (requests : Requests) (old new : Sessions) → ((q : ℕ) → opened_in q new ≡ opened_in q old) → AreOpenSo requests old
    → AreOpenSo requests new
alike_open requests old new same all req request got =
    subst (λ (opened : Option (Bool × ℕ)). IsOpenAtCourse opened request.course) (sym (same request.session)) (all req request got)

-- one of them
pub one_alike : (requests : Requests) (sessions : Sessions) (number : ℕ) (session : Session)
    → opened_as session.disk ≡ opened_in number sessions
    → AreOpenSo requests sessions → AreOpenSo requests (tree.insert sessions number session)
one_alike requests sessions number session same =
    alike_open requests sessions (tree.insert sessions number session)
    (same_view (λ (s : Session). opened_as s.disk) sessions number session same)

-- its line of works
lined_open : (requests : Requests) (sessions : Sessions) (number : ℕ) (queue : InodeQueue) → AreOpenSo requests sessions
    → AreOpenSo requests (tree.insert sessions number (record (session_among number sessions) { inode_queue = queue }))
lined_open requests sessions number queue =
    one_alike requests sessions number (record (session_among number sessions) { inode_queue = queue }) refl

-- ---- a request is put anew, or goes

put_open : (requests : Requests) (sessions : Sessions) (req session : ℕ) (course : Course)
    → IsOpenAtCourse (opened_in session sessions) course
    → AreOpenSo requests sessions → AreOpenSo (tree.insert requests req (record { session = session; course = course })) sessions
put_open requests sessions req session course so all q request got = ⊎_elim
    (λ (own : (q ≡ req) × (record { session = session; course = course } ≡ request)).
    subst (λ (r : Request). IsOpenAtCourse (opened_in r.session sessions) r.course) own.1 so)
    (λ (other : (q ≢ req) × (tree.get requests q ≡ Some request)). all q request other.1)
    (get-insert_cases requests req (record { session = session; course = course }) q request got)

gone_open : (requests : Requests) (sessions : Sessions) (req : ℕ) → AreOpenSo requests sessions
    → AreOpenSo (tree.remove requests req) sessions
gone_open requests sessions req all q request got = ⊎_elim
    (λ (own : q ≡ req).
    let none : tree.get (tree.remove requests req) q ≡ None = ap (tree.get (tree.remove requests req)) own ∙ get-remove_same requests req in
    absurd (cc (none, got)))
    (λ (other : q ≢ req). all q request (sym (get-remove_other requests req q other) ∙ got))
    (cases_eq q req)

ended_open : (session req : ℕ) (reply : GuestRsp) (so_far : StepState) → AreOpenSoFar so_far
    → AreOpenSoFar (request_ended session req reply so_far)
unfolding request_ended
ended_open session req reply so_far all =
    one_alike (tree.remove so_far.node.requests req) so_far.node.sessions session _ refl
    (gone_open so_far.node.requests so_far.node.sessions req all)

-- a read or write takes a step: its disk stays the same, but for the table
driven_open : (session req : ℕ) (disk : Disk) (step : drivers.DriverStep) (so_far : StepState)
    → (session_in session so_far).disk ≡ Some disk
    → IsWantedStep disk.inode step → AreOpenSoFar so_far → AreOpenSoFar (after_driver_step session req disk step so_far)
driven_open session req disk step so_far on wanted all =
    let after : Session = record (session_in session so_far) { disk = Some (record disk { inode = step.inode }) } in
    put_open so_far.node.requests (tree.insert so_far.node.sessions session after) req session (Driving step.driver) tt
    (one_alike so_far.node.requests so_far.node.sessions session after
    (ap (λ (vid : ℕ). Some (disk.snapshot, vid)) wanted.vid ∙ sym (ap opened_as on)) all)

-- a command takes one: no other command of the session is there
command_open : (session req : ℕ) (step : OpStep) (so_far : StepState) → IsOpenAtStage (opened_in session so_far.node.sessions) step.op.stage
    → ((other : ℕ) (request : Request) → tree.get so_far.node.requests other ≡ Some request → is_command request.course ≡ true
    → request.session ≡ session → other ≡ req)
    → AreOpenSoFar so_far → AreOpenSoFar (after_command_step session req step so_far)
command_open session req step so_far so sole all q request got = ⊎_elim
    (λ (own : (q ≡ req) × (new ≡ request)).
    subst (λ (r : Request). IsOpenAtCourse (opened_in r.session sessions) r.course) own.1
    (subst (λ (opened : Option (Bool × ℕ)). IsOpenAtStage opened step.op.stage)
    (sym (ap (λ (o : Option Session). opened_as (unwrap_or o new_session).disk) (get-insert_same so_far.node.sessions session after)))
    (left_open step.op.stage (session_in session so_far).disk so)))
    (λ (other : (q ≢ req) × (tree.get so_far.node.requests q ≡ Some request)). ⊎_elim
    (λ (same : request.session ≡ session). by_kind other.0 other.1 same (is_command request.course) refl)
    (λ (apart : request.session ≢ session).
    subst (λ (opened : Option (Bool × ℕ)). IsOpenAtCourse opened request.course)
    (sym (ap (λ (o : Option Session). opened_as (unwrap_or o new_session).disk)
    (get-insert_other so_far.node.sessions session after request.session apart)))
    (all q request other.1))
    (cases_eq request.session session))
    (get-insert_cases so_far.node.requests req new q request got)
  where
    new : Request
    new = record { session = session; course = Commanding step.op }

    after : Session
    after = record (session_in session so_far) { disk = disk_after (disk_change step) (session_in session so_far).disk; command = Some req }

    sessions : Sessions
    sessions = tree.insert so_far.node.sessions session after

    by_kind : q ≢ req → tree.get so_far.node.requests q ≡ Some request → request.session ≡ session → (b : Bool)
        → is_command request.course ≡ b
        → IsOpenAtCourse (opened_in request.session sessions) request.course
    by_kind apart there same true command = absurd (apart (sole q request there command same))
    by_kind apart there same false plain = plain_open (opened_in request.session sessions) request.course plain

-- a request that is alone in its session, and no command
sole_open : (session req : ℕ) (course : Course) (so_far : StepState) → is_command course ≡ false → AreOpenSoFar so_far
    → AreOpenSo (tree.insert so_far.node.requests req (record { session = session; course = course }))
    (tree.insert so_far.node.sessions session (record (session_in session so_far) { command = Some req }))
sole_open session req course so_far plain all =
    let sessions = tree.insert so_far.node.sessions session (record (session_in session so_far) { command = Some req }) in
    put_open so_far.node.requests sessions req session course (plain_open (opened_in session sessions) course plain)
    (one_alike so_far.node.requests so_far.node.sessions session (record (session_in session so_far) { command = Some req }) refl all)

-- a work has ended, and left the line
freed_open : (session req : ℕ) (work : Work) (status : Status) (so_far : StepState) → AreOpenSoFar so_far
    → AreOpenSoFar (without_ended_work session req work status so_far)
freed_open session req work status so_far all = one_alike so_far.node.requests so_far.node.sessions session _ refl all

module _ (read unread : List Entry) (input : Input) (node : Node) (meets : MeetsCommands read input node) where
  abbrev Is : StepState → Type 0
  Is = AreAwaitedSoFar read node.me unread (entry_of_input input)

  steps_open : (so_far : StepState) (session req : ℕ) (next : Outcome) (moved : StepState)
      → RequestSteps input node so_far session req next moved
      → Is so_far → AreOpenSoFar so_far → AreOpenSoFar moved
  steps_open so_far session req next moved (DiskBegins ask disk there on may) so all =
      driven_open session req disk (drivers.begin_driver disk ask) so_far on (driver_begins-wanted disk ask) all
  steps_open so_far session req next moved (DiskGoesOn number work attempt status bytes driver disk step ends on is) so all =
      driven_open session req disk step (without_ended_work session req work status so_far) on
      (driver_goes_on-wanted disk.inode bytes driver step is) (freed_open session req work status so_far all)
  steps_open so_far session req next moved (CommandBegins ask step arrival is) so all =
      command_open session req step so_far
      (begins_open so_far.node.me session step (session_in session so_far).disk ask arrival.refused is)
      (λ other request got command of.
      absurd (meets.free req session (asks.Vdi ask) arrival.from other request
      (ap (λ (s : StepState). tree.get s.node.requests other) (sym arrival.first) ∙ got) command of)) all
  steps_open so_far session req next moved (CommandGoesOn number work attempt status bytes op step ends is) so all =
      let freed = freed_open session req work status so_far all in
      let there = ends.ends.request in
      command_open session req step (without_ended_work session req work status so_far)
      (goes_on_open op (opened_in session (without_ended_work session req work status so_far).node.sessions) bytes step is
      (freed req (record { session = session; course = Commanding op }) there))
      (λ other request got command of. so.commands.apart other req request (record { session = session; course = Commanding op }) got there
      command refl of) freed
  steps_open so_far session req next moved (CommandDecided entry op step from peer there waits is) so all =
      command_open session req step so_far
      (decided_open op (effects_of so_far.node.peer) (session_in session so_far).disk (decision_on entry node.peer) step is
      (all req (record { session = session; course = Commanding op }) there))
      (λ other request got command of. so.commands.apart other req request (record { session = session; course = Commanding op }) got there
      command refl of) all
  steps_open so_far session req next moved (CheckBegins inode arrival on) so all =
      sole_open session req (Checking (begin_check inode).check) so_far refl all
  steps_open so_far session req next moved (CheckGoesOn number work attempt status bytes check step ends is) so all =
      sole_open session req (Checking step.check) (without_ended_work session req work status so_far) refl
      (freed_open session req work status so_far all)
  steps_open so_far session req next moved (ObjectBegins asked arrival) so all = sole_open session req (DoingWork asked) so_far refl all
  steps_open so_far session req next moved (ObjectIsDone number work attempt status bytes asked ends) so all =
      freed_open session req work status so_far all
  steps_open so_far session req next moved (EntryBegins entry arrival) so all =
      sole_open session req (AwaitingDecision entry) so_far refl all
  steps_open so_far session req next moved (EntryDecided entry wanted from peer there waits) so all = all

  parts : (so_far : StepState) → Is so_far → AreOpenSoFar so_far → IsKeptByParts AreOpenSo lined_open input node so_far
  parts so_far so all =
      kept_by_steps AreOpenSo lined_open so_far
      (λ session req outcome moved takes. steps_open so_far session req outcome moved takes so all) ended_open
      (λ session req ask disk arrival on.
      one_alike (tree.insert so_far.node.requests req (record { session = session; course = Waiting ask })) so_far.node.sessions session _
      refl (put_open so_far.node.requests so_far.node.sessions req session (Waiting ask) tt all))

  pub next_open : (so_far : StepState) (session req : ℕ) (asked : Work) (lined : StepState)
      → WorkIsNext input node so_far session req asked lined → Is so_far
      → AreOpenSoFar so_far → AreOpenSoFar lined
  next_open so_far session req asked lined comes so all =
      next_holds AreOpenSo lined_open so_far (parts so_far so all) all session req asked lined comes

  pub change_open : (so_far next : StepState) → Change input node so_far next → Is so_far → AreOpenSoFar so_far → AreOpenSoFar next
  change_open so_far next change so all = change_holds AreOpenSo lined_open so_far (parts so_far so all) all next change

  pub chain_open : {first so_far : StepState} → Leads input node first so_far → Is first → AreOpenSoFar first → AreOpenSoFar so_far
  chain_open leads so all =
      (kept_by_chain (λ (s : StepState). Is s × AreOpenSoFar s)
      (λ so_far next change both. (
        change_awaited read unread input node meets so_far next change both.0,
        change_open so_far next change
            both.0 both.1,
      )) leads (so, all)).1

pub received_open : (input : Input) (node : Node) → AreOpenSo node.requests node.sessions
    → AreOpenSoFar (input_received input (at_first node))
received_open = received_keeps (λ works requests sessions. AreOpenSo requests sessions) none_open
