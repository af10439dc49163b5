-- Each request of a node is at a place that what it asked allows, on the disk that its session has open, which is the one on which it
-- began: every change keeps that, whatever is known of the disks on which requests began.
use Rattle.std.proofs.Common.{◌≡◌, ◌≢◌, ℕ, Bool, true, false, Option, Some, None, option_map, refl, sym, ap, subst, ◌∙◌, ⊎_elim}
use Rattle.std.specs.Prelude.{unwrap_or}
use Rattle.std.specs.FinMap as tree
use Rattle.std.proofs.lemmas.Bool.{cases_eq}
use Rattle.std.proofs.lemmas.Option.{same_Some}
use Rattle.proof_tools.proofs.FiniteMaps.{get-insert_same, get-insert_other, get-remove_other, get-remove_same}
use Rattle.peer_proto.specs.declared.guest.DiskAsk.{DiskAsk}
use Rattle.peer_proto.specs.declared.guest.GuestRsp.{GuestRsp}
use Rattle.peer_proto.specs.declared.guest.VdiAsk.{VdiAsk}
use Rattle.peer_proto.specs.declared.guest.VdiAsk.TheVariants as disk_commands
use Rattle.gateway.specs.declared.message.Status.{Status}
use Rattle.gateway.specs.State.{Work}
use Rattle.gateway_queue.specs.Queue.{queue_without}
use Rattle.guest_driver.specs.declared.act.DriverAct.{DriverAct}
use Rattle.guest_driver.specs.declared.act.DriverAct.TheVariants as driver_acts
use Rattle.guest_driver.specs.declared.disk.Disk.{Disk}
use Rattle.guest_driver.specs.Driver.{Driver, DriverStep}
use Rattle.guest_driver.specs.InodeQueue.{queue_after_end}
use Rattle.disk_check.specs.declared.act.CheckAct.{CheckAct}
use Rattle.disk_check.specs.declared.act.CheckAct.TheVariants as check_acts
use Rattle.disk_check.specs.Check.{CheckStep}
use Rattle.vdi_ops.specs.declared.act.OpAct.{OpAct}
use Rattle.vdi_ops.specs.declared.act.OpAct.TheVariants as op_acts
use Rattle.vdi_ops.specs.Entries.{command_refusal}
use Rattle.vdi_ops.specs.Op.{OpStep, disk_change}
use Rattle.sheep_node.specs.declared.ask.Ask.{Ask}
use Rattle.sheep_node.specs.declared.ask.Ask.TheVariants as asks
use Rattle.sheep_node.specs.declared.input.Input.{Input}
use Rattle.sheep_node.specs.declared.input.Input.TheVariants as inputs
use Rattle.sheep_node.specs.declared.course.Course.{Course}
use Rattle.sheep_node.specs.declared.course.Request.{Request}
use Rattle.sheep_node.specs.declared.session.Session.{Session}
use Rattle.sheep_node.specs.declared.course.Course.TheVariants.{Waiting, Driving, Commanding, Checking, DoingWork, AwaitingDecision}
use Rattle.sheep_node.specs.State.{Node, new_session}
use Rattle.sheep_node.specs.StepState.{StepState, session_in, request_ended, with_sole_request}
use Rattle.sheep_node.specs.Courses.{after_driver_step, disk_after, after_command_step}
use Rattle.sheep_node.specs.Guests.{seen_by_command}
use Rattle.peer_proto.specs.declared.work.ObjWork.{ObjWork}
use Rattle.sheep_node.specs.May.{is_disk_course}
use Rattle.sheep_node.specs.SessionQueues.{session_among, command_in}
use Rattle.sheep_node.specs.Changes.{HasRequest, Outcome, ToWork, ToEntry, ToReply, outcome_of_driver, outcome_of_command, outcome_of_check}
use Rattle.sheep_node.specs.Changes.{without_ended_work}
use Rattle.sheep_node.proofs.OneWorkParts.{Requests, Sessions}
use Rattle.sheep_node.proofs.SessionViews.{IsSeen, same_seen, free_seen, own_seen}
use Rattle.sheep_node.proofs.SoleParts.{CommandsAre, IsFreeFor}
use Rattle.overlap_law.specs.RequestsOfScript.{IsOnDisk, IsDriverOfAsk, IsCourseOfAsk, is_of_client}
use Rattle.overlap_law.proofs.StepsOfAsks.{IsDriverAskedAt, driver_stays-asked, IsCheckAskedAt, IsOpAskedAt}

-- what a session has open
abbrev pub disk_in : Session → Option Disk
disk_in session = session.disk

-- its id
abbrev pub id_of_disk : Option Disk → Option ℕ
id_of_disk disk = option_map (λ (disk : Disk). disk.inode.vid) disk

-- a client without a script asks for an object or an entry
abbrev pub IsOfSession : Ask → Type 0
IsOfSession (asks.Disk ask) = Unit {0}
IsOfSession (asks.Vdi ask) = Unit {0}
IsOfSession (asks.Object work) = ⊥
IsOfSession (asks.Entry entry) = ⊥

-- ---- one request

-- the disk stays the same, but for its table
abbrev stays_on : (old new : Disk) (began : Option ℕ) → new.inode.vid ≡ old.inode.vid → IsOnDisk (Some old) began
    → IsOnDisk (Some new) began
stays_on old new began vid on =
    let same : old ≡ on.disk = same_Some old on.disk on.there in
    record { disk = new; there = refl; same = on.same ∙ ap (λ (d : Disk). Some d.inode.vid) (sym same) ∙ ap Some (sym vid) }

driver_stays : (asked : Option Ask) (old new : Disk) (began : Option ℕ) (driver : Driver) → new.inode.vid ≡ old.inode.vid
    → new.inode.spec ≡ old.inode.spec → IsDriverOfAsk asked (Some old) began driver → IsDriverOfAsk asked (Some new) began driver
driver_stays asked old new began driver vid spec is =
    let same : old ≡ is.on.disk = same_Some old is.on.disk is.on.there in
    record {
      ask = is.ask;
      on = stays_on old new began vid is.on;
      of = is.of;
      is = driver_stays-asked is.on.disk new is.ask (spec ∙ ap (λ (d : Disk). d.inode.spec) same) driver is.is;
    }

-- a check is of a working disk
pub check_working : (disk : Disk) → command_refusal (seen_by_command (Some disk)) disk_commands.Check ≡ None → disk.snapshot ≡ false
check_working disk allowed = by_kind disk.snapshot refl
  where
    by_kind : (b : Bool) → disk.snapshot ≡ b → disk.snapshot ≡ false
    by_kind true snapshot =
        let refused = ap (λ (b : Bool). command_refusal (Some (record { inode = disk.inode; snapshot = b })) disk_commands.Check)
        (sym snapshot) ∙ allowed in
        absurd (cc (refused))
    by_kind false working = working

-- what a session has open changes so that each of its requests stays so
pub seen_moves : (Q : Option Disk → Course → Type 0) (sessions : Sessions) (number : ℕ) (session : Session) (request : Request)
    → (request.session ≡ number → Q (disk_in (session_among number sessions)) request.course → Q session.disk request.course)
    → IsSeen disk_in Q sessions (Some request) → IsSeen disk_in Q (tree.insert sessions number session) (Some request)
seen_moves Q sessions number session request moves is = ⊎_elim
    (λ (here : request.session ≡ number).
    let before = subst (λ (k : ℕ). Q (disk_in (session_among k sessions)) request.course) here is in
    let after : disk_in (session_among request.session (tree.insert sessions number session)) ≡ session.disk
    = ap (λ (k : ℕ). disk_in (session_among k (tree.insert sessions number session))) here
    ∙ ap (λ (o : Option Session). disk_in (unwrap_or o new_session)) (get-insert_same sessions number session) in
    subst (λ (d : Option Disk). Q d request.course) (sym after) (moves here before))
    (λ (apart : request.session ≢ number).
    subst (λ (o : Option Session). Q (disk_in (unwrap_or o new_session)) request.course)
    (sym (get-insert_other sessions number session request.session apart)) is)
    (cases_eq request.session number)

-- a session with a read or write has reads and writes alone
pub plain : (session req : ℕ) (course : Course) (so_far : StepState) → CommandsAre so_far → HasRequest session req course so_far
    → is_disk_course course ≡ true → (q : ℕ) (request : Request) → tree.get so_far.node.requests q ≡ Some request
    → request.session ≡ session → is_disk_course request.course ≡ true
plain session req course so_far sole there disk q request got of = by_kind (is_disk_course request.course) refl
  where
    by_kind : (b : Bool) → is_disk_course request.course ≡ b → is_disk_course request.course ≡ true
    by_kind true is = is
    by_kind false is =
        let command : command_in session so_far.node.sessions ≡ Some q
        = ap (λ (k : ℕ). command_in k so_far.node.sessions) (sym of) ∙ sole.named q request got is in
        let same : req ≡ q = sole.alone session q req (record { session = session; course = course }) command there refl in
        let found : request ≡ record { session = session; course = course }
        = same_Some request (record { session = session; course = course })
        (sym got ∙ ap (tree.get so_far.node.requests) (sym same) ∙ there) in
        ap (λ (r : Request). is_disk_course r.course) found ∙ disk

-- a request is no client's: something was asked, or its course isn't a client's
abbrev pub IsNoClients : Option Ask → Course → Type 0
IsNoClients asked course = asked ≡ None → is_of_client course ≡ true → ⊥

pub asked_none : (asked : Option Ask) (ask : Ask) (course : Course) → asked ≡ Some ask → IsNoClients asked course
asked_none asked ask course is none client = cc (none, is)

pub course_none : (asked : Option Ask) (course : Course) → is_of_client course ≡ false → IsNoClients asked course
course_none asked course is none client = cc (is, client)

module _ (asked : ℕ → Option Ask) (Began : ℕ → Option ℕ → Type 0) where
  -- a request is where its ask, the open disk and the disk on which it began allow
  abbrev pub IsPlacedAs : ℕ → Option Disk → Course → Type 0
  IsPlacedAs req opened course = (began : Option ℕ) × Began req began × IsCourseOfAsk (asked req) opened began course

  -- or is a client's, for which nothing was asked
  abbrev pub IsPlacedAt : ℕ → Option Disk → Course → Type 0
  IsPlacedAt req opened (Waiting ask) = IsPlacedAs req opened (Waiting ask)
  IsPlacedAt req opened (Driving driver) = IsPlacedAs req opened (Driving driver)
  IsPlacedAt req opened (Commanding op) = IsPlacedAs req opened (Commanding op)
  IsPlacedAt req opened (Checking check) = IsPlacedAs req opened (Checking check)
  IsPlacedAt req opened (DoingWork work) = asked req ≡ None
  IsPlacedAt req opened (AwaitingDecision entry) = IsPlacedAs req opened (AwaitingDecision entry)

  -- where something was asked, or the course is no client's, it is so placed
  pub placed_unless : (req : ℕ) (opened : Option Disk) (course : Course) → IsNoClients (asked req) course → IsPlacedAt req opened course
      → IsPlacedAs req opened course
  placed_unless req opened (Waiting ask) unless_so is = is
  placed_unless req opened (Driving driver) unless_so is = is
  placed_unless req opened (Commanding op) unless_so is = is
  placed_unless req opened (Checking check) unless_so is = is
  placed_unless req opened (DoingWork work) unless_so is = absurd (unless_so is refl)
  placed_unless req opened (AwaitingDecision entry) unless_so is = is

  pub placed_as : (req : ℕ) (opened : Option Disk) (course : Course) → is_of_client course ≡ false → IsPlacedAt req opened course
      → IsPlacedAs req opened course
  placed_as req opened course none is = placed_unless req opened course (course_none (asked req) course none) is

  pub placed_by_ask : (req : ℕ) (ask : Ask) → asked req ≡ Some ask → (opened : Option Disk) (course : Course) → IsPlacedAt req opened course
      → IsPlacedAs req opened course
  placed_by_ask req ask of opened course is = placed_unless req opened course (asked_none (asked req) ask course of) is

  abbrev pub IsPlacedIn : ℕ → Sessions → Option Request → Type 0
  IsPlacedIn req sessions request = IsSeen disk_in (IsPlacedAt req) sessions request

  -- each is
  abbrev pub ArePlaced : Requests → Sessions → Type 0
  ArePlaced requests sessions = (req : ℕ) → IsPlacedIn req sessions (tree.get requests req)

  -- and each but one
  abbrev pub OthersArePlaced : ℕ → Requests → Sessions → Type 0
  OthersArePlaced req requests sessions = (q : ℕ) → q ≢ req → IsPlacedIn q sessions (tree.get requests q)

  abbrev pub PlacedSoFar : StepState → Type 0
  PlacedSoFar so_far = ArePlaced so_far.node.requests so_far.node.sessions

  -- what is asked is of a session, and begins on the disk that this has open
  abbrev pub IsBroughtAs : ℕ → Option Disk → Ask → Type 0
  IsBroughtAs req opened ask = IsOfSession ask × (asked req ≡ Some ask) × Began req (id_of_disk opened)

  -- or is a client's
  abbrev pub IsBroughtBy : ℕ → Option Disk → Ask → Type 0
  IsBroughtBy req opened (asks.Disk ask) = IsBroughtAs req opened (asks.Disk ask)
  IsBroughtBy req opened (asks.Vdi ask) = IsBroughtAs req opened (asks.Vdi ask)
  IsBroughtBy req opened (asks.Object work) = asked req ≡ None
  IsBroughtBy req opened (asks.Entry entry) = IsBroughtAs req opened (asks.Entry entry)

  pub brought_by : (req : ℕ) (opened : Option Disk) (ask : Ask) → IsBroughtAs req opened ask → IsBroughtBy req opened ask
  brought_by req opened (asks.Disk ask) is = is
  brought_by req opened (asks.Vdi ask) is = is
  brought_by req opened (asks.Object work) is = absurd is.0
  brought_by req opened (asks.Entry entry) is = is

  abbrev pub IsBrought : Input → Node → Type 0
  IsBrought input node = (req session : ℕ) (ask : Ask) → input ≡ inputs.Guest req session ask
      → IsBroughtBy req (session_among session node.sessions).disk ask

  stays_placed : (req : ℕ) (old new : Disk) → new.inode.vid ≡ old.inode.vid → new.inode.spec ≡ old.inode.spec → (course : Course)
      → is_disk_course course ≡ true → IsPlacedAt req (Some old) course → IsPlacedAt req (Some new) course
  stays_placed req old new vid spec (Waiting ask) disk (began, b, is) = (began, b, (is.0, stays_on old new began vid is.1))
  stays_placed req old new vid spec (Driving driver) disk (began, b, is) =
      (began, b, driver_stays (asked req) old new began driver vid spec is)
  stays_placed req old new vid spec (Commanding op) disk is = absurd (cc (disk))
  stays_placed req old new vid spec (Checking check) disk is = absurd (cc (disk))
  stays_placed req old new vid spec (DoingWork work) disk is = absurd (cc (disk))
  stays_placed req old new vid spec (AwaitingDecision entry) disk is = absurd (cc (disk))

  -- ---- sessions and requests

  pub session_placed : (requests : Requests) (sessions : Sessions) (number : ℕ) (session : Session)
      → session.disk ≡ (session_among number sessions).disk → ArePlaced requests sessions
      → ArePlaced requests (tree.insert sessions number session)
  session_placed requests sessions number session same all q =
      same_seen disk_in (IsPlacedAt q) sessions number session same (tree.get requests q) (all q)

  -- with the one more all are
  pub all_placed : (req : ℕ) (requests : Requests) (sessions : Sessions) → OthersArePlaced req requests sessions
      → IsPlacedIn req sessions (tree.get requests req) → ArePlaced requests sessions
  all_placed req requests sessions others own q = ⊎_elim
      (λ (same : q ≡ req). subst (λ (k : ℕ). IsPlacedIn k sessions (tree.get requests k)) (sym same) own)
      (λ (other : q ≢ req). others q other)
      (cases_eq q req)

  pub but_one : (req : ℕ) (requests : Requests) (sessions : Sessions) → ArePlaced requests sessions → OthersArePlaced req requests sessions
  but_one req requests sessions all q other = all q

  -- a request is in another course, and its session changes so that others stay where they are
  pub moved_others : (req number : ℕ) (course : Course) (session : Session) (so_far : StepState)
      → ((q : ℕ) → q ≢ req → IsPlacedIn q (tree.insert so_far.node.sessions number session) (tree.get so_far.node.requests q))
      → OthersArePlaced req (tree.insert so_far.node.requests req (record { session = number; course = course }))
      (tree.insert so_far.node.sessions number session)
  moved_others req number course session so_far view q other =
      subst (IsPlacedIn q (tree.insert so_far.node.sessions number session))
      (sym (get-insert_other so_far.node.requests req (record { session = number; course = course }) q other)) (view q other)

  pub freed_placed : (number req : ℕ) (work : Work) (status : Status) (so_far : StepState) → PlacedSoFar so_far
      → PlacedSoFar (without_ended_work number req work status so_far)
  freed_placed number req work status so_far all =
      session_placed so_far.node.requests so_far.node.sessions number
      (record (session_in number so_far) { inode_queue = queue_after_end (session_in number so_far).inode_queue work.work }) refl all

  pub others_ended : (number req : ℕ) (reply : GuestRsp) (so_far : StepState)
      → OthersArePlaced req so_far.node.requests so_far.node.sessions
      → PlacedSoFar (request_ended number req reply so_far)
  unfolding request_ended
  others_ended number req reply so_far others =
      session_placed (tree.remove so_far.node.requests req) so_far.node.sessions number
      (record (session_in number so_far) { queue = queue_without req (session_in number so_far).queue; command = None }) refl
      (λ q. ⊎_elim
      (λ (own : q ≡ req).
      let none : tree.get (tree.remove so_far.node.requests req) q ≡ None
      = ap (tree.get (tree.remove so_far.node.requests req)) own ∙ get-remove_same so_far.node.requests req in
      subst (IsPlacedIn q so_far.node.sessions) (sym none) tt)
      (λ (other : q ≢ req).
      subst (IsPlacedIn q so_far.node.sessions) (sym (get-remove_other so_far.node.requests req q other)) (others q other))
      (cases_eq q req))

  pub ended_placed : (number req : ℕ) (reply : GuestRsp) (so_far : StepState) → PlacedSoFar so_far
      → PlacedSoFar (request_ended number req reply so_far)
  ended_placed number req reply so_far all =
      others_ended number req reply so_far (but_one req so_far.node.requests so_far.node.sessions all)

  pub course_placed : (number req : ℕ) (course : Course) (so_far : StepState) → HasRequest number req course so_far → PlacedSoFar so_far
      → IsPlacedAt req (session_in number so_far).disk course
  course_placed number req course so_far there all = subst (IsPlacedIn req so_far.node.sessions) there (all req)

  -- ---- a step that a request takes

  -- where it comes to a work or an entry, it is placed
  abbrev pub IsOutcomePlaced : ℕ → Outcome → StepState → Type 0
  IsOutcomePlaced req (ToWork work) so_far = IsPlacedIn req so_far.node.sessions (tree.get so_far.node.requests req)
  IsOutcomePlaced req (ToEntry entry) so_far = IsPlacedIn req so_far.node.sessions (tree.get so_far.node.requests req)
  IsOutcomePlaced req (ToReply reply) so_far = Unit {0}

  abbrev pub HasMoved : ℕ → Outcome → StepState → Type 0
  HasMoved req next moved = OthersArePlaced req moved.node.requests moved.node.sessions × IsOutcomePlaced req next moved

  pub driven_placed : (number req : ℕ) (course : Course) (disk : Disk) (step : DriverStep) (so_far : StepState) → CommandsAre so_far
      → HasRequest number req course so_far → is_disk_course course ≡ true → (session_in number so_far).disk ≡ Some disk
      → step.inode.vid ≡ disk.inode.vid → step.inode.spec ≡ disk.inode.spec → (ask : DiskAsk) (began : Option ℕ) → Began req began
      → asked req ≡ Some (asks.Disk ask) → IsOnDisk (Some disk) began → IsDriverAskedAt disk ask step.driver step.act → PlacedSoFar so_far
      → HasMoved req (outcome_of_driver step.act) (after_driver_step number req disk step so_far)
  driven_placed number req course disk step so_far sole there is_disk on vid spec ask began b of on_disk is all = (
    moved_others req number (Driving step.driver) after so_far (λ q other. by_got q (tree.get so_far.node.requests q) refl (all q)),
    by_act step.act is,
  )
    where
      now : Disk
      now = record disk { inode = step.inode }

      after : Session
      after = record (session_in number so_far) { disk = Some (record disk { inode = step.inode }) }

      by_got : (q : ℕ) (o : Option Request) → tree.get so_far.node.requests q ≡ o → IsPlacedIn q so_far.node.sessions o
          → IsPlacedIn q (tree.insert so_far.node.sessions number after) o
      by_got q None got seen = tt
      by_got q (Some request) got seen =
          seen_moves (IsPlacedAt q) so_far.node.sessions number after request
          (λ here before. stays_placed q disk now vid spec request.course
          (plain number req course so_far sole there is_disk q request got here)
          (subst (λ (d : Option Disk). IsPlacedAt q d request.course) on before)) seen

      by_act : (act : DriverAct) → IsDriverAskedAt disk ask step.driver act
          → IsOutcomePlaced req (outcome_of_driver act) (after_driver_step number req disk step so_far)
      by_act (driver_acts.Work work) is =
          own_seen disk_in (IsPlacedAt req) so_far.node.sessions number after req (Driving step.driver) so_far.node.requests (
            began,
            b,
            record {
              ask = ask;
              on = stays_on disk now began vid on_disk;
              of = of;
              is = driver_stays-asked disk now ask spec step.driver is;
            },
          )
      by_act (driver_acts.Reply reply) is = tt

  pub commanded_placed : (number req : ℕ) (step : OpStep) (so_far : StepState) → IsFreeFor number req so_far.node.requests → (ask : VdiAsk)
      (began : Option ℕ) → Began req began → asked req ≡ Some (asks.Vdi ask) → IsOpAskedAt ask step.op step.act → PlacedSoFar so_far
      → HasMoved req (outcome_of_command step.act) (after_command_step number req step so_far)
  commanded_placed number req step so_far alone ask began b of is all = (
    moved_others req number (Commanding step.op) after so_far
        (λ q other. free_seen disk_in (IsPlacedAt q) so_far.node.sessions number after req q so_far.node.requests alone other (all q)),
    by_act step.act is,
  )
    where
      after : Session
      after = record (session_in number so_far) { disk = disk_after (disk_change step) (session_in number so_far).disk; command = Some req }

      by_act : (act : OpAct) → IsOpAskedAt ask step.op act
          → IsOutcomePlaced req (outcome_of_command act) (after_command_step number req step so_far)
      by_act (op_acts.Append entry) is =
          own_seen disk_in (IsPlacedAt req) so_far.node.sessions number after req (Commanding step.op) so_far.node.requests
          (began, b, record { ask = ask; of = of; is = is })
      by_act (op_acts.Work work) is =
          own_seen disk_in (IsPlacedAt req) so_far.node.sessions number after req (Commanding step.op) so_far.node.requests
          (began, b, record { ask = ask; of = of; is = is })
      by_act (op_acts.Reply reply) is = tt

  pub checked_placed : (number req : ℕ) (step : CheckStep) (so_far : StepState) (disk : Disk) → (session_in number so_far).disk ≡ Some disk
      → (began : Option ℕ) → Began req began → IsOnDisk (Some disk) began → disk.snapshot ≡ false
      → asked req ≡ Some (asks.Vdi disk_commands.Check)
      → IsCheckAskedAt disk step.check step.act → PlacedSoFar so_far
      → HasMoved req (outcome_of_check step.act) (with_sole_request number req (Checking step.check) so_far)
  checked_placed number req step so_far disk on began b on_disk working of is all = (
    moved_others req number (Checking step.check) after so_far
        (λ q other. same_seen disk_in (IsPlacedAt q) so_far.node.sessions number after refl (tree.get so_far.node.requests q) (all q)),
    by_act step.act is,
  )
    where
      after : Session
      after = record (session_in number so_far) { command = Some req }

      by_act : (act : CheckAct) → IsCheckAskedAt disk step.check act
          → IsOutcomePlaced req (outcome_of_check act) (with_sole_request number req (Checking step.check) so_far)
      by_act (check_acts.Work work) is =
          own_seen disk_in (IsPlacedAt req) so_far.node.sessions number after req (Checking step.check) so_far.node.requests (
            began,
            b,
            record {
              on = record {
                disk = disk;
                there = on;
                same = on_disk.same ∙ ap (λ (d : Disk). Some d.inode.vid) (sym (same_Some disk on_disk.disk on_disk.there));
              };
              working = working;
              of = of;
              is = is;
            },
          )
      by_act (check_acts.Reply found) is = tt

  -- a client's read begins
  pub object_placed : (number req : ℕ) (work : ObjWork) (so_far : StepState) → asked req ≡ None → PlacedSoFar so_far
      → HasMoved req (ToWork work) (with_sole_request number req (DoingWork work) so_far)
  object_placed number req work so_far none all = (
    moved_others req number (DoingWork work) after so_far
        (λ q other. same_seen disk_in (IsPlacedAt q) so_far.node.sessions number after refl (tree.get so_far.node.requests q) (all q)),
    own_seen disk_in (IsPlacedAt req) so_far.node.sessions number after req (DoingWork work) so_far.node.requests none,
  )
    where
      after : Session
      after = record (session_in number so_far) { command = Some req }
