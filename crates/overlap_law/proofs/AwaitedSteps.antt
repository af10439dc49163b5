-- Along the changes of a step the entries of a node's commands that are on their way stay awaited.
use Rattle.std.proofs.Common.{◌≡◌, ◌≢◌, arith, ℕ, ◌≤◌, Bool, true, false, List, [], ◌∷◌, ◌++◌, Option, Some, None, refl, sym, ap, subst}
use Rattle.std.proofs.Common.{◌∙◌}
use Rattle.std.specs.FinMap as tree
use Rattle.std.proofs.lemmas.Option.{same_Some}
use Rattle.proof_tools.proofs.FiniteMaps.{get-insert_same}
use Rattle.object_id.specs.declared.cause.Cause.{Cause}
use Rattle.object_id.specs.declared.cause.Cause.TheVariants.{Halt}
use Rattle.object_id.specs.declared.node.NodeId.{NodeId}
use Rattle.object_id.specs.declared.entry.Entry.{Entry}
use Rattle.object_id.specs.declared.entry.Entry.TheVariants.{Recovered}
use Rattle.vdi_directory.specs.declared.effect.Effect.{Effect}
use Rattle.vdi_directory.specs.Decisions.{log_effects}
use Rattle.peer_proto.specs.declared.guest.VdiAsk.{VdiAsk}
use Rattle.peer_proto.specs.declared.guest.VdiAsk.TheVariants as disk_commands
use Rattle.peer_service.specs.LogReading.{decision_on}
use Rattle.peer_service.specs.State.{effects_of}
use Rattle.gateway.specs.Attempt.{Attempt}
use Rattle.gateway.specs.State.{Work}
use Rattle.gateway.specs.Work.{zones_for}
use Rattle.gateway.specs.declared.message.Status.{Status}
use Rattle.guest_driver.specs.Driver as drivers
use Rattle.guest_driver.specs.declared.act.DriverAct.{DriverAct}
use Rattle.guest_driver.specs.declared.act.DriverAct.TheVariants as driver_acts
use Rattle.vdi_ops.specs.declared.act.OpAct.TheVariants as op_acts
use Rattle.vdi_ops.specs.Op.{Op, OpStep, IsAwaitedByCommand}
use Rattle.vdi_ops.specs.Steps.{begin_command, on_decision, op_on_done}
use Rattle.vdi_ops.proofs.StepLemmas.{begin_awaited, done_awaited, decision_awaited}
use Rattle.disk_check.specs.Check.{Check, begin_check}
use Rattle.disk_check.specs.declared.act.CheckAct.{CheckAct}
use Rattle.disk_check.specs.declared.act.CheckAct.TheVariants as check_acts
use Rattle.sheep_node.specs.declared.ask.Ask.{Ask}
use Rattle.sheep_node.specs.declared.ask.Ask.TheVariants as asks
use Rattle.sheep_node.specs.declared.input.Input.{Input}
use Rattle.sheep_node.specs.declared.input.Input.TheVariants as inputs
use Rattle.sheep_node.specs.declared.course.Course.{Course}
use Rattle.sheep_node.specs.declared.course.Request.{Request}
use Rattle.sheep_node.specs.declared.course.Course.TheVariants.{Waiting, Driving, Commanding, Checking, DoingWork, AwaitingDecision}
use Rattle.sheep_node.specs.State.{Node}
use Rattle.sheep_node.specs.StepState.{StepState, session_in}
use Rattle.sheep_node.specs.AwaitedEntry.{waits_for_entry}
use Rattle.sheep_node.specs.Courses.{inode_open, after_command_step}
use Rattle.sheep_node.specs.LogReading.{entry_read}
use Rattle.sheep_node.specs.Changes as changes
use Rattle.sheep_node.specs.Changes.{IsSoundStep, HasRequest, IsTold, Arrival, EndsWork, Outcome, ToWork, ToEntry, ToReply}
use Rattle.sheep_node.specs.Changes.{outcome_of_driver, outcome_of_command, outcome_of_check, without_ended_work, without_denied_work}
use Rattle.sheep_node.specs.Changes.{zones_of_members, RequestSteps, DiskBegins, DiskGoesOn, CommandBegins, CommandGoesOn, CommandDecided}
use Rattle.sheep_node.specs.Changes.{CheckBegins, CheckGoesOn, ObjectBegins, ObjectIsDone, EntryBegins, EntryDecided, WorkIsNext, AtOnce}
use Rattle.sheep_node.specs.Changes.{InTurn, Again, AgainAlone, Change, Leads}
use Rattle.sheep_node.proofs.OneWorkChanges.{awaited_of}
use Rattle.sheep_node.proofs.PeerLog.{entries_reading}
use Rattle.sheep_node.proofs.StepChain.{kept_by_chain}
use Rattle.overlap_law.specs.AwaitedEntries.{IsCommandEntry, IsSessionsCommand}
use Rattle.overlap_law.proofs.AwaitedChanges.{Requests, WaitsNot, IsOwnCourse, AreAwaited, AreAwaitedSoFar, put_awaited, more_awaited}
use Rattle.overlap_law.proofs.AwaitedChanges.{WaitsForNone, ended_awaited, refused_awaited, refused_if_there_awaited, IsNextAwaited}
use Rattle.overlap_law.proofs.AwaitedChanges.{IsNoneOnTheWay, none_on_the_way, command_awaited, on_way}
use Rattle.overlap_law.proofs.AwaitedCommands.{waits_at, is_command, one_is_waited_for, PutsNothing, done_waits_not, decided_puts_nothing}
use Rattle.overlap_law.proofs.CountedEntries.{same_entry}
use Rattle.overlap_law.proofs.SessionCommands.{IsReservedBy, reserved_by, begins-own, goes_on-own, decided-own}

-- the entry that a step reads
abbrev pub entry_of_input : Input → Option Entry
entry_of_input (inputs.Guest req session ask) = None
entry_of_input (inputs.Request request) = None
entry_of_input (inputs.Reply rsp) = None
entry_of_input (inputs.Lost number) = None
entry_of_input (inputs.LogEntry entry) = Some entry
entry_of_input inputs.Put = None
entry_of_input inputs.RecoverTick = None
entry_of_input inputs.RetryTick = None
entry_of_input (inputs.Back entries) = None

-- what is told of a message comes by no entry
pub told_no_entry : (input : Input) (number : ℕ) (status : Status) → IsTold input number status → (entry : Entry)
    → entry_of_input input ≢ Some entry
told_no_entry (inputs.Guest req session ask) number status told entry is = told
told_no_entry (inputs.Request request) number status told entry is = told
told_no_entry (inputs.Reply rsp) number status told entry is = absurd (cc (is))
told_no_entry (inputs.Lost lost) number status told entry is = absurd (cc (is))
told_no_entry (inputs.LogEntry of) number status told entry is = told
told_no_entry inputs.Put number status told entry is = told
told_no_entry inputs.RecoverTick number status told entry is = told
told_no_entry inputs.RetryTick number status told entry is = told
told_no_entry (inputs.Back entries) number status told entry is = told

-- what is asked of the input of a step: a session asks for no entry, and begins a command where it has none; and what the node reads by it
-- is read
pub record MeetsCommands (read : List Entry) (input : Input) (node : Node) : Type 0 where
  pub no_entry : (req session : ℕ) (entry : Entry) → input ≡ inputs.Guest req session (asks.Entry entry) → ⊥
  pub sound : (req session : ℕ) (ask : Ask) → input ≡ inputs.Guest req session ask → IsSoundStep input node
  pub free : (req session : ℕ) (ask : Ask) → input ≡ inputs.Guest req session ask → (other : ℕ) (request : Request)
      → tree.get node.requests other ≡ Some request → is_command request.course ≡ true → request.session ≢ session
  pub read_so : (entry : Entry) → input ≡ inputs.LogEntry entry → read ≡ node.peer.entries ++ entry ∷ []

module _ (read : List Entry) (unread : List Entry) (input : Input) (node : Node) (meets : MeetsCommands read input node) where
  abbrev me : NodeId
  me = node.me

  abbrev reading : Option Entry
  reading = entry_of_input input

  abbrev Is : StepState → Type 0
  Is = AreAwaitedSoFar read me unread reading

  abbrev IsNext : StepState → ℕ → Outcome → Type 0
  IsNext so_far req next = IsNextAwaited read me unread reading so_far.node.requests so_far.node.outbox req next

  abbrev Own : ℕ → Course → Type 0
  Own = IsOwnCourse read me

  -- a request that waits for nothing is put anew
  module _ (so_far : StepState) (so : Is so_far) (session req : ℕ) (course : Course) (there : HasRequest session req course so_far) where
    own_there : Own session course
    own_there = so.commands.own req (record { session = session; course = course }) there

    waits_not : ((entry : Entry) → waits_for_entry entry course ≡ false) → WaitsForNone read me unread reading so_far.node.requests req
    waits_not none entry old got =
        let same : record { session = session; course = course } ≡ old = same_Some _ old (sym there ∙ got) in
        subst (WaitsNot entry) same (none entry)

  not_there : (so_far : StepState) (session req : ℕ) (ask : Ask) {refusal : Option Cause}
      → Arrival input node so_far session req ask refusal
      → WaitsForNone read me unread reading so_far.node.requests req
  not_there so_far session req ask arrival entry old got =
      let none = arrival.none (meets.sound req session ask arrival.from) in
      absurd (cc (none, got))

  module _ (so_far : StepState) (so : Is so_far) (session req : ℕ) (course : Course) (own : Own session course)
      (plain : is_command course ≡ false)
      (none : WaitsForNone read me unread reading so_far.node.requests req) where
    -- a request that is no command is put
    plain_put : AreAwaited read me unread reading so_far.node.me
        (tree.insert so_far.node.requests req (record { session = session; course = course })) so_far.node.outbox
    plain_put =
        put_awaited read me unread reading so_far.node.me so_far.node.requests so_far.node.outbox so req
        (λ entry is some old got. none entry old got) session course own (λ command. absurd (cc (plain, command)))

  -- and waits for no entry, if it is none that waits
  put_waits_not : (requests : Requests) (session req : ℕ) (course : Course) → ((entry : Entry) → waits_for_entry entry course ≡ false)
      → WaitsForNone read me unread reading (tree.insert requests req (record { session = session; course = course })) req
  put_waits_not requests session req course none entry old got =
      let same : record { session = session; course = course } ≡ old
      = same_Some _ old (sym (get-insert_same requests req (record { session = session; course = course })) ∙ got) in
      subst (WaitsNot entry) same (none entry)

  driver_next : (requests : Requests) (outbox : List Entry) (session req : ℕ) (driver : drivers.Driver) (act : DriverAct)
      → IsNextAwaited read me unread reading (tree.insert requests req (record { session = session; course = Driving driver })) outbox req
      (outcome_of_driver act)
  driver_next requests outbox session req driver (driver_acts.Work work) = tt
  driver_next requests outbox session req driver (driver_acts.Reply reply) =
      put_waits_not requests session req (Driving driver) (λ entry. refl)

  check_next : (requests : Requests) (outbox : List Entry) (session req : ℕ) (check : Check) (act : CheckAct)
      → IsNextAwaited read me unread reading (tree.insert requests req (record { session = session; course = Checking check })) outbox req
      (outcome_of_check act)
  check_next requests outbox session req check (check_acts.Work work) = tt
  check_next requests outbox session req check (check_acts.Reply found) =
      put_waits_not requests session req (Checking check) (λ entry. refl)

  -- ---- commands

  -- a command takes a step
  command_put : (so_far : StepState) → Is so_far → (session req : ℕ) (step : OpStep)
      → IsSessionsCommand (log_effects read) me session step.op
      → IsAwaitedByCommand step
      → ((entry : Entry) → IsCommandEntry me entry → 1 ≤ on_way read me unread reading entry so_far.node.outbox → (old : Request)
      → tree.get so_far.node.requests req ≡ Some old → WaitsNot entry old)
      → ((other : ℕ) (request : Request) → tree.get so_far.node.requests other ≡ Some request → is_command request.course ≡ true
      → request.session ≡ session → other ≡ req)
      → ((entry : Entry) → step.act ≡ op_acts.Append entry → IsNoneOnTheWay read me unread reading so_far.node.outbox session)
      → Is (after_command_step session req step so_far) × IsNext (after_command_step session req step so_far) req
      (outcome_of_command step.act)
  command_put so_far so session req step own awaited free sole fresh = (
    put_awaited read me unread reading so_far.node.me so_far.node.requests so_far.node.outbox so req free session (Commanding step.op) own
        (λ command other request got is same. sole other request got is same),
    command_awaited read me unread reading so_far.node.me so_far.node.requests so_far.node.outbox session req step.op step.act own awaited
        fresh,
  )

  -- one that begins: its session has no other
  command_begins : (so_far : StepState) → Is so_far → (session req : ℕ) (ask : VdiAsk) (step : OpStep)
      → Arrival input node so_far session req (asks.Vdi ask) None
      → begin_command so_far.node.me session ask (inode_open (session_in session so_far).disk) ≡ Some step
      → Is (after_command_step session req step so_far) × IsNext (after_command_step session req step so_far) req
      (outcome_of_command step.act)
  command_begins so_far so session req ask step arrival is =
      let disk = inode_open (session_in session so_far).disk in
      let free : (other : ℕ) (request : Request) → tree.get so_far.node.requests other ≡ Some request → is_command request.course ≡ true
      → request.session ≢ session
      = λ other request got. meets.free req session (asks.Vdi ask) arrival.from other request
      (ap (λ (s : StepState). tree.get s.node.requests other) (sym arrival.first) ∙ got) in
      command_put so_far so session req step
      (begins-own (log_effects read) me session ask disk step (ap (λ (by : NodeId). begin_command by session ask disk) (sym so.me_so) ∙ is))
      (awaited_of (begin_command so_far.node.me session ask disk) step (begin_awaited so_far.node.me session ask disk) is)
      (λ entry is some old got. not_there so_far session req (asks.Vdi ask) arrival entry old got)
      (λ other request got command of. absurd (free other request got command of))
      (λ entry puts. record {
        none =
            none_on_the_way read me unread reading so_far.node.me so_far.node.requests so_far.node.outbox so session
            (λ other request got command of entry waits. free other request got command of);
        not_read = λ other reads. absurd (cc (ap entry_of_input (sym arrival.from) ∙ reads));
      })

  -- one whose work is done
  command_goes_on : (so_far : StepState) → Is so_far
      → (session req number : ℕ) (work : Work) (attempt : Attempt) (status : Status) (bytes : List ℕ) (op : Op) (step : OpStep)
      → EndsWork input node so_far session req number work attempt status (Commanding op) bytes → op_on_done bytes op ≡ Some step
      → Is (after_command_step session req step (without_ended_work session req work status so_far))
      × IsNext (after_command_step session req step (without_ended_work session req work status so_far)) req (outcome_of_command step.act)
  command_goes_on so_far so session req number work attempt status bytes op step ends is =
      let there = ends.ends.request in
      let idle : (entry : Entry) → waits_at entry op.stage ≡ false = done_waits_not bytes op step is in
      let sole : (other : ℕ) (request : Request) → tree.get so_far.node.requests other ≡ Some request → is_command request.course ≡ true
      → request.session ≡ session → other ≡ req
      = λ other request got command of. so.commands.apart other req request (record { session = session; course = Commanding op }) got there
      command refl of in
      command_put (without_ended_work session req work status so_far) so session req step
      (goes_on-own (log_effects read) me session bytes op step is (own_there so_far so session req (Commanding op) there))
      (awaited_of (op_on_done bytes op) step (done_awaited bytes op) is)
      (λ entry is some old got. waits_not so_far so session req (Commanding op) there idle entry old got)
      sole
      (λ entry puts. record {
        none =
            none_on_the_way read me unread reading so_far.node.me so_far.node.requests so_far.node.outbox so session
            (λ other request got command of entry waits.
            let idle_so = waits_not so_far so session req (Commanding op) there idle entry request
            (ap (tree.get so_far.node.requests) (sym (sole other request got command of)) ∙ got) in
            absurd (cc (idle_so, waits)));
        not_read = told_no_entry input number status ends.ends.learns.told;
      })

  -- one whose entry is read: that is on its way no more
  command_decided : (so_far : StepState) → Is so_far → (session req : ℕ) (entry : Entry) (op : Op) (step : OpStep)
      → input ≡ inputs.LogEntry entry
      → so_far.node.peer ≡ (entry_read entry node).peer → HasRequest session req (Commanding op) so_far
      → waits_for_entry entry (Commanding op) ≡ true
      → on_decision (effects_of so_far.node.peer) (inode_open (session_in session so_far).disk) (decision_on entry node.peer) op ≡ Some step
      → Is (after_command_step session req step so_far) × IsNext (after_command_step session req step so_far) req
      (outcome_of_command step.act)
  command_decided so_far so session req entry op step from peer there waits is =
      let disk = inode_open (session_in session so_far).disk in
      let read_so : read ≡ node.peer.entries ++ entry ∷ [] = meets.read_so entry from in
      let known_so : effects_of so_far.node.peer ≡ log_effects read
      = ap effects_of peer ∙ ap log_effects (entries_reading entry node ∙ sym read_so) in
      let puts_nothing = decided_puts_nothing op (effects_of so_far.node.peer) disk (decision_on entry node.peer) step is in
      command_put so_far so session req step
      (decided-own (log_effects read) me session disk (decision_on entry node.peer) op step
      (ap (λ (known : List Effect). on_decision known disk (decision_on entry node.peer) op) (sym known_so) ∙ is)
      (own_there so_far so session req (Commanding op) there)
      (λ wanted vid at granted.
      let same : wanted ≡ entry = same_entry wanted entry (ap (waits_at entry) (sym at) ∙ waits) in
      subst (IsReservedBy (log_effects read) vid) (sym same)
      (subst (λ (all : List Entry). IsReservedBy (log_effects all) vid entry) (sym read_so)
      (reserved_by node.peer.entries entry vid granted)))) (awaited_of
      (on_decision (effects_of so_far.node.peer) disk (decision_on entry node.peer) op) step
      (decision_awaited (effects_of so_far.node.peer) disk (decision_on entry node.peer) op) is)
      (λ other is some old got. by_test other is some (waits_for_entry other (Commanding op)) refl old got)
      (λ other request got command of. so.commands.apart other req request (record { session = session; course = Commanding op }) got there
      command refl of) (λ put puts. absurd (subst PutsNothing puts puts_nothing))
    where
      by_test : (other : Entry) → IsCommandEntry me other → 1 ≤ on_way read me unread reading other so_far.node.outbox → (b : Bool)
          → waits_for_entry other (Commanding op) ≡ b → (old : Request) → tree.get so_far.node.requests req ≡ Some old → WaitsNot other old
      by_test other is some true too old got =
          let same : other ≡ entry = one_is_waited_for other entry op.stage too waits in
          let none = so.read_now other is (ap entry_of_input from ∙ ap (λ (e : Entry). Some e) (sym same)) in
          absurd (omega (arith, none, some))
      by_test other is some false apart_so old got =
          let at : record { session = session; course = Commanding op } ≡ old = same_Some _ old (sym there ∙ got) in
          subst (WaitsNot other) at apart_so

  -- ---- a request takes a step

  steps_awaited : (so_far : StepState) (session req : ℕ) (next : Outcome) (moved : StepState)
      → RequestSteps input node so_far session req next moved
      → Is so_far → Is moved × IsNext moved req next
  steps_awaited so_far session req next moved (DiskBegins ask disk there on may) so =
      let driver = (drivers.begin_driver disk ask).driver in (
        plain_put so_far so session req (Driving driver) tt refl (waits_not so_far so session req (Waiting ask) there (λ entry. refl)),
        driver_next so_far.node.requests so_far.node.outbox session req driver (drivers.begin_driver disk ask).act,
      )
  steps_awaited so_far session req next moved (DiskGoesOn number work attempt status bytes driver disk step ends on is) so = (
    plain_put so_far so session req (Driving step.driver) tt refl
        (waits_not so_far so session req (Driving driver) ends.ends.request (λ entry. refl)),
    driver_next so_far.node.requests so_far.node.outbox session req step.driver step.act,
  )
  steps_awaited so_far session req next moved (CommandBegins ask step arrival is) so =
      command_begins so_far so session req ask step arrival is
  steps_awaited so_far session req next moved (CommandGoesOn number work attempt status bytes op step ends is) so =
      command_goes_on so_far so session req number work attempt status bytes op step ends is
  steps_awaited so_far session req next moved (CommandDecided entry op step from peer there waits is) so =
      command_decided so_far so session req entry op step from peer there waits is
  steps_awaited so_far session req next moved (CheckBegins inode arrival on) so = (
    plain_put so_far so session req (Checking (begin_check inode).check) tt refl
        (not_there so_far session req (asks.Vdi disk_commands.Check) arrival),
    check_next so_far.node.requests so_far.node.outbox session req (begin_check inode).check (begin_check inode).act,
  )
  steps_awaited so_far session req next moved (CheckGoesOn number work attempt status bytes check step ends is) so = (
    plain_put so_far so session req (Checking step.check) tt refl
        (waits_not so_far so session req (Checking check) ends.ends.request (λ entry. refl)),
    check_next so_far.node.requests so_far.node.outbox session req step.check step.act,
  )
  steps_awaited so_far session req next moved (ObjectBegins asked arrival) so =
      (plain_put so_far so session req (DoingWork asked) tt refl (not_there so_far session req (asks.Object asked) arrival), tt)
  steps_awaited so_far session req next moved (ObjectIsDone number work attempt status bytes asked ends) so =
      (so, waits_not so_far so session req (DoingWork asked) ends.ends.request (λ entry. refl))
  steps_awaited so_far session req next moved (EntryBegins entry arrival) so = absurd (meets.no_entry req session entry arrival.from)
  steps_awaited so_far session req next moved (EntryDecided entry wanted from peer there waits) so =
      absurd (own_there so_far so session req (AwaitingDecision wanted) there)

  pub next_awaited : (so_far : StepState) (session req : ℕ) (asked : Work) (lined : StepState)
      → WorkIsNext input node so_far session req asked lined → Is so_far → Is lined
  next_awaited so_far session req asked lined (AtOnce work moved steps begins) so =
      (steps_awaited so_far session req (ToWork work) moved steps so).0
  next_awaited so_far session req asked lined (InTurn work later none is) so = so
  next_awaited so_far session req asked lined (Again work course from next there request) so = so
  next_awaited so_far session req asked lined (AgainAlone work from next there none) so = so

  pub change_awaited : (so_far next : StepState) → Change input node so_far next → Is so_far → Is next
  change_awaited so_far next (changes.Marks req number work attempt status learns over) so = so
  change_awaited so_far next (changes.Fails session req number work attempt status course ends done why) so = so
  change_awaited so_far next (changes.Stops session req number work attempt status course bytes ends over) so = so
  change_awaited so_far next (changes.Refuses session req number work attempt status course cause ends done why) so =
      refused_awaited read me unread reading session req cause course (without_ended_work session req work status so_far) ends.request so
  change_awaited so_far next (changes.Opens session req asked lined comes short) so = next_awaited so_far session req asked lined comes so
  change_awaited so_far next (changes.Holds session req asked lined comes short touched) so =
      next_awaited so_far session req asked lined comes so
  change_awaited so_far next (changes.Denies session req asked lined request comes short untouched there own) so =
      refused_if_there_awaited read me unread reading req (Halt (zones_of_members lined.node) (zones_for asked.work)) request
      (without_denied_work session req asked lined) there (next_awaited so_far session req asked lined comes so)
  change_awaited so_far next (changes.Strays req work gateway there none apart) so = so
  change_awaited so_far next (changes.Lines session req work moved steps waits) so =
      (steps_awaited so_far session req (ToWork work) moved steps so).0
  change_awaited so_far next (changes.Appends session req entry moved steps) so =
      let took = steps_awaited so_far session req (ToEntry entry) moved steps so in
      more_awaited read me unread reading moved.node.me moved.node.requests moved.node.outbox took.0 entry took.1
  change_awaited so_far next (changes.Replies session req reply moved steps) so =
      let took = steps_awaited so_far session req (ToReply reply) moved steps so in
      ended_awaited read me unread reading session req reply moved took.1 took.0
  change_awaited so_far next (changes.Arrives session req ask disk arrival on) so =
      plain_put so_far so session req (Waiting ask) tt refl (not_there so_far session req (asks.Disk ask) arrival)
  change_awaited so_far next (changes.Rejects session req ask cause arrival) so = so
  change_awaited so_far next (changes.Recovers due) so =
      more_awaited read me unread reading so_far.node.me so_far.node.requests so_far.node.outbox so
      (Recovered so_far.node.me (record { 0 = so_far.node.recovery.epoch })) (λ is. absurd is)

  pub chain_awaited : {first so_far : StepState} → Leads input node first so_far → Is first → Is so_far
  chain_awaited leads so = kept_by_chain Is change_awaited leads so
