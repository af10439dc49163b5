-- A step of a node leaves session 0 to clients: its requests are their reads, and have the numbers of these; it has no disk open, and
-- nothing in its queue.
use Rattle.std.proofs.Common.{◌≡◌, ◌≢◌, ⊎_elim, arith, ℕ, ◌<◌, ◌≤◌, true, false, List, [], ◌∷◌, ◌++◌, Option, Some}
use Rattle.std.proofs.Common.{None, is_some, unwrap_or, refl, sym, ap, subst, ◌∙◌}
use Rattle.std.specs.Ordering.{nat_cmp}
use Rattle.std.specs.FinMap as tree
use Rattle.std.proofs.lemmas.Bool.{cases_eq, eqb-true, or_cases}
use Rattle.proof_tools.proofs.FiniteMaps.{get-insert_same, get-insert_other, get-insert_cases, get-remove_same, get-remove_other}
use Rattle.object_id.specs.declared.cause.Cause.TheVariants.{Halt}
use Rattle.object_id.specs.declared.limits.TheConstants.{REQUESTS_MAX}
use Rattle.cluster_script.specs.declared.statement.Statement.{Statement}
use Rattle.cluster_script.specs.declared.statement.Statement.TheVariants as lines
use Rattle.cluster_script.specs.Language.{MayStand, EachMayStand, IsScript}
use Rattle.cluster_script.specs.Sessions.{ScriptSession, session_numbered}
use Rattle.cluster_script.specs.Settings.{tries_of}
use Rattle.cluster_script.specs.Statements.{declares, is_session_declared}
use Rattle.cluster_script.proofs.SessionLaws.{session-is_session_declared}
use Rattle.disk_check.specs.Check.{begin_check}
use Rattle.gateway.specs.declared.message.Status.{Status}
use Rattle.gateway.specs.State.{Work}
use Rattle.gateway.specs.Work.{zones_for}
use Rattle.gateway_queue.specs.Queue.{queue_without}
use Rattle.guest_driver.specs.Driver.{begin_driver}
use Rattle.guest_driver.specs.InodeQueue.{InodeQueue, queue_with_open, queue_with_waiting, queue_after_end}
use Rattle.peer_proto.specs.declared.guest.GuestRsp.{GuestRsp}
use Rattle.peer_proto.specs.declared.guest.VdiAsk.TheVariants as disk_commands
use Rattle.sheep_node.specs.declared.ask.Ask.{Ask}
use Rattle.sheep_node.specs.declared.ask.Ask.TheVariants as asks
use Rattle.sheep_node.specs.declared.course.Course.{Course}
use Rattle.sheep_node.specs.declared.course.Course.TheVariants.{Waiting, Driving, Commanding, Checking, DoingWork, AwaitingDecision}
use Rattle.sheep_node.specs.declared.course.Request.{Request}
use Rattle.sheep_node.specs.declared.input.Input.{Input}
use Rattle.sheep_node.specs.declared.input.Input.TheVariants as inputs
use Rattle.sheep_node.specs.declared.session.Session.{Session}
use Rattle.sheep_node.specs.Changes as changes
use Rattle.sheep_node.specs.Changes.{HasRequest, Outcome, ToWork, ToEntry, ToReply, without_ended_work, without_denied_work}
use Rattle.sheep_node.specs.Changes.{zones_of_members}
use Rattle.sheep_node.specs.Changes.{RequestSteps, DiskBegins, DiskGoesOn, CommandBegins, CommandGoesOn, CommandDecided, CheckBegins}
use Rattle.sheep_node.specs.Changes.{CheckGoesOn}
use Rattle.sheep_node.specs.Changes.{ObjectBegins, ObjectIsDone, EntryBegins, EntryDecided, WorkIsNext, AtOnce, InTurn, Again, AgainAlone}
use Rattle.sheep_node.specs.Changes.{Change}
use Rattle.sheep_node.specs.SessionQueues.{session_among}
use Rattle.sheep_node.specs.State as nodes
use Rattle.sheep_node.specs.State.{Node, new_session}
use Rattle.sheep_node.specs.Step.{node_step}
use Rattle.sheep_node.specs.StepState.{StepState, session_in, with_sole_request, request_ended}
use Rattle.sheep_node.proofs.OneWorkParts.{Requests, Sessions}
use Rattle.sheep_node.proofs.ReceivedInputs.{received_keeps}
use Rattle.sheep_node.proofs.RefusedCourses.{course_refused-keeps, request_refused-keeps}
use Rattle.sheep_node.proofs.StepChain.{kept_by_chain, step_chain}
use Rattle.sheep_world.specs.AsksOfClients.{IsReadCourse, IsByNumber, ServesClients, AsksByNumber}
use Rattle.sheep_world.specs.Began.{Began}
use Rattle.sheep_world.specs.ClientAsks.{next_ask_number, is_read_ask}
use Rattle.sheep_world.specs.EventKinds.{log_after_return}
use Rattle.sheep_world.specs.HostChanges.{HostsKeep}
use Rattle.sheep_world.specs.NodeCauses.{NodeCause, GuestAsks, RequestComes, ReplyComes, LossIsTold, EntryIsRead, EntryIsPut, RecoveryTicks}
use Rattle.sheep_world.specs.NodeCauses.{WorkIsRetried, ClientAsks, input_of_cause, IsCause}
use Rattle.sheep_world.specs.Opening.{format_entry}
use Rattle.sheep_world.specs.World.{Host, World}
use Rattle.sheep_world.proofs.AsksNumbers.{number_of_request, next_above}
use Rattle.sheep_world.proofs.BegunWorlds.{each_where}

-- ---- requests and sessions that change one by one

none_served : ServesClients tree.empty tree.empty
none_served = record {
  numbered = λ number request got. let none = tree.get-empty {X = Request} nat_cmp number in absurd (cc (none, got));
  closed = ap (λ (o : Option Session). (unwrap_or o new_session).disk) (tree.get-empty {X = Session} nat_cmp 0);
  idle = ap (λ (o : Option Session). (unwrap_or o new_session).queue) (tree.get-empty {X = Session} nat_cmp 0);
}

-- a session that is session 0 only if it has no disk and nothing in its queue
abbrev IsIdle : Session → Type 0
IsIdle session = (session.disk ≡ None) × (session.queue ≡ [])

module _ (requests : Requests) (sessions : Sessions) (served : ServesClients requests sessions) where
  -- session 0 is so as it was
  zero_is : (number : ℕ) → number ≡ 0 → IsIdle (session_among number sessions)
  zero_is number is = (
    ap (λ (k : ℕ). (session_among k sessions).disk) is ∙ served.closed,
    ap (λ (k : ℕ). (session_among k sessions).queue) is ∙ served.idle,
  )

  session_put : (number : ℕ) (session : Session) → (number ≡ 0 → IsIdle session)
      → ServesClients requests (tree.insert sessions number session)
  session_put number session idle = ⊎_elim
      (λ (own : 0 ≡ number).
      let is : session_among 0 (tree.insert sessions number session) ≡ session
      = ap (λ (k : ℕ). session_among k (tree.insert sessions number session)) own
      ∙ ap (λ (o : Option Session). unwrap_or o new_session) (get-insert_same sessions number session) in
      record {
        numbered = served.numbered;
        closed = ap (λ (session : Session). session.disk) is ∙ (idle (sym own)).0;
        idle = ap (λ (session : Session). session.queue) is ∙ (idle (sym own)).1;
      })
      (λ (other : 0 ≢ number).
      let is : session_among 0 (tree.insert sessions number session) ≡ session_among 0 sessions
      = ap (λ (o : Option Session). unwrap_or o new_session) (get-insert_other sessions number session 0 other) in
      record {
        numbered = served.numbered;
        closed = ap (λ (session : Session). session.disk) is ∙ served.closed;
        idle = ap (λ (session : Session). session.queue) is ∙ served.idle;
      })
      (cases_eq 0 number)

  request_put : (req : ℕ) (request : Request) → IsByNumber req request → ServesClients (tree.insert requests req request) sessions
  request_put req request is = record {
    numbered = λ q at got. ⊎_elim
        (λ (own : (q ≡ req) × (request ≡ at)). subst (λ (k : ℕ). IsByNumber k at) (sym own.0) (subst (IsByNumber req) own.1 is))
        (λ (other : (q ≢ req) × (tree.get requests q ≡ Some at)). served.numbered q at other.1)
        (get-insert_cases requests req request q at got);
    closed = served.closed;
    idle = served.idle;
  }

  request_gone : (req : ℕ) → ServesClients (tree.remove requests req) sessions
  request_gone req = record {
    numbered = λ q at got. ⊎_elim
        (λ (own : q ≡ req).
        let none : tree.get (tree.remove requests req) q ≡ None
        = ap (tree.get (tree.remove requests req)) own ∙ get-remove_same requests req in
        absurd (cc (none, got)))
        (λ (other : q ≢ req). served.numbered q at (sym (get-remove_other requests req q other) ∙ got))
        (cases_eq q req);
    closed = served.closed;
    idle = served.idle;
  }

-- a request that is no read of a client's goes on, and its session isn't session 0
module _ (number req : ℕ) (old : Course) (no_read : IsReadCourse old → ⊥)
    (is : IsByNumber req (record { session = number; course = old })) where
  goes_by_number : (new : Course) → IsByNumber req (record { session = number; course = new })
  goes_by_number new = record { above = is.above; own = is.own; reads = λ above. absurd (no_read (is.reads above)) }

  not_zero : number ≡ 0 → ⊥
  not_zero zero = no_read (is.reads (is.above zero))

-- ---- the changes of a step

abbrev IsServed : StepState → Type 0
IsServed so_far = ServesClients so_far.node.requests so_far.node.sessions

module _ (so_far : StepState) (served : IsServed so_far) where
  abbrev requests : Requests
  requests = so_far.node.requests

  abbrev sessions : Sessions
  sessions = so_far.node.sessions

  lined_served : (number : ℕ) (line : InodeQueue)
      → ServesClients requests (tree.insert sessions number (record (session_in number so_far) { inode_queue = line }))
  lined_served number line =
      session_put requests sessions served number (record (session_in number so_far) { inode_queue = line })
      (λ is. zero_is requests sessions served number is)

  freed_served : (number req : ℕ) (work : Work) (status : Status) → IsServed (without_ended_work number req work status so_far)
  freed_served number req work status = lined_served number (queue_after_end (session_in number so_far).inode_queue work.work)

  sole_served : (number req : ℕ) (course : Course) → IsByNumber req (record { session = number; course = course })
      → IsServed (with_sole_request number req course so_far)
  sole_served number req course is =
      session_put (tree.insert requests req (record { session = number; course = course })) sessions
      (request_put requests sessions served req (record { session = number; course = course }) is) number
      (record (session_in number so_far) { command = Some req }) (λ zero. zero_is requests sessions served number zero)

  ended_served : (number req : ℕ) (reply : GuestRsp) → IsServed (request_ended number req reply so_far)
  unfolding request_ended
  ended_served number req reply =
      session_put (tree.remove requests req) sessions (request_gone requests sessions served req) number
      (record (session_in number so_far) { queue = queue_without req (session_in number so_far).queue; command = None })
      (λ zero. (
        (zero_is requests sessions served number zero).0,
        ap (queue_without req) (zero_is requests sessions served number zero).1,
      ))

  -- a request of another session takes a step
  other_served : (number req : ℕ) (course : Course) (session : Session) → (number ≡ 0 → ⊥)
      → IsByNumber req (record { session = number; course = course })
      → ServesClients (tree.insert requests req (record { session = number; course = course })) (tree.insert sessions number session)
  other_served number req course session other is =
      session_put (tree.insert requests req (record { session = number; course = course })) sessions
      (request_put requests sessions served req (record { session = number; course = course }) is) number session
      (λ zero. absurd (other zero))

  moved_served : (number req : ℕ) (old new : Course) (session : Session) → (IsReadCourse old → ⊥) → HasRequest number req old so_far
      → ServesClients (tree.insert requests req (record { session = number; course = new })) (tree.insert sessions number session)
  moved_served number req old new session no_read there =
      let is = served.numbered req (record { session = number; course = old }) there in
      other_served number req new session (not_zero number req old no_read is) (goes_by_number number req old no_read is new)

module _ (input : Input) (node : Node)
    (asked : (req session : ℕ) (ask : Ask) → input ≡ inputs.Guest req session ask → AsksByNumber req session ask) where
  -- a request that is no client's comes
  comes_by_number : (req number : ℕ) (ask : Ask) (course : Course) → input ≡ inputs.Guest req number ask → is_read_ask ask ≡ false
      → IsByNumber req (record { session = number; course = course })
  comes_by_number req number ask course from no_read =
      let is = asked req number ask from in
      record { above = is.above; own = is.own; reads = λ above. let reads = is.reads above in absurd (cc (reads, no_read)) }

  comes_apart : (req number : ℕ) (ask : Ask) → input ≡ inputs.Guest req number ask → is_read_ask ask ≡ false → number ≡ 0 → ⊥
  comes_apart req number ask from no_read zero =
      let is = asked req number ask from in
      let reads = is.reads (is.above zero) in
      cc (reads, no_read)

  steps_served : (so_far : StepState) (session req : ℕ) (next : Outcome) (moved : StepState)
      → RequestSteps input node so_far session req next moved → IsServed so_far → IsServed moved
  steps_served so_far session req next moved (DiskBegins ask disk there on may) served =
      moved_served so_far served session req (Waiting ask) (Driving (begin_driver disk ask).driver) _ (λ is. is) there
  steps_served so_far session req next moved (DiskGoesOn number work attempt status bytes driver disk step ends on is) served =
      moved_served (without_ended_work session req work status so_far) (freed_served so_far served session req work status) session req
      (Driving driver) (Driving step.driver) _ (λ is. is) ends.ends.request
  steps_served so_far session req next moved (CommandBegins ask step arrival is) served =
      other_served so_far served session req (Commanding step.op) _ (comes_apart req session (asks.Vdi ask) arrival.from refl)
      (comes_by_number req session (asks.Vdi ask) (Commanding step.op) arrival.from refl)
  steps_served so_far session req next moved (CommandGoesOn number work attempt status bytes op step ends is) served =
      moved_served (without_ended_work session req work status so_far) (freed_served so_far served session req work status) session req
      (Commanding op) (Commanding step.op) _ (λ is. is) ends.ends.request
  steps_served so_far session req next moved (CommandDecided entry op step from read there waits is) served =
      moved_served so_far served session req (Commanding op) (Commanding step.op) _ (λ is. is) there
  steps_served so_far session req next moved (CheckBegins inode arrival on) served =
      sole_served so_far served session req (Checking (begin_check inode).check)
      (comes_by_number req session (asks.Vdi disk_commands.Check) (Checking (begin_check inode).check) arrival.from refl)
  steps_served so_far session req next moved (CheckGoesOn number work attempt status bytes check step ends is) served =
      let freed = without_ended_work session req work status so_far in
      let now = freed_served so_far served session req work status in
      sole_served freed now session req (Checking step.check)
      (goes_by_number session req (Checking check) (λ is. is)
      (now.numbered req (record { session = session; course = Checking check }) ends.ends.request) (Checking step.check))
  steps_served so_far session req next moved (ObjectBegins work arrival) served =
      let is = asked req session (asks.Object work) arrival.from in
      sole_served so_far served session req (DoingWork work) (record { above = is.above; own = is.own; reads = is.reads })
  steps_served so_far session req next moved (ObjectIsDone number work attempt status bytes does ends) served =
      freed_served so_far served session req work status
  steps_served so_far session req next moved (EntryBegins entry arrival) served =
      sole_served so_far served session req (AwaitingDecision entry)
      (comes_by_number req session (asks.Entry entry) (AwaitingDecision entry) arrival.from refl)
  steps_served so_far session req next moved (EntryDecided entry wanted from read there waits) served = served

  next_served : (so_far : StepState) (session req : ℕ) (tried : Work) (lined : StepState)
      → WorkIsNext input node so_far session req tried lined → IsServed so_far → IsServed lined
  next_served so_far session req tried lined (AtOnce work moved steps begins) served =
      lined_served moved (steps_served so_far session req (ToWork work) moved steps served) session
      (queue_with_open (session_in session moved).inode_queue req work)
  next_served so_far session req tried lined (InTurn work later none is) served =
      lined_served so_far served session (record { current = Some req; waiting = later })
  next_served so_far session req tried lined (Again work course from next there request) served = served
  next_served so_far session req tried lined (AgainAlone work from next there none) served = served

  change_served : (so_far next : StepState) → Change input node so_far next → IsServed so_far → IsServed next
  change_served so_far next (changes.Marks req number work attempt status learns over) served = served
  change_served so_far next (changes.Fails session req number work attempt status course ends done why) served = served
  change_served so_far next (changes.Stops session req number work attempt status course bytes ends over) served =
      freed_served so_far served session req work status
  change_served so_far next (changes.Refuses session req number work attempt status course cause ends done why) served =
      course_refused-keeps IsServed (λ session req reply so_far served. ended_served so_far served session req reply)
      (λ entry before now. now) session req cause course
      (without_ended_work session req work status so_far) (freed_served so_far served session req work status)
  change_served so_far next (changes.Opens session req tried lined comes short) served =
      next_served so_far session req tried lined comes served
  change_served so_far next (changes.Holds session req tried lined comes short touched) served =
      next_served so_far session req tried lined comes served
  change_served so_far next (changes.Denies session req tried lined request comes short untouched there own) served =
      request_refused-keeps IsServed (λ session req reply so_far served. ended_served so_far served session req reply)
      (λ entry before now. now) req (Halt (zones_of_members lined.node) (zones_for tried.work)) request
      (without_denied_work session req tried lined)
      (lined_served lined (next_served so_far session req tried lined comes served) session
      (queue_after_end (session_in session lined).inode_queue tried.work))
  change_served so_far next (changes.Strays req work gateway there none apart) served = served
  change_served so_far next (changes.Lines session req work moved steps waits) served =
      lined_served moved (steps_served so_far session req (ToWork work) moved steps served) session
      (queue_with_waiting (session_in session moved).inode_queue req work)
  change_served so_far next (changes.Appends session req entry moved steps) served =
      steps_served so_far session req (ToEntry entry) moved steps served
  change_served so_far next (changes.Replies session req reply moved steps) served =
      ended_served moved (steps_served so_far session req (ToReply reply) moved steps served) session req reply
  change_served so_far next (changes.Arrives session req ask disk arrival on) served =
      other_served so_far served session req (Waiting ask) _ (comes_apart req session (asks.Disk ask) arrival.from refl)
      (comes_by_number req session (asks.Disk ask) (Waiting ask) arrival.from refl)
  change_served so_far next (changes.Rejects session req ask cause arrival) served = served
  change_served so_far next (changes.Recovers due) served = served

  pub step_serves : ServesClients node.requests node.sessions
      → ServesClients (node_step input node).node.requests (node_step input node).node.sessions
  step_serves served =
      kept_by_chain IsServed change_served (step_chain input node)
      (received_keeps (λ works requests sessions. ServesClients requests sessions) none_served input node served)

-- ---- in each world

-- the sessions of a script are numbered from 1 on
declared_above : (number : ℕ) (before rest : List Statement) → EachMayStand before rest → is_session_declared number rest ≡ true
    → 1 ≤ number
declared_above number before [] each is = absurd (cc (is))
declared_above number before (s ∷ rest) each is = ⊎_elim
    (λ (here : declares number s ≡ true). by_line s each.0 here)
    (λ (later : is_session_declared number rest ≡ true). declared_above number (before ++ s ∷ []) rest each.1 later)
    (or_cases (declares number s) (is_session_declared number rest) is)
  where
    by_line : (s : Statement) → MayStand before s → declares number s ≡ true → 1 ≤ number
    by_line (lines.Session session node) may is =
        let same : session ≡ number = eqb-true session number is in
        let low : 1 ≤ session = may.2 in
        omega (arith, low, same)
    by_line s may is = absurd (cc (is))

module _ (statements : List Statement) (script : IsScript statements) where
  pub session_above : (number : ℕ) (session : ScriptSession) → session_numbered statements number ≡ Some session → 1 ≤ number
  session_above number session found =
      declared_above number [] statements script
      (sym (session-is_session_declared statements number) ∙ ap (λ (o : Option ScriptSession). is_some o) found)

  abbrev IsAbove : World → Type 0
  IsAbove world = REQUESTS_MAX < next_ask_number world

  -- what a node steps on is of a script's session, or a client's read
  pub cause_asks : (world : World) (n : ℕ) (host : Host) (cause : NodeCause) → IsAbove world → IsCause statements world n host cause
      → (req session : ℕ) (ask : Ask) → input_of_cause cause ≡ inputs.Guest req session ask → AsksByNumber req session ask
  cause_asks world n host (GuestAsks asking begins asked) above_scripts caused req session ask from =
      let first : begins ≡ req = cc (from) in
      let own : asking.number ≡ session = cc (from) in
      let low : begins ≤ REQUESTS_MAX = number_of_request statements script begins caused.line caused.stands in
      let high : 1 ≤ asking.number = session_above asking.number asking caused.declared in
      record {
        above = λ zero. absurd (omega (arith, high, own, zero));
        own = λ above. absurd (omega (arith, low, first, above));
        reads = λ above. absurd (omega (arith, low, first, above));
      }
  cause_asks world n host (RequestComes name to request) above_scripts caused req session ask from = absurd (cc (from))
  cause_asks world n host (ReplyComes name to rsp) above_scripts caused req session ask from = absurd (cc (from))
  cause_asks world n host (LossIsTold name packet) above_scripts caused req session ask from = absurd (cc (from))
  cause_asks world n host (EntryIsRead entry) above_scripts caused req session ask from = absurd (cc (from))
  cause_asks world n host (EntryIsPut entry) above_scripts caused req session ask from = absurd (cc (from))
  cause_asks world n host RecoveryTicks above_scripts caused req session ask from = absurd (cc (from))
  cause_asks world n host WorkIsRetried above_scripts caused req session ask from = absurd (cc (from))
  cause_asks world n host (ClientAsks begins asked) above_scripts caused req session ask from =
      let first : begins ≡ req = cc (from) in
      let zero : 0 ≡ session = cc (from) in
      let same : asked ≡ ask = cc (from) in
      let number : next_ask_number world ≡ begins = caused.number in
      record {
        above = λ own. omega (arith, first, number, above_scripts);
        own = λ above. sym zero;
        reads = λ above. ap is_read_ask (sym same) ∙ caused.reads;
      }

  abbrev HostServes : World → ℕ → Host → Type 0
  HostServes world n host = ServesClients host.node.requests host.node.sessions

  serves_kept : HostsKeep statements IsAbove HostServes
  serves_kept = record {
    opens = λ member.
        step_serves (inputs.LogEntry (format_entry statements)) (nodes.initial_node member.node (tries_of statements))
        (λ req session ask from. absurd (cc (from))) none_served;
    stays = λ event world made h above n host so. so;
    steps = λ world n host cause above there up caused so.
        step_serves (input_of_cause cause) host.node (cause_asks world n host cause above caused) so;
    fails = λ world n host above so. so;
    returns = λ world n host above there so.
        step_serves (inputs.Back (log_after_return statements n world)) host.node (λ req session ask from. absurd (cc (from))) so;
    joins = λ world n above control. none_served;
  }

  pub serves_clients : (world : World) → Began statements world → (n : ℕ) (host : Host) → tree.get world.hosts n ≡ Some host
      → ServesClients host.node.requests host.node.sessions
  serves_clients = each_where statements IsAbove HostServes (next_above statements script) serves_kept
