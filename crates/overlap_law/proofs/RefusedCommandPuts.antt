-- While a command waits for its first decision no command of its node puts that entry again: so along a node's step the command goes on
-- with what it was given, or has its reply.
use Rattle.std.proofs.Common.{◌≡◌, ℕ, Bool, true, false, List, Some, refl, sym, ap, subst, ◌∙◌}
use Rattle.std.specs.FinMap as tree
use Rattle.std.proofs.lemmas.Option.{same_Some}
use Rattle.proof_tools.proofs.FiniteMaps.{get-insert_same}
use Rattle.object_id.specs.declared.node.NodeId.{NodeId}
use Rattle.object_id.specs.declared.entry.Entry.{Entry}
use Rattle.object_id.specs.Same.{is_same_entry}
use Rattle.peer_service.specs.State.{effects_of}
use Rattle.peer_service.specs.LogReading.{decision_on}
use Rattle.vdi_directory.specs.declared.effect.Effect.{Effect}
use Rattle.vdi_directory.specs.Decisions.{log_effects}
use Rattle.guest_driver.specs.declared.act.DriverAct.{DriverAct}
use Rattle.guest_driver.specs.declared.act.DriverAct.TheVariants as driver_acts
use Rattle.disk_check.specs.declared.act.CheckAct.{CheckAct}
use Rattle.disk_check.specs.declared.act.CheckAct.TheVariants as check_acts
use Rattle.vdi_ops.specs.declared.act.OpAct.{OpAct}
use Rattle.vdi_ops.specs.declared.act.OpAct.TheVariants as op_acts
use Rattle.vdi_ops.specs.Op.{OpStage, Asked, Working, Publishing, Answered, Op, OpStep, IsAwaitedAtOpStage, IsAwaitedByCommand}
use Rattle.vdi_ops.specs.Steps.{begin_command, op_on_done}
use Rattle.vdi_ops.proofs.StepLemmas.{begin_awaited, done_awaited}
use Rattle.sheep_node.specs.declared.ask.Ask.{Ask}
use Rattle.sheep_node.specs.declared.ask.Ask.TheVariants as asks
use Rattle.sheep_node.specs.declared.input.Input.{Input}
use Rattle.sheep_node.specs.declared.input.Input.TheVariants as inputs
use Rattle.sheep_node.specs.declared.course.Course.{Course}
use Rattle.sheep_node.specs.declared.course.Request.{Request}
use Rattle.sheep_node.specs.declared.course.Course.TheVariants.{Waiting, Driving, Commanding, Checking, DoingWork, AwaitingDecision}
use Rattle.sheep_node.specs.Courses.{inode_open}
use Rattle.sheep_node.specs.State.{Node}
use Rattle.sheep_node.specs.StepState.{StepState, session_in, with_outbox_entry}
use Rattle.sheep_node.specs.Changes as changes
use Rattle.sheep_node.specs.Changes.{Outcome, ToEntry, RequestSteps, DiskBegins, DiskGoesOn, CommandBegins, CommandGoesOn, CommandDecided}
use Rattle.sheep_node.specs.Changes.{CheckBegins, CheckGoesOn, ObjectBegins, ObjectIsDone, EntryBegins, EntryDecided, outcome_of_command}
use Rattle.sheep_node.specs.Changes.{outcome_of_driver, outcome_of_check, Leads}
use Rattle.sheep_node.proofs.OneWorkChanges.{awaited_of}
use Rattle.sheep_node.proofs.StepChain.{kept_by_chain}
use Rattle.overlap_law.specs.AwaitedEntries.{IsCommandEntry, IsSessionsEntry, IsSessionsStage}
use Rattle.overlap_law.specs.WriterClaims.{IsFirstEntry}
use Rattle.overlap_law.proofs.AwaitedChanges.{IsOwnCourse, AreOwnCommands, AreAwaitedSoFar}
use Rattle.overlap_law.proofs.AwaitedCommands.{waits_at, is_command, waited_own, put_waited, PutsNothing, decided_puts_nothing}
use Rattle.overlap_law.proofs.AwaitedSteps.{entry_of_input, MeetsCommands, change_awaited}
use Rattle.overlap_law.proofs.CountedEntries.{same_entry}
use Rattle.overlap_law.proofs.RefusedCommandStages.{IsComeTo, IsOnCourse, is_first, is_asked}
use Rattle.overlap_law.proofs.RefusedCommandSteps.{Stands, change_stands, done_so, stepped}
use Rattle.overlap_law.proofs.ReservedIds.{session_of_entry}

-- ---- which acts put an entry

driver_puts_not : (act : DriverAct) (last : Entry) → outcome_of_driver act ≡ ToEntry last → ⊥
driver_puts_not (driver_acts.Work work) last is = absurd (cc (is))
driver_puts_not (driver_acts.Reply reply) last is = absurd (cc (is))

check_puts_not : (act : CheckAct) (last : Entry) → outcome_of_check act ≡ ToEntry last → ⊥
check_puts_not (check_acts.Work work) last is = absurd (cc (is))
check_puts_not (check_acts.Reply found) last is = absurd (cc (is))

puts_it : (act : OpAct) (last : Entry) → outcome_of_command act ≡ ToEntry last → act ≡ op_acts.Append last
puts_it (op_acts.Append put) last is = let same : put ≡ last = cc (is) in λ i. op_acts.Append (same i)
puts_it (op_acts.Work work) last is = absurd (cc (is))
puts_it (op_acts.Reply reply) last is = absurd (cc (is))

waits_then : (step : OpStep) (last : Entry) → IsAwaitedByCommand step → outcome_of_command step.act ≡ ToEntry last
    → waits_at last step.op.stage ≡ true
waits_then step last awaited is =
    put_waited last step.op.stage (subst (λ (act : OpAct). IsAwaitedAtOpStage act step.op.stage) (puts_it step.act last is) awaited)

-- a command waits for its first decision
asked_command : (course : Course) → is_asked course ≡ true → (op : Op) × (course ≡ Commanding op) × (is_first op.stage ≡ true)
asked_command (Waiting ask) is = absurd (cc (is))
asked_command (Driving driver) is = absurd (cc (is))
asked_command (Commanding op) is = (op, refl, is)
asked_command (Checking check) is = absurd (cc (is))
asked_command (DoingWork work) is = absurd (cc (is))
asked_command (AwaitingDecision entry) is = absurd (cc (is))

module _ (earlier : List Entry) (entry : Entry) (me : NodeId) (command : IsCommandEntry me entry) (session req : ℕ) (AtFirst : Type 0)
    (ours : List Entry) (input : Input) (node : Node) (old : (number : ℕ) (ask : Ask) → input ≡ inputs.Guest req number ask → ⊥)
    (known : List Effect) (mine : IsSessionsEntry known me session entry) (firstly : AtFirst → IsFirstEntry entry)
    (reads : AtFirst → input ≡ inputs.LogEntry entry → node.peer.entries ≡ earlier)
    (read unread : List Entry) (meets : MeetsCommands read input node) where
  abbrev StandsHere : StepState → Type 0
  StandsHere = Stands earlier entry me command session req AtFirst ours

  abbrev Awaited : StepState → Type 0
  Awaited = AreAwaitedSoFar read node.me unread (entry_of_input input)

  -- the command that puts an entry waits for it, and if it is the one of this request, it is past its first decision
  record HasPut (moved : StepState) (number r : ℕ) (last : Entry) : Type 0 where
    op : Op
    there : tree.get moved.node.requests r ≡ Some (record { session = number; course = Commanding op })
    waits : waits_at last op.stage ≡ true
    past : req ≡ r → is_first op.stage ≡ false

  module _ (so_far : StepState) (so : Stands earlier entry me command session req AtFirst ours so_far) (number r : ℕ) (last : Entry) where
    has_put : (next : Outcome) (moved : StepState) → RequestSteps input node so_far number r next moved → next ≡ ToEntry last
        → HasPut moved number r last
    has_put next moved (DiskBegins ask disk there on may) is = absurd (driver_puts_not _ last is)
    has_put next moved (DiskGoesOn k work attempt status bytes driver disk step ends on is_step) is = absurd
        (driver_puts_not step.act last is)
    has_put next moved (CommandBegins ask step arrival is_step) is = record {
      op = step.op;
      there = get-insert_same so_far.node.requests r (record { session = number; course = Commanding step.op });
      waits =
          let disk = inode_open (session_in number so_far).disk in
          waits_then step last
          (awaited_of (begin_command so_far.node.me number ask disk) step (begin_awaited so_far.node.me number ask disk) is_step) is;
      past = λ own. absurd (old number (asks.Vdi ask) (arrival.from ∙ ap (λ (k : ℕ). inputs.Guest k number (asks.Vdi ask)) (sym own)));
    }
    has_put next moved (CommandGoesOn k work attempt status bytes op step ends is_step) is = record {
      op = step.op;
      there = get-insert_same so_far.node.requests r (record { session = number; course = Commanding step.op });
      waits = waits_then step last (awaited_of (op_on_done bytes op) step (done_awaited bytes op) is_step) is;
      past = λ own.
          (done_so earlier entry me command session req AtFirst ours input node old known mine firstly reads so_far so number r op
          ends.ends.request bytes
          step is_step own).past;
    }
    has_put next moved (CommandDecided put op step from reading there waits is_step) is =
        let disk = inode_open (session_in number so_far).disk in
        let nothing = decided_puts_nothing op (effects_of so_far.node.peer) disk (decision_on put node.peer) step is_step in
        absurd (subst PutsNothing (puts_it step.act last is) nothing)
    has_put next moved (CheckBegins inode arrival on) is = absurd (check_puts_not _ last is)
    has_put next moved (CheckGoesOn k work attempt status bytes check step ends is_step) is = absurd (check_puts_not step.act last is)
    has_put next moved (ObjectBegins asked arrival) is = absurd (cc (is))
    has_put next moved (ObjectIsDone k work attempt status bytes does ends) is = absurd (cc (is))
    has_put next moved (EntryBegins put arrival) is = absurd (meets.no_entry r number put arrival.from)
    has_put next moved (EntryDecided put wanted from reading there waits) is = absurd (cc (is))

    -- it isn't the entry that the command of this request waits for
    module _ (awaited : AreAwaitedSoFar read node.me unread (entry_of_input input) so_far) (moved : StepState)
        (steps : RequestSteps input node so_far number r (ToEntry last) moved) where
      commands : AreOwnCommands read node.me moved.node.requests
      commands =
          (change_awaited read unread input node meets so_far (with_outbox_entry last moved) (changes.Appends number r last moved steps)
          awaited).commands

      never_same : (request : Request) → tree.get moved.node.requests req ≡ Some request → is_asked request.course ≡ true → last ≡ entry → ⊥
      never_same request got asked same =
          let put = has_put (ToEntry last) moved steps refl in
          let (op, course, first) = asked_command request.course asked in
          let on = subst (IsOnCourse earlier entry me session AtFirst) course
          ((stepped earlier entry me command session req AtFirst ours input node old known mine firstly reads so_far so number r
          (ToEntry last) moved
          steps).0.there request got) in
          let own = subst (IsOwnCourse read node.me request.session) course (commands.own req request got) in
          let wanted = its_entry op.stage first on.stage own.stage in
          let other = subst (IsSessionsEntry (log_effects read) node.me number) same
          (waited_own (log_effects read) node.me number last put.op.stage
          (commands.own r (record { session = number; course = Commanding put.op }) put.there).stage put.waits) in
          let session_so : number ≡ request.session = session_of_entry read node.me number request.session entry other wanted in
          let this : r ≡ req
          = commands.apart r req (record { session = number; course = Commanding put.op }) request put.there got refl
          (ap is_command course) session_so in
          let one : record { session = number; course = Commanding put.op } ≡ request
          = same_Some _ request (sym put.there ∙ ap (tree.get moved.node.requests) this ∙ got) in
          let past : is_asked request.course ≡ false = ap (λ (q : Request). is_asked q.course) (sym one) ∙ put.past (sym this) in
          cc (past, asked)
        where
          its_entry : (stage : OpStage) → is_first stage ≡ true → IsComeTo earlier entry me session AtFirst stage
              → IsSessionsStage (log_effects read) node.me request.session stage
              → IsSessionsEntry (log_effects read) node.me request.session entry
          its_entry (Asked wanted) first come own = subst (IsSessionsEntry (log_effects read) node.me request.session) come.0 own
          its_entry (Working vid task) first come own = absurd (cc (first))
          its_entry (Publishing wanted made) first come own = absurd (cc (first))
          its_entry (Answered change) first come own = absurd (cc (first))

      puts_another : (request : Request) → tree.get moved.node.requests req ≡ Some request → is_asked request.course ≡ true
          → is_same_entry entry last ≡ false
      puts_another request got asked = by_test (is_same_entry entry last) refl
        where
          by_test : (b : Bool) → is_same_entry entry last ≡ b → is_same_entry entry last ≡ false
          by_test false is = is
          by_test true is = absurd (never_same request got asked (sym (same_entry entry last is)))

  -- ---- along a step

  pub stands_along : {first so_far : StepState} → Leads input node first so_far → AreAwaitedSoFar read node.me unread
      (entry_of_input input) first
      → Stands earlier entry me command session req AtFirst ours first → Stands earlier entry me command session req AtFirst ours so_far
  stands_along leads awaited stands =
      (kept_by_chain (λ (so_far : StepState). Awaited so_far × StandsHere so_far)
      (λ so_far next change both. (
        change_awaited read unread input node meets so_far next change both.0,
        change_stands earlier entry me command session req AtFirst ours input node old known mine firstly reads so_far next
            (λ number r last moved steps. puts_another so_far both.1 number r last both.0 moved steps) both.1 change,
      )) leads (awaited, stands)).1
