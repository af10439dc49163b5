-- A command of which something holds, that holds of a command only where a work was done, was there before a change of its node, or is so
-- just now.
use Rattle.std.proofs.Common.{◌≡◌, ◌⊎◌, inl, inr, ⊎_elim, ℕ, true, List, Option, Some, refl, sym, subst}
use Rattle.std.proofs.Common.{◌∙◌}
use Rattle.std.specs.FinMap as tree
use Rattle.inode.specs.Layout.{Content}
use Rattle.peer_proto.specs.declared.guest.VdiAsk.{VdiAsk}
use Rattle.peer_service.specs.State.{effects_of}
use Rattle.peer_service.specs.LogReading.{decision_on}
use Rattle.gateway.specs.declared.message.Status.{Status}
use Rattle.gateway.specs.Attempt as gateways
use Rattle.gateway.specs.State.{Work}
use Rattle.guest_driver.specs.Driver as drivers
use Rattle.disk_check.specs.Check.{begin_check}
use Rattle.vdi_directory.specs.declared.effect.Effect.{Effect}
use Rattle.vdi_ops.specs.Op.{Op, OpStep, OpStage}
use Rattle.vdi_ops.specs.Steps.{begin_command}
use Rattle.vdi_ops.specs.Steps.{op_on_done, on_decision}
use Rattle.sheep_node.specs.declared.course.Course.{Course}
use Rattle.sheep_node.specs.declared.course.Request.{Request}
use Rattle.sheep_node.specs.declared.course.Course.TheVariants.{Driving, Commanding, Checking, DoingWork, AwaitingDecision}
use Rattle.sheep_node.specs.declared.input.Input.{Input}
use Rattle.sheep_node.specs.declared.input.Input.TheVariants as inputs
use Rattle.sheep_node.specs.AwaitedEntry.{waits_for_entry}
use Rattle.sheep_node.specs.LogReading.{entry_read}
use Rattle.sheep_node.specs.State.{Node}
use Rattle.sheep_node.specs.StepState.{StepState, session_in}
use Rattle.sheep_node.specs.Courses.{inode_open}
use Rattle.sheep_node.specs.Changes.{Outcome, EndsWork}
use Rattle.sheep_node.specs.Changes.{RequestSteps, DiskBegins, DiskGoesOn, CommandBegins, CommandGoesOn, CommandDecided, CheckBegins}
use Rattle.sheep_node.specs.Changes.{CheckGoesOn, ObjectBegins, ObjectIsDone, EntryBegins, EntryDecided}
use Rattle.sheep_node.specs.Changes.{Change}
use Rattle.sheep_node.proofs.OneWorkParts.{Requests}
use Rattle.overlap_law.proofs.RequestWalk.{IsWhereThere, put_there, change_there}
use Rattle.object_id.specs.declared.entry.Entry.{Entry}
use Rattle.object_id.specs.declared.node.NodeId.{NodeId}
use Rattle.vdi_directory.specs.declared.decision.Decision.{Decision}

-- it comes to be so of the command of a request, of this session, as a work is done, which gives it bytes
pub record ComesNow (Came : Op → List ℕ → Type 0) (input : Input) (node : Node) (q session : ℕ) (so_far : StepState) : Type 0 where
  pub number : ℕ
  pub work : Work
  pub attempt : gateways.Attempt
  pub status : Status
  pub bytes : List ℕ
  pub op : Op
  pub ends : EndsWork input node so_far session q number work attempt status (Commanding op) bytes
  pub came : Came op bytes

-- a command doesn't begin with it, and has it by no decision
pub record IsOfWorks (P : OpStage → Type 0) (Came : Op → List ℕ → Type 0) : Type 0 where
  pub begins : (by : NodeId) (session : ℕ) (ask : VdiAsk) (disk : Option Content) (step : OpStep)
      → begin_command by session ask disk ≡ Some step → P step.op.stage → ⊥
  pub decided : (known : List Effect) (disk : Option Content) (decision : Decision) (op : Op) (step : OpStep)
      → on_decision known disk decision op ≡ Some step → P step.op.stage → ⊥
  pub goes : (op : Op) (bytes : List ℕ) (step : OpStep) → op_on_done bytes op ≡ Some step → P step.op.stage → Came op bytes

-- or as its entry is decided
pub record IsDecidedNow (input : Input) (node : Node) (so_far : StepState) (request : Request) : Type 0 where
  pub entry : Entry
  pub disk : Option Content
  pub op : Op
  pub step : OpStep
  pub from : input ≡ inputs.LogEntry entry
  pub reading : so_far.node.peer ≡ (entry_read entry node).peer
  pub waits : waits_for_entry entry (Commanding op) ≡ true
  pub is : on_decision (effects_of so_far.node.peer) disk (decision_on entry node.peer) op ≡ Some step
  pub course_so : request.course ≡ Commanding step.op

-- how a command that doesn't begin with it comes to have it by works
pub record IsNotAtFirst (P : OpStage → Type 0) (Came : Op → List ℕ → Type 0) : Type 0 where
  pub begins : (by : NodeId) (session : ℕ) (ask : VdiAsk) (disk : Option Content) (step : OpStep)
      → begin_command by session ask disk ≡ Some step → P step.op.stage → ⊥
  pub goes : (op : Op) (bytes : List ℕ) (step : OpStep) → op_on_done bytes op ≡ Some step → P step.op.stage → Came op bytes

module _ (P : OpStage → Type 0) (Came : Op → List ℕ → Type 0) (first : IsNotAtFirst P Came) (q : ℕ) (input : Input) (node : Node) where
  abbrev begins : (by : NodeId) (session : ℕ) (ask : VdiAsk) (disk : Option Content) (step : OpStep)
      → begin_command by session ask disk ≡ Some step → P step.op.stage → ⊥
  begins = first.begins

  abbrev goes : (op : Op) (bytes : List ℕ) (step : OpStep) → op_on_done bytes op ≡ Some step → P step.op.stage → Came op bytes
  goes = first.goes

  abbrev pub HadOrComes : StepState → Request → Type 0
  HadOrComes so_far request =
      (tree.get so_far.node.requests q ≡ Some request)
      ⊎ (ComesNow Came input node q request.session so_far ⊎ IsDecidedNow input node so_far request)

  -- a request is so of an earlier state, if its command has it
  abbrev IsFrom : StepState → Request → Type 0
  IsFrom origin r = (op : Op) → r.course ≡ Commanding op → P op.stage → HadOrComes origin r

  abbrev AreFrom : StepState → Requests → Type 0
  AreFrom origin = IsWhereThere q (IsFrom origin)

  from_itself : (so_far : StepState) → AreFrom so_far so_far.node.requests
  from_itself so_far r got op at holds = inl got

  put_from : (so_far : StepState) (session req : ℕ) (course : Course)
      → (q ≡ req → IsFrom so_far (record { session = session; course = course }))
      → AreFrom so_far (tree.insert so_far.node.requests req (record { session = session; course = course }))
  put_from so_far session req course own =
      put_there q (IsFrom so_far) so_far.node.requests req (record { session = session; course = course }) own (from_itself so_far)

  -- one of which it doesn't hold
  put_none : (so_far : StepState) (session req : ℕ) (course : Course) → ((op : Op) → course ≡ Commanding op → P op.stage → ⊥)
      → AreFrom so_far (tree.insert so_far.node.requests req (record { session = session; course = course }))
  put_none so_far session req course none =
      put_from so_far session req course (λ own op at holds. absurd (none op at holds))

  -- a command in this stage
  stage_so : (one op : Op) → Commanding one ≡ Commanding op → P op.stage → P one.stage
  stage_so one op same holds = let is : one ≡ op = cc (same) in subst (λ (o : Op). P o.stage) (sym is) holds

  steps_from : (so_far : StepState) (session req : ℕ) (next : Outcome) (moved : StepState)
      → RequestSteps input node so_far session req next moved → AreFrom so_far moved.node.requests
  steps_from so_far session req next moved (DiskBegins ask disk there on may) =
      put_none so_far session req (Driving (drivers.begin_driver disk ask).driver) (λ op same holds. cc (same))
  steps_from so_far session req next moved (DiskGoesOn number work attempt status bytes driver disk step ends on is) =
      put_none so_far session req (Driving step.driver) (λ op same holds. cc (same))
  steps_from so_far session req next moved (CommandBegins ask step arrival is) =
      put_none so_far session req (Commanding step.op)
      (λ op same holds.
      begins so_far.node.me session ask (inode_open (session_in session so_far).disk) step is (stage_so step.op op same holds))
  steps_from so_far session req next moved (CommandGoesOn number work attempt status bytes op step ends is) =
      put_from so_far session req (Commanding step.op)
      (λ own other same holds. inr (inl (record {
        number = number;
        work = work;
        attempt = attempt;
        status = status;
        bytes = bytes;
        op = op;
        ends = subst (λ (k : ℕ). EndsWork input node so_far session k number work attempt status (Commanding op) bytes) (sym own) ends;
        came = goes op bytes step is (stage_so step.op other same holds);
      })))
  steps_from so_far session req next moved (CommandDecided entry op step from read there waits is) =
      put_from so_far session req (Commanding step.op)
      (λ own other same holds. inr (inr (record {
        entry = entry;
        disk = inode_open (session_in session so_far).disk;
        op = op;
        step = step;
        from = from;
        reading = read;
        waits = waits;
        is = is;
        course_so = refl;
      })))
  steps_from so_far session req next moved (CheckBegins inode arrival on) = put_none so_far session req
      (Checking (begin_check inode).check) (λ op same holds. cc (same))
  steps_from so_far session req next moved (CheckGoesOn number work attempt status bytes check step ends is) =
      put_none so_far session req (Checking step.check) (λ op same holds. cc (same))
  steps_from so_far session req next moved (ObjectBegins asked arrival) = put_none so_far session req (DoingWork asked) (λ op same holds.
      cc (same))
  steps_from so_far session req next moved (ObjectIsDone number work attempt status bytes asked ends) = from_itself so_far
  steps_from so_far session req next moved (EntryBegins entry arrival) = put_none so_far session req (AwaitingDecision entry) (λ op same
      holds. cc (same))
  steps_from so_far session req next moved (EntryDecided entry wanted from read there waits) = from_itself so_far

  pub stage_or_decided : (so_far next : StepState) → Change input node so_far next → (r : Request) (op : Op)
      → tree.get next.node.requests q ≡ Some r → r.course ≡ Commanding op → P op.stage → HadOrComes so_far r
  stage_or_decided so_far next change r op got at holds =
      change_there q (IsFrom so_far) so_far (steps_from so_far)
      (λ session req ask arrival own op same holds. absurd (cc (same)))
      (from_itself so_far) next change r got op at holds

-- one that has it by no decision
pub stage_from : (P : OpStage → Type 0) (Came : Op → List ℕ → Type 0) → IsOfWorks P Came → (q : ℕ) (input : Input) (node : Node)
    (so_far next : StepState)
    → Change input node so_far next → (r : Request) (op : Op) → tree.get next.node.requests q ≡ Some r → r.course ≡ Commanding op
    → P op.stage
    → (tree.get so_far.node.requests q ≡ Some r) ⊎ ComesNow Came input node q r.session so_far
stage_from P Came works q input node so_far next change r op got at holds = ⊎_elim
    (λ (had : tree.get so_far.node.requests q ≡ Some r). inl had)
    (λ (other : ComesNow Came input node q r.session so_far ⊎ IsDecidedNow input node so_far r). inr (⊎_elim
    (λ (c : ComesNow Came input node q r.session so_far). c)
    (λ (d : IsDecidedNow input node so_far r).
    let same : Commanding op ≡ Commanding d.step.op = sym at ∙ d.course_so in
    let one : op ≡ d.step.op = cc (same) in
    absurd (works.decided (effects_of so_far.node.peer) d.disk (decision_on d.entry node.peer) d.op d.step d.is
    (subst (λ (o : Op). P o.stage) one holds)))
    other))
    (stage_or_decided P Came (record { begins = works.begins; goes = works.goes }) q input node so_far next change r op got at holds)
