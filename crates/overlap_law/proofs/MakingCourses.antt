-- Over a change of a moment a request that hasn't made all that it makes was there before, of the same session, and hadn't made all then;
-- or the event begins with it.
use Rattle.std.proofs.Common.{◌≡◌, ◌⊎◌, inl, inr, ⊎_elim, ℕ, Bool, true, false, List, Option, Some, None, refl, sym, ap, subst, ◌∙◌}
use Rattle.std.specs.FinMap as tree
use Rattle.object_id.specs.declared.cause.Cause.{Cause}
use Rattle.inode.specs.Layout.{Content}
use Rattle.cluster_script.specs.declared.statement.Statement.{Statement}
use Rattle.peer_proto.specs.declared.guest.VdiAsk.TheVariants as disk_commands
use Rattle.vdi_directory.specs.declared.decision.Decision.{Decision}
use Rattle.vdi_directory.specs.declared.effect.Effect.{Effect}
use Rattle.peer_service.specs.State.{effects_of}
use Rattle.peer_service.specs.LogReading.{decision_on}
use Rattle.guest_driver.specs.Driver as drivers
use Rattle.disk_check.specs.Check.{begin_check}
use Rattle.vdi_ops.specs.Op as ops
use Rattle.vdi_ops.specs.Op.{Op, OpStage, Asked, Working, Publishing, Answered}
use Rattle.vdi_ops.specs.Steps.{done_at, decided_at, op_on_done, on_decision}
use Rattle.sheep_node.specs.declared.ask.Ask.{Ask}
use Rattle.sheep_node.specs.declared.ask.Ask.TheVariants as asks
use Rattle.sheep_node.specs.declared.course.Course.{Course}
use Rattle.sheep_node.specs.declared.course.Request.{Request}
use Rattle.sheep_node.specs.declared.course.Course.TheVariants.{Waiting, Driving, Commanding, Checking, DoingWork, AwaitingDecision}
use Rattle.sheep_node.specs.declared.input.Input.{Input}
use Rattle.sheep_node.specs.declared.input.Input.TheVariants as inputs
use Rattle.sheep_node.specs.State.{Node}
use Rattle.sheep_node.specs.StepState.{StepState, session_in}
use Rattle.sheep_node.specs.Courses.{inode_open}
use Rattle.sheep_node.specs.Changes as changes
use Rattle.sheep_node.specs.Changes.{HasRequest, Outcome, RequestSteps, DiskBegins, DiskGoesOn, CommandBegins, CommandGoesOn}
use Rattle.sheep_node.specs.Changes.{CommandDecided, CheckBegins, CheckGoesOn, ObjectBegins, ObjectIsDone, EntryBegins, EntryDecided}
use Rattle.sheep_node.specs.Changes.{Change}
use Rattle.sheep_node.proofs.OneWorkParts.{Requests}
use Rattle.sheep_world.specs.Began.{Began}
use Rattle.sheep_world.specs.NodeCauses.{input_of_cause, host_with_node}
use Rattle.sheep_world.specs.World.{Host}
use Rattle.overlap_law.specs.GrantedAttempts.{is_past_works, has_made_all}
use Rattle.overlap_law.specs.MomentChanges.{MomentChange, RunsAreInRange}
use Rattle.overlap_law.specs.Past.{MomentWithPast}
use Rattle.overlap_law.specs.StepMoments.{moment_in_step}
use Rattle.overlap_law.proofs.TouchedInMoments.{BeginsWith, begins}
use Rattle.overlap_law.proofs.TouchedStay.{Arrives}
use Rattle.overlap_law.proofs.RequestWalk.{IsWhereThere, put_there, change_there}
use Rattle.overlap_law.proofs.ClosedHosts.{IsNewer, each_host}
use Rattle.overlap_law.specs.StepMoments.{SteppingNode, IsStepping, StepsByChanges, IsWithinStep}

-- ---- courses

-- a command whose work was done hadn't made all by then
done_before : (bytes : List ℕ) (op : Op) (stage : OpStage) (step : ops.OpStep) → done_at bytes op stage ≡ Some step
    → is_past_works stage ≡ false
done_before bytes op (Asked entry) step is = absurd (cc (is))
done_before bytes op (Working vid task) step is = refl
done_before bytes op (Publishing entry made) step is = absurd (cc (is))
done_before bytes op (Answered change) step is = absurd (cc (is))

went_before : (bytes : List ℕ) (op : Op) (step : ops.OpStep) → op_on_done bytes op ≡ Some step → is_past_works op.stage ≡ false
unfolding op_on_done
went_before bytes op step is = done_before bytes op op.stage step is

-- one whose last entry is decided has made all still
decided_before : (known : List Effect) (disk : Option Content) (decision : Decision) (op : Op) (stage : OpStage) (step : ops.OpStep)
    → decided_at known disk decision op stage ≡ Some step → is_past_works step.op.stage ≡ false → is_past_works stage ≡ false
decided_before known disk decision op (Asked entry) step is making = refl
decided_before known disk decision op (Working vid task) step is making = refl
decided_before known disk decision op (Publishing entry made) step is making =
    let past : true ≡ is_past_works step.op.stage = ap (λ (o : Option ops.OpStep). past_of o) is in
    absurd (cc (past, making))
  where
    past_of : Option ops.OpStep → Bool
    past_of None = true
    past_of (Some step) = is_past_works step.op.stage
decided_before known disk decision op (Answered change) step is making = absurd (cc (is))

went_on_before : (known : List Effect) (disk : Option Content) (decision : Decision) (op : Op) (step : ops.OpStep)
    → on_decision known disk decision op ≡ Some step → is_past_works step.op.stage ≡ false → is_past_works op.stage ≡ false
unfolding on_decision
went_on_before known disk decision op step is making = decided_before known disk decision op op.stage step is making

-- ---- a change of a node

-- a request was there, of the same session, and hadn't made all
pub record WasMaking (q : ℕ) (now : Request) (requests : Requests) : Type 0 where
  pub request : Request
  pub there : tree.get requests q ≡ Some request
  pub session : request.session ≡ now.session
  pub making : has_made_all request.course ≡ false

module _ (q : ℕ) (input : Input) (node : Node) where
  abbrev pub WasOrArrives : Request → StepState → Type 0
  WasOrArrives now so_far = WasMaking q now so_far.node.requests ⊎ Arrives q input node so_far

  abbrev IsFrom : StepState → Request → Type 0
  IsFrom origin r = has_made_all r.course ≡ false → WasOrArrives r origin

  abbrev AreFrom : StepState → Requests → Type 0
  AreFrom origin = IsWhereThere q (IsFrom origin)

  abbrev From : StepState → StepState → Type 0
  From origin so_far = AreFrom origin so_far.node.requests

  put_from : (origin : StepState) (requests : Requests) (session req : ℕ) (course : Course)
      → (q ≡ req → has_made_all course ≡ false → WasOrArrives (record { session = session; course = course }) origin)
      → AreFrom origin requests → AreFrom origin (tree.insert requests req (record { session = session; course = course }))
  put_from origin requests session req course =
      put_there q (IsFrom origin) requests req (record { session = session; course = course })

  from_itself : (so_far : StepState) → From so_far so_far
  from_itself so_far r got making = inl (record { request = r; there = got; session = refl; making = making })

  new_from : (so_far : StepState) (session req : ℕ) (course : Course) (ask : Ask) (refusal : Option Cause)
      → changes.Arrival input node so_far session req ask refusal → q ≡ req → IsFrom so_far (record { session = session; course = course })
  new_from so_far session req course ask refusal arrival own making = inr (record {
    session = session;
    ask = ask;
    from = subst (λ (k : ℕ). input ≡ inputs.Guest k session ask) (sym own) arrival.from;
    first = arrival.first;
  })

  put_new : (so_far : StepState) (session req : ℕ) (course : Course) (ask : Ask) (refusal : Option Cause)
      → changes.Arrival input node so_far session req ask refusal
      → AreFrom so_far (tree.insert so_far.node.requests req (record { session = session; course = course }))
  put_new so_far session req course ask refusal arrival =
      put_from so_far so_far.node.requests session req course (new_from so_far session req course ask refusal arrival) (from_itself so_far)

  -- one that goes on
  put_on : (so_far : StepState) (session req : ℕ) (course next : Course) → HasRequest session req course so_far
      → (has_made_all next ≡ false → has_made_all course ≡ false)
      → AreFrom so_far (tree.insert so_far.node.requests req (record { session = session; course = next }))
  put_on so_far session req course next there before =
      put_from so_far so_far.node.requests session req next
      (λ own making. inl (record {
        request = record { session = session; course = course };
        there = ap (tree.get so_far.node.requests) own ∙ there;
        session = refl;
        making = before making;
      })) (from_itself so_far)

  steps_from : (so_far : StepState) (session req : ℕ) (next : Outcome) (moved : StepState)
      → RequestSteps input node so_far session req next moved → From so_far moved
  steps_from so_far session req next moved (DiskBegins ask disk there on may) =
      put_on so_far session req (Waiting ask) (Driving (drivers.begin_driver disk ask).driver) there (λ making. refl)
  steps_from so_far session req next moved (DiskGoesOn number work attempt status bytes driver disk step ends on is) =
      put_on so_far session req (Driving driver) (Driving step.driver) ends.ends.request (λ making. refl)
  steps_from so_far session req next moved (CommandBegins ask step arrival is) =
      put_new so_far session req (Commanding step.op) (asks.Vdi ask) None arrival
  steps_from so_far session req next moved (CommandGoesOn number work attempt status bytes op step ends is) =
      put_on so_far session req (Commanding op) (Commanding step.op) ends.ends.request (λ making. went_before bytes op step is)
  steps_from so_far session req next moved (CommandDecided entry op step from read there waits is) =
      put_on so_far session req (Commanding op) (Commanding step.op) there
      (λ making. went_on_before (effects_of so_far.node.peer) (inode_open (session_in session so_far).disk) (decision_on entry node.peer) op
      step is making)
  steps_from so_far session req next moved (CheckBegins inode arrival on) =
      put_new so_far session req (Checking (begin_check inode).check) (asks.Vdi disk_commands.Check) None arrival
  steps_from so_far session req next moved (CheckGoesOn number work attempt status bytes check step ends is) =
      put_on so_far session req (Checking check) (Checking step.check) ends.ends.request (λ making. refl)
  steps_from so_far session req next moved (ObjectBegins asked arrival) =
      put_new so_far session req (DoingWork asked) (asks.Object asked) None arrival
  steps_from so_far session req next moved (ObjectIsDone number work attempt status bytes asked ends) = from_itself so_far
  steps_from so_far session req next moved (EntryBegins entry arrival) =
      put_new so_far session req (AwaitingDecision entry) (asks.Entry entry) None arrival
  steps_from so_far session req next moved (EntryDecided entry wanted from read there waits) = from_itself so_far

  pub making_from : (so_far next : StepState) → Change input node so_far next → From so_far next
  making_from so_far =
      change_there q (IsFrom so_far) so_far (steps_from so_far)
      (λ session req ask arrival. new_from so_far session req (Waiting ask) (asks.Disk ask) None arrival) (from_itself so_far)

-- ---- a change of a moment

-- what was there of a node's requests that haven't made all
pub record HadMaking (script : List Statement) (start before : MomentWithPast) (n : ℕ) (host : Host) : Type 0 where
  pub old : Host
  pub there : tree.get before.world.hosts n ≡ Some old
  pub up : old.is_lost ≡ false
  pub requests : (req : ℕ) (request : Request) → tree.get host.node.requests req ≡ Some request → has_made_all request.course ≡ false
      → WasMaking req request old.node.requests ⊎ BeginsWith script start before req

module _ (script : List Statement) (start : MomentWithPast) where
  abbrev pub EachHadMaking : MomentWithPast → MomentWithPast → Type 0
  EachHadMaking before after = (n : ℕ) (host : Host) → tree.get after.world.hosts n ≡ Some host → host.is_lost ≡ false
      → HadMaking script start before n host ⊎ IsNewer before n host

  same_requests : (before : MomentWithPast) (n : ℕ) (old host : Host) → tree.get before.world.hosts n ≡ Some old → old.is_lost ≡ false
      → host.node.requests ≡ old.node.requests → HadMaking script start before n host
  same_requests before n old host there up same = record {
    old = old;
    there = there;
    up = up;
    requests = λ req request got making. inl (record {
      request = request;
      there = ap (λ (all : Requests). tree.get all req) (sym same) ∙ got;
      session = refl;
      making = making;
    });
  }

module _ (script : List Statement) (range : RunsAreInRange script) (start : MomentWithPast) (began : Began script start.world) where
  abbrev HadOrIsNewer : MomentWithPast → MomentWithPast → ℕ → Host → Type 0
  HadOrIsNewer before after n host = HadMaking script start before n host ⊎ IsNewer before n host

  goes_on_making : (stepping : SteppingNode) (so_far next : StepState) → IsStepping script start.world stepping
      → StepsByChanges stepping.cause → IsWithinStep stepping so_far next
      → tree.get (moment_in_step script stepping start so_far).world.hosts stepping.n ≡ Some (host_with_node stepping.host so_far.node)
      → stepping.host.is_lost ≡ false
      → HadOrIsNewer (moment_in_step script stepping start so_far) (moment_in_step script stepping start next) stepping.n
      (host_with_node stepping.host next.node)
  goes_on_making stepping so_far next is by within there up =
      inl (record {
        old = host_with_node stepping.host so_far.node;
        there = there;
        up = up;
        requests = λ req request got making. ⊎_elim
            (λ (had : WasMaking req request so_far.node.requests). inl had)
            (λ (arrives : Arrives req (input_of_cause stepping.cause) stepping.host.node so_far).
            inr (begins script range start began stepping so_far is by req arrives))
            (making_from req (input_of_cause stepping.cause) stepping.host.node so_far next within.change request got making);
      })

  pub each_had_making : {before after : MomentWithPast} → MomentChange script start before after → EachHadMaking script start before after
  each_had_making change =
      each_host script range start began HadOrIsNewer
      (λ before after n old host there up me asked. inl (same_requests script start before n old host there up asked.1))
      goes_on_making (λ before after n host newer none. inr newer) change
