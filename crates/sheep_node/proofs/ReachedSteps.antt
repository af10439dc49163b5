-- A step as far as it has come: the chain of changes to there, and how many these are. A work begins, a request takes a step, and what
-- waited begins.
use Rattle.std.proofs.Common.{◌≡◌, ℕ, suc, ◌+◌, ◌≤◌, length, arith, Bool, true, false, cond, List, [], ◌∷◌, fold, Option, Some, None, is_none, refl, sym, subst}
use Rattle.std.specs.FinMap as tree
use Rattle.std.proofs.lemmas.List.{length-map}
use Rattle.object_id.specs.declared.cause.Cause.TheVariants.{Halt}
use Rattle.object_id.specs.declared.node.Epoch.{Epoch}
use Rattle.vnode_table.specs.Targets.{targets_in}
use Rattle.peer_proto.specs.Work.{oid_of, policy_of}
use Rattle.peer_proto.specs.declared.guest.DiskAsk.{DiskAsk}
use Rattle.peer_proto.specs.declared.work.ObjWork.{ObjWork}
use Rattle.gateway.specs.Work.{zones_for}
use Rattle.gateway.specs.State.{WaitsForMembers, is_touched}
use Rattle.gateway.specs.Step as gateway_steps
use Rattle.gateway.specs.Step.{with_work, waiting_step, refusal_step, halt_step, open_step, next_attempt, attempt_step, start_step}
use Rattle.gateway_queue.specs.declared.queue.Queued.{Queued}
use Rattle.gateway_queue.specs.Queue.{may_run}
use Rattle.guest_driver.specs.declared.disk.Disk.{Disk}
use Rattle.guest_driver.specs.declared.act.DriverAct.{DriverAct}
use Rattle.guest_driver.specs.declared.act.DriverAct.TheVariants as driver_acts
use Rattle.guest_driver.specs.Driver as drivers
use Rattle.guest_driver.specs.InodeQueue as lines
use Rattle.guest_driver.specs.InodeQueue.{InodeQueue, may_open_work, queue_with_open, queue_with_waiting, first_waiting, next_work, taken_from, queue_after_start}
use Rattle.vdi_ops.specs.declared.act.OpAct.{OpAct}
use Rattle.vdi_ops.specs.declared.act.OpAct.TheVariants as op_acts
use Rattle.vdi_ops.specs.Op as ops
use Rattle.sheep_node.specs.declared.input.Input.{Input}
use Rattle.sheep_node.specs.declared.course.Course.{Course}
use Rattle.sheep_node.specs.declared.course.Request.{Request}
use Rattle.sheep_node.specs.declared.course.Course.TheVariants.{Waiting, Driving, Commanding, Checking, DoingWork, AwaitingDecision}
use Rattle.sheep_node.specs.State.{Node}
use Rattle.sheep_node.specs.StepState.{StepState, with_gateway, session_in, with_inode_queue, with_sole_request}
use Rattle.sheep_node.specs.RequestWorks.{after_start, work_begun, work_asked}
use Rattle.sheep_node.specs.Courses.{after_driver_step, driver_acted, driver_stepped, after_command_step, command_acted, command_stepped, check_acted, check_stepped}
use Rattle.sheep_node.specs.Waiting.{next_begun, course_begun, begun_if_may, passed_over, queued_requests, let_begin}
use Rattle.sheep_node.specs.Guests.{request_taken}
use Rattle.sheep_node.specs.SessionQueues.{HaveShortQueues}
use Rattle.sheep_node.specs.Changes as changes
use Rattle.sheep_node.specs.Changes.{IsOfSession, IsSoundStep, HasRequest, ToWork, outcome_of_driver, outcome_of_command, RequestSteps, DiskBegins, new_work, WorkIsNext, AtOnce, InTurn, has_too_few_zones, zones_of_members, Change, Leads, Still, Then, outcome_of_check}
use Rattle.sheep_node.proofs.OneWorkChanges.{StepHasOneWork, comes_free, change_keeps_one_work}
use Rattle.disk_check.specs.declared.act.CheckAct.{CheckAct}
use Rattle.disk_check.specs.declared.act.CheckAct.TheVariants as check_acts
use Rattle.disk_check.specs.Check as checks
use Rattle.peer_proto.specs.declared.guest.GuestRsp.TheVariants.{Checked}
use Rattle.std.specs.Option.{option_map_or}

-- how many changes a chain has
abbrev pub changes_in : {input : Input} {node : Node} {first so_far : StepState} → Leads input node first so_far → ℕ
changes_in Still = 0
changes_in (Then leads change) = suc (changes_in leads)

-- the sessions' queues stay short as the step goes on
abbrev pub QueuesStayShort : Input → Node → StepState → Type 0
QueuesStayShort input node first = (so_far : StepState) → Leads input node first so_far → HaveShortQueues so_far.node.sessions

-- a chain of changes to here. In a sound step works are with their requests by now; where queues stay short there are no more
-- changes than so many
pub record IsReached (input : Input) (node : Node) (first : StepState) (most : ℕ) (so_far : StepState) : Type 0 where
  pub leads : Leads input node first so_far
  pub good : IsSoundStep input node → StepHasOneWork so_far
  pub count : QueuesStayShort input node first → changes_in leads ≤ most

module _ {input : Input} {node : Node} {first : StepState} where
  pub at_most : {m n : ℕ} {so_far : StepState} → m ≤ n → IsReached input node first m so_far → IsReached input node first n so_far
  at_most more walk = record { leads = walk.leads; good = walk.good; count = λ short. let few = walk.count short in omega (arith, few, more) }

  pub one_more : {n : ℕ} {so_far : StepState} → IsReached input node first n so_far → IsReached input node first (suc n) so_far
  one_more walk = at_most (omega arith) walk

  pub reached_by : {n : ℕ} {so_far next : StepState} → IsReached input node first n so_far → Change input node so_far next
      → IsReached input node first (suc n) next
  reached_by {n} {so_far} {next} walk change = record {
    leads = Then walk.leads change;
    good = λ sound. change_keeps_one_work so_far next change sound (walk.good sound);
    count = λ short. let few = walk.count short in omega (arith, few);
  }

module _ {input : Input} {node : Node} {first : StepState} {n : ℕ} where
  -- ---- a work begins

  pub begun_walk : (so_far : StepState) (session req : ℕ) (work : ObjWork) (lined : StepState) → WorkIsNext input node so_far session req (new_work work) lined → IsReached input node first n so_far
      → IsReached input node first (suc n) (work_begun session req work lined)
  unfolding work_begun start_step attempt_step
  begun_walk so_far session req work lined comes walk = by_zones (has_too_few_zones (new_work work) lined.node) refl
    where
      Begins : gateway_steps.GatewayStep → Type 0
      Begins step = IsReached input node first (suc n) (after_start session step.act (with_gateway step.gateway lined))

      epoch : Epoch
      epoch = record { 0 = lined.node.peer.epoch }

      by_touched : has_too_few_zones (new_work work) lined.node ≡ true → (b : Bool) → is_touched req lined.node.gateway ≡ b
          → Begins (cond b (waiting_step (with_work req (record (new_work work) { stage = WaitsForMembers epoch }) lined.node.gateway))
          (refusal_step lined.node.gateway req work (Halt (zones_of_members lined.node) (zones_for work))))
      by_touched short true touched = reached_by walk (changes.Holds session req (new_work work) lined comes short touched)
      by_touched short false untouched =
          reached_by walk (changes.Denies session req (new_work work) lined (tree.get lined.node.requests req) comes short untouched refl
          (λ sound. subst (IsOfSession session) (sym (comes_free so_far session req (new_work work) lined comes sound (walk.good sound)).there) refl))

      by_zones : (b : Bool) → has_too_few_zones (new_work work) lined.node ≡ b
          → Begins (cond b (halt_step lined.node.gateway req (new_work work) epoch (zones_of_members lined.node))
          (open_step lined.node.gateway req (new_work work) (next_attempt (new_work work) lined.node.sends epoch (targets_in lined.node.epochs epoch.0 (oid_of work) (policy_of work)))))
      by_zones true short = by_touched short (is_touched req lined.node.gateway) refl
      by_zones false enough = reached_by walk (changes.Opens session req (new_work work) lined comes enough)

  -- ---- a request takes a step

  pub asked_walk : (so_far : StepState) (session req : ℕ) (work : ObjWork) (moved : StepState) → RequestSteps input node so_far session req (ToWork work) moved → IsReached input node first n so_far
      → IsReached input node first (suc n) (work_asked session req work moved)
  unfolding work_asked
  asked_walk so_far session req work moved steps walk = by_may (may_open_work (session_in session moved).inode_queue work) refl
    where
      by_may : (b : Bool) → may_open_work (session_in session moved).inode_queue work ≡ b
          → IsReached input node first (suc n) (cond b (work_begun session req work (with_inode_queue session (queue_with_open (session_in session moved).inode_queue req work) moved))
          (with_inode_queue session (queue_with_waiting (session_in session moved).inode_queue req work) moved))
      by_may true may =
          begun_walk so_far session req work (with_inode_queue session (queue_with_open (session_in session moved).inode_queue req work) moved) (AtOnce work moved steps may) walk
      by_may false waits = reached_by walk (changes.Lines session req work moved steps waits)

  driver_walk : (so_far : StepState) (session req : ℕ) (act : DriverAct) (moved : StepState) → RequestSteps input node so_far session req (outcome_of_driver act) moved → IsReached input node first n so_far
      → IsReached input node first (suc n) (driver_acted session req act moved)
  driver_walk so_far session req (driver_acts.Work work) moved steps walk = asked_walk so_far session req work moved steps walk
  driver_walk so_far session req (driver_acts.Reply reply) moved steps walk = reached_by walk (changes.Replies session req reply moved steps)

  pub driver_stepped_walk : (so_far : StepState) (session req : ℕ) (disk : Disk) (step : drivers.DriverStep) (freed : StepState)
      → RequestSteps input node so_far session req (outcome_of_driver step.act) (after_driver_step session req disk step freed) → IsReached input node first n so_far
      → IsReached input node first (suc n) (driver_stepped session req disk step freed)
  unfolding driver_stepped
  driver_stepped_walk so_far session req disk step freed steps walk = driver_walk so_far session req step.act (after_driver_step session req disk step freed) steps walk

  command_walk : (so_far : StepState) (session req : ℕ) (act : OpAct) (moved : StepState) → RequestSteps input node so_far session req (outcome_of_command act) moved
      → IsReached input node first n so_far → IsReached input node first (suc n) (command_acted session req act moved)
  command_walk so_far session req (op_acts.Append entry) moved steps walk = reached_by walk (changes.Appends session req entry moved steps)
  command_walk so_far session req (op_acts.Work work) moved steps walk = asked_walk so_far session req work moved steps walk
  command_walk so_far session req (op_acts.Reply reply) moved steps walk = reached_by walk (changes.Replies session req reply moved steps)

  pub command_stepped_walk : (so_far : StepState) (session req : ℕ) (step : ops.OpStep) (freed : StepState)
      → RequestSteps input node so_far session req (outcome_of_command step.act) (after_command_step session req step freed) → IsReached input node first n so_far
      → IsReached input node first (suc n) (command_stepped session req step freed)
  unfolding command_stepped
  command_stepped_walk so_far session req step freed steps walk =
      command_walk so_far session req step.act (after_command_step session req step freed) steps walk

  check_walk : (so_far : StepState) (session req : ℕ) (act : CheckAct) (moved : StepState)
      → RequestSteps input node so_far session req (outcome_of_check act) moved → IsReached input node first n so_far
      → IsReached input node first (suc n) (check_acted session req act moved)
  check_walk so_far session req (check_acts.Work work) moved steps walk = asked_walk so_far session req work moved steps walk
  check_walk so_far session req (check_acts.Reply found) moved steps walk =
      reached_by walk (changes.Replies session req (Checked found) moved steps)

  pub check_stepped_walk : (so_far : StepState) (session req : ℕ) (step : checks.CheckStep) (freed : StepState)
      → RequestSteps input node so_far session req (outcome_of_check step.act) (with_sole_request session req (Checking step.check) freed)
      → IsReached input node first n so_far → IsReached input node first (suc n) (check_stepped session req step freed)
  unfolding check_stepped
  check_stepped_walk so_far session req step freed steps walk =
      check_walk so_far session req step.act (with_sole_request session req (Checking step.check) freed) steps walk

  -- ---- what waited begins

  disk_begun_walk : (so_far : StepState) (session req : ℕ) (ask : DiskAsk) (disk : Option Disk) → HasRequest session req (Waiting ask) so_far
      → (session_in session so_far).disk ≡ disk → may_run req (session_in session so_far).queue ≡ true → IsReached input node first n so_far
      → IsReached input node first (suc n) (option_map_or (λ (disk : Disk). driver_stepped session req disk (drivers.begin_driver disk ask) so_far) disk so_far)
  disk_begun_walk so_far session req ask None there on may walk = one_more walk
  disk_begun_walk so_far session req ask (Some disk) there on may walk =
      driver_stepped_walk so_far session req disk (drivers.begin_driver disk ask) so_far (DiskBegins ask disk there on may) walk

  pub course_begun_walk : (so_far : StepState) (session req : ℕ) (course : Course) → HasRequest session req course so_far → IsReached input node first n so_far
      → IsReached input node first (suc n) (course_begun session req course so_far)
  course_begun_walk so_far session req (Waiting ask) there walk = by_run (may_run req (session_in session so_far).queue) refl
    where
      by_run : (b : Bool) → may_run req (session_in session so_far).queue ≡ b
          → IsReached input node first (suc n) (cond b (option_map_or (λ (disk : Disk). driver_stepped session req disk (drivers.begin_driver disk ask) so_far) (session_in session so_far).disk so_far) so_far)
      by_run true may = disk_begun_walk so_far session req ask (session_in session so_far).disk there refl may walk
      by_run false waits = one_more walk
  course_begun_walk so_far session req (Driving driver) there walk = one_more walk
  course_begun_walk so_far session req (Commanding op) there walk = one_more walk
  course_begun_walk so_far session req (Checking check) there walk = one_more walk
  course_begun_walk so_far session req (DoingWork work) there walk = one_more walk
  course_begun_walk so_far session req (AwaitingDecision entry) there walk = one_more walk

  pub request_begun_walk : (so_far : StepState) (req : ℕ) (request : Option Request) → tree.get so_far.node.requests req ≡ request → IsReached input node first n so_far
      → IsReached input node first (suc n) (option_map_or (λ (request : Request). course_begun request.session req request.course so_far) request so_far)
  request_begun_walk so_far req None there walk = one_more walk
  request_begun_walk so_far req (Some request) there walk = course_begun_walk so_far request.session req request.course there walk

  pub next_begun_walk : (session : ℕ) (so_far : StepState) → IsReached input node first n so_far → IsReached input node first (suc n) (next_begun session (next_work (session_in session so_far).inode_queue) so_far)
  next_begun_walk session so_far walk =
      as_begun (next_work (session_in session so_far).inode_queue) (by_current (session_in session so_far).inode_queue.current refl (session_in session so_far).inode_queue.waiting refl)
    where
      Next_ : Option lines.Waiting → InodeQueue → Type 0
      Next_ None request_taken = Unit {0}
      Next_ (Some next) request_taken = IsReached input node first (suc n) (work_begun session next.req next.work (with_inode_queue session request_taken so_far))

      by_current : (current : Option ℕ) → (session_in session so_far).inode_queue.current ≡ current → (list : List lines.Waiting)
          → (session_in session so_far).inode_queue.waiting ≡ list
          → Next_ (cond (is_none current) (first_waiting list) None) (cond (is_none current) (taken_from (session_in session so_far).inode_queue list) (session_in session so_far).inode_queue)
      by_current None none [] is = tt
      by_current None none (next ∷ later) is =
          begun_walk so_far session next.req next.work (with_inode_queue session (record { current = Some next.req; waiting = later }) so_far)
          (InTurn next.work later none is) walk
      by_current (Some req) one list is = tt

      as_begun : (next : Option lines.Waiting) → Next_ next (queue_after_start (session_in session so_far).inode_queue) → IsReached input node first (suc n) (next_begun session next so_far)
      as_begun None begun = one_more walk
      as_begun (Some next) begun = begun

module _ {input : Input} {node : Node} {first : StepState} where
  all_begun_walk : {n : ℕ} (reqs : List ℕ) (so_far : StepState) → IsReached input node first n so_far
      → IsReached input node first (length reqs + n) (fold begun_if_may so_far reqs)
  all_begun_walk [] so_far walk = at_most (omega arith) walk
  all_begun_walk (req ∷ reqs) so_far walk = at_most (omega arith)
      (all_begun_walk reqs (begun_if_may so_far req) (request_begun_walk so_far req (tree.get so_far.node.requests req) refl walk))

  -- where queues are short, of 16 requests at most
  pub let_begin_walk : {n : ℕ} (session : ℕ) (so_far : StepState) → IsReached input node first n so_far
      → IsReached input node first (17 + n) (let_begin session so_far)
  unfolding let_begin passed_over
  let_begin_walk {n} session so_far walk =
      let queue = (session_in session so_far).queue in
      let reqs = queued_requests (session_in session so_far) in
      let begun = all_begun_walk reqs (next_begun session (next_work (session_in session so_far).inode_queue) so_far)
      (next_begun_walk session so_far walk) in
      record {
        leads = begun.leads;
        good = begun.good;
        count = λ short.
            let all : changes_in begun.leads ≤ length reqs + suc n = begun.count short in
            let same : length reqs ≡ length queue = length-map queue (λ (queued : Queued). queued.req) in
            let few : length queue ≤ 16 = short so_far walk.leads session in
            omega (arith, all, same, few);
      }
