-- A gateway waits no more for a message that it was told of, whatever its works come to then.
use Rattle.std.proofs.Common.{◌≡◌, ◌≢◌, ℕ, ◌+◌, ◌==◌, ◌<◌, nat_lt, Bool, true, false, ◌||◌, cond, List, [], ◌∷◌, fold, length, map, Option, Some, None, refl, sym, ap, subst, ◌∙◌, ⊎_elim}
use Rattle.std.specs.Option.{option_map_or}
use native.Mathlib.Omega.{arith}
use Rattle.std.specs.List.{list_any}
use Rattle.std.specs.FinMap as tree
use Rattle.std.proofs.lemmas.Bool.{cases_eq}
use Rattle.std.proofs.lemmas.Option.{same_Some}
use Rattle.proof_tools.proofs.Booleans.{cond_either, has_value}
use Rattle.proof_tools.proofs.FiniteMaps.{get-insert_same, get-insert_other, get-remove_same, get-remove_other}
use Rattle.object_id.specs.declared.cause.Cause.{Cause}
use Rattle.peer_proto.specs.declared.guest.GuestRsp.{GuestRsp}
use Rattle.object_id.specs.declared.cause.Cause.TheVariants.{Halt}
use Rattle.object_id.specs.declared.node.Epoch.{Epoch}
use Rattle.hash_ring.specs.Placement.{zone_count}
use Rattle.vnode_table.specs.Epochs.{members_at}
use Rattle.vnode_table.specs.Targets.{targets_in}
use Rattle.peer_proto.specs.Work.{oid_of, policy_of}
use Rattle.peer_proto.specs.declared.guest.DiskAsk.{DiskAsk}
use Rattle.peer_proto.specs.declared.work.ObjWork.{ObjWork}
use Rattle.gateway.specs.declared.message.Message.{Message}
use Rattle.gateway.specs.declared.message.Status.{Status}
use Rattle.gateway.specs.Work as works
use Rattle.gateway.specs.Work.{zones_for}
use Rattle.gateway.specs.Attempt.{is_unanswered, is_awaited_message, messages_with_status, messages_of, send_of, is_over, is_done, bytes_given}
use Rattle.gateway.specs.State as gateways
use Rattle.gateway.specs.State.{WorkStage, Open, Ended, WaitsForMembers, Work, Gateway, asker, is_touched, is_awaited_in, open_messages}
use Rattle.gateway.specs.Step as gateway_steps
use Rattle.gateway.specs.Step.{with_work, without_work, waiting_step, done_step, refusal_step, halt_step, open_step, next_attempt, attempt_step, start_step, attempt_with_status, refusal_after_attempt, failure_step, attempt_continued, status_step_in, status_step_by, touched_by, message_ended}
use Rattle.guest_driver.specs.declared.act.DriverAct.{DriverAct}
use Rattle.guest_driver.specs.declared.act.DriverAct.TheVariants as driver_acts
use Rattle.guest_driver.specs.declared.disk.Disk.{Disk}
use Rattle.guest_driver.specs.Driver as drivers
use Rattle.guest_driver.specs.Driver.{Driver}
use Rattle.guest_driver.specs.InodeQueue as lines
use Rattle.guest_driver.specs.InodeQueue.{may_open_work, queue_with_open, queue_with_waiting, queue_after_start, next_work}
use Rattle.gateway_queue.specs.Queue.{may_run}
use Rattle.vdi_ops.specs.declared.act.OpAct.{OpAct}
use Rattle.vdi_ops.specs.declared.act.OpAct.TheVariants as op_acts
use Rattle.vdi_ops.specs.Op as ops
use Rattle.vdi_ops.specs.Steps.{op_on_done}
use Rattle.sheep_node.specs.declared.course.Course.{Course}
use Rattle.sheep_node.specs.declared.course.Request.{Request}
use Rattle.sheep_node.specs.declared.course.Course.TheVariants.{Waiting, Driving, Commanding, Checking, DoingWork, AwaitingDecision}
use Rattle.sheep_node.specs.StepState.{StepState, with_gateway, session_in, with_inode_queue, request_ended, with_sole_request}
use Rattle.sheep_node.specs.RequestWorks.{course_refused, queue_left, after_start, work_begun, work_asked}
use Rattle.sheep_node.specs.Courses.{after_driver_step, driver_acted, driver_stepped, disk_went_on, after_command_step, command_acted, command_stepped, course_went_on, check_acted, check_stepped}
use Rattle.sheep_node.specs.Waiting.{next_begun, course_begun, begun_if_may, passed_over, queued_requests, let_begin, work_done, work_refused, after_act, after_gateway_step}
use Rattle.sheep_node.specs.Step.{is_due, with_recovered, recovered_put}
use Rattle.sheep_node.specs.OneWork.{NumbersAreOfOneWork}
use Rattle.sheep_node.proofs.RefusedCourses.{request_refused-keeps}
use Rattle.sheep_node.proofs.AwaitedWorks.{Works, found_got}
use Rattle.sheep_node.proofs.MessageNumbers.{fresh_apart}
use Rattle.disk_check.specs.declared.act.CheckAct.{CheckAct}
use Rattle.disk_check.specs.declared.act.CheckAct.TheVariants as check_acts
use Rattle.disk_check.specs.Check as checks
use Rattle.disk_check.specs.Check.{check_on_done}

module _ (number : ℕ) where
  -- no work waits for the number
  abbrev pub NoneWaits : Works → Type 0
  NoneWaits m = (req : ℕ) (work : Work) → tree.get m req ≡ Some work → is_awaited_in number work ≡ false

  -- nor does one that begins, since the number was given
  abbrev pub IsHeard : StepState → Type 0
  IsHeard so_far = (number < so_far.node.sends) × NoneWaits so_far.node.gateway.works

  put_none : (m : Works) (req : ℕ) (now : Work) → is_awaited_in number now ≡ false
      → ((q : ℕ) (work : Work) → q ≢ req → tree.get m q ≡ Some work → is_awaited_in number work ≡ false) → NoneWaits (tree.insert m req now)
  put_none m req now never others q work got = ⊎_elim
      (λ (own : q ≡ req).
      ap (is_awaited_in number) (sym (same_Some now work (sym (ap (tree.get (tree.insert m req now)) own ∙ get-insert_same m req now) ∙ got))) ∙ never)
      (λ (other : q ≢ req). others q work other (sym (get-insert_other m req now q other) ∙ got))
      (cases_eq q req)

  gone_none : (m : Works) (req : ℕ) → ((q : ℕ) (work : Work) → q ≢ req → tree.get m q ≡ Some work → is_awaited_in number work ≡ false)
      → NoneWaits (tree.remove m req)
  gone_none m req others q work got = ⊎_elim
      (λ (own : q ≡ req).
      let none : tree.get (tree.remove m req) q ≡ None = ap (tree.get (tree.remove m req)) own ∙ get-remove_same m req in
      absurd (cc (got, none)))
      (λ (other : q ≢ req). others q work other (sym (get-remove_other m req q other) ∙ got))
      (cases_eq q req)

  -- ---- what goes on

  ended_heard : (session req : ℕ) (reply : GuestRsp) (so_far : StepState) → IsHeard so_far → IsHeard (request_ended session req reply so_far)
  unfolding request_ended
  ended_heard session req reply so_far heard = heard

  begun_heard : (session req : ℕ) (work : ObjWork) (so_far : StepState) → IsHeard so_far → IsHeard (work_begun session req work so_far)
  unfolding work_begun start_step attempt_step
  begun_heard session req work so_far heard =
      let node = so_far.node in
      let gateway = node.gateway in
      let epoch : Epoch = record { 0 = node.peer.epoch } in
      let zones = zone_count (members_at node.epochs node.peer.epoch) in
      let asked : Work = record { work = work; ended = 0; stage = Ended } in
      let targets = targets_in node.epochs node.peer.epoch (oid_of work) (policy_of work) in
      let more = length (map (send_of gateway.me epoch work) (messages_of work 0 node.sends targets)) in
      let low = heard.0 in
      let Begins : gateway_steps.GatewayStep → Type 0 = λ step. IsHeard (after_start session step.act (with_gateway step.gateway so_far)) in
      cond_either Begins (nat_lt zones (zones_for work))
      (halt_step gateway req asked epoch zones) (open_step gateway req asked (next_attempt asked node.sends epoch targets))
      (cond_either Begins (is_touched req gateway)
      (waiting_step (with_work req (record asked { stage = WaitsForMembers epoch }) gateway)) (refusal_step gateway req work (Halt zones (zones_for work)))
      (low, put_none gateway.works req (record asked { stage = WaitsForMembers epoch }) refl (λ q w other got. heard.1 q w got))
      (request_refused-keeps IsHeard ended_heard (λ entry before now. now) req (Halt zones (zones_for work)) (tree.get node.requests req) (queue_left session work (with_gateway (without_work req gateway) so_far))
      (low, gone_none gateway.works req (λ q w other got. heard.1 q w got)))) (
        let higher : number < node.sends + more = omega (arith, low) in higher,
        put_none gateway.works req (record asked { stage = Open (next_attempt asked node.sends epoch targets) })
            (fresh_apart gateway.me epoch work node.sends (works.targets_asked work 0 targets) number low) (λ q w other got. heard.1 q w got),
      )

  asked_heard : (session req : ℕ) (work : ObjWork) (so_far : StepState) → IsHeard so_far → IsHeard (work_asked session req work so_far)
  unfolding work_asked
  asked_heard session req work so_far heard =
      let queue = (session_in session so_far).inode_queue in
      cond_either IsHeard (may_open_work queue work)
      (work_begun session req work (with_inode_queue session (queue_with_open queue req work) so_far))
      (with_inode_queue session (queue_with_waiting queue req work) so_far)
      (begun_heard session req work (with_inode_queue session (queue_with_open queue req work) so_far) heard) heard

  driver_heard : (session req : ℕ) (act : DriverAct) (so_far : StepState) → IsHeard so_far → IsHeard (driver_acted session req act so_far)
  unfolding request_ended
  driver_heard session req (driver_acts.Work work) so_far heard = asked_heard session req work so_far heard
  driver_heard session req (driver_acts.Reply reply) so_far heard = heard

  stepped_heard : (session req : ℕ) (disk : Disk) (step : Option drivers.DriverStep) (so_far : StepState) → IsHeard so_far
      → IsHeard (option_map_or (λ (step : drivers.DriverStep). driver_stepped session req disk step so_far) step so_far)
  unfolding driver_stepped
  stepped_heard session req disk None so_far heard = heard
  stepped_heard session req disk (Some step) so_far heard = driver_heard session req step.act (after_driver_step session req disk step so_far) heard

  disk_heard : (session req : ℕ) (bytes : List ℕ) (driver : Driver) (disk : Option Disk) (so_far : StepState) → IsHeard so_far
      → IsHeard (disk_went_on session req bytes driver disk so_far)
  disk_heard session req bytes driver None so_far heard = heard
  disk_heard session req bytes driver (Some disk) so_far heard =
      stepped_heard session req disk (drivers.driver_on_done disk.inode bytes driver) so_far heard

  command_heard : (session req : ℕ) (act : OpAct) (so_far : StepState) → IsHeard so_far → IsHeard (command_acted session req act so_far)
  unfolding request_ended
  command_heard session req (op_acts.Append entry) so_far heard = heard
  command_heard session req (op_acts.Work work) so_far heard = asked_heard session req work so_far heard
  command_heard session req (op_acts.Reply reply) so_far heard = heard

  command_on_heard : (session req : ℕ) (step : Option ops.OpStep) (so_far : StepState) → IsHeard so_far → IsHeard (option_map_or (λ (step : ops.OpStep). command_stepped session req step so_far) step so_far)
  unfolding command_stepped
  command_on_heard session req None so_far heard = heard
  command_on_heard session req (Some step) so_far heard = command_heard session req step.act (after_command_step session req step so_far) heard

  check_heard : (session req : ℕ) (act : CheckAct) (so_far : StepState) → IsHeard so_far → IsHeard (check_acted session req act so_far)
  unfolding request_ended
  check_heard session req (check_acts.Work work) so_far heard = asked_heard session req work so_far heard
  check_heard session req (check_acts.Reply found) so_far heard = heard

  check_on_heard : (session req : ℕ) (step : Option checks.CheckStep) (so_far : StepState) → IsHeard so_far → IsHeard (option_map_or (λ (step : checks.CheckStep). check_stepped session req step so_far) step so_far)
  unfolding check_stepped
  check_on_heard session req None so_far heard = heard
  check_on_heard session req (Some step) so_far heard =
      check_heard session req step.act (with_sole_request session req (Checking step.check) so_far) heard

  course_heard : (session req : ℕ) (bytes : List ℕ) (course : Course) (so_far : StepState) → IsHeard so_far → IsHeard (course_went_on session req bytes course so_far)
  unfolding course_went_on request_ended
  course_heard session req bytes (Waiting ask) so_far heard = heard
  course_heard session req bytes (Driving driver) so_far heard = disk_heard session req bytes driver (session_in session so_far).disk so_far heard
  course_heard session req bytes (Commanding op) so_far heard = command_on_heard session req (op_on_done bytes op) so_far heard
  course_heard session req bytes (Checking check) so_far heard = check_on_heard session req (check_on_done bytes check) so_far heard
  course_heard session req bytes (DoingWork work) so_far heard = heard
  course_heard session req bytes (AwaitingDecision entry) so_far heard = heard

  -- ---- what waited begins

  disk_begun_heard : (session req : ℕ) (ask : DiskAsk) (disk : Option Disk) (so_far : StepState) → IsHeard so_far → IsHeard (option_map_or (λ (disk : Disk). driver_stepped session req disk (drivers.begin_driver disk ask) so_far) disk so_far)
  unfolding driver_stepped
  disk_begun_heard session req ask None so_far heard = heard
  disk_begun_heard session req ask (Some disk) so_far heard =
      driver_heard session req (drivers.begin_driver disk ask).act (after_driver_step session req disk (drivers.begin_driver disk ask) so_far) heard

  course_begun_heard : (session req : ℕ) (course : Course) (so_far : StepState) → IsHeard so_far → IsHeard (course_begun session req course so_far)
  course_begun_heard session req (Waiting ask) so_far heard =
      cond_either IsHeard (may_run req (session_in session so_far).queue) (option_map_or (λ (disk : Disk). driver_stepped session req disk (drivers.begin_driver disk ask) so_far) (session_in session so_far).disk so_far) so_far
      (disk_begun_heard session req ask (session_in session so_far).disk so_far heard) heard
  course_begun_heard session req (Driving driver) so_far heard = heard
  course_begun_heard session req (Commanding op) so_far heard = heard
  course_begun_heard session req (Checking check) so_far heard = heard
  course_begun_heard session req (DoingWork work) so_far heard = heard
  course_begun_heard session req (AwaitingDecision entry) so_far heard = heard

  all_begun_heard : (reqs : List ℕ) (so_far : StepState) → IsHeard so_far → IsHeard (fold begun_if_may so_far reqs)
  all_begun_heard [] so_far heard = heard
  all_begun_heard (req ∷ reqs) so_far heard = all_begun_heard reqs (begun_if_may so_far req) (by_request (tree.get so_far.node.requests req))
    where
      by_request : (request : Option Request) → IsHeard (option_map_or (λ (request : Request). course_begun request.session req request.course so_far) request so_far)
      by_request None = heard
      by_request (Some request) = course_begun_heard request.session req request.course so_far heard

  let_begin_heard : (session : ℕ) (so_far : StepState) → IsHeard so_far → IsHeard (let_begin session so_far)
  unfolding let_begin passed_over
  let_begin_heard session so_far heard =
      all_begun_heard (queued_requests (session_in session so_far)) (next_begun session (next_work (session_in session so_far).inode_queue) so_far)
      (by_next (next_work (session_in session so_far).inode_queue))
    where
      by_next : (next : Option lines.Waiting) → IsHeard (next_begun session next so_far)
      by_next None = heard
      by_next (Some next) =
          begun_heard session next.req next.work (with_inode_queue session (queue_after_start (session_in session so_far).inode_queue) so_far) heard

  done_heard : (work : ObjWork) (req : ℕ) (bytes : List ℕ) (request : Option Request) (so_far : StepState) → IsHeard so_far
      → IsHeard (work_done work req bytes request so_far)
  done_heard work req bytes None so_far heard = heard
  done_heard work req bytes (Some request) so_far heard =
      let_begin_heard request.session (course_went_on request.session req bytes request.course (queue_left request.session work so_far))
      (course_heard request.session req bytes request.course (queue_left request.session work so_far) heard)

  work_refused_heard : (work : ObjWork) (req : ℕ) (cause : Cause) (request : Option Request) (so_far : StepState) → IsHeard so_far
      → IsHeard (work_refused work req cause request so_far)
  work_refused_heard work req cause None so_far heard = heard
  work_refused_heard work req cause (Some request) so_far heard =
      let_begin_heard request.session (course_refused request.session req cause request.course (queue_left request.session work so_far))
      (request_refused-keeps IsHeard ended_heard (λ entry before now. now) req cause (Some request) (queue_left request.session work so_far) heard)

  -- ---- a message is told

  module _ (status : Status) (settled : is_unanswered status ≡ false) where
    none_marked : (messages : List Message) → list_any (is_awaited_message number) (messages_with_status number status messages) ≡ false
    none_marked [] = refl
    none_marked (message ∷ messages) =
        ap (λ (b : Bool). b || list_any (is_awaited_message number) (messages_with_status number status messages)) (by_tie (message.number == number) refl)
        ∙ none_marked messages
      where
        by_tie : (b : Bool) → (message.number == number) ≡ b → is_awaited_message number (cond b (record message { status = status }) message) ≡ false
        by_tie true tie = ap (λ (b : Bool). cond b (is_unanswered status) false) tie ∙ settled
        by_tie false tie = ap (λ (b : Bool). cond b (is_unanswered message.status) false) tie

    module _ (so_far : StepState) (given : number < so_far.node.sends) (once : NumbersAreOfOneWork so_far.node.gateway.works) where
      abbrev After : gateway_steps.GatewayStep → Type 0
      After step = IsHeard (after_act step.act (with_gateway step.gateway so_far))

      module _ (req : ℕ) (work : Work) (there : tree.get so_far.node.gateway.works req ≡ Some work) (awaited : is_awaited_in number work ≡ true) where
        others : (q : ℕ) (w : Work) → q ≢ req → tree.get so_far.node.gateway.works q ≡ Some w → is_awaited_in number w ≡ false
        others q w other got = by_wait (is_awaited_in number w) refl
          where
            by_wait : (b : Bool) → is_awaited_in number w ≡ b → is_awaited_in number w ≡ false
            by_wait true waits = absurd (other (once number q req w work got there waits awaited))
            by_wait false none = none

        -- the gateway, with a touched request more or not
        abbrev touched : Gateway
        touched = touched_by req work.work status so_far.node.gateway

        without : NoneWaits (tree.remove so_far.node.gateway.works req)
        without = gone_none so_far.node.gateway.works req others

        failed_heard : (cause : Option Cause) → After (failure_step touched req work cause)
        failed_heard None = (given, put_none so_far.node.gateway.works req (record work { ended = work.ended + 1; stage = Ended }) refl others)
        failed_heard (Some cause) =
            work_refused_heard work.work req cause (tree.get so_far.node.requests req) (with_gateway (without_work req touched) so_far) (given, without)

        known_heard : (stage : WorkStage) → work.stage ≡ stage → After (status_step_in touched req work number status stage)
        unfolding attempt_continued gateway_steps.attempt_ended
        known_heard (Open attempt) is =
            let now = attempt_with_status number status attempt in
            let cause = refusal_after_attempt touched req work.work (work.ended + 1) now in
            cond_either After (is_over now.messages)
            (cond (is_done work.work now.messages) (done_step touched req work.work (bytes_given work.work now.messages)) (failure_step touched req work cause))
            (waiting_step (with_work req (record work { stage = Open now }) touched))
            (cond_either After (is_done work.work now.messages) (done_step touched req work.work (bytes_given work.work now.messages))
            (failure_step touched req work cause)
            (done_heard work.work req (bytes_given work.work now.messages) (tree.get so_far.node.requests req)
            (with_gateway (without_work req touched) so_far) (given, without))
            (failed_heard cause))
            (given, put_none so_far.node.gateway.works req (record work { stage = Open now }) (none_marked attempt.messages) others)
        known_heard Ended is =
            let none : is_awaited_in number work ≡ false = ap (λ (stage : WorkStage). list_any (is_awaited_message number) (open_messages stage)) is in
            absurd (cc (awaited, none))
        known_heard (WaitsForMembers epoch) is =
            let none : is_awaited_in number work ≡ false = ap (λ (stage : WorkStage). list_any (is_awaited_message number) (open_messages stage)) is in
            absurd (cc (awaited, none))

      pub told_heard : gateways.gateway_awaits number so_far.node.gateway ≡ true
          → IsHeard (after_gateway_step (message_ended so_far.node.gateway number status) so_far)
      unfolding after_gateway_step message_ended
      told_heard waits =
          let (found, is) = has_value (asker number so_far.node.gateway) waits in
          let (there, awaited) = found_got number so_far.node.gateway.works found is in
          subst (λ (o : Option (ℕ × Work)). After (status_step_by so_far.node.gateway number status o)) (sym is)
          (known_heard found.0 found.1 there awaited found.1.stage refl)

  pub heard_at_end : (so_far : StepState) → IsHeard so_far → IsHeard (recovered_put so_far)
  unfolding recovered_put
  heard_at_end so_far heard = cond_either IsHeard (is_due so_far.node) (with_recovered so_far) so_far heard heard

  pub heard_waits_not : (so_far : StepState) → IsHeard so_far → gateways.gateway_awaits number so_far.node.gateway ≡ false
  heard_waits_not so_far heard = by_wait (gateways.gateway_awaits number so_far.node.gateway) refl
    where
      by_wait : (b : Bool) → gateways.gateway_awaits number so_far.node.gateway ≡ b → gateways.gateway_awaits number so_far.node.gateway ≡ false
      by_wait true waits =
          let (found, is) = has_value (asker number so_far.node.gateway) waits in
          let (got, awaited) = found_got number so_far.node.gateway.works found is in
          let never = heard.1 found.0 found.1 got in
          absurd (cc (awaited, never))
      by_wait false none = none
