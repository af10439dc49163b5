-- The step on a guest's request replies to that request alone; so a client's ask, which no session of a script asked, is told to no session.
use Rattle.std.proofs.Common.{◌≡◌, ℕ, zero, suc, nat_lt, Bool, true, false, cond, List, [], ◌∷◌, ◌++◌, fold, flat_map, Option, Some, None, refl, sym, ap, subst, ◌∙◌}
use Rattle.std.specs.Option.{option_map, option_map_or, option_and_then}
use Rattle.std.specs.Ordering.{nat_cmp}
use Rattle.std.specs.FinMap as tree
use Rattle.object_id.specs.declared.cause.Cause.{Cause}
use Rattle.object_id.specs.declared.cause.Cause.TheVariants.{Halt}
use Rattle.object_id.specs.declared.node.Epoch.{Epoch}
use Rattle.hash_ring.specs.Placement.{zone_count}
use Rattle.vnode_table.specs.Epochs.{members_at}
use Rattle.vnode_table.specs.Targets.{targets_in}
use Rattle.peer_proto.specs.declared.guest.DiskAsk.{DiskAsk}
use Rattle.peer_proto.specs.Work.{oid_of, policy_of}
use Rattle.gateway.specs.Work.{zones_for}
use Rattle.gateway.specs.Attempt.{Attempt}
use Rattle.cluster_script.specs.declared.statement.Statement.{Statement}
use Rattle.cluster_script.specs.NumberedRequests.{session_of, request_at}
use Rattle.peer_proto.specs.declared.guest.GuestRsp.{GuestRsp}
use Rattle.peer_proto.specs.declared.guest.GuestRsp.TheVariants as replies
use Rattle.peer_proto.specs.declared.guest.VdiAsk.{VdiAsk}
use Rattle.peer_proto.specs.declared.guest.VdiAsk.TheVariants.{Create, Attach, Close, Snapshot, Clone, Delete, Check}
use Rattle.peer_proto.specs.declared.work.ObjWork.{ObjWork}
use Rattle.gateway.specs.declared.act.Act.{Act}
use Rattle.gateway.specs.declared.act.Act.TheVariants as acts
use Rattle.gateway.specs.State.{Ended, WaitsForMembers, Work, is_touched}
use Rattle.gateway.specs.Step.{waiting_step, with_work, start_step, attempt_step, open_step, next_attempt, refusal_step}
use Rattle.guest_driver.specs.declared.disk.Disk.{Disk}
use Rattle.guest_driver.specs.declared.act.DriverAct.{DriverAct}
use Rattle.guest_driver.specs.declared.act.DriverAct.TheVariants as driver_acts
use Rattle.guest_driver.specs.Driver as drivers
use Rattle.guest_driver.specs.InodeQueue.{may_open_work, queue_with_open, queue_with_waiting}
use Rattle.gateway_queue.specs.Queue.{may_run}
use Rattle.disk_check.specs.Check as checks
use Rattle.disk_check.specs.declared.act.CheckAct.{CheckAct}
use Rattle.disk_check.specs.declared.act.CheckAct.TheVariants as check_acts
use Rattle.vdi_ops.specs.declared.act.OpAct.{OpAct}
use Rattle.vdi_ops.specs.declared.act.OpAct.TheVariants as op_acts
use Rattle.vdi_ops.specs.declared.end.OpEnd.{OpEnd}
use Rattle.vdi_ops.specs.Op as ops
use Rattle.vdi_ops.specs.Steps.{begin_command, on_refusal}
use Rattle.sheep_node.specs.declared.ask.Ask.{Ask}
use Rattle.sheep_node.specs.declared.ask.Ask.TheVariants as asks
use Rattle.sheep_node.specs.declared.course.Course.{Course}
use Rattle.sheep_node.specs.declared.course.Request.{Request}
use Rattle.sheep_node.specs.declared.course.Course.TheVariants.{Waiting, Driving, Commanding, Checking, DoingWork, AwaitingDecision}
use Rattle.sheep_node.specs.declared.input.Input.TheVariants as inputs
use Rattle.sheep_node.specs.State.{Node}
use Rattle.sheep_node.specs.StepState.{StepState, at_first, replies_in_order, session_in, with_gateway, with_inode_queue, with_optional_entry}
use Rattle.sheep_node.specs.StepState.{with_course, with_sole_request, request_ended}
use Rattle.sheep_node.specs.RequestWorks.{command_refused, course_refused, queue_left, after_start, start_of, work_begun, work_asked}
use Rattle.sheep_node.specs.Courses.{driver_acted, after_driver_step, driver_stepped, inode_open, after_command_step, command_acted}
use Rattle.sheep_node.specs.Courses.{command_stepped, check_acted, check_stepped}
use Rattle.sheep_node.specs.Waiting.{course_begun}
use Rattle.sheep_node.specs.Guests.{request_refusal, with_queued_request, command_taken, request_taken, request_taken_unless, on_guest}
use Rattle.sheep_node.specs.Step.{on_input, is_due, with_recovered, recovered_put, node_step}
use Rattle.sheep_world.specs.declared.progress.SessionProgress.{SessionProgress}
use Rattle.sheep_world.specs.World.{Host, World}
use Rattle.disk_history.specs.declared.event.HistEvent.{HistEvent}
use Rattle.sheep_world.specs.Asking.{session_asking}
use Rattle.sheep_world.specs.HistoryAdditions.{added_by, has_begun_check_write, disk_of, reply_grown}
use Rattle.sheep_world.specs.NodeSteps.{progress_after_reply_in, progress_after_reply, world_after_step, node_stepped}
use Rattle.sheep_world.specs.ClientAsks.{next_ask_number}
use Rattle.sheep_world.specs.ClientSteps.{ask_begun, ask_effect}

-- ---- a request begins

module _ (number req : ℕ) where
  -- all of these replies are to the request
  abbrev pub AreToIt : List (ℕ × GuestRsp) → Type 0
  AreToIt [] = Unit {0}
  AreToIt (reply ∷ later) = (reply.0 ≡ req) × AreToIt later

  abbrev pub RepliesToIt : StepState → Type 0
  RepliesToIt so_far = AreToIt so_far.outputs.replies

  placed : (rsp : GuestRsp) (told : List (ℕ × GuestRsp)) → AreToIt told → AreToIt (replies_in_order (req, rsp) told)
  placed rsp [] are = (refl, tt)
  placed rsp (first ∷ later) are = by_test (placed rsp later are.1) (nat_lt req first.0)
    where
      by_test : AreToIt (replies_in_order (req, rsp) later) → (b : Bool)
          → AreToIt (cond b ((req, rsp) ∷ first ∷ later) (first ∷ replies_in_order (req, rsp) later))
      by_test behind true = (refl, are)
      by_test behind false = (are.0, behind)

  ended : (session : ℕ) (rsp : GuestRsp) (so_far : StepState) → RepliesToIt so_far → RepliesToIt (request_ended session req rsp so_far)
  unfolding request_ended
  ended session rsp so_far is = placed rsp so_far.outputs.replies is

  refused : (session : ℕ) (cause : Cause) (course : Course) (so_far : StepState) → RepliesToIt so_far
      → RepliesToIt (course_refused session req cause course so_far)
  refused session cause (Waiting ask) so_far is = is
  refused session cause (Driving driver) so_far is = ended session (replies.Refused cause) so_far is
  refused session cause (Commanding op) so_far is = by_end (on_refusal cause op)
    where
      by_end : (end : Option OpEnd) → RepliesToIt (command_refused session req end so_far)
      by_end None = is
      by_end (Some end) = ended session end.reply (with_optional_entry end.unlock so_far) is
  refused session cause (Checking check) so_far is = ended session (replies.Refused cause) so_far is
  refused session cause (DoingWork work) so_far is = ended session (replies.Refused cause) so_far is
  refused session cause (AwaitingDecision entry) so_far is = is

  -- the start of a work refuses no other request
  abbrev RefusesIt : Act → Type 0
  RefusesIt (acts.Refused work other cause) = other ≡ req
  RefusesIt _ = Unit {0}

  start_refuses : (work : ObjWork) (node : Node) → RefusesIt (start_of req work node).act
  unfolding start_step attempt_step
  start_refuses work node = by_zones (nat_lt (zone_count (members_at node.epochs node.peer.epoch)) (zones_for work)) (is_touched req node.gateway)
    where
      asked_work : Work
      asked_work = record { work = work; ended = 0; stage = Ended }

      epoch : Epoch
      epoch = record { 0 = node.peer.epoch }

      zones : ℕ
      zones = zone_count (members_at node.epochs node.peer.epoch)

      attempt : Attempt
      attempt = next_attempt asked_work node.sends epoch (targets_in node.epochs node.peer.epoch (oid_of work) (policy_of work))

      by_zones : (few touched : Bool) → RefusesIt (cond few
          (cond touched (waiting_step (with_work req (record asked_work { stage = WaitsForMembers epoch }) node.gateway))
          (refusal_step node.gateway req work (Halt zones (zones_for work))))
          (open_step node.gateway req asked_work attempt)).act
      by_zones true true = tt
      by_zones true false = refl
      by_zones false touched = tt

  started : (act : Act) (so_far : StepState) → RefusesIt act → RepliesToIt so_far → RepliesToIt (after_start number act so_far)
  started (acts.Send sends) so_far own is = is
  started acts.Wait so_far own is = is
  started (acts.Done work done) so_far own is = is
  started (acts.Refused work other cause) so_far own is =
      subst (λ (r : ℕ). RepliesToIt (after_start number (acts.Refused work r cause) so_far)) (sym own)
      (by_request (tree.get so_far.node.requests req))
    where
      by_request : (request : Option Request) → RepliesToIt (option_map_or
          (λ (request : Request). course_refused request.session req cause request.course (queue_left number work so_far)) request
          (queue_left number work so_far))
      by_request None = is
      by_request (Some request) = refused request.session cause request.course (queue_left number work so_far) is

  begun : (work : ObjWork) (so_far : StepState) → RepliesToIt so_far → RepliesToIt (work_begun number req work so_far)
  unfolding work_begun
  begun work so_far is =
      started (start_of req work so_far.node).act (with_gateway (start_of req work so_far.node).gateway so_far)
      (start_refuses work so_far.node) is

  asked : (work : ObjWork) (so_far : StepState) → RepliesToIt so_far → RepliesToIt (work_asked number req work so_far)
  unfolding work_asked
  asked work so_far is = by_test (may_open_work (session_in number so_far).inode_queue work)
    where
      opened : StepState
      opened = with_inode_queue number (queue_with_open (session_in number so_far).inode_queue req work) so_far

      lined : StepState
      lined = with_inode_queue number
          (queue_with_waiting (session_in number so_far).inode_queue req work) so_far

      by_test : (b : Bool) → RepliesToIt (cond b (work_begun number req work opened) lined)
      by_test true = begun work opened is
      by_test false = is

  -- ---- each course begins

  driven : (disk : Disk) (step : drivers.DriverStep) (so_far : StepState) → RepliesToIt so_far
      → RepliesToIt (driver_stepped number req disk step so_far)
  unfolding driver_stepped
  driven disk step so_far is = by_act step.act
    where
      moved : StepState
      moved = after_driver_step number req disk step so_far

      by_act : (act : DriverAct) → RepliesToIt (driver_acted number req act moved)
      by_act (driver_acts.Work work) = asked work moved is
      by_act (driver_acts.Reply rsp) = ended number rsp moved is

  commanded : (step : ops.OpStep) (so_far : StepState) → RepliesToIt so_far → RepliesToIt (command_stepped number req step so_far)
  unfolding command_stepped
  commanded step so_far is = by_act step.act
    where
      moved : StepState
      moved = after_command_step number req step so_far

      by_act : (act : OpAct) → RepliesToIt (command_acted number req act moved)
      by_act (op_acts.Append entry) = is
      by_act (op_acts.Work work) = asked work moved is
      by_act (op_acts.Reply rsp) = ended number rsp moved is

  checked : (step : checks.CheckStep) (so_far : StepState) → RepliesToIt so_far → RepliesToIt (check_stepped number req step so_far)
  unfolding check_stepped
  checked step so_far is = by_act step.act
    where
      moved : StepState
      moved = with_sole_request number req (Checking step.check) so_far

      by_act : (act : CheckAct) → RepliesToIt (check_acted number req act moved)
      by_act (check_acts.Work work) = asked work moved is
      by_act (check_acts.Reply found) = ended number (replies.Checked found) moved is

  -- ---- a guest's request comes

  waiting_begun : (ask : DiskAsk) (so_far : StepState) → RepliesToIt so_far → RepliesToIt (course_begun number req (Waiting ask) so_far)
  waiting_begun ask so_far is = by_test (may_run req (session_in number so_far).queue)
    where
      by_disk : (disk : Option Disk) → RepliesToIt (option_map_or
          (λ (disk : Disk). driver_stepped number req disk (drivers.begin_driver disk ask) so_far) disk so_far)
      by_disk None = is
      by_disk (Some disk) = driven disk (drivers.begin_driver disk ask) so_far is

      by_test : (b : Bool) → RepliesToIt (cond b (option_map_or
          (λ (disk : Disk). driver_stepped number req disk (drivers.begin_driver disk ask) so_far) (session_in number so_far).disk so_far)
          so_far)
      by_test true = by_disk (session_in number so_far).disk
      by_test false = is

  queued : (ask : DiskAsk) (disk : Option Disk) (so_far : StepState) → RepliesToIt so_far
      → RepliesToIt (with_queued_request number req ask disk so_far)
  queued ask None so_far is = is
  queued ask (Some disk) so_far is = is

  command_begun : (step : Option ops.OpStep) (so_far : StepState) → RepliesToIt so_far
      → RepliesToIt (option_map_or (λ (step : ops.OpStep). command_stepped number req step so_far) step so_far)
  command_begun None so_far is = is
  command_begun (Some step) so_far is = commanded step so_far is

  check_begun : (step : Option checks.CheckStep) (so_far : StepState) → RepliesToIt so_far
      → RepliesToIt (option_map_or (λ (step : checks.CheckStep). check_stepped number req step so_far) step so_far)
  check_begun None so_far is = is
  check_begun (Some step) so_far is = checked step so_far is

  abbrev first_step : VdiAsk → StepState → Option ops.OpStep
  first_step ask so_far = begin_command so_far.node.me number ask (inode_open (session_in number so_far).disk)

  command : (ask : VdiAsk) (so_far : StepState) → RepliesToIt so_far → RepliesToIt (command_taken number req ask so_far)
  command (Create name spec) so_far is = command_begun (first_step (Create name spec) so_far) so_far is
  command (Attach name tag) so_far is = command_begun (first_step (Attach name tag) so_far) so_far is
  command Close so_far is = command_begun (first_step Close so_far) so_far is
  command (Snapshot tag) so_far is = command_begun (first_step (Snapshot tag) so_far) so_far is
  command (Clone base tag name) so_far is = command_begun (first_step (Clone base tag name) so_far) so_far is
  command (Delete name tag) so_far is = command_begun (first_step (Delete name tag) so_far) so_far is
  command Check so_far is = check_begun (option_map checks.begin_check (inode_open (session_in number so_far).disk)) so_far is

  taken : (ask : Ask) (so_far : StepState) → RepliesToIt so_far → RepliesToIt (request_taken number req ask so_far)
  taken (asks.Disk ask) so_far is =
      let there : StepState = with_course number req (Waiting ask) so_far in
      waiting_begun ask (with_queued_request number req ask (session_in number so_far).disk there)
      (queued ask (session_in number so_far).disk there is)
  taken (asks.Vdi ask) so_far is = command ask so_far is
  taken (asks.Object work) so_far is = asked work (with_sole_request number req (DoingWork work) so_far) is
  taken (asks.Entry entry) so_far is = is

  come : (ask : Ask) (so_far : StepState) → RepliesToIt so_far → RepliesToIt (on_guest req number ask so_far)
  unfolding on_guest
  come ask so_far is = by_refusal (request_refusal so_far.node.peer (session_in number so_far).disk ask)
    where
      by_refusal : (cause : Option Cause) → RepliesToIt (request_taken_unless cause number req ask so_far)
      by_refusal None = taken ask so_far is
      by_refusal (Some cause) = placed (replies.Refused cause) so_far.outputs.replies is

  pub guest-replies : (ask : Ask) (node : Node) → RepliesToIt (node_step (inputs.Guest req number ask) node)
  unfolding node_step on_input recovered_put
  guest-replies ask node = by_due (is_due (on_guest req number ask (at_first node)).node)
    where
      by_due : (b : Bool) → RepliesToIt (cond b (with_recovered (on_guest req number ask (at_first node))) (on_guest req number ask (at_first node)))
      by_due true = come ask (at_first node) tt
      by_due false = come ask (at_first node) tt

-- ---- in the world

-- replies to a request that no script has are told to no session
module _ (statements : List Statement) (req : ℕ) (none : request_at statements req ≡ None) where
  untold : (guests : tree.FinMap nat_cmp SessionProgress) (reply : ℕ × GuestRsp) → reply.0 ≡ req
      → progress_after_reply statements guests reply ≡ guests
  untold guests reply own =
      ap (λ (asking : Option ℕ). progress_after_reply_in reply.0 asking guests)
      (ap (session_asking statements) own ∙ ap (λ (s : Option Statement). option_and_then session_of s) none)

  sessions_stay : (told : List (ℕ × GuestRsp)) (guests : tree.FinMap nat_cmp SessionProgress) → AreToIt 0 req told
      → fold (progress_after_reply statements) guests told ≡ guests
  sessions_stay [] guests are = refl
  sessions_stay (reply ∷ later) guests are =
      ap (λ (guests : tree.FinMap nat_cmp SessionProgress). fold (progress_after_reply statements) guests later) (untold guests reply are.0)
      ∙ sessions_stay later guests are.1

  -- and add nothing to the history
  adds_nothing : (world : World) (reply : ℕ × GuestRsp) → reply.0 ≡ req → reply_grown statements world None reply ≡ []
  adds_nothing world reply own =
      ap (added_by (has_begun_check_write statements reply.0 world None) reply.0 reply.1 (disk_of statements reply.0 world))
      (ap (request_at statements) own ∙ none)
      ∙ by_disk (disk_of statements reply.0 world)
    where
      by_disk : (disk : Option ℕ) → added_by (has_begun_check_write statements reply.0 world None) reply.0 reply.1 disk None ≡ []
      by_disk None = refl
      by_disk (Some disk) = refl

  pub none_grown : (world : World) (told : List (ℕ × GuestRsp)) → AreToIt 0 req told → flat_map (reply_grown statements world None) told ≡ []
  none_grown world [] are = refl
  none_grown world (reply ∷ later) are =
      ap (λ (first : List HistEvent). first ++ flat_map (reply_grown statements world None) later) (adds_nothing world reply are.0)
      ∙ none_grown world later are.1

-- so a client's read adds nothing to it
pub read-adds_nothing : (statements : List Statement) (world : World) (host : Host) (ask : Ask) → request_at statements (next_ask_number world) ≡ None
    → flat_map (reply_grown statements world None) (node_step (inputs.Guest (next_ask_number world) 0 ask) host.node).outputs.replies ≡ []
read-adds_nothing statements world host ask none =
    none_grown statements (next_ask_number world) none world
    (node_step (inputs.Guest (next_ask_number world) 0 ask) host.node).outputs.replies (guest-replies 0 (next_ask_number world) ask host.node)

none_of_no_script : (req : ℕ) → request_at [] req ≡ None
none_of_no_script zero = refl
none_of_no_script (suc place) = refl

-- a client's ask is the step that it would be with any script that has no request of its number
pub ask-by_script : (statements : List Statement) (node : ℕ) (ask : Ask) (world : World) → request_at statements (next_ask_number world) ≡ None
    → ask_effect node ask world ≡ node_stepped statements node (inputs.Guest (next_ask_number world) 0 ask) (ask_begun world)
unfolding ask_effect node_stepped
ask-by_script statements node ask world none = by_host (tree.get world.hosts node)
  where
    req : ℕ
    req = next_ask_number world

    begun : World
    begun = ask_begun world

    by_host : (host : Option Host)
        → option_map_or (λ (host : Host). world_after_step [] node (inputs.Guest req 0 ask) host (node_step (inputs.Guest req 0 ask) host.node) begun)
        host begun
        ≡ option_map_or
        (λ (host : Host). world_after_step statements node (inputs.Guest req 0 ask) host (node_step (inputs.Guest req 0 ask) host.node) begun)
        host begun
    by_host None = refl
    by_host (Some host) =
        let made : StepState = node_step (inputs.Guest req 0 ask) host.node in
        let own : AreToIt 0 req made.outputs.replies = guest-replies 0 req ask host.node in
        ap (λ (guests : tree.FinMap nat_cmp SessionProgress).
        record (world_after_step statements node (inputs.Guest req 0 ask) host made begun) { guests = guests })
        (sessions_stay [] req (none_of_no_script req) made.outputs.replies begun.guests own
        ∙ sym (sessions_stay statements req none made.outputs.replies begun.guests own))
