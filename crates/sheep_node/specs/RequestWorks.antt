-- The works of requests at the gateway: one begins, or waits in its session's line; and how a request ends whose work is refused.
use Rattle.std.specs.Prelude.{ℕ, Option, Some, None, if◌then◌else◌}
use Rattle.std.specs.Option.{option_map_or}
use Rattle.std.specs.FinMap as tree
use Rattle.object_id.specs.declared.cause.Cause.{Cause}
use Rattle.peer_proto.specs.declared.work.ObjWork.{ObjWork}
use Rattle.peer_proto.specs.declared.guest.GuestRsp.TheVariants.{Refused}
use Rattle.gateway.specs.declared.act.Act.{Act}
use Rattle.gateway.specs.declared.act.Act.TheVariants as acts
use Rattle.gateway.specs.Step as gateways
use Rattle.guest_driver.specs.InodeQueue.{may_open_work, queue_with_open, queue_with_waiting, queue_after_end}
use Rattle.vdi_ops.specs.declared.end.OpEnd.{OpEnd}
use Rattle.vdi_ops.specs.Steps.{on_refusal}
use Rattle.sheep_node.specs.declared.course.Course.{Course}
use Rattle.sheep_node.specs.declared.course.Request.{Request}
use Rattle.sheep_node.specs.declared.course.Course.TheVariants.{Waiting, Driving, Commanding, Checking, DoingWork, AwaitingDecision}
use Rattle.sheep_node.specs.State.{Node}
use Rattle.sheep_node.specs.StepState.{StepState, with_sends, with_optional_entry, with_gateway, session_in, with_inode_queue}
use Rattle.sheep_node.specs.StepState.{request_ended}

-- a command ends with the refusal of its work: the granted id is given back by an entry in the outbox
abbrev pub command_refused : ℕ → ℕ → Option OpEnd → StepState → StepState
command_refused number req None so_far = so_far
command_refused number req (Some end) so_far = request_ended number req end.reply (with_optional_entry end.unlock so_far)

-- a request ends with the refusal of its work; one that waits for its turn, or for a decision, has none
abbrev pub course_refused : ℕ → ℕ → Cause → Course → StepState → StepState
course_refused number req cause (Waiting ask) so_far = so_far
course_refused number req cause (Driving driver) so_far = request_ended number req (Refused cause) so_far
course_refused number req cause (Commanding op) so_far = command_refused number req (on_refusal cause op) so_far
course_refused number req cause (Checking check) so_far = request_ended number req (Refused cause) so_far
course_refused number req cause (DoingWork work) so_far = request_ended number req (Refused cause) so_far
course_refused number req cause (AwaitingDecision entry) so_far = so_far

-- a work of the session has ended, and leaves the line
abbrev pub queue_left : ℕ → ObjWork → StepState → StepState
queue_left number work so_far = with_inode_queue number (queue_after_end (session_in number so_far).inode_queue work) so_far

-- what the start of a work comes to: it is sent, or for want of members waits or is refused; it isn't done at once
abbrev pub after_start : ℕ → Act → StepState → StepState
after_start number (acts.Send sends) so_far = with_sends sends.list so_far
after_start number acts.Wait so_far = so_far
after_start number (acts.Done work done) so_far = so_far
after_start number (acts.Refused work req cause) so_far =
    option_map_or (λ (request : Request). course_refused request.session req cause request.course (queue_left number work so_far))
    (tree.get so_far.node.requests req) (queue_left number work so_far)

-- how the gateway starts a work: in the node's epoch, its messages numbered from the count of sends
abbrev pub start_of : ℕ → ObjWork → Node → gateways.GatewayStep
start_of req work node =
    gateways.start_step node.epochs node.gateway req work node.sends (record { 0 = node.peer.epoch })

-- a request's work begins
unfoldable pub work_begun : ℕ → ℕ → ObjWork → StepState → StepState
work_begun number req work so_far =
    after_start number (start_of req work so_far.node).act (with_gateway (start_of req work so_far.node).gateway so_far)

-- a request comes to a work: that begins, or waits in the session's line
unfoldable pub work_asked : ℕ → ℕ → ObjWork → StepState → StepState
work_asked number req work so_far =
    if may_open_work (session_in number so_far).inode_queue work
    then work_begun number req work (with_inode_queue number (queue_with_open (session_in number so_far).inode_queue req work) so_far)
    else with_inode_queue number (queue_with_waiting (session_in number so_far).inode_queue req work) so_far
