-- What waited begins in the step that ends its waiting: first the request whose work ended goes on, then a work that waits
-- for the inode begins, then the session's reads and writes that wait.
use Rattle.std.specs.Prelude.{ℕ, List, map, fold, Option, Some, None, if◌then◌else◌}
use Rattle.std.specs.Option.{option_map_or}
use Rattle.std.specs.FinMap as tree
use Rattle.object_id.specs.declared.cause.Cause.{Cause}
use Rattle.peer_proto.specs.declared.work.ObjWork.{ObjWork}
use Rattle.gateway.specs.declared.act.Act.{Act}
use Rattle.gateway.specs.declared.act.Act.TheVariants as acts
use Rattle.gateway.specs.Step as gateway_steps
use Rattle.gateway_queue.specs.declared.queue.Queued.{Queued}
use Rattle.gateway_queue.specs.Queue.{may_run}
use Rattle.guest_driver.specs.declared.disk.Disk.{Disk}
use Rattle.guest_driver.specs.Driver.{begin_driver}
use Rattle.guest_driver.specs.InodeQueue as lines
use Rattle.guest_driver.specs.InodeQueue.{next_work, queue_after_start}
use Rattle.sheep_node.specs.declared.course.Course.{Course}
use Rattle.sheep_node.specs.declared.course.Request.{Request}
use Rattle.sheep_node.specs.declared.session.Session.{Session}
use Rattle.sheep_node.specs.declared.course.Course.TheVariants.{Waiting, Driving, Commanding, Checking, DoingWork, AwaitingDecision}
use Rattle.sheep_node.specs.StepState.{StepState, with_sends, with_gateway, session_in, with_inode_queue}
use Rattle.sheep_node.specs.RequestWorks.{course_refused, queue_left, work_begun}
use Rattle.sheep_node.specs.Courses.{driver_stepped, course_went_on}

-- the work that waits for the inode, if there is one, begins. It is of a touched request, since its object was created
-- before, so it is sent or waits for members, and is never refused here
abbrev pub next_begun : ℕ → Option lines.Waiting → StepState → StepState
next_begun number None so_far = so_far
next_begun number (Some waiting) so_far =
    work_begun number waiting.req waiting.work (with_inode_queue number (queue_after_start (session_in number so_far).inode_queue) so_far)

-- a read or write that waits for its turn begins, if no earlier one has an object in common with it
abbrev pub course_begun : ℕ → ℕ → Course → StepState → StepState
course_begun number req (Waiting ask) so_far =
    if may_run req (session_in number so_far).queue
    then option_map_or (λ (disk : Disk). driver_stepped number req disk (begin_driver disk ask) so_far)
    (session_in number so_far).disk so_far
    else so_far
course_begun number req (Driving driver) so_far = so_far
course_begun number req (Commanding op) so_far = so_far
course_begun number req (Checking check) so_far = so_far
course_begun number req (DoingWork work) so_far = so_far
course_begun number req (AwaitingDecision entry) so_far = so_far

-- a request, as it is by now, begins if it is there and waits
abbrev pub begun_if_may : StepState → ℕ → StepState
begun_if_may so_far req =
    option_map_or (λ (request : Request). course_begun request.session req request.course so_far) (tree.get so_far.node.requests req) so_far

-- requests in one pass, in this order; one that ends at once may let later ones begin
unfoldable pub passed_over : List ℕ → StepState → StepState
passed_over reqs so_far = fold begun_if_may so_far reqs

-- the numbers of a session's reads and writes without reply, as they came
abbrev pub queued_requests : Session → List ℕ
queued_requests session = map (λ (queued : Queued). queued.req) session.queue

-- what waited in the session begins
unfoldable pub let_begin : ℕ → StepState → StepState
let_begin number so_far =
    passed_over (queued_requests (session_in number so_far))
    (next_begun number (next_work (session_in number so_far).inode_queue) so_far)

-- a request goes on with what its work gave
abbrev pub work_done : ObjWork → ℕ → List ℕ → Option Request → StepState → StepState
work_done work req bytes None so_far = so_far
work_done work req bytes (Some request) so_far =
    let_begin request.session (course_went_on request.session req bytes request.course (queue_left request.session work so_far))

-- a request ends, since its work is refused
abbrev pub work_refused : ObjWork → ℕ → Cause → Option Request → StepState → StepState
work_refused work req cause None so_far = so_far
work_refused work req cause (Some request) so_far =
    let_begin request.session (course_refused request.session req cause request.course (queue_left request.session work so_far))

-- what an act of the gateway comes to
abbrev pub after_act : Act → StepState → StepState
after_act (acts.Send sends) so_far = with_sends sends.list so_far
after_act acts.Wait so_far = so_far
after_act (acts.Done work done) so_far = work_done work done.req done.bytes (tree.get so_far.node.requests done.req) so_far
after_act (acts.Refused work req cause) so_far = work_refused work req cause (tree.get so_far.node.requests req) so_far

-- a step of the gateway, and what comes of it
unfoldable pub after_gateway_step : gateway_steps.GatewayStep → StepState → StepState
after_gateway_step step so_far = after_act step.act (with_gateway step.gateway so_far)
