-- The write that a check comes to as a reply reaches its node: what the history has to say of it.
use Rattle.std.specs.Prelude.{ℕ, List, Option, None, if◌then◌else◌, nat_lt, Bool, false}
use Rattle.std.specs.FinMap as tree
use Rattle.object_id.specs.Oid.{object_number}
use Rattle.peer_proto.specs.declared.work.ObjWork.{ObjWork}
use Rattle.peer_proto.specs.declared.work.ObjWork.TheVariants.{Write}
use Rattle.peer_proto.specs.declared.work.WorkDone.{WorkDone}
use Rattle.gateway.specs.Outcomes.{work_done_in}
use Rattle.gateway.specs.State as gateways
use Rattle.gateway.specs.State.{Work}
use Rattle.gateway.specs.Step as gateway_steps
use Rattle.disk_check.specs.Check.{Check, is_comparing, value_written}
use Rattle.sheep_node.specs.declared.check_write.CheckWrite.{CheckWrite}
use Rattle.sheep_node.specs.declared.input.Input.{Input}
use Rattle.sheep_node.specs.declared.input.Input.TheVariants as inputs
use Rattle.sheep_node.specs.declared.course.Course.{Course}
use Rattle.sheep_node.specs.declared.course.Request.{Request}
use Rattle.sheep_node.specs.declared.course.Course.TheVariants.{Waiting, Driving, Commanding, Checking, DoingWork, AwaitingDecision}
use Rattle.sheep_node.specs.State.{Node}
use Rattle.std.specs.Option.{option_map, option_map_or, option_and_then}

-- the write by which a check, of the request of a number, writes a value over its disk's object of an index
abbrev pub write_of_value : ℕ → Check → ℕ × List ℕ → CheckWrite
write_of_value req check written =
    record { req = req; vid = record { 0 = check.vid }; spec = check.spec; index = written.0; value = written.1 }

-- the work that it is
abbrev pub work_of_write : CheckWrite → ObjWork
work_of_write write = Write (object_number write.vid.0 write.index) write.spec.policy 0 write.value

-- the write that a check comes to with the bytes that its work gave: that of the value of an object that was read from all targets
abbrev pub write_of_check : ℕ → List ℕ → Check → Option CheckWrite
write_of_check req bytes check = option_map (write_of_value req check) (value_written bytes check)

abbrev pub write_of_course : ℕ → List ℕ → Course → Option CheckWrite
write_of_course req bytes (Waiting ask) = None
write_of_course req bytes (Driving driver) = None
write_of_course req bytes (Commanding op) = None
write_of_course req bytes (Checking check) = write_of_check req bytes check
write_of_course req bytes (DoingWork work) = None
write_of_course req bytes (AwaitingDecision entry) = None

-- the one that a request comes to whose work is done
abbrev pub write_after_work : Node → WorkDone → Option CheckWrite
write_after_work node done =
    option_and_then (λ (request : Request). write_of_course done.req done.bytes request.course) (tree.get node.requests done.req)

-- the one that a node's check comes to by an input: by the last reply that a read of all targets waits for
unfoldable pub check_write_on : Input → Node → Option CheckWrite
check_write_on (inputs.Reply rsp) node =
    if gateways.fits_gateway rsp node.gateway
    then option_and_then (write_after_work node) (work_done_in (gateway_steps.gateway_on_reply node.gateway rsp).act)
    else None
check_write_on _ node = None

-- whether a request is a check that compares an own object: no other comes to a write
abbrev pub is_course_comparing : Course → Bool
is_course_comparing (Waiting ask) = false
is_course_comparing (Driving driver) = false
is_course_comparing (Commanding op) = false
is_course_comparing (Checking check) = is_comparing check
is_course_comparing (DoingWork work) = false
is_course_comparing (AwaitingDecision entry) = false

-- whether the request of a number is
abbrev pub is_request_comparing : Node → ℕ → Bool
is_request_comparing node req =
    option_map_or (λ (request : Request). is_course_comparing request.course) (tree.get node.requests req) false

-- whether the request that an unanswered message of its gateway belongs to is
abbrev pub is_message_comparing : Node → ℕ → Bool
is_message_comparing node number =
    option_map_or (is_request_comparing node) (option_map (λ (found : ℕ × Work). found.0) (gateways.asker number node.gateway)) false

-- whether a request has come to a write: a check has, once it has found an own object
abbrev pub has_course_written : Course → Bool
has_course_written (Waiting ask) = false
has_course_written (Driving driver) = false
has_course_written (Commanding op) = false
has_course_written (Checking check) = nat_lt 0 check.found.objects
has_course_written (DoingWork work) = false
has_course_written (AwaitingDecision entry) = false

-- whether the request of a number is a check that has
abbrev pub has_check_written : ℕ → Node → Bool
has_check_written req node = option_map_or (λ (request : Request). has_course_written request.course) (tree.get node.requests req) false
