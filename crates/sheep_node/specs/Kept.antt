-- How the code of a step goes about its parts.
use Rattle.std.specs.Prelude.{ℕ, nat_lt, Bool, true, false, ◌&&◌, if◌then◌else◌, Option, Some, None, is_some}
use Rattle.std.specs.Option.{option_map}
use Rattle.std.specs.FinMap as tree
use Rattle.object_id.specs.declared.cause.Cause.{Cause}
use Rattle.peer_proto.specs.declared.guest.DiskAsk.{DiskAsk}
use Rattle.peer_proto.specs.declared.guest.GuestRsp.{GuestRsp}
use Rattle.peer_proto.specs.declared.guest.GuestRsp.TheVariants.{Refused}
use Rattle.vdi_ops.specs.declared.end.OpEnd.{OpEnd}
use Rattle.vdi_ops.specs.Steps.{on_refusal}
use Rattle.sheep_node.specs.declared.course.Request.{Request}
use Rattle.sheep_node.specs.declared.course.Course.{Course}
use Rattle.sheep_node.specs.declared.course.Course.TheVariants.{Waiting, Driving, Commanding, Checking, DoingWork, AwaitingDecision}
use Rattle.gateway_queue.specs.Queue.{may_run}
use Rattle.vdi_directory.specs.declared.decision.Decision.{Decision}
use Rattle.sheep_node.specs.StepState.{StepState, session_in}
use Rattle.sheep_node.specs.LogReading.{decision_told}

-- the session of a number is taken out, to be put back
abbrev pub without_session : ℕ → StepState → StepState
without_session number so_far = record so_far { node = record so_far.node { sessions = tree.remove so_far.node.sessions number } }

-- a request is taken out, to be put back
abbrev pub step_without : ℕ → StepState → StepState
step_without req so_far = record so_far { node = record so_far.node { requests = tree.remove so_far.node.requests req } }

-- whether a reply stands behind one to this request
abbrev pub is_reply_behind : ℕ → ℕ × GuestRsp → Bool
is_reply_behind req reply = nat_lt req reply.0

-- how a request ends whose work is refused; none where it has no work
abbrev pub end_on_refusal : Cause → Course → Option OpEnd
end_on_refusal cause (Waiting ask) = None
end_on_refusal cause (Driving driver) = Some (record { unlock = None; reply = Refused cause })
end_on_refusal cause (Commanding op) = on_refusal cause op
end_on_refusal cause (Checking check) = Some (record { unlock = None; reply = Refused cause })
end_on_refusal cause (DoingWork work) = Some (record { unlock = None; reply = Refused cause })
end_on_refusal cause (AwaitingDecision entry) = None

-- the session of a request that was looked up, and how it ends so
abbrev pub end_of_refused : Cause → Option Request → Option (ℕ × OpEnd)
end_of_refused cause None = None
end_of_refused cause (Some request) = option_map (λ (end : OpEnd). (request.session, end)) (end_on_refusal cause request.course)

-- whether a request waits for its turn
abbrev pub waits_for_turn : Course → Bool
waits_for_turn (Waiting ask) = true
waits_for_turn (Driving driver) = false
waits_for_turn (Commanding op) = false
waits_for_turn (Checking check) = false
waits_for_turn (DoingWork work) = false
waits_for_turn (AwaitingDecision entry) = false

-- what a request that was looked up asks for, if it waits for its turn
abbrev pub ask_in_waiting : Course → Option DiskAsk
ask_in_waiting (Waiting ask) = Some ask
ask_in_waiting (Driving driver) = None
ask_in_waiting (Commanding op) = None
ask_in_waiting (Checking check) = None
ask_in_waiting (DoingWork work) = None
ask_in_waiting (AwaitingDecision entry) = None

abbrev pub ask_of_waiting : Option Request → Option DiskAsk
ask_of_waiting None = None
ask_of_waiting (Some request) = ask_in_waiting request.course

-- the session of a request that was looked up, if it waits and its turn has come, and the session has a disk open
abbrev pub turn_of : ℕ → Option Request → StepState → Option ℕ
turn_of req None so_far = None
turn_of req (Some request) so_far =
    if waits_for_turn request.course
    && (may_run req (session_in request.session so_far).queue && is_some (session_in request.session so_far).disk)
    then Some request.session else None

-- a decision is told to the request of a number, if it was looked up
abbrev pub told_at : ℕ → Decision → Option Request → StepState → StepState
told_at req decision request so_far = decision_told decision (option_map (λ (request : Request). (req, request)) request) so_far

-- to the request of this number, if there is a number
abbrev pub told_if_asked : Option ℕ → Decision → StepState → StepState
told_if_asked None decision so_far = so_far
told_if_asked (Some req) decision so_far = told_at req decision (tree.get so_far.node.requests req) so_far
