-- The steps of a gateway: a work starts, a message is answered or lost, a work is tried again, a request ends.
use Rattle.std.specs.Prelude.{ℕ, ◌+◌, nat_lt, nat_le, not, ◌&&◌, List, map, Option, Some, None, if◌then◌else◌}
use Rattle.std.specs.FinMap as tree
use Rattle.std.specs.FinSet as set
use Rattle.object_id.specs.declared.cause.Cause.{Cause}
use Rattle.object_id.specs.declared.cause.Cause.TheVariants.{Halt}
use Rattle.object_id.specs.declared.node.Epoch.{Epoch}
use Rattle.object_id.specs.declared.node.NodeId.{NodeId}
use Rattle.hash_ring.specs.Placement.{zone_count}
use Rattle.vnode_table.specs.Epochs.{EpochMembers, members_at}
use Rattle.vnode_table.specs.Targets.{targets_in}
use Rattle.peer_proto.specs.declared.work.ObjWork.{ObjWork}
use Rattle.peer_proto.specs.declared.say.PeerRsp.{PeerRsp}
use Rattle.gateway.specs.declared.act.Act.{Act}
use Rattle.gateway.specs.declared.act.Act.TheVariants as acts
use Rattle.gateway.specs.declared.message.Status.{Status}
use Rattle.gateway.specs.declared.message.Status.TheVariants as statuses
use Rattle.peer_proto.specs.Work.{oid_of, policy_of}
use Rattle.gateway.specs.Work.{is_making, zones_for}
use Rattle.gateway.specs.Attempt.{Attempt, messages_of, send_of, may_be_made, status_by, messages_with_status, is_over, is_done}
use Rattle.gateway.specs.Attempt.{bytes_given, first_failure}
use Rattle.gateway.specs.State.{WorkStage, Open, Ended, WaitsForMembers, Work, Gateway, is_touched, asker, next_try}

-- the gateway after a step, and what the step comes to
pub record GatewayStep : Type 0 where
  pub gateway : Gateway
  pub act : Act

-- the request's work stands so
abbrev pub with_work : ℕ → Work → Gateway → Gateway
with_work req work gateway = record gateway { works = tree.insert gateway.works req work }

-- the request has no open work any more
abbrev pub without_work : ℕ → Gateway → Gateway
without_work req gateway = record gateway { works = tree.remove gateway.works req }

-- nothing is sent, and nothing told
abbrev pub waiting_step : Gateway → GatewayStep
waiting_step gateway = record { gateway = gateway; act = acts.Wait }

-- the request's work ends, and the request is refused for a cause
abbrev pub refusal_step : Gateway → ℕ → ObjWork → Cause → GatewayStep
refusal_step gateway req work cause = record { gateway = without_work req gateway; act = acts.Refused work req cause }

-- the request's work is done, and gave these bytes
abbrev pub done_step : Gateway → ℕ → ObjWork → List ℕ → GatewayStep
done_step gateway req work bytes =
    record { gateway = without_work req gateway; act = acts.Done work (record { req = req; bytes = bytes }) }

-- for want of members an untouched request is refused, and a touched one waits for a later epoch
abbrev pub halt_step : Gateway → ℕ → Work → Epoch → ℕ → GatewayStep
halt_step gateway req work epoch zones =
    if is_touched req gateway
    then waiting_step (with_work req (record work { stage = WaitsForMembers epoch }) gateway)
    else refusal_step gateway req work.work (Halt zones (zones_for work.work))

-- an attempt of these messages is open, and they are sent
abbrev pub open_step : Gateway → ℕ → Work → Attempt → GatewayStep
open_step gateway req work attempt = record {
  gateway = with_work req (record work { stage = Open attempt }) gateway;
  act = acts.Send (record { list = map (send_of gateway.me attempt.epoch work.work) attempt.messages });
}

-- the next attempt of a work, in an epoch and to these targets
abbrev pub next_attempt : Work → ℕ → Epoch → List NodeId → Attempt
next_attempt work first epoch targets =
    record { epoch = epoch; messages = messages_of work.work work.ended first targets }

-- an attempt begins in an epoch whose members have as many zones as it has to begin in
unfoldable pub attempt_step : List EpochMembers → Gateway → ℕ → Work → ℕ → Epoch → GatewayStep
attempt_step epochs gateway req work first epoch =
    if nat_lt (zone_count (members_at epochs epoch.0)) (zones_for work.work)
    then halt_step gateway req work epoch (zone_count (members_at epochs epoch.0))
    else
    open_step gateway req work
    (next_attempt work first epoch (targets_in epochs epoch.0 (oid_of work.work) (policy_of work.work)))

-- a request's work begins with its first attempt
unfoldable pub start_step : List EpochMembers → Gateway → ℕ → ObjWork → ℕ → Epoch → GatewayStep
start_step epochs gateway req work first epoch =
    attempt_step epochs gateway req (record { work = work; ended = 0; stage = Ended }) first epoch

-- the work that was found is tried again
abbrev pub retry_step_of : List EpochMembers → Gateway → ℕ → Epoch → Option (ℕ × Work) → GatewayStep
retry_step_of epochs gateway first epoch None = waiting_step gateway
retry_step_of epochs gateway first epoch (Some found) = attempt_step epochs gateway found.0 found.1 first epoch

-- of the works that may be tried that of the smallest request is tried again
unfoldable pub retry_step : List EpochMembers → Gateway → ℕ → Epoch → GatewayStep
retry_step epochs gateway first epoch = retry_step_of epochs gateway first epoch (next_try epoch gateway)

-- a message of the request's work that may have been made touches the request, where the work makes something
abbrev pub touched_by : ℕ → ObjWork → Status → Gateway → Gateway
touched_by req work status gateway = record gateway {
  touched = if is_making work && may_be_made status then set.insert gateway.touched req else gateway.touched;
}

-- why a request is refused when an attempt has ended, not done, as the work's attempt of this number: it is untouched,
-- and has been tried as often as it may
abbrev pub refusal_after_attempt : Gateway → ℕ → ObjWork → ℕ → Attempt → Option Cause
refusal_after_attempt gateway req work number attempt =
    if nat_le gateway.tries number && not (is_touched req gateway)
    then first_failure work attempt.epoch attempt.messages
    else None

-- the request is refused, or its work waits for its next attempt
abbrev pub failure_step : Gateway → ℕ → Work → Option Cause → GatewayStep
failure_step gateway req work None = waiting_step (with_work req (record work { ended = work.ended + 1; stage = Ended }) gateway)
failure_step gateway req work (Some cause) = refusal_step gateway req work.work cause

-- an attempt has ended
unfoldable pub attempt_ended : Gateway → ℕ → Work → Attempt → GatewayStep
attempt_ended gateway req work attempt =
    if is_done work.work attempt.messages
    then done_step gateway req work.work (bytes_given work.work attempt.messages)
    else failure_step gateway req work (refusal_after_attempt gateway req work.work (work.ended + 1) attempt)

-- an attempt goes on as long as one of its messages is unanswered
unfoldable pub attempt_continued : Gateway → ℕ → Work → Attempt → GatewayStep
attempt_continued gateway req work attempt =
    if is_over attempt.messages
    then attempt_ended gateway req work attempt
    else waiting_step (with_work req (record work { stage = Open attempt }) gateway)

-- a message of an attempt is known to have come to this
abbrev pub attempt_with_status : ℕ → Status → Attempt → Attempt
attempt_with_status number status attempt = record attempt { messages = messages_with_status number status attempt.messages }

-- what a message came to is known in a work, by where that stands
abbrev pub status_step_in : Gateway → ℕ → Work → ℕ → Status → WorkStage → GatewayStep
status_step_in gateway req work number status (Open attempt) =
    attempt_continued gateway req work (attempt_with_status number status attempt)
status_step_in gateway req work number status Ended = waiting_step gateway
status_step_in gateway req work number status (WaitsForMembers epoch) = waiting_step gateway

-- it is known for the request, with its work, that the message belongs to; a number of no unanswered message says nothing
abbrev pub status_step_by : Gateway → ℕ → Status → Option (ℕ × Work) → GatewayStep
status_step_by gateway number status None = waiting_step gateway
status_step_by gateway number status (Some found) =
    status_step_in (touched_by found.0 found.1.work status gateway) found.0 found.1 number status found.1.stage

-- what a message came to is known
unfoldable pub message_ended : Gateway → ℕ → Status → GatewayStep
message_ended gateway number status = status_step_by gateway number status (asker number gateway)

-- a reply comes
abbrev pub gateway_on_reply : Gateway → PeerRsp → GatewayStep
gateway_on_reply gateway rsp = message_ended gateway rsp.number (status_by rsp.say)

-- a message, or the reply to it, was lost
abbrev pub gateway_on_loss : Gateway → ℕ → GatewayStep
gateway_on_loss gateway number = message_ended gateway number statuses.Lost

-- a request was answered: one that gets its number later is untouched
abbrev pub without_touch : ℕ → Gateway → Gateway
without_touch req gateway = record gateway { touched = set.remove gateway.touched req }
