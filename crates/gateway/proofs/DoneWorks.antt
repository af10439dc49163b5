-- Whether a work is done by what one message came to, and what it gives then.
use Rattle.std.proofs.Common.{◌≡◌, ℕ, ◌+◌, ◌==◌, ◌&&◌, ◌||◌, not, Bool, true, false, cond, List, [], ◌∷◌, Option, Some, None, refl, ap, ap₂, ◌∙◌}
use Rattle.std.specs.List.{list_any, list_all}
use Rattle.std.specs.Option.{option_map}
use Rattle.object_id.specs.declared.cause.Cause.{Cause}
use Rattle.peer_proto.specs.declared.work.ObjWork.{ObjWork}
use Rattle.peer_proto.specs.declared.work.ObjWork.TheVariants.{Create, Write, Read, ReadAll}
use Rattle.gateway.specs.declared.message.Message.{Message}
use Rattle.gateway.specs.declared.message.Status.{Status}
use Rattle.gateway.specs.Attempt.{Attempt, is_unanswered, is_success, messages_with_status, is_over, is_done, bytes_given}
use Rattle.gateway.specs.State.{WorkStage, Open, Ended, WaitsForMembers, Work, Gateway, asker}
use Rattle.gateway.specs.Step.{with_work, waiting_step, done_step, failure_step, attempt_with_status, attempt_ended, attempt_continued, touched_by, refusal_after_attempt, status_step_in, status_step_by, message_ended}
use Rattle.gateway.specs.Outcomes.{work_done_in}
use Rattle.gateway.specs.Kept.{stage_with_status, bytes_if_done, bytes_if_done_at, work_done_of, work_if_done, succeeds_with, is_answered_with, may_be_done, may_be_done_at, may_be_done_by}

-- ---- what the step tells done

done-failed : (gateway : Gateway) (req : ℕ) (work : Work) (cause : Option Cause) → work_done_in (failure_step gateway req work cause).act ≡ None
done-failed gateway req work None = refl
done-failed gateway req work (Some cause) = refl

done-continued : (gateway : Gateway) (req : ℕ) (work : Work) (attempt : Attempt)
    → work_done_in (attempt_continued gateway req work attempt).act
    ≡ option_map (work_done_of req) (bytes_if_done work.work attempt.messages)
unfolding attempt_continued attempt_ended
done-continued gateway req work attempt = by_ends (is_over attempt.messages) (is_done work.work attempt.messages)
  where
    given : List ℕ
    given = bytes_given work.work attempt.messages

    by_ends : (over done : Bool) → work_done_in (cond over
        (cond done (done_step gateway req work.work given)
        (failure_step gateway req work (refusal_after_attempt gateway req work.work (work.ended + 1) attempt)))
        (waiting_step (with_work req (record work { stage = Open attempt }) gateway))).act
        ≡ option_map (work_done_of req) (cond (over && done) (Some given) None)
    by_ends false done = refl
    by_ends true true = refl
    by_ends true false = done-failed gateway req work (refusal_after_attempt gateway req work.work (work.ended + 1) attempt)

pub work_done-is : (gateway : Gateway) (number : ℕ) (status : Status)
    → work_done_in (message_ended gateway number status).act ≡ work_if_done number status (asker number gateway)
unfolding message_ended
work_done-is gateway number status = by_asker (asker number gateway)
  where
    by_stage : (touched : Gateway) (req : ℕ) (work : Work) (stage : WorkStage)
        → work_done_in (status_step_in touched req work number status stage).act
        ≡ option_map (work_done_of req) (bytes_if_done_at work.work (stage_with_status number status stage))
    by_stage touched req work (Open attempt) = done-continued touched req work (attempt_with_status number status attempt)
    by_stage touched req work Ended = refl
    by_stage touched req work (WaitsForMembers epoch) = refl

    by_asker : (found : Option (ℕ × Work)) → work_done_in (status_step_by gateway number status found).act ≡ work_if_done number status found
    by_asker None = refl
    by_asker (Some found) = by_stage (touched_by found.0 found.1.work status gateway) found.0 found.1 found.1.stage

-- ---- a work that may not be done isn't

succeed-with : (number : ℕ) (status : Status) (messages : List Message)
    → list_all (λ (message : Message). is_success message.status) (messages_with_status number status messages)
    ≡ list_all (succeeds_with number (is_success status)) messages
succeed-with number status [] = refl
succeed-with number status (message ∷ messages) =
    ap₂ (λ (first later : Bool). first && later) (by_number (message.number == number)) (succeed-with number status messages)
  where
    by_number : (b : Bool) → is_success (cond b (record message { status = status }) message).status ≡ cond b (is_success status) (is_success message.status)
    by_number true = refl
    by_number false = refl

not_over : (number : ℕ) (status : Status) (messages : List Message) → list_all (is_answered_with number) messages ≡ false
    → is_over (messages_with_status number status messages) ≡ false
not_over number status [] none = absurd (cc (none))
not_over number status (message ∷ messages) none =
    by_message (message.number == number) (is_unanswered message.status) refl none (not_over number status messages)
  where
    later : Bool
    later = list_any (λ (message : Message). is_unanswered message.status) (messages_with_status number status messages)

    behind : (b : Bool) → not later ≡ false → not (b || later) ≡ false
    behind true is = refl
    behind false is = is

    by_message : (b unanswered : Bool) → is_unanswered message.status ≡ unanswered
        → (cond b true (not unanswered) && list_all (is_answered_with number) messages) ≡ false
        → (list_all (is_answered_with number) messages ≡ false → not later ≡ false)
        → not (is_unanswered (cond b (record message { status = status }) message).status || later) ≡ false
    by_message true unanswered is none rest = behind (is_unanswered status) (rest none)
    by_message false true is none rest = ap (λ (b : Bool). not (b || later)) is
    by_message false false is none rest = ap (λ (b : Bool). not (b || later)) is ∙ rest none

none-if_failed : (work : ObjWork) (messages : List Message) → is_done work messages ≡ false → bytes_if_done work messages ≡ None
none-if_failed work messages is =
    ap (λ (done : Bool). cond (is_over messages && done) (Some (bytes_given work messages)) None) is ∙ either (is_over messages)
  where
    either : (over : Bool) → cond (over && false) (Some (bytes_given work messages)) None ≡ None
    either true = refl
    either false = refl

none-if_not : (work : ObjWork) (number : ℕ) (status : Status) (messages : List Message)
    → may_be_done work number (is_success status) messages ≡ false → bytes_if_done work (messages_with_status number status messages) ≡ None
none-if_not (Create oid policy size offset bytes) number status messages may =
    none-if_failed (Create oid policy size offset bytes) (messages_with_status number status messages) (succeed-with number status messages ∙ may)
none-if_not (Write oid policy offset bytes) number status messages may =
    none-if_failed (Write oid policy offset bytes) (messages_with_status number status messages) (succeed-with number status messages ∙ may)
none-if_not (Read oid policy offset size) number status messages may =
    let told : List Message = messages_with_status number status messages in
    ap (λ (over : Bool). cond (over && is_done (Read oid policy offset size) told) (Some (bytes_given (Read oid policy offset size) told)) None)
    (not_over number status messages may)
none-if_not (ReadAll oid policy size) number status messages may =
    none-if_failed (ReadAll oid policy size) (messages_with_status number status messages) (succeed-with number status messages ∙ may)

pub work_done-none : (gateway : Gateway) (number : ℕ) (status : Status) → may_be_done_by number (is_success status) (asker number gateway) ≡ false
    → work_done_in (message_ended gateway number status).act ≡ None
work_done-none gateway number status may = work_done-is gateway number status ∙ by_asker (asker number gateway) may
  where
    by_stage : (req : ℕ) (work : ObjWork) (stage : WorkStage) → may_be_done_at number (is_success status) work stage ≡ false
        → option_map (work_done_of req) (bytes_if_done_at work (stage_with_status number status stage)) ≡ None
    by_stage req work (Open attempt) may =
        ap (option_map (work_done_of req)) (none-if_not work number status attempt.messages may)
    by_stage req work Ended may = refl
    by_stage req work (WaitsForMembers epoch) may = refl

    by_asker : (found : Option (ℕ × Work)) → may_be_done_by number (is_success status) found ≡ false → work_if_done number status found ≡ None
    by_asker None may = refl
    by_asker (Some found) may = by_stage found.0 found.1.work found.1.stage may
