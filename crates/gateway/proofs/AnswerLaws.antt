-- What an answer or a loss tells, by cases on the attempt.
use Rattle.std.proofs.Common.{◌≡◌, inl, inr, ℕ, ◌+◌, nat_le, ◌==◌, ◌&&◌, ◌||◌, not, Bool, true, false, cond, List, [], ◌∷◌, ◌++◌, map, flat_map, Option, Some, None, refl, ap, sym, ◌∙◌}
use Rattle.std.specs.List.{list_any, concat}
use Rattle.std.proofs.lemmas.List.Concat.{concat_is}
use Rattle.std.proofs.lemmas.Bool.{and_parts, leb-true, not-true}
use Rattle.std.proofs.lemmas.List.Sums.{AllPass-from_list_all}
use Rattle.object_id.specs.declared.cause.Cause.{Cause}
use Rattle.peer_proto.specs.declared.work.ObjWork.{ObjWork}
use Rattle.peer_proto.specs.declared.work.ObjWork.TheVariants.{Create, Write, Read, ReadAll}
use Rattle.gateway.specs.declared.message.Message.{Message}
use Rattle.gateway.specs.declared.message.Status.{Status}
use Rattle.gateway.specs.declared.message.Status.TheVariants.{Succeeded}
use Rattle.gateway.specs.Attempt.{Attempt, is_unanswered, is_success, is_awaited_message, messages_with_status, is_over, is_done, bytes_in, bytes_given, first_failure}
use Rattle.gateway.specs.State.{WorkStage, Open, Work, Gateway, is_touched, asker}
use Rattle.gateway.specs.Step.{with_work, waiting_step, done_step, refusal_after_attempt, failure_step, attempt_ended, attempt_continued, attempt_with_status, status_step_in, status_step_by, touched_by, message_ended}
use Rattle.gateway.specs.Outcomes.{HasEnough, Tells}

pub enough_from : (work : ObjWork) (messages : List Message) → is_done work messages ≡ true → HasEnough work messages
enough_from (Create oid policy size offset bytes) messages e = AllPass-from_list_all (λ (message : Message). is_success message.status) messages e
enough_from (Write oid policy offset bytes) messages e = AllPass-from_list_all (λ (message : Message). is_success message.status) messages e
enough_from (Read oid policy offset size) messages e = leb-true _ _ e
enough_from (ReadAll oid policy size) messages e = AllPass-from_list_all (λ (message : Message). is_success message.status) messages e

statuses_give : (messages : List Message)
    → flat_map (λ (message : Message). bytes_in message.status) messages
    ≡ flat_map bytes_in (map (λ (message : Message). message.status) messages)
statuses_give [] = refl
statuses_give (message ∷ messages) = ap (λ later. bytes_in message.status ++ later) (statuses_give messages)

successes_give : (pieces : List (List ℕ)) → flat_map bytes_in (map Succeeded pieces) ≡ flat_map (λ (piece : List ℕ). piece) pieces
successes_give [] = refl
successes_give (piece ∷ pieces) = ap (λ later. piece ++ later) (successes_give pieces)

-- what messages gave that all succeeded
pub pieces_given : (pieces : List (List ℕ)) (messages : List Message)
    → map (λ (message : Message). message.status) messages ≡ map Succeeded pieces
    → flat_map (λ (message : Message). bytes_in message.status) messages ≡ concat pieces
pieces_given pieces messages all =
    statuses_give messages ∙ ap (flat_map bytes_in) all ∙ successes_give pieces ∙ sym (concat_is pieces)

some_from : (b : Bool) (o : Option Cause) (cause : Cause) → cond b o None ≡ Some cause → (b ≡ true) × (o ≡ Some cause)
some_from true o cause e = (refl, e)
some_from false o cause e = absurd (cc)

failure_step-tells : (gateway : Gateway) (req : ℕ) (work : Work) (attempt : Attempt) → is_over attempt.messages ≡ true
    → is_done work.work attempt.messages ≡ false → (o : Option Cause) → refusal_after_attempt gateway req work.work (work.ended + 1) attempt ≡ o
    → Tells gateway req work attempt (failure_step gateway req work o).act
failure_step-tells gateway req work attempt over missing None e = inr ((over, missing), e)
failure_step-tells gateway req work attempt over missing (Some cause) e =
    let parts = some_from (nat_le gateway.tries (work.ended + 1) && not (is_touched req gateway))
    (first_failure work.work attempt.epoch attempt.messages) cause e in
    let both = and_parts (nat_le gateway.tries (work.ended + 1)) (not (is_touched req gateway)) parts.0 in
    (refl, refl, not-true (is_touched req gateway) both.1, (over, missing), leb-true _ _ both.0, parts.1)

attempt_ended-tells : (gateway : Gateway) (req : ℕ) (work : Work) (attempt : Attempt) → is_over attempt.messages ≡ true
    → (b : Bool) → is_done work.work attempt.messages ≡ b
    → Tells gateway req work attempt
    (cond b (done_step gateway req work.work (bytes_given work.work attempt.messages)) (failure_step gateway req work (refusal_after_attempt gateway req work.work (work.ended + 1) attempt))).act
attempt_ended-tells gateway req work attempt over true e = (refl, refl, over, enough_from work.work attempt.messages e, refl)
attempt_ended-tells gateway req work attempt over false e =
    failure_step-tells gateway req work attempt over e (refusal_after_attempt gateway req work.work (work.ended + 1) attempt) refl

went_on_if : (gateway : Gateway) (req : ℕ) (work : Work) (attempt : Attempt) (b : Bool) → is_over attempt.messages ≡ b
    → Tells gateway req work attempt
    (cond b (attempt_ended gateway req work attempt) (waiting_step (with_work req (record work { stage = Open attempt }) gateway))).act
unfolding attempt_ended
went_on_if gateway req work attempt true e =
    attempt_ended-tells gateway req work attempt e (is_done work.work attempt.messages) refl
went_on_if gateway req work attempt false e = inl e

pub attempt_continued-tells : (gateway : Gateway) (req : ℕ) (work : Work) (attempt : Attempt)
    → Tells gateway req work attempt (attempt_continued gateway req work attempt).act
unfolding attempt_continued
attempt_continued-tells gateway req work attempt = went_on_if gateway req work attempt (is_over attempt.messages) refl

stage_of : (gateway : Gateway) (req : ℕ) (work : Work) (number : ℕ) (status : Status) (attempt : Attempt) (stage : WorkStage)
    → stage ≡ Open attempt
    → status_step_in gateway req work number status stage ≡ attempt_continued gateway req work (attempt_with_status number status attempt)
stage_of gateway req work number status attempt stage e = ap (status_step_in gateway req work number status) e

-- an answer goes to the attempt that its message belongs to
pub message_ended-open : (gateway : Gateway) (req : ℕ) (work : Work) (number : ℕ) (status : Status) (attempt : Attempt)
    → asker number gateway ≡ Some (req, work) → work.stage ≡ Open attempt
    → message_ended gateway number status ≡ attempt_continued (touched_by req work.work status gateway) req work (attempt_with_status number status attempt)
unfolding message_ended
message_ended-open gateway req work number status attempt found open_is =
    ap (status_step_by gateway number status) found
    ∙ stage_of (touched_by req work.work status gateway) req work number status attempt work.stage open_is

pub message_ended-none : (gateway : Gateway) (number : ℕ) (status : Status) → asker number gateway ≡ None
    → message_ended gateway number status ≡ waiting_step gateway
unfolding message_ended
message_ended-none gateway number status none = ap (status_step_by gateway number status) none

marked_one : (number : ℕ) (status : Status) (message : Message) (b : Bool) → is_unanswered status ≡ false → (message.number == number) ≡ b
    → is_awaited_message number (cond b (record message { status = status }) message) ≡ false
marked_one number status message true settled e = ap (λ b. cond b (is_unanswered status) false) e ∙ settled
marked_one number status message false settled e = ap (λ b. cond b (is_unanswered message.status) false) e

-- what is known is waited for no more
pub messages_with_status-awaited : (number : ℕ) (status : Status) (messages : List Message) → is_unanswered status ≡ false
    → list_any (is_awaited_message number) (messages_with_status number status messages) ≡ false
messages_with_status-awaited number status [] settled = refl
messages_with_status-awaited number status (message ∷ messages) settled =
    ap (λ b. b || list_any (is_awaited_message number) (messages_with_status number status messages))
    (marked_one number status message (message.number == number) settled refl)
    ∙ messages_with_status-awaited number status messages settled
