-- What always holds of a work still holds when one of its messages has ended, and what its attempt comes to.
use Rattle.std.proofs.Common.{◌≡◌, ℕ, ◌+◌, ◌<◌, ◌-◌, ◌^◌, ◌≤◌, ◌&&◌, not, nat_le, Bool, true, false, cond, List, Option, Some, None, IfSome, refl, sym, ap, subst, ◌∙◌}
use Rattle.std.specs.List.{list_any}
use Rattle.object_id.specs.declared.cause.Cause.{Cause}
use Rattle.peer_proto.specs.declared.work.ObjWork.{ObjWork}
use Rattle.peer_proto.specs.Work.{IsWork}
use Rattle.gateway.specs.declared.act.Act.{Act}
use Rattle.gateway.specs.declared.message.Message.{Message}
use Rattle.gateway.specs.declared.message.Status.{Status}
use Rattle.gateway.specs.declared.message.Status.TheVariants.{Unanswered}
use Rattle.gateway.specs.declared.outcome.Outcome.{Outcome}
use Rattle.gateway.specs.declared.outcome.Outcome.TheVariants as outcomes
use Rattle.gateway.specs.Attempt.{Attempt, is_awaited_message, is_over, is_done, bytes_given, first_failure}
use Rattle.gateway.specs.State.{WorkStage, Open, Ended, WaitsForMembers, Work, is_awaited_in}
use Rattle.gateway.specs.Messages.{IsPieceFor, AreMessagesFor}
use Rattle.gateway.specs.Stage.{IsStageFor, IsOpenWork, IsOpenStage}
use Rattle.gateway.specs.Outcomes.{GivesItsBytes}
use Rattle.gateway.specs.Kept.{Works, stage_with_status, work_with_status, failure_outcome, outcome_at, act_by, MessageEnds}
use Rattle.gateway.proofs.LengthLaws.{length-bytes_given}
use Rattle.gateway.proofs.MessageLemmas.{AreMessagesFor-with_status, taken_back}

module _ {X : Type 0} where
  pub if_none : (o : Option X) (P : X → Type 0) → o ≡ None → IfSome o P
  if_none None P is = tt
  if_none (Some x) P is = absurd (cc (is))

  pub if_some : (o : Option X) (P : X → Type 0) (x : X) → o ≡ Some x → P x → IfSome o P
  if_some o P x is p = subst (λ q. IfSome q P) (sym is) p

  pub some_if : (o : Option X) (P : X → Type 0) (x : X) → o ≡ Some x → IfSome o P → P x
  some_if o P x is p = subst (λ q. IfSome q P) is p

IsStageOf-with_status : (work : ObjWork) (ended number : ℕ) (status : Status) (stage : WorkStage) → IsPieceFor work status
    → IsStageFor work ended stage → IsStageFor work ended (stage_with_status number status stage)
IsStageOf-with_status work ended number status (Open attempt) piece is =
    (AreMessagesFor-with_status work number status attempt.messages piece is.0, is.1)
IsStageOf-with_status work ended number status Ended piece is = tt
IsStageOf-with_status work ended number status (WaitsForMembers epoch) piece is = tt

pub IsOpenWork-with_status : (work : Work) (number : ℕ) (status : Status) → IsPieceFor work.work status → IsOpenWork work
    → IsOpenWork (work_with_status number status work)
IsOpenWork-with_status work number status piece is = record {
  is_work = is.is_work;
  stage = IsStageOf-with_status work.work work.ended number status work.stage piece is.stage;
}

stage_taken_back : (work : ObjWork) (ended number : ℕ) (status : Status) (stage : WorkStage) → IsStageFor work ended stage
    → is_awaited_in number (record { work = work; ended = ended; stage = stage }) ≡ true
    → stage_with_status number Unanswered (stage_with_status number status stage) ≡ stage
stage_taken_back work ended number status (Open attempt) is there =
    ap (λ ms. Open (record { epoch = attempt.epoch; messages = ms })) (taken_back number status attempt.messages is.0.numbers there)
stage_taken_back work ended number status Ended is there = refl
stage_taken_back work ended number status (WaitsForMembers epoch) is there = refl

pub work_taken_back : (work : Work) (number : ℕ) (status : Status) → IsOpenWork work → is_awaited_in number work ≡ true
    → work_with_status number Unanswered (work_with_status number status work) ≡ work
work_taken_back work number status is there =
    ap (λ stage. record { work = work.work; ended = work.ended; stage = stage })
    (stage_taken_back work.work work.ended number status work.stage is.stage there)

-- only an open attempt fails
pub failed-open : (tries : ℕ) (touched : Bool) (work : Work) (stage : WorkStage) → outcomes.Failed ≡ outcome_at tries touched work stage → IsOpenStage stage
failed-open tries touched work (Open attempt) is = tt
failed-open tries touched work Ended is = absurd (cc (is))
failed-open tries touched work (WaitsForMembers epoch) is = absurd (cc (is))

-- ---- what is told done gave its bytes

outcome-gives : (req : ℕ) (work : ObjWork) (messages : List Message) (cause : Option Cause) (over done may : Bool) → IsWork work
    → AreMessagesFor work messages → is_done work messages ≡ done
    → GivesItsBytes (act_by req work
    (cond over (cond done (outcomes.Done (bytes_given work messages)) (cond may (failure_outcome cause) outcomes.Failed)) outcomes.Awaited))
outcome-gives req work messages cause false done may is are e = tt
outcome-gives req work messages cause true true may is are e = length-bytes_given work messages is are e
outcome-gives req work messages cause true false false is are e = tt
outcome-gives req work messages None true false true is are e = tt
outcome-gives req work messages (Some cause) true false true is are e = tt

stage-gives : (req tries : ℕ) (touched : Bool) (work : Work) (stage : WorkStage) → IsWork work.work → IsStageFor work.work work.ended stage
    → GivesItsBytes (act_by req work.work (outcome_at tries touched work stage))
stage-gives req tries touched work (Open attempt) is stands =
    outcome-gives req work.work attempt.messages (first_failure work.work attempt.epoch attempt.messages) (is_over attempt.messages)
    (is_done work.work attempt.messages) (nat_le tries (work.ended + 1) && not touched) is stands.0 refl
stage-gives req tries touched work Ended is stands = tt
stage-gives req tries touched work (WaitsForMembers epoch) is stands = tt

pub told-gives : (req number : ℕ) (status : Status) (tries : ℕ) (touched : Bool) (work : Work) (before after : Works) (act : Act)
    → IsOpenWork work → IsPieceFor work.work status → MessageEnds req number status tries touched work before after act → GivesItsBytes act
told-gives req number status tries touched work before after act is piece ends =
    let told : Work = work_with_status number status work in
    let kept : IsOpenWork told = IsOpenWork-with_status work number status piece is in
    subst GivesItsBytes (sym ends.1) (stage-gives req tries touched work told.stage is.is_work kept.stage)
