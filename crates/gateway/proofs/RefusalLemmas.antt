-- A request is refused only where it is untouched and its attempt isn't done: so no bytes of a read are needed for it.
use Rattle.std.proofs.Common.{◌≡◌, ℕ, ◌+◌, nat_lt, nat_le, ◌&&◌, ◌||◌, not, Bool, true, false, cond, List, Option, Some, refl, ap, subst, ◌∙◌}
use Rattle.std.specs.Cmp.{nat_cmp_total}
use Rattle.std.specs.FinSet as set
use Rattle.proof_tools.proofs.FiniteMaps.{is_at-same}
use Rattle.std.specs.List.{list_any}
use Rattle.object_id.specs.declared.node.Epoch.{Epoch}
use Rattle.hash_ring.specs.Placement.{zone_count}
use Rattle.vnode_table.specs.Epochs.{EpochMembers, members_at}
use Rattle.peer_proto.specs.declared.work.ObjWork.{ObjWork}
use Rattle.gateway.specs.declared.message.Message.{Message}
use Rattle.gateway.specs.declared.message.Status.{Status}
use Rattle.gateway.specs.declared.outcome.Outcome.{Outcome}
use Rattle.gateway.specs.declared.outcome.Outcome.TheVariants as outcomes
use Rattle.gateway.specs.Work.{is_making}
use Rattle.gateway.specs.Outcomes.{RefusesWork}
use Rattle.gateway.specs.Attempt.{may_be_made, is_awaited_message, is_over, is_done, bytes_given, first_failure}
use Rattle.gateway.specs.State.{WorkStage, Open, Ended, WaitsForMembers, Work, Gateway, is_touched, asker, open_messages}
use Rattle.gateway.specs.Step.{GatewayStep, touched_by, message_ended}
use Rattle.gateway.specs.Kept.{work_with_status, failure_outcome, outcome_with, outcome_at, act_by, IsUndone}
use Rattle.gateway.proofs.StepLemmas.{message_ended-by}

pub refused-undone : (req : ℕ) (work : ObjWork) (outcome : Outcome) → RefusesWork (act_by req work outcome) → IsUndone outcome
refused-undone req work outcomes.Awaited refuses = tt
refused-undone req work outcomes.Failed refuses = tt
refused-undone req work (outcomes.Done bytes) refuses = refuses
refused-undone req work (outcomes.Refused cause) refuses = tt

and-false : (b : Bool) → (b && false) ≡ false
and-false true = refl
and-false false = refl

-- an attempt whose request may not be refused
none-refused : (req : ℕ) (work : ObjWork) (epoch : Epoch) (messages : List Message) (may : Bool) → may ≡ false
    → RefusesWork (act_by req work (outcome_with work epoch messages may)) → ⊥
none-refused req work epoch messages may may_not refuses =
    by_tests (is_over messages) (is_done work messages) (subst (λ b. RefusesWork (act_by req work (outcome_with work epoch messages b))) may_not refuses)
  where
    by_tests : (over done : Bool)
        → RefusesWork (act_by req work (cond over (cond done (outcomes.Done (bytes_given work messages))
        (cond false (failure_outcome (first_failure work epoch messages)) outcomes.Failed)) outcomes.Awaited)) → ⊥
    by_tests true true wrong = wrong
    by_tests true false wrong = wrong
    by_tests false done wrong = wrong

pub refused-untouched : (req tries : ℕ) (touched : Bool) (work : Work) (stage : WorkStage) → touched ≡ true
    → RefusesWork (act_by req work.work (outcome_at tries touched work stage)) → ⊥
refused-untouched req tries touched work (Open attempt) is refuses =
    none-refused req work.work attempt.epoch attempt.messages (nat_le tries (work.ended + 1) && not touched)
    (ap (λ b. nat_le tries (work.ended + 1) && not b) is ∙ and-false (nat_le tries (work.ended + 1))) refuses
refused-untouched req tries touched work Ended is refuses = refuses
refused-untouched req tries touched work (WaitsForMembers epoch) is refuses = refuses

-- what is told of the work that waits for a message, where its request is refused
pub refusal-told : (gateway : Gateway) (number : ℕ) (status : Status) (req : ℕ) (work : Work) → asker number gateway ≡ Some (req, work)
    → list_any (is_awaited_message number) (open_messages work.stage) ≡ true
    → RefusesWork (message_ended gateway number status).act
    → RefusesWork (act_by req work.work
    (outcome_at gateway.tries (is_touched req (touched_by req work.work status gateway)) work (work_with_status number status work).stage))
refusal-told gateway number status req work found there refuses =
    subst (λ (step : GatewayStep). RefusesWork step.act) (message_ended-by gateway number status req work found there) refuses

-- a message that may have been made touches its request
pub touched-now : (gateway : Gateway) (req : ℕ) (work : ObjWork) (status : Status) → (is_making work && may_be_made status) ≡ true
    → is_touched req (touched_by req work status gateway) ≡ true
touched-now gateway req work status made =
    ap (λ (b : Bool). set.contains (cond b (set.insert gateway.touched req) gateway.touched) req) made
    ∙ set.contains-insert nat_cmp_total gateway.touched req req
    ∙ ap (λ b. b || set.contains gateway.touched req) (is_at-same req)
