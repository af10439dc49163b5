-- Why an attempt that failed has a message with a cause.
use Rattle.std.proofs.Common.{◌≡◌, ◌≢◌, ℕ, suc, ◌≤◌, nat_le, ◌&&◌, ◌||◌, not, Bool, true, false, cond, List, [], ◌∷◌, length, Option, None, refl, sym, ap, subst, ◌∙◌}
use Rattle.std.specs.List.{list_any, list_all}
use Rattle.std.proofs.lemmas.Bool.{and_parts, and_from, le-leb, not_from_false}
use Rattle.object_id.specs.declared.cause.Cause.{Cause}
use Rattle.object_id.specs.declared.node.Epoch.{Epoch}
use Rattle.object_id.specs.declared.node.NodeId.{NodeId}
use Rattle.object_id.specs.Oid.{kind_of}
use Rattle.object_id.specs.Policy.{need_of}
use Rattle.peer_proto.specs.declared.work.ObjWork.{ObjWork}
use Rattle.peer_proto.specs.declared.work.ObjWork.TheVariants.{Create, Write, Read, ReadAll}
use Rattle.gateway.specs.declared.message.Message.{Message}
use Rattle.gateway.specs.declared.message.Status.{Status}
use Rattle.gateway.specs.declared.message.Status.TheVariants.{Unanswered, Succeeded, Refused, Lost}
use Rattle.gateway.specs.Attempt.{Attempt, is_unanswered, is_success, successes, is_over, is_done, failure, first_cause, first_failure}
use Rattle.gateway.specs.State.{Gateway, is_touched}
use Rattle.gateway.specs.Step.{refusal_after_attempt}
use Rattle.gateway.specs.Outcomes.{HasFailed, AsksEnough}

abbrev succeeded : Message → Bool
succeeded message = is_success message.status

one_succeeded : (work : ObjWork) (epoch : Epoch) (node : NodeId) (status : Status) (any all : Bool) (later : Option Cause)
    → not (is_unanswered status || any) ≡ true → first_cause (failure work epoch node status) later ≡ None
    → (not any ≡ true → later ≡ None → all ≡ true) → (is_success status && all) ≡ true
one_succeeded work epoch node (Succeeded bytes) any all later over none rest = rest over none
one_succeeded work epoch node status any all later over none rest = absurd (cc)

-- where all are answered and none has a cause, all succeeded
all_succeeded : (work : ObjWork) (epoch : Epoch) (messages : List Message) → is_over messages ≡ true
    → first_failure work epoch messages ≡ None → list_all succeeded messages ≡ true
all_succeeded work epoch [] over none = refl
all_succeeded work epoch (message ∷ messages) over none =
    one_succeeded work epoch message.node message.status
    (list_any (λ (m : Message). is_unanswered m.status) messages) (list_all succeeded messages) (first_failure work epoch messages)
    over none (all_succeeded work epoch messages)

length-successes : (messages : List Message) → list_all succeeded messages ≡ true → length (successes messages) ≡ length messages
length-successes [] e = refl
length-successes (message ∷ messages) e =
    let both = and_parts (succeeded message) (list_all succeeded messages) e in
    ap (λ b. length (cond b (message ∷ successes messages) (successes messages))) both.0 ∙ ap suc (length-successes messages both.1)

done-from : (work : ObjWork) (messages : List Message) → list_all succeeded messages ≡ true → AsksEnough work messages
    → is_done work messages ≡ true
done-from (Create oid policy size offset bytes) messages e asks = e
done-from (Write oid policy offset bytes) messages e asks = e
done-from (Read oid policy offset size) messages e asks =
    le-leb _ _ (subst (λ (n : ℕ). need_of policy (kind_of oid) ≤ n) (sym (length-successes messages e)) asks)
done-from (ReadAll oid policy size) messages e asks = e

pub refusal-there : (gateway : Gateway) (req : ℕ) (work : ObjWork) (number : ℕ) (attempt : Attempt)
    → HasFailed work attempt.messages → AsksEnough work attempt.messages
    → is_touched req gateway ≡ false → gateway.tries ≤ number → refusal_after_attempt gateway req work number attempt ≢ None
refusal-there gateway req work number attempt failed asks untouched tried none =
    let test : (nat_le gateway.tries number && not (is_touched req gateway)) ≡ true
    = and_from _ _ (le-leb _ _ tried) (not_from_false (is_touched req gateway) untouched) in
    let without_cause : first_failure work attempt.epoch attempt.messages ≡ None
    = sym (ap (λ b. cond b (first_failure work attempt.epoch attempt.messages) None) test) ∙ none in
    let there : is_done work attempt.messages ≡ true
    = done-from work attempt.messages (all_succeeded work attempt.epoch attempt.messages failed.0 without_cause) asks in
    absurd (cc (there, failed.1))
