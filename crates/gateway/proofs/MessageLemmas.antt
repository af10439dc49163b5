-- What setting the status of one message makes of the messages of an attempt.
use Rattle.std.proofs.Common.{◌≡◌, ℕ, zero, suc, ◌+◌, ◌<◌, ◌≤◌, ◌==◌, nat_lt, ◌||◌, not, Bool, true, false, cond, List, [], ◌∷◌, length, get_or, slice_set, map, Option, Some, None, refl, sym, ap, ap₂, subst, ◌∙◌, inl, inr, arith}
use Rattle.std.specs.List.{list_any, position, prefix_len}
use Rattle.std.proofs.lemmas.Bool.{eqb-true, cond-true, cond-false, cases_Bool}
use Rattle.std.proofs.lemmas.List.{length-map}
use Rattle.gateway.specs.declared.message.Message.{Message}
use Rattle.gateway.specs.declared.message.Status.{Status}
use Rattle.gateway.specs.declared.message.Status.TheVariants.{Unanswered, Succeeded, Refused, Lost}
use Rattle.object_id.specs.Oid.{kind_of}
use Rattle.gf256.specs.Part.{part_size}
use Rattle.gf256.specs.Polynomial.{ArePoints}
use Rattle.peer_proto.specs.declared.work.ObjWork.{ObjWork}
use Rattle.peer_proto.specs.declared.work.ObjWork.TheVariants.{Create, Write, Read, ReadAll}
use Rattle.gateway.specs.Attempt.{is_unanswered, is_awaited_message, messages_with_status}
use Rattle.gateway.specs.Messages.{HasNoNumber, NumbersDiffer, HasLength, HaveLength, IsPieceFor, ArePiecesFor, IndexesDiffer, HaveCountFor, AreMessagesFor}

abbrev pub has_number : ℕ → Message → Bool
has_number number message = message.number == number

-- messages without the number stay
pub messages_with_status-none : (number : ℕ) (status : Status) (messages : List Message) → HasNoNumber number messages
    → messages_with_status number status messages ≡ messages
messages_with_status-none number status [] none = refl
messages_with_status-none number status (message ∷ messages) none =
    ap₂ (λ (m : Message) (ms : List Message). m ∷ ms)
    (ap (λ b. cond b (record message { status = status }) message) none.0)
    (messages_with_status-none number status messages none.1)

no-number_at : (number k : ℕ) (messages : List Message) (d : Message) → HasNoNumber number messages → k < length messages
    → ((get_or messages k d).number == number) ≡ false
no-number_at number k [] d none below = absurd (omega (arith, below))
no-number_at number zero (message ∷ messages) d none below = none.0
no-number_at number (suc k) (message ∷ messages) d none below = no-number_at number k messages d none.1 (omega (arith, below))

-- the message of the number has the status, and no other one has changed
pub slice_set-status : (number k : ℕ) (status : Status) (messages : List Message) (d : Message) → NumbersDiffer messages
    → k < length messages → ((get_or messages k d).number == number) ≡ true
    → slice_set messages k (record (get_or messages k d) { status = status }) ≡ messages_with_status number status messages
slice_set-status number k status [] d differ below here = absurd (omega (arith, below))
slice_set-status number zero status (message ∷ messages) d differ below here =
    let same : message.number ≡ number = eqb-true message.number number here in
    ap₂ (λ (m : Message) (ms : List Message). m ∷ ms)
    (sym (ap (λ b. cond b (record message { status = status }) message) here))
    (sym (messages_with_status-none number status messages (subst (λ n. HasNoNumber n messages) same differ.0)))
slice_set-status number (suc k) status (message ∷ messages) d differ below here = elim (cases_Bool (message.number == number)) [
  | inl first ↦
      let same : message.number ≡ number = eqb-true message.number number first in
      let no : ((get_or messages k d).number == number) ≡ false
      = no-number_at number k messages d (subst (λ n. HasNoNumber n messages) same differ.0) (omega (arith, below)) in
      absurd (cc (no, here))
  | inr other ↦
      ap₂ (λ (m : Message) (ms : List Message). m ∷ ms)
      (sym (ap (λ b. cond b (record message { status = status }) message) other))
      (slice_set-status number k status messages d differ.1 (omega (arith, below)) here)
]

no_place : (number : ℕ) (messages : List Message) → length messages ≤ prefix_len (λ message. not (has_number number message)) messages
    → HasNoNumber number messages
no_place number [] few = tt
no_place number (message ∷ messages) few = by_number (has_number number message) refl few (no_place number messages)
  where
    by_number : (b : Bool) → (message.number == number) ≡ b
        → suc (length messages) ≤ cond (not b) (1 + prefix_len (λ message. not (has_number number message)) messages) 0
        → (length messages ≤ prefix_len (λ message. not (has_number number message)) messages → HasNoNumber number messages)
        → ((message.number == number) ≡ false) × HasNoNumber number messages
    by_number true is few rest = absurd (omega (arith, few))
    by_number false is few rest = (is, rest (omega (arith, few)))

-- where no place has the number, no message has it
pub position-none : (number : ℕ) (messages : List Message) → position (has_number number) messages ≡ None → HasNoNumber number messages
position-none number messages none = no_place number messages (past (prefix_len (λ message. not (has_number number message)) messages) (length messages) none)
  where
    past : (i n : ℕ) → cond (nat_lt i n) (Some i) None ≡ None → n ≤ i
    past i n none = grind (arith, none)

-- ---- what always holds of messages still holds when the status of one is set

HasNoNumber-with_status : (other number : ℕ) (status : Status) (messages : List Message) → HasNoNumber other messages
    → HasNoNumber other (messages_with_status number status messages)
HasNoNumber-with_status other number status [] none = tt
HasNoNumber-with_status other number status (message ∷ messages) none =
    (by_number (has_number number message), HasNoNumber-with_status other number status messages none.1)
  where
    by_number : (b : Bool) → ((cond b (record message { status = status }) message).number == other) ≡ false
    by_number true = none.0
    by_number false = none.0

NumbersDiffer-with_status : (number : ℕ) (status : Status) (messages : List Message) → NumbersDiffer messages
    → NumbersDiffer (messages_with_status number status messages)
NumbersDiffer-with_status number status [] differ = tt
NumbersDiffer-with_status number status (message ∷ messages) differ =
    (by_number (has_number number message), NumbersDiffer-with_status number status messages differ.1)
  where
    by_number : (b : Bool) → HasNoNumber (cond b (record message { status = status }) message).number (messages_with_status number status messages)
    by_number true = HasNoNumber-with_status message.number number status messages differ.0
    by_number false = HasNoNumber-with_status message.number number status messages differ.0

HaveLength-with_status : (size number : ℕ) (status : Status) (messages : List Message) → HasLength size status → HaveLength size messages
    → HaveLength size (messages_with_status number status messages)
HaveLength-with_status size number status [] is all = tt
HaveLength-with_status size number status (message ∷ messages) is all =
    (by_number (has_number number message), HaveLength-with_status size number status messages is all.1)
  where
    by_number : (b : Bool) → HasLength size (cond b (record message { status = status }) message).status
    by_number true = is
    by_number false = all.0

indexes-with_status : (number : ℕ) (status : Status) (messages : List Message)
    → map (λ (message : Message). message.index) (messages_with_status number status messages) ≡ map (λ (message : Message). message.index) messages
indexes-with_status number status [] = refl
indexes-with_status number status (message ∷ messages) =
    ap₂ (λ (k : ℕ) (ks : List ℕ). k ∷ ks) (by_number (has_number number message)) (indexes-with_status number status messages)
  where
    by_number : (b : Bool) → (cond b (record message { status = status }) message).index ≡ message.index
    by_number true = refl
    by_number false = refl

pieces-with_status : (work : ObjWork) (number : ℕ) (status : Status) (messages : List Message) → IsPieceFor work status → ArePiecesFor work messages
    → ArePiecesFor work (messages_with_status number status messages)
pieces-with_status (Create oid policy size offset bytes) number status messages is all = tt
pieces-with_status (Write oid policy offset bytes) number status messages is all = tt
pieces-with_status (Read oid policy offset size) number status messages is all =
    HaveLength-with_status (part_size policy (kind_of oid) size) number status messages is all
pieces-with_status (ReadAll oid policy size) number status messages is all =
    HaveLength-with_status (part_size policy (kind_of oid) size) number status messages is all

points-with_status : (work : ObjWork) (number : ℕ) (status : Status) (messages : List Message) → IndexesDiffer work messages
    → IndexesDiffer work (messages_with_status number status messages)
points-with_status (Create oid policy size offset bytes) number status messages differ = tt
points-with_status (Write oid policy offset bytes) number status messages differ = tt
points-with_status (Read oid policy offset size) number status messages differ =
    subst ArePoints (sym (indexes-with_status number status messages)) differ
points-with_status (ReadAll oid policy size) number status messages differ = tt

count-with_status : (work : ObjWork) (number : ℕ) (status : Status) (messages : List Message) → HaveCountFor work messages
    → HaveCountFor work (messages_with_status number status messages)
count-with_status (Create oid policy size offset bytes) number status messages count = tt
count-with_status (Write oid policy offset bytes) number status messages count = tt
count-with_status (Read oid policy offset size) number status messages count = tt
count-with_status (ReadAll oid policy size) number status messages count =
    length-map messages (λ (message : Message). cond (message.number == number) (record message { status = status }) message) ∙ count

pub AreMessagesFor-with_status : (work : ObjWork) (number : ℕ) (status : Status) (messages : List Message) → IsPieceFor work status
    → AreMessagesFor work messages → AreMessagesFor work (messages_with_status number status messages)
AreMessagesFor-with_status work number status messages is are = record {
  numbers = NumbersDiffer-with_status number status messages are.numbers;
  pieces = pieces-with_status work number status messages is are.pieces;
  indexes = points-with_status work number status messages are.indexes;
  count = count-with_status work number status messages are.count;
}

-- a message that is unanswered is as it was when its status is taken back
unanswered : (status : Status) → is_unanswered status ≡ true → status ≡ Unanswered
unanswered Unanswered is = refl
unanswered (Succeeded bytes) is = absurd (cc (is))
unanswered (Refused refusal) is = absurd (cc (is))
unanswered Lost is = absurd (cc (is))

none_awaited : (number : ℕ) (messages : List Message) → HasNoNumber number messages → list_any (is_awaited_message number) messages ≡ false
none_awaited number [] none = refl
none_awaited number (message ∷ messages) none =
    ap (λ b. cond b (is_unanswered message.status) false || list_any (is_awaited_message number) messages) none.0 ∙ none_awaited number messages none.1

first_taken_back : (number : ℕ) (status : Status) (message : Message) (b : Bool) → (message.number == number) ≡ b
    → (b ≡ true → record message { status = Unanswered } ≡ message)
    → cond (has_number number (cond b (record message { status = status }) message))
    (record (cond b (record message { status = status }) message) { status = Unanswered })
    (cond b (record message { status = status }) message)
    ≡ message
first_taken_back number status message true is was = ap (λ b. cond b (record message { status = Unanswered }) (record message { status = status })) is ∙ was refl
first_taken_back number status message false is was = ap (λ b. cond b (record message { status = Unanswered }) message) is

pub taken_back : (number : ℕ) (status : Status) (messages : List Message) → NumbersDiffer messages
    → list_any (is_awaited_message number) messages ≡ true
    → messages_with_status number Unanswered (messages_with_status number status messages) ≡ messages
taken_back number status [] differ there = absurd (cc (there))
taken_back number status (message ∷ messages) differ there = by_number (has_number number message) refl (taken_back number status messages differ.1)
  where
    no_number : (message.number == number) ≡ true → HasNoNumber number messages
    no_number here = subst (λ n. HasNoNumber n messages) (eqb-true message.number number here) differ.0

    as_it_was : (message.number == number) ≡ true → record message { status = Unanswered } ≡ message
    as_it_was here =
        let first : (is_unanswered message.status || false) ≡ true
        = sym (ap (λ b. cond b (is_unanswered message.status) false || list_any (is_awaited_message number) messages) here
        ∙ ap (λ b. is_unanswered message.status || b) (none_awaited number messages (no_number here))) ∙ there in
        ap (λ st. record message { status = st }) (sym (unanswered message.status (sym (or_false (is_unanswered message.status)) ∙ first)))
      where
        or_false : (b : Bool) → (b || false) ≡ b
        or_false true = refl
        or_false false = refl

    by_number : (b : Bool) → (message.number == number) ≡ b
        → (list_any (is_awaited_message number) messages ≡ true → messages_with_status number Unanswered (messages_with_status number status messages) ≡ messages)
        → messages_with_status number Unanswered (messages_with_status number status (message ∷ messages)) ≡ message ∷ messages
    by_number true here rest =
        ap₂ (λ (m : Message) (ms : List Message). m ∷ ms)
        (ap (λ b. cond (has_number number (cond b (record message { status = status }) message))
        (record (cond b (record message { status = status }) message) { status = Unanswered })
        (cond b (record message { status = status }) message)) here
        ∙ first_taken_back number status message true here (λ _. as_it_was here))
        (ap (messages_with_status number Unanswered) (messages_with_status-none number status messages (no_number here))
        ∙ messages_with_status-none number Unanswered messages (no_number here))
    by_number false other rest =
        ap₂ (λ (m : Message) (ms : List Message). m ∷ ms)
        (ap (λ b. cond (has_number number (cond b (record message { status = status }) message))
        (record (cond b (record message { status = status }) message) { status = Unanswered })
        (cond b (record message { status = status }) message)) other
        ∙ first_taken_back number status message false other (λ wrong. absurd (cc (wrong))))
        (rest
        (sym (ap (λ b. cond b (is_unanswered message.status) false || list_any (is_awaited_message number) messages) other) ∙ there))
