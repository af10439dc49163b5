-- The messages that ask a level, whom they go to, and the searches that they are of.
use Rattle.std.proofs.Common.{◌≡◌, ◌⊎◌, ⊎_elim, ℕ, ◌+◌, ◌-◌, ◌==◌, ◌&&◌, ◌||◌, not, Bool, true, false, cond, List, [], ◌∷◌, filter}
use Rattle.std.proofs.Common.{Contains, Option, Some, None, option_map, refl, sym, ap, ◌∙◌}
use Rattle.std.specs.List.{list_any}
use Rattle.std.proofs.lemmas.Bool.{eq-eqb, eqb-true, ne_eqb, or_left, or_right}
use Rattle.std.proofs.lemmas.Option.{same_Some}
use Rattle.proof_tools.proofs.Lists.{Contains-nil, Contains-head, Contains-cons, Contains-cons_cases, Contains-filter}
use Rattle.object_id.specs.declared.node.Epoch.{Epoch}
use Rattle.object_id.specs.declared.node.NodeId.{NodeId}
use Rattle.object_id.specs.declared.policy.Policy.{Policy}
use Rattle.object_list.specs.Gathered.{is_same_node, has_node}
use Rattle.peer_proto.specs.declared.ask.PeerAsk.TheVariants as asks
use Rattle.peer_proto.specs.declared.say.PeerSay.{PeerSay}
use Rattle.peer_proto.specs.declared.say.PeerSay.TheVariants as says
use Rattle.recovery.specs.Shown.{is_pending_object}
use Rattle.recovery.specs.State.{Message, Search, Recovery, search_at, still_on, has_number, message_of}
use Rattle.recovery.specs.Steps.{messages_without, search_after_answer}
use Rattle.recovery.specs.Tick.{messages_to, or_next}
use Rattle.overlap_law.specs.Each.{Placing}
use Rattle.overlap_law.specs.Searches.{is_awaited_of, has_kept_answer}
use Rattle.overlap_law.proofs.FirstSearches.{is_on}
use Rattle.overlap_law.proofs.PendingTargets.{pending_before}
use Rattle.overlap_law.proofs.RecoveriesOfSteps.{IsLessPending}

-- whom a level is asked of, of an object of a policy
abbrev pub asked_by : Placing → NodeId → List NodeId → Search → Policy → List NodeId
asked_by T me members search policy =
    filter (λ (node : NodeId). has_node node members && not (is_same_node me node)) (T search.level search.oid policy)

-- a node's answer is awaited, or kept
abbrev pub IsAwaitedOrKept : List Message → Search → NodeId → Type 0
IsAwaitedOrKept unanswered search other =
    (is_awaited_of search.oid unanswered other ≡ true) ⊎ (has_kept_answer search.answers other ≡ true)

-- no two messages have one number
abbrev pub AreNumberedApart : List Message → Type 0
AreNumberedApart messages = (message other : Message) → Contains messages message → Contains messages other
    → message.request.number ≡ other.request.number → message ≡ other

-- what may be told of a row: the row, that there is none, a refusal, or nothing as the message was lost
abbrev pub IsRowSay : Option PeerSay → Type 0
IsRowSay None = Unit {0}
IsRowSay (Some says.Success) = ⊥
IsRowSay (Some (says.Piece bytes)) = ⊥
IsRowSay (Some (says.Objects oids)) = ⊥
IsRowSay (Some (says.Row row)) = Unit {0}
IsRowSay (Some says.NoRow) = Unit {0}
IsRowSay (Some (says.Refused refusal)) = Unit {0}

-- ---- messages

-- a level's messages go to those that it is asked of
pub awaited_each : (recovery : Recovery) (first wanted oid : ℕ) (level : Epoch) (other : NodeId) (nodes : List NodeId)
    → is_awaited_of oid (messages_to recovery first wanted (asks.RecoverRead oid level) nodes) other ≡ has_node other nodes
awaited_each recovery first wanted oid level other [] = refl
awaited_each recovery first wanted oid level other (node ∷ nodes) =
    ap (λ (b : Bool). (b && is_same_node other node)
    || is_awaited_of oid (messages_to recovery (first + 1) wanted (asks.RecoverRead oid level) nodes) other) (eq-eqb oid oid refl)
    ∙ ap (λ (b : Bool). is_same_node other node || b) (awaited_each recovery (first + 1) wanted oid level other nodes)

-- without the messages of a number, which don't pass, as many pass
pub without_any : (number : ℕ) (test : Message → Bool) (messages : List Message)
    → ((message : Message) → Contains messages message → message.request.number ≡ number → test message ≡ false)
    → list_any test (messages_without number messages) ≡ list_any test messages
without_any number test [] fails = refl
without_any number test (message ∷ messages) fails =
    by_number (message.request.number == number) refl
    (without_any number test messages (λ other there own. fails other (Contains-cons message messages other there) own))
  where
    by_number : (b : Bool) → (message.request.number == number) ≡ b
        → list_any test (messages_without number messages) ≡ list_any test messages
        → list_any test (cond (not b) (message ∷ messages_without number messages) (messages_without number messages))
        ≡ (test message || list_any test messages)
    by_number true own rest =
        rest ∙ ap (λ (b : Bool). b || list_any test messages)
        (sym (fails message (Contains-head message messages) (eqb-true message.request.number number own)))
    by_number false other rest = ap (λ (b : Bool). test message || b) rest

-- what passes is there
pub any_there : (test : Message → Bool) (messages : List Message) → list_any test messages ≡ true
    → (message : Message) × Contains messages message × (test message ≡ true)
any_there test [] any = absurd (cc (any))
any_there test (message ∷ messages) any = by_test (test message) refl any (λ later. any_there test messages later)
  where
    by_test : (b : Bool) → test message ≡ b → (b || list_any test messages) ≡ true
        → (list_any test messages ≡ true → (found : Message) × Contains messages found × (test found ≡ true))
        → (found : Message) × Contains (message ∷ messages) found × (test found ≡ true)
    by_test true is any rest = (message, Contains-head message messages, is)
    by_test false is any rest =
        let (found, there, passes) = rest any in
        (found, Contains-cons message messages found there, passes)

pub there_any : (test : Message → Bool) (messages : List Message) (message : Message) → Contains messages message → test message ≡ true
    → list_any test messages ≡ true
there_any test [] message there is = absurd (Contains-nil message there)
there_any test (first ∷ messages) message there is = ⊎_elim
    (λ (here : first ≡ message). or_left (test first) (list_any test messages) (ap test here ∙ is))
    (λ (later : Contains messages message).
    or_right (test first) (list_any test messages) (there_any test messages message later is))
    (Contains-cons_cases first messages message there)

-- a message of another number stays
pub stays_there : (number : ℕ) (messages : List Message) (message : Message) → Contains messages message
    → (message.request.number == number) ≡ false → Contains (messages_without number messages) message
stays_there number messages message there other =
    Contains-filter (λ (m : Message). not (has_number number m)) messages message there (ap not other)

-- where none has the number
pub none_numbered : (number : ℕ) (messages : List Message) → message_of number messages ≡ None → (message : Message)
    → Contains messages message → message.request.number ≡ number → ⊥
none_numbered number [] none message there own = Contains-nil message there
none_numbered number (first ∷ messages) none message there own =
    by_number (first.request.number == number) refl none (λ later. none_numbered number messages later message)
  where
    by_number : (b : Bool) → (first.request.number == number) ≡ b → cond b (Some first) (message_of number messages) ≡ None
        → (message_of number messages ≡ None → Contains messages message → message.request.number ≡ number → ⊥) → ⊥
    by_number true is none rest = cc (none)
    by_number false is none rest = ⊎_elim
        (λ (here : first ≡ message).
        (let has : (first.request.number == number) ≡ true
        = eq-eqb first.request.number number (ap (λ (m : Message). m.request.number) here ∙ own) in
        cc (is, has)))
        (λ (later : Contains messages message). rest none later own)
        (Contains-cons_cases first messages message there)

pub other_number : (oid other : ℕ) → (other == oid) ≡ false → (oid == other) ≡ false
other_number oid other apart =
    ne_eqb oid other (λ (same : oid ≡ other). (let is : (other == oid) ≡ true = eq-eqb other oid (sym same) in cc (is, apart)))

-- ---- searches

-- a search that goes on is one while no more is pending
pub still_less : (old new : Option (List ℕ)) (o : Option Search) (search : Search) → IsLessPending old new → still_on new o ≡ Some search
    → still_on old o ≡ Some search
still_less old new o search less is = ⊎_elim
    (λ (same : new ≡ old). ap (λ (pending : Option (List ℕ)). still_on pending o) (sym same) ∙ is)
    (λ (some : (p : ℕ → Bool) × (new ≡ option_map (filter p) old)).
    (let on = is_on new o search is in
    let was : is_pending_object search.oid old ≡ true
    = pending_before some.0 search.oid old (ap (is_pending_object search.oid) (sym some.1) ∙ on.pending_so) in
    ap (still_on old) on.search ∙ ap (λ (b : Bool). cond b (Some search) None) was))
    less

pub same_oid : (from : NodeId) (said : Option PeerSay) (search : Search) → (search_after_answer from said search).oid ≡ search.oid
same_oid from None search = refl
same_oid from (Some says.Success) search = refl
same_oid from (Some (says.Piece bytes)) search = refl
same_oid from (Some (says.Objects oids)) search = refl
same_oid from (Some (says.Row row)) search = refl
same_oid from (Some says.NoRow) search = refl
same_oid from (Some (says.Refused refusal)) search = refl

-- what is to be known of the next search: it keeps no answers
pub next_fresh : (epoch : ℕ) (pending : Option ℕ) (o : Option Search) (next : Search) → or_next epoch pending o ≡ Some next
    → next.answers ≡ []
next_fresh epoch pending (Some search) next is =
    ap (λ (s : Search). s.answers) (sym (same_Some (search_at search.oid search.level) next is))
next_fresh epoch None None next is = absurd (cc (is))
next_fresh epoch (Some oid) None next is = ap (λ (s : Search). s.answers) (sym (same_Some (search_at oid (epoch - 1)) next is))
