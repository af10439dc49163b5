-- Each step keeps that the map leads from each unanswered message to its request.
use Rattle.std.proofs.Common.{◌≡◌, ◌≢◌, ℕ, ◌+◌, ◌<◌, ◌==◌, nat_lt, ◌||◌, ◌&&◌, Bool, true, false, cond, List, [], ◌∷◌, map, flat_map, Option, Some, None, Contains, inl, inr, refl, sym, ap, subst, ◌∙◌, arith}
use Rattle.std.specs.List.{list_any, list_all, enumerate_from}
use Rattle.std.specs.Ordering.{nat_cmp}
use Rattle.std.specs.FinMap as tree
use Rattle.std.proofs.lemmas.Bool.{eqb-true, ltb-true, cases_eq, ne_eqb}
use Rattle.std.proofs.lemmas.Option.{same_Some}
use Rattle.proof_tools.proofs.FiniteMaps.{get-insert_same, get-insert_other, get-remove_same, get-remove_other, entries-contain}
use Rattle.proof_tools.proofs.Lists.{Contains-flat_map, Contains-map, Contains-cons_cases, Contains-nil, Contains-first, Contains-cons}
use Rattle.object_id.specs.declared.node.NodeId.{NodeId}
use Rattle.object_id.specs.declared.node.Epoch.{Epoch}
use Rattle.object_id.specs.declared.cause.Cause.TheVariants.{Halt}
use Rattle.hash_ring.specs.Placement.{zone_count}
use Rattle.vnode_table.specs.Epochs.{EpochMembers, members_at}
use Rattle.vnode_table.specs.Targets.{targets_in}
use Rattle.peer_proto.specs.Work.{oid_of, policy_of}
use Rattle.gateway.specs.declared.act.Sends.{Sends}
use Rattle.gateway.specs.declared.beginning.Beginning.{Beginning}
use Rattle.gateway.specs.declared.beginning.Beginning.TheVariants as beginnings
use Rattle.peer_proto.specs.declared.work.ObjWork.{ObjWork}
use Rattle.gateway.specs.declared.message.Message.{Message}
use Rattle.gateway.specs.declared.message.Status.{Status}
use Rattle.gateway.specs.declared.message.Status.TheVariants.{Unanswered}
use Rattle.gateway.specs.declared.outcome.Outcome.{Outcome}
use Rattle.gateway.specs.declared.outcome.Outcome.TheVariants as outcomes
use Rattle.gateway.specs.Work.{targets_asked, zones_for}
use Rattle.gateway.specs.Attempt.{is_unanswered, is_awaited_message, messages_with_status, message_for, messages_of}
use Rattle.gateway.specs.State.{WorkStage, Open, Ended, WaitsForMembers, Work, Gateway, is_awaited_in, open_messages, open_numbers}
use Rattle.gateway.specs.Kept.{Works, AreAskers, stage_with_status, work_with_status, work_failed, works_by, sends_beginning, beginning_of}
use Rattle.gateway.proofs.MessageLemmas.{has_number}

abbrev pub Numbers : Type 0
Numbers = tree.FinMap nat_cmp ℕ

-- ---- works that wait for nothing more, and works that go

pub AreAskers-quiet : (askers : Numbers) (works : Works) (req : ℕ) (new : Work) → AreAskers askers works
    → ((number : ℕ) → is_awaited_in number new ≡ false) → AreAskers askers (tree.insert works req new)
AreAskers-quiet askers works req new are quiet number r work at awaited = elim (cases_eq r req) [
  | inl same ↦
      let is : new ≡ work = same_Some new work (sym (get-insert_same works req new) ∙ ap (tree.get (tree.insert works req new)) (sym same) ∙ at) in
      let wrong : true ≡ false = sym awaited ∙ ap (is_awaited_in number) (sym is) ∙ quiet number in
      absurd (cc (wrong))
  | inr apart ↦ are number r work (sym (get-insert_other works req new r apart) ∙ at) awaited
]

pub AreAskers-without : (askers : Numbers) (works : Works) (req : ℕ) → AreAskers askers works → AreAskers askers (tree.remove works req)
AreAskers-without askers works req are number r work at awaited = elim (cases_eq r req) [
  | inl same ↦
      let wrong : None ≡ Some work = sym (get-remove_same works req) ∙ ap (tree.get (tree.remove works req)) (sym same) ∙ at in
      absurd (cc (wrong))
  | inr apart ↦ are number r work (sym (get-remove_other works req r apart) ∙ at) awaited
]

-- ---- an attempt begins: its messages lead to its request

pub AreAskers-open : (askers after : Numbers) (works : Works) (req : ℕ) (new : Work) (messages : List Message) → AreAskers askers works
    → ((number : ℕ) → tree.get after number ≡ cond (list_any (has_number number) messages) (Some req) (tree.get askers number))
    → ((number r : ℕ) (work : Work) → tree.get works r ≡ Some work → is_awaited_in number work ≡ true → list_any (has_number number) messages ≡ false)
    → ((number : ℕ) → is_awaited_in number new ≡ true → list_any (has_number number) messages ≡ true)
    → AreAskers after (tree.insert works req new)
AreAskers-open askers after works req new messages are put others mine number r work at awaited = elim (cases_eq r req) [
  | inl same ↦
      let is : new ≡ work = same_Some new work (sym (get-insert_same works req new) ∙ ap (tree.get (tree.insert works req new)) (sym same) ∙ at) in
      put number
      ∙ ap (λ b. cond b (Some req) (tree.get askers number)) (mine number (ap (is_awaited_in number) is ∙ awaited))
      ∙ ap Some (sym same)
  | inr apart ↦
      let before : tree.get works r ≡ Some work = sym (get-insert_other works req new r apart) ∙ at in
      put number
      ∙ ap (λ b. cond b (Some req) (tree.get askers number)) (others number r work before awaited)
      ∙ are number r work before awaited
]

-- where memory was wanted, only numbers of no open attempt lead elsewhere
pub AreAskers-some : (askers after : Numbers) (works : Works) (messages : List Message) → AreAskers askers works
    → ((number : ℕ) → list_any (has_number number) messages ≡ false → tree.get after number ≡ tree.get askers number)
    → ((number r : ℕ) (work : Work) → tree.get works r ≡ Some work → is_awaited_in number work ≡ true → list_any (has_number number) messages ≡ false)
    → AreAskers after works
AreAskers-some askers after works messages are put others number r work at awaited =
    put number (others number r work at awaited) ∙ are number r work at awaited

-- a message that is awaited has its number
awaited-number : (number : ℕ) (messages : List Message) → list_any (is_awaited_message number) messages ≡ true → list_any (has_number number) messages ≡ true
awaited-number number [] there = absurd (cc (there))
awaited-number number (message ∷ messages) there = by_number (has_number number message) there (awaited-number number messages)
  where
    by_number : (b : Bool) → (cond b (is_unanswered message.status) false || list_any (is_awaited_message number) messages) ≡ true
        → (list_any (is_awaited_message number) messages ≡ true → list_any (has_number number) messages ≡ true)
        → (b || list_any (has_number number) messages) ≡ true
    by_number true there rest = refl
    by_number false there rest = rest there

-- the messages of a new attempt are those that it waits for
pub awaited-open : (number : ℕ) (stage : WorkStage) (messages : List Message) → open_messages stage ≡ messages
    → list_any (is_awaited_message number) (open_messages stage) ≡ true → list_any (has_number number) messages ≡ true
awaited-open number stage messages is there =
    awaited-number number messages (ap (list_any (is_awaited_message number)) (sym is) ∙ there)

-- the numbers of a new attempt begin with the first
none_below : {X : Type 0} (make : ℕ × X → Message) → ((entry : ℕ × X) → (make entry).number ≡ entry.0) → (number first : ℕ) (xs : List X)
    → number < first → list_any (has_number number) (map make (enumerate_from first xs)) ≡ false
none_below make is number first [] below = refl
none_below make is number first (x ∷ xs) below =
    let other : (first == number) ≡ false = ne_eqb first number (λ (e : first ≡ number). omega (arith, e, below)) in
    ap (λ n. (n == number) || list_any (has_number number) (map make (enumerate_from (first + 1) xs))) (is (first, x))
    ∙ ap (λ b. b || list_any (has_number number) (map make (enumerate_from (first + 1) xs))) other
    ∙ none_below make is number (first + 1) xs (omega (arith, below))

pub none-of_messages : (work : ObjWork) (ended first number : ℕ) (targets : List NodeId) → number < first
    → list_any (has_number number) (messages_of work ended first targets) ≡ false
none-of_messages work ended first number targets below =
    none_below (message_for work) (λ entry. refl) number first (targets_asked work ended targets) below

-- ---- numbers of open attempts are below the first of a new one

all-holds : {X : Type 0} (p : X → Bool) (xs : List X) (x : X) → list_all p xs ≡ true → Contains xs x → p x ≡ true
all-holds p [] x all there = absurd (Contains-nil x there)
all-holds p (y ∷ ys) x all there = elim (Contains-cons_cases y ys x there) [
  | inl same ↦ ap p (sym same) ∙ (and_parts (p y) (list_all p ys) all).0
  | inr later ↦ all-holds p ys x (and_parts (p y) (list_all p ys) all).1 later
]
  where
    and_parts : (a b : Bool) → (a && b) ≡ true → (a ≡ true) × (b ≡ true)
    and_parts true b is = (refl, is)
    and_parts false b is = absurd (cc (is))

number-contained : (number : ℕ) (messages : List Message) → list_any (is_awaited_message number) messages ≡ true
    → Contains (map (λ (message : Message). message.number) messages) number
number-contained number [] there = absurd (cc (there))
number-contained number (message ∷ messages) there = by_number (has_number number message) refl there (number-contained number messages)
  where
    by_number : (b : Bool) → (message.number == number) ≡ b
        → (cond b (is_unanswered message.status) false || list_any (is_awaited_message number) messages) ≡ true
        → (list_any (is_awaited_message number) messages ≡ true → Contains (map (λ (m : Message). m.number) messages) number)
        → Contains (map (λ (m : Message). m.number) (message ∷ messages)) number
    by_number true is there rest = Contains-first message.number number (map (λ (m : Message). m.number) messages) (eqb-true message.number number is)
    by_number false is there rest = Contains-cons message.number (map (λ (m : Message). m.number) messages) number (rest there)

pub awaited-below : (gateway : Gateway) (first number req : ℕ) (work : Work)
    → list_all (λ number. nat_lt number first) (open_numbers gateway) ≡ true
    → tree.get gateway.works req ≡ Some work → is_awaited_in number work ≡ true → number < first
awaited-below gateway first number req work all at awaited =
    let there : Contains (open_numbers gateway) number =
    Contains-flat_map (λ (entry : ℕ × Work). map (λ (message : Message). message.number) (open_messages entry.1.stage)) (tree.entries gateway.works)
    (req, work) number (entries-contain tree.nat_cmp-IsAntisymmetric gateway.works req work at) (number-contained number (open_messages work.stage) awaited) in
    ltb-true number first (all-holds (λ number. nat_lt number first) (open_numbers gateway) number all there)

-- ---- a message has ended: nothing waits for it any more

not_awaited : (number : ℕ) (status : Status) (messages : List Message) → is_unanswered status ≡ false
    → list_any (is_awaited_message number) (messages_with_status number status messages) ≡ false
not_awaited number status [] known = refl
not_awaited number status (message ∷ messages) known =
    ap (λ b. b || list_any (is_awaited_message number) (messages_with_status number status messages)) (by_number (has_number number message) refl)
    ∙ not_awaited number status messages known
  where
    by_number : (b : Bool) → (message.number == number) ≡ b → is_awaited_message number (cond b (record message { status = status }) message) ≡ false
    by_number true is = ap (λ b. cond b (is_unanswered status) false) is ∙ known
    by_number false is = ap (λ b. cond b (is_unanswered message.status) false) is

others_awaited : (other number : ℕ) (status : Status) (messages : List Message)
    → is_unanswered status ≡ false
    → list_any (is_awaited_message other) (messages_with_status number status messages) ≡ true
    → list_any (is_awaited_message other) messages ≡ true
others_awaited other number status [] known there = there
others_awaited other number status (message ∷ messages) known there = by_number (has_number number message) there (others_awaited other number status messages known)
  where
    or_second : (a b : Bool) → b ≡ true → (a || b) ≡ true
    or_second true b is = refl
    or_second false b is = is

    either : (a b c : Bool) → (a || b) ≡ true → (b ≡ true → c ≡ true) → (a || c) ≡ true
    either true b c is rest = refl
    either false b c is rest = rest is

    nobody : (b : Bool) → cond b (is_unanswered status) false ≡ false
    nobody true = known
    nobody false = refl

    by_number : (b : Bool)
        → (is_awaited_message other (cond b (record message { status = status }) message)
        || list_any (is_awaited_message other) (messages_with_status number status messages)) ≡ true
        → (list_any (is_awaited_message other) (messages_with_status number status messages) ≡ true → list_any (is_awaited_message other) messages ≡ true)
        → (is_awaited_message other message || list_any (is_awaited_message other) messages) ≡ true
    by_number true there rest =
        or_second (is_awaited_message other message) (list_any (is_awaited_message other) messages)
        (rest (sym (ap (λ b. b || list_any (is_awaited_message other) (messages_with_status number status messages)) (nobody (message.number == other))) ∙ there))
    by_number false there rest =
        either (is_awaited_message other message) (list_any (is_awaited_message other) (messages_with_status number status messages))
        (list_any (is_awaited_message other) messages) there rest

-- what a work waits for once a message has ended: others, for which it waited before
told-awaits : (other number : ℕ) (status : Status) (work : Work) (stage : WorkStage) → is_unanswered status ≡ false
    → list_any (is_awaited_message other) (open_messages (stage_with_status number status stage)) ≡ true
    → (other ≢ number) × (list_any (is_awaited_message other) (open_messages stage) ≡ true)
told-awaits other number status work (Open attempt) known there = (
  λ same.
      let wrong : true ≡ false
      = sym there ∙ ap (λ n. list_any (is_awaited_message n) (messages_with_status number status attempt.messages)) same
      ∙ not_awaited number status attempt.messages known in
      absurd (cc (wrong)),
  others_awaited other number status attempt.messages known there,
)
told-awaits other number status work Ended known there = absurd (cc (there))
told-awaits other number status work (WaitsForMembers epoch) known there = absurd (cc (there))

-- nobody else waits for the message of a request
others-number : (askers : Numbers) (works : Works) (number other req r : ℕ) (mine theirs : Work) → AreAskers askers works
    → tree.get works req ≡ Some mine → is_awaited_in number mine ≡ true → tree.get works r ≡ Some theirs → is_awaited_in other theirs ≡ true
    → r ≢ req → other ≢ number
others-number askers works number other req r mine theirs are at awaited at_r awaited_r apart same =
    let leads : tree.get askers number ≡ Some req = are number req mine at awaited in
    let leads_r : tree.get askers number ≡ Some r = ap (tree.get askers) (sym same) ∙ are other r theirs at_r awaited_r in
    apart (same_Some r req (sym leads_r ∙ leads))

-- the work goes on, and waits for no more than its other messages
AreAskers-on : (askers : Numbers) (works : Works) (number req : ℕ) (status : Status) (work : Work) → AreAskers askers works
    → tree.get works req ≡ Some work → is_awaited_in number work ≡ true → is_unanswered status ≡ false
    → AreAskers (tree.remove askers number) (tree.insert works req (work_with_status number status work))
AreAskers-on askers works number req status work are at awaited known other r found at_r awaited_r = elim (cases_eq r req) [
  | inl same ↦
      let told : Work = work_with_status number status work in
      let is : told ≡ found = same_Some told found (sym (get-insert_same works req told) ∙ ap (tree.get (tree.insert works req told)) (sym same) ∙ at_r) in
      let both = told-awaits other number status work work.stage known (ap (is_awaited_in other) is ∙ awaited_r) in
      get-remove_other askers number other both.0 ∙ are other req work at both.1 ∙ ap Some (sym same)
  | inr apart ↦
      let before : tree.get works r ≡ Some found = sym (get-insert_other works req (work_with_status number status work) r apart) ∙ at_r in
      get-remove_other askers number other (others-number askers works number other req r work found are at awaited before awaited_r apart)
      ∙ are other r found before awaited_r
]

-- the work waits for no message any more
AreAskers-failed : (askers : Numbers) (works : Works) (number req : ℕ) (work told : Work) → AreAskers askers works
    → tree.get works req ≡ Some work → is_awaited_in number work ≡ true
    → AreAskers (tree.remove askers number) (tree.insert works req (work_failed told))
AreAskers-failed askers works number req work told are at awaited other r found at_r awaited_r = elim (cases_eq r req) [
  | inl same ↦
      let is : work_failed told ≡ found
      = same_Some (work_failed told) found (sym (get-insert_same works req (work_failed told)) ∙ ap (tree.get (tree.insert works req (work_failed told))) (sym same) ∙ at_r) in
      let wrong : false ≡ true = ap (is_awaited_in other) is ∙ awaited_r in
      absurd (cc (wrong))
  | inr apart ↦
      let before : tree.get works r ≡ Some found = sym (get-insert_other works req (work_failed told) r apart) ∙ at_r in
      get-remove_other askers number other (others-number askers works number other req r work found are at awaited before awaited_r apart)
      ∙ are other r found before awaited_r
]

-- the work is done or refused, and goes
AreAskers-gone : (askers : Numbers) (works : Works) (number req : ℕ) (work : Work) → AreAskers askers works
    → tree.get works req ≡ Some work → is_awaited_in number work ≡ true
    → AreAskers (tree.remove askers number) (tree.remove works req)
AreAskers-gone askers works number req work are at awaited other r found at_r awaited_r = elim (cases_eq r req) [
  | inl same ↦
      let wrong : None ≡ Some found = sym (get-remove_same works req) ∙ ap (tree.get (tree.remove works req)) (sym same) ∙ at_r in
      absurd (cc (wrong))
  | inr apart ↦
      let before : tree.get works r ≡ Some found = sym (get-remove_other works req r apart) ∙ at_r in
      get-remove_other askers number other (others-number askers works number other req r work found are at awaited before awaited_r apart)
      ∙ are other r found before awaited_r
]

pub AreAskers-told : (askers : Numbers) (works : Works) (number req : ℕ) (status : Status) (work : Work) (outcome : Outcome) → AreAskers askers works
    → tree.get works req ≡ Some work → is_awaited_in number work ≡ true → is_unanswered status ≡ false
    → AreAskers (tree.remove askers number) (works_by req (work_with_status number status work) outcome works)
AreAskers-told askers works number req status work outcomes.Awaited are at awaited known = AreAskers-on askers works number req status work are at awaited known
AreAskers-told askers works number req status work outcomes.Failed are at awaited known =
    AreAskers-failed askers works number req work (work_with_status number status work) are at awaited
AreAskers-told askers works number req status work (outcomes.Done bytes) are at awaited known = AreAskers-gone askers works number req work are at awaited
AreAskers-told askers works number req status work (outcomes.Refused cause) are at awaited known = AreAskers-gone askers works number req work are at awaited

-- ---- what an attempt that begins sends

abbrev messages_in : Beginning → List Message
messages_in (beginnings.Sends messages sends) = messages
messages_in beginnings.Waits = []
messages_in (beginnings.Refused cause) = []

pub messages-sent : (epochs : List EpochMembers) (me : NodeId) (work : ObjWork) (ended : ℕ) (touched : Bool) (first : ℕ) (epoch : Epoch)
    (messages : List Message) (sends : Sends) → beginnings.Sends messages sends ≡ beginning_of epochs me work ended touched first epoch
    → messages ≡ messages_of work ended first (targets_in epochs epoch.0 (oid_of work) (policy_of work))
messages-sent epochs me work ended touched first epoch messages sends is =
    by_test (nat_lt (zone_count (members_at epochs epoch.0)) (zones_for work)) touched is
  where
    by_test : (b t : Bool)
        → beginnings.Sends messages sends
        ≡ cond b (cond t beginnings.Waits (beginnings.Refused (Halt (zone_count (members_at epochs epoch.0)) (zones_for work))))
        (sends_beginning me epoch work (messages_of work ended first (targets_in epochs epoch.0 (oid_of work) (policy_of work))))
        → messages ≡ messages_of work ended first (targets_in epochs epoch.0 (oid_of work) (policy_of work))
    by_test true true is = absurd (cc (is))
    by_test true false is = absurd (cc (is))
    by_test false t is = ap messages_in is

-- nobody waits for one of its numbers yet
pub sent-others : (gateway : Gateway) (work : ObjWork) (ended first : ℕ) (targets : List NodeId) (messages : List Message)
    → list_all (λ number. nat_lt number first) (open_numbers gateway) ≡ true → messages ≡ messages_of work ended first targets
    → (number r : ℕ) (theirs : Work) → tree.get gateway.works r ≡ Some theirs → is_awaited_in number theirs ≡ true
    → list_any (has_number number) messages ≡ false
sent-others gateway work ended first targets messages all is number r theirs at awaited =
    ap (list_any (has_number number)) is
    ∙ none-of_messages work ended first number targets (awaited-below gateway first number r theirs all at awaited)
