-- The map from the numbers of messages to requests, as it grows and as it is asked.
use Rattle.std.proofs.Common.{◌≡◌, ℕ, zero, suc, ◌+◌, ◌<◌, ◌==◌, ◌||◌, Bool, true, false, cond, List, [], ◌∷◌, ◌++◌, length, take, get_or, Option, Some, None, Result, Ok, Err, OnErr, refl, sym, ap, ◌∙◌, arith}
use Rattle.std.specs.List.{find, list_any}
use Rattle.std.specs.Ordering.{nat_cmp}
use Rattle.std.specs.Cmp.{nat_cmp_total, unsigned_tied}
use Rattle.std.specs.FinMap as tree
use Rattle.std.proofs.lemmas.List.{take_more}
use Rattle.proof_tools.proofs.FiniteMaps.{get-entry, entries-contain}
use Rattle.proof_tools.proofs.Lists.{find-contains, list_any-none}
use Rattle.gateway.specs.declared.message.Message.{Message}
use Rattle.gateway.specs.State.{Work, Gateway, asker, is_awaited_in}
use Rattle.gateway.specs.Kept.{AreAskers, asked_in, asked_at, Works}
use Rattle.gateway.proofs.MessageLemmas.{has_number}

list_any-push : (p : Message → Bool) (messages : List Message) (message : Message)
    → list_any p (messages ++ message ∷ []) ≡ (p message || list_any p messages)
list_any-push p [] message = refl
list_any-push p (first ∷ messages) message =
    ap (λ b. p first || b) (list_any-push p messages message) ∙ swap (p first) (p message) (list_any p messages)
  where
    swap : (a b c : Bool) → (a || (b || c)) ≡ (b || (a || c))
    swap true true c = refl
    swap true false c = refl
    swap false b c = refl

pub on_err : {T E P : Type 0} → (r : Result T E) → P → OnErr r P
on_err (Ok x) p = tt
on_err (Err e) p = p

-- one more message leads to the request
pub asked-push : (askers before after : tree.FinMap nat_cmp ℕ) (messages : List Message) (k req : ℕ) (d : Message) → k < length messages
    → ((number : ℕ) → tree.get before number ≡ cond (list_any (has_number number) (take k messages)) (Some req) (tree.get askers number))
    → after ≡ tree.insert before (get_or messages k d).number req
    → (number : ℕ) → tree.get after number ≡ cond (list_any (has_number number) (take (k + 1) messages)) (Some req) (tree.get askers number)
asked-push askers before after messages k req d below so_far put number =
    ap (λ (m : tree.FinMap nat_cmp ℕ). tree.get m number) put
    ∙ tree.get-insert nat_cmp_total before (get_or messages k d).number req number
    ∙ ap (λ b. cond b (Some req) (tree.get before number)) (unsigned_tied number (get_or messages k d).number)
    ∙ ap (λ o. cond (number == (get_or messages k d).number) (Some req) o) (so_far number)
    ∙ joined (number == (get_or messages k d).number) (list_any (has_number number) (take k messages)) (tree.get askers number)
    ∙ ap (λ b. cond (b || list_any (has_number number) (take k messages)) (Some req) (tree.get askers number)) (turned number (get_or messages k d).number)
    ∙ sym (ap (λ b. cond b (Some req) (tree.get askers number))
    (ap (list_any (has_number number)) (take_more messages k d below) ∙ list_any-push (has_number number) (take k messages) (get_or messages k d)))
  where
    joined : (a b : Bool) (old : Option ℕ) → cond a (Some req) (cond b (Some req) old) ≡ cond (a || b) (Some req) old
    joined true b old = refl
    joined false b old = refl

    turned : (a b : ℕ) → (a == b) ≡ (b == a)
    turned a b = grind (arith)

-- a number of no message is of none of some of them
pub asked-some : (number k : ℕ) (messages : List Message) → list_any (has_number number) messages ≡ false
    → list_any (has_number number) (take k messages) ≡ false
asked-some number zero messages none = refl
asked-some number (suc k) [] none = refl
asked-some number (suc k) (message ∷ messages) none = by_number (has_number number message) none (asked-some number k messages)
  where
    by_number : (b : Bool) → (b || list_any (has_number number) messages) ≡ false
        → (list_any (has_number number) messages ≡ false → list_any (has_number number) (take k messages) ≡ false)
        → (b || list_any (has_number number) (take k messages)) ≡ false
    by_number true none rest = absurd (cc (none))
    by_number false none rest = rest none

-- ---- a message is found by its number

find-none : {X : Type 0} → (p : X → Bool) (xs : List X) → find p xs ≡ None → list_any p xs ≡ false
find-none p [] none = refl
find-none p (x ∷ xs) none = by_test (p x) none (find-none p xs)
  where
    by_test : (b : Bool) → cond b (Some x) (find p xs) ≡ None → (find p xs ≡ None → list_any p xs ≡ false) → (b || list_any p xs) ≡ false
    by_test true none rest = absurd (cc (none))
    by_test false none rest = rest none

abbrev awaits : ℕ → ℕ × Work → Bool
awaits number entry = is_awaited_in number entry.1

-- the work of a message is the one to which the map leads, if that waits for it
pub asked-is : (number : ℕ) (askers : tree.FinMap nat_cmp ℕ) (gateway : Gateway) → AreAskers askers gateway.works
    → asker number gateway ≡ asked_at number (tree.get askers number) gateway.works
asked-is number askers gateway are = by_found (find (awaits number) (tree.entries works)) refl
  where
    works : Works
    works = gateway.works

    by_work : (req : ℕ) (o : Option Work) → tree.get works req ≡ o → find (awaits number) (tree.entries works) ≡ None → None ≡ asked_in number req o
    by_work req None at none = refl
    by_work req (Some work) at none =
        let other : is_awaited_in number work ≡ false =
        list_any-none (awaits number) (tree.entries works) (req, work) (find-none (awaits number) (tree.entries works) none)
        (entries-contain tree.nat_cmp-IsAntisymmetric works req work at) in
        sym (ap (λ b. cond b (Some (req, work)) None) other)

    by_asker : (o : Option ℕ) → find (awaits number) (tree.entries works) ≡ None → None ≡ asked_at number o works
    by_asker None none = refl
    by_asker (Some req) none = by_work req (tree.get works req) refl none

    by_found : (o : Option (ℕ × Work)) → find (awaits number) (tree.entries works) ≡ o → o ≡ asked_at number (tree.get askers number) works
    by_found None found = by_asker (tree.get askers number) found
    by_found (Some entry) found =
        let there = find-contains (awaits number) (tree.entries works) entry found in
        let at : tree.get works entry.0 ≡ Some entry.1 = get-entry works entry there.0 in
        let leads : tree.get askers number ≡ Some entry.0 = are number entry.0 entry.1 at there.1 in
        sym
        (ap (λ o. asked_at number o works) leads ∙ ap (asked_in number entry.0) at
        ∙ ap (λ b. cond b (Some (entry.0, entry.1)) None) there.1)

-- the work of a message stands at its request, and waits for it
pub asker-has : (number : ℕ) (gateway : Gateway) (req : ℕ) (work : Work) → asker number gateway ≡ Some (req, work)
    → (tree.get gateway.works req ≡ Some work) × (is_awaited_in number work ≡ true)
asker-has number gateway req work found =
    let there = find-contains (awaits number) (tree.entries gateway.works) (req, work) found in
    (get-entry gateway.works (req, work) there.0, there.1)
