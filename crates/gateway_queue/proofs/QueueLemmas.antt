-- What stands before a request, and what that says of whether it may run.
use Rattle.std.proofs.Common.{◌≡◌, inl, inr, ℕ, suc, ◌+◌, ◌<◌, ◌≤◌, nat_le, ◌&&◌, ◌||◌, not, Bool, true, false, cond, List, [], ◌∷◌, ◌++◌, length, take, drop, filter, get_or, All, Option, Some, None, refl, ap, sym, ◌∙◌, arith}
use Rattle.std.specs.List.{find, list_any, before_first, prefix_len, position, position_or_len}
use Rattle.std.specs.Option.{option_map_or, is_some}
use Rattle.std.proofs.lemmas.Bool.{both_ways, and_parts, and_from, and_cases, or_parts, or_from, or_right, not-true, not_from_false, cond_both, cases_Bool, cases_lt, eqb-true, eqb-false, eq-eqb, ne_eqb, le-leb, leb-true, leb-false, lt-ltb, false_from_ne_true}
use Rattle.std.proofs.lemmas.List.{drop_more, take-append-drop, get_or-take, length-take-le, get_or_default}
use Rattle.std.proofs.lemmas.List.Quantifiers.{position-Some}
use Rattle.std.proofs.lemmas.List.Elements.{All-nil, All-cons}
use Rattle.std.proofs.lemmas.List.Folds.{list_any-append, list_any_none, list_any_at}
use Rattle.gateway_queue.specs.declared.queue.Queued.{Queued}
use Rattle.gateway_queue.specs.Queue.{has_request_number, is_queued, is_queue, queue_without, meet, earlier, may_run, AreApart, MayRun}

find-split : {X : Type 0} (p : X → Bool) (before : List X) (x : X) (after : List X) → list_any p before ≡ false → p x ≡ true
    → find p (before ++ x ∷ after) ≡ Some x
find-split p [] x after none here = ap (λ b. cond b (Some x) (find p after)) here
find-split p (y ∷ before) x after none here =
    let parts : (p y ≡ false) × (list_any p before ≡ false) = or_parts (p y) (list_any p before) none in
    ap (λ b. cond b (Some y) (find p (before ++ x ∷ after))) parts.0 ∙ find-split p before x after parts.1 here

-- what fails stands before the first that passes
pub before_first-more : {X : Type 0} (p : X → Bool) (y : X) (xs : List X) → p y ≡ false → before_first p (y ∷ xs) ≡ y ∷ before_first p xs
before_first-more p y xs fails =
    let n : ℕ = prefix_len (λ z. not (p z)) xs in
    let one : 1 + n ≡ suc n = omega arith in
    ap (λ b. take (cond (not b) (1 + n) 0) (y ∷ xs)) fails ∙ ap (λ k. take k (y ∷ xs)) one

pub before_first-split : {X : Type 0} (p : X → Bool) (before : List X) (x : X) (after : List X) → list_any p before ≡ false → p x ≡ true
    → before_first p (before ++ x ∷ after) ≡ before
before_first-split p [] x after none here =
    ap (λ b. take (cond (not b) (1 + prefix_len (λ z. not (p z)) after) 0) (x ∷ after)) here
before_first-split p (y ∷ before) x after none here =
    let parts : (p y ≡ false) × (list_any p before ≡ false) = or_parts (p y) (list_any p before) none in
    before_first-more p y (before ++ x ∷ after) parts.0 ∙ ap (λ zs. y ∷ zs) (before_first-split p before x after parts.1 here)

list_any-here : {X : Type 0} (p : X → Bool) (before : List X) (x : X) (after : List X) → p x ≡ true → list_any p (before ++ x ∷ after) ≡ true
list_any-here p [] x after here = ap (λ b. b || list_any p after) here
list_any-here p (y ∷ before) x after here = or_right (p y) (list_any p (before ++ x ∷ after)) (list_any-here p before x after here)

pub list_any-filter : {X : Type 0} (p q : X → Bool) (xs : List X) → list_any p xs ≡ false → list_any p (filter q xs) ≡ false
list_any-filter p q [] none = refl
list_any-filter p q (x ∷ xs) none =
    let parts : (p x ≡ false) × (list_any p xs ≡ false) = or_parts (p x) (list_any p xs) none in
    let rest : list_any p (filter q xs) ≡ false = list_any-filter p q xs parts.1 in
    cond_both (q x) (x ∷ filter q xs) (filter q xs) (λ zs. list_any p zs ≡ false)
    (λ _. or_from (p x) (list_any p (filter q xs)) parts.0 rest) (λ _. rest)

-- the first request of a number, with what stands before and after it
pub record Split (req : ℕ) (queue : List Queued) : Type 0 where
  pub before : List Queued
  pub mine : Queued
  pub after : List Queued
  pub is : queue ≡ before ++ mine ∷ after
  pub number : mine.req ≡ req
  pub none : is_queued req before ≡ false

pub split_at : (req : ℕ) (queue : List Queued) → is_queued req queue ≡ true → Split req queue
split_at req [] there = absurd (cc)
split_at req (queued ∷ queue) there = elim (cases_Bool (has_request_number req queued)) [
  | inl here ↦ record { before = []; mine = queued; after = queue; is = refl; number = eqb-true queued.req req here; none = refl }
  | inr other ↦ (
      let rest : Split req queue = split_at req queue (sym (ap (λ b. b || is_queued req queue) other) ∙ there) in
      record {
        before = queued ∷ rest.before;
        mine = rest.mine;
        after = rest.after;
        is = ap (λ qs. queued ∷ qs) rest.is;
        number = rest.number;
        none = or_from (has_request_number req queued) (is_queued req rest.before) other rest.none;
      })
]

-- whether a request may run is said by what stands before it
pub may_run-split : (req : ℕ) (before : List Queued) (mine : Queued) (after : List Queued) → is_queued req before ≡ false
    → mine.req ≡ req → may_run req (before ++ mine ∷ after) ≡ not (list_any (meet mine) before)
may_run-split req before mine after none number =
    let here : has_request_number req mine ≡ true = eq-eqb mine.req req number in
    ap (λ (o : Option Queued). option_map_or (λ one. not (list_any (meet one) (earlier req (before ++ mine ∷ after)))) o false)
    (find-split (has_request_number req) before mine after none here)
    ∙ ap (λ others. not (list_any (meet mine) others)) (before_first-split (has_request_number req) before mine after none here)

-- what a queue is, at its first request
is_queue-parts : (queued : Queued) (queue : List Queued) → is_queue (queued ∷ queue) ≡ true
    → (nat_le queued.first queued.last ≡ true) × (is_queued queued.req queue ≡ false) × (is_queue queue ≡ true)
is_queue-parts queued queue kept =
    let first : (nat_le queued.first queued.last ≡ true) × ((not (is_queued queued.req queue) && is_queue queue) ≡ true)
    = and_parts (nat_le queued.first queued.last) (not (is_queued queued.req queue) && is_queue queue) kept in
    let rest : (not (is_queued queued.req queue) ≡ true) × (is_queue queue ≡ true)
    = and_parts (not (is_queued queued.req queue)) (is_queue queue) first.1 in
    (first.0, not-true (is_queued queued.req queue) rest.0, rest.1)

is_queue-cons : (queued : Queued) (queue : List Queued) → nat_le queued.first queued.last ≡ true → is_queued queued.req queue ≡ false
    → is_queue queue ≡ true → is_queue (queued ∷ queue) ≡ true
is_queue-cons queued queue span new kept =
    and_from (nat_le queued.first queued.last) (not (is_queued queued.req queue) && is_queue queue) span
    (and_from (not (is_queued queued.req queue)) (is_queue queue) (not_from_false (is_queued queued.req queue) new) kept)

-- each number is there once
pub none_before : (before : List Queued) (mine : Queued) (after : List Queued) → is_queue (before ++ mine ∷ after) ≡ true
    → is_queued mine.req before ≡ false
none_before [] mine after kept = refl
none_before (queued ∷ before) mine after kept =
    let parts = is_queue-parts queued (before ++ mine ∷ after) kept in
    or_from (has_request_number mine.req queued) (is_queued mine.req before)
    (ne_eqb queued.req mine.req (λ (same : queued.req ≡ mine.req). both_ways (is_queued queued.req (before ++ mine ∷ after)) parts.1
    (list_any-here (has_request_number queued.req) before mine after (eq-eqb mine.req queued.req (sym same)))))
    (none_before before mine after parts.2)

pub is_queue-push : (queue : List Queued) (queued : Queued) → is_queue queue ≡ true → is_queued queued.req queue ≡ false
    → queued.first ≤ queued.last → is_queue (queue ++ queued ∷ []) ≡ true
is_queue-push [] queued kept new span = is_queue-cons queued [] (le-leb queued.first queued.last span) refl refl
is_queue-push (first ∷ queue) queued kept new span =
    let parts = is_queue-parts first queue kept in
    let others : (has_request_number queued.req first ≡ false) × (is_queued queued.req queue ≡ false)
    = or_parts (has_request_number queued.req first) (is_queued queued.req queue) new in
    let apart : has_request_number first.req queued ≡ false
    = ne_eqb queued.req first.req (λ (same : queued.req ≡ first.req). eqb-false first.req queued.req others.0 (sym same)) in
    let absent : is_queued first.req (queue ++ queued ∷ []) ≡ false
    = list_any-append (has_request_number first.req) queue (queued ∷ [])
    ∙ or_from (is_queued first.req queue) (is_queued first.req (queued ∷ [])) parts.1 (or_from (has_request_number first.req queued) false apart refl) in
    is_queue-cons first (queue ++ queued ∷ []) parts.0 absent (is_queue-push queue queued parts.2 others.1 span)

pub is_queue-queue_without : (req : ℕ) (queue : List Queued) → is_queue queue ≡ true → is_queue (queue_without req queue) ≡ true
is_queue-queue_without req [] kept = refl
is_queue-queue_without req (queued ∷ queue) kept =
    let parts = is_queue-parts queued queue kept in
    let rest : is_queue (queue_without req queue) ≡ true = is_queue-queue_without req queue parts.2 in
    cond_both (not (has_request_number req queued)) (queued ∷ queue_without req queue) (queue_without req queue) (λ qs. is_queue qs ≡ true)
    (λ _. is_queue-cons queued (queue_without req queue) parts.0
    (list_any-filter (has_request_number queued.req) (λ other. not (has_request_number req other)) queue parts.1) rest)
    (λ _. rest)

-- two requests meet exactly where some index is in both
apart-meet : (mine other : Queued) → meet mine other ≡ false → AreApart other mine
apart-meet mine other apart index in_other in_mine = elim (and_cases (nat_le mine.first other.last) (nat_le other.first mine.last) apart) [
  | inl above ↦ (let e : other.last < mine.first = leb-false mine.first other.last above in omega arith)
  | inr below ↦ (let e : mine.last < other.first = leb-false other.first mine.last below in omega arith)
]

meet-apart : (mine other : Queued) → mine.first ≤ mine.last → other.first ≤ other.last → AreApart other mine → meet mine other ≡ false
meet-apart mine other span others apart = false_from_ne_true (meet mine other) (λ (both : meet mine other ≡ true). common both)
  where
    common : meet mine other ≡ true → ⊥
    common both =
        let parts : (nat_le mine.first other.last ≡ true) × (nat_le other.first mine.last ≡ true)
        = and_parts (nat_le mine.first other.last) (nat_le other.first mine.last) both in
        let low : mine.first ≤ other.last = leb-true mine.first other.last parts.0 in
        let high : other.first ≤ mine.last = leb-true other.first mine.last parts.1 in
        elim (cases_lt mine.first other.first) [
          | inl lower ↦ apart other.first (omega arith, omega arith) (omega arith, omega arith)
          | inr above ↦ apart mine.first (omega arith, omega arith) (omega arith, omega arith)
        ]

-- whether a request may run, in the words of indices
pub MayRun-from : (req : ℕ) (queue : List Queued) → is_queue queue ≡ true → may_run req queue ≡ true → MayRun req queue
MayRun-from req queue kept runs before after mine is number k d within =
    let whole : is_queue (before ++ mine ∷ after) ≡ true = sym (ap is_queue is) ∙ kept in
    let none : is_queued req before ≡ false = ap (λ n. is_queued n before) (sym number) ∙ none_before before mine after whole in
    let free : not (list_any (meet mine) before) ≡ true
    = sym (may_run-split req before mine after none number) ∙ sym (ap (may_run req) is) ∙ runs in
    let no : list_any (meet mine) before ≡ false = not-true (list_any (meet mine) before) free in
    apart-meet mine (get_or before k d)
    (false_from_ne_true (meet mine (get_or before k d))
    (λ (both : meet mine (get_or before k d) ≡ true). both_ways (list_any (meet mine) before) no (list_any_at (meet mine) before k d within both)))

span_in : (before : List Queued) (mine : Queued) (after : List Queued) → is_queue (before ++ mine ∷ after) ≡ true
    → (mine.first ≤ mine.last) × All (λ queued. queued.first ≤ queued.last) before
span_in [] mine after kept =
    let parts = is_queue-parts mine after kept in
    (leb-true mine.first mine.last parts.0, All-nil (λ (queued : Queued). queued.first ≤ queued.last))
span_in (queued ∷ before) mine after kept =
    let parts = is_queue-parts queued (before ++ mine ∷ after) kept in
    let rest : (mine.first ≤ mine.last) × All (λ queued. queued.first ≤ queued.last) before = span_in before mine after parts.2 in
    (rest.0, All-cons (λ (queued : Queued). queued.first ≤ queued.last) queued before (leb-true queued.first queued.last parts.0) rest.1)

pub may_run-from : (req : ℕ) (queue : List Queued) → is_queue queue ≡ true → is_queued req queue ≡ true → MayRun req queue → may_run req queue ≡ true
may_run-from req queue kept there free =
    let s : Split req queue = split_at req queue there in
    let whole : is_queue (s.before ++ s.mine ∷ s.after) ≡ true = sym (ap is_queue s.is) ∙ kept in
    let spans : (s.mine.first ≤ s.mine.last) × All (λ queued. queued.first ≤ queued.last) s.before = span_in s.before s.mine s.after whole in
    let apart : All (λ other. AreApart other s.mine) s.before = free s.before s.after s.mine s.is s.number in
    let no : list_any (meet s.mine) s.before ≡ false
    = list_any_none (meet s.mine) s.before (λ k d within. meet-apart s.mine (get_or s.before k d) spans.0 (spans.1 k d within) (apart k d within)) in
    ap (may_run req) s.is ∙ may_run-split req s.before s.mine s.after s.none s.number ∙ not_from_false (list_any (meet s.mine) s.before) no

-- a request that is there has a place
first-below : {X : Type 0} (p : X → Bool) (xs : List X) → list_any p xs ≡ true → position_or_len p xs < length xs
first-below p [] there = absurd (cc)
first-below p (x ∷ xs) there = elim (cases_Bool (p x)) [
  | inl here ↦ (let e : position_or_len p (x ∷ xs) ≡ 0 = ap (λ b. cond (not b) (1 + position_or_len p xs) 0) here in omega arith)
  | inr other ↦ (
      let e : position_or_len p (x ∷ xs) ≡ 1 + position_or_len p xs = ap (λ b. cond (not b) (1 + position_or_len p xs) 0) other in
      let rest : position_or_len p xs < length xs = first-below p xs (sym (ap (λ b. b || list_any p xs) other) ∙ there) in
      omega arith)
]

pub position-there : (req : ℕ) (queue : List Queued) → is_queued req queue ≡ true → is_some (position (has_request_number req) queue) ≡ true
position-there req queue there =
    let first : ℕ = position_or_len (has_request_number req) queue in
    ap (λ b. is_some (cond b (Some first) None)) (lt-ltb first (length queue) (first-below (has_request_number req) queue there))

-- whether the request at this place may run
pub may_run-place : (req : ℕ) (queue : List Queued) (place : ℕ) (d : Queued) → position (has_request_number req) queue ≡ Some place
    → may_run req queue ≡ not (list_any (meet (get_or queue place d)) (take place queue))
may_run-place req queue place d found =
    let at_place = position-Some (has_request_number req) queue place d found in
    let is : queue ≡ take place queue ++ get_or queue place d ∷ drop (place + 1) queue
    = sym (take-append-drop place queue) ∙ ap (λ rest. take place queue ++ rest) (drop_more queue place d at_place.0) in
    let long : length (take place queue) ≡ place = length-take-le place queue (omega arith) in
    let none : is_queued req (take place queue) ≡ false
    = list_any_none (has_request_number req) (take place queue) (λ k e within.
    (let below : k < place = omega arith in
    ap (has_request_number req) (get_or-take place queue k e below ∙ get_or_default queue k e d (omega (arith, at_place.0))) ∙ at_place.2 k below)) in
    ap (may_run req) is
    ∙ may_run-split req (take place queue) (get_or queue place d) (drop (place + 1) queue) none (eqb-true (get_or queue place d).req req at_place.1)
