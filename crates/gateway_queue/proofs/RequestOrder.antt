-- What the laws say: of requests that may run, of those that are pushed later, and of those that are done.
use Rattle.std.proofs.Common.{◌≡◌, ◌≢◌, ◌⊎◌, inl, inr, ℕ, ◌+◌, ◌<◌, ◌≤◌, nat_lt, ◌||◌, not, true, false, cond, List, [], ◌∷◌, ◌++◌, length, take, drop, map, filter, get_or, All, Contains, Some, refl, ap, sym, subst, ◌∙◌, arith, append_assoc}
use Rattle.std.specs.List.{find, list_any}
use Rattle.std.specs.List.Sorted.{IsStrictlyIncreasing}
use Rattle.std.specs.Option.{option_map_or}
use Rattle.std.proofs.lemmas.Bool.{not-true, not_from_false, or_cases, cond-false, cases_lt, cases_eq, cases_Bool, cond-true, ne_eqb, lt-ltb, le-ltb, eqb-true}
use Rattle.std.proofs.lemmas.List.{drop_more, take-append-drop, get_or-take, length-take-le, get_or_default}
use Rattle.std.proofs.lemmas.List.Elements.{filter-append, All-head, All-tail}
use Rattle.proof_tools.proofs.AscendingNumbers.{IsStrictlyIncreasing-tail, IsStrictlyIncreasing-first}
use Rattle.gateway_queue.specs.declared.queue.Queued.{Queued}
use Rattle.gateway_queue.specs.Queue.{has_request_number, is_queued, is_queue, queue_without, meet, earlier, may_run, AreApart}
use Rattle.gateway_queue.proofs.QueueLemmas.{Split, split_at, may_run-split, list_any-filter, MayRun-from, before_first-split, before_first-more}

pub may_run-pushed : (queue later : List Queued) (req : ℕ) → is_queued req queue ≡ true → may_run req (queue ++ later) ≡ may_run req queue
may_run-pushed queue later req there =
    let s : Split req queue = split_at req queue there in
    let is : queue ++ later ≡ s.before ++ s.mine ∷ (s.after ++ later)
    = ap (λ qs. qs ++ later) s.is ∙ append_assoc s.before (s.mine ∷ s.after) later in
    ap (may_run req) is ∙ may_run-split req s.before s.mine (s.after ++ later) s.none s.number
    ∙ sym (ap (may_run req) s.is ∙ may_run-split req s.before s.mine s.after s.none s.number)

-- only a request that is there may run
there_from : (req : ℕ) (queue rest : List Queued)
    → option_map_or (λ mine. not (list_any (meet mine) rest)) (find (has_request_number req) queue) false ≡ true → is_queued req queue ≡ true
there_from req [] rest runs = absurd (cc)
there_from req (queued ∷ queue) rest runs = elim (cases_Bool (has_request_number req queued)) [
  | inl here ↦ ap (λ b. b || is_queued req queue) here
  | inr other ↦ (
      let next : option_map_or (λ mine. not (list_any (meet mine) rest)) (find (has_request_number req) queue) false ≡ true
      = sym (ap (λ b. option_map_or (λ mine. not (list_any (meet mine) rest)) (cond b (Some queued) (find (has_request_number req) queue)) false) other) ∙ runs in
      ap (λ b. b || is_queued req queue) other ∙ there_from req queue rest next)
]

pub may_run-done : (queue : List Queued) (req other : ℕ) → other ≢ req → may_run req queue ≡ true → may_run req (queue_without other queue) ≡ true
may_run-done queue req other apart runs =
    let there : is_queued req queue ≡ true = there_from req queue (earlier req queue) runs in
    let s : Split req queue = split_at req queue there in
    let stays : not (has_request_number other s.mine) ≡ true
    = not_from_false (has_request_number other s.mine) (ne_eqb s.mine.req other (λ (same : s.mine.req ≡ other). apart (sym same ∙ s.number))) in
    let is : queue_without other queue ≡ queue_without other s.before ++ s.mine ∷ queue_without other s.after
    = ap (queue_without other) s.is ∙ filter-append (λ queued. not (has_request_number other queued)) s.before (s.mine ∷ s.after)
    ∙ ap (λ qs. queue_without other s.before ++ qs) (cond-true (not (has_request_number other s.mine)) (s.mine ∷ queue_without other s.after) (queue_without other s.after) stays) in
    let free : list_any (meet s.mine) s.before ≡ false
    = not-true (list_any (meet s.mine) s.before)
    (sym (may_run-split req s.before s.mine s.after s.none s.number) ∙ sym (ap (may_run req) s.is) ∙ runs) in
    ap (may_run req) is
    ∙ may_run-split req (queue_without other s.before) s.mine (queue_without other s.after)
    (list_any-filter (has_request_number req) (λ queued. not (has_request_number other queued)) s.before s.none) s.number
    ∙ not_from_false (list_any (meet s.mine) (queue_without other s.before))
    (list_any-filter (meet s.mine) (λ queued. not (has_request_number other queued)) s.before free)

pub may_run-oldest : (oldest : Queued) (queue : List Queued) → may_run oldest.req (oldest ∷ queue) ≡ true
may_run-oldest oldest queue = may_run-split oldest.req [] oldest queue refl refl

-- the earlier one of two requests leaves the later one its indices
earlier_apart : (queue : List Queued) (one other : Queued) (j k : ℕ) → is_queue queue ≡ true → j < k → k < length queue
    → get_or queue j one ≡ one → get_or queue k other ≡ other → may_run other.req queue ≡ true → AreApart one other
earlier_apart queue one other j k kept before within at_j at_k runs =
    let is : queue ≡ take k queue ++ other ∷ drop (k + 1) queue
    = sym (take-append-drop k queue) ∙ ap (λ rest. take k queue ++ rest) (drop_more queue k other within ∙ ap (λ first. first ∷ drop (k + 1) queue) at_k) in
    let long : length (take k queue) ≡ k = length-take-le k queue (omega arith) in
    let apart : AreApart (get_or (take k queue) j one) other
    = MayRun-from other.req queue kept runs (take k queue) (drop (k + 1) queue) other is refl j one (omega arith) in
    subst (λ first. AreApart first other) (get_or-take k queue j one before ∙ at_j) apart

pub running_apart : (queue : List Queued) (one other : Queued) → is_queue queue ≡ true → Contains queue one → Contains queue other
    → one.req ≢ other.req → may_run one.req queue ≡ true → may_run other.req queue ≡ true → AreApart one other
running_apart queue one other kept in_one in_other differ runs others_run = by_place (cases_lt in_one.0 in_other.0)
  where
    differs : in_one.0 ≡ in_other.0 → ⊥
    differs same = differ (ap (λ (queued : Queued). queued.req)
        (sym in_one.2 ∙ get_or_same ∙ in_other.2))
      where
        get_or_same : get_or queue in_one.0 one ≡ get_or queue in_other.0 other
        get_or_same = get_or_default queue in_one.0 one other in_one.1 ∙ ap (λ place. get_or queue place other) same

    by_place : (in_one.0 < in_other.0) ⊎ (in_other.0 ≤ in_one.0) → AreApart one other
    by_place (inl before) = earlier_apart queue one other in_one.0 in_other.0 kept before in_other.1 in_one.2 in_other.2 others_run
    by_place (inr behind) = elim (cases_eq in_other.0 in_one.0) [
      | inl same ↦ absurd (differs (sym same))
      | inr apart ↦ (λ index covers_one covers_other. earlier_apart queue other one in_other.0 in_one.0 kept (omega arith) in_one.1 in_other.2 in_one.2 runs index covers_other covers_one)
    ]

abbrev numbers : List Queued → List ℕ
numbers queue = map (λ (queued : Queued). queued.req) queue

abbrev lower : ℕ → List Queued → List Queued
lower req queue = filter (λ (queued : Queued). nat_lt queued.req req) queue

lower-none : (req : ℕ) (queue : List Queued) → All (λ y. req < y) (numbers queue) → lower req queue ≡ []
lower-none req [] above = refl
lower-none req (queued ∷ queue) above =
    let first : req < queued.req = All-head (λ y. req < y) queued.req (numbers queue) above in
    cond-false (nat_lt queued.req req) (queued ∷ lower req queue) (lower req queue) (le-ltb queued.req req (omega arith))
    ∙ lower-none req queue (All-tail (λ y. req < y) queued.req (numbers queue) above)

below_queued : (n req : ℕ) (queue : List Queued) → is_queued req queue ≡ true → All (λ y. n < y) (numbers queue) → n < req
below_queued n req [] there above = absurd (cc)
below_queued n req (queued ∷ queue) there above = elim (or_cases (has_request_number req queued) (is_queued req queue) there) [
  | inl here ↦ subst (λ y. n < y) (eqb-true queued.req req here) (All-head (λ y. n < y) queued.req (numbers queue) above)
  | inr later ↦ below_queued n req queue later (All-tail (λ y. n < y) queued.req (numbers queue) above)
]

-- where numbers ascend, what stands before a request has the lower numbers
pub earlier-lower : (queue : List Queued) (req : ℕ) → IsStrictlyIncreasing (map (λ (queued : Queued). queued.req) queue)
    → is_queued req queue ≡ true → earlier req queue ≡ filter (λ (queued : Queued). nat_lt queued.req req) queue
earlier-lower [] req up there = absurd (cc)
earlier-lower (queued ∷ queue) req up there =
    let above : All (λ y. queued.req < y) (numbers queue) = IsStrictlyIncreasing-first queued.req (numbers queue) up in
    elim (cases_Bool (has_request_number req queued)) [
      | inl here ↦ (
          let same : queued.req ≡ req = eqb-true queued.req req here in
          let rest : lower req queue ≡ [] = lower-none req queue (subst (λ n. All (λ y. n < y) (numbers queue)) same above) in
          before_first-split (has_request_number req) [] queued queue refl here
          ∙ sym (cond-false (nat_lt queued.req req) (queued ∷ lower req queue) (lower req queue) (le-ltb queued.req req (omega arith)) ∙ rest))
      | inr other ↦ (
          let later : is_queued req queue ≡ true = sym (ap (λ b. b || is_queued req queue) other) ∙ there in
          let below : queued.req < req = below_queued queued.req req queue later above in
          before_first-more (has_request_number req) queued queue other
          ∙ ap (λ qs. queued ∷ qs) (earlier-lower queue req (IsStrictlyIncreasing-tail queued.req (numbers queue) up) later)
          ∙ sym (cond-true (nat_lt queued.req req) (queued ∷ lower req queue) (lower req queue) (lt-ltb queued.req req below)))
    ]
