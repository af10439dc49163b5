-- No request stands in its session's queue twice.
use Rattle.std.proofs.Common.{◌≡◌, ◌≢◌, ⊎_elim, arith, ℕ, zero, suc, ◌≤◌, ◌<◌, Bool, true, false, not, cond, List, [], ◌∷◌, ◌++◌, slice_get}
use Rattle.std.proofs.Common.{Contains, Option, Some, None, refl, sym, ap, ◌∙◌}
use Rattle.std.specs.Prelude.{nat_le}
use Rattle.std.specs.List.{find, list_any}
use Rattle.std.specs.Option.{option_map_or}
use Rattle.std.specs.FinMap as tree
use Rattle.std.proofs.lemmas.Bool.{eq-eqb, ne_eqb, or_parts, and_from, both_ways, le-leb, not-true}
use Rattle.std.proofs.lemmas.List.Elements.{Contains-push_cases}
use Rattle.std.proofs.lemmas.Option.{same_Some}
use Rattle.proof_tools.proofs.Lists.{Contains-nil, Contains-head, Contains-cons, filter-contains}
use Rattle.gateway_queue.specs.declared.queue.Queued.{Queued}
use Rattle.gateway_queue.specs.Queue.{queue_without, has_request_number, earlier, meet, may_run, AreApart}
use Rattle.gateway_queue.proofs.QueueLemmas.{before_first-more}
use Rattle.sheep_node.specs.declared.input.Input.{Input}
use Rattle.sheep_node.specs.State.{Node}
use Rattle.sheep_node.specs.StepState.{StepState, at_first, session_in}
use Rattle.sheep_node.specs.Guests.{queued_as}
use Rattle.sheep_node.specs.SessionQueues.{is_disk_request_of, queue_in, AreDiskRequests}
use Rattle.sheep_node.specs.Changes.{IsSoundStep, input_received, Change, Leads}
use Rattle.sheep_node.proofs.OneWorkParts.{Sessions}
use Rattle.sheep_node.proofs.QueueChanges.{QueuesAre, change_keeps_queues, none_queued}
use Rattle.sheep_node.proofs.ReceivedInputs.{received_keeps}
use Rattle.sheep_node.proofs.StepChain.{kept_by_chain}
use Rattle.overlap_law.proofs.AttemptMessages.{contains_at}
use Rattle.overlap_law.proofs.ClosedQueues.{none_queues, change_queues}

-- no two of a queue are of one request
abbrev pub IsOnce : List Queued → Type 0
IsOnce [] = Unit {0}
IsOnce (one ∷ later) = ((other : Queued) → Contains later other → other.req ≢ one.req) × IsOnce later

once_pushed : (queue : List Queued) (new : Queued) → ((other : Queued) → Contains queue other → other.req ≢ new.req) → IsOnce queue
    → IsOnce (queue ++ new ∷ [])
once_pushed [] new free is = (λ other there. absurd (Contains-nil other there), tt)
once_pushed (one ∷ later) new free is = (
  λ other there. ⊎_elim
      (λ (old : Contains later other). is.0 other old)
      (λ (same : new ≡ other). λ (tie : other.req ≡ one.req).
      free one (Contains-head one later) (sym (ap (λ (q : Queued). q.req) same ∙ tie)))
      (Contains-push_cases later new other there),
  once_pushed later new (λ other there. free other (Contains-cons one later other there)) is.1,
)

once_without : (req : ℕ) (queue : List Queued) → IsOnce queue → IsOnce (queue_without req queue)
once_without req [] is = tt
once_without req (one ∷ later) is = by_test (not (has_request_number req one)) (once_without req later is.1)
  where
    by_test : (b : Bool) → IsOnce (queue_without req later) → IsOnce (cond b (one ∷ queue_without req later) (queue_without req later))
    by_test true rest = (
      λ other there. is.0 other (filter-contains (λ queued. not (has_request_number req queued)) later other there).0,
      rest,
    )
    by_test false rest = rest

-- ---- the queues of a node

abbrev pub AreOnceIn : Sessions → Type 0
AreOnceIn sessions = (number : ℕ) → IsOnce (queue_in number sessions)

abbrev pub QueuesAreOnce : StepState → Type 0
QueuesAreOnce so_far = AreOnceIn so_far.node.sessions

-- no session has a queue at first
pub none_once : AreOnceIn tree.empty
none_once = none_queues IsOnce tt once_without

-- a request that isn't there stands in no queue
free_in : (so_far : StepState) (session req : ℕ) → tree.get so_far.node.requests req ≡ None → QueuesAre so_far → (other : Queued)
    → Contains (queue_in session so_far.node.sessions) other → other.req ≢ req
free_in so_far session req none queued other there same =
    let on = queued.there session other.req (other, there, refl) in
    let off : is_disk_request_of session (tree.get so_far.node.requests other.req) ≡ false
    = ap (λ (k : ℕ). is_disk_request_of session (tree.get so_far.node.requests k)) same ∙ ap (is_disk_request_of session) none in
    cc (on, off)

module _ {input : Input} {node : Node} where
  change_once : IsSoundStep input node → (so_far next : StepState) → Change input node so_far next → QueuesAre so_far
      → QueuesAreOnce so_far → QueuesAreOnce next
  change_once sound so_far next change queued =
      change_queues IsOnce tt once_without so_far next change
      (λ session req ask disk arrival is.
      once_pushed (session_in session so_far).queue (queued_as disk.inode.spec.shift req ask)
      (λ other there. free_in so_far session req (arrival.none sound) queued other there) is)

  -- along a sound step
  pub once_so_far : IsSoundStep input node → {so_far : StepState} → Leads input node (input_received input (at_first node)) so_far
      → QueuesAre (at_first node) → QueuesAreOnce (at_first node) → QueuesAre so_far × QueuesAreOnce so_far
  once_so_far sound leads queued all =
      kept_by_chain (λ so_far. QueuesAre so_far × QueuesAreOnce so_far)
      (λ so_far next change both. (change_keeps_queues so_far next change sound both.0, change_once sound so_far next change both.0 both.1))
      leads (
        received_keeps (λ works requests sessions. AreDiskRequests requests sessions) none_queued input node queued,
        received_keeps (λ works requests sessions. AreOnceIn sessions) none_once input node all,
      )

-- ---- what is found in such a queue

pub found_once : (queue : List Queued) (place : ℕ) (one : Queued) → IsOnce queue → slice_get queue place ≡ Some one
    → find (has_request_number one.req) queue ≡ Some one
found_once [] place one is got = absurd (cc (got))
found_once (first ∷ later) zero one is got =
    let same : first ≡ one = same_Some first one got in
    ap (λ b. cond b (Some first) (find (has_request_number one.req) later)) (eq-eqb first.req one.req (ap (λ (q : Queued). q.req) same))
    ∙ ap Some same
found_once (first ∷ later) (suc place) one is got =
    let apart = is.0 one (contains_at later place one got) in
    ap (λ b. cond b (Some first) (find (has_request_number one.req) later)) (ne_eqb first.req one.req (λ same. apart (sym same)))
    ∙ found_once later place one is.1 got

-- what stands before a request meets it on no index, if nothing earlier does
pub earlier_apart : (mine : Queued) (queue : List Queued) (place other : ℕ) (one two : Queued) → IsOnce queue → place < other
    → slice_get queue place ≡ Some one → slice_get queue other ≡ Some two → list_any (meet mine) (earlier two.req queue) ≡ false
    → meet mine one ≡ false
earlier_apart mine [] place other one two is less got too none = absurd (cc (got))
earlier_apart mine (first ∷ later) place zero one two is less got too none = absurd (omega (arith, less))
earlier_apart mine (first ∷ later) zero (suc other) one two is less got too none =
    let apart = is.0 two (contains_at later other two too) in
    let skips : has_request_number two.req first ≡ false = ne_eqb first.req two.req (λ same. apart (sym same)) in
    let parts = or_parts (meet mine first) (list_any (meet mine) (earlier two.req later))
    (sym (ap (list_any (meet mine)) (before_first-more (has_request_number two.req) first later skips)) ∙ none) in
    ap (meet mine) (sym (same_Some first one got)) ∙ parts.0
earlier_apart mine (first ∷ later) (suc place) (suc other) one two is less got too none =
    let apart = is.0 two (contains_at later other two too) in
    let skips : has_request_number two.req first ≡ false = ne_eqb first.req two.req (λ same. apart (sym same)) in
    let parts = or_parts (meet mine first) (list_any (meet mine) (earlier two.req later))
    (sym (ap (list_any (meet mine)) (before_first-more (has_request_number two.req) first later skips)) ∙ none) in
    earlier_apart mine later place other one two is.1 (omega (arith, less)) got too parts.1

-- what meets on no index is apart
apart_of : (mine one : Queued) → meet mine one ≡ false → AreApart one mine
apart_of mine one none index own its =
    let up : mine.first ≤ one.last = (let a = own.1 in let b = its.0 in omega (arith, a, b)) in
    let down : one.first ≤ mine.last = (let a = own.0 in let b = its.1 in omega (arith, a, b)) in
    absurd (both_ways (meet mine one) none (and_from (nat_le mine.first one.last) (nat_le one.first mine.last)
    (le-leb mine.first one.last up) (le-leb one.first mine.last down)))

-- of two requests that may run the later one is apart from the earlier one
pub runs_apart : (queue : List Queued) (place other : ℕ) (one two : Queued) → IsOnce queue → place < other
    → slice_get queue place ≡ Some one
    → slice_get queue other ≡ Some two → may_run two.req queue ≡ true → AreApart one two
runs_apart queue place other one two is less got too may =
    apart_of two one (earlier_apart two queue place other one two is less got too
    (not-true (list_any (meet two) (earlier two.req queue))
    (sym (ap (λ (o : Option Queued). option_map_or (λ mine. not (list_any (meet mine) (earlier two.req queue))) o false)
    (found_once queue other two is too)) ∙ may)))
