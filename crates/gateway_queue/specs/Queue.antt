-- The requests of a session that aren't done, in the order in which they were pushed, and which of them may run.
use Rattle.std.specs.Prelude.{◌≡◌, ℕ, ◌≤◌, ◌==◌, nat_le, Bool, true, false, not, ◌&&◌, List, [], ◌∷◌, ◌++◌, filter, All}
use Rattle.std.specs.List.{find, list_any, before_first}
use Rattle.std.specs.Option.{option_map_or}
use Rattle.gateway_queue.specs.declared.queue.Queued.{Queued}

-- whether the request has this number
abbrev pub has_request_number : ℕ → Queued → Bool
has_request_number req queued = queued.req == req

-- whether a request of this number was pushed and isn't done
abbrev pub is_queued : ℕ → List Queued → Bool
is_queued req queue = list_any (has_request_number req) queue

-- whether each request has an index, and a number of its own
abbrev pub is_queue : List Queued → Bool
is_queue [] = true
is_queue (queued ∷ queue) = nat_le queued.first queued.last && (not (is_queued queued.req queue) && is_queue queue)

-- what stays when a request is done
abbrev pub queue_without : ℕ → List Queued → List Queued
queue_without req queue = filter (λ queued. not (has_request_number req queued)) queue

-- what was pushed before a request
abbrev pub earlier : ℕ → List Queued → List Queued
earlier req queue = before_first (has_request_number req) queue

-- whether two requests have an index in common
abbrev pub meet : Queued → Queued → Bool
meet one other = nat_le one.first other.last && nat_le other.first one.last

-- whether a request has no index in common with an earlier one
abbrev pub may_run : ℕ → List Queued → Bool
may_run req queue =
    option_map_or (λ mine. not (list_any (meet mine) (earlier req queue))) (find (has_request_number req) queue) false

-- the request works on the object of this index
abbrev pub Covers : Queued → ℕ → Type 0
Covers queued index = (queued.first ≤ index) × (index ≤ queued.last)

abbrev pub AreApart : Queued → Queued → Type 0
AreApart one other = (index : ℕ) → Covers one index → Covers other index → ⊥

-- the same in the words of indices: whatever stands before the request has none of its indices
abbrev pub MayRun : ℕ → List Queued → Type 0
MayRun req queue = (before after : List Queued) (mine : Queued) → queue ≡ before ++ mine ∷ after → mine.req ≡ req
    → All (λ other. AreApart other mine) before
