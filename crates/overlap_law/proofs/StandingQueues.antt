-- The queues of a node's sessions go by ascending request, in each world of a run and in the middle of a step.
use Rattle.std.proofs.Common.{◌≡◌, ◌≢◌, ⊎_elim, arith, ℕ, zero, suc, ◌<◌, ◌≤◌, ◌==◌, Bool, true, false, not, cond, List, [], ◌∷◌, ◌++◌}
use Rattle.std.proofs.Common.{slice_get, Contains, Option, Some, None, refl, sym, ap, subst, ◌∙◌}
use Rattle.std.specs.FinMap as tree
use Rattle.std.proofs.lemmas.Bool.{cases_eq, cases_lt, and_parts, eqb-true}
use Rattle.std.proofs.lemmas.List.Elements.{Contains-push_cases}
use Rattle.std.proofs.lemmas.Option.{same_Some}
use Rattle.proof_tools.proofs.Lists.{Contains-nil, Contains-head, Contains-cons, filter-contains}
use Rattle.gateway_queue.specs.declared.queue.Queued.{Queued}
use Rattle.gateway_queue.specs.Queue.{queue_without, has_request_number}
use Rattle.cluster_script.specs.declared.statement.Statement.{Statement}
use Rattle.cluster_script.specs.Settings.{tries_of}
use Rattle.sheep_node.specs.declared.ask.Ask.{Ask}
use Rattle.sheep_node.specs.declared.ask.Ask.TheVariants as asks
use Rattle.sheep_node.specs.declared.input.Input.{Input}
use Rattle.sheep_node.specs.declared.input.Input.TheVariants as inputs
use Rattle.sheep_node.specs.declared.course.Request.{Request}
use Rattle.sheep_node.specs.State as nodes
use Rattle.sheep_node.specs.State.{Node}
use Rattle.sheep_node.specs.StepState.{StepState, at_first, session_in}
use Rattle.sheep_node.specs.Guests.{queued_as}
use Rattle.sheep_node.specs.May.{is_disk_course}
use Rattle.sheep_node.specs.SessionQueues.{is_disk_request_of, queue_in}
use Rattle.sheep_node.specs.Changes.{input_received, Change, Leads}
use Rattle.sheep_node.proofs.OneWorkParts.{Sessions}
use Rattle.sheep_node.proofs.ReceivedInputs.{received_keeps}
use Rattle.sheep_node.proofs.StepChain.{kept_by_chain, step_chain}
use Rattle.sheep_world.specs.Began.{Began}
use Rattle.sheep_world.specs.EventKinds.{log_after_return}
use Rattle.sheep_world.specs.HostChanges.{HostsKeep}
use Rattle.sheep_world.specs.NodeCauses.{NodeCause, input_of_cause, IsCause}
use Rattle.sheep_world.specs.Opening.{format_entry, initial_world}
use Rattle.sheep_world.specs.World.{Host, World}
use Rattle.sheep_world.proofs.BegunWorlds.{each_where}
use Rattle.overlap_law.specs.MomentChanges.{RunsAreInRange}
use Rattle.overlap_law.proofs.AttemptMessages.{contains_at}
use Rattle.overlap_law.proofs.ClosedQueues.{none_queues, change_queues}
use Rattle.overlap_law.proofs.RoomOfSessions.{guests_sound}
use Rattle.overlap_law.proofs.StandingNumbers.{before_asked}

-- each request of a queue has a lower number than those behind it
abbrev pub Ascends : List Queued → Type 0
Ascends [] = Unit {0}
Ascends (one ∷ later) = ((other : Queued) → Contains later other → one.req < other.req) × Ascends later

ascends_pushed : (queue : List Queued) (new : Queued) → ((other : Queued) → Contains queue other → other.req < new.req) → Ascends queue
    → Ascends (queue ++ new ∷ [])
ascends_pushed [] new below is = (λ other there. absurd (Contains-nil other there), tt)
ascends_pushed (one ∷ later) new below is = (
  λ other there. ⊎_elim
      (λ (old : Contains later other). is.0 other old)
      (λ (same : new ≡ other). subst (λ (q : Queued). one.req < q.req) same (below one (Contains-head one later)))
      (Contains-push_cases later new other there),
  ascends_pushed later new (λ other there. below other (Contains-cons one later other there)) is.1,
)

ascends_without : (req : ℕ) (queue : List Queued) → Ascends queue → Ascends (queue_without req queue)
ascends_without req [] is = tt
ascends_without req (one ∷ later) is = by_test (not (has_request_number req one)) (ascends_without req later is.1)
  where
    by_test : (b : Bool) → Ascends (queue_without req later) → Ascends (cond b (one ∷ queue_without req later) (queue_without req later))
    by_test true rest = (
      λ other there. is.0 other (filter-contains (λ queued. not (has_request_number req queued)) later other there).0,
      rest,
    )
    by_test false rest = rest

ascends_at : (queue : List Queued) (place other : ℕ) (one two : Queued) → Ascends queue → place < other → slice_get queue place ≡ Some one
    → slice_get queue other ≡ Some two → one.req < two.req
ascends_at [] place other one two is less got too = absurd (cc (got))
ascends_at (first ∷ later) place zero one two is less got too = absurd (omega (arith, less))
ascends_at (first ∷ later) zero (suc other) one two is less got too =
    subst (λ (q : Queued). q.req < two.req) (same_Some first one got) (is.0 two (contains_at later other two too))
ascends_at (first ∷ later) (suc place) (suc other) one two is less got too =
    ascends_at later place other one two is.1 (omega (arith, less)) got too

-- so a lower number stands before
pub stands_first : (queue : List Queued) (place other : ℕ) (one two : Queued) → Ascends queue → slice_get queue place ≡ Some one
    → slice_get queue other ≡ Some two → one.req < two.req → place < other
stands_first queue place other one two is got too less = ⊎_elim
    (λ (before : place < other). before)
    (λ (behind : other ≤ place). ⊎_elim
    (λ (same : other ≡ place).
    let found : two ≡ one = same_Some two one (sym too ∙ ap (slice_get queue) same ∙ got) in
    let number = ap (λ (q : Queued). q.req) found in
    absurd (omega (arith, less, number)))
    (λ (apart : other ≢ place).
    let above = ascends_at queue other place two one is (omega (arith, behind, apart)) too got in
    absurd (omega (arith, less, above)))
    (cases_eq other place))
    (cases_lt place other)

-- ---- the queues of a node

abbrev pub AreAscending : Sessions → Type 0
AreAscending sessions = (number : ℕ) → Ascends (queue_in number sessions)

abbrev AscendSoFar : StepState → Type 0
AscendSoFar so_far = AreAscending so_far.node.sessions

-- no session has a queue at first
none_so : AreAscending tree.empty
none_so = none_queues Ascends tt ascends_without

-- ---- every change, where what a guest asks has a higher number than all that its session has queued

module _ (input : Input) (node : Node) (above : (req session : ℕ) (ask : Ask) → input ≡ inputs.Guest req session ask → (other : Queued)
    → Contains (queue_in session node.sessions) other → other.req < req) where
  change_so : (so_far next : StepState) → Change input node so_far next → AscendSoFar so_far → AscendSoFar next
  change_so so_far next change =
      change_queues Ascends tt ascends_without so_far next change
      (λ session req ask disk arrival is.
      ascends_pushed (session_in session so_far).queue (queued_as disk.inode.spec.shift req ask)
      (λ other there.
      above req session (asks.Disk ask) arrival.from other
      (subst (λ (s : StepState). Contains (queue_in session s.node.sessions) other) arrival.first there)) is)

  -- along a step
  pub ascending_so_far : AreAscending node.sessions → {so_far : StepState} → Leads input node (input_received input (at_first node)) so_far
      → AreAscending so_far.node.sessions
  ascending_so_far all leads =
      kept_by_chain AscendSoFar change_so leads (received_keeps (λ works requests sessions. AreAscending sessions) none_so input node all)

-- ---- each world of a run

module _ (script : List Statement) (range : RunsAreInRange script) where
  module _ (world : World) (began : Began script world) (n : ℕ) (host : Host) (there : tree.get world.hosts n ≡ Some host) where
    -- what stands in a queue is a request of its session
    queued_there : (session : ℕ) (other : Queued) → Contains (queue_in session host.node.sessions) other
        → (request : Request) × (tree.get host.node.requests other.req ≡ Some request) × (request.session ≡ session)
    queued_there session other among =
        by_request (tree.get host.node.requests other.req) refl
        ((guests_sound script range world began n host there).queues.there session other.req (other, among, refl))
      where
        by_request : (o : Option Request) → tree.get host.node.requests other.req ≡ o → is_disk_request_of session o ≡ true
            → (request : Request) × (tree.get host.node.requests other.req ≡ Some request) × (request.session ≡ session)
        by_request None got is = absurd (cc (is))
        by_request (Some request) got is =
            (request, got, eqb-true request.session session (and_parts (request.session == session) (is_disk_course request.course) is).0)

    pub above_queued : (cause : NodeCause) → IsCause script world n host cause → (req session : ℕ) (ask : Ask)
        → input_of_cause cause ≡ inputs.Guest req session ask → (other : Queued)
        → Contains (queue_in session host.node.sessions) other → other.req < req
    above_queued cause caused req session ask from other among =
        let (request, got, belongs) = queued_there session other among in
        before_asked script range.is_script world began n host there cause caused req session ask from other.req request got belongs

  ascending_kept : HostsKeep script (Began script) (λ (world : World) (n : ℕ) (host : Host). AreAscending host.node.sessions)
  unfolding initial_world
  ascending_kept = record {
    opens = λ member.
        let new = nodes.initial_node member.node (tries_of script) in
        let input = inputs.LogEntry (format_entry script) in
        ascending_so_far input new (λ req session ask from. absurd (cc (from))) none_so (step_chain input new);
    stays = λ event world made h began n host so. so;
    steps = λ world n host cause began there up caused so.
        ascending_so_far (input_of_cause cause) host.node (above_queued world began n host there cause caused) so
        (step_chain (input_of_cause cause) host.node);
    fails = λ world n host began so. so;
    returns = λ world n host began there so.
        let input = inputs.Back (log_after_return script n world) in
        ascending_so_far input host.node (λ req session ask from. absurd (cc (from))) so (step_chain input host.node);
    joins = λ world n began control. none_so;
  }

  pub ascending_in_world : (world : World) → Began script world → (n : ℕ) (host : Host) → tree.get world.hosts n ≡ Some host
      → AreAscending host.node.sessions
  ascending_in_world =
      each_where script (Began script) (λ (world : World) (n : ℕ) (host : Host). AreAscending host.node.sessions) (λ world began. began)
      ascending_kept
