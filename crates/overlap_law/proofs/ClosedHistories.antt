-- What is said of a request at each node, with the history, holds in every run in range: if it holds where the request isn't there, stays
-- so as events are added that begin no write of it, and is left by each step of a node.
use Rattle.std.proofs.Common.{◌≡◌, ◌≢◌, ⊎_elim, ℕ, true, false, List, [], ◌∷◌, ◌++◌, Some, filter, refl, sym, subst}
use Rattle.std.specs.List.{list_any}
use Rattle.std.specs.Ordering.{nat_cmp}
use Rattle.std.specs.FinMap as tree
use Rattle.proof_tools.proofs.FiniteMaps.{get-insert_cases}
use Rattle.cluster_script.specs.declared.statement.Statement.{Statement}
use Rattle.cluster_script.specs.NumberedRequests.{numbered_requests}
use Rattle.disk_history.specs.declared.event.HistEvent.{HistEvent}
use Rattle.sheep_node.specs.declared.course.Request.{Request}
use Rattle.sheep_node.specs.declared.event.Event.{Event}
use Rattle.sheep_node.proofs.OneWorkParts.{Requests}
use Rattle.sheep_world.specs.World.{Host, is_host_up}
use Rattle.sheep_world.specs.Began.{Began}
use Rattle.sheep_world.specs.EventKinds.{log_after_return, EventKind, NodeStep, UntoldLoss, UnreadDelivery, NodeLoss, NodeLeave}
use Rattle.sheep_world.specs.EventKinds.{NodeReweight}
use Rattle.sheep_world.specs.EventKinds.{NodeJoin, NodeReturn, PhaseEnd, outcome_of_step}
use Rattle.sheep_world.specs.HistoryAdditions.{is_lost_write, writers_lost}
use Rattle.sheep_world.specs.HostChanges.{joined_host, host_after_return}
use Rattle.sheep_world.specs.MembershipChanges.{lost_host}
use Rattle.sheep_world.specs.NodeCauses.{NodeCause, IsCause}
use Rattle.sheep_world.specs.Opening.{initial_world}
use Rattle.sheep_world.specs.Step.{EventOutcome}
use Rattle.sheep_world.proofs.BegunWorlds.{goes_on}
use Rattle.sheep_world.proofs.ClientReads.{goes_by_kind}
use Rattle.sheep_world.proofs.WireAtOpening.{opening_found}
use Rattle.sheep_world.specs.RunsWithAsks.{Move}
use Rattle.overlap_law.specs.Past.{MomentWithPast, past_after_event, first_moment, run_on, run_with_past}
use Rattle.overlap_law.specs.Words.{Hosts}
use Rattle.overlap_law.proofs.ItemsAtBegin.{lost_none}
use Rattle.overlap_law.proofs.ItemsOfRequests.{begins_write_of}
use Rattle.overlap_law.proofs.RunsByEvents.{KeptByEvents, run-kept_by_events}
use Rattle.overlap_law.proofs.RunsWithOneMore.{run_with_one_more}
use Rattle.overlap_law.proofs.UnansweredRequests.{back_empty, first_empty}

module _ (script : List Statement) (req : ℕ) (Q : List HistEvent → Requests → Type 0) where
  abbrev pub AllHave : List HistEvent → Hosts → Type 0
  AllHave history hosts = (m : ℕ) (host : Host) → tree.get hosts m ≡ Some host → Q history host.node.requests

  abbrev pub Leaves : List HistEvent → EventOutcome → Type 0
  Leaves history made = Began script made.world → AllHave (history ++ made.grown) made.world.hosts

  pub record IsKeptWithHistory : Type 0 where
    pub none : (history : List HistEvent) (requests : Requests) → ((request : Request) → tree.get requests req ≡ Some request → ⊥)
        → Q history requests
    pub grown : (history added : List HistEvent) → list_any (begins_write_of req) added ≡ false → (requests : Requests)
        → Q history requests → Q (history ++ added) requests
    pub steps : (events : List Move) (before : MomentWithPast) → run_with_past script events ≡ Some before → Began script before.world
        → AllHave before.past.history before.world.hosts → (n : ℕ) (host : Host) → tree.get before.world.hosts n ≡ Some host
        → is_host_up host ≡ true → (cause : NodeCause) → IsCause script before.world n host cause
        → Leaves before.past.history (outcome_of_step script n host cause before.world)

  module _ (kept : IsKeptWithHistory) where
    -- ---- one event

    module _ (events : List Move) (before : MomentWithPast) (run : run_with_past script events ≡ Some before)
        (began : Began script before.world) (all : AllHave before.past.history before.world.hosts) where
      abbrev history : List HistEvent
      history = before.past.history

      one_leaves : (added : List HistEvent) → list_any (begins_write_of req) added ≡ false → (n : ℕ) (new : Host)
          → Q (before.past.history ++ added) new.node.requests
          → AllHave (before.past.history ++ added) (tree.insert before.world.hosts n new)
      one_leaves added nothing n new own m host got = ⊎_elim
          (λ (same : (m ≡ n) × (new ≡ host)). subst (λ (h : Host). Q (history ++ added) h.node.requests) same.1 own)
          (λ (apart : (m ≢ n) × (tree.get before.world.hosts m ≡ Some host)).
          kept.grown history added nothing host.node.requests (all m host apart.1))
          (get-insert_cases before.world.hosts n new m host got)

      quiet : AllHave (before.past.history ++ []) before.world.hosts
      quiet m host got = kept.grown history [] refl host.node.requests (all m host got)

      kind_leaves : (event : Event) (made : EventOutcome) → EventKind script event before.world made → Leaves before.past.history made
      kind_leaves event made (NodeStep h) =
          subst (Leaves history) h.made_so (kept.steps events before run began all h.n h.host h.there h.up h.cause h.caused)
      kind_leaves event made (UntoldLoss h) = subst (Leaves history) h.made_so (λ later. quiet)
      kind_leaves event made (UnreadDelivery h) = subst (Leaves history) h.made_so (λ later. quiet)
      kind_leaves event made (NodeLoss h) =
          let lost : List HistEvent = writers_lost script before.world h.n (Some h.host) in
          let nothing : list_any (begins_write_of req) lost ≡ false
          = lost_none req (filter (is_lost_write script before.world h.n h.host) (numbered_requests script)) in
          subst (Leaves history) h.made_so (λ later.
          one_leaves lost nothing h.n (lost_host h.host)
          (kept.grown history lost nothing h.host.node.requests (all h.n h.host h.there)))
      kind_leaves event made (NodeLeave h) = subst (Leaves history) h.made_so (λ later. quiet)
      kind_leaves event made (NodeReweight h) = subst (Leaves history) h.made_so (λ later. quiet)
      kind_leaves event made (NodeJoin h) =
          subst (Leaves history) h.made_so (λ later.
          one_leaves [] refl h.n (joined_host script h.n)
          (kept.none (history ++ []) (joined_host script h.n).node.requests
          (λ request got. let empty = tree.get-empty {X = Request} nat_cmp req in absurd (cc (empty, got)))))
      kind_leaves event made (NodeReturn h) =
          let back : Host = host_after_return (log_after_return script h.n before.world) h.host in
          subst (Leaves history) h.made_so (λ later.
          one_leaves [] refl h.n back
          (kept.none (history ++ []) back.node.requests
          (λ request got. (back_empty script (log_after_return script h.n before.world) h.host.node).asked req request got)))
      kind_leaves event made (PhaseEnd h) = subst (Leaves history) h.made_so (λ later. quiet)

    -- ---- each run

    record HoldsSoFar (moment : MomentWithPast) : Type 0 where
      events : List Move
      run : run_with_past script events ≡ Some moment
      holds : AllHave moment.past.history moment.world.hosts

    opens_so : HoldsSoFar (first_moment script)
    unfolding run_with_past run_on initial_world
    opens_so = record {
      events = [];
      run = refl;
      holds = λ n host got.
          let (member, own, is) = opening_found script n host got in
          kept.none [] host.node.requests
          (λ request asked.
          (first_empty script member.node).asked req request
          (subst (λ (h : Host). tree.get h.node.requests req ≡ Some request) (sym is) asked));
    }

    events_keep : KeptByEvents script HoldsSoFar
    unfolding past_after_event
    events_keep event before made began is so = record {
      events = so.events ++ is.move ∷ [];
      run = run_with_one_more script event made so.events before is so.run;
      holds = kind_leaves so.events before so.run began so.holds event made (goes_by_kind script event before.world made is)
          (goes_on script event before.world made began is);
    }

    pub with_history-in_run : (events : List Move) (moment : MomentWithPast) → run_with_past script events ≡ Some moment
        → AllHave moment.past.history moment.world.hosts
    with_history-in_run events moment is = (run-kept_by_events script HoldsSoFar opens_so events_keep events moment is).holds
