-- In each run in range a request that may have items wasn't refused: so those that are refused have none.
use Rattle.std.proofs.Common.{◌≡◌, inl, inr, ℕ, Bool, true, false, List, [], ◌++◌, filter, fold, Some, refl, sym, subst}
use Rattle.std.specs.Ordering.{nat_cmp}
use Rattle.std.specs.FinMap as tree
use Rattle.std.proofs.lemmas.List.{append-nil}
use Rattle.std.proofs.lemmas.List.Sums.{fold-append}
use Rattle.object_id.specs.declared.entry.Entry.{Entry}
use Rattle.cluster_script.specs.declared.statement.Statement.{Statement}
use Rattle.cluster_script.specs.NumberedRequests.{numbered_requests}
use Rattle.sheep_node.specs.declared.course.Request.{Request}
use Rattle.sheep_node.specs.declared.event.Event.{Event}
use Rattle.sheep_node.specs.declared.input.Input.TheVariants as inputs
use Rattle.sheep_node.specs.Step.{node_step}
use Rattle.sheep_node.proofs.StepReplies.{back-silent}
use Rattle.sheep_world.specs.World.{Host, World}
use Rattle.sheep_world.specs.Began.{Began}
use Rattle.sheep_world.specs.EventKinds.{log_after_return, EventKind, NodeStep, UntoldLoss, UnreadDelivery, NodeLoss, NodeLeave}
use Rattle.sheep_world.specs.EventKinds.{NodeReweight, NodeJoin, NodeReturn, PhaseEnd}
use Rattle.sheep_world.specs.HistoryAdditions.{is_lost_write, writers_lost}
use Rattle.sheep_world.specs.HostChanges.{joined_host, host_after_return}
use Rattle.sheep_world.specs.MembershipChanges.{lost_host}
use Rattle.sheep_world.specs.Opening.{initial_world}
use Rattle.sheep_world.specs.Step.{EventOutcome}
use Rattle.sheep_world.proofs.ClientReads.{goes_by_kind}
use Rattle.sheep_world.specs.RunsWithAsks.{Move}
use Rattle.overlap_law.specs.Headline.{ledger_of}
use Rattle.overlap_law.specs.Holders.{is_object_among}
use Rattle.overlap_law.specs.MomentChanges.{RunsAreInRange}
use Rattle.overlap_law.specs.Past.{MomentWithPast, past_after_event, first_moment, run_with_past}
use Rattle.overlap_law.specs.PastWords.{refused_in}
use Rattle.overlap_law.specs.Words.{Hosts}
use Rattle.overlap_law.proofs.ItemsAtBegin.{lost_none}
use Rattle.overlap_law.proofs.ItemsInSteps.{step_known}
use Rattle.overlap_law.proofs.ItemsOfWriters.{Known, Writing, Writes, silent_known}
use Rattle.overlap_law.proofs.ItemsOfReplies.{quiet_known}
use Rattle.overlap_law.proofs.ItemsOfRequests.{HasNoItems, may_have_after, may_have_items, none_by_history, BeginNone, might_before}
use Rattle.overlap_law.proofs.RefusedInRuns.{AreAnswered, AreAnsweredAt, none_unanswered, opens_answered, events_answered}
use Rattle.overlap_law.proofs.RunsByEvents.{KeptByEvents, run-kept_by_events}
use Rattle.overlap_law.proofs.UnansweredRequests.{Guests, back_empty}
use Rattle.overlap_law.proofs.WrittenChecks.{HasWritten}
use Rattle.overlap_law.proofs.WrittenInWorlds.{HaveWritten, one_written}

module _ (script : List Statement) (range : RunsAreInRange script) (req : ℕ) where
  -- what is known of the request, and that it writes
  abbrev pub KnownIn : Hosts → Guests → List ℕ → Bool → Type 0
  KnownIn hosts guests refused may = Known script range req guests refused may × Writes script range req hosts may

  still_known : (hosts : Hosts) (guests : Guests) (refused : List ℕ) (may : Bool) → KnownIn hosts guests refused may
      → KnownIn hosts guests (refused ++ []) may
  still_known hosts guests refused may known =
      subst (λ (list : List ℕ). KnownIn hosts guests list may) (sym (append-nil refused)) known

  -- where a host is another, whose node has the request as before, or not at all
  changed_known : (hosts : Hosts) (n : ℕ) (new : Host) (guests : Guests) (refused : List ℕ) (may : Bool)
      → (HaveWritten req hosts → HasWritten req new.node.requests) → KnownIn hosts guests refused may
      → KnownIn (tree.insert hosts n new) guests refused may
  changed_known hosts n new guests refused may own (known, writes) = (known, λ is. by_kind (writes is))
    where
      by_kind : Writing script range req hosts → Writing script range req (tree.insert hosts n new)
      by_kind (inl write) = inl write
      by_kind (inr (checks, have)) = inr (checks, one_written req hosts n new (own have) have)

  empty_written : HasWritten req (tree.empty {X = Request} {R = nat_cmp})
  empty_written request got = let none = tree.get-empty {X = Request} nat_cmp req in absurd (cc (none, got))

  back_written : (log : List Entry) (host : Host) → HasWritten req (host_after_return log host).node.requests
  back_written log host request got = absurd ((back_empty script log host.node).asked req request got)

  -- ---- every event

  abbrev KnownThen : List ℕ → Bool → EventOutcome → Type 0
  KnownThen refused may m = KnownIn m.world.hosts m.world.guests (refused ++ refused_in script m.world.outputs.replies)
      (fold (may_have_after req) may m.grown)

  kind_known : (event : Event) (world : World) (made : EventOutcome) (refused : List ℕ) (may : Bool) → Began script world
      → EventKind script event world made
      → AreAnswered script world.guests refused → KnownIn world.hosts world.guests refused may → KnownThen refused may made
  kind_known event world made refused may began kind are known = by_kind kind
    where
      stays : KnownIn world.hosts world.guests (refused ++ []) may
      stays = still_known world.hosts world.guests refused may known

      by_kind : EventKind script event world made → KnownThen refused may made
      by_kind (NodeStep h) =
          subst (KnownThen refused may) h.made_so
          (step_known script range req world began h.n h.host h.there refused may are known.0 known.1 h.cause h.caused)
      by_kind (UntoldLoss h) = subst (KnownThen refused may) h.made_so stays
      by_kind (UnreadDelivery h) = subst (KnownThen refused may) h.made_so stays
      by_kind (NodeLoss h) =
          let lost = writers_lost script world h.n (Some h.host) in
          let none : BeginNone req lost
          = lost_none req (filter (is_lost_write script world h.n h.host) (numbered_requests script)) in
          let behind : KnownIn world.hosts world.guests refused (fold (may_have_after req) may lost)
          = (quiet_known script req world.guests refused may lost none known.0, λ is. known.1 (might_before req lost may none is)) in
          subst (KnownThen refused may) h.made_so
          (changed_known world.hosts h.n (lost_host h.host) world.guests (refused ++ []) (fold (may_have_after req) may lost)
          (λ have. have h.n h.host h.there)
          (still_known world.hosts world.guests refused (fold (may_have_after req) may lost) behind))
      by_kind (NodeLeave h) = subst (KnownThen refused may) h.made_so stays
      by_kind (NodeReweight h) = subst (KnownThen refused may) h.made_so stays
      by_kind (NodeJoin h) =
          subst (KnownThen refused may) h.made_so
          (changed_known world.hosts h.n (joined_host script h.n) world.guests (refused ++ []) may (λ have. empty_written) stays)
      by_kind (NodeReturn h) =
          let log = log_after_return script h.n world in
          let replies = (node_step (inputs.Back log) h.host.node).outputs.replies in
          let silent : Known script range req _ (refused ++ refused_in script replies) may
          = silent_known script range req world.guests refused may replies [] (back-silent log h.host.node) refl known.0 in
          subst (KnownThen refused may) h.made_so
          (changed_known world.hosts h.n (host_after_return log h.host) _ (refused ++ refused_in script replies) may
          (λ have. back_written log h.host) (silent, known.1))
      by_kind (PhaseEnd h) = subst (KnownThen refused may) h.made_so stays

  -- with what is refused and what has no reply
  abbrev pub BothAt : MomentWithPast → Type 0
  BothAt moment = AreAnsweredAt script moment
      × KnownIn moment.world.hosts moment.world.guests moment.past.refused (may_have_items req moment.past.history)

  pub opens_known : BothAt (first_moment script)
  unfolding initial_world
  opens_known = (
    opens_answered script,
    (
      record {
        unrefused = λ is. refl;
        begun = λ may. absurd (cc (may));
        on_disk = λ may. absurd (cc (may));
        single = λ session one other there. absurd (none_unanswered script session one there);
      },
      λ may. absurd (cc (may)),
    ),
  )

  pub events_known : KeptByEvents script BothAt
  unfolding past_after_event
  events_known event before made began is both = (
    events_answered script event before made began is both.0,
    subst (KnownIn made.world.hosts made.world.guests (before.past.refused ++ refused_in script made.world.outputs.replies))
        (sym (fold-append (may_have_after req) false before.past.history made.grown))
        (kind_known event before.world made before.past.refused (may_have_items req before.past.history) began
        (goes_by_kind script event before.world made is) both.0 both.1),
  )

  pub refused_none-in_run : (events : List Move) (moment : MomentWithPast) → run_with_past script events ≡ Some moment
      → is_object_among req moment.past.refused ≡ true → HasNoItems req (ledger_of moment.past.history)
  refused_none-in_run events moment is refused =
      none_by_history req moment.past.history
      ((run-kept_by_events script BothAt opens_known events_known events moment is).1.0.unrefused refused)
