-- Each event in a world of a run keeps where a command is whose entry was put, and what its refusal leaves.
use Rattle.std.proofs.Common.{◌≡◌, ◌≢◌, ◌⊎◌, inl, inr, ⊎_elim, ℕ, ◌+◌, ◌<◌, ◌≤◌, true, false, not, List, [], ◌∷◌, ◌++◌, All}
use Rattle.std.proofs.Common.{Contains, Option, Some, is_some, refl, sym, ap, subst, ◌∙◌, arith, append_assoc}
use Rattle.std.specs.FinMap as tree
use Rattle.std.proofs.lemmas.Bool.{and_parts, cases_eq, cases_lt, not-true}
use Rattle.std.proofs.lemmas.Option.{same_Some}
use Rattle.std.proofs.lemmas.List.Elements.{All-head}
use Rattle.proof_tools.proofs.FiniteMaps.{get-insert_same, get-insert_other}
use Rattle.proof_tools.proofs.Lists.{Contains-nil, Contains-cons_cases}
use Rattle.object_id.specs.declared.node.NodeId.{NodeId}
use Rattle.object_id.specs.declared.entry.Entry.{Entry}
use Rattle.object_id.specs.declared.entry.Entry.TheVariants as entries
use Rattle.cluster_script.specs.declared.statement.Statement.{Statement}
use Rattle.cluster_script.specs.declared.statement.Statement.TheVariants as lines
use Rattle.cluster_script.specs.Settings.{vnodes_of}
use Rattle.vdi_directory.specs.declared.effect.Effect.{Effect}
use Rattle.peer_proto.specs.declared.guest.GuestRsp.{GuestRsp}
use Rattle.sheep_node.specs.declared.ask.Ask.{Ask}
use Rattle.sheep_node.specs.declared.event.Event.{Event}
use Rattle.sheep_node.specs.declared.input.Input.TheVariants as inputs
use Rattle.sheep_node.specs.May.{has_numbers}
use Rattle.sheep_node.specs.OwnEntries.{IsEntryOf}
use Rattle.sheep_node.specs.Step.{node_step}
use Rattle.sheep_node.specs.StepState.{StepState}
use Rattle.sheep_world.specs.Began.{Began, MakesMove}
use Rattle.sheep_world.specs.BegunRequests.{WasBegun}
use Rattle.sheep_world.specs.EventKinds.{log_after_return, EventKind, NodeStep, UntoldLoss, UnreadDelivery, NodeLoss, NodeLeave}
use Rattle.sheep_world.specs.EventKinds.{NodeReweight, NodeJoin, NodeReturn, PhaseEnd, IsNodeStep, IsNodeLoss, IsNodeJoin, IsNodeReturn}
use Rattle.sheep_world.specs.EventKinds.{outcome_of_step}
use Rattle.sheep_world.specs.HostChanges.{joined_host, host_after_return}
use Rattle.sheep_world.specs.LogFronts.{IsFront}
use Rattle.sheep_world.specs.MembershipChanges.{lost_host, join_of, last_weight}
use Rattle.sheep_world.specs.NodeCauses.{NodeCause, GuestAsks, RequestComes, ReplyComes, LossIsTold, EntryIsRead, EntryIsPut, RecoveryTicks}
use Rattle.sheep_world.specs.NodeCauses.{WorkIsRetried, ClientAsks, input_of_cause, IsCause, host_with_node, log_after_cause}
use Rattle.sheep_world.specs.Step.{EventOutcome}
use Rattle.sheep_world.specs.World.{Host, World, is_host_up}
use Rattle.sheep_world.proofs.BegunRequestLaws.{Grows, guests_grow}
use Rattle.sheep_world.proofs.ClientReads.{goes_by_kind}
use Rattle.sheep_world.proofs.ControlLaws.{next_fits}
use Rattle.sheep_world.proofs.NodesByTheLog.{knows_its_number}
use Rattle.overlap_law.specs.AwaitedEntries.{IsCommandEntry, IsSessionsEntry}
use Rattle.overlap_law.specs.Holders.{is_object_among}
use Rattle.overlap_law.specs.MomentChanges.{RunsAreInRange}
use Rattle.overlap_law.specs.Past.{MomentWithPast, moment_after}
use Rattle.overlap_law.specs.RefusedCommands.{effect_behind, changes_disks, giving_back, IsOver, FreesItsId, IsFreedIn, IsGivenBack}
use Rattle.overlap_law.specs.RefusedCommands.{StandsInTheLog, IsToBePut, EndedBefore}
use Rattle.overlap_law.proofs.AwaitedEntriesInMoments.{own_entries}
use Rattle.overlap_law.proofs.CountedEntries.{of_one_node}
use Rattle.overlap_law.proofs.KnownSteps.{together}
use Rattle.overlap_law.proofs.RefusedCommandInEvents.{Follows, HasUndone, GrowsBy, HasMore, has_more, more_freed, not_new, silent}
use Rattle.overlap_law.proofs.RefusedCommandInEvents.{refused_cases, push_more, host_stays, host_ends}
use Rattle.overlap_law.proofs.RefusedCommandFrees.{put_frees}
use Rattle.overlap_law.proofs.RefusedCommandInSteps.{GoesOnAt, Starts, outbox_then, goes_on, left, kept, starts_on}
use Rattle.overlap_law.proofs.RefusedInRuns.{still_begun, back_silent}
use Rattle.overlap_law.proofs.SessionsOfRequests.{IsAskedIn}

module _ (script : List Statement) (range : RunsAreInRange script) (earlier : List Entry) (entry : Entry) (node : NodeId)
    (command : IsCommandEntry node entry) (session req : ℕ) (known : List Effect) (mine : IsSessionsEntry known node session entry)
    (incarnation : ℕ) (asked : IsAskedIn script node.0 incarnation req session) where
  abbrev FollowsHere : MomentWithPast → Type 0
  FollowsHere = Follows script range earlier entry node command session req known mine incarnation asked

  other_entry : (last : Entry) → (IsCommandEntry node last → ⊥) → last ≢ entry
  other_entry last never same = never (subst (IsCommandEntry node) (sym same) command)

  -- ---- the node steps

  module _ (moment : MomentWithPast) (began : Began script moment.world) (host : Host)
      (there : tree.get moment.world.hosts node.0 ≡ Some host)
      (up : is_host_up host ≡ true) (same : host.incarnation ≡ incarnation) (front : IsFront earlier moment.world.log) (cause : NodeCause)
      (so : IsCause script moment.world node.0 host cause)
      (old : (number : ℕ) (ask : Ask) → input_of_cause cause ≡ inputs.Guest req number ask → ⊥) (event : Event)
      (starts : Starts script range earlier entry node command session req known mine moment.world began host there up front cause so old)
      (begun : WasBegun script moment.world.guests session req)
      (grows : Grows moment.world.guests (outcome_of_step script node.0 host cause moment.world).world.guests)
      (more : List Entry) (log_then : log_after_cause cause moment.world.log ≡ earlier ++ entry ∷ more)
      (before : is_object_among req moment.past.refused ≡ true → (changes_disks (effect_behind earlier entry) ≡ false)
      × ((unlock : Entry) → giving_back (effect_behind earlier entry) ≡ Some unlock
      → IsFreedIn (earlier ++ entry ∷ []) more unlock ⊎ Contains (outbox_then (input_of_cause cause) host.node.outbox) unlock)) where
    abbrev made : EventOutcome
    made = outcome_of_step script node.0 host cause moment.world

    abbrev stepped : StepState
    stepped = node_step (input_of_cause cause) host.node

    abbrev now : Host
    now = host_with_node host stepped.node

    now_there : tree.get made.world.hosts node.0 ≡ Some now
    now_there = get-insert_same moment.world.hosts node.0 now

    not_lost : host.is_lost ≡ false
    not_lost = not-true host.is_lost (and_parts (not host.is_lost) (has_numbers host.node) up).0

    pub step_follows : FollowsHere (moment_after script event moment made)
    step_follows = record {
      more = more;
      log_so = log_then;
      begun = still_begun script moment.world.guests made.world.guests grows session req begun;
      now = now;
      there = now_there;
      since = omega (arith, same);
      going = λ inc kept_up.
          goes_on script range earlier entry node command session req known mine moment.world began host there up front cause so old starts;
      refused = refused_cases script range earlier entry node command session req known mine incarnation asked event moment made
          (HasUndone script range earlier entry node command session req known mine incarnation asked made.world more)
          (λ was.
          let undone = before was in (
            undone.0,
            λ unlock gives. ⊎_elim (λ (freed : IsFreedIn (earlier ++ entry ∷ []) more unlock). StandsInTheLog freed)
                (λ (among : Contains (outbox_then (input_of_cause cause) host.node.outbox) unlock).
                IsToBePut now now_there not_lost
                (kept script range earlier entry node command session req known mine moment.world began host there up front cause so old
                starts
                unlock among))
                (undone.1 unlock gives),
          ))
          (λ reply among own refuses.
          let undone = left script range earlier entry node command session req known mine moment.world began host there up front cause
          so old
          starts reply among own refuses in
          (undone.0, λ unlock gives. IsToBePut now now_there not_lost (undone.1 unlock gives)));
    }

  -- ---- of what was before it

  log_behind : (cause : NodeCause) (log more : List Entry) → log ≡ earlier ++ entry ∷ more
      → log_after_cause cause log ≡ earlier ++ entry ∷ log_after_cause cause more
  log_behind (EntryIsPut put) log more is =
      ap (λ (l : List Entry). l ++ put ∷ []) is
      ∙ push_more script range earlier entry node command session req known mine incarnation asked more put
  log_behind cause log more is = is

  behind_stays : (cause : NodeCause) (more : List Entry) (one : Entry) → IsFreedIn (earlier ++ entry ∷ []) more one
      → IsFreedIn (earlier ++ entry ∷ []) (log_after_cause cause more) one
  behind_stays (EntryIsPut put) more one among =
      more_freed script range earlier entry node command session req known mine incarnation asked more put one among
  behind_stays cause more one among = among

  -- what is to be put is put by the step, or is left
  module _ (world : World) (began : Began script world) (host : Host) (there : tree.get world.hosts node.0 ≡ Some host)
      (up : host.is_lost ≡ false) (more : List Entry) (log_so : world.log ≡ earlier ++ entry ∷ more) (one : Entry) where
    put_or_left : (cause : NodeCause) → IsCause script world node.0 host cause → Contains host.node.outbox one
        → IsFreedIn (earlier ++ entry ∷ []) (log_after_cause cause more) one
        ⊎ Contains (outbox_then (input_of_cause cause) host.node.outbox) one
    put_or_left (GuestAsks asking number ask) so among = inr among
    put_or_left (RequestComes name to request) so among = inr among
    put_or_left (ReplyComes name of rsp) so among = inr among
    put_or_left (LossIsTold name packet) so among = inr among
    put_or_left (EntryIsRead read) so among = inr among
    put_or_left (EntryIsPut put) so among = ⊎_elim
        (λ (same : put ≡ one). inl (subst (IsFreedIn (earlier ++ entry ∷ []) (more ++ put ∷ [])) same (record {
          front = more;
          behind = [];
          stands = refl;
          frees = subst (λ (log : List Entry). FreesItsId log put) (log_so ∙ sym (append_assoc earlier (entry ∷ []) more))
              (put_frees script range world began node.0 host there up put so.0 so.1);
        })))
        (λ (later : Contains so.0 one).
        inr (subst (λ (outbox : List Entry). Contains (outbox_then inputs.Put outbox) one) (sym so.1) later))
        (Contains-cons_cases put so.0 one (subst (λ (outbox : List Entry). Contains outbox one) so.1 among))
    put_or_left RecoveryTicks so among = inr among
    put_or_left WorkIsRetried so among = inr among
    put_or_left (ClientAsks number ask) so among = inr among

  -- what another node puts is another entry
  log_of_step : (world : World) → Began script world → (k : ℕ) (host : Host) → tree.get world.hosts k ≡ Some host → k ≢ node.0
      → (cause : NodeCause) → IsCause script world k host cause
      → GrowsBy script range earlier entry node command session req known mine incarnation asked world.log (log_after_cause cause world.log)
  log_of_step world began k host there other (EntryIsPut put) so = inr (
    put,
    refl,
    λ same.
        let own = All-head (IsEntryOf host.node.me) put so.0
        (subst (All (IsEntryOf host.node.me)) so.1 (own_entries script world began k host there).entries) in
        let whose : host.node.me ≡ node = of_one_node node host.node.me entry command (subst (IsEntryOf host.node.me) same own) in
        other (sym (knows_its_number script world began k host there) ∙ ap (λ (m : NodeId). m.0) whose),
  )
  log_of_step world began k host there other cause so = inl refl

  module _ (event : Event) (moment : MomentWithPast) (made : EventOutcome) (began : Began script moment.world)
      (f : Follows script range earlier entry node command session req known mine incarnation asked moment)
      (grows : Grows moment.world.guests made.world.guests) where
    abbrev After : EventOutcome → Type 0
    After m = FollowsHere (moment_after script event moment m)

    nobody : (reply : ℕ × GuestRsp) → Contains [] reply → reply.0 ≢ req
    nobody reply among own = Contains-nil reply among

    -- the node's host stays
    stays : (m : EventOutcome) → m ≡ made → GrowsBy script range earlier entry node command session req known mine incarnation asked
        moment.world.log m.world.log
        → ((reply : ℕ × GuestRsp) → Contains m.world.outputs.replies reply → reply.0 ≢ req)
        → tree.get m.world.hosts node.0 ≡ Some f.now → After made
    stays m same grown others there =
        subst After same
        (host_stays script range earlier entry node command session req known mine incarnation asked moment f event m
        (has_more script range earlier entry node command session req known mine incarnation asked moment.world.log m.world.log f.more
        f.log_so grown)
        (subst (λ (o : EventOutcome). Grows moment.world.guests o.world.guests) (sym same) grows) others grown there)

    ends : (m : EventOutcome) → m ≡ made → HasMore script range earlier entry node command session req known mine incarnation asked
        f.more m.world.log
        → ((reply : ℕ × GuestRsp) → Contains m.world.outputs.replies reply → reply.0 ≢ req)
        → (now : Host) → tree.get m.world.hosts node.0 ≡ Some now → IsOver incarnation now → incarnation ≤ now.incarnation → After made
    ends m same later others now there over since =
        subst After same
        (host_ends script range earlier entry node command session req known mine incarnation asked moment f event m later
        (subst (λ (o : EventOutcome). Grows moment.world.guests o.world.guests) (sym same) grows) others now there over since)

    -- ---- the node's own step

    module _ (host : Host) (there : tree.get moment.world.hosts node.0 ≡ Some host) (up : is_host_up host ≡ true) (cause : NodeCause)
        (so : IsCause script moment.world node.0 host cause)
        (made_so : outcome_of_step script node.0 host cause moment.world ≡ made) where
      same_now : host ≡ f.now
      same_now = same_Some host f.now (sym there ∙ f.there)

      up_here : host.is_lost ≡ false
      up_here = not-true host.is_lost (and_parts (not host.is_lost) (has_numbers host.node) up).0

      own_silent : (f.now.incarnation ≢ incarnation) → (reply : ℕ × GuestRsp)
          → Contains (node_step (input_of_cause cause) host.node).outputs.replies reply → reply.0 ≢ req
      own_silent apart =
          silent script range earlier entry node command session req known mine incarnation asked moment.world began f.begun node.0 host
          there
          cause so (λ here lived. apart (ap (λ (h : Host). h.incarnation) (sym same_now) ∙ lived))

      front : IsFront earlier moment.world.log
      front = record { rest = entry ∷ f.more; is = f.log_so }

      not_new_here : (number : ℕ) (ask : Ask) → input_of_cause cause ≡ inputs.Guest req number ask → ⊥
      not_new_here =
          not_new script range earlier entry node command session req known mine incarnation asked moment.world began f.begun node.0 host
          there
          cause so

      -- what is undone is so still
      back_so : f.now.incarnation ≡ incarnation → (one : Entry) → IsGivenBack moment.world node incarnation (earlier ++ entry ∷ []) f.more one
          → IsFreedIn (earlier ++ entry ∷ []) (log_after_cause cause f.more) one
          ⊎ Contains (outbox_then (input_of_cause cause) host.node.outbox) one
      back_so lived one (StandsInTheLog among) = inl (behind_stays cause f.more one among)
      back_so lived one (IsToBePut other got on among) =
          let same : other ≡ host = same_Some other host (sym got ∙ there) in
          put_or_left moment.world began host there up_here f.more f.log_so one cause so (subst (λ (h : Host). Contains h.node.outbox one) same among)
      back_so lived one (EndedBefore other got over) =
          let same : other ≡ f.now = same_Some other f.now (sym got ∙ f.there) in
          absurd (⊎_elim
          (λ (less : incarnation < f.now.incarnation). omega (arith, less, lived))
          (λ (lost : f.now.is_lost ≡ true).
          let kept_up : f.now.is_lost ≡ false = ap (λ (h : Host). h.is_lost) (sym same_now) ∙ up_here in cc (lost, kept_up))
          (subst (IsOver incarnation) same over))

      own_step : After made
      own_step = ⊎_elim
          (λ (lived : f.now.incarnation ≡ incarnation).
          let goes = f.going lived (ap (λ (h : Host). h.is_lost) (sym same_now) ∙ up_here) in
          subst After made_so
          (step_follows moment began host there up (ap (λ (h : Host). h.incarnation) same_now ∙ lived) front cause so not_new_here event
          (starts_on script range earlier entry node command session req known mine moment.world began host there up front cause so
          not_new_here
          (subst (λ (h : Host). GoesOnAt script range earlier entry node command session req known mine moment.world.log h.node)
          (sym same_now) goes))
          f.begun (subst (λ (o : EventOutcome). Grows moment.world.guests o.world.guests) (sym made_so) grows)
          (log_after_cause cause f.more) (log_behind cause moment.world.log f.more f.log_so)
          (λ was. let undone = f.refused was in (undone.0, λ unlock gives. back_so lived unlock (undone.1 unlock gives)))))
          (λ (apart : f.now.incarnation ≢ incarnation).
          let here : host.incarnation ≡ f.now.incarnation = ap (λ (h : Host). h.incarnation) same_now in
          let less : incarnation < f.now.incarnation = later_than incarnation f.now.incarnation f.since apart in
          ends (outcome_of_step script node.0 host cause moment.world) made_so
          (log_after_cause cause f.more, log_behind cause moment.world.log f.more f.log_so, behind_stays cause f.more) (own_silent apart)
          now
          (get-insert_same moment.world.hosts node.0 now) (inl (omega (arith, here, less))) (omega (arith, here, less)))
          (cases_eq f.now.incarnation incarnation)
        where
          later_than : (one other : ℕ) → one ≤ other → other ≢ one → one < other
          later_than one other at_most apart = ⊎_elim
              (λ (less : one < other). less)
              (λ (most : other ≤ one). absurd (apart (omega (arith, at_most, most))))
              (cases_lt one other)

          now : Host
          now = host_with_node host (node_step (input_of_cause cause) host.node).node

    -- ---- each kind of event

    node_stays : (k : ℕ) (new : Host) → k ≢ node.0 → tree.get (tree.insert moment.world.hosts k new) node.0 ≡ Some f.now
    node_stays k new other = get-insert_other moment.world.hosts k new node.0 (λ (same : node.0 ≡ k). other (sym same)) ∙ f.there

    node_is : (k : ℕ) (new : Host) → k ≡ node.0 → tree.get (tree.insert moment.world.hosts k new) node.0 ≡ Some new
    node_is k new own =
        ap (tree.get (tree.insert moment.world.hosts k new)) (sym own) ∙ get-insert_same moment.world.hosts k new

    by_step : IsNodeStep script event moment.world made → After made
    by_step h = ⊎_elim
        (λ (own : h.n ≡ node.0).
        own_step h.host (subst (λ (k : ℕ). tree.get moment.world.hosts k ≡ Some h.host) own h.there) h.up h.cause
        (subst (λ (k : ℕ). IsCause script moment.world k h.host h.cause) own h.caused)
        (ap (λ (k : ℕ). outcome_of_step script k h.host h.cause moment.world) (sym own) ∙ h.made_so))
        (λ (other : h.n ≢ node.0).
        stays (outcome_of_step script h.n h.host h.cause moment.world) h.made_so
        (log_of_step moment.world began h.n h.host h.there other h.cause h.caused)
        (silent script range earlier entry node command session req known mine incarnation asked moment.world began f.begun h.n h.host
        h.there
        h.cause h.caused (λ here lived. other here))
        (node_stays h.n (host_with_node h.host (node_step (input_of_cause h.cause) h.host.node).node) other))
        (cases_eq h.n node.0)

    by_loss : IsNodeLoss script event moment.world made → After made
    by_loss h = ⊎_elim
        (λ (own : h.n ≡ node.0).
        let same : h.host ≡ f.now
        = same_Some h.host f.now (sym (subst (λ (k : ℕ). tree.get moment.world.hosts k ≡ Some h.host) own h.there) ∙ f.there) in
        let since = f.since in
        let here : h.host.incarnation ≡ f.now.incarnation = ap (λ (host : Host). host.incarnation) same in
        ends _ h.made_so (f.more, f.log_so, λ one among. among) nobody (lost_host h.host) (node_is h.n (lost_host h.host) own) (inr refl)
        (omega (arith, since, here)))
        (λ (other : h.n ≢ node.0).
        stays _ h.made_so (inl refl) nobody (node_stays h.n (lost_host h.host) other))
        (cases_eq h.n node.0)

    by_join : IsNodeJoin script event moment.world made → After made
    by_join h = ⊎_elim
        (λ (own : h.n ≡ node.0).
        let none : is_some (tree.get moment.world.hosts h.n) ≡ false
        = (next_fits script moment.world (lines.Join h.n) h.control (together script range moment.world began).fit).1 in
        let here : tree.get moment.world.hosts h.n ≡ Some f.now = ap (tree.get moment.world.hosts) own ∙ f.there in
        absurd (cc (sym none ∙ ap (λ (o : Option Host). is_some o) here)))
        (λ (other : h.n ≢ node.0).
        stays _ h.made_so (inr (
          join_of script h.n (vnodes_of script),
          refl,
          other_entry (join_of script h.n (vnodes_of script))
              (λ is. is),
        ))
        nobody (node_stays h.n (joined_host script h.n) other))
        (cases_eq h.n node.0)

    by_return : IsNodeReturn script event moment.world made → After made
    by_return h = ⊎_elim
        (λ (own : h.n ≡ node.0).
        let same : h.host ≡ f.now
        = same_Some h.host f.now (sym (subst (λ (k : ℕ). tree.get moment.world.hosts k ≡ Some h.host) own h.there) ∙ f.there) in
        let since = f.since in
        let here : h.host.incarnation ≡ f.now.incarnation = ap (λ (host : Host). host.incarnation) same in
        ends _ h.made_so (has_more script range earlier entry node command session req known mine incarnation asked moment.world.log log
        f.more f.log_so joins) (λ reply among. absurd (back_silent script log h.host.node reply among)) new (node_is h.n new own)
        (inl (omega (arith, since, here))) (omega (arith, since, here)))
        (λ (other : h.n ≢ node.0).
        stays _ h.made_so joins (λ reply among. absurd (back_silent script log h.host.node reply among)) (node_stays h.n new other))
        (cases_eq h.n node.0)
      where
        log : List Entry
        log = log_after_return script h.n moment.world

        new : Host
        new = host_after_return log h.host

        last : Entry
        last = join_of script h.n (last_weight moment.world.log h.n)

        joins : GrowsBy script range earlier entry node command session req known mine incarnation asked moment.world.log log
        joins = inr (last, refl, other_entry last (λ is. is))

    by_kind : EventKind script event moment.world made → After made
    by_kind (NodeStep h) = by_step h
    by_kind (UntoldLoss h) = stays _ h.made_so (inl refl) nobody f.there
    by_kind (UnreadDelivery h) = stays _ h.made_so (inl refl) nobody f.there
    by_kind (NodeLoss h) = by_loss h
    by_kind (NodeLeave h) =
        stays _ h.made_so
        (inr (entries.Leave (record { 0 = h.n }), refl, other_entry (entries.Leave (record { 0 = h.n })) (λ is. is))) nobody f.there
    by_kind (NodeReweight h) =
        stays _ h.made_so
        (inr (
          entries.Reweight (record { 0 = h.n }) h.vnodes,
          refl,
          other_entry (entries.Reweight (record { 0 = h.n }) h.vnodes)
              (λ is. is),
        ))
        nobody f.there
    by_kind (NodeJoin h) = by_join h
    by_kind (NodeReturn h) = by_return h
    by_kind (PhaseEnd h) = stays _ h.made_so (inl refl) nobody f.there

  pub event_follows : (event : Event) (moment : MomentWithPast) (made : EventOutcome) → Began script moment.world
      → MakesMove script event moment.world made → FollowsHere moment → FollowsHere (moment_after script event moment made)
  event_follows event moment made began goes f =
      let kind = goes_by_kind script event moment.world made goes in
      by_kind event moment made began f (guests_grow script event moment.world made kind) kind
