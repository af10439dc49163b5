-- In each world of a run in range, and at each moment on the way of its events, sessions have what their works rest on.
use Rattle.std.proofs.lemmas.Option.{same_Some}
use Rattle.std.proofs.lemmas.List.Elements.{All-head}
use Rattle.sheep_node.specs.May.{has_numbers}
use Rattle.std.proofs.lemmas.Bool.{not-true, and_parts}
use Rattle.overlap_law.proofs.CountedEntries.{times, times-none}
use Rattle.overlap_law.proofs.ClaimsAtPuts.{snapshot_writes}
use Rattle.std.proofs.Common.{◌≡◌, ◌≢◌, ⊎_elim, ℕ, ◌≤◌, true, false, List, [], ◌∷◌, ◌++◌, All, drop, length, Some, None, refl, sym, ap}
use Rattle.std.proofs.Common.{subst, ◌∙◌, append_assoc, arith, not}
use Rattle.std.specs.FinMap as tree
use Rattle.std.specs.List.{slice_get}
use Rattle.std.proofs.lemmas.List.{length-append}
use Rattle.std.proofs.Math.Seq.{drop-length}
use Rattle.proof_tools.proofs.FiniteMaps.{get-insert_cases}
use Rattle.object_id.specs.declared.entry.Entry.{Entry}
use Rattle.object_id.specs.declared.entry.Entry.TheVariants as entries
use Rattle.object_id.specs.declared.node.NodeId.{NodeId}
use Rattle.object_id.specs.declared.oid.Vid.{Vid}
use Rattle.cluster_script.specs.declared.statement.Statement.{Statement}
use Rattle.cluster_script.specs.Settings.{tries_of, vnodes_of}
use Rattle.vdi_directory.specs.Decisions.{log_effects}
use Rattle.vdi_ops.specs.Op.{Op}
use Rattle.sheep_node.specs.declared.course.Course.TheVariants.{Commanding}
use Rattle.sheep_node.specs.declared.course.Request.{Request}
use Rattle.sheep_node.specs.declared.event.Event.{Event}
use Rattle.sheep_node.specs.declared.input.Input.{Input}
use Rattle.sheep_node.specs.declared.input.Input.TheVariants as inputs
use Rattle.sheep_node.specs.Changes.{input_received, Leads}
use Rattle.sheep_node.specs.OwnEntries.{IsEntryOf}
use Rattle.sheep_node.specs.State as nodes
use Rattle.sheep_node.specs.State.{Node}
use Rattle.sheep_node.specs.Step.{node_step}
use Rattle.sheep_node.specs.StepFacts.{read_after}
use Rattle.sheep_node.specs.StepState.{StepState, at_first}
use Rattle.sheep_node.proofs.StepChain.{step_chain}
use Rattle.sheep_world.specs.World.{Host, World, is_host_up}
use Rattle.sheep_world.specs.Began.{Began}
use Rattle.sheep_world.specs.EventKinds.{log_after_return, EventKind, NodeStep, UntoldLoss, UnreadDelivery, NodeLoss, NodeLeave}
use Rattle.sheep_world.specs.EventKinds.{NodeReweight, NodeJoin, NodeReturn, PhaseEnd}
use Rattle.sheep_world.specs.HostChanges.{joined_host, host_after_return}
use Rattle.sheep_world.specs.LogFronts.{IsFront}
use Rattle.sheep_world.specs.MembershipChanges.{lost_host, join_of, last_weight}
use Rattle.sheep_world.specs.NodeCauses.{NodeCause, GuestAsks, RequestComes, ReplyComes, LossIsTold, EntryIsRead, EntryIsPut, RecoveryTicks}
use Rattle.sheep_world.specs.NodeCauses.{WorkIsRetried, ClientAsks, input_of_cause, IsCause, host_with_node, log_after_cause}
use Rattle.sheep_world.specs.Opening.{format_entry, initial_world}
use Rattle.sheep_world.specs.Step.{EventOutcome}
use Rattle.sheep_world.proofs.BegunWorlds.{by_induction}
use Rattle.sheep_world.proofs.ClientReads.{goes_by_kind}
use Rattle.sheep_world.proofs.LogFrontLaws.{all_read, next_after}
use Rattle.sheep_world.proofs.NodesByTheLog.{knows_its_number}
use Rattle.sheep_world.proofs.WireAtOpening.{opening_found}
use Rattle.sheep_world.specs.RunsWithAsks.{Move}
use Rattle.overlap_law.specs.AwaitedEntries.{IsSessionsCommand, IsCommandEntry}
use Rattle.overlap_law.specs.Grants.{writer_of}
use Rattle.overlap_law.specs.Past.{MomentWithPast, run_with_past}
use Rattle.overlap_law.specs.MomentChanges.{MomentChange, MomentTrail, RunsAreInRange}
use Rattle.overlap_law.specs.Reached.{Hosts}
use Rattle.overlap_law.specs.StepMoments.{first_in_step, SteppingNode, IsStepping, StepsByChanges, LeadsInStep, moment_in_step}
use Rattle.overlap_law.specs.WriterClaims.{holder_at, HasClaims, ClaimsAreKept}
use Rattle.overlap_law.proofs.AwaitedChanges.{AreAwaited, IsOwnCourse}
use Rattle.overlap_law.proofs.AwaitedEntriesInMoments.{unread_of, meets_otherwise, meets, own_first, own_entries, entries_so}
use Rattle.overlap_law.proofs.AwaitedInputs.{AreAwaitedAt, back_awaited}
use Rattle.overlap_law.proofs.AwaitedInRuns.{opening_first, awaited_in_worlds, no_count, new_node}
use Rattle.overlap_law.proofs.ClaimInputs.{HasClaimsAt, no_claims, LogGoes, received_claimed, rests_claimed, reads_entry, reads_none}
use Rattle.overlap_law.proofs.ClaimInputs.{back_received, reads_all}
use Rattle.overlap_law.proofs.ClaimRefusals.{Together, chain_kept}
use Rattle.overlap_law.proofs.ClaimRequests.{IsReadOf}
use Rattle.overlap_law.proofs.ClaimsElsewhere.{Spares, elsewhere_kept, leave_spares, other_spares, one_nodes}
use Rattle.overlap_law.proofs.NoRecoveredDue.{began-with_past}
use Rattle.overlap_law.proofs.OpenDiskChanges.{none_open, received_open}
use Rattle.overlap_law.proofs.OpenDisksInRuns.{open_in_worlds}
use Rattle.overlap_law.proofs.ClosedWorlds.{world_after, world_along}

-- a node that steps on the input doesn't come back by it
abbrev IsNoReturn : Input → Type 0
IsNoReturn (inputs.Guest req session ask) = Unit {0}
IsNoReturn (inputs.Request request) = Unit {0}
IsNoReturn (inputs.Reply rsp) = Unit {0}
IsNoReturn (inputs.Lost number) = Unit {0}
IsNoReturn (inputs.LogEntry entry) = Unit {0}
IsNoReturn inputs.Put = Unit {0}
IsNoReturn inputs.RecoverTick = Unit {0}
IsNoReturn inputs.RetryTick = Unit {0}
IsNoReturn (inputs.Back entries) = ⊥

-- each node that isn't lost is so
abbrev pub AreClaimedAmong : List Entry → Hosts → Type 0
AreClaimedAmong log hosts = (n : ℕ) (host : Host) → tree.get hosts n ≡ Some host → host.is_lost ≡ false → HasClaimsAt log host.node

-- a node's own commands
commands_of : (unread : List Entry) (node : Node) → AreAwaitedAt unread node → (req : ℕ) (request : Request) (op : Op)
    → tree.get node.requests req ≡ Some request → request.course ≡ Commanding op
    → IsSessionsCommand (log_effects node.peer.entries) node.me request.session op
commands_of unread node awaited req request op got command =
    subst (IsOwnCourse node.peer.entries node.me request.session) command (awaited.commands.own req request got)

-- from what a step leaves, at rest
at_rest : (log read : List Entry) (from : ℕ) (so_far : StepState) (me : NodeId) → so_far.node.me ≡ me → so_far.node.peer.entries ≡ read
    → from ≤ length read → HasClaims log so_far.node.outbox read from me so_far.node.requests so_far.node.sessions → HasClaimsAt log so_far.node
at_rest log read from so_far me own read_so on has =
    subst (λ (whose : NodeId). HasClaims log so_far.node.outbox so_far.node.peer.entries (length so_far.node.peer.entries) whose so_far.node.requests
    so_far.node.sessions) (sym own)
    (subst (λ (all : List Entry). HasClaims log so_far.node.outbox all (length all) me so_far.node.requests so_far.node.sessions) (sym read_so)
    (rests_claimed log so_far.node.outbox read from me so_far.node.requests so_far.node.sessions on has))

module _ (script : List Statement) (range : RunsAreInRange script) where
  module _ (world : World) (began : Began script world) (n : ℕ) (host : Host) (there : tree.get world.hosts n ≡ Some host) (up : is_host_up host ≡ true)
      (up_so : host.is_lost ≡ false) (all : AreClaimedAmong world.log world.hosts) where
    awaited : AreAwaitedAt (unread_of world.log host.node) host.node
    awaited = (awaited_in_worlds script range world began).each n host there up_so

    goes : (cause : NodeCause) → IsCause script world n host cause → LogGoes (input_of_cause cause) host.node world.log (log_after_cause cause world.log)
    goes (GuestAsks session req ask) so = refl
    goes (RequestComes name to request) so = refl
    goes (ReplyComes name from rsp) so = refl
    goes (LossIsTold name packet) so = refl
    goes (EntryIsRead entry) so = refl
    goes (EntryIsPut entry) so = (entry, so.0, so.1, refl)
    goes RecoveryTicks so = refl
    goes WorkIsRetried so = refl
    goes (ClientAsks req ask) so = refl

    front : IsFront host.node.peer.entries world.log
    front = all_read script world began n host there

    put_front : (entry : Entry) → world.log ++ entry ∷ [] ≡ host.node.peer.entries ++ (front.rest ++ entry ∷ [])
    put_front entry = ap (λ (log : List Entry). log ++ entry ∷ []) front.is ∙ append_assoc host.node.peer.entries front.rest (entry ∷ [])

    pub reads : (cause : NodeCause) → IsCause script world n host cause
        → IsReadOf (log_after_cause cause world.log) (read_after (input_of_cause cause) host.node.peer.entries)
        (drop (length (read_after (input_of_cause cause) host.node.peer.entries)) (log_after_cause cause world.log)) (length host.node.peer.entries)
        (input_of_cause cause) host.node
    reads (GuestAsks session req ask) so =
        reads_none world.log front.rest (inputs.Guest req session.number ask) host.node (λ entry is. cc (is)) host.node.peer.entries refl front.is
    reads (RequestComes name to request) so =
        reads_none world.log front.rest (inputs.Request request) host.node (λ entry is. cc (is)) host.node.peer.entries refl front.is
    reads (ReplyComes name from rsp) so =
        reads_none world.log front.rest (inputs.Reply rsp) host.node (λ entry is. cc (is)) host.node.peer.entries refl front.is
    reads (LossIsTold name packet) so =
        reads_none world.log front.rest (inputs.Lost name.number) host.node (λ entry is. cc (is)) host.node.peer.entries refl front.is
    reads (EntryIsRead entry) so =
        let (later, is) = next_after host.node.peer.entries front.rest entry
        (ap (λ (log : List Entry). slice_get log (length host.node.peer.entries)) (sym front.is) ∙ so) in
        reads_entry world.log later entry host.node (front.is ∙ ap (λ (rest : List Entry). host.node.peer.entries ++ rest) is)
    reads (EntryIsPut entry) so =
        reads_none (world.log ++ entry ∷ []) (front.rest ++ entry ∷ []) inputs.Put host.node (λ other is. cc (is)) host.node.peer.entries refl
        (put_front entry)
    reads RecoveryTicks so =
        reads_none world.log front.rest inputs.RecoverTick host.node (λ entry is. cc (is)) host.node.peer.entries refl front.is
    reads WorkIsRetried so =
        reads_none world.log front.rest inputs.RetryTick host.node (λ entry is. cc (is)) host.node.peer.entries refl front.is
    reads (ClientAsks req ask) so =
        reads_none world.log front.rest (inputs.Guest req 0 ask) host.node (λ entry is. cc (is)) host.node.peer.entries refl front.is

    -- what holds together of the node that steps, as far as it has come
    pub together_so_far : (cause : NodeCause) (so : IsCause script world n host cause) (so_far : StepState)
        → Leads (input_of_cause cause) host.node (input_received (input_of_cause cause) (at_first host.node)) so_far
        → Together (read_after (input_of_cause cause) host.node.peer.entries)
        (drop (length (read_after (input_of_cause cause) host.node.peer.entries)) (log_after_cause cause world.log)) (input_of_cause cause)
        host.node (meets script range world began n host there up cause so) (log_after_cause cause world.log)
        (length host.node.peer.entries) (reads cause so) so_far
    together_so_far cause so so_far leads =
        let input = input_of_cause cause in
        let read = read_after input host.node.peer.entries in
        let log = log_after_cause cause world.log in
        chain_kept read (drop (length read) log) input host.node (meets script range world began n host there up cause so) log
        (length host.node.peer.entries) (reads cause so) leads (record {
          awaited = own_first script range world began n host there up cause so (awaited_in_worlds script range world began);
          fits = received_open input host.node (open_in_worlds script range world began n host there);
          claims =
              received_claimed world.log log (unread_of world.log host.node) host.node (all n host there up_so)
              (own_entries script world began n host there).entries awaited input (goes cause so);
        })

    own_claimed : (cause : NodeCause) → IsCause script world n host cause → (so_far : StepState)
        → Leads (input_of_cause cause) host.node (input_received (input_of_cause cause) (at_first host.node)) so_far
        → HasClaimsAt (log_after_cause cause world.log) so_far.node
    own_claimed cause so so_far leads =
        let input = input_of_cause cause in
        let together = together_so_far cause so so_far leads in
        at_rest (log_after_cause cause world.log) (read_after input host.node.peer.entries) (length host.node.peer.entries) so_far
        host.node.me together.awaited.me_so (entries_so input host.node so_far leads)
        (reads_on input host.node.peer.entries (is_no_return cause)) together.claims
      where
        reads_on : (input : Input) (entries : List Entry) → IsNoReturn input → length entries ≤ length (read_after input entries)
        reads_on (inputs.Guest req session ask) entries here = omega arith
        reads_on (inputs.Request request) entries here = omega arith
        reads_on (inputs.Reply rsp) entries here = omega arith
        reads_on (inputs.Lost number) entries here = omega arith
        reads_on (inputs.LogEntry entry) entries here = let longer = length-append entries (entry ∷ []) in omega (arith, longer)
        reads_on inputs.Put entries here = omega arith
        reads_on inputs.RecoverTick entries here = omega arith
        reads_on inputs.RetryTick entries here = omega arith
        reads_on (inputs.Back back) entries here = absurd here

        is_no_return : (cause : NodeCause) → IsNoReturn (input_of_cause cause)
        is_no_return (GuestAsks session req ask) = tt
        is_no_return (RequestComes name to request) = tt
        is_no_return (ReplyComes name from rsp) = tt
        is_no_return (LossIsTold name packet) = tt
        is_no_return (EntryIsRead entry) = tt
        is_no_return (EntryIsPut entry) = tt
        is_no_return RecoveryTicks = tt
        is_no_return WorkIsRetried = tt
        is_no_return (ClientAsks req ask) = tt

  -- another node, where one puts an entry
  module _ (world : World) (began : Began script world) (all : AreClaimedAmong world.log world.hosts) (n : ℕ) (host : Host)
      (there : tree.get world.hosts n ≡ Some host) (up_so : host.is_lost ≡ false) (last : Entry) (spares : Spares world.log host.node.me last)
      (strange : IsEntryOf host.node.me last → ⊥) where
    pub other_claimed : HasClaimsAt (world.log ++ last ∷ []) host.node
    other_claimed =
        elsewhere_kept world.log last host.node.outbox host.node.peer.entries (length host.node.peer.entries) host.node.me host.node.requests
        host.node.sessions (all n host there up_so) spares strange
        (commands_of (unread_of world.log host.node) host.node ((awaited_in_worlds script range world began).each n host there up_so))

  module _ (world : World) (began : Began script world) (n : ℕ) (host : Host) (there : tree.get world.hosts n ≡ Some host) (up : is_host_up host ≡ true)
      (up_so : host.is_lost ≡ false) (all : AreClaimedAmong world.log world.hosts) where
    -- a snapshot's disk is locked by a session of the node that puts its entry
    pub snaps : (entry : Entry) → IsCause script world n host (EntryIsPut entry) → (by : NodeId) (old vid : Vid) → entry ≡ entries.Snapshot by old vid
        → (session : ℕ) × (writer_of (log_effects world.log) old.0 ≡ Some (holder_at host.node.me session))
    snaps entry so by old vid is =
        let first : host.node.outbox ≡ entries.Snapshot by old vid ∷ so.0 = so.1 ∙ ap (λ (e : Entry). e ∷ so.0) is in
        snapshot_writes world.log so.0 host.node.peer.entries (length host.node.peer.entries) host.node.me (unread_of world.log host.node)
        host.node.requests host.node.sessions by old vid
        (subst (All (IsEntryOf host.node.me)) first (own_entries script world began n host there).entries)
        (subst (λ (outbox : List Entry). AreAwaited host.node.peer.entries host.node.me (unread_of world.log host.node) None host.node.me
        host.node.requests outbox) first ((awaited_in_worlds script range world began).each n host there up_so))
        (subst (λ (outbox : List Entry). HasClaims world.log outbox host.node.peer.entries (length host.node.peer.entries) host.node.me
        host.node.requests host.node.sessions) first (all n host there up_so))

    other_step : (cause : NodeCause) → IsCause script world n host cause → (q : ℕ) (other : Host) → q ≢ n → tree.get world.hosts q ≡ Some other
        → other.is_lost ≡ false → HasClaimsAt (log_after_cause cause world.log) other.node
    other_step (GuestAsks session req ask) so q other apart at here = all q other at here
    other_step (RequestComes name to request) so q other apart at here = all q other at here
    other_step (ReplyComes name from rsp) so q other apart at here = all q other at here
    other_step (LossIsTold name packet) so q other apart at here = all q other at here
    other_step (EntryIsRead entry) so q other apart at here = all q other at here
    other_step (EntryIsPut entry) so q other apart at here =
        let own : IsEntryOf host.node.me entry
        = All-head (IsEntryOf host.node.me) entry so.0 (subst (All (IsEntryOf host.node.me)) so.1 (own_entries script world began n host there).entries) in
        let differ : other.node.me.0 ≢ host.node.me.0
        = λ same. apart (sym (knows_its_number script world began q other at) ∙ same ∙ knows_its_number script world began n host there) in
        other_claimed world began all q other at here entry
        (other_spares world.log other.node.me host.node.me differ entry own (snaps entry so))
        (λ theirs. differ (ap (λ (m : NodeId). m.0) (one_nodes other.node.me host.node.me entry theirs own)))
    other_step RecoveryTicks so q other apart at here = all q other at here
    other_step WorkIsRetried so q other apart at here = all q other at here
    other_step (ClientAsks req ask) so q other apart at here = all q other at here

    pub step_claimed : (cause : NodeCause) → IsCause script world n host cause → (so_far : StepState)
        → Leads (input_of_cause cause) host.node (input_received (input_of_cause cause) (at_first host.node)) so_far
        → AreClaimedAmong (log_after_cause cause world.log) (tree.insert world.hosts n (host_with_node host so_far.node))
    step_claimed cause so so_far leads q other at here = ⊎_elim
        (λ (own : (q ≡ n) × (host_with_node host so_far.node ≡ other)).
        subst (λ (h : Host). HasClaimsAt (log_after_cause cause world.log) h.node) own.1
        (own_claimed world began n host there up up_so all cause so so_far leads))
        (λ (apart : (q ≢ n) × (tree.get world.hosts q ≡ Some other)). other_step cause so q other apart.0 apart.1 here)
        (get-insert_cases world.hosts n (host_with_node host so_far.node) q other at)

  -- ---- each event

  pub up_not_lost : (host : Host) → is_host_up host ≡ true → host.is_lost ≡ false
  up_not_lost host up = not-true host.is_lost (and_parts (not host.is_lost) (has_numbers host.node) up).0

  module _ (world : World) (began : Began script world) (all : AreClaimedAmong world.log world.hosts) where
    -- an entry that takes nothing from anybody who is up
    membership : (last : Entry) → ((me : NodeId) → IsEntryOf me last → ⊥)
        → ((n : ℕ) (host : Host) → tree.get world.hosts n ≡ Some host → host.is_lost ≡ false → Spares world.log host.node.me last)
        → AreClaimedAmong (world.log ++ last ∷ []) world.hosts
    membership last strange spares n host there up_so =
        other_claimed world began all n host there up_so last (spares n host there up_so) (strange host.node.me)

    -- and a node comes
    comes : (log : List Entry) (n : ℕ) (new : Host) → HasClaimsAt log new.node → AreClaimedAmong log world.hosts
        → AreClaimedAmong log (tree.insert world.hosts n new)
    comes log n new has before q host at here = ⊎_elim
        (λ (own : (q ≡ n) × (new ≡ host)). subst (λ (h : Host). HasClaimsAt log h.node) own.1 has)
        (λ (apart : (q ≢ n) × (tree.get world.hosts q ≡ Some host)). before q host apart.1 here)
        (get-insert_cases world.hosts n new q host at)

    lost : (n : ℕ) (host : Host) → AreClaimedAmong world.log (tree.insert world.hosts n (lost_host host))
    lost n host q other at here = ⊎_elim
        (λ (own : (q ≡ n) × (lost_host host ≡ other)).
        let gone : other.is_lost ≡ true = ap (λ (h : Host). h.is_lost) (sym own.1) in
        absurd (cc (gone, here)))
        (λ (apart : (q ≢ n) × (tree.get world.hosts q ≡ Some other)). all q other apart.1 here)
        (get-insert_cases world.hosts n (lost_host host) q other at)

  -- a node that comes back has no requests, and has read all
  back_claimed : (world : World) → Began script world → (n : ℕ) (host : Host) → tree.get world.hosts n ≡ Some host → (log : List Entry)
      → HasClaimsAt log (node_step (inputs.Back log) host.node).node
  back_claimed world began n host there log =
      let input = inputs.Back log in
      let met = meets_otherwise input host.node (λ req session ask from. absurd (cc (from))) in
      let together = chain_kept log (drop (length log) log) input host.node met log (length log) (reads_all log host.node) (step_chain input host.node)
      (record {
        awaited = back_awaited host.node log (drop (length log) log) (drop-length log);
        fits = received_open input host.node (open_in_worlds script range world began n host there);
        claims = back_received log host.node;
      }) in
      at_rest log log (length log) (node_step input host.node) host.node.me together.awaited.me_so
      (entries_so input host.node (node_step input host.node) (step_chain input host.node)) (omega arith) together.claims

  kept : (event : Event) (world : World) (made : EventOutcome) → Began script world → EventKind script event world made
      → AreClaimedAmong world.log world.hosts → AreClaimedAmong made.world.log made.world.hosts
  kept event world made began (NodeStep h) all =
      subst (λ (m : EventOutcome). AreClaimedAmong m.world.log m.world.hosts) h.made_so
      (step_claimed world began h.n h.host h.there h.up (up_not_lost h.host h.up) all h.cause h.caused (node_step (input_of_cause h.cause) h.host.node)
      (step_chain (input_of_cause h.cause) h.host.node))
  kept event world made began (UntoldLoss h) all = subst (λ (m : EventOutcome). AreClaimedAmong m.world.log m.world.hosts) h.made_so all
  kept event world made began (UnreadDelivery h) all = subst (λ (m : EventOutcome). AreClaimedAmong m.world.log m.world.hosts) h.made_so all
  kept event world made began (NodeLoss h) all =
      subst (λ (m : EventOutcome). AreClaimedAmong m.world.log m.world.hosts) h.made_so (lost world began all h.n h.host)
  kept event world made began (NodeLeave h) all =
      subst (λ (m : EventOutcome). AreClaimedAmong m.world.log m.world.hosts) h.made_so
      (membership world began all (entries.Leave (record { 0 = h.n })) (λ me is. is)
      (λ n host there here. leave_spares world.log host.node.me (record { 0 = h.n })
      (λ same.
      let number : n ≡ h.n = sym (knows_its_number script world began n host there) ∙ same in
      let one : h.host ≡ host = same_Some h.host host (sym h.there ∙ ap (tree.get world.hosts) (sym number) ∙ there) in
      let gone : host.is_lost ≡ true = ap (λ (x : Host). x.is_lost) (sym one) ∙ h.lost in
      absurd (cc (gone, here)))))
  kept event world made began (NodeReweight h) all =
      subst (λ (m : EventOutcome). AreClaimedAmong m.world.log m.world.hosts) h.made_so
      (membership world began all (entries.Reweight (record { 0 = h.n }) h.vnodes) (λ me is. is) (λ n host there here session vid writer. refl))
  kept event world made began (NodeJoin h) all =
      subst (λ (m : EventOutcome). AreClaimedAmong m.world.log m.world.hosts) h.made_so
      (comes world began all (world.log ++ join_of script h.n (vnodes_of script) ∷ []) h.n (joined_host script h.n)
      (no_claims (world.log ++ join_of script h.n (vnodes_of script) ∷ []) [] 0 (record { 0 = h.n }))
      (membership world began all (join_of script h.n (vnodes_of script)) (λ me is. is) (λ n host there here session vid writer. refl)))
  kept event world made began (NodeReturn h) all =
      subst (λ (m : EventOutcome). AreClaimedAmong m.world.log m.world.hosts) h.made_so
      (comes world began all (log_after_return script h.n world) h.n (host_after_return (log_after_return script h.n world) h.host)
      (back_claimed world began h.n h.host h.there (log_after_return script h.n world))
      (membership world began all (join_of script h.n (last_weight world.log h.n)) (λ me is. is) (λ n host there here session vid writer. refl)))
  kept event world made began (PhaseEnd h) all = subst (λ (m : EventOutcome). AreClaimedAmong m.world.log m.world.hosts) h.made_so all

  -- a node that opens reads the log's first entry
  opens : AreClaimedAmong (initial_world script).log (initial_world script).hosts
  unfolding initial_world
  opens q host got up_so =
      let (member, own, is) = opening_found script q host got in
      let first = format_entry script in
      let new = nodes.initial_node member.node (tries_of script) in
      let input = inputs.LogEntry first in
      let met = meets_otherwise input new (λ req session ask from. absurd (cc (from))) in
      let together = chain_kept (first ∷ []) [] input new met (first ∷ []) 0 (reads_entry (first ∷ []) [] first new refl) (step_chain input new) (record {
        awaited = opening_first script range member.node;
        fits = received_open input new none_open;
        claims = received_claimed (first ∷ []) (first ∷ []) (first ∷ []) new (no_claims (first ∷ []) [] 0 member.node) (no_own member.node)
            (new_node script range (first ∷ []) member.node (λ entry is. none_of_first member.node entry is)) input refl;
      }) in
      subst (λ (h : Host). HasClaimsAt (first ∷ []) h.node) is
      (at_rest (first ∷ []) (first ∷ []) 0 (node_step input new) member.node together.awaited.me_so
      (entries_so input new (node_step input new) (step_chain input new)) (omega arith) together.claims)
    where
      no_own : (me : NodeId) → All (IsEntryOf me) []
      no_own me = λ place x within. absurd (omega (arith, within))

      none_of_first : (me : NodeId) (entry : Entry) → IsCommandEntry me entry → times entry (format_entry script ∷ []) ≡ 0
      none_of_first me entry is = no_count [] (format_entry script) (λ whose own. own) me entry is (times-none entry)

  pub claimed_in_worlds : (world : World) → Began script world → AreClaimedAmong world.log world.hosts
  claimed_in_worlds = by_induction script (λ (world : World). AreClaimedAmong world.log world.hosts) (record {
    opens = opens;
    keeps = λ event world made began is all. kept event world made began (goes_by_kind script event world made is) all;
  })

  -- ---- along trails

  module _ (start : MomentWithPast) (began : Began script start.world) where
    abbrev Among : World → Type 0
    Among world = AreClaimedAmong world.log world.hosts

    in_step : (stepping : SteppingNode) → IsStepping script start.world stepping → StepsByChanges stepping.cause → (so_far : StepState)
        → LeadsInStep stepping (first_in_step stepping) so_far → Among (moment_in_step script stepping start so_far).world
    in_step stepping is by so_far leads =
        step_claimed start.world began stepping.n stepping.host is.there is.up (up_not_lost stepping.host is.up)
        (claimed_in_worlds start.world began) stepping.cause is.caused so_far leads

    pub claimed_after : {before after : MomentWithPast} → MomentChange script start before after
        → AreClaimedAmong after.world.log after.world.hosts
    claimed_after change = world_after script Among claimed_in_worlds start began in_step change

    along_trail : {moment : MomentWithPast} → MomentTrail script start moment → AreClaimedAmong moment.world.log moment.world.hosts
    along_trail trail = world_along script Among claimed_in_worlds start began in_step trail

  pub claims-in_run : (events : List Move) (start moment : MomentWithPast) → run_with_past script events ≡ Some start
      → MomentTrail script start moment → ClaimsAreKept moment.world.log moment.world.hosts
  claims-in_run events start moment is trail =
      record { each = λ n host there up. along_trail start (began-with_past script events start is) trail n host there up }
