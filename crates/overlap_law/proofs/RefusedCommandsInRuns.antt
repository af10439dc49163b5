-- In every run in range refused commands change nothing: what publishes, replaces or deletes a disk was put for a request that isn't
-- refused, and a command that is refused gives back what its entry gave.
use Rattle.std.proofs.Common.{◌≡◌, ◌⊎◌, inl, inr, ⊎_elim, ℕ, ◌+◌, true, false, List, [], ◌∷◌, ◌++◌, All, Option, Some, None, refl, sym, ap}
use Rattle.std.proofs.Common.{subst, ◌∙◌}
use Rattle.std.specs.Option.{option_map, option_and_then}
use Rattle.std.specs.FinMap as tree
use Rattle.std.proofs.lemmas.Option.{same_Some}
use Rattle.std.proofs.lemmas.List.Elements.{All-head}
use Rattle.object_id.specs.declared.node.NodeId.{NodeId}
use Rattle.object_id.specs.declared.entry.Entry.{Entry}
use Rattle.object_id.specs.declared.entry.Entry.TheVariants.{Format, Join, Leave, Reweight, Recovered, Reserve, Publish, Clone, Snapshot}
use Rattle.object_id.specs.declared.entry.Entry.TheVariants.{Delete, Lock, Unlock}
use Rattle.cluster_script.specs.declared.statement.Statement.{Statement}
use Rattle.vdi_directory.specs.Decisions.{log_effects}
use Rattle.sheep_node.specs.declared.event.Event.TheVariants as events
use Rattle.sheep_node.specs.OwnEntries.{IsEntryOf}
use Rattle.message_wire.specs.declared.name.MessageName.{MessageName}
use Rattle.message_wire.specs.declared.packet.Packet.{Packet}
use Rattle.message_wire.specs.declared.packet.Packet.TheVariants.{Request, Reply}
use Rattle.sheep_world.specs.Began.{Began, MakesMove}
use Rattle.sheep_world.specs.Enabled.{loss_of}
use Rattle.sheep_world.specs.EventKinds.{EventKind, NodeStep, UntoldLoss, UnreadDelivery, NodeLoss, NodeLeave, NodeReweight, NodeJoin}
use Rattle.sheep_world.specs.EventKinds.{NodeReturn, PhaseEnd, IsNodeStep, outcome_of_step}
use Rattle.sheep_world.specs.NodeCauses.{NodeCause, GuestAsks, RequestComes, ReplyComes, LossIsTold, EntryIsRead, EntryIsPut, RecoveryTicks}
use Rattle.sheep_world.specs.NodeCauses.{WorkIsRetried, ClientAsks, event_of_cause, IsCause}
use Rattle.sheep_world.specs.RunsWithAsks.{Move, Happens}
use Rattle.sheep_world.specs.Step.{EventOutcome, step}
use Rattle.sheep_world.specs.World.{Host, is_host_up}
use Rattle.sheep_world.proofs.BegunRequestLaws.{Grows, guests_grow}
use Rattle.sheep_world.proofs.BegunWorlds.{goes_on, goes_by_event}
use Rattle.sheep_world.proofs.ClientReads.{goes_by_kind}
use Rattle.sheep_world.proofs.NodesByTheLog.{knows_its_number}
use Rattle.overlap_law.specs.AwaitedEntries.{IsCommandEntry}
use Rattle.overlap_law.specs.Holders.{is_object_among}
use Rattle.overlap_law.specs.MomentChanges.{RunsAreInRange}
use Rattle.overlap_law.specs.Past.{MomentWithPast, moment_after, run_on, run_with_past}
use Rattle.overlap_law.specs.RefusedCommands.{effect_behind, changes_disks, giving_back, IsGivenBack, IsToPutFor}
use Rattle.overlap_law.proofs.AwaitedEntriesInMoments.{own_entries}
use Rattle.overlap_law.proofs.NoRecoveredDue.{began-with_past}
use Rattle.overlap_law.proofs.RefusedCommandAtPuts.{mine, asked, put_follows}
use Rattle.overlap_law.proofs.RefusedCommandByEvents.{event_follows}
use Rattle.overlap_law.proofs.RefusedCommandInEvents.{Follows}
use Rattle.overlap_law.proofs.RefusedCommandStages.{IsUndone, unlock_undone}
use Rattle.overlap_law.proofs.RunsByEvents.{on_events}

-- ---- lists

-- a list with one more behind, cut at an element: at the new one, or before
pub cut_last : (earlier later log : List Entry) (entry last : Entry) → log ++ last ∷ [] ≡ earlier ++ entry ∷ later
    → ((log ≡ earlier) × (last ≡ entry)) ⊎ ((rest : List Entry) × (log ≡ earlier ++ entry ∷ rest))
cut_last [] later [] entry last is = inl (refl, cc (is))
cut_last [] later (x ∷ xs) entry last is = let same : x ≡ entry = cc (is) in inr (xs, λ i. same i ∷ xs)
cut_last (y ∷ ys) later [] entry last is = absurd (never_empty ys (cc (is)))
  where
    never_empty : (ys : List Entry) → [] ≡ ys ++ entry ∷ later → ⊥
    never_empty [] none = cc (none)
    never_empty (z ∷ zs) none = cc (none)
cut_last (y ∷ ys) later (x ∷ xs) entry last is =
    let same : x ≡ y = cc (is) in
    let rest : xs ++ last ∷ [] ≡ ys ++ entry ∷ later = cc (is) in
    ⊎_elim
    (λ (here : (xs ≡ ys) × (last ≡ entry)). inl (λ i. same i ∷ here.0 i, here.1))
    (λ (before : (more : List Entry) × (xs ≡ ys ++ entry ∷ more)). inr (before.0, λ i. same i ∷ before.1 i))
    (cut_last ys later xs entry last rest)

same_behind : (earlier one other : List Entry) → earlier ++ one ≡ earlier ++ other → one ≡ other
same_behind [] one other is = is
same_behind (x ∷ xs) one other is = same_behind xs one other (cc (is))

-- ---- what a node puts

-- it is a command's, or changes no disk and gives nothing
pub command_or_undone : (earlier : List Entry) (me : NodeId) (entry : Entry) → IsEntryOf me entry
    → IsCommandEntry me entry ⊎ IsUndone (effect_behind earlier entry)
command_or_undone earlier me (Format members) own = absurd own
command_or_undone earlier me (Join node zone vnodes) own = absurd own
command_or_undone earlier me (Leave node) own = absurd own
command_or_undone earlier me (Reweight node vnodes) own = absurd own
command_or_undone earlier me (Recovered node epoch) own = inr (refl, refl)
command_or_undone earlier me (Reserve by session name origin) own = inl own
command_or_undone earlier me (Publish by vid) own = inl own
command_or_undone earlier me (Clone by vid) own = inl own
command_or_undone earlier me (Snapshot by old vid) own = inl own
command_or_undone earlier me (Delete by session name tag) own = inl own
command_or_undone earlier me (Lock by session name tag) own = inl own
command_or_undone earlier me (Unlock by session vid) own = inr (unlock_undone (log_effects earlier) by session vid)

-- ---- the event of a put

-- a step by this event puts the first entry of its node's outbox
put_cause : (n : ℕ) (cause : NodeCause) (node : NodeId) → event_of_cause n cause ≡ events.Put node
    → (put : Entry) × (cause ≡ EntryIsPut put) × (n ≡ node.0)
put_cause n (GuestAsks asking number ask) node is = absurd (cc (is))
put_cause n (RequestComes name to request) node is = absurd (cc (is))
put_cause n (ReplyComes name of rsp) node is = absurd (cc (is))
put_cause n (LossIsTold name (Request to bytes)) node is = absurd (cc (is))
put_cause n (LossIsTold name (Reply of bytes)) node is = absurd (cc (is))
put_cause n (EntryIsRead read) node is = absurd (cc (is))
put_cause n (EntryIsPut put) node is =
    let same : record { 0 = n } ≡ node = cc (is) in (put, refl, ap (λ (m : NodeId). m.0) same)
put_cause n RecoveryTicks node is = absurd (cc (is))
put_cause n WorkIsRetried node is = absurd (cc (is))
put_cause n (ClientAsks number ask) node is = absurd (cc (is))

loss_no_put : (name : MessageName) (packet : Packet) (node : NodeId) → loss_of name packet ≡ events.Put node → ⊥
loss_no_put name (Request to bytes) node is = cc (is)
loss_no_put name (Reply of bytes) node is = cc (is)

module _ (script : List Statement) (range : RunsAreInRange script) where
  -- ---- what was put is followed

  module _ (moves : List Move) (before : MomentWithPast) (ran : run_with_past script moves ≡ Some before) (entry : Entry) (node : NodeId)
      (incarnation req : ℕ) (t : IsToPutFor before.world node incarnation entry req) where
    abbrev Undone : MomentWithPast → Type 0
    Undone moment = is_object_among req moment.past.refused ≡ true
        → (changes_disks (effect_behind before.world.log entry) ≡ false)
        × ((later : List Entry) (unlock : Entry) → moment.world.log ≡ before.world.log ++ entry ∷ later
        → giving_back (effect_behind before.world.log entry) ≡ Some unlock → IsGivenBack moment.world node incarnation (before.world.log ++ entry ∷ []) later unlock)

    began_then : Began script before.world
    began_then = began-with_past script moves before ran

    -- by the event of its put
    put_step : (made : EventOutcome) → step script (events.Put node) before.world ≡ Some made
        → IsNodeStep script (events.Put node) before.world made → (is_host_up t.host ≡ true)
        × (outcome_of_step script node.0 t.host (EntryIsPut entry) before.world ≡ made)
    put_step made is h =
        let (put, cause_so, here) = put_cause h.n h.cause node h.event_so in
        let host_so : h.host ≡ t.host
        = same_Some h.host t.host (sym h.there ∙ ap (tree.get before.world.hosts) here ∙ t.there) in
        let caused = subst (λ (host : Host). IsCause script before.world h.n host (EntryIsPut put)) host_so
        (subst (λ (why : NodeCause). IsCause script before.world h.n h.host why) cause_so h.caused) in
        let firsts : put ∷ caused.0 ≡ entry ∷ t.later = sym caused.1 ∙ t.next in
        let same : put ≡ entry = cc (firsts) in
        let why : h.cause ≡ EntryIsPut entry = cause_so ∙ ap (λ (e : Entry). EntryIsPut e) same in (
          ap (λ (host : Host). is_host_up host) (sym host_so) ∙ h.up,
          sym (λ i. outcome_of_step script (here i) (host_so i) (why i) before.world) ∙ h.made_so,
        )

    kind_step : (made : EventOutcome) → step script (events.Put node) before.world ≡ Some made
        → EventKind script (events.Put node) before.world made → IsNodeStep script (events.Put node) before.world made
    kind_step made is (NodeStep h) = h
    kind_step made is (UntoldLoss h) = absurd (loss_no_put h.name h.packet node h.event_so)
    kind_step made is (UnreadDelivery h) = let never = h.event_so in absurd (cc (never))
    kind_step made is (NodeLoss h) = let never = h.event_so in absurd (cc (never))
    kind_step made is (NodeLeave h) = let never = h.event_so in absurd (cc (never))
    kind_step made is (NodeReweight h) = let never = h.event_so in absurd (cc (never))
    kind_step made is (NodeJoin h) = let never = h.event_so in absurd (cc (never))
    kind_step made is (NodeReturn h) = let never = h.event_so in absurd (cc (never))
    kind_step made is (PhaseEnd h) = let never = h.event_so in absurd (cc (never))

    -- a command's entry
    module _ (made : EventOutcome) (is : step script (events.Put node) before.world ≡ Some made) (command : IsCommandEntry node entry)
        (more : List Move) (moment : MomentWithPast)
        (led : run_on script (moment_after script (events.Put node) before made) more ≡ Some moment) where
      goes : MakesMove script (events.Put node) before.world made
      goes = goes_by_event script (events.Put node) before.world made is

      kind : EventKind script (events.Put node) before.world made
      kind = goes_by_kind script (events.Put node) before.world made goes

      both : (is_host_up t.host ≡ true) × (outcome_of_step script node.0 t.host (EntryIsPut entry) before.world ≡ made)
      both = put_step made is (kind_step made is kind)

      abbrev FollowsIt : MomentWithPast → Type 0
      FollowsIt =
          Follows script range before.world.log entry node command t.request.session req (log_effects t.host.node.peer.entries)
          (mine script range moves before ran entry node incarnation req t command both.0) incarnation
          (asked script range moves before ran entry node incarnation req t command both.0)

      first : FollowsIt (moment_after script (events.Put node) before made)
      first =
          subst (λ (m : EventOutcome). FollowsIt (moment_after script (events.Put node) before m)) both.1
          (put_follows script range moves before ran entry node incarnation req t command both.0
          (subst (λ (m : EventOutcome). Grows before.world.guests m.world.guests) (sym both.1)
          (guests_grow script (events.Put node) before.world made kind)))

      last : FollowsIt moment
      last =
          on_events script FollowsIt
          (λ event now then began goes_too follows.
          event_follows script range before.world.log entry node command t.request.session req (log_effects t.host.node.peer.entries)
          (mine script range moves before ran entry node incarnation req t command both.0) incarnation
          (asked script range moves before ran entry node incarnation req t command both.0) event now then began goes_too follows)
          more (moment_after script (events.Put node) before made) moment
          (goes_on script (events.Put node) before.world made began_then goes) first led

      command_undone : Undone moment
      command_undone refused =
          let undone = last.refused refused in (
            undone.0,
            λ later unlock log_so gives.
                let behind : entry ∷ last.more ≡ entry ∷ later = same_behind before.world.log _ _ (sym last.log_so ∙ log_so) in
                let same : last.more ≡ later = cc (behind) in
                subst (λ (list : List Entry). IsGivenBack moment.world node incarnation (before.world.log ++ entry ∷ []) list unlock) same (undone.1 unlock gives),
          )

    -- any entry
    undone_at : (more : List Move) (moment : MomentWithPast) (o : Option EventOutcome) → step script (events.Put node) before.world ≡ o
        → option_and_then (λ (next : MomentWithPast). run_on script next more) (option_map (moment_after script (events.Put node) before) o)
        ≡ Some moment
        → Undone moment
    undone_at more moment None is led refused = absurd (cc (led))
    undone_at more moment (Some made) is led refused =
        let me_so : t.host.node.me ≡ node
        = ap (λ (k : ℕ). record { 0 = k }) (knows_its_number script before.world began_then node.0 t.host t.there) in
        let entries_own = (own_entries script before.world began_then node.0 t.host t.there).entries in
        let own : IsEntryOf node entry
        = subst (λ (me : NodeId). IsEntryOf me entry) me_so
        (All-head (IsEntryOf t.host.node.me) entry t.later (subst (All (IsEntryOf t.host.node.me)) t.next entries_own)) in
        ⊎_elim
        (λ (command : IsCommandEntry node entry). command_undone made is command more moment led refused)
        (λ (undone : IsUndone (effect_behind before.world.log entry)).
        (undone.0, λ later unlock log_so gives. let none = undone.1 in absurd (cc (none, gives))))
        (command_or_undone before.world.log node entry own)

    pub undone_after : (more : List Move) (moment : MomentWithPast) → run_on script before (Happens (events.Put node) ∷ more) ≡ Some moment
        → Undone moment
    unfolding run_on
    undone_after more moment led = undone_at more moment (step script (events.Put node) before.world) refl led
