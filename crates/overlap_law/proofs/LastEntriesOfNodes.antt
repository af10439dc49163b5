-- At the end of every event the last entry of a command that is to have an inode open then is on its way. So a session whose command waits
-- for such a publication may write what it publishes.
use Rattle.std.specs.Ordering.{nat_cmp}
use Rattle.std.specs.FinMap as tree
use Rattle.object_id.specs.declared.entry.Entry.TheVariants as entries
use Rattle.std.proofs.Common.{◌≡◌, ◌≢◌, inl, inr, ⊎_elim, arith, ℕ, zero, suc, ◌+◌, ◌≤◌, ◌<◌, Bool, true, false, List, [], ◌∷◌, ◌++◌}
use Rattle.std.proofs.Common.{drop, length, Option, Some, None, slice_get, refl, sym, ap, subst, ◌∙◌}
use Rattle.std.specs.Prelude.{take}
use Rattle.std.proofs.lemmas.Bool.{cases_lt}
use Rattle.std.proofs.Math.Seq.{drop-append_seam}
use Rattle.proof_tools.proofs.FiniteMaps.{get-insert_cases}
use Rattle.object_id.specs.declared.entry.Entry.{Entry}
use Rattle.object_id.specs.declared.node.NodeId.{NodeId}
use Rattle.object_id.specs.declared.oid.Vid.{Vid}
use Rattle.object_id.specs.Same.{is_same_entry}
use Rattle.cluster_script.specs.declared.statement.Statement.{Statement}
use Rattle.cluster_script.specs.Settings.{tries_of, vnodes_of}
use Rattle.disk_lock.specs.declared.holder.Holder.{Holder}
use Rattle.epoch_log.specs.Epochs.{epoch_of}
use Rattle.inode.specs.Layout.{Content}
use Rattle.vdi_directory.specs.Decisions.{log_effects}
use Rattle.vdi_ops.specs.Op.{Publishing, Op}
use Rattle.sheep_node.specs.declared.course.Course.TheVariants.{Commanding}
use Rattle.sheep_node.specs.declared.course.Request.{Request}
use Rattle.sheep_node.specs.declared.event.Event.{Event}
use Rattle.sheep_node.specs.declared.input.Input.{Input}
use Rattle.sheep_node.specs.declared.input.Input.TheVariants as inputs
use Rattle.sheep_node.specs.State as nodes
use Rattle.sheep_node.specs.State.{Node}
use Rattle.sheep_node.specs.StepFacts.{read_after}
use Rattle.sheep_node.specs.Step.{node_step}
use Rattle.sheep_node.proofs.StepResults.{step_reads}
use Rattle.sheep_world.specs.Began.{Began}
use Rattle.sheep_world.specs.EventKinds.{log_after_return, EventKind, NodeStep, UntoldLoss, UnreadDelivery, NodeLoss, NodeLeave}
use Rattle.sheep_world.specs.EventKinds.{NodeReweight, NodeJoin, NodeReturn, PhaseEnd}
use Rattle.sheep_world.specs.HostChanges.{joined_host, host_after_return}
use Rattle.sheep_world.specs.MembershipChanges.{lost_host, join_of, last_weight}
use Rattle.sheep_world.specs.NodeCauses.{NodeCause, GuestAsks, RequestComes, ReplyComes, LossIsTold, EntryIsRead, EntryIsPut, RecoveryTicks}
use Rattle.sheep_world.specs.NodeCauses.{WorkIsRetried, ClientAsks, input_of_cause, IsCause, log_after_cause, host_with_node}
use Rattle.sheep_world.specs.Opening.{format_entry, initial_world}
use Rattle.sheep_world.specs.Step.{EventOutcome}
use Rattle.sheep_world.specs.World.{Host, World}
use Rattle.sheep_world.proofs.BegunWorlds.{by_induction}
use Rattle.sheep_world.proofs.ClientReads.{goes_by_kind}
use Rattle.sheep_world.proofs.LogFrontLaws.{all_read}
use Rattle.sheep_world.proofs.NodesByTheLog.{knows_its_number}
use Rattle.sheep_world.proofs.WireAtOpening.{opening_found}
use Rattle.sheep_world.specs.RunsWithAsks.{Move}
use Rattle.overlap_law.specs.CommandDisks.{opened_in, IsOpenAtLast, IsOpenAtStage, IsOpenAtCourse}
use Rattle.overlap_law.specs.Grants.{writer_of}
use Rattle.overlap_law.specs.MomentChanges.{RunsAreInRange}
use Rattle.overlap_law.specs.MomentChanges as moments
use Rattle.overlap_law.specs.Past.{MomentWithPast, run_with_past}
use Rattle.overlap_law.specs.Reached.{Hosts}
use Rattle.overlap_law.specs.StayingDrafts.{PublishersMayWrite}
use Rattle.overlap_law.specs.WriterClaims.{holder_at, IsReplacing, IsPublicationKept, IsStageKept}
use Rattle.overlap_law.specs.Writers.{session_holder}
use Rattle.overlap_law.proofs.AwaitedChanges.{AreOwnCommands}
use Rattle.overlap_law.proofs.AwaitedEntriesInMoments.{unread_of, unread_more, unread_goes}
use Rattle.overlap_law.proofs.AwaitedInRuns.{awaited_in_worlds}
use Rattle.overlap_law.proofs.ClaimsInRuns.{claims-in_run}
use Rattle.overlap_law.proofs.CountedEntries.{times, once_if, times-none, times-cons, same_entry}
use Rattle.overlap_law.proofs.KeptIds.{lock-writer, reservation-writer}
use Rattle.overlap_law.proofs.LastEntries.{last_at, last_of, IsOnWay, AreOnWay}
use Rattle.overlap_law.proofs.AnswersInMoments.{not_lost}
use Rattle.overlap_law.proofs.NoRecoveredDue.{began-with_past}
use Rattle.overlap_law.proofs.OpenDisksInRuns.{disks_fit-in_run}
use Rattle.overlap_law.proofs.LastEntriesInRuns.{none_on_way, unread_grows, back_on_way, received_on_way, stepped_on_way}

record AreOnWayAmong (log : List Entry) (hosts : Hosts) : Type 0 where
  each : (n : ℕ) (host : Host) → tree.get hosts n ≡ Some host → host.is_lost ≡ false
      → AreOnWay (unread_of log host.node) None host.node.requests host.node.outbox

-- a whole step of a node
stepped : (input : Input) (node : Node) (log : List Entry) → AreOnWay (drop (length (read_after input node.peer.entries)) log) None
    (node_step input node).node.requests (node_step input node).node.outbox
    → AreOnWay (unread_of log (node_step input node).node) None (node_step input node).node.requests (node_step input node).node.outbox
stepped input node log all =
    subst (λ (read : List Entry). AreOnWay (drop (length read) log) None (node_step input node).node.requests
    (node_step input node).node.outbox) (sym (step_reads input node)) all

no_commands : (read : List Entry) (node : Node) → node.requests ≡ tree.empty → AreOwnCommands read node.me node.requests
no_commands read node none = subst (AreOwnCommands read node.me) (sym none) (record {
  own = λ req request got. let empty = tree.get-empty {X = Request} nat_cmp req in absurd (cc (empty, got));
  apart = λ one other first second got got_too is is_too same.
      let empty = tree.get-empty {X = Request} nat_cmp one in absurd (cc (empty, got));
})

module _ (script : List Statement) (range : RunsAreInRange script) where
  module _ (world : World) (began : Began script world) (all : AreOnWayAmong world.log world.hosts) where
    -- an entry more in the log
    each_more : (last : Entry) (n : ℕ) (host : Host) → tree.get world.hosts n ≡ Some host → host.is_lost ≡ false
        → AreOnWay (unread_of (world.log ++ last ∷ []) host.node) None host.node.requests host.node.outbox
    each_more last n host there up =
        subst (λ (unread : List Entry). AreOnWay unread None host.node.requests host.node.outbox)
        (sym (unread_more world.log host.node last (all_read script world began n host there)))
        (unread_grows (unread_of world.log host.node) last host.node.requests host.node.outbox (all.each n host there up))

    -- another node, as a node steps
    other_step : (cause : NodeCause) (n : ℕ) (host : Host) → tree.get world.hosts n ≡ Some host → host.is_lost ≡ false
        → AreOnWay (unread_of (log_after_cause cause world.log) host.node) None host.node.requests host.node.outbox
    other_step (GuestAsks session req ask) n host there up = all.each n host there up
    other_step (RequestComes name to request) n host there up = all.each n host there up
    other_step (ReplyComes name from rsp) n host there up = all.each n host there up
    other_step (LossIsTold name packet) n host there up = all.each n host there up
    other_step (EntryIsRead entry) n host there up = all.each n host there up
    other_step (EntryIsPut entry) n host there up = each_more entry n host there up
    other_step RecoveryTicks n host there up = all.each n host there up
    other_step WorkIsRetried n host there up = all.each n host there up
    other_step (ClientAsks req ask) n host there up = all.each n host there up

    -- a node that is there anew
    one_comes : (last : Entry) (n : ℕ) (new : Host)
        → AreOnWay (unread_of (world.log ++ last ∷ []) new.node) None new.node.requests new.node.outbox
        → AreOnWayAmong (world.log ++ last ∷ []) (tree.insert world.hosts n new)
    one_comes last n new so = record {
      each = λ q host at up. ⊎_elim
          (λ (own : (q ≡ n) × (new ≡ host)).
          subst (λ (h : Host). AreOnWay (unread_of (world.log ++ last ∷ []) h.node) None h.node.requests h.node.outbox) own.1 so)
          (λ (apart : (q ≢ n) × (tree.get world.hosts q ≡ Some host)). each_more last q host apart.1 up)
          (get-insert_cases world.hosts n new q host at);
    }

    own_step : (n : ℕ) (host : Host) (there : tree.get world.hosts n ≡ Some host) (up : host.is_lost ≡ false) (cause : NodeCause)
        → IsCause script world n host cause
        → AreOnWay (unread_of (log_after_cause cause world.log) (node_step (input_of_cause cause) host.node).node) None
        (node_step (input_of_cause cause) host.node).node.requests (node_step (input_of_cause cause) host.node).node.outbox
    own_step n host there up cause caused =
        let input = input_of_cause cause in
        let after = drop (length (read_after (input_of_cause cause) host.node.peer.entries)) (log_after_cause cause world.log) in
        stepped (input_of_cause cause) host.node (log_after_cause cause world.log)
        (stepped_on_way (input_of_cause cause) host.node after
        (λ entry from. ((awaited_in_worlds script range world began).each n host there up).commands)
        (received_on_way host.node (unread_of world.log host.node) (input_of_cause cause) after
        (unread_goes script world n host cause caused (all_read script world began n host there)) (all.each n host there up)))

  kept : (event : Event) (world : World) (made : EventOutcome) → Began script world → EventKind script event world made
      → AreOnWayAmong world.log world.hosts → AreOnWayAmong made.world.log made.world.hosts
  kept event world made began (NodeStep h) all =
      subst (λ (m : EventOutcome). AreOnWayAmong m.world.log m.world.hosts) h.made_so (record {
        each = λ q other at up. ⊎_elim
            (λ (own : (q ≡ h.n) × (host_with_node h.host (node_step (input_of_cause h.cause) h.host.node).node ≡ other)).
            subst (λ (o : Host). AreOnWay (unread_of (log_after_cause h.cause world.log) o.node) None o.node.requests o.node.outbox) own.1
            (own_step world began all h.n h.host h.there (not_lost h.host h.up) h.cause h.caused))
            (λ (apart : (q ≢ h.n) × (tree.get world.hosts q ≡ Some other)). other_step world began all h.cause q other apart.1 up)
            (get-insert_cases world.hosts h.n (host_with_node h.host (node_step (input_of_cause h.cause) h.host.node).node) q other at);
      })
  kept event world made began (UntoldLoss h) all = subst (λ (m : EventOutcome). AreOnWayAmong m.world.log m.world.hosts) h.made_so all
  kept event world made began (UnreadDelivery h) all = subst (λ (m : EventOutcome). AreOnWayAmong m.world.log m.world.hosts) h.made_so all
  kept event world made began (NodeLoss h) all =
      subst (λ (m : EventOutcome). AreOnWayAmong m.world.log m.world.hosts) h.made_so (record {
        each = λ q other at up. ⊎_elim
            (λ (own : (q ≡ h.n) × (lost_host h.host ≡ other)).
            let lost : other.is_lost ≡ true = ap (λ (o : Host). o.is_lost) (sym own.1) in
            absurd (cc (lost, up)))
            (λ (apart : (q ≢ h.n) × (tree.get world.hosts q ≡ Some other)). all.each q other apart.1 up)
            (get-insert_cases world.hosts h.n (lost_host h.host) q other at);
      })
  kept event world made began (NodeLeave h) all =
      subst (λ (m : EventOutcome). AreOnWayAmong m.world.log m.world.hosts) h.made_so
      (record { each = λ n host there up. each_more world began all (entries.Leave (record { 0 = h.n })) n host there up })
  kept event world made began (NodeReweight h) all =
      subst (λ (m : EventOutcome). AreOnWayAmong m.world.log m.world.hosts) h.made_so
      (record { each = λ n host there up. each_more world began all (entries.Reweight (record { 0 = h.n }) h.vnodes) n host there up })
  kept event world made began (NodeJoin h) all =
      subst (λ (m : EventOutcome). AreOnWayAmong m.world.log m.world.hosts) h.made_so
      (one_comes world began all (join_of script h.n (vnodes_of script)) h.n (joined_host script h.n)
      (none_on_way (world.log ++ join_of script h.n (vnodes_of script) ∷ []) None []))
  kept event world made began (NodeReturn h) all =
      let log = log_after_return script h.n world in
      subst (λ (m : EventOutcome). AreOnWayAmong m.world.log m.world.hosts) h.made_so
      (one_comes world began all (join_of script h.n (last_weight world.log h.n)) h.n
      (host_after_return (log_after_return script h.n world) h.host)
      (stepped (inputs.Back log) h.host.node log
      (stepped_on_way (inputs.Back log) h.host.node (drop (length log) log) (λ entry from. absurd (cc (from)))
      (back_on_way h.host.node log (drop (length log) log)))))
  kept event world made began (PhaseEnd h) all = subst (λ (m : EventOutcome). AreOnWayAmong m.world.log m.world.hosts) h.made_so all

  opens : AreOnWayAmong (initial_world script).log (initial_world script).hosts
  unfolding initial_world
  opens = record {
    each = λ q host got up.
        let (member, own, is) = opening_found script q host got in
        subst (λ (h : Host). AreOnWay (unread_of (format_entry script ∷ []) h.node) None h.node.requests h.node.outbox) is
        (let new = nodes.initial_node member.node (tries_of script) in
        let input = inputs.LogEntry (format_entry script) in
        stepped input new (format_entry script ∷ [])
        (stepped_on_way input new [] (λ entry from. no_commands [] new refl)
        (received_on_way new (format_entry script ∷ []) input [] refl (none_on_way (format_entry script ∷ []) None []))));
  }

  on_way_in_worlds : (world : World) → Began script world → AreOnWayAmong world.log world.hosts
  on_way_in_worlds = by_induction script (λ (world : World). AreOnWayAmong world.log world.hosts) (record {
    opens = opens;
    keeps = λ event world made began is all. kept event world made began (goes_by_kind script event world made is) all;
  })

-- ---- so it may write what it publishes

somewhere : (entry : Entry) (xs : List Entry) → 1 ≤ times entry xs → (p : ℕ) × (slice_get xs p ≡ Some entry)
somewhere entry [] some = let none = times-none entry in absurd (omega (arith, none, some))
somewhere entry (x ∷ xs) some = by_same (is_same_entry entry x) refl (somewhere entry xs)
  where
    by_same : (b : Bool) → is_same_entry entry x ≡ b → (1 ≤ times entry xs → (p : ℕ) × (slice_get xs p ≡ Some entry))
        → (p : ℕ) × (slice_get (x ∷ xs) p ≡ Some entry)
    by_same true same rest = (zero, ap (λ (e : Entry). Some e) (sym (same_entry entry x same)))
    by_same false apart rest =
        let more : times entry (x ∷ xs) ≡ 0 + times entry xs
        = times-cons entry x xs ∙ ap (λ (b : Bool). once_if b + times entry xs) apart in
        let (p, at) = rest (omega (arith, some, more)) in (suc p, at)

behind_front : (front rest : List Entry) (p : ℕ) → slice_get (front ++ rest) (length front + p) ≡ slice_get rest p
behind_front [] rest p =
    let same : length {A = Entry} [] + p ≡ p = omega arith in
    ap (slice_get rest) same
behind_front (x ∷ front) rest p =
    let same : length (x ∷ front) + p ≡ suc (length front + p) = omega arith in
    ap (slice_get (x ∷ (front ++ rest))) same ∙ behind_front front rest p

module _ (script : List Statement) (range : RunsAreInRange script) (events : List Move) (moment : MomentWithPast)
    (is : run_with_past script events ≡ Some moment) where
  began : Began script moment.world
  began = began-with_past script events moment is

  module _ (n : ℕ) (host : Host) (there : tree.get moment.world.hosts n ≡ Some host) (up : host.is_lost ≡ false) (req : ℕ)
      (request : Request) (op : Op) (entry : Entry) (inode : Content) (got : tree.get host.node.requests req ≡ Some request)
      (command : request.course ≡ Commanding op) (at : op.stage ≡ Publishing entry (Some inode)) where
    abbrev unread : List Entry
    unread = unread_of moment.world.log host.node

    pub on_way : IsOnWay (unread_of moment.world.log host.node) None entry host.node.outbox
    on_way = (on_way_in_worlds script range moment.world began).each n host there up req request entry got
        (ap last_of command ∙ ap last_at at)

    pub some_there : IsOnWay (unread_of moment.world.log host.node) None entry host.node.outbox
        → 1 ≤ times entry (unread_of moment.world.log host.node) + times entry host.node.outbox
    some_there (inl some) = some
    some_there (inr reads) = absurd (cc (reads))

    -- the place at which it stands in the log
    pub placed : 1 ≤ times entry (unread_of moment.world.log host.node)
        → (p : ℕ) × (slice_get moment.world.log (length host.node.peer.entries + p) ≡ Some entry)
    placed some =
        let front = all_read script moment.world began n host there in
        let rest_so : unread_of moment.world.log host.node ≡ front.rest
        = ap (drop (length host.node.peer.entries)) front.is ∙ drop-append_seam host.node.peer.entries front.rest in
        let (p, at_p) = somewhere entry (unread_of moment.world.log host.node) some in (
          p,
          ap (λ (log : List Entry). slice_get log (length host.node.peer.entries + p)) front.is
              ∙ behind_front host.node.peer.entries front.rest p ∙ ap (λ (rest : List Entry). slice_get rest p) (sym rest_so) ∙ at_p,
        )

    number : {holder : Option Holder} → holder ≡ Some (holder_at host.node.me request.session)
        → holder ≡ Some (session_holder n request.session)
    number is = is ∙ ap (λ (k : ℕ). Some (session_holder k request.session)) (knows_its_number script moment.world began n host there)

    pub fits : IsOpenAtLast (opened_in request.session host.node.sessions) entry (Some inode)
    fits =
        subst (IsOpenAtStage (opened_in request.session host.node.sessions)) at
        (subst (IsOpenAtCourse (opened_in request.session host.node.sessions)) command
        ((disks_fit-in_run script range events moment moment is moments.Still).each n host there up req request got))

    pub last_kept : IsPublicationKept moment.world.log host.node.outbox host.node.peer.entries (length host.node.peer.entries) host.node.me
        request.session (opened_in request.session host.node.sessions) entry (Some inode)
    last_kept =
        subst (IsStageKept moment.world.log host.node.outbox host.node.peer.entries (length host.node.peer.entries) host.node.me
        request.session (opened_in request.session host.node.sessions)) at
        (((claims-in_run script range events moment moment is moments.Still).each n host there up).commands req request op got command)

    abbrev Writes : ℕ → Type 0
    Writes vid = writer_of (log_effects moment.world.log) vid ≡ Some (session_holder n request.session)

    replaces : (by : NodeId) (old of : Vid) → entry ≡ entries.Snapshot by old of
        → IsReplacing moment.world.log host.node.outbox host.node.peer.entries (length host.node.peer.entries) host.node.me request.session
        (opened_in request.session host.node.sessions) old of (entries.Snapshot by old of) (Some inode) → Writes of.0
    replaces by old of so is = ⊎_elim
        (λ (some : 0 < times entry host.node.outbox).
        number (reservation-writer moment.world.log host.node.outbox host.node.me request.session (epoch_of host.node.peer.entries) of.0
        (is.to_put (subst (λ (e : Entry). 1 ≤ times e host.node.outbox) so (omega (arith, some)))).has))
        (λ (none : times entry host.node.outbox ≤ 0).
        let some = some_there on_way in
        let (p, at_p) = placed (omega (arith, some, none)) in
        number (lock-writer moment.world.log host.node.outbox host.node.me request.session
        (epoch_of (take (length host.node.peer.entries + p + 1) moment.world.log)) of.0
        (is.placed (length host.node.peer.entries + p) (omega arith) (at_p ∙ ap (λ (e : Entry). Some e) so))))
        (cases_lt 0 (times entry host.node.outbox))

    by_entry : (e : Entry) → entry ≡ e → IsOpenAtLast (opened_in request.session host.node.sessions) e (Some inode)
        → IsPublicationKept moment.world.log host.node.outbox host.node.peer.entries (length host.node.peer.entries) host.node.me
        request.session (opened_in request.session host.node.sessions) e (Some inode) → Writes inode.vid
    by_entry (entries.Format members) so fits is = absurd is
    by_entry (entries.Join node zone vnodes) so fits is = absurd is
    by_entry (entries.Leave node) so fits is = absurd is
    by_entry (entries.Reweight node vnodes) so fits is = absurd is
    by_entry (entries.Recovered node epoch) so fits is = absurd is
    by_entry (entries.Reserve by session name origin) so fits is = absurd is
    by_entry (entries.Publish by vid) so fits is = absurd (cc (fits))
    by_entry (entries.Clone by vid) so fits is = absurd (cc (fits))
    by_entry (entries.Snapshot by old of) so fits is = subst Writes (sym fits.1) (replaces by old of so is)
    by_entry (entries.Delete by session name tag) so fits is = absurd is
    by_entry (entries.Lock by session name tag) so fits is = absurd is
    by_entry (entries.Unlock by session vid) so fits is = absurd is

    writes : writer_of (log_effects moment.world.log) inode.vid ≡ Some (session_holder n request.session)
    writes = by_entry entry refl fits last_kept

  pub publishers_write : PublishersMayWrite (log_effects moment.world.log) moment.world.hosts
  publishers_write n host there up req request op entry inode got command at =
      writes n host there up req request op entry inode got command at
