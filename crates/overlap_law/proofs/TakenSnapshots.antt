-- In each world of a run in range each entry of a snapshot made its disk one: the node that put it had the disk's lock, and the
-- reservation of the id that took its place.
use Rattle.std.proofs.Common.{◌≡◌, ◌≢◌, ⊎_elim, arith, ℕ, zero, suc, ◌+◌, true, false, List, [], ◌∷◌, ◌++◌, All, take, length, None, Some}
use Rattle.std.proofs.Common.{refl, sym, ap, subst, ◌∙◌}
use Rattle.std.specs.FinMap as tree
use Rattle.std.specs.List.{slice_get}
use Rattle.std.proofs.lemmas.List.{take_all, length-append}
use Rattle.object_id.specs.declared.entry.Entry.{Entry}
use Rattle.object_id.specs.declared.entry.Entry.TheVariants as entries
use Rattle.object_id.specs.declared.node.NodeId.{NodeId}
use Rattle.object_id.specs.declared.oid.Vid.{Vid}
use Rattle.cluster_script.specs.declared.statement.Statement.{Statement}
use Rattle.cluster_script.specs.Settings.{vnodes_of}
use Rattle.vdi_directory.specs.Decisions.{outcome, log_effects}
use Rattle.sheep_node.specs.declared.event.Event.{Event}
use Rattle.sheep_node.specs.OwnEntries.{IsEntryOf}
use Rattle.sheep_world.specs.World.{Host, World}
use Rattle.sheep_world.specs.Began.{Began}
use Rattle.sheep_world.specs.EventKinds.{EventKind, NodeStep, UntoldLoss, UnreadDelivery, NodeLoss, NodeLeave, NodeReweight, NodeJoin}
use Rattle.sheep_world.specs.EventKinds.{NodeReturn, PhaseEnd}
use Rattle.sheep_world.specs.MembershipChanges.{join_of, last_weight}
use Rattle.sheep_world.specs.NodeCauses.{NodeCause, GuestAsks, RequestComes, ReplyComes, LossIsTold, EntryIsRead, EntryIsPut, RecoveryTicks}
use Rattle.sheep_world.specs.NodeCauses.{WorkIsRetried, ClientAsks, IsCause, log_after_cause}
use Rattle.sheep_world.specs.Opening.{initial_world}
use Rattle.sheep_world.specs.Step.{EventOutcome}
use Rattle.sheep_world.proofs.BegunWorlds.{by_induction}
use Rattle.sheep_world.proofs.ClientReads.{goes_by_kind}
use Rattle.sheep_world.proofs.LogFrontLaws.{all_read, next_after}
use Rattle.overlap_law.specs.LastReads.{snaps, was_snapped, SnapshotsAreTaken}
use Rattle.overlap_law.specs.MomentChanges.{RunsAreInRange}
use Rattle.overlap_law.specs.WriterClaims.{HasClaims}
use Rattle.overlap_law.proofs.AttemptLists.{got_more}
use Rattle.overlap_law.proofs.AwaitedChanges.{AreAwaited}
use Rattle.overlap_law.proofs.AwaitedEntriesInMoments.{unread_of, own_entries}
use Rattle.overlap_law.proofs.AwaitedInRuns.{awaited_in_worlds}
use Rattle.overlap_law.proofs.ClaimInputs.{reads_entry}
use Rattle.overlap_law.proofs.ClaimsAtPuts.{snapshot_snaps}
use Rattle.overlap_law.proofs.ClaimsInRuns.{claimed_in_worlds, up_not_lost}
use Rattle.overlap_law.proofs.ClaimTransport.{earlier, got_below}
use Rattle.overlap_law.proofs.SnapshotChains.{is_now}

-- one entry more
module _ (log : List Entry) (last : Entry)
    (new : (by : NodeId) (old vid : Vid) → last ≡ entries.Snapshot by old vid → was_snapped (log ++ last ∷ []) old.0 ≡ true) where
  one_more : SnapshotsAreTaken log → SnapshotsAreTaken (log ++ last ∷ [])
  one_more all place by old vid got = ⊎_elim
      (λ (there : slice_get log place ≡ Some (entries.Snapshot by old vid)).
      let below = got_below log place (entries.Snapshot by old vid) there in
      let next = earlier log last (place + 1) (omega (arith, below)) in
      ap (λ (upto : List Entry). was_snapped upto old.0) next ∙ all place by old vid there)
      (λ (is : (place ≡ length log) × (last ≡ entries.Snapshot by old vid)).
      let count : length (log ++ last ∷ []) ≡ length log + 1 = length-append log (last ∷ []) in
      let whole : take (place + 1) (log ++ last ∷ []) ≡ log ++ last ∷ []
      = ap (λ (k : ℕ). take (k + 1) (log ++ last ∷ [])) is.0 ∙ take_all (length log + 1) (log ++ last ∷ []) (omega (arith, count)) in
      ap (λ (upto : List Entry). was_snapped upto old.0) whole ∙ new by old vid is.1)
      (got_more log last place (entries.Snapshot by old vid) got)

module _ (script : List Statement) (range : RunsAreInRange script) where
  -- a node puts it
  put_taken : (world : World) → Began script world → (n : ℕ) (host : Host) → tree.get world.hosts n ≡ Some host → host.is_lost ≡ false
      → (entry : Entry) → IsCause script world n host (EntryIsPut entry) → (by : NodeId) (old vid : Vid)
      → entry ≡ entries.Snapshot by old vid
      → was_snapped (world.log ++ entry ∷ []) old.0 ≡ true
  put_taken world began n host there up_so entry so by old vid is =
      let first : host.node.outbox ≡ entries.Snapshot by old vid ∷ so.0 = so.1 ∙ ap (λ (e : Entry). e ∷ so.0) is in
      let taken =
      snapshot_snaps world.log so.0 host.node.peer.entries (length host.node.peer.entries) host.node.me (unread_of world.log host.node)
      host.node.requests host.node.sessions by old vid
      (subst (All (IsEntryOf host.node.me)) first (own_entries script world began n host there).entries)
      (subst (λ (outbox : List Entry). AreAwaited host.node.peer.entries host.node.me (unread_of world.log host.node) None host.node.me
      host.node.requests outbox) first ((awaited_in_worlds script range world began).each n host there up_so))
      (subst (λ (outbox : List Entry). HasClaims world.log outbox host.node.peer.entries (length host.node.peer.entries) host.node.me
      host.node.requests host.node.sessions) first (claimed_in_worlds script range world began n host there up_so)) in
      is_now world.log entry old.0 (ap (λ (e : Entry). snaps old.0 (outcome (log_effects world.log) e).effect) is ∙ taken)

  module _ (world : World) (began : Began script world) (all : SnapshotsAreTaken world.log) where
    -- an entry of the membership
    other_entry : (last : Entry) → ((by : NodeId) (old vid : Vid) → last ≢ entries.Snapshot by old vid)
        → SnapshotsAreTaken (world.log ++ last ∷ [])
    other_entry last other = one_more world.log last (λ by old vid is. absurd (other by old vid is)) all

    by_cause : (n : ℕ) (host : Host) → tree.get world.hosts n ≡ Some host → host.is_lost ≡ false → (cause : NodeCause)
        → IsCause script world n host cause → SnapshotsAreTaken (log_after_cause cause world.log)
    by_cause n host there up_so (GuestAsks session req ask) so = all
    by_cause n host there up_so (RequestComes name to request) so = all
    by_cause n host there up_so (ReplyComes name from rsp) so = all
    by_cause n host there up_so (LossIsTold name packet) so = all
    by_cause n host there up_so (EntryIsRead entry) so = all
    by_cause n host there up_so (EntryIsPut entry) so = one_more world.log entry (put_taken world began n host there up_so entry so) all
    by_cause n host there up_so RecoveryTicks so = all
    by_cause n host there up_so WorkIsRetried so = all
    by_cause n host there up_so (ClientAsks req ask) so = all

  kept : (event : Event) (world : World) (made : EventOutcome) → Began script world → EventKind script event world made
      → SnapshotsAreTaken world.log → SnapshotsAreTaken made.world.log
  kept event world made began (NodeStep h) all =
      subst (λ (m : EventOutcome). SnapshotsAreTaken m.world.log) h.made_so
      (by_cause world began all h.n h.host h.there (up_not_lost script range h.host h.up) h.cause h.caused)
  kept event world made began (UntoldLoss h) all = subst (λ (m : EventOutcome). SnapshotsAreTaken m.world.log) h.made_so all
  kept event world made began (UnreadDelivery h) all = subst (λ (m : EventOutcome). SnapshotsAreTaken m.world.log) h.made_so all
  kept event world made began (NodeLoss h) all = subst (λ (m : EventOutcome). SnapshotsAreTaken m.world.log) h.made_so all
  kept event world made began (NodeLeave h) all =
      subst (λ (m : EventOutcome). SnapshotsAreTaken m.world.log) h.made_so
      (other_entry world began all (entries.Leave (record { 0 = h.n })) (λ by old vid is. cc (is)))
  kept event world made began (NodeReweight h) all =
      subst (λ (m : EventOutcome). SnapshotsAreTaken m.world.log) h.made_so
      (other_entry world began all (entries.Reweight (record { 0 = h.n }) h.vnodes) (λ by old vid is. cc (is)))
  kept event world made began (NodeJoin h) all =
      subst (λ (m : EventOutcome). SnapshotsAreTaken m.world.log) h.made_so
      (other_entry world began all (join_of script h.n (vnodes_of script)) (λ by old vid is. cc (is)))
  kept event world made began (NodeReturn h) all =
      subst (λ (m : EventOutcome). SnapshotsAreTaken m.world.log) h.made_so
      (other_entry world began all (join_of script h.n (last_weight world.log h.n)) (λ by old vid is. cc (is)))
  kept event world made began (PhaseEnd h) all = subst (λ (m : EventOutcome). SnapshotsAreTaken m.world.log) h.made_so all

  opens : SnapshotsAreTaken (initial_world script).log
  unfolding initial_world
  opens zero by old vid got = absurd (cc (got))
  opens (suc place) by old vid got = absurd (cc (got))

  pub taken_in_worlds : (world : World) → Began script world → SnapshotsAreTaken world.log
  taken_in_worlds = by_induction script (λ (world : World). SnapshotsAreTaken world.log) (record {
    opens = opens;
    keeps = λ event world made began is all. kept event world made began (goes_by_kind script event world made is) all;
  })

  -- as a node reads it
  pub taken_by_reading : (world : World) → Began script world → (n : ℕ) (host : Host) → tree.get world.hosts n ≡ Some host → (entry : Entry)
      → slice_get world.log (length host.node.peer.entries) ≡ Some entry → (by : NodeId) (old vid : Vid)
      → entry ≡ entries.Snapshot by old vid
      → was_snapped (host.node.peer.entries ++ entry ∷ []) old.0 ≡ true
  taken_by_reading world began n host there entry got by old vid is =
      let front = all_read script world began n host there in
      let (later, more) = next_after host.node.peer.entries front.rest entry
      (ap (λ (log : List Entry). slice_get log (length host.node.peer.entries)) (sym front.is) ∙ got) in
      let upto = (reads_entry world.log later entry host.node
      (front.is ∙ ap (λ (rest : List Entry). host.node.peer.entries ++ rest) more)).upto entry refl in
      ap (λ (read : List Entry). was_snapped read old.0) (sym upto)
      ∙ taken_in_worlds world began (length host.node.peer.entries) by old vid (got ∙ ap (λ (e : Entry). Some e) is)
