-- In every run in range, at the end of every event, the inode of each open disk was created by the epoch of its node, that of an open
-- snapshot too: the node has read that it became one, so also that it was published, and no id is published again.
use Rattle.std.proofs.Common.{◌≡◌, ◌⊎◌, inl, inr, ⊎_elim, arith, ℕ, ◌≤◌, ◌==◌, Bool, true, false, cond, List, [], ◌∷◌, ◌++◌, Option}
use Rattle.std.proofs.Common.{Some, IfSome, unwrap_or, refl, sym, ap, subst, ◌∙◌}
use Rattle.std.specs.FinMap as tree
use Rattle.object_id.specs.Oid.{inode_number}
use Rattle.object_id.specs.declared.entry.Entry.{Entry}
use Rattle.cluster_script.specs.declared.statement.Statement.{Statement}
use Rattle.epoch_log.specs.Epochs.{epoch_of}
use Rattle.guest_driver.specs.declared.disk.Disk.{Disk}
use Rattle.vdi_directory.specs.Decisions.{outcome, log_effects}
use Rattle.vdi_directory.specs.States.{VdiState, Snapshot, Working, rank, state_of, state_after}
use Rattle.vdi_directory.specs.declared.effect.Effect.{Effect}
use Rattle.vdi_directory.specs.declared.effect.Effect.TheVariants as effects
use Rattle.vdi_directory.proofs.LawfulEntries.{lawful-outcome, sound-log_effects}
use Rattle.sheep_node.specs.State.{new_session}
use Rattle.sheep_node.specs.declared.session.Session.{Session}
use Rattle.sheep_world.proofs.LogFrontLaws.{all_read}
use Rattle.sheep_world.specs.Began.{Began}
use Rattle.sheep_world.specs.World.{Host}
use Rattle.sheep_world.specs.RunsWithAsks.{Move}
use Rattle.overlap_law.specs.Fates.{IsCreated}
use Rattle.overlap_law.specs.Grants.{publishes, published_in}
use Rattle.overlap_law.specs.LastReads.{snaps, was_snapped}
use Rattle.overlap_law.specs.MomentChanges.{RunsAreInRange, Still}
use Rattle.overlap_law.specs.Past.{MomentWithPast, run_with_past}
use Rattle.overlap_law.specs.ToCome.{OpenInodesAreCreated}
use Rattle.overlap_law.proofs.ClosedSnapshots.{snapped_no_more, snaps-working}
use Rattle.overlap_law.proofs.CreatedStays.{created-by}
use Rattle.overlap_law.proofs.DatedEffects.{last_epoch-push, last_epoch-most}
use Rattle.overlap_law.proofs.GrantedEpochs.{from_front}
use Rattle.overlap_law.proofs.NoRecoveredDue.{began-with_past}
use Rattle.overlap_law.proofs.OpenedInodes.{working_inode}
use Rattle.overlap_law.proofs.PublishedInRuns.{published-on_the_way}
use Rattle.overlap_law.proofs.ReadInMoments.{HostsAreSound, kept_sound}
use Rattle.overlap_law.proofs.ReadInodesCreated.{snapped_published}
use Rattle.overlap_law.proofs.RunsByChanges.{on_the_way}
use Rattle.overlap_law.proofs.SharedInRuns.{sharing_in_world}
use Rattle.overlap_law.proofs.SharedTables.{IsSharedDisk}
use Rattle.overlap_law.proofs.SnapshotChains.{was_then, state_then}

-- an effect that publishes an id makes it a working disk's, or a snapshot's
published_state : (vid : ℕ) (state : VdiState) (effect : Effect) → publishes vid effect ≡ true
    → (snaps vid effect ≡ true) ⊎ (state_after vid state effect ≡ Working)
published_state vid state effects.Nothing is = absurd (cc (is))
published_state vid state (effects.Reserved grant) is = absurd (cc (is))
published_state vid state (effects.Published of name) is = inr (ap (λ (b : Bool). cond b Working state) is)
published_state vid state (effects.Snapped snap) is = by_old (snap.old.0 == vid) refl
  where
    by_old : (b : Bool) → (snap.old.0 == vid) ≡ b
        → ((snap.old.0 == vid) ≡ true) ⊎ (state_after vid state (effects.Snapped snap) ≡ Working)
    by_old true here = inl here
    by_old false apart =
        inr (ap (λ (b : Bool). cond b (Snapshot snap.tag) (cond (snap.vid.0 == vid) Working state)) apart
        ∙ ap (λ (b : Bool). cond b Working state) is)
published_state vid state (effects.Deleted of name) is = absurd (cc (is))
published_state vid state (effects.Held of holder) is = absurd (cc (is))
published_state vid state (effects.Freed of) is = absurd (cc (is))
published_state vid state (effects.Withdrawn of) is = absurd (cc (is))
published_state vid state (effects.Left node) is = absurd (cc (is))

-- what became a snapshot isn't published again
not_again : (log : List Entry) (entry : Entry) (vid : ℕ) → was_snapped log vid ≡ true → (b : Bool)
    → publishes vid (outcome (log_effects log) entry).effect ≡ b → b ≡ false
not_again log entry vid snapped false is = refl
not_again log entry vid snapped true is =
    let effect : Effect = (outcome (log_effects log) entry).effect in
    let before = snapped_no_more vid log snapped in
    let after = snapped_no_more vid (log ++ entry ∷ []) (was_then log entry vid snapped) in
    absurd (⊎_elim
    (λ (snaps_now : snaps vid effect ≡ true).
    let working : rank (state_of (log_effects log) vid) ≡ 2
    = ap rank (snaps-working (log_effects log) effect vid (lawful-outcome (log_effects log) (sound-log_effects log) entry) snaps_now) in
    omega (arith, working, before))
    (λ (works : state_after vid (state_of (log_effects log) vid) effect ≡ Working).
    let working : rank (state_of (log_effects (log ++ entry ∷ [])) vid) ≡ 2 = ap rank (state_then log entry vid ∙ works) in
    omega (arith, working, after))
    (published_state vid (state_of (log_effects log) vid) effect is))

-- it was published by then
record WasBy (vid most : ℕ) (log : List Entry) : Type 0 where
  snapped : was_snapped log vid ≡ true
  epoch : published_in log vid ≤ most

was_by_next : (vid most : ℕ) (log : List Entry) (entry : Entry) → WasBy vid most log → WasBy vid most (log ++ entry ∷ [])
was_by_next vid most log entry was =
    let none : publishes vid (outcome (log_effects log) entry).effect ≡ false
    = not_again log entry vid was.snapped (publishes vid (outcome (log_effects log) entry).effect) refl in
    let same : published_in (log ++ entry ∷ []) vid ≡ published_in log vid
    = last_epoch-push (publishes vid) log entry
    ∙ ap (λ (b : Bool). cond b (epoch_of (log ++ entry ∷ [])) (published_in log vid)) none in
    let before = was.epoch in
    record { snapped = was_then log entry vid was.snapped; epoch = omega (arith, same, before) }

was_by : (vid : ℕ) (read rest : List Entry) → was_snapped read vid ≡ true → WasBy vid (epoch_of read) (read ++ rest)
was_by vid read rest snapped =
    from_front (WasBy vid (epoch_of read)) (was_by_next vid (epoch_of read)) read rest
    (record { snapped = snapped; epoch = last_epoch-most (publishes vid) read })

-- ---- every run

module _ (script : List Statement) (range : RunsAreInRange script) (events : List Move) (moment : MomentWithPast)
    (is : run_with_past script events ≡ Some moment) where
  began : Began script moment.world
  began = began-with_past script events moment is

  module _ (n : ℕ) (host : Host) (there : tree.get moment.world.hosts n ≡ Some host) (number : ℕ) (session : Session) (disk : Disk)
      (got : tree.get host.node.sessions number ≡ Some session) (on : session.disk ≡ Some disk) (snapshot : disk.snapshot ≡ true) where
    shared : IsSharedDisk host.node.peer.entries disk
    shared =
        subst (λ (o : Option Disk). IfSome o (IsSharedDisk host.node.peer.entries))
        (ap (λ (o : Option Session). (unwrap_or o new_session).disk) got ∙ on)
        ((sharing_in_world script range moment.world began n host there).disks number)

    snapshot_created : IsCreated moment.past.attempts (inode_number disk.inode.vid) host.node.peer.epoch
    snapshot_created =
        let vid : ℕ = disk.inode.vid in
        let front = all_read script moment.world began n host there in
        let was : WasBy vid (epoch_of host.node.peer.entries) moment.world.log
        = subst (WasBy vid (epoch_of host.node.peer.entries)) (sym front.is)
        (was_by vid host.node.peer.entries front.rest (shared.closed snapshot)) in
        let epoch_so = ((on_the_way script HostsAreSound (kept_sound script range) events moment moment is Still).each n host
        there).read.epoch_so in
        let within = was.epoch in
        created-by moment.past.attempts (inode_number vid) (published_in moment.world.log vid) host.node.peer.epoch
        (omega (arith, within, epoch_so))
        (published-on_the_way script range events moment moment is Still vid (snapped_published vid moment.world.log was.snapped))

  pub open_inodes : OpenInodesAreCreated moment.world.hosts moment.past.attempts
  open_inodes = record {
    each = λ n host there up number session disk got on. by_kind n host there up number session disk got on disk.snapshot refl;
  }
    where
      by_kind : (n : ℕ) (host : Host) → tree.get moment.world.hosts n ≡ Some host → host.is_lost ≡ false → (number : ℕ) (session : Session)
          (disk : Disk) → tree.get host.node.sessions number ≡ Some session → session.disk ≡ Some disk → (b : Bool) → disk.snapshot ≡ b
          → IsCreated moment.past.attempts (inode_number disk.inode.vid) host.node.peer.epoch
      by_kind n host there up number session disk got on true snapshot =
          snapshot_created n host there number session disk got on snapshot
      by_kind n host there up number session disk got on false working =
          working_inode script range events moment moment is Still n host there up number session disk got on working
