-- In each run in range a snapshot that a session has open is one of the disks of the history, as large as its inode says; and it is there
-- by the log, unless the history has it deleted. For it was published once, and what was is never freed.
use Rattle.std.proofs.Common.{◌≡◌, ⊎_elim, arith, ℕ, ◌≤◌, ◌==◌, ◌||◌, Bool, true, false, cond, List, [], ◌∷◌, ◌++◌, Option, Some, None}
use Rattle.std.proofs.Common.{IfSome, refl, sym, ap, subst, ◌∙◌}
use Rattle.std.specs.Prelude.{◌/◌}
use Rattle.std.specs.List.{list_any}
use Rattle.std.proofs.lemmas.Bool.{both_ways, or_cases}
use Rattle.std.proofs.lemmas.Option.{same_Some}
use Rattle.object_id.specs.declared.entry.Entry.{Entry}
use Rattle.object_id.specs.declared.entry.VdiSpec.{VdiSpec}
use Rattle.cluster_script.specs.declared.statement.Statement.{Statement}
use Rattle.disk_history.specs.Ledger as histories
use Rattle.guest_driver.specs.declared.disk.Disk.{Disk}
use Rattle.vdi_directory.specs.declared.effect.Effect.{Effect}
use Rattle.vdi_directory.specs.declared.effect.Effect.TheVariants as effects
use Rattle.vdi_directory.specs.Decisions.{outcome, log_effects}
use Rattle.vdi_directory.specs.States.{VdiState, Unused, Reserved, Working, Snapshot, Deleted, Freed, rank, state_of, state_after}
use Rattle.vdi_directory.specs.States.{freed_state, state_after_leave}
use Rattle.vdi_directory.proofs.DecisionLaws.{states-forward}
use Rattle.vdi_directory.proofs.LawfulEntries.{lawful-outcome, sound-log_effects}
use Rattle.vdi_directory.proofs.StateLemmas.{log_effects-none}
use Rattle.overlap_law.specs.Headline.{ledger_of}
use Rattle.overlap_law.specs.LastReads.{snaps, was_snapped}
use Rattle.overlap_law.specs.MomentChanges as moments
use Rattle.overlap_law.specs.MomentChanges.{RunsAreInRange}
use Rattle.overlap_law.specs.Past.{MomentWithPast, run_with_past}
use Rattle.overlap_law.specs.StandingReads.{OpenSnapshotsAreOfHistory}
use Rattle.overlap_law.proofs.BlocksInRuns.{blocks-in_run}
use Rattle.overlap_law.proofs.ClosedSnapshots.{snapped-push, snaps-working, on_snapshot}
use Rattle.overlap_law.proofs.DatedEffects.{by_entries}
use Rattle.overlap_law.proofs.DiskShapes.{shape, shapes_so}
use Rattle.overlap_law.proofs.DisksByTheLog.{AreThere, kept_there, disks_live}
use Rattle.overlap_law.proofs.DrawnClones.{shown}
use Rattle.overlap_law.proofs.EntriesFollow.{AreShown, kept_shown}
use Rattle.overlap_law.proofs.InsideDisks.{open_spec}
use Rattle.overlap_law.proofs.NoRecoveredDue.{began-with_past}
use Rattle.overlap_law.proofs.ReadInMoments.{HostsAreSound, kept_sound}
use Rattle.overlap_law.proofs.RunsByChanges.{on_the_way}
use Rattle.overlap_law.proofs.SharedInRuns.{sharing_in_world}
use Rattle.overlap_law.proofs.SharedTables.{IsSharedDisk}
use Rattle.overlap_law.proofs.SnapshotChains.{state_then}
use Rattle.sheep_world.specs.RunsWithAsks.{Move}

-- ---- what was published is never freed

-- a state in which the history has the disk
abbrev IsShown : VdiState → Type 0
IsShown state = (b : Bool) × (shown state ≡ Some b)

shown_rank : (state : VdiState) → IsShown state → 2 ≤ rank state
shown_rank Unused (b, is) = absurd (cc (is))
shown_rank (Reserved by) (b, is) = absurd (cc (is))
shown_rank Working (b, is) = omega arith
shown_rank (Snapshot tag) (b, is) = omega arith
shown_rank Deleted (b, is) = omega arith
shown_rank Freed (b, is) = absurd (cc (is))

cond_shown : (b : Bool) (one other : VdiState) → IsShown one → IsShown other → IsShown (cond b one other)
cond_shown true one other is is_too = is
cond_shown false one other is is_too = is_too

freed_shown : (state : VdiState) → IsShown state → IsShown (freed_state state)
freed_shown Unused (b, is) = absurd (cc (is))
freed_shown (Reserved by) (b, is) = absurd (cc (is))
freed_shown Working is = is
freed_shown (Snapshot tag) is = is
freed_shown Deleted is = is
freed_shown Freed is = is

left_shown : (node : ℕ) (state : VdiState) → IsShown state → IsShown (state_after_leave node state)
left_shown node Unused (b, is) = absurd (cc (is))
left_shown node (Reserved by) (b, is) = absurd (cc (is))
left_shown node Working is = is
left_shown node (Snapshot tag) is = is
left_shown node Deleted is = is
left_shown node Freed is = is

shown_then : (vid : ℕ) (state : VdiState) (effect : Effect) → IsShown state → 2 ≤ rank (state_after vid state effect)
    → IsShown (state_after vid state effect)
shown_then vid state effects.Nothing is high = is
shown_then vid state (effects.Reserved grant) is high = by_test (grant.reservation.vid.0 == vid) high
  where
    by_test : (b : Bool) → 2 ≤ rank (cond b (Reserved grant.reservation.by) state)
        → IsShown (cond b (Reserved grant.reservation.by) state)
    by_test true high = absurd (omega (arith, high))
    by_test false high = is
shown_then vid state (effects.Published of name) is high = cond_shown (of.0 == vid) Working state (false, refl) is
shown_then vid state (effects.Snapped snap) is high =
    cond_shown (snap.old.0 == vid) (Snapshot snap.tag) (cond (snap.vid.0 == vid) Working state) (false, refl)
    (cond_shown (snap.vid.0 == vid) Working state (false, refl) is)
shown_then vid state (effects.Deleted of name) is high = cond_shown (of.0 == vid) Deleted state (true, refl) is
shown_then vid state (effects.Held of holder) is high = is
shown_then vid state (effects.Freed of) is high = is
shown_then vid state (effects.Withdrawn of) is high = cond_shown (of.0 == vid) (freed_state state) state (freed_shown state is) is
shown_then vid state (effects.Left node) is high = left_shown node.0 state is

-- so it is of what became a snapshot
pub snapped_shown : (vid : ℕ) (log : List Entry) → was_snapped log vid ≡ true → IsShown (state_of (log_effects log) vid)
snapped_shown vid = by_entries (λ (log : List Entry). was_snapped log vid ≡ true → IsShown (state_of (log_effects log) vid))
    (λ is. absurd (both_ways (was_snapped [] vid) (ap (list_any (snaps vid)) log_effects-none) is)) one_more
  where
    goes : (log : List Entry) (entry : Entry) → IsShown (state_of (log_effects log) vid)
        → IsShown (state_of (log_effects (log ++ entry ∷ [])) vid)
    goes log entry is =
        let effect : Effect = (outcome (log_effects log) entry).effect in
        let low = shown_rank (state_of (log_effects log) vid) is in
        let grows = states-forward log (entry ∷ []) vid in
        let then : state_of (log_effects (log ++ entry ∷ [])) vid ≡ state_after vid (state_of (log_effects log) vid) effect
        = state_then log entry vid in
        let same = ap rank then in
        subst IsShown (sym then)
        (shown_then vid (state_of (log_effects log) vid) effect is (omega (arith, low, grows, same)))

    one_more : (log : List Entry) (entry : Entry) → (was_snapped log vid ≡ true → IsShown (state_of (log_effects log) vid))
        → was_snapped (log ++ entry ∷ []) vid ≡ true → IsShown (state_of (log_effects (log ++ entry ∷ [])) vid)
    one_more log entry before is = ⊎_elim
        (λ (was : was_snapped log vid ≡ true). goes log entry (before was))
        (λ (now : (snaps vid (outcome (log_effects log) entry).effect || false) ≡ true). ⊎_elim
        (λ (snapped : snaps vid (outcome (log_effects log) entry).effect ≡ true).
        let working = snaps-working (log_effects log) (outcome (log_effects log) entry).effect vid
        (lawful-outcome (log_effects log) (sound-log_effects log) entry) snapped in
        goes log entry (false, ap shown working))
        (λ (never : false ≡ true). absurd (cc (never)))
        (or_cases (snaps vid (outcome (log_effects log) entry).effect) false now))
        (or_cases (was_snapped log vid) (snaps vid (outcome (log_effects log) entry).effect || false)
        (sym (snapped-push log entry vid) ∙ is))

-- ---- an open snapshot

pub snapshots_of_history : (script : List Statement) → RunsAreInRange script → (events : List Move) (moment : MomentWithPast)
    → run_with_past script events ≡ Some moment → OpenSnapshotsAreOfHistory moment
snapshots_of_history script range events moment run = record {
  each = λ n host there session disk opened snapshot.
      let began = began-with_past script events moment run in
      let read = ((on_the_way script HostsAreSound (kept_sound script range) events moment moment run moments.Still).each n host there).read
      in
      let shared : IsSharedDisk host.node.peer.entries disk
      = subst (λ (o : Option Disk). IfSome o (IsSharedDisk host.node.peer.entries)) opened
      ((sharing_in_world script range moment.world began n host there).disks session) in
      let snapped = (on_snapshot moment.world.log n host.node.me host.node.peer read disk.inode.vid (shared.closed snapshot)).snapped in
      let (b, state_so) = snapped_shown disk.inode.vid moment.world.log snapped in
      let (found, got) = by_found ((ledger_of moment.past.history).disks disk.inode.vid) b
      (shapes_so moment.past.history disk.inode.vid
      ∙ on_the_way script AreShown (kept_shown script range) events moment moment run moments.Still disk.inode.vid ∙ state_so) in
      let has = blocks-in_run script range events moment run disk.inode.vid found got in
      let made = open_spec script range moment.world began n host there session disk opened in
      let same : has.spec ≡ disk.inode.spec = same_Some has.spec disk.inode.spec (sym has.made ∙ made) in
      let whole : found.blocks ≡ disk.inode.spec.size / 512 = has.whole ∙ ap (λ (s : VdiSpec). s.size / 512) same in
      record {
        disk = found;
        there = got;
        large = omega (arith, whole);
        made_with = made;
        live = λ kept.
            (disks_live moment (on_the_way script AreThere (kept_there script range) events moment moment run moments.Still)).each
            disk.inode.vid found got kept;
      };
}
  where
    by_found : (o : Option histories.Disk) (b : Bool) → shape o ≡ Some b → (disk : histories.Disk) × (o ≡ Some disk)
    by_found None b is = absurd (cc (is))
    by_found (Some disk) b is = (disk, refl)
