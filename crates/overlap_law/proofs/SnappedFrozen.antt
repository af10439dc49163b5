-- What the inode of an id that became a snapshot once may come to have stays one entry at each index, over each change of a moment, also
-- where the snapshot is deleted.
use Rattle.std.proofs.Common.{◌≡◌, ◌⊎◌, ⊎_elim, ℕ, ◌<◌, Bool, true, false, All, List, [], ◌∷◌, ◌++◌, Some}
use Rattle.std.proofs.Common.{refl, sym, ap, ◌∙◌}
use Rattle.object_id.specs.declared.entry.Entry.{Entry}
use Rattle.object_id.specs.declared.entry.VdiSpec.{VdiSpec}
use Rattle.object_id.specs.Oid.{IsVid}
use Rattle.object_id.specs.Spec.{objects_of}
use Rattle.cluster_script.specs.declared.statement.Statement.{Statement}
use Rattle.epoch_log.specs.Appending.{IsReservable}
use Rattle.vdi_directory.specs.Decisions.{outcome, log_effects}
use Rattle.vdi_directory.specs.States.{state_of, is_live_state}
use Rattle.vdi_directory.proofs.LawfulEntries.{lawful-outcome, sound-log_effects}
use Rattle.overlap_law.specs.Attempts.{AttemptRecord}
use Rattle.overlap_law.specs.Each.{spec_in}
use Rattle.overlap_law.specs.LastReads.{snaps}
use Rattle.overlap_law.specs.MomentChanges.{MomentChange, MomentTrail, RunsAreInRange}
use Rattle.overlap_law.specs.MomentChanges as moments
use Rattle.overlap_law.specs.Past.{MomentWithPast, run_with_past}
use Rattle.overlap_law.specs.Tables.{entry_by}
use Rattle.overlap_law.specs.ToCome.{IsEntryToCome, SnapshotsStayFrozen, SnappedStayFrozen, TablesStayTheInodes}
use Rattle.overlap_law.proofs.ClosedSnapshots.{snaps-working}
use Rattle.overlap_law.proofs.CreatedInodes.{header_is}
use Rattle.overlap_law.proofs.LogsReservable.{LogIsReservable, kept_reservable}
use Rattle.overlap_law.proofs.LogsOfMoments.{IsOfMembers}
use Rattle.overlap_law.proofs.PublishedInodes.{IsPutNow, log_gets}
use Rattle.overlap_law.proofs.RunsByChanges.{on_the_way}
use Rattle.overlap_law.proofs.SnapshotChains.{snapshot_was}
use Rattle.std.proofs.Common.{arith, ◌||◌}
use Rattle.std.proofs.lemmas.Bool.{or_cases}
use Rattle.vdi_directory.specs.Effects.{is_used}
use Rattle.vdi_directory.specs.States.{rank}
use Rattle.overlap_law.specs.Reached.{Hosts}
use Rattle.overlap_law.specs.LastReads.{was_snapped}
use Rattle.overlap_law.proofs.ClosedSnapshots.{snapped_no_more, snapped-push}
use Rattle.overlap_law.proofs.FrozenSnapshots.{snapshot_so, taken_now, spec_before, used_spec, was_come}
use Rattle.sheep_world.specs.RunsWithAsks.{Move}

-- what became a snapshot is an id that is used
snapped_used : (log : List Entry) (vid : ℕ) → was_snapped log vid ≡ true → is_used (log_effects log) vid ≡ true
snapped_used log vid snapped = by_test (is_used (log_effects log) vid) refl
  where
    by_test : (b : Bool) → is_used (log_effects log) vid ≡ b → b ≡ true
    by_test true is = refl
    by_test false none =
        let zero : rank (state_of (log_effects log) vid) ≡ 0 = ap rank ((sound-log_effects log).unused vid none) in
        let above = snapped_no_more vid log snapped in
        absurd (omega (arith, zero, above))

-- what is a snapshot became one
pub snapshots_frozen : (log : List Entry) (good_id : ℕ → Bool) (hosts : Hosts) (attempts : List AttemptRecord)
    → SnappedStayFrozen (log_effects log) good_id hosts attempts → SnapshotsStayFrozen (log_effects log) good_id hosts attempts
snapshots_frozen log good_id hosts attempts snapped = record {
  each = λ vid index spec snapshot. snapped.each vid index spec (snapshot_was vid log (snapshot_so (state_of (log_effects log) vid)
      snapshot));
}

module _ (script : List Statement) (range : RunsAreInRange script) (events : List Move) (start before after : MomentWithPast)
    (is : run_with_past script events ≡ Some start) (trail : MomentTrail script start before)
    (change : MomentChange script start before after)
    (good_id : ℕ → Bool) where
  reservable : All IsReservable after.world.log
  reservable = (on_the_way script LogIsReservable (kept_reservable script range) events start after is (moments.Then trail change)).all

  module _ (tables : TablesStayTheInodes (log_effects before.world.log) good_id before.world.hosts before.past.attempts)
      (frozen : SnappedStayFrozen (log_effects before.world.log) good_id before.world.hosts before.past.attempts) (vid index : ℕ)
      (spec : VdiSpec) (is_vid : IsVid vid) (good : good_id vid ≡ true) (within : index < objects_of spec) where
    abbrev Agree : MomentWithPast → Type 0
    Agree moment = (i j : ℕ) (one other : AttemptRecord) → IsEntryToCome moment.world.hosts moment.past.attempts vid index i one
        → IsEntryToCome moment.world.hosts moment.past.attempts vid index j other → entry_by index one ≡ entry_by index other

    by_entry : (entry : Entry) → after.world.log ≡ before.world.log ++ entry ∷ []
        → IsOfMembers entry ⊎ ((before ≡ start) × IsPutNow before.world.hosts entry) → was_snapped after.world.log vid ≡ true
        → spec_in (log_effects after.world.log) vid ≡ Some spec → Agree before
    by_entry entry longer whose snapped made_with =
        let log = before.world.log in
        let effect = (outcome (log_effects log) entry).effect in
        let known : spec_in (log_effects (log ++ entry ∷ [])) vid ≡ Some spec
        = ap (λ (all : List Entry). spec_in (log_effects all) vid) (sym longer) ∙ made_with in
        let then : (was_snapped log vid || (snaps vid effect || false)) ≡ true
        = sym (snapped-push log entry vid) ∙ ap (λ (all : List Entry). was_snapped all vid) (sym longer) ∙ snapped in
        ⊎_elim
        (λ (was : was_snapped log vid ≡ true).
        λ i j one other. frozen.each vid index spec was good (used_spec log (entry ∷ []) vid spec (snapped_used log vid was) known) within
        i j
        one other)
        (λ (now : (snaps vid effect || false) ≡ true). ⊎_elim
        (λ (snaps_now : snaps vid effect ≡ true).
        taken_now script range events start before after is trail change good_id tables
        (snapshots_frozen log good_id before.world.hosts before.past.attempts frozen) vid index spec is_vid good within entry snaps_now
        (spec_before log (entry ∷ []) vid spec
        (ap is_live_state (snaps-working (log_effects log) effect vid
        (lawful-outcome (log_effects log) (sound-log_effects log) entry) snaps_now))
        known) whose)
        (λ (never : false ≡ true). absurd (cc (never)))
        (or_cases (snaps vid effect) false now))
        (or_cases (was_snapped log vid) (snaps vid effect || false) then)

    agree_before : was_snapped after.world.log vid ≡ true → spec_in (log_effects after.world.log) vid ≡ Some spec → Agree before
    agree_before snapped made_with = ⊎_elim
        (λ (same : after.world.log ≡ before.world.log).
        λ i j one other. frozen.each vid index spec (ap (λ (log : List Entry). was_snapped log vid) (sym same) ∙ snapped) good
        (ap (λ (log : List Entry). spec_in (log_effects log) vid) (sym same) ∙ made_with) within i j one other)
        (λ (more : (entry : Entry) × (after.world.log ≡ before.world.log ++ entry ∷ [])
        × (IsOfMembers entry ⊎ ((before ≡ start) × IsPutNow before.world.hosts entry))).
        by_entry more.0 more.1 more.2 snapped made_with)
        (log_gets script change)

  pub snapped_after : TablesStayTheInodes (log_effects before.world.log) good_id before.world.hosts before.past.attempts
      → SnappedStayFrozen (log_effects before.world.log) good_id before.world.hosts before.past.attempts
      → SnappedStayFrozen (log_effects after.world.log) good_id after.world.hosts after.past.attempts
  snapped_after tables frozen = record {
    each = λ vid index spec snapped good made_with within i j one other comes comes_too.
        let is_vid = (header_is after.world.log reservable vid spec made_with).0 in
        let (w, was) = was_come script range events start before after is trail change good_id vid index i one is_vid snapped comes in
        let (w_too, was_too) = was_come script range events start before after is trail change good_id vid index j other is_vid snapped
        comes_too in
        ap (λ (a : AttemptRecord). entry_by index a) (sym w.same)
        ∙ agree_before tables frozen vid index spec is_vid good within snapped made_with i j w.was w_too.was was was_too
        ∙ ap (λ (a : AttemptRecord). entry_by index a) w_too.same;
  }
