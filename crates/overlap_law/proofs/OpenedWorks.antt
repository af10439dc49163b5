-- A disk that a command opens, since its work is done, has its table: what it wrote back is all that is to come, and of a snapshot what it
-- read.
use Rattle.std.proofs.Common.{◌≡◌, inl, ℕ, ◌<◌, Bool, true, false, List, Option, Some, slice_index, refl, sym, ap, subst, ◌∙◌, ◌+◌, ◌*◌}
use Rattle.std.specs.FinMap as tree
use Rattle.proof_tools.proofs.FiniteMaps.{get-insert_same}
use Rattle.object_id.specs.Spec.{objects_of}
use Rattle.object_id.specs.declared.oid.Vid.{Vid}
use Rattle.inode.specs.Layout.{Content}
use Rattle.inode.specs.declared.layout.TheConstants.{INODE_HEADER_BYTES}
use Rattle.cluster_script.specs.declared.statement.Statement.{Statement}
use Rattle.peer_proto.specs.Work.{oid_of}
use Rattle.gateway.specs.Attempt.{Attempt}
use Rattle.gateway.specs.State.{Work}
use Rattle.gateway.specs.Work.{is_making}
use Rattle.gateway.specs.declared.message.Status.{Status}
use Rattle.guest_driver.specs.declared.disk.Disk.{Disk}
use Rattle.object_id.specs.Fields.{u32_at}
use Rattle.vdi_directory.specs.declared.header.Header.{Header}
use Rattle.vdi_directory.specs.Dead.{is_dead}
use Rattle.vdi_directory.specs.Decisions.{log_effects}
use Rattle.vdi_ops.specs.Op.{Op, OpStage, Working, WritingBack, IsAwaitedAtOpStage, Opening}
use Rattle.vdi_ops.specs.TaskWorks.{IsWrittenBack}
use Rattle.vdi_ops.specs.declared.act.OpAct.TheVariants as op_acts
use Rattle.sheep_node.specs.Changes.{EndsWork}
use Rattle.sheep_node.specs.StepState.{StepState}
use Rattle.sheep_node.specs.WantedWorks.{IsWantedAt}
use Rattle.sheep_node.specs.declared.course.Course.TheVariants.{Commanding}
use Rattle.sheep_node.specs.declared.course.Request.{Request}
use Rattle.sheep_world.specs.NodeCauses.{input_of_cause, host_with_node}
use Rattle.sheep_world.specs.World.{Host}
use Rattle.sheep_world.specs.RunsWithAsks.{Move}
use Rattle.overlap_law.specs.Attempts.{AttemptRecord}
use Rattle.overlap_law.specs.MomentChanges.{MomentChange, MomentTrail, RunsAreInRange}
use Rattle.overlap_law.specs.OpenedTables.{ReadsIt, WroteIt, OpenedInodesHaveTables, EntriesReadAreKept}
use Rattle.overlap_law.specs.InodesRead.{ReadsInodeAt, ReadsAreToCome}
use Rattle.overlap_law.specs.OpenedTables.{GivesEntry, WrittenBackHaveTables, InodesStay}
use Rattle.overlap_law.specs.Past.{MomentWithPast, run_with_past}
use Rattle.overlap_law.specs.StepMoments.{SteppingNode, IsStepping, StepsByChanges, LeadsInStep, first_in_step, moment_in_step}
use Rattle.overlap_law.specs.Tables.{entry_unit, entry_by}
use Rattle.overlap_law.specs.ToCome.{IsToCome, IsEntryToCome, SnappedStayFrozen}
use Rattle.overlap_law.specs.ToDo.{entry_made}
use Rattle.overlap_law.proofs.AnswersInMoments.{not_lost}
use Rattle.overlap_law.proofs.BackTables.{back_kept}
use Rattle.overlap_law.proofs.CausedWorks.{HasWellWorks}
use Rattle.overlap_law.proofs.DoneAlone.{done_alone}
use Rattle.overlap_law.proofs.NoRecoveredDue.{began-with_past}
use Rattle.overlap_law.proofs.OpeningIds.{openings_in_run}
use Rattle.overlap_law.proofs.WholeIds.{AreWholeIds}
use Rattle.overlap_law.proofs.OwnTables as tables
use Rattle.overlap_law.proofs.SnappedFrozen.{snapped_after}
use Rattle.overlap_law.proofs.TablesGoOn.{tables_kept}
use Rattle.overlap_law.proofs.WorksInMoments.{well_along}

-- where a snapshot is opened, each entry that was read is all that may come of it, wherever such a reading ends in the middle of a step
abbrev SnapshotReadsAreAlone : List Statement → (ℕ → Bool) → MomentWithPast → MomentWithPast → Type 0
SnapshotReadsAreAlone script good_id start before = (stepping : SteppingNode) (so_far : StepState) → IsStepping script start.world stepping
    → StepsByChanges stepping.cause → LeadsInStep stepping (first_in_step stepping) so_far
    → before ≡ moment_in_step script stepping start so_far → (session req number : ℕ) (work : Work) (attempt : Attempt) (status : Status)
    (op : Op) (bytes : List ℕ) (vid : Vid) (ids : List ℕ) (header : Header) (index : ℕ)
    → EndsWork (input_of_cause stepping.cause) stepping.host.node so_far session req number work attempt status (Commanding op) bytes
    → op.stage ≡ Working vid (Opening true ids header) → good_id vid.0 ≡ true
    → is_dead (log_effects before.world.log) vid.0 ≡ false → index < objects_of header.spec → (j : ℕ) (one : AttemptRecord)
    → IsEntryToCome before.world.hosts before.past.attempts vid.0 index j one
    → entry_by index one ≡ u32_at (INODE_HEADER_BYTES + 4 * index) bytes

module _ (script : List Statement) (range : RunsAreInRange script) (events : List Move) (start before : MomentWithPast)
    (ran : run_with_past script events ≡ Some start) (trail : MomentTrail script start before) (good_id : ℕ → Bool)
    (kept : EntriesReadAreKept script good_id start before) (alone : SnapshotReadsAreAlone script good_id start before)
    (back : WrittenBackHaveTables (log_effects before.world.log) good_id before.world.hosts) where
  abbrev Comes : ℕ → ℕ → ℕ → AttemptRecord → Type 0
  Comes vid index j attempt = IsEntryToCome before.world.hosts before.past.attempts vid index j attempt

  module _ (on : SteppingNode) (so_far : StepState) (is : IsStepping script start.world on) (by : StepsByChanges on.cause)
      (leads : LeadsInStep on (first_in_step on) so_far) (same : before ≡ moment_in_step script on start so_far) (number req k : ℕ)
      (work : Work) (current : Attempt) (status : Status) (bytes : List ℕ) (op : Op) (vid : Vid) (inode : Content)
      (ends : EndsWork (input_of_cause on.cause) on.host.node so_far number req k work current status (Commanding op) bytes)
      (at : op.stage ≡ Working vid (WritingBack inode)) where
    abbrev was : Host
    was = host_with_node on.host so_far.node

    trail_here : MomentTrail script start (moment_in_step script on start so_far)
    trail_here = subst (MomentTrail script start) same trail

    there : tree.get (moment_in_step script on start so_far).world.hosts on.n ≡ Some (host_with_node on.host so_far.node)
    there = get-insert_same start.world.hosts on.n was

    well : HasWellWorks so_far.node
    well = well_along script range start (began-with_past script events start ran) trail_here on.n was there

    written : IsWrittenBack inode work.work
    written =
        by_task
        (subst (λ (stage : OpStage). IsAwaitedAtOpStage (op_acts.Work work.work) stage) at
        (subst (λ (o : Option Request). IsWantedAt so_far.node.sessions o work.work) ends.ends.request
        (well.wanted req work.work (inl (work, ends.ends.learns.there, refl)))))
      where
        by_task : IsAwaitedAtOpStage (op_acts.Work work.work) (Working vid (WritingBack inode)) → IsWrittenBack inode work.work
        by_task (other, acts, is) =
            let one : other ≡ work.work = cc (acts) in
            subst (IsWrittenBack inode) one is

    written_alone : (index j : ℕ) (attempt : AttemptRecord) → good_id inode.vid ≡ true
        → is_dead (log_effects before.world.log) inode.vid ≡ false → index < objects_of inode.spec → Comes inode.vid index j attempt
        → entry_by index attempt ≡ slice_index inode.table index
    written_alone index j attempt good lives inside comes =
        let gives : GivesEntry inode index work.work
        = back.each on.n was (ap (λ (m : MomentWithPast). tree.get m.world.hosts on.n) same ∙ there) (not_lost on.host is.up) req index
        (record { session = number; course = Commanding op }) op vid inode work.work ends.ends.request refl at
        (inl (work, ends.ends.learns.there, refl)) good lives inside in
        let here : IsEntryToCome (moment_in_step script on start so_far).world.hosts (moment_in_step script on start so_far).past.attempts
        inode.vid index j attempt
        = subst (λ (m : MomentWithPast). IsEntryToCome m.world.hosts m.past.attempts inode.vid index j attempt) same comes in
        let one : attempt.work ≡ work.work
        = done_alone script range events start ran on is by so_far leads trail_here req k work current status ends.ends.learns ends.done
        (ap is_making written.work_of) (entry_unit index) gives.covered j attempt
        (subst (λ (o : ℕ). IsToCome (moment_in_step script on start so_far).world.hosts
        (moment_in_step script on start so_far).past.attempts o (entry_unit index) j attempt) (sym (ap oid_of written.work_of)) here) in
        ap (entry_made index) one ∙ gives.entry

  -- each disk that is opened so
  opened_by_works : OpenedInodesHaveTables script good_id start before
  opened_by_works on so_far is by leads same number disk
      (ReadsIt req k work current status bytes op vid ids header ends at disk_so) index good lives inside yet j attempt comes =
      let inside_so : index < objects_of header.spec = subst (λ (d : Disk). index < objects_of d.inode.spec) disk_so inside in
      let good_so : good_id vid.0 ≡ true = ap (λ (d : Disk). good_id d.inode.vid) (sym disk_so) ∙ good in
      let lives_so : is_dead (log_effects before.world.log) vid.0 ≡ false
      = ap (λ (d : Disk). is_dead (log_effects before.world.log) d.inode.vid) (sym disk_so) ∙ lives in
      alone on so_far is by leads same number req k work current status op bytes vid ids header index ends at good_so lives_so inside_so j
      attempt
      (subst (λ (d : Disk). IsEntryToCome before.world.hosts before.past.attempts d.inode.vid index j attempt) disk_so comes)
      ∙ sym (kept on so_far is by leads same number req k work current status op bytes vid true ids header index ends at good_so lives_so
      inside_so)
      ∙ sym (tables.entry_read ids (objects_of header.spec) INODE_HEADER_BYTES index bytes inside_so)
      ∙ ap (λ (d : Disk). slice_index d.inode.table index) (sym disk_so)
  opened_by_works on so_far is by leads same number disk
      (WroteIt req k work current status bytes op vid inode ends at disk_so) index good lives inside yet j attempt comes =
      written_alone on so_far is by leads same number req k work current status bytes op vid inode ends at index j attempt
      (ap (λ (d : Disk). good_id d.inode.vid) (sym disk_so) ∙ good)
      (ap (λ (d : Disk). is_dead (log_effects before.world.log) d.inode.vid) (sym disk_so) ∙ lives)
      (subst (λ (d : Disk). index < objects_of d.inode.spec) disk_so inside)
      (subst (λ (d : Disk). IsEntryToCome before.world.hosts before.past.attempts d.inode.vid index j attempt) disk_so comes)
      ∙ ap (λ (d : Disk). slice_index d.inode.table index) (sym disk_so)

-- ---- what is read of a snapshot

-- it is all that may come, since a snapshot's inode may come to have one entry alone
reads_alone : (script : List Statement) → RunsAreInRange script → (events : List Move) (start before : MomentWithPast)
    → run_with_past script events ≡ Some start → MomentTrail script start before → (good_id : ℕ → Bool)
    → ReadsAreToCome script good_id start before
    → SnappedStayFrozen (log_effects before.world.log) good_id before.world.hosts before.past.attempts
    → SnapshotReadsAreAlone script good_id start before
reads_alone script range events start before ran trail good_id reads frozen on so_far is by leads same session req number work attempt
    status
    op bytes vid ids header index ends at good lives inside j one comes =
    let here : MomentWithPast = moment_in_step script on start so_far in
    let was : Host = host_with_node on.host so_far.node in
    let read = reads on so_far is by leads same session req number work attempt status op bytes vid header index ends
    (subst (λ (stage : OpStage). ReadsInodeAt stage vid header) (sym at) (refl, refl)) good lives inside in
    let whole_here : AreWholeIds here.world.log vid.0 true header.spec ids
    = openings_in_run script range events start here ran (subst (MomentTrail script start) same trail) on.n was
    (get-insert_same start.world.hosts on.n was) (not_lost on.host is.up) req (record { session = session; course = Commanding op }) op vid
    true ids header ends.ends.request refl at in
    let whole : AreWholeIds before.world.log vid.0 true header.spec ids
    = subst (λ (m : MomentWithPast). AreWholeIds m.world.log vid.0 true header.spec ids) (sym same) whole_here in
    frozen.each vid.0 index header.spec (whole.snapped refl) good whole.made inside j read.place one read.one comes read.to_come ∙ read.same

-- ---- together

pub inodes_kept : (script : List Statement) → RunsAreInRange script → (events : List Move) (start before after : MomentWithPast)
    → run_with_past script events ≡ Some start → MomentTrail script start before → MomentChange script start before after
    → (good_id : ℕ → Bool) → EntriesReadAreKept script good_id start before → ReadsAreToCome script good_id start before
    → InodesStay (log_effects before.world.log) good_id before.world.hosts before.past.attempts
    → InodesStay (log_effects after.world.log) good_id after.world.hosts after.past.attempts
inodes_kept script range events start before after ran trail change good_id kept reads stay = record {
  tables = tables_kept script range events start before after ran trail change good_id
      (opened_by_works script range events start before ran trail good_id kept
      (reads_alone script range events start before ran trail good_id reads stay.frozen) stay.written_back) stay.tables;
  frozen = snapped_after script range events start before after ran trail change good_id stay.tables stay.frozen;
  written_back = back_kept script range events start before after ran trail change good_id kept stay.written_back;
}
