-- In each run in range the inode that a command reads, as it opens a disk or makes a clone, was created, also in the middle of a step: it
-- is that of a disk that the command's session holds, or of one that became a snapshot by what the node has read. So its id was published.
use Rattle.std.proofs.Common.{◌≡◌, ⊎_elim, ℕ, ◌||◌, true, false, List, [], ◌∷◌, ◌++◌, length, Option, Some, IfSome, refl, sym, ap}
use Rattle.std.proofs.Common.{subst, ◌∙◌}
use Rattle.std.specs.FinMap as tree
use Rattle.std.specs.List.{list_any}
use Rattle.std.proofs.lemmas.Bool.{both_ways, or_cases}
use Rattle.proof_tools.proofs.FiniteMaps.{get-insert_same}
use Rattle.object_id.specs.declared.entry.Entry.{Entry}
use Rattle.object_id.specs.declared.oid.Vid.{Vid}
use Rattle.object_id.specs.Oid.{inode_number}
use Rattle.cluster_script.specs.declared.statement.Statement.{Statement}
use Rattle.vdi_directory.specs.declared.header.Header.{Header}
use Rattle.vdi_directory.specs.Decisions.{outcome, log_effects}
use Rattle.vdi_directory.specs.States.{is_live_state}
use Rattle.vdi_directory.proofs.DecisionLaws.{held-works}
use Rattle.vdi_directory.proofs.LawfulEntries.{lawful-outcome, sound-log_effects}
use Rattle.vdi_directory.proofs.StateLemmas.{log_effects-none}
use Rattle.vdi_ops.specs.Op.{Task, Opening, WritingBack, Tagging, Copying, Making, OpStage, Asked, Working, Publishing, Answered, Op}
use Rattle.sheep_node.specs.declared.course.Course.TheVariants.{Commanding}
use Rattle.sheep_node.specs.declared.course.Request.{Request}
use Rattle.sheep_node.specs.StepState.{StepState}
use Rattle.sheep_world.specs.World.{Host}
use Rattle.sheep_world.specs.NodeCauses.{input_of_cause, host_with_node}
use Rattle.sheep_world.specs.RunsWithAsks.{Move}
use Rattle.overlap_law.specs.CommandDisks.{opened_in}
use Rattle.overlap_law.specs.Fates.{IsCreated}
use Rattle.overlap_law.specs.Grants.{published_in}
use Rattle.overlap_law.specs.InodesRead.{ReadsInodeAt, TaskReadsInode}
use Rattle.overlap_law.specs.LastReads.{snaps, was_snapped}
use Rattle.overlap_law.specs.MomentChanges.{MomentTrail, RunsAreInRange, Still}
use Rattle.overlap_law.specs.Past.{MomentWithPast, run_with_past}
use Rattle.overlap_law.specs.StepMoments.{SteppingNode, IsStepping, StepsByChanges, LeadsInStep, first_in_step, moment_in_step}
use Rattle.overlap_law.specs.WriterClaims.{IsStageKept}
use Rattle.overlap_law.proofs.AnswersInMoments.{not_lost}
use Rattle.overlap_law.proofs.AwaitedEntriesInMoments.{entries_so}
use Rattle.overlap_law.proofs.ClaimsInRuns.{claims-in_run}
use Rattle.overlap_law.proofs.ClosedSnapshots.{snapped-push, snaps-working, snapped-later}
use Rattle.overlap_law.proofs.DatedEffects.{by_entries}
use Rattle.overlap_law.proofs.DiskWalk.{IsAtStage}
use Rattle.overlap_law.proofs.LogsOfMoments.{log_by_changes}
use Rattle.overlap_law.proofs.NoRecoveredDue.{began-with_past}
use Rattle.overlap_law.proofs.PublishedInodes.{was_published, published_stays, live_was}
use Rattle.overlap_law.proofs.PublishedInRuns.{published-on_the_way}
use Rattle.overlap_law.proofs.SharedInRuns.{sharing_then}
use Rattle.overlap_law.proofs.SharedTables.{IsSharedDisk, IsSharedTask, IsSharedStage}
use Rattle.overlap_law.proofs.TellersOfPieces.{tellers-on_the_way}

-- a disk that became a snapshot was published
pub snapped_published : (vid : ℕ) (log : List Entry) → was_snapped log vid ≡ true → was_published log vid ≡ true
snapped_published vid = by_entries (λ (log : List Entry). was_snapped log vid ≡ true → was_published log vid ≡ true)
    (λ is. absurd (both_ways (was_snapped [] vid) (ap (list_any (snaps vid)) log_effects-none) is)) one_more
  where
    one_more : (log : List Entry) (entry : Entry) → (was_snapped log vid ≡ true → was_published log vid ≡ true)
        → was_snapped (log ++ entry ∷ []) vid ≡ true → was_published (log ++ entry ∷ []) vid ≡ true
    one_more log entry before is = ⊎_elim
        (λ (was : was_snapped log vid ≡ true). published_stays log entry vid (before was))
        (λ (now : (snaps vid (outcome (log_effects log) entry).effect || false) ≡ true). ⊎_elim
        (λ (snapped : snaps vid (outcome (log_effects log) entry).effect ≡ true).
        let working = snaps-working (log_effects log) (outcome (log_effects log) entry).effect vid
        (lawful-outcome (log_effects log) (sound-log_effects log) entry) snapped in
        published_stays log entry vid (live_was vid log (ap is_live_state working)))
        (λ (never : false ≡ true). absurd (cc (never)))
        (or_cases (snaps vid (outcome (log_effects log) entry).effect) false now))
        (or_cases (was_snapped log vid) (snaps vid (outcome (log_effects log) entry).effect || false)
        (sym (snapped-push log entry vid) ∙ is))

module _ (script : List Statement) (range : RunsAreInRange script) (events : List Move) (start : MomentWithPast)
    (ran : run_with_past script events ≡ Some start) (stepping : SteppingNode) (is : IsStepping script start.world stepping)
    (by : StepsByChanges stepping.cause) (so_far : StepState) (leads : LeadsInStep stepping (first_in_step stepping) so_far)
    (trail : MomentTrail script start (moment_in_step script stepping start so_far)) where
  abbrev here : MomentWithPast
  here = moment_in_step script stepping start so_far

  abbrev was : Host
  was = host_with_node stepping.host so_far.node

  abbrev read : List Entry
  read = so_far.node.peer.entries

  seat : tree.get here.world.hosts stepping.n ≡ Some was
  seat = get-insert_same start.world.hosts stepping.n was

  -- a disk that became a snapshot by what the node has read
  snapshot_was : (vid : ℕ) → was_snapped so_far.node.peer.entries vid ≡ true → was_published here.world.log vid ≡ true
  snapshot_was vid snapped =
      let front = ((tellers-on_the_way script range events start here ran trail).rows.sound.each stepping.n was seat).read.front in
      snapped_published vid here.world.log
      (ap (λ (log : List Entry). was_snapped log vid) front.is ∙ (snapped-later so_far.node.peer.entries vid snapped front.rest).0)

  module _ (session req : ℕ) (op : Op)
      (there : tree.get so_far.node.requests req ≡ Some (record { session = session; course = Commanding op })) where
    kept : (own : Vid) (task : Task) → op.stage ≡ Working own task
        → IsStageKept here.world.log so_far.node.outbox so_far.node.peer.entries (length so_far.node.peer.entries) so_far.node.me session
        (opened_in session so_far.node.sessions) (Working own task)
    kept own task at =
        subst (IsStageKept here.world.log so_far.node.outbox so_far.node.peer.entries (length so_far.node.peer.entries) so_far.node.me
        session (opened_in session so_far.node.sessions)) at
        (((claims-in_run script range events start here ran trail).each stepping.n was seat (not_lost stepping.host is.up)).commands req
        (record { session = session; course = Commanding op }) op there refl)

    shares : (own : Vid) (task : Task) → op.stage ≡ Working own task → IsSharedTask so_far.node.peer.entries own task
    shares own task at =
        let all = sharing_then script range start.world (began-with_past script events start ran) stepping.n stepping.host is.there
        stepping.cause is.caused so_far leads in
        let entries = entries_so (input_of_cause stepping.cause) stepping.host.node so_far leads in
        subst (IsSharedStage so_far.node.peer.entries) at
        (subst (λ (o : Option Request). IsAtStage (IsSharedDisk so_far.node.peer.entries) (IsSharedStage so_far.node.peer.entries) o)
        there
        (subst (λ (log : List Entry). IsAtStage (IsSharedDisk log) (IsSharedStage log) (tree.get so_far.node.requests req)) (sym entries)
        (all.stages req)))

    by_task : (own : Vid) (task : Task) → op.stage ≡ Working own task → (vid : Vid) (header : Header) → TaskReadsInode own task vid header
        → was_published here.world.log vid.0 ≡ true
    by_task own (Opening true ids has) at vid header (same, header_so) =
        snapshot_was vid.0
        (ap (λ (v : Vid). was_snapped so_far.node.peer.entries v.0) (sym same) ∙ (shares own (Opening true ids has) at).closed refl)
    by_task own (Opening false ids has) at vid header (same, header_so) =
        ap (λ (v : Vid). was_published here.world.log v.0) (sym same)
        ∙ live_was own.0 here.world.log
        (ap is_live_state (held-works here.world.log own.0 _ (kept own (Opening false ids has) at).0.held))
    by_task own (WritingBack inode) at vid header reads = absurd reads
    by_task own (Tagging old inode) at vid header reads = absurd reads
    by_task own (Copying ids has) at vid header (parent, header_so) =
        snapshot_was vid.0
        (subst (λ (o : Option Vid). IfSome o (λ (p : Vid). was_snapped so_far.node.peer.entries p.0 ≡ true)) parent
        (shares own (Copying ids has) at))
    by_task own (Making entry opened) at vid header reads = absurd reads

    by_stage : (stage : OpStage) → op.stage ≡ stage → (vid : Vid) (header : Header) → ReadsInodeAt stage vid header
        → was_published here.world.log vid.0 ≡ true
    by_stage (Asked entry) at vid header reads = absurd reads
    by_stage (Working own task) at vid header reads = by_task own task at vid header reads
    by_stage (Publishing entry opened) at vid header reads = absurd reads
    by_stage (Answered change) at vid header reads = absurd reads

    pub inode_created : (vid : Vid) (header : Header) → ReadsInodeAt op.stage vid header
        → IsCreated here.past.attempts (inode_number vid.0) (published_in here.world.log vid.0)
    inode_created vid header reads =
        published-on_the_way script range events start here ran trail vid.0 (by_stage op.stage refl vid header reads)

    -- it was so as the step began: the log is that of then
    pub inode_was_created : (vid : Vid) (header : Header) → ReadsInodeAt op.stage vid header
        → IsCreated start.past.attempts (inode_number vid.0) (published_in start.world.log vid.0)
    inode_was_created vid header reads =
        published-on_the_way script range events start start ran Still vid.0
        (ap (λ (log : List Entry). was_published log vid.0) (sym (log_by_changes stepping.cause by start.world.log))
        ∙ by_stage op.stage refl vid header reads)
