-- In the middle of a step of a run in range, the entries of an inode that a command creates next stand for what is made, of ids that a test
-- calls good, if what is above a good id is good. One that takes the place of a disk has the entries of that disk's open table; a clone has
-- what it read of the inode that it is made from, which attempts gave to that.
use Rattle.std.proofs.Common.{◌≡◌, ◌≢◌, inl, inr, ⊎_elim, arith, ℕ, ◌+◌, ◌*◌, ◌≤◌, ◌<◌, Bool, true, false, IfSome, List, []}
use Rattle.std.proofs.Common.{length, slice_index, Option, Some, refl, sym, ap, subst, ◌∙◌}
use Rattle.std.specs.FinMap as tree
use Rattle.proof_tools.proofs.FiniteMaps.{get-insert_same}
use Rattle.object_id.specs.declared.limits.TheConstants.{OBJECTS_MAX}
use Rattle.object_id.specs.declared.oid.Vid.{Vid}
use Rattle.object_id.specs.Fields.{u32_at}
use Rattle.object_id.specs.Oid.{inode_number, object_number}
use Rattle.object_id.specs.Spec.{objects_of}
use Rattle.inode.specs.Layout.{Content}
use Rattle.inode.specs.declared.layout.TheConstants.{INODE_HEADER_BYTES}
use Rattle.cluster_script.specs.declared.statement.Statement.{Statement}
use Rattle.vdi_directory.specs.declared.effect.Effect.{Effect}
use Rattle.vdi_directory.specs.declared.header.Header.{Header}
use Rattle.vdi_directory.specs.Chains.{is_above}
use Rattle.vdi_directory.specs.Dead.{is_dead}
use Rattle.vdi_directory.specs.Decisions.{log_effects}
use Rattle.vdi_directory.proofs.GoneLemmas.{reserved-stands}
use Rattle.gateway.specs.declared.message.Status.{Status}
use Rattle.gateway.specs.Attempt as gateways
use Rattle.gateway.specs.State.{Work}
use Rattle.vdi_ops.specs.Op.{Tagging, Copying, OpStage, Working, Op}
use Rattle.vdi_ops.specs.TaskWorks.{IsBaseRead}
use Rattle.vdi_ops.specs.Tables.{table_in, inode_by}
use Rattle.vdi_ops.proofs.TableLemmas.{objects_most, table_length}
use Rattle.sheep_node.specs.declared.course.Course.TheVariants.{Commanding}
use Rattle.sheep_node.specs.declared.course.Request.{Request}
use Rattle.sheep_node.specs.Changes.{EndsWork}
use Rattle.sheep_node.specs.SessionQueues.{session_among}
use Rattle.sheep_node.specs.SoundWorks.{IsSoundStage}
use Rattle.sheep_node.specs.StepState.{StepState}
use Rattle.sheep_world.specs.NodeCauses.{input_of_cause, host_with_node}
use Rattle.sheep_world.specs.World.{Host}
use Rattle.sheep_world.specs.RunsWithAsks.{Move}
use Rattle.overlap_law.specs.Attempts.{AttemptRecord}
use Rattle.overlap_law.specs.CommandDisks.{opened_in}
use Rattle.overlap_law.specs.Courses.{IsOfStage}
use Rattle.overlap_law.specs.Fates.{IsCreated}
use Rattle.overlap_law.specs.Holders.{is_dead_by_log}
use Rattle.overlap_law.specs.MomentChanges.{MomentTrail, RunsAreInRange}
use Rattle.overlap_law.specs.NamedWorks.{AboveIsGood}
use Rattle.overlap_law.specs.OpenTables.{CallsLive}
use Rattle.overlap_law.specs.Past.{MomentWithPast, run_with_past}
use Rattle.overlap_law.specs.StepMoments.{SteppingNode, IsStepping, StepsByChanges, LeadsInStep, first_in_step, moment_in_step}
use Rattle.overlap_law.specs.Tables.{entry_by, StandsFor, IsOfChain, EntriesAreMade, TablesAreMade}
use Rattle.overlap_law.specs.WriterClaims.{IsStageKept}
use Rattle.overlap_law.proofs.AboveIds.{above_goes_on}
use Rattle.overlap_law.proofs.AnswersInMoments.{not_lost}
use Rattle.overlap_law.proofs.CausedWorks.{by_changes}
use Rattle.overlap_law.proofs.ChainTables.{IsInChain, at_index}
use Rattle.overlap_law.proofs.ClaimsInRuns.{claims-in_run}
use Rattle.overlap_law.proofs.CreatedStays.{created-by}
use Rattle.overlap_law.proofs.CreatesFirst.{inside, session_of}
use Rattle.overlap_law.proofs.GoodDisks.{above_lives}
use Rattle.overlap_law.proofs.KnownDisks.{vid-of_inode}
use Rattle.overlap_law.proofs.LastReads.{last_reads-in_run}
use Rattle.overlap_law.proofs.NoRecoveredDue.{began-with_past}
use Rattle.overlap_law.proofs.OpeningReads.{IsEntryRead, entry_read, knows_well}
use Rattle.overlap_law.proofs.OpenTables.{whole_there, whole_tables}
use Rattle.overlap_law.proofs.OwnTables.{entry_read as table_entry, entry_kept}
use Rattle.overlap_law.proofs.ReadCommands.{IsIdAbove, IsTabledStage}
use Rattle.overlap_law.proofs.WaitedInRuns.{works_wait}
use Rattle.overlap_law.proofs.WaitedSteps.{no_id, HasOwnDraftAt, Waits}
use Rattle.overlap_law.proofs.WorksAtCourses.{IsAt}

-- the entries of an inode's table stand for objects that were created by an epoch, if its id is good
abbrev pub EntriesStand : List Effect → (ℕ → Bool) → List AttemptRecord → ℕ → Content → Type 0
EntriesStand effects good_id attempts epoch inode = (index : ℕ) → good_id inode.vid ≡ true → slice_index inode.table index ≢ 0
    → StandsFor effects attempts inode.vid index epoch (slice_index inode.table index)

module _ (script : List Statement) (range : RunsAreInRange script) (events : List Move) (start : MomentWithPast)
    (ran : run_with_past script events ≡ Some start) (on : SteppingNode) (is : IsStepping script start.world on)
    (by : StepsByChanges on.cause) (so_far : StepState) (leads : LeadsInStep on (first_in_step on) so_far)
    (trail : MomentTrail script start (moment_in_step script on start so_far)) (good_id : ℕ → Bool)
    (above_good : AboveIsGood (log_effects (moment_in_step script on start so_far).world.log) good_id) where
  abbrev here : MomentWithPast
  here = moment_in_step script on start so_far

  abbrev was : Host
  was = host_with_node on.host so_far.node

  abbrev effects : List Effect
  effects = log_effects (moment_in_step script on start so_far).world.log

  abbrev attempts : List AttemptRecord
  attempts = (moment_in_step script on start so_far).past.attempts

  seat : tree.get here.world.hosts on.n ≡ Some was
  seat = get-insert_same start.world.hosts on.n was

  up : was.is_lost ≡ false
  up = not_lost on.host is.up

  module _ (session req number : ℕ) (done : Work) (attempt : gateways.Attempt) (status : Status) (op : Op) (bytes : List ℕ)
      (ends : EndsWork (input_of_cause on.cause) on.host.node so_far session req number done attempt status (Commanding op) bytes) where
    abbrev request : Request
    request = record { session = session; course = Commanding op }

    -- what is known of the command, whose work is done
    module _ (stage : OpStage) (at : op.stage ≡ stage) where
      kept : IsStageKept here.world.log so_far.node.outbox so_far.node.peer.entries (length so_far.node.peer.entries) so_far.node.me
          session (opened_in session so_far.node.sessions) stage
      kept =
          subst (IsStageKept here.world.log so_far.node.outbox so_far.node.peer.entries (length so_far.node.peer.entries)
          so_far.node.me session (opened_in session so_far.node.sessions)) at
          (((claims-in_run script range events start here ran trail).each on.n was seat up).commands req request op ends.ends.request refl)

      tabled : IsTabledStage (log_effects here.world.log) stage
      tabled =
          subst (IsTabledStage (log_effects here.world.log)) at
          ((whole_there script range events start here ran trail on.n was seat).courses req request ends.ends.request)

      sound : IsSoundStage stage
      sound =
          subst IsSoundStage at
          ((knows_well script range events start ran on is by so_far leads trail).sound.courses req request ends.ends.request)

      waits : IsOfStage [] no_id [] (session_among session so_far.node.sessions).disk stage done.work × HasOwnDraftAt stage
      waits =
          subst (λ (stage : OpStage). IsOfStage [] no_id [] (session_among session so_far.node.sessions).disk stage done.work
          × HasOwnDraftAt stage) at
          (subst (λ (o : Option Request). IsAt Waits so_far.node.sessions o done.work) ends.ends.request
          (works_wait script range start.world (began-with_past script events start ran) on.n on.host is.there is.up on.cause
          (by_changes on.cause by) is.caused so_far leads req done.work (inl (done, ends.ends.learns.there, refl))))

    -- an inode that takes the place of the open disk
    pub tagged_stand : (vid old : Vid) (made : Content) → op.stage ≡ Working vid (Tagging old made)
        → TablesAreMade (log_effects here.world.log) good_id here.world.hosts here.past.attempts
        → EntriesStand (log_effects here.world.log) good_id here.past.attempts so_far.node.peer.epoch made
    tagged_stand vid old made at tables = λ index good some.
        let (tagged, own) = waits (Working vid (Tagging old made)) at in
        let (one, there, opened) = session_of so_far.node session tagged.disk tagged.there in
        let its = tabled (Working vid (Tagging old made)) at in
        let place = (kept (Working vid (Tagging old made)) at).0 in
        let above : is_above effects tagged.disk.inode.vid made.vid ≡ true
        = ap (λ (id : ℕ). is_above effects id made.vid) tagged.same ∙ its.1 in
        let alive : is_dead effects tagged.disk.inode.vid ≡ false
        = above_lives here.world.log tagged.disk.inode.vid vid.0 (reserved-stands here.world.log vid place.has.reservation place.has.found)
        (ap (λ (id : ℕ). is_above effects tagged.disk.inode.vid id) (sym own) ∙ above) in
        let same : slice_index made.table index ≡ slice_index tagged.disk.inode.table index
        = ap (λ (table : List ℕ). slice_index table index) tagged.table in
        let named : 1 ≤ slice_index tagged.disk.inode.table index = some_there (slice_index tagged.disk.inode.table index)
        (λ none. some (same ∙ none)) in
        let short : index < length tagged.disk.inode.table
        = inside tagged.disk.inode.table index (slice_index tagged.disk.inode.table index) refl named in
        let long : length tagged.disk.inode.table ≡ objects_of tagged.disk.inode.spec
        = (whole_tables script range events start here ran trail).each on.n was seat up session one tagged.disk there opened in
        let created : IsCreated attempts (object_number (slice_index tagged.disk.inode.table index) index) so_far.node.peer.epoch
        = tables.each on.n was seat up session index one tagged.disk there opened (above_good tagged.disk.inode.vid made.vid above good)
        alive (omega (arith, short, long)) (λ none. some (same ∙ none)) in
        record {
          chain = ⊎_elim
              (λ (none : slice_index made.table index ≡ 0). absurd (some none))
              (λ (in_chain : IsInChain effects made.vid (slice_index made.table index)). in_chain)
              (at_index (IsOfChain effects made.vid) (inl refl) made.table index its.0.0.entries);
          created = subst (λ (entry : ℕ). IsCreated attempts (object_number entry index) so_far.node.peer.epoch) (sym same) created;
        }
      where
        some_there : (n : ℕ) → n ≢ 0 → 1 ≤ n
        some_there n some = omega (arith, some)

    -- that of a clone
    pub copied_stand : (vid : Vid) (ids : List ℕ) (header : Header) → op.stage ≡ Working vid (Copying ids header) → (live : ℕ → Bool)
        → CallsLive live here.world.log here.past.attempts
        → EntriesAreMade (log_effects here.world.log) live good_id here.past.attempts
        → EntriesStand (log_effects here.world.log) good_id here.past.attempts so_far.node.peer.epoch
        (inode_by header vid.0 (table_in ids header.spec bytes))
    copied_stand vid ids header at live calls made = λ index good some.
        let table : List ℕ = table_in ids header.spec bytes in
        let base : IsBaseRead header.parent header done.work = (waits (Working vid (Copying ids header)) at).0 in
        let elder : Vid = base.vid in
        let above : IsIdAbove effects vid.0 elder
        = subst (λ (o : Option Vid). IfSome o (IsIdAbove effects vid.0)) base.there (tabled (Working vid (Copying ids header)) at).1 in
        let reserved = kept (Working vid (Copying ids header)) at in
        let most : objects_of header.spec ≤ OBJECTS_MAX = objects_most header.spec (sound (Working vid (Copying ids header)) at).1.spec in
        let named : 1 ≤ slice_index table index = some_there (slice_index table index) some in
        let short : index < length table = inside table index (slice_index table index) refl named in
        let long : length table ≡ objects_of header.spec = table_length ids header.spec bytes in
        let within : index < objects_of header.spec = omega (arith, short, long) in
        let value : ℕ = u32_at (INODE_HEADER_BYTES + 4 * index) bytes in
        let same : value ≡ slice_index table index
        = entry_kept ids value (slice_index table index) named
        (sym (table_entry ids (objects_of header.spec) INODE_HEADER_BYTES index bytes within)) in
        let one : IsEntryRead attempts so_far.node.peer.epoch elder.0 index value
        = entry_read script range events start ran on is by so_far leads trail session req number done attempt status (Commanding op) bytes
        ends refl elder.0 header.spec base.work_of above.0 (last_reads-in_run script range events start here ran trail) index within in
        let entry : entry_by index one.one ≡ slice_index table index = one.entry ∙ same in
        let alive : is_dead_by_log here.world.log (inode_number elder.0) ≡ false
        = ap (λ (id : ℕ). is_dead effects id) (vid-of_inode elder.0 above.0)
        ∙ above_lives here.world.log elder.0 vid.0 (reserved-stands here.world.log vid reserved.reservation reserved.found) above.1 in
        let stands : StandsFor effects attempts elder.0 index one.one.epoch (entry_by index one.one)
        = made.each one.place one.one one.there elder.0 index one.object
        (calls (inode_number elder.0) (one.place, one.one, one.there, one.object) alive)
        (above_good elder.0 vid.0 above.1 good) (omega (arith, within, most)) one.covers (λ none. some (sym entry ∙ none)) in
        subst (StandsFor effects attempts vid.0 index so_far.node.peer.epoch) entry (record {
          chain = inr (⊎_elim
              (λ (own : entry_by index one.one ≡ elder.0). ap (λ (id : ℕ). is_above effects id vid.0) own ∙ above.1)
              (λ (far : is_above effects (entry_by index one.one) elder.0 ≡ true).
              above_goes_on here.world.log (entry_by index one.one) elder.0 vid.0 far above.1)
              stands.chain);
          created = created-by attempts (object_number (entry_by index one.one) index) one.one.epoch so_far.node.peer.epoch one.within
              stands.created;
        })
      where
        some_there : (n : ℕ) → n ≢ 0 → 1 ≤ n
        some_there n some = omega (arith, some)
