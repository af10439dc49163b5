-- Each change of a moment keeps that an inode which a session is to have open once it is published may come to have its table alone.
use Rattle.std.proofs.Common.{◌≡◌, ◌≢◌, inl, ⊎_elim, arith, ℕ, ◌<◌, ◌≤◌, ◌+◌, nat_le, true, false, List, Option, Some}
use Rattle.std.proofs.Common.{None, slice_index, refl, sym, ap, subst, ◌∙◌}
use Rattle.std.specs.Ordering.{nat_cmp}
use Rattle.std.specs.FinMap as tree
use Rattle.std.proofs.lemmas.Bool.{le-leb}
use Rattle.proof_tools.proofs.FiniteMaps.{get-insert_same, get-insert_other, get-insert_cases}
use Rattle.object_id.specs.declared.entry.Entry.{Entry}
use Rattle.object_id.specs.declared.limits.TheConstants.{OBJECTS_MAX}
use Rattle.object_id.specs.declared.oid.Kind.{Kind}
use Rattle.object_id.specs.declared.oid.Kind.TheVariants.{Inode}
use Rattle.object_id.specs.Oid.{inode_number}
use Rattle.object_id.specs.Spec.{objects_of}
use Rattle.guest_driver.proofs.ExtentLemmas.{objects_most}
use Rattle.inode.specs.Layout.{Content}
use Rattle.inode.specs.declared.layout.TheConstants.{INODE_BYTES}
use Rattle.cluster_script.specs.declared.statement.Statement.{Statement}
use Rattle.peer_proto.specs.Work.{oid_of}
use Rattle.gateway.specs.Work.{is_making}
use Rattle.vdi_directory.specs.Decisions.{log_effects}
use Rattle.vdi_ops.specs.declared.act.OpAct.TheVariants as op_acts
use Rattle.vdi_ops.specs.InodeWorks.{create_inode}
use Rattle.vdi_ops.specs.Op.{Making, OpStage, Working, Publishing, Op, IsAwaitedAtOpStage}
use Rattle.sheep_node.specs.SoundWorks.{IsSoundStage}
use Rattle.sheep_node.specs.WantedWorks.{IsWantedAt}
use Rattle.sheep_node.specs.declared.course.Course.TheVariants.{Commanding}
use Rattle.sheep_node.specs.declared.course.Request.{Request}
use Rattle.sheep_world.specs.Began.{Began}
use Rattle.sheep_world.specs.NodeCauses.{input_of_cause, host_with_node}
use Rattle.sheep_world.specs.World.{Host}
use Rattle.sheep_world.specs.RunsWithAsks.{Move}
use Rattle.overlap_law.specs.Attempts.{AttemptRecord}
use Rattle.overlap_law.specs.Grants.{writer_of}
use Rattle.overlap_law.specs.MomentChanges as moments
use Rattle.overlap_law.specs.MomentChanges.{MomentChange, MomentTrail, RunsAreInRange}
use Rattle.overlap_law.specs.Past.{MomentWithPast, run_with_past}
use Rattle.overlap_law.specs.ShapedAttempts.{AreShaped}
use Rattle.overlap_law.specs.StepMoments.{moment_in_step}
use Rattle.overlap_law.specs.Tables.{entry_unit, entry_by}
use Rattle.overlap_law.specs.TiedAttempts.{IsTied}
use Rattle.overlap_law.specs.ToCome.{IsToCome, IsEntryToCome, PublishedTablesStay}
use Rattle.overlap_law.specs.ToDo.{entry_made}
use Rattle.overlap_law.specs.Units.{unit_start, unit_size, unit_end, covers_by}
use Rattle.overlap_law.specs.Writers.{session_holder}
use Rattle.overlap_law.proofs.AnswersInMoments.{not_lost}
use Rattle.overlap_law.proofs.CausedWorks.{HasWellWorks}
use Rattle.overlap_law.proofs.CreatedEntries.{created_at}
use Rattle.overlap_law.proofs.DoneAlone.{done_alone}
use Rattle.overlap_law.proofs.EntryWrites.{entry_start, entry_size}
use Rattle.overlap_law.proofs.FinishedInMoments.{TermsHold, kept_terms}
use Rattle.overlap_law.proofs.GuestsInMoments.{GuestsChange, GuestsStay, GuestsAreNone, IsGoingOn, IsBetween, between}
use Rattle.overlap_law.proofs.KnownDisks.{kind-of_inode}
use Rattle.overlap_law.proofs.MakingStages.{IsMakingStage, IsPublishingStage, WasMaking, publishing_of_works}
use Rattle.overlap_law.proofs.NewAttempts.{IsOpened, WasAttempt, come_from}
use Rattle.overlap_law.proofs.NoRecoveredDue.{began-with_past}
use Rattle.overlap_law.proofs.PublishedStay.{MakingsFit, kept_fit, none_begins, wrote}
use Rattle.overlap_law.proofs.RunsByChanges.{on_the_way}
use Rattle.overlap_law.proofs.ShapedAttempts.{kept_shaped}
use Rattle.overlap_law.proofs.ShortTags.{knows_works}
use Rattle.overlap_law.proofs.StagesFrom.{ComesNow, stage_from}
use Rattle.overlap_law.proofs.TiedInRuns.{kept_tied}
use Rattle.overlap_law.proofs.ToComeStays.{to_come_before}
use Rattle.overlap_law.proofs.WorksInMoments.{well_along}

module _ (script : List Statement) (range : RunsAreInRange script) (events : List Move) (start before after : MomentWithPast)
    (ran : run_with_past script events ≡ Some start) (trail : MomentTrail script start before)
    (change : MomentChange script start before after)
    (all : PublishedTablesStay (log_effects before.world.log) before.world.hosts before.past.attempts) where
  began : Began script start.world
  began = began-with_past script events start ran

  might : (vid index j : ℕ) (attempt : AttemptRecord) → IsEntryToCome after.world.hosts after.past.attempts vid index j attempt
      → (w : WasAttempt before j attempt) → IsEntryToCome before.world.hosts before.past.attempts vid index j w.was
  might vid index j attempt comes w =
      to_come_before script range start before after began change
      (on_the_way script TermsHold (kept_terms script range) events start before ran trail)
      (on_the_way script AreShaped (kept_shaped script range) events start before ran trail)
      (on_the_way script IsTied (kept_tied script range) events start before ran trail) (inode_number vid) (entry_unit index) j attempt
      comes w

  -- the creation of an inode is done
  module _ (g : IsGoingOn script start before after) (req : ℕ) (session : ℕ) (inode : Content)
      (c : ComesNow (WasMaking inode) (input_of_cause g.stepping.cause) g.stepping.host.node req session g.so_far) where
    abbrev was : Host
    was = host_with_node g.stepping.host g.so_far.node

    trail_here : MomentTrail script start (moment_in_step script g.stepping start g.so_far)
    trail_here = subst (MomentTrail script start) g.before_so trail

    was_there : tree.get (moment_in_step script g.stepping start g.so_far).world.hosts g.stepping.n
        ≡ Some (host_with_node g.stepping.host g.so_far.node)
    was_there = get-insert_same start.world.hosts g.stepping.n was

    well : HasWellWorks g.so_far.node
    well = well_along script range start began trail_here g.stepping.n was was_there

    created : c.work.work ≡ create_inode inode
    created =
        by_task
        (subst (λ (stage : OpStage). IsAwaitedAtOpStage (op_acts.Work c.work.work) stage) c.came.2
        (subst (λ (o : Option Request). IsWantedAt g.so_far.node.sessions o c.work.work) c.ends.ends.request
        (well.wanted req c.work.work (inl (c.work, c.ends.ends.learns.there, refl)))))
      where
        by_task : IsAwaitedAtOpStage (op_acts.Work c.work.work) (Working c.came.0 (Making c.came.1 (Some inode)))
            → c.work.work ≡ create_inode inode
        by_task (other, same, is) =
            let one : c.work.work ≡ other = cc (same) in
            one ∙ is.work_of ∙ ap create_inode (sym (is.same inode refl))

    created_alone : (index j : ℕ) (attempt : AttemptRecord) → index < objects_of inode.spec
        → IsEntryToCome before.world.hosts before.past.attempts inode.vid index j attempt
        → entry_by index attempt ≡ slice_index inode.table index
    created_alone index j attempt inside comes =
        let sound = subst IsSoundStage c.came.2
        ((knows_works script range start began g.stepping g.is g.by g.so_far g.within.leads).sound.courses req
        (record { session = session; course = Commanding c.op }) c.ends.ends.request) in
        let most = objects_most inode.spec sound.spec in
        let few : index < OBJECTS_MAX = omega (arith, inside, most) in
        let start_so = entry_start index in
        let size_so = entry_size index in
        let ends : unit_start Inode (entry_unit index) + unit_size Inode (entry_unit index) ≤ INODE_BYTES
        = omega (arith, start_so, size_so, few) in
        let covered : covers_by (entry_unit index) (create_inode inode) ≡ true
        = ap (λ (k : Kind). nat_le (unit_end k (entry_unit index)) INODE_BYTES) (kind-of_inode inode.vid sound.ids.vid)
        ∙ le-leb (unit_end Inode (entry_unit index)) INODE_BYTES ends in
        let head = on_the_way script MakingsFit (kept_fit script range) events start (moment_in_step script g.stepping start g.so_far) ran
        trail_here g.stepping.n was was_there req (record { session = session; course = Commanding c.op }) c.op inode c.ends.ends.request
        refl
        (subst (λ (stage : OpStage). IsMakingStage inode stage) (sym c.came.2) refl) in
        let here : IsEntryToCome (moment_in_step script g.stepping start g.so_far).world.hosts
        (moment_in_step script g.stepping start g.so_far).past.attempts inode.vid index j attempt
        = subst (λ (m : MomentWithPast). IsEntryToCome m.world.hosts m.past.attempts inode.vid index j attempt) g.before_so comes in
        let is : attempt.work ≡ c.work.work
        = done_alone script range events start ran g.stepping g.is g.by g.so_far g.within.leads trail_here req c.number c.work c.attempt
        c.status c.ends.ends.learns c.ends.done (ap is_making created) (entry_unit index)
        (ap (covers_by (entry_unit index)) created ∙ covered) j attempt
        (subst (λ (o : ℕ). IsToCome (moment_in_step script g.stepping start g.so_far).world.hosts
        (moment_in_step script g.stepping start g.so_far).past.attempts o (entry_unit index) j attempt) (sym (ap oid_of created)) here) in
        ap (entry_made index) (is ∙ created) ∙ created_at inode index sound.ids.vid head sound.ids.entries

  -- ---- each

  module _ (n : ℕ) (host : Host) (there : tree.get after.world.hosts n ≡ Some host) (up : host.is_lost ≡ false) (req index : ℕ)
      (request : Request) (op : Op) (entry : Entry) (inode : Content) (got : tree.get host.node.requests req ≡ Some request)
      (command : request.course ≡ Commanding op) (at : op.stage ≡ Publishing entry (Some inode)) (inside : index < objects_of inode.spec)
      (writes : writer_of (log_effects after.world.log) inode.vid ≡ Some (session_holder n request.session)) (j : ℕ)
      (attempt : AttemptRecord) (comes : IsEntryToCome after.world.hosts after.past.attempts inode.vid index j attempt)
      (w : WasAttempt before j attempt) where
    -- it waited for that before
    had : (old : Host) → tree.get before.world.hosts n ≡ Some old → old.is_lost ≡ false → tree.get old.node.requests req ≡ Some request
        → entry_by index w.was ≡ slice_index inode.table index
    had old old_there old_up old_got =
        all.each n old old_there old_up req index request op entry inode old_got command at inside
        (wrote script range events start ran before after trail change n old old_there old_up req request op entry inode old_got command at
        writes)
        j w.was (might inode.vid index j attempt comes w)

    by_guests : GuestsChange before n host → entry_by index w.was ≡ slice_index inode.table index
    by_guests (GuestsStay old old_there old_up gateway sessions requests) =
        had old old_there (old_up up) (ap (λ (r : tree.FinMap nat_cmp Request). tree.get r req) (sym requests) ∙ got)
    by_guests (GuestsAreNone sessions none) =
        let empty : tree.get host.node.requests req ≡ None
        = ap (λ (r : tree.FinMap nat_cmp Request). tree.get r req) none ∙ tree.get-empty {X = Request} nat_cmp req in
        absurd (cc (empty, got))

    going_on : IsGoingOn script start before after → entry_by index w.was ≡ slice_index inode.table index
    going_on g = ⊎_elim
        (λ (own : (n ≡ g.stepping.n) × (host_with_node g.stepping.host g.next.node ≡ host)). ⊎_elim
        (λ (was : tree.get g.so_far.node.requests req ≡ Some request).
        had (host_with_node g.stepping.host g.so_far.node)
        (ap (λ (m : MomentWithPast). tree.get m.world.hosts n) g.before_so
        ∙ ap (tree.get (moment_in_step script g.stepping start g.so_far).world.hosts) own.0
        ∙ get-insert_same start.world.hosts g.stepping.n (host_with_node g.stepping.host g.so_far.node))
        (not_lost g.stepping.host g.is.up) was)
        (λ (c : ComesNow (WasMaking inode) (input_of_cause g.stepping.cause) g.stepping.host.node req request.session g.so_far).
        created_alone g req request.session inode c index j w.was inside (might inode.vid index j attempt comes w))
        (stage_from (IsPublishingStage inode) (WasMaking inode) (publishing_of_works inode) req (input_of_cause g.stepping.cause)
        g.stepping.host.node g.so_far g.next g.within.change request op (ap (λ (h : Host). tree.get h.node.requests req) own.1 ∙ got)
        command (subst (IsPublishingStage inode) (sym at) refl)))
        (λ (other : (n ≢ g.stepping.n) × (tree.get start.world.hosts n ≡ Some host)).
        had host
        (ap (λ (m : MomentWithPast). tree.get m.world.hosts n) g.before_so
        ∙ get-insert_other start.world.hosts g.stepping.n (host_with_node g.stepping.host g.so_far.node) n other.0 ∙ other.1) up got)
        (get-insert_cases start.world.hosts g.stepping.n (host_with_node g.stepping.host g.next.node) n host
        (sym (ap (λ (m : MomentWithPast). tree.get m.world.hosts n) g.after_so) ∙ there))

    stays_so : entry_by index w.was ≡ slice_index inode.table index
    stays_so = ⊎_elim
        (λ (g : IsGoingOn script start before after). going_on g)
        (λ (b : IsBetween before after). by_guests (b.0 n host there))
        (between script start change)

  pub published_kept : PublishedTablesStay (log_effects after.world.log) after.world.hosts after.past.attempts
  published_kept = record {
    each = λ n host there up req index request op entry inode got command at inside writes j attempt comes. ⊎_elim
        (λ (w : WasAttempt before j attempt).
        ap (λ (a : AttemptRecord). entry_by index a) (sym w.same)
        ∙ stays_so n host there up req index request op entry inode got command at inside writes j attempt comes w)
        (λ (o : IsOpened script start after attempt).
        absurd (none_begins script range events start ran after (moments.Then trail change) n host there up req request op entry inode got
        command at writes index j attempt comes o))
        (come_from script range start began change j attempt comes.there);
  }
