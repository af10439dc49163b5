-- At the end of every event each work is the one that its request waits for, of disks that were available too: what a command creates for
-- an id, while that is reserved, is drawn from what the id is made from. It is a hole for a new disk, for a clone what its base is read to
-- have, and for an id that is to take a disk's place what the disk's inode is read to have.
use Rattle.std.specs.FinMap as tree
use Rattle.object_id.specs.declared.entry.Entry.TheVariants as entries
use Rattle.vdi_directory.specs.declared.effect.Source.TheVariants as sources
use Rattle.std.proofs.Common.{◌≡◌, inl, inr, arith, ℕ, ◌<◌, ◌≤◌, ◌+◌, ◌==◌, nat_le, cond, Bool, true, false, All, Contains, List, length}
use Rattle.std.proofs.Common.{Option, Some, None, IfSome, slice_index, refl, sym, ap, subst, ◌∙◌}
use Rattle.std.specs.Prelude.{unwrap_or}
use Rattle.std.proofs.lemmas.Bool.{eqb-true, le-leb}
use Rattle.std.proofs.lemmas.Option.{same_Some}
use Rattle.object_id.specs.declared.entry.Entry.{Entry}
use Rattle.object_id.specs.declared.limits.TheConstants.{OBJECTS_MAX}
use Rattle.object_id.specs.declared.node.NodeId.{NodeId}
use Rattle.object_id.specs.declared.oid.Kind.{Kind}
use Rattle.object_id.specs.declared.oid.Kind.TheVariants.{Inode}
use Rattle.object_id.specs.declared.oid.Vid.{Vid}
use Rattle.object_id.specs.Oid.{IsVid, inode_number}
use Rattle.cluster_script.specs.declared.statement.Statement.{Statement}
use Rattle.disk_check.proofs.TableLemmas.{objects_of-most}
use Rattle.epoch_log.specs.Appending.{IsReservable}
use Rattle.guest_driver.specs.declared.disk.Disk.{Disk}
use Rattle.inode.specs.Layout.{Content}
use Rattle.inode.specs.declared.layout.TheConstants.{INODE_BYTES}
use Rattle.peer_proto.specs.Work.{oid_of}
use Rattle.peer_proto.specs.declared.work.ObjWork.{ObjWork}
use Rattle.vdi_directory.specs.Decisions.{log_effects}
use Rattle.vdi_directory.specs.Effects.{reservation_on, reservations_of}
use Rattle.vdi_directory.specs.References.{parent_of}
use Rattle.vdi_directory.specs.declared.effect.Reservation.{Reservation}
use Rattle.vdi_directory.specs.declared.effect.Source.{Source}
use Rattle.vdi_ops.specs.InodeWorks.{create_inode}
use Rattle.vdi_ops.specs.Op as ops
use Rattle.vdi_ops.specs.Op.{Task, Opening, WritingBack, Tagging, Copying, Making, OpStage, Asked, Working, Publishing, Op}
use Rattle.sheep_node.specs.declared.course.Course.{Course}
use Rattle.sheep_node.specs.declared.course.Course.TheVariants.{Waiting, Driving, Commanding, Checking, DoingWork, AwaitingDecision}
use Rattle.sheep_node.specs.declared.course.Request.{Request}
use Rattle.sheep_node.specs.declared.session.Session.{Session}
use Rattle.sheep_node.specs.SoundWorks.{IsSoundInode, IsSoundCourse, IsSoundStage}
use Rattle.sheep_node.specs.State.{new_session}
use Rattle.sheep_node.specs.WantedWorks.{HasWork}
use Rattle.sheep_world.specs.Began.{Began}
use Rattle.sheep_world.specs.World.{Host}
use Rattle.sheep_world.proofs.LogFrontLaws.{all_read}
use Rattle.sheep_world.specs.RunsWithAsks.{Move}
use Rattle.overlap_law.specs.CommandDisks.{opened_in}
use Rattle.overlap_law.specs.Courses.{IsCreatedNow, IsOfTask, IsOfStage, WaitsFor, IsWaitedFor, WorksAreWaitedFor}
use Rattle.overlap_law.specs.Drafts.{IsDrawnFrom, IsReservedEntry}
use Rattle.overlap_law.specs.Each.{spec_in}
use Rattle.overlap_law.specs.Fates.{IsCreated}
use Rattle.overlap_law.specs.Holders.{is_create_work}
use Rattle.overlap_law.specs.MomentChanges.{RunsAreInRange, AtEnd}
use Rattle.overlap_law.specs.MomentChanges as moments
use Rattle.overlap_law.specs.NamedWorks.{HasEntry}
use Rattle.overlap_law.specs.Past.{MomentWithPast, run_with_past}
use Rattle.overlap_law.specs.StayingDrafts.{StaysDrawnFrom, DraftsStayDrawn}
use Rattle.overlap_law.specs.Tables.{entry_unit}
use Rattle.overlap_law.specs.ToCome.{IsEntryToCome}
use Rattle.overlap_law.specs.ToDo.{entry_made}
use Rattle.overlap_law.specs.Units.{unit_start, unit_size, unit_end, covers_by}
use Rattle.overlap_law.specs.WriterClaims.{IsInPlaceOf, IsMakingKept, IsStageKept}
use Rattle.overlap_law.specs.WrittenBlocks.{IsCandidate}
use Rattle.overlap_law.proofs.AttemptMessages.{contains_at}
use Rattle.overlap_law.proofs.CarriedDrafts.{drafts-in_run, parents_good}
use Rattle.overlap_law.proofs.CarriedInodes.{inodes-in_run}
use Rattle.overlap_law.proofs.CarriedTables.{good_id_at}
use Rattle.overlap_law.proofs.ClaimsInRuns.{claims-in_run}
use Rattle.overlap_law.proofs.CreatedEntries.{created_at}
use Rattle.overlap_law.proofs.CreatedInodes.{header_is}
use Rattle.overlap_law.proofs.DiskWalk.{IsAtStage}
use Rattle.overlap_law.proofs.DraftsOfLogs.{parents_so}
use Rattle.overlap_law.proofs.DrawnCandidates.{base_spec, clone_read}
use Rattle.overlap_law.proofs.DrawnCandidates as drawn_reads
use Rattle.overlap_law.proofs.EntryWrites.{entry_start, entry_size}
use Rattle.overlap_law.proofs.GoodAbove.{above_good_on_the_way}
use Rattle.overlap_law.proofs.KnownDisks.{kind-of_inode}
use Rattle.overlap_law.proofs.LogsReservable.{LogIsReservable, kept_reservable}
use Rattle.overlap_law.proofs.MadeEffects.{IsSourceParent}
use Rattle.overlap_law.proofs.MakingStages.{IsMakingStage}
use Rattle.overlap_law.proofs.NoRecoveredDue.{began-with_past}
use Rattle.overlap_law.proofs.PlacesToCome.{place_comes}
use Rattle.overlap_law.proofs.PublishedStay.{HasHead, MakingsFit, kept_fit}
use Rattle.overlap_law.proofs.RunsByChanges.{on_the_way}
use Rattle.overlap_law.proofs.SourceStages.{StandsAs, stands_later, IsAnyDisk, IsSourceMaking, IsSourceStage}
use Rattle.overlap_law.proofs.SourcesInRuns.{sourced_in_world}
use Rattle.overlap_law.proofs.WaitedInRuns.{waited-in_run}
use Rattle.overlap_law.proofs.WaitedSteps.{no_id}
use Rattle.overlap_law.proofs.WholeInRuns.{sound_world}

-- what is to take the place of a disk is reserved for that of no other
in_place : (old : ℕ) (base : Vid) (tag : List ℕ) → IsInPlaceOf old (sources.Snapshot base tag) → base.0 ≡ old
in_place old base tag (given, is) = by_test (base.0 == old) refl is
  where
    by_test : (b : Bool) → (base.0 == old) ≡ b → cond b (Some tag) None ≡ Some given → base.0 ≡ old
    by_test true same is = eqb-true base.0 old same
    by_test false other is = absurd (cc (is))

module _ (script : List Statement) (range : RunsAreInRange script) (events : List Move) (moment : MomentWithPast)
    (is : run_with_past script events ≡ Some moment) where
  began : Began script moment.world
  began = began-with_past script events moment is

  reservable : All IsReservable moment.world.log
  reservable = (on_the_way script LogIsReservable (kept_reservable script range) events moment moment is moments.Still).all

  drafts : DraftsStayDrawn (log_effects moment.world.log) (good_id_at moment) moment.world.hosts moment.past.attempts
  drafts = drafts-in_run script range events moment is

  module _ (n : ℕ) (host : Host) (there : tree.get moment.world.hosts n ≡ Some host) (up : host.is_lost ≡ false) (req : ℕ)
      (request : Request) (op : Op) (got : tree.get host.node.requests req ≡ Some request) (command : request.course ≡ Commanding op)
      (vid : Vid) (entry : Entry) (opened : Option Content) (at : op.stage ≡ Working vid (Making entry opened)) (work : ObjWork)
      (has : HasWork req work host.node.gateway.works host.node.sessions)
      (creates : IsCreatedNow (log_effects moment.world.log) no_id moment.past.attempts vid opened work) where
    kept : IsMakingKept moment.world.log host.node.outbox host.node.peer.entries (length host.node.peer.entries) host.node.me
        request.session (opened_in request.session host.node.sessions) vid entry opened
    kept =
        subst (IsStageKept moment.world.log host.node.outbox host.node.peer.entries (length host.node.peer.entries) host.node.me
        request.session (opened_in request.session host.node.sessions)) at
        (((claims-in_run script range events moment moment is moments.Still).each n host there up).commands req request op got command)

    -- what it is made for, by what the node has read
    making : IsSourceMaking host.node.peer.entries entry
    making =
        subst (IsSourceStage host.node.peer.entries) at
        (subst (λ (o : Option Request). IsAtStage IsAnyDisk (IsSourceStage host.node.peer.entries) o)
        (got ∙ ap (λ (c : Course). Some (record { session = request.session; course = c })) command)
        ((sourced_in_world script moment.world began n host there).stages req))

    module _ (index : ℕ) (draft : IsReservedEntry (log_effects moment.world.log) (good_id_at moment) vid.0 index) where
      abbrev Read : Vid → Type 0
      Read base = IsCandidate moment.past.attempts base.0 index (entry_made index work)

      is_vid : IsVid vid.0
      is_vid = (header_is moment.world.log reservable vid.0 draft.spec draft.made_with).0

      few : index < OBJECTS_MAX
      few =
          let most = objects_of-most draft.spec (header_is moment.world.log reservable vid.0 draft.spec draft.made_with).1 in
          let within = draft.within in
          omega (arith, within, most)

      has_entry : HasEntry work vid.0 index
      has_entry =
          let start_so = entry_start index in
          let size_so = entry_size index in
          let below = few in
          let ends : unit_start Inode (entry_unit index) + unit_size Inode (entry_unit index) ≤ INODE_BYTES
          = omega (arith, start_so, size_so, below) in
          record {
            object = ap oid_of creates.work_of ∙ ap inode_number creates.own;
            inside = few;
            covered = ap (covers_by (entry_unit index)) creates.work_of
                ∙ ap (λ (k : Kind). nat_le (unit_end k (entry_unit index)) INODE_BYTES)
                (kind-of_inode creates.inode.vid (subst IsVid (sym creates.own) is_vid))
                ∙ le-leb (unit_end Inode (entry_unit index)) INODE_BYTES ends;
          }

      stays : (o : Option Vid) → parent_of (log_effects moment.world.log) vid.0 ≡ o
          → StaysDrawnFrom moment.world.hosts moment.past.attempts draft.reservation.source o index (entry_made index work)
      stays o parent =
          subst (λ (p : Option Vid). StaysDrawnFrom moment.world.hosts moment.past.attempts draft.reservation.source p index
          (entry_made index work)) parent
          (drafts.works n host there up req work has vid.0 index draft (ap is_create_work creates.work_of) has_entry)

      -- ---- an id that takes a disk's place

      module _ (base : Vid) (tag : List ℕ) (from : draft.reservation.source ≡ sources.Snapshot base tag)
          (parent : parent_of (log_effects moment.world.log) vid.0 ≡ Some base) where
        -- it is no new disk and no clone
        other_source : (of : Vid) (source : Source) → of ≡ vid → StandsAs host.node.peer.entries of.0 source
            → source ≡ sources.Snapshot base tag
        other_source of source own stands =
            let front = all_read script moment.world began n host there in
            let then : StandsAs moment.world.log of.0 source
            = subst (λ (log : List Entry). StandsAs log of.0 source) (sym front.is)
            (stands_later host.node.peer.entries front.rest of.0 source stands) in
            sym (then.source_so draft.reservation
            (ap (λ (v : Vid). reservation_on (record { 0 = v.0 }) (reservations_of (log_effects moment.world.log))) own ∙ draft.stands))
            ∙ from

        -- the new inode has the table
        module _ (inode : Content) (opens : opened ≡ Some inode) where
          sound : IsSoundInode inode
          sound =
              subst (λ (o : Option Content). IfSome o IsSoundInode) opens
              (subst IsSoundStage at
              (subst IsSoundCourse command
              (((sound_world script range moment.world began).hosts n host there).node.sound_works.courses req request got)))

          head : HasHead inode
          head =
              on_the_way script MakingsFit (kept_fit script range) events moment moment is moments.Still n host there req request op
              inode got command (subst (IsMakingStage inode) (sym at) opens)

          of_table : entry_made index work ≡ slice_index inode.table index
          of_table =
              ap (entry_made index) (creates.work_of ∙ ap create_inode (sym (creates.same inode opens)))
              ∙ created_at inode index sound.ids.vid head sound.ids.entries

          place_read : (by : NodeId) (old of : Vid) → entry ≡ entries.Snapshot by old of → base.0 ≡ old.0 → Read base
          place_read by old of entry_so same =
              let at_so : op.stage ≡ Working vid (Making (entries.Snapshot by old of) (Some inode))
              = at ∙ (λ i. Working vid (Making (entry_so i) (opens i))) in
              let good : good_id_at moment base.0 ≡ true
              = parents_good moment.world.log (good_id_at moment) (above_good_on_the_way script
              {start = moment} {moment = moment} {end = moment} AtEnd) vid.0 base parent draft.good in
              let spec_so = base_spec script range events moment is (good_id_at moment) vid.0 index draft base parent in
              let comes = place_comes script range events moment is n host there up req request op got command vid old of by inode at_so
              (good_id_at moment) (inodes-in_run script range events moment is).tables index draft.spec
              (ap (good_id_at moment) (sym same) ∙ good)
              (ap (spec_in (log_effects moment.world.log)) (sym same) ∙ spec_so) draft.within in
              drawn_reads.all_read script range events moment is (good_id_at moment) vid.0 index draft base parent host.node.peer.epoch
              (entry_made index work)
              (subst (λ (v : ℕ). IsCreated moment.past.attempts (inode_number v) host.node.peer.epoch) (sym same) comes.0)
              (λ k other may.
              comes.1 k other (subst (λ (v : ℕ). IsEntryToCome moment.world.hosts moment.past.attempts v index k other) same may)
              ∙ sym of_table)

        by_entry : (e : Entry) → entry ≡ e → (o : Option Content) → opened ≡ o
            → IsMakingKept moment.world.log host.node.outbox host.node.peer.entries (length host.node.peer.entries) host.node.me
            request.session (opened_in request.session host.node.sessions) vid e o
            → IsSourceMaking host.node.peer.entries e → Read base
        by_entry (entries.Format members) so o opens is made_for = absurd is
        by_entry (entries.Join node zone vnodes) so o opens is made_for = absurd is
        by_entry (entries.Leave node) so o opens is made_for = absurd is
        by_entry (entries.Reweight node vnodes) so o opens is made_for = absurd is
        by_entry (entries.Recovered node epoch) so o opens is made_for = absurd is
        by_entry (entries.Reserve by session name origin) so o opens is made_for = absurd is
        by_entry (entries.Publish by of) so o opens is made_for =
            let apart = other_source of sources.Fresh is.0 made_for in absurd (cc (apart))
        by_entry (entries.Clone by of) so o opens is made_for =
            let apart = other_source of sources.Clone is.0 made_for in absurd (cc (apart))
        by_entry (entries.Snapshot by old of) so o opens is made_for =
            let same : is.1.has.reservation ≡ draft.reservation
            = same_Some is.1.has.reservation draft.reservation (sym is.1.has.found ∙ draft.stands) in
            let place : IsInPlaceOf old.0 (sources.Snapshot base tag)
            = subst (IsInPlaceOf old.0) (ap (λ (r : Reservation). r.source) same ∙ from) is.1.place in
            place_read is.2.0 (opens ∙ is.2.1) by old of so (in_place old.0 base tag place)
        by_entry (entries.Delete by session name tag) so o opens is made_for = absurd is
        by_entry (entries.Lock by session name tag) so o opens is made_for = absurd is
        by_entry (entries.Unlock by session id) so o opens is made_for = absurd is

      -- ---- each

      by_source : (source : Source) → draft.reservation.source ≡ source → (o : Option Vid)
          → parent_of (log_effects moment.world.log) vid.0 ≡ o → IsSourceParent source o
          → IsDrawnFrom moment.past.attempts index (entry_made index work) o
      by_source sources.Fresh from None parent so = stays None parent from
      by_source sources.Fresh from (Some base) parent so = absurd (cc (so))
      by_source (sources.Snapshot old tag) from None parent so = absurd (cc (so))
      by_source (sources.Snapshot old tag) from (Some base) parent so =
          by_entry base tag (from ∙ ap (λ (v : Vid). sources.Snapshot v tag) (sym (same_Some base old so))) parent entry refl opened refl
          kept making
      by_source sources.Clone from None parent so = absurd (cc (so))
      by_source sources.Clone from (Some base) parent so =
          clone_read script range events moment is (good_id_at moment) vid.0 index draft base parent (entry_made index work) from
          (stays (Some base) parent from)

      drawn : IsDrawnFrom moment.past.attempts index (entry_made index work) (parent_of (log_effects moment.world.log) vid.0)
      drawn = by_source draft.reservation.source refl (parent_of (log_effects moment.world.log) vid.0) refl
          (parents_so moment.world.log vid.0 draft.reservation draft.stands)

  -- ---- what a request waits for

  module _ (n : ℕ) (host : Host) (there : tree.get moment.world.hosts n ≡ Some host) (up : host.is_lost ≡ false) (req : ℕ) (work : ObjWork)
      (has : HasWork req work host.node.gateway.works host.node.sessions) (request : Request)
      (got : tree.get host.node.requests req ≡ Some request) (disk : Option Disk) where
    task_waits : (op : Op) (vid : Vid) (task : Task) → request.course ≡ Commanding op → op.stage ≡ Working vid task
        → IsOfTask (log_effects moment.world.log) no_id moment.past.attempts disk vid task work
        → IsOfTask (log_effects moment.world.log) (good_id_at moment) moment.past.attempts disk vid task work
    task_waits op vid (Opening snapshot ids header) command at waits = waits
    task_waits op vid (WritingBack inode) command at waits = waits
    task_waits op vid (Tagging old inode) command at waits = waits
    task_waits op vid (Copying ids header) command at waits = waits
    task_waits op vid (Making entry opened) command at waits = record {
      inode = waits.inode;
      own = waits.own;
      work_of = waits.work_of;
      same = waits.same;
      drawn = λ index draft. drawn n host there up req request op got command vid entry opened at work has waits index draft;
    }

    stage_waits : (op : Op) (stage : OpStage) → request.course ≡ Commanding op → op.stage ≡ stage
        → IsOfStage (log_effects moment.world.log) no_id moment.past.attempts disk stage work
        → IsOfStage (log_effects moment.world.log) (good_id_at moment) moment.past.attempts disk stage work
    stage_waits op (Asked entry) command at waits = waits
    stage_waits op (Working vid task) command at waits = task_waits op vid task command at waits
    stage_waits op (Publishing entry opened) command at waits = waits
    stage_waits op (ops.Answered change) command at waits = waits

    course_waits : (course : Course) → request.course ≡ course
        → WaitsFor (log_effects moment.world.log) no_id moment.past.attempts disk course work
        → WaitsFor (log_effects moment.world.log) (good_id_at moment) moment.past.attempts disk course work
    course_waits (Waiting ask) so waits = waits
    course_waits (Driving driver) so waits = waits
    course_waits (Commanding op) so waits = stage_waits op op.stage so refl waits
    course_waits (Checking check) so waits = waits
    course_waits (DoingWork asked) so waits = waits
    course_waits (AwaitingDecision entry) so waits = waits

  waited : (n : ℕ) (host : Host) → tree.get moment.world.hosts n ≡ Some host → host.is_lost ≡ false → (req : ℕ) (work : ObjWork)
      → HasWork req work host.node.gateway.works host.node.sessions
      → IsWaitedFor (log_effects moment.world.log) no_id moment.past.attempts host.node req work
      → IsWaitedFor (log_effects moment.world.log) (good_id_at moment) moment.past.attempts host.node req work
  waited n host there up req work has waits = record {
    request = waits.request;
    session = waits.session;
    there = waits.there;
    of = waits.of;
    waits = course_waits n host there up req work has waits.request waits.there waits.session.disk waits.request.course refl waits.waits;
  }

  pub waited_for-in_run : WorksAreWaitedFor (log_effects moment.world.log) (good_id_at moment) moment.world.hosts moment.past.attempts
  waited_for-in_run = record {
    opened = λ n host there up req work got.
        waited n host there up req work.work (inl (work, got, refl))
        ((waited-in_run script range events moment is).opened n host there up req work got);
    lined = λ n host there up number place session waiting at got.
        let among : Contains session.inode_queue.waiting waiting = contains_at session.inode_queue.waiting place waiting got in
        let here = subst (λ (o : Option Session). Contains (unwrap_or o new_session).inode_queue.waiting waiting) (sym at) among in
        waited n host there up waiting.req waiting.work (inr (number, here))
        ((waited-in_run script range events moment is).lined n host there up number place session waiting at got);
  }
