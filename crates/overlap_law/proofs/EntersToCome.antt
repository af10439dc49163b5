-- An attempt that begins on the inode of a disk that is there enters the disk's own id, or what the inode might come to have, if what
-- commands write does: a write enters the own id, and the inode of an id is created before its disk is there.
use Rattle.std.proofs.Common.{◌≡◌, inl, ⊎_elim, arith, ℕ, ◌≤◌, Bool, true, false, All, List, [], length, slice_get, Option, Some, refl, sym}
use Rattle.std.proofs.Common.{ap, subst, ◌∙◌}
use Rattle.std.specs.FinMap as tree
use Rattle.std.proofs.lemmas.List.Elements.{All-head}
use Rattle.std.proofs.lemmas.Option.{same_Some, slice_get_within}
use Rattle.object_id.specs.declared.entry.Entry.{Entry}
use Rattle.object_id.specs.declared.limits.TheConstants.{OBJECTS_MAX}
use Rattle.object_id.specs.declared.oid.Vid.{Vid}
use Rattle.object_id.specs.Oid.{IsVid, inode_number, object_number}
use Rattle.epoch_log.specs.Appending.{IsReservable}
use Rattle.epoch_log.specs.Epochs.{epoch_of}
use Rattle.inode.specs.Layout.{Content}
use Rattle.cluster_script.specs.declared.statement.Statement.{Statement}
use Rattle.vdi_directory.specs.Decisions.{log_effects}
use Rattle.peer_proto.specs.declared.work.ObjWork.{ObjWork}
use Rattle.peer_proto.specs.Work.{oid_of}
use Rattle.gateway.specs.State.{Open, Work}
use Rattle.gateway.specs.Work.{is_making}
use Rattle.guest_driver.specs.declared.act.DriverAct.TheVariants as driver_acts
use Rattle.guest_driver.specs.declared.disk.Disk.{Disk}
use Rattle.guest_driver.specs.Course.{IsAwaitedByDriver}
use Rattle.guest_driver.specs.OnDisk.{pieces_left}
use Rattle.guest_driver.specs.Driver as drivers
use Rattle.guest_driver.specs.Driver.{Driver, Reads, Writes, InPlace, Fetching, Creating, Entering}
use Rattle.guest_driver.specs.PieceWorks.{entry_of, read_piece, read_object, write_piece, write_entry}
use Rattle.vdi_ops.specs.InodeWorks.{read_inode}
use Rattle.vdi_ops.specs.Op as ops
use Rattle.vdi_ops.specs.Op.{Task, Opening, WritingBack, Tagging, Copying, Making, OpStage, Asked, Working, Publishing, Op}
use Rattle.disk_check.specs.Check.{Check, CheckStage, Comparing}
use Rattle.disk_check.specs.Check as checks
use Rattle.sheep_node.specs.declared.course.Course.{Course}
use Rattle.sheep_node.specs.declared.course.Course.TheVariants.{Waiting, Driving, Commanding, Checking, DoingWork, AwaitingDecision}
use Rattle.sheep_node.specs.Changes.{attempt_in}
use Rattle.sheep_node.specs.SessionQueues.{session_among}
use Rattle.sheep_world.specs.World.{Host}
use Rattle.sheep_world.specs.Began.{Began}
use Rattle.sheep_world.specs.RunsWithAsks.{Move}
use Rattle.overlap_law.specs.Attempts.{AttemptRecord, object_of}
use Rattle.overlap_law.specs.CommandDisks.{opened_in}
use Rattle.overlap_law.specs.Courses.{IsOfTask, IsOfStage, IsOfCheckStage}
use Rattle.overlap_law.specs.KeptHistory.{CommandsWriteWhatMayCome, EntersAs}
use Rattle.overlap_law.specs.MomentChanges.{MomentChange, MomentTrail, Then, RunsAreInRange}
use Rattle.overlap_law.specs.NamedWorks.{HasEntry}
use Rattle.overlap_law.specs.Past.{MomentWithPast, run_with_past}
use Rattle.overlap_law.specs.StayingBlocks.{HasEntryOf, EntersWhatMayCome}
use Rattle.overlap_law.specs.Tables.{entry_unit}
use Rattle.overlap_law.specs.ToDo.{entry_made}
use Rattle.overlap_law.specs.Units.{covers_unit}
use Rattle.overlap_law.specs.WriterClaims.{HasReservation, IsMakingKept, IsStageKept}
use Rattle.overlap_law.proofs.AttemptLists.{got_last}
use Rattle.overlap_law.proofs.ClaimsInRuns.{claims-in_run}
use Rattle.overlap_law.proofs.CreatesFirst.{inside}
use Rattle.overlap_law.proofs.DataOfDisks.{reserved_unpublished}
use Rattle.overlap_law.proofs.DriverEntries.{entry_at, no_inode}
use Rattle.overlap_law.proofs.EntryWrites.{entry_own}
use Rattle.overlap_law.proofs.KnownDisks.{FewAt, IsKnownCourse}
use Rattle.overlap_law.proofs.LiveIds.{few_objects}
use Rattle.overlap_law.proofs.LogsReservable.{LogIsReservable, kept_reservable}
use Rattle.overlap_law.proofs.NamedEntries.{now, opened_there, opened_up}
use Rattle.overlap_law.proofs.NewAttempts.{IsOpened, WasAttempt, come_from}
use Rattle.overlap_law.proofs.NoRecoveredDue.{began-with_past}
use Rattle.overlap_law.proofs.OtherWorks.{HasNone}
use Rattle.overlap_law.proofs.PublishedInodes.{was_published}
use Rattle.overlap_law.proofs.RunsByChanges.{on_the_way}
use Rattle.overlap_law.proofs.ShortTags.{short_in_run}
use Rattle.overlap_law.proofs.WaitedSteps.{no_id, Waits}
use Rattle.overlap_law.proofs.WorksInMoments.{well_after}
use Rattle.overlap_law.proofs.WorksOnTheWay.{IsOpenFor, works_after}
use Rattle.overlap_law.proofs.WriteObjects.{known_open, own_there}
use Rattle.overlap_law.proofs.MakingEntries.{making_reserved}
use Rattle.overlap_law.proofs.AllowedCourses.{opened_by, IsAllowed}
use Rattle.sheep_node.proofs.SessionViews.{IsSeen}

-- what a read or write enters is the disk's own id
driver_enters : (inode : Content) (driver : Driver) (work : ObjWork) → IsVid inode.vid → All FewAt (pieces_left driver)
    → IsAwaitedByDriver inode driver (driver_acts.Work work) → (vid index : ℕ) → HasEntry work vid index → entry_made index work ≡ vid
driver_enters inode (Reads told piece rest) work id few is vid index has =
    let same : work ≡ read_piece inode piece (entry_of inode piece) = cc (is) in
    let covered = (subst (λ (w : ObjWork). HasEntry w vid index) same has).covered in absurd (cc (covered))
driver_enters inode (Writes payload InPlace piece rest) work id few is vid index has =
    let same : work ≡ write_piece inode payload piece = cc (is) in
    no_inode inode.vid piece.index vid id (All-head FewAt piece rest few) (sym (ap oid_of same) ∙ has.object)
driver_enters inode (Writes payload Fetching piece rest) work id few is vid index has =
    let same : work ≡ read_object inode piece (entry_of inode piece) = cc (is) in
    let covered = (subst (λ (w : ObjWork). HasEntry w vid index) same has).covered in absurd (cc (covered))
driver_enters inode (Writes payload Creating piece rest) work id few (offset, bytes, is) vid index has =
    let same : oid_of work ≡ object_number inode.vid piece.index = cc (is) in
    no_inode inode.vid piece.index vid id (All-head FewAt piece rest few) (sym same ∙ has.object)
driver_enters inode (Writes payload Entering piece rest) work id few is vid index has =
    let same : work ≡ write_entry inode piece = cc (is) in
    let here = entry_at inode piece id vid index (subst (λ (w : ObjWork). HasEntry w vid index) same has) in
    ap (entry_made index) same ∙ ap (λ (k : ℕ). entry_made k (write_entry inode piece)) here.1 ∙ entry_own inode piece id ∙ sym here.0
driver_enters inode drivers.Answered work id few (reply, is) vid index has = absurd (cc (is))

-- a check has no entry
check_none : (disk : Disk) (check : Check) (stage : CheckStage) (work : ObjWork) → IsOfCheckStage disk check stage work
    → check.vid ≡ disk.inode.vid → IsVid disk.inode.vid → length disk.inode.table ≤ OBJECTS_MAX → HasNone work
check_none disk check (Comparing index later) work is same id count vid at has =
    let covered = (subst (λ (w : ObjWork). HasEntry w vid at) is has).covered in cc (covered)
check_none disk check (checks.WritingBack later) work is same id count vid at has =
    let own = own_there disk.inode is.before later is.index is.own in
    let within = inside disk.inode.table is.index disk.inode.vid own id.0 in
    no_inode check.vid is.index vid (subst IsVid (sym same) id) (omega (arith, within, count)) (sym (ap oid_of is.work_of) ∙ has.object)
check_none disk check checks.Answered work is same id count vid at has = is

module _ (script : List Statement) (range : RunsAreInRange script) (events : List Move) (start before after : MomentWithPast)
    (is_run : run_with_past script events ≡ Some start) (trail : MomentTrail script start before)
    (change : MomentChange script start before after) (good_id : ℕ → Bool) (commands : CommandsWriteWhatMayCome good_id before after) where
  began : Began script start.world
  began = began-with_past script events start is_run

  reservable : All IsReservable after.world.log
  reservable = (on_the_way script LogIsReservable (kept_reservable script range) events start after is_run (Then trail change)).all

  abbrev Enters : ℕ → ℕ → ObjWork → Type 0
  Enters vid index work = EntersAs before.world.hosts before.past.attempts vid index (entry_made index work)

  module _ (n : ℕ) (host : Host) (there : tree.get after.world.hosts n ≡ Some host) (up : host.is_lost ≡ false) (req : ℕ) (work : Work)
      (got : tree.get host.node.gateway.works req ≡ Some work) (making : is_making work.work ≡ true) (vid index : ℕ)
      (has : HasEntry work.work vid index) (published : was_published after.world.log vid ≡ true)
      (of : HasEntryOf (log_effects after.world.log) good_id vid index) where
    -- an inode is created of an id that no disk has yet
    module _ (session : ℕ) (id : Vid) (same : vid ≡ id.0) where
      not_reserved : HasReservation after.world.log host.node.outbox host.node.me session (epoch_of host.node.peer.entries) id.0 → ⊥
      not_reserved kept =
          reserved_unpublished after.world.log id.0 kept.reservation kept.found
          (ap (was_published after.world.log) (sym same) ∙ published)

      making_none : (from : ℕ) (opened : Option (Bool × ℕ)) (entry : Entry) (made : Option Content)
          → IsMakingKept after.world.log host.node.outbox host.node.peer.entries from host.node.me session opened id entry made → ⊥
      making_none from opened entry made kept =
          not_reserved
          (making_reserved after.world.log host.node.outbox host.node.peer.entries from host.node.me session opened id entry made kept)

    so : IsOpenFor script host.node req work.work
    so = works_after script range start began change n host there req work got

    reads_none : (what : ObjWork) → work.work ≡ what → is_making what ≡ false → Enters vid index work.work
    reads_none what same reads = let none = ap is_making same ∙ reads in absurd (cc (none, making))

    -- a command
    command_enters : (op : Op) → so.request.course ≡ Commanding op → (stage : OpStage) → op.stage ≡ stage
        → IsOfStage [] no_id [] (session_among so.request.session host.node.sessions).disk stage work.work → Enters vid index work.work
    command_enters op course (Asked entry) at is = absurd is
    command_enters op course (Working id task) at is = by_task task refl is
      where
        by_task : (now : Task) → task ≡ now
            → IsOfTask [] no_id [] (session_among so.request.session host.node.sessions).disk id now work.work → Enters vid index work.work
        by_task (Opening snapshot ids header) tasks is = reads_none (read_inode id.0 header.spec) is refl
        by_task (WritingBack inode) tasks is =
            commands.each n host there up req vid index so.request op id inode work so.there course (at ∙ ap (Working id) tasks) got is
            has of
        by_task (Tagging old inode) tasks is =
            absurd (short_in_run script range events start after is_run (Then trail change) n host there req work.work
            (inl (work, got, refl)) is.disk.inode is.tag is.work_of vid index has)
        by_task (Copying ids header) tasks is = reads_none (read_inode is.vid.0 header.spec) is.work_of refl
        by_task (Making entry made) tasks is =
            let object : inode_number is.inode.vid ≡ inode_number vid = sym (ap oid_of is.work_of) ∙ has.object in
            let own = is.own in
            let same : vid ≡ id.0 = omega (arith, object, own) in
            let claims = (claims-in_run script range events start after is_run (Then trail change)).each n host there up in
            absurd (making_none so.request.session id same (length host.node.peer.entries)
            (opened_in so.request.session host.node.sessions) entry made
            (subst (IsStageKept after.world.log host.node.outbox host.node.peer.entries (length host.node.peer.entries) host.node.me
            so.request.session (opened_in so.request.session host.node.sessions))
            (at ∙ ap (Working id) tasks) (claims.commands req so.request op so.there course)))
    command_enters op course (Publishing entry made) at is = absurd is
    command_enters op course (ops.Answered change) at is = absurd is

    work_enters : Enters vid index work.work
    work_enters = by_course so.request.course refl so.waits
      where
        by_course : (course : Course) → so.request.course ≡ course
            → Waits (session_among so.request.session host.node.sessions).disk course work.work
            → Enters vid index work.work
        by_course (Waiting ask) same waits = absurd waits.0
        by_course (Driving driver) same (is, own) =
            let well = well_after script range start began change n host there in
            let knows = known_open well.known host.node well.on_known so.request.session is.disk is.there in
            let few = subst (IsKnownCourse well.known) same (well.on_known.courses req so.request so.there) in
            inl (driver_enters is.disk.inode driver work.work knows.disk.id few is.awaited vid index has)
        by_course (Commanding op) same waits = command_enters op same op.stage refl waits.0
        by_course (Checking check) same (is, (disk, opened, own)) =
            let well = well_after script range start began change n host there in
            let knows = known_open well.known host.node well.on_known so.request.session is.disk is.there in
            let here : is.disk ≡ disk = same_Some is.disk disk (sym is.there ∙ opened) in
            absurd (check_none is.disk check check.stage work.work is.is (own ∙ ap (λ (d : Disk). d.inode.vid) (sym here)) knows.disk.id
            knows.count vid index has)
        by_course (DoingWork asked) same waits =
            let allowed : IsAllowed (opened_by (session_among so.request.session host.node.sessions)) so.request.course
            = subst (IsSeen opened_by IsAllowed host.node.sessions) so.there
            ((well_after script range start began change n host there).allowed req) in
            reads_none asked waits.0 (subst (IsAllowed (opened_by (session_among so.request.session host.node.sessions))) same allowed)
        by_course (AwaitingDecision entry) same waits = absurd waits.0

  -- an attempt that begins is one of these works
  pub enters_to_come : EntersWhatMayCome good_id before after
  enters_to_come = record {
    enters = λ attempt grown vid index published of object covers. ⊎_elim
        (λ (w : WasAttempt before (length before.past.attempts) attempt).
        let within = slice_get_within before.past.attempts (length before.past.attempts) w.was w.at in absurd (omega (arith, within)))
        (λ (o : IsOpened script start after attempt).
        let same : o.asked.work ≡ attempt.work = ap (λ (a : AttemptRecord). a.work) o.opened in
        subst (λ (w : ObjWork). Enters vid index w) same
        (work_enters o.stepping.n (now script start after attempt o) (opened_there script start after attempt o)
        (opened_up script start after attempt o) o.req (record o.asked { stage = Open (attempt_in o.asked o.lined.node) }) o.at_gateway
        o.making vid index
        (record {
          object = ap (λ (a : AttemptRecord). object_of a) o.opened ∙ object;
          inside = few_objects after.world.log reservable vid index of.spec of.made_with of.object;
          covered = ap (λ (a : AttemptRecord). covers_unit (entry_unit index) a) o.opened ∙ covers;
        }) published of))
        (come_from script range start began change (length before.past.attempts) attempt
        (ap (λ (list : List AttemptRecord). slice_get list (length before.past.attempts)) grown ∙ got_last before.past.attempts attempt));
  }
