-- At the end of every event, while a command makes the inode that is to take its open disk's place, or waits for its publication, and has
-- the disk's lock yet: the disk's inode was created, and all that it may come to have is what the new inode's table has.
use Rattle.std.proofs.Common.{◌≡◌, inl, inr, ⊎_elim, ℕ, ◌<◌, Bool, true, false, List, Option, Some, IfSome, slice_index}
use Rattle.std.proofs.Common.{sym, ap, subst, ◌∙◌}
use Rattle.std.specs.FinMap as tree
use Rattle.std.specs.Prelude.{unwrap_or}
use Rattle.std.proofs.lemmas.Option.{same_Some}
use Rattle.object_id.specs.declared.entry.Entry.{Entry}
use Rattle.object_id.specs.declared.entry.VdiSpec.{VdiSpec}
use Rattle.object_id.specs.declared.oid.Vid.{Vid}
use Rattle.object_id.specs.Oid.{inode_number, vid_of}
use Rattle.object_id.specs.Spec.{objects_of}
use Rattle.cluster_script.specs.declared.statement.Statement.{Statement}
use Rattle.disk_lock.specs.declared.holder.Holder.{Holder}
use Rattle.epoch_log.specs.Epochs.{epoch_of}
use Rattle.guest_driver.specs.declared.disk.Disk.{Disk}
use Rattle.inode.specs.Layout.{Content}
use Rattle.peer_proto.specs.Work.{oid_of}
use Rattle.peer_proto.specs.declared.work.ObjWork.{ObjWork}
use Rattle.peer_service.specs.State.{effects_of}
use Rattle.gateway.specs.State.{Work}
use Rattle.vdi_directory.specs.Dead.{is_dead}
use Rattle.vdi_directory.specs.Decisions.{log_effects}
use Rattle.vdi_directory.proofs.DecisionLaws.{held-works}
use Rattle.vdi_ops.specs.Op.{Opening, WritingBack, Tagging, Copying, Making, OpStage, Asked, Working, Publishing, Answered, Op}
use Rattle.sheep_node.specs.declared.course.Course.{Course}
use Rattle.sheep_node.specs.declared.course.Course.TheVariants.{Commanding}
use Rattle.sheep_node.specs.declared.course.Request.{Request}
use Rattle.sheep_node.specs.declared.session.Session.{Session}
use Rattle.sheep_node.specs.May.{is_disk_course}
use Rattle.sheep_node.specs.SessionQueues.{CommandsAreAlone, session_among, command_in}
use Rattle.sheep_node.specs.State.{new_session}
use Rattle.sheep_world.specs.Began.{Began}
use Rattle.sheep_world.specs.World.{Host}
use Rattle.sheep_world.proofs.LogFrontLaws.{all_read}
use Rattle.sheep_world.proofs.NodesByTheLog.{knows_its_number}
use Rattle.sheep_world.specs.RunsWithAsks.{Move}
use Rattle.overlap_law.specs.CommandDisks.{opened_in}
use Rattle.overlap_law.specs.Courses.{IsOfStage, WaitsFor}
use Rattle.overlap_law.specs.Each.{spec_in}
use Rattle.overlap_law.specs.Fates.{IsCreated}
use Rattle.overlap_law.specs.Grants.{writer_of}
use Rattle.overlap_law.specs.MomentChanges.{RunsAreInRange}
use Rattle.overlap_law.specs.MomentChanges as moments
use Rattle.overlap_law.specs.Past.{MomentWithPast, run_with_past}
use Rattle.overlap_law.specs.StayingDrafts.{IsAllToCome}
use Rattle.overlap_law.specs.Tables.{entry_by, IsEntryOpen, writes_entry}
use Rattle.overlap_law.specs.ToCome.{IsEntryToCome, IsBeingEntered, TablesStayTheInodes}
use Rattle.overlap_law.specs.WriterClaims.{HasLock}
use Rattle.overlap_law.specs.Writers.{session_holder}
use Rattle.overlap_law.proofs.FrozenSnapshots.{working_lives}
use Rattle.overlap_law.proofs.GrantedAttempts.{only_writer-in_run}
use Rattle.overlap_law.proofs.GrantedEpochs.{spec_stays}
use Rattle.overlap_law.proofs.KeptIds.{lock-writer}
use Rattle.overlap_law.proofs.KnownDisks.{IsKnownInode, vid-of_inode}
use Rattle.overlap_law.proofs.KnownDisksInRuns.{nodes_know}
use Rattle.overlap_law.proofs.NoRecoveredDue.{began-with_past}
use Rattle.overlap_law.proofs.PlaceTables.{HasTableOf, IsPlaceStage, places_in_run}
use Rattle.overlap_law.proofs.SnapshotInodes.{open_inodes}
use Rattle.overlap_law.proofs.SnapshotsTaken.{opened_there, writes-making, writes-object}
use Rattle.overlap_law.proofs.WaitedInRuns.{waited-in_run}
use Rattle.overlap_law.proofs.WaitedSteps.{no_id}
use Rattle.overlap_law.proofs.WholeInRuns.{sound_world}

module _ (script : List Statement) (range : RunsAreInRange script) (events : List Move) (moment : MomentWithPast)
    (is : run_with_past script events ≡ Some moment) (good_id : ℕ → Bool)
    (tables : TablesStayTheInodes (log_effects moment.world.log) good_id moment.world.hosts moment.past.attempts) (n : ℕ) (host : Host)
    (there : tree.get moment.world.hosts n ≡ Some host) (up : host.is_lost ≡ false) (req : ℕ) (request : Request) (op : Op)
    (got : tree.get host.node.requests req ≡ Some request) (command : request.course ≡ Commanding op) (inode : Content)
    (place : IsPlaceStage inode op.stage) (old : Vid) (opens : opened_in request.session host.node.sessions ≡ Some (false, old.0))
    (lock : HasLock moment.world.log host.node.outbox host.node.me request.session (epoch_of host.node.peer.entries) old.0) where
  began : Began script moment.world
  began = began-with_past script events moment is

  sole : CommandsAreAlone host.node
  sole = ((sound_world script range moment.world began).hosts n host there).node.sole_commands

  named : command_in request.session host.node.sessions ≡ Some req
  named = sole.named req request got (ap is_disk_course command)

  table : HasTableOf (session_among request.session host.node.sessions).disk inode
  table = places_in_run script range events moment moment is moments.Still n host there up req request op inode got command place

  writer : writer_of (log_effects moment.world.log) old.0 ≡ Some (session_holder n request.session)
  writer =
      lock-writer moment.world.log host.node.outbox host.node.me request.session (epoch_of host.node.peer.entries) old.0 lock
      ∙ ap (λ (k : ℕ). Some (session_holder k request.session)) (knows_its_number script moment.world began n host there)

  lives : is_dead (log_effects moment.world.log) old.0 ≡ false
  lives = working_lives (log_effects moment.world.log) old.0 (held-works moment.world.log old.0 _ lock.held)

  module _ (session : Session) (disk : Disk) (in_node : tree.get host.node.sessions request.session ≡ Some session)
      (on : session.disk ≡ Some disk) (same : disk.inode.vid ≡ old.0) where
    opened : (session_among request.session host.node.sessions).disk ≡ Some disk
    opened = ap (λ (o : Option Session). (unwrap_or o new_session).disk) in_node ∙ on

    table_so : disk.inode.table ≡ inode.table
    table_so =
        ap (λ (d : Disk). d.inode.table) (same_Some disk table.disk (sym opened ∙ table.there)) ∙ table.same

    known : IsKnownInode (effects_of host.node.peer) disk.inode
    known =
        subst (λ (o : Option Disk). IfSome o (λ (disk : Disk). IsKnownInode (effects_of host.node.peer) disk.inode)) on
        ((nodes_know script range moment.world began n host there).each_session request.session session in_node).disk

    spec_so : (spec : VdiSpec) → spec_in (log_effects moment.world.log) old.0 ≡ Some spec → disk.inode.spec ≡ spec
    spec_so spec made_with =
        let front = all_read script moment.world began n host there in
        let all : spec_in (log_effects moment.world.log) disk.inode.vid ≡ Some disk.inode.spec
        = ap (λ (log : List Entry). spec_in (log_effects log) disk.inode.vid) front.is
        ∙ spec_stays host.node.peer.entries front.rest disk.inode.vid disk.inode.spec known.disk.made in
        same_Some disk.inode.spec spec (sym all ∙ ap (spec_in (log_effects moment.world.log)) same ∙ made_with)

    -- what the command has to do writes no entry
    never_at : (index : ℕ) (o : Option Disk) (work : ObjWork) (stage : OpStage) → IsPlaceStage inode stage
        → IsOfStage (log_effects moment.world.log) no_id moment.past.attempts o stage work → writes_entry disk.inode.vid index work ≡ true
        → ⊥
    never_at index o work (Asked entry) placed waits writes = absurd waits
    never_at index o work (Working vid (Opening snapshot ids header)) (inl never) waits writes = absurd never
    never_at index o work (Working vid (WritingBack other)) (inl never) waits writes = absurd never
    never_at index o work (Working vid (Tagging before other)) (inl never) waits writes = absurd never
    never_at index o work (Working vid (Copying ids header)) (inl never) waits writes = absurd never
    never_at index o work (Working vid (Making entry made)) (inl own) waits writes =
        let none : writes_entry disk.inode.vid index work ≡ false = ap (writes_entry disk.inode.vid index) waits.work_of in
        absurd (cc (none, writes))
    never_at index o work (Working vid task) (inr never) waits writes = absurd never
    never_at index o work (Publishing entry made) placed waits writes = absurd waits
    never_at index o work (Answered change) placed waits writes = absurd waits

    never : (index : ℕ) (o : Option Disk) (work : ObjWork) (course : Course) → course ≡ Commanding op
        → WaitsFor (log_effects moment.world.log) no_id moment.past.attempts o course work
        → writes_entry disk.inode.vid index work ≡ true → ⊥
    never index o work course course_so waits writes =
        never_at index o work op.stage place
        (subst (λ (c : Course). WaitsFor (log_effects moment.world.log) no_id moment.past.attempts o c work) course_so waits) writes

    none_entered : (index : ℕ) → IsEntryOpen host.node disk.inode.vid index → ⊥
    none_entered index entered =
        let work : Work = entered.work in
        let writes = (only_writer-in_run script range events moment moment is moments.Still).each n host there up entered.req work
        entered.there (writes-making disk.inode.vid index work.work entered.writes) in
        let id : vid_of (oid_of work.work) ≡ old.0
        = ap vid_of (writes-object disk.inode.vid index work.work entered.writes) ∙ vid-of_inode disk.inode.vid known.disk.id ∙ same in
        let holder : session_holder n writes.request.session ≡ session_holder n request.session
        = same_Some (session_holder n writes.request.session) (session_holder n request.session)
        (sym writes.may.writer ∙ ap (writer_of (log_effects moment.world.log)) id ∙ writer) in
        let one : entered.req ≡ req
        = sole.alone request.session req entered.req writes.request named writes.there (ap (λ (h : Holder). h.session) holder) in
        let waits = (waited-in_run script range events moment is).opened n host there up entered.req work entered.there in
        let request_so : waits.request ≡ request
        = same_Some waits.request request (sym waits.there ∙ ap (tree.get host.node.requests) one ∙ got) in
        never index waits.session.disk work.work waits.request.course (ap (λ (r : Request). r.course) request_so ∙ command) waits.waits
        entered.writes

    all_come : (index : ℕ) (spec : VdiSpec) → good_id old.0 ≡ true → spec_in (log_effects moment.world.log) old.0 ≡ Some spec
        → index < objects_of spec
        → IsAllToCome moment.world.hosts moment.past.attempts old.0 index (slice_index inode.table index)
    all_come index spec good made_with within k other comes = ⊎_elim
        (λ (own : entry_by index other ≡ slice_index disk.inode.table index).
        own ∙ ap (λ (t : List ℕ). slice_index t index) table_so)
        (λ (entered : (disk.snapshot ≡ false) × IsBeingEntered n host.node disk.inode.vid index other).
        absurd (none_entered index entered.1.opened))
        (tables.each n host there up request.session index session disk in_node on (ap good_id same ∙ good)
        (ap (is_dead (log_effects moment.world.log)) same ∙ lives)
        (subst (λ (s : VdiSpec). index < objects_of s) (sym (spec_so spec made_with)) within)
        (λ own. ap (writer_of (log_effects moment.world.log)) same ∙ writer) k other
        (subst (λ (v : ℕ). IsEntryToCome moment.world.hosts moment.past.attempts v index k other) (sym same) comes))

    was_created : IsCreated moment.past.attempts (inode_number old.0) host.node.peer.epoch
    was_created =
        subst (λ (v : ℕ). IsCreated moment.past.attempts (inode_number v) host.node.peer.epoch) same
        ((open_inodes script range events moment is).each n host there up request.session session disk in_node on)

  -- the session may write the disk
  pub held_writer : writer_of (log_effects moment.world.log) old.0 ≡ Some (session_holder n request.session)
  held_writer = writer

  pub held_comes : (index : ℕ) (spec : VdiSpec) → good_id old.0 ≡ true → spec_in (log_effects moment.world.log) old.0 ≡ Some spec
      → index < objects_of spec
      → IsCreated moment.past.attempts (inode_number old.0) host.node.peer.epoch
      × IsAllToCome moment.world.hosts moment.past.attempts old.0 index (slice_index inode.table index)
  held_comes index spec good made_with within =
      let (session, disk, in_node, on, working, same) = opened_there host.node.sessions request.session old.0 false opens in (
        was_created session disk in_node on same,
        all_come session disk in_node on same index spec good made_with within,
      )
