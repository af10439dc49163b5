-- In each run in range, at each moment on the way of an event: at an index that a read comes to, which may run, the inode of the open disk
-- may come to have the entry of the session's table. For the inode was created, so it may come to have something there; that is the table's
-- entry, or the own id while another write enters it; and such a write has no index in common with the read.
use Rattle.std.proofs.Common.{◌≡◌, ◌≢◌, inl, ⊎_elim, ℕ, ◌<◌, ◌==◌, Bool, true, false, Contains, List}
use Rattle.std.proofs.Common.{◌∷◌, length, Option, Some, IfSome, slice_index, refl, sym, ap, subst, ◌∙◌}
use Rattle.std.specs.FinMap as tree
use Rattle.std.proofs.lemmas.Bool.{and_from, eq-eqb}
use Rattle.std.proofs.lemmas.List.Elements.{All-head}
use Rattle.std.proofs.lemmas.Option.{same_Some}
use Rattle.disk_lock.specs.declared.holder.Holder.{Holder}
use Rattle.object_id.specs.declared.entry.Entry.{Entry}
use Rattle.object_id.specs.Oid.{inode_number, vid_of}
use Rattle.object_id.specs.Spec.{objects_of}
use Rattle.epoch_log.specs.Epochs.{epoch_of}
use Rattle.cluster_script.specs.declared.statement.Statement.{Statement}
use Rattle.peer_proto.specs.Work.{oid_of}
use Rattle.gateway.specs.State.{Work}
use Rattle.gateway.specs.Work.{is_making}
use Rattle.gateway_queue.specs.declared.queue.Queued.{Queued}
use Rattle.gateway_queue.specs.Queue.{may_run, Covers}
use Rattle.guest_driver.specs.declared.disk.Disk.{Disk}
use Rattle.guest_driver.specs.Driver.{Driver, Writes, Entering}
use Rattle.guest_driver.specs.Pieces.{Piece}
use Rattle.vdi_directory.specs.Dead.{is_dead}
use Rattle.vdi_directory.specs.Decisions.{log_effects}
use Rattle.sheep_node.specs.declared.course.Course.TheVariants.{Driving, Commanding}
use Rattle.sheep_node.specs.declared.course.Request.{Request}
use Rattle.sheep_node.specs.May.{is_disk_course}
use Rattle.sheep_node.specs.SessionQueues.{session_among, queue_in, command_in, is_disk_request_of, IsQueued}
use Rattle.sheep_node.proofs.SessionViews.{IsSeen}
use Rattle.sheep_world.specs.Began.{Began}
use Rattle.sheep_world.specs.World.{Host}
use Rattle.sheep_world.specs.RunsWithAsks.{Move}
use Rattle.overlap_law.specs.Attempts.{AttemptRecord}
use Rattle.overlap_law.specs.Each.{EachAttempt}
use Rattle.overlap_law.specs.Fates.{IsCreated}
use Rattle.overlap_law.specs.Grants.{writer_of, published_in}
use Rattle.overlap_law.specs.LastReads.{was_snapped}
use Rattle.overlap_law.specs.MomentChanges.{MomentTrail, RunsAreInRange, Still, Then}
use Rattle.overlap_law.specs.Past.{MomentWithPast, run_with_past}
use Rattle.overlap_law.specs.Tables.{entry_unit, entry_by, IsEntryOpen}
use Rattle.overlap_law.specs.TiedAttempts.{IsTied}
use Rattle.overlap_law.specs.ToCome.{IsEntryToCome, IsBeingEntered, TablesStayTheInodes}
use Rattle.overlap_law.specs.WriterClaims.{HasLock, IsLetGo, IsDiskKept, HasClaims}
use Rattle.overlap_law.specs.Writers.{session_holder}
use Rattle.overlap_law.proofs.Candidates.{HasMade, candidate_comes, are_candidates}
use Rattle.overlap_law.proofs.CausedWorks.{HasWellWorks}
use Rattle.overlap_law.proofs.ClaimsInRuns.{claims-in_run}
use Rattle.overlap_law.proofs.ClosedSnapshots.{snapped-later}
use Rattle.overlap_law.proofs.CoveredCourses.{size_and_queue, IsCovered}
use Rattle.overlap_law.proofs.CoveredPieces.{CoversPiece}
use Rattle.overlap_law.proofs.CreatedInodes.{created_made}
use Rattle.overlap_law.proofs.CreatesFirst.{session_of}
use Rattle.overlap_law.proofs.DisksOnTheWay.{OpenDisksAreMade, made_in_world, disks_after}
use Rattle.overlap_law.proofs.EntryWorks.{IsEntering, entering, writes-untagged, writes-at}
use Rattle.overlap_law.proofs.GrantedAttempts.{only_writer-in_run}
use Rattle.overlap_law.proofs.GrantsOfCommands.{locked_may}
use Rattle.overlap_law.proofs.KnownDisks.{vid-of_inode}
use Rattle.overlap_law.proofs.LogsReservable.{LogIsReservable, kept_reservable}
use Rattle.overlap_law.proofs.NoRecoveredDue.{began-with_past}
use Rattle.overlap_law.proofs.OpenDisksInRuns.{disks_fit-in_run}
use Rattle.overlap_law.proofs.OpenedInodes.{working_inode}
use Rattle.overlap_law.proofs.PublishedInRuns.{published-on_the_way}
use Rattle.overlap_law.proofs.QueuesInMoments.{HasGoodQueues, HaveGoodQueues, queues_in_world, queues_after}
use Rattle.overlap_law.proofs.ReadInMoments.{HostsAreSound, kept_sound}
use Rattle.overlap_law.proofs.ReadInodesCreated.{snapped_published}
use Rattle.overlap_law.proofs.ReadsInMoments.{IsReadingWell, AreReadingWell, reading_in_world, reading_after}
use Rattle.overlap_law.proofs.RunsByChanges.{on_the_way}
use Rattle.overlap_law.proofs.SessionsApart.{turns_apart}
use Rattle.overlap_law.proofs.SharedTables.{IsSharedDisk}
use Rattle.overlap_law.proofs.SnapshotsTaken.{writes-making, writes-object}
use Rattle.overlap_law.proofs.TiedInRuns.{kept_tied}
use Rattle.overlap_law.proofs.WaitedSteps.{Waits}
use Rattle.overlap_law.proofs.WholeInRuns.{whole-on_the_way}
use Rattle.overlap_law.proofs.WorksInMoments.{well_along}

-- ---- along trails

module _ (script : List Statement) (range : RunsAreInRange script) (start : MomentWithPast) (began : Began script start.world) where
  pub queues_along : {moment : MomentWithPast} → MomentTrail script start moment → HaveGoodQueues moment.world.hosts
  queues_along Still = queues_in_world script range start.world began
  queues_along (Then trail change) = queues_after script range start began change

  pub reading_along : {moment : MomentWithPast} → MomentTrail script start moment → AreReadingWell moment.world.hosts
  reading_along Still = reading_in_world script range start.world began
  reading_along (Then trail change) = reading_after script range start began change

  pub disks_along : {moment : MomentWithPast} → MomentTrail script start moment → OpenDisksAreMade moment.world.log moment.world.hosts
  disks_along Still = made_in_world script range start.world began
  disks_along (Then trail change) = disks_after script range start began change

-- ---- an open disk

module _ (script : List Statement) (range : RunsAreInRange script) (events : List Move) (start : MomentWithPast)
    (ran : run_with_past script events ≡ Some start) (moment : MomentWithPast) (trail : MomentTrail script start moment) (n : ℕ)
    (host : Host) (there : tree.get moment.world.hosts n ≡ Some host) (up : host.is_lost ≡ false) (number : ℕ) (disk : Disk)
    (opened : (session_among number host.node.sessions).disk ≡ Some disk) where
  began : Began script start.world
  began = began-with_past script events start ran

  well : HasWellWorks host.node
  well = well_along script range start began trail n host there

  queues : HasGoodQueues host.node
  queues = queues_along script range start began trail n host there

  reading : IsReadingWell host.node
  reading = reading_along script range start began trail n host there

  claims : HasClaims moment.world.log host.node.outbox host.node.peer.entries (length host.node.peer.entries) host.node.me
      host.node.requests host.node.sessions
  claims = (claims-in_run script range events start moment ran trail).each n host there up

  abbrev Comes : ℕ → ℕ → AttemptRecord → Type 0
  Comes index j entry = IsEntryToCome moment.world.hosts moment.past.attempts disk.inode.vid index j entry

  -- ---- its inode was created

  created : (b : Bool) → disk.snapshot ≡ b → (epoch : ℕ) × IsCreated moment.past.attempts (inode_number disk.inode.vid) epoch
  created true snapshot =
      let read = ((on_the_way script HostsAreSound (kept_sound script range) events start moment ran trail).each n host there).read in
      let shared : IsSharedDisk host.node.peer.entries disk
      = subst (λ (o : Option Disk). IfSome o (IsSharedDisk host.node.peer.entries)) opened (reading.shared.disks number) in
      let front = read.front in
      let snapped : was_snapped moment.world.log disk.inode.vid ≡ true
      = ap (λ (log : List Entry). was_snapped log disk.inode.vid) front.is
      ∙ (snapped-later host.node.peer.entries disk.inode.vid (shared.closed snapshot) front.rest).0 in (
        published_in moment.world.log disk.inode.vid,
        published-on_the_way script range events start moment ran trail disk.inode.vid
            (snapped_published disk.inode.vid moment.world.log snapped),
      )
  created false working =
      let (session, got, on) = session_of host.node number disk opened in (
        host.node.peer.epoch,
        working_inode script range events start moment ran trail n host there up number session disk got on working,
      )

  whole : EachAttempt moment.past.attempts (λ j attempt. length attempt.fates ≡ length attempt.targets)
  whole = (on_the_way script IsTied (kept_tied script range) events start moment ran trail).fates.whole

  made : (index : ℕ) → index < objects_of disk.inode.spec
      → HasMade moment.world.hosts (inode_number disk.inode.vid) (entry_unit index) moment.past.attempts
  made index within =
      let known = (disks_along script range start began trail n host there number disk opened).disk.made in
      let (epoch, is) = created disk.snapshot refl in
      created_made moment.world.log (on_the_way script LogIsReservable (kept_reservable script range) events start moment ran trail).all
      moment.world.hosts moment.past.attempts (whole-on_the_way script range events start moment ran trail) whole disk.inode.vid index epoch
      disk.inode.spec known within is

  -- so it may come to have something at each index
  comes_at : (index : ℕ) → index < objects_of disk.inode.spec → (j : ℕ) × (entry : AttemptRecord) × Comes index j entry
  comes_at index within =
      let (first, rest, is) = are_candidates moment.world.hosts moment.past.attempts whole disk.inode.vid index (made index within) in
      let (j, entry, comes, own) = candidate_comes moment.world.hosts moment.past.attempts whole disk.inode.vid index (first ∷ rest) is 0
      first refl in (
        j,
        entry,
        comes,
      )

  -- ---- a read or write of the session, which enters nothing

  module _ (req : ℕ) (request : Request) (asked : tree.get host.node.requests req ≡ Some request) (of : request.session ≡ number)
      (on_disk : is_disk_course request.course ≡ true) (runs : may_run req (queue_in number host.node.sessions) ≡ true)
      (enters_not : (payload : List ℕ) (piece : Piece) (rest : List Piece)
      → request.course ≡ Driving (Writes payload Entering piece rest) → ⊥) where
    -- no command lets the disk go beside it
    lets_none : (vid : ℕ) → IsLetGo host.node.requests number vid → ⊥
    lets_none vid goes =
        let named : command_in number host.node.sessions ≡ Some goes.req
        = subst (λ (k : ℕ). command_in k host.node.sessions ≡ Some goes.req) goes.of
        (well.alone.named goes.req goes.request goes.there (ap is_disk_course goes.command)) in
        let same : req ≡ goes.req = well.alone.alone number goes.req req request named asked of in
        let one : request ≡ goes.request
        = same_Some request goes.request (sym asked ∙ ap (tree.get host.node.requests) same ∙ goes.there) in
        let course : request.course ≡ Commanding goes.op = ap (λ (r : Request). r.course) one ∙ goes.command in
        let off = ap is_disk_course course in
        cc (off, on_disk)

    -- so the session has the lock of a working one, and is its writer
    pub locked : disk.snapshot ≡ false
        → HasLock moment.world.log host.node.outbox host.node.me number (epoch_of host.node.peer.entries) disk.inode.vid
    locked working = ⊎_elim
        (λ (lock : HasLock moment.world.log host.node.outbox host.node.me number (epoch_of host.node.peer.entries) disk.inode.vid). lock)
        (λ (goes : IsLetGo host.node.requests number disk.inode.vid). absurd (lets_none disk.inode.vid goes))
        (subst (λ (b : Bool). IsDiskKept moment.world.log host.node.outbox host.node.peer.entries host.node.me host.node.requests number b
        disk.inode) working (claims.disks number disk opened)).1

    yet : disk.snapshot ≡ false → writer_of (log_effects moment.world.log) disk.inode.vid ≡ Some (session_holder n number)
    yet working =
        let read = ((on_the_way script HostsAreSound (kept_sound script range) events start moment ran trail).each n host there).read in
        (locked_may moment.world.log n host.node read.own read.epoch_so number disk.inode.vid (locked working)).writer

    -- ---- beside a write that enters an entry

    module _ (index : ℕ) (working : disk.snapshot ≡ false) (entered : IsEntryOpen host.node disk.inode.vid index) where
      abbrev work : Work
      work = entered.work

      making : is_making entered.work.work ≡ true
      making = writes-making disk.inode.vid index entered.work.work entered.writes

      object : oid_of entered.work.work ≡ inode_number disk.inode.vid
      object = writes-object disk.inode.vid index entered.work.work entered.writes

      entering_request : (other : Request) × (tree.get host.node.requests entered.req ≡ Some other) × (other.session ≡ number)
      entering_request =
          let writes = (only_writer-in_run script range events start moment ran trail).each n host there up entered.req entered.work
          entered.there making in
          let id = (disks_along script range start began trail n host there number disk opened).disk.id in
          let same : session_holder n writes.request.session ≡ session_holder n number
          = same_Some (session_holder n writes.request.session) (session_holder n number)
          (sym writes.may.writer
          ∙ ap (writer_of (log_effects moment.world.log)) (ap vid_of object ∙ vid-of_inode disk.inode.vid id) ∙ yet working) in
          (writes.request, writes.there, ap (λ (h : Holder). h.session) same)

      enters : IsEntering disk entering_request.0.course entered.work.work index
      enters =
          entering moment.world.log host.node claims
          ((disks_fit-in_run script range events start moment ran trail).each n host there up) well entered.req entered.work entered.there
          entering_request.0 entering_request.1
          (subst (λ (r : Option Request). IfSome r (λ (r : Request). Waits (session_among r.session host.node.sessions).disk r.course
          entered.work.work)) entering_request.1
          (reading.waited.1 entered.req entered.work.work (inl (entered.work, entered.there, refl)))).0 disk
          (ap (λ (k : ℕ). (session_among k host.node.sessions).disk) entering_request.2 ∙ opened) working making object
          (writes-untagged disk.inode.vid index entered.work.work entered.writes) index
          (writes-at disk.inode.vid index entered.work.work entered.writes disk.inode)

      abbrev driven : Driver
      driven = Writes enters.payload Entering enters.piece enters.rest

      asked_too : tree.get host.node.requests entered.req
          ≡ Some (record { session = number; course = Driving (Writes enters.payload Entering enters.piece enters.rest) })
      asked_too =
          entering_request.1 ∙ (λ i. Some (record { session = entering_request.2 i; course = enters.driving i }))

      apart : req ≢ entered.req
      apart tie =
          let mine : Request = record { session = number; course = Driving driven } in
          let one : request ≡ mine = same_Some request mine (sym asked ∙ ap (tree.get host.node.requests) tie ∙ asked_too) in
          enters_not enters.payload enters.piece enters.rest (ap (λ (r : Request). r.course) one)

      -- what the queue has of the two
      queued : (q : ℕ) (r : Request) → tree.get host.node.requests q ≡ Some r → r.session ≡ number → is_disk_course r.course ≡ true
          → IsQueued q (queue_in number host.node.sessions)
      queued q r found own on =
          queues.queues.has number q
          (ap (is_disk_request_of number) found
          ∙ and_from (r.session == number) (is_disk_course r.course) (eq-eqb r.session number own) on)

      covered : IsCovered entered.req (size_and_queue (session_among number host.node.sessions)) (Driving driven)
      covered = subst (IsSeen size_and_queue (IsCovered entered.req) host.node.sessions) asked_too (queues.covered entered.req)

      -- the read isn't at the same index
      none_entered : ((one : Queued) → Contains (queue_in number host.node.sessions) one → one.req ≡ req → Covers one index) → ⊥
      none_entered covers =
          let mine : Request = record { session = number; course = Driving driven } in
          let first = queued req request asked of on_disk in
          let next = queued entered.req mine asked_too refl refl in
          let differ : first.0.req ≢ next.0.req = λ (tie : first.0.req ≡ next.0.req). apart (sym first.2 ∙ tie ∙ next.2) in
          turns_apart (queue_in number host.node.sessions) first.0 next.0 (queues.once number) first.1 next.1 differ
          (ap (λ (k : ℕ). may_run k (queue_in number host.node.sessions)) first.2 ∙ runs)
          (ap (λ (k : ℕ). may_run k (queue_in number host.node.sessions)) next.2 ∙ covered.0) index (covers first.0 first.1 first.2)
          (subst (Covers next.0) (sym enters.at)
          (All-head (CoversPiece next.0) enters.piece enters.rest (covered.1 next.0 next.1 next.2).0))

    -- ---- what the inode may come to have

    module _ (good_id : ℕ → Bool)
        (tables : TablesStayTheInodes (log_effects moment.world.log) good_id moment.world.hosts moment.past.attempts)
        (good : good_id disk.inode.vid ≡ true) (lives : is_dead (log_effects moment.world.log) disk.inode.vid ≡ false) where
      -- at an index that the read comes to it is the table's entry
      pub table_comes : (index : ℕ) → index < objects_of disk.inode.spec
          → ((one : Queued) → Contains (queue_in number host.node.sessions) one → one.req ≡ req → Covers one index)
          → (j : ℕ) × (entry : AttemptRecord) × IsEntryToCome moment.world.hosts moment.past.attempts disk.inode.vid index j entry
          × (entry_by index entry ≡ slice_index disk.inode.table index)
      table_comes index within covers =
          let (session, got, on) = session_of host.node number disk opened in
          let (j, entry, comes) = comes_at index within in (
            j,
            entry,
            comes,
            ⊎_elim (λ (own : entry_by index entry ≡ slice_index disk.inode.table index). own)
                (λ (entered : (disk.snapshot ≡ false) × IsBeingEntered n host.node disk.inode.vid index entry).
                absurd (none_entered index entered.0 entered.1.opened covers))
                (tables.each n host there up number index session disk got on good lives within yet j entry comes),
          )
