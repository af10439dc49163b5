-- In each run in range, at each moment on the way of an event: a write is on a working disk, and its session may write it, as no command of
-- the session is there.
use Rattle.std.proofs.Common.{◌≡◌, ⊎_elim, ℕ, Bool, true, false, List, ◌∷◌, Option, Some, refl, sym, ap, subst, ◌∙◌}
use Rattle.std.specs.FinMap as tree
use Rattle.std.proofs.lemmas.Option.{same_Some}
use Rattle.epoch_log.specs.Epochs.{epoch_of}
use Rattle.object_id.specs.declared.node.NodeId.{NodeId}
use Rattle.cluster_script.specs.declared.statement.Statement.{Statement}
use Rattle.vdi_directory.specs.Decisions.{log_effects}
use Rattle.guest_driver.specs.declared.disk.Disk.{Disk}
use Rattle.guest_driver.specs.Driver.{Writes, DriverStage}
use Rattle.guest_driver.specs.Pieces.{Piece}
use Rattle.sheep_node.specs.declared.course.Course.TheVariants.{Driving}
use Rattle.sheep_node.specs.declared.course.Request.{Request}
use Rattle.sheep_node.specs.May.{is_disk_course}
use Rattle.sheep_node.specs.SessionQueues.{session_among}
use Rattle.sheep_node.proofs.SessionViews.{IsSeen}
use Rattle.sheep_world.specs.World.{Host}
use Rattle.sheep_world.specs.RunsWithAsks.{Move}
use Rattle.overlap_law.specs.CommandDisks.{opened_as}
use Rattle.overlap_law.specs.Grants.{writer_of}
use Rattle.overlap_law.specs.MomentChanges.{MomentTrail, RunsAreInRange}
use Rattle.overlap_law.specs.Past.{MomentWithPast, run_with_past}
use Rattle.overlap_law.specs.Tables.{IsYetOf}
use Rattle.overlap_law.specs.WriterClaims.{HasLock, IsLetGo, IsDiskKept, holder_at}
use Rattle.overlap_law.specs.Writers.{session_holder}
use Rattle.overlap_law.proofs.AllowedCourses.{IsAllowed, opened_by}
use Rattle.overlap_law.proofs.CausedWorks.{HasWellWorks}
use Rattle.overlap_law.proofs.ClaimsInRuns.{claims-in_run}
use Rattle.overlap_law.proofs.GrantsOfCommands.{sound_along}
use Rattle.overlap_law.proofs.KeptIds.{lock-writer}
use Rattle.overlap_law.proofs.NoRecoveredDue.{began-with_past}
use Rattle.overlap_law.proofs.WorksInMoments.{well_along}

module _ (script : List Statement) (range : RunsAreInRange script) (events : List Move) (start moment : MomentWithPast)
    (is : run_with_past script events ≡ Some start) (trail : MomentTrail script start moment) (n : ℕ) (host : Host)
    (at_host : tree.get moment.world.hosts n ≡ Some host) (up : host.is_lost ≡ false) (req : ℕ) (request : Request)
    (there : tree.get host.node.requests req ≡ Some request) (opened : Disk)
    (at : (session_among request.session host.node.sessions).disk ≡ Some opened) (payload : List ℕ) (stage : DriverStage) (piece : Piece)
    (rest : List Piece) (course : request.course ≡ Driving (Writes payload stage piece rest)) where
  well : HasWellWorks host.node
  well = well_along script range start (began-with_past script events start is) trail n host at_host

  -- its disk is a working one
  pub write_working : opened.snapshot ≡ false
  write_working =
      let allowed : IsAllowed (opened_by (session_among request.session host.node.sessions)) request.course
      = subst (IsSeen opened_by IsAllowed host.node.sessions) there (well.allowed req) in
      let (vid, so) = subst (IsAllowed (opened_by (session_among request.session host.node.sessions))) course allowed in
      let both : Some (opened.snapshot, opened.inode.vid) ≡ Some (false, vid) = sym (ap opened_as at) ∙ so in
      ap (λ (pair : Bool × ℕ). pair.0) (same_Some (opened.snapshot, opened.inode.vid) (false, vid) both)

  -- whose lock the session has, since no command of it is there
  pub locked : HasLock moment.world.log host.node.outbox host.node.me request.session (epoch_of host.node.peer.entries) opened.inode.vid
  locked = ⊎_elim
      (λ (lock : HasLock moment.world.log host.node.outbox host.node.me request.session (epoch_of host.node.peer.entries) opened.inode.vid).
      lock)
      (λ (goes : IsLetGo host.node.requests request.session opened.inode.vid).
      let off : is_disk_course goes.request.course ≡ false = ap is_disk_course goes.command in
      let same : req ≡ goes.req
      = well.alone.alone goes.request.session goes.req req request (well.alone.named goes.req goes.request goes.there off) there
      (sym goes.of) in
      let one : request ≡ goes.request
      = same_Some request goes.request (sym there ∙ ap (tree.get host.node.requests) same ∙ goes.there) in
      let driven : true ≡ false = sym (ap is_disk_course course) ∙ ap (λ (r : Request). is_disk_course r.course) one ∙ off in
      absurd (cc (driven)))
      (subst (λ (b : Bool). IsDiskKept moment.world.log host.node.outbox host.node.peer.entries host.node.me host.node.requests
      request.session b opened.inode) write_working
      (((claims-in_run script range events start moment is trail).each n host at_host up).disks request.session opened at)).1

  pub write_holder : writer_of (log_effects moment.world.log) opened.inode.vid ≡ Some (holder_at host.node.me request.session)
  write_holder =
      lock-writer moment.world.log host.node.outbox host.node.me request.session (epoch_of host.node.peer.entries) opened.inode.vid locked

  -- so the session has the disk yet
  pub write_yet : IsYetOf (log_effects moment.world.log) n request.session opened
  write_yet working =
      let me : host.node.me.0 ≡ n
      = ((sound_along script range start (began-with_past script events start is) trail).each n host at_host).read.own in
      write_holder ∙ ap (λ (k : ℕ). Some (session_holder k request.session)) me
