-- In each run in range, at each moment on the way of an event: the session of a check may write the check's disk, and has no other request.
-- So an attempt that begins on the disk's own objects is of the check.
use Rattle.std.proofs.Common.{◌≡◌, ◌≢◌, ⊎_elim, ℕ, ◌<◌, Bool, true, false, List, Option, Some, refl, sym, ap, subst, ◌∙◌}
use Rattle.std.specs.FinMap as tree
use Rattle.std.proofs.lemmas.Bool.{cases_eq}
use Rattle.std.proofs.lemmas.Option.{same_Some}
use Rattle.proof_tools.proofs.FiniteMaps.{get-insert_same}
use Rattle.disk_lock.specs.declared.holder.Holder.{Holder}
use Rattle.epoch_log.specs.Epochs.{epoch_of}
use Rattle.object_id.specs.declared.limits.TheConstants.{OBJECTS_MAX}
use Rattle.object_id.specs.Oid.{vid_of, object_number}
use Rattle.object_id.specs.Spec.{objects_of}
use Rattle.cluster_script.specs.declared.statement.Statement.{Statement}
use Rattle.disk_check.specs.Check.{Check}
use Rattle.vdi_directory.specs.Dead.{is_dead}
use Rattle.vdi_directory.specs.Decisions.{log_effects}
use Rattle.guest_driver.specs.declared.disk.Disk.{Disk}
use Rattle.peer_proto.specs.Work.{oid_of}
use Rattle.gateway.specs.State.{Work, Open}
use Rattle.sheep_node.specs.declared.course.Course.TheVariants.{Checking, Commanding}
use Rattle.sheep_node.specs.declared.course.Request.{Request}
use Rattle.sheep_node.specs.Changes.{attempt_in}
use Rattle.sheep_node.specs.May.{is_disk_course}
use Rattle.sheep_node.specs.SessionQueues.{session_among}
use Rattle.sheep_node.proofs.SessionViews.{IsSeen}
use Rattle.sheep_world.specs.NodeCauses.{host_with_node}
use Rattle.sheep_world.specs.World.{Host}
use Rattle.sheep_world.specs.RunsWithAsks.{Move}
use Rattle.overlap_law.specs.AloneEntries.{IsOwnByTable}
use Rattle.overlap_law.specs.Attempts.{AttemptRecord, object_of}
use Rattle.overlap_law.specs.CommandDisks.{opened_as}
use Rattle.overlap_law.specs.Grants.{writer_of}
use Rattle.overlap_law.specs.MomentChanges.{MomentChange, MomentTrail, Then, RunsAreInRange}
use Rattle.overlap_law.specs.Past.{MomentWithPast, run_with_past}
use Rattle.overlap_law.specs.Tables.{IsYetOf, entry_by}
use Rattle.overlap_law.specs.ToCome.{IsEntryToCome, TablesStayTheInodes}
use Rattle.overlap_law.specs.WriterClaims.{HasLock, IsLetGo, IsDiskKept, holder_at}
use Rattle.overlap_law.specs.Writers.{session_holder}
use Rattle.overlap_law.proofs.AllowedCourses.{IsAllowed, opened_by}
use Rattle.overlap_law.proofs.AloneInRuns.{own_alone}
use Rattle.overlap_law.proofs.AnswersInMoments.{not_lost}
use Rattle.overlap_law.proofs.CausedWorks.{HasWellWorks}
use Rattle.overlap_law.proofs.ClaimsInRuns.{claims-in_run}
use Rattle.overlap_law.proofs.EntryWorks.{known_disk}
use Rattle.overlap_law.proofs.GrantedAttempts.{only_writer-in_run}
use Rattle.overlap_law.proofs.GrantsOfCommands.{sound_along}
use Rattle.overlap_law.proofs.KeptIds.{lock-writer}
use Rattle.overlap_law.proofs.KnownDisks.{vid-of_object}
use Rattle.overlap_law.proofs.NewAttempts.{IsOpened}
use Rattle.overlap_law.proofs.NoRecoveredDue.{began-with_past}
use Rattle.overlap_law.proofs.WorksInMoments.{well_along}

module _ (script : List Statement) (range : RunsAreInRange script) (events : List Move) (start moment : MomentWithPast)
    (is : run_with_past script events ≡ Some start) (trail : MomentTrail script start moment) (n : ℕ) (host : Host)
    (at_host : tree.get moment.world.hosts n ≡ Some host) (up : host.is_lost ≡ false) (req : ℕ) (request : Request)
    (there : tree.get host.node.requests req ≡ Some request) (opened : Disk)
    (at : (session_among request.session host.node.sessions).disk ≡ Some opened) (check : Check)
    (course : request.course ≡ Checking check) where
  well : HasWellWorks host.node
  well = well_along script range start (began-with_past script events start is) trail n host at_host

  off : is_disk_course request.course ≡ false
  off = ap is_disk_course course

  -- its disk is a working one
  pub check_working : opened.snapshot ≡ false
  check_working =
      let allowed : IsAllowed (opened_by (session_among request.session host.node.sessions)) request.course
      = subst (IsSeen opened_by IsAllowed host.node.sessions) there (well.allowed req) in
      let so : opened_by (session_among request.session host.node.sessions) ≡ Some (false, check.vid)
      = subst (IsAllowed (opened_by (session_among request.session host.node.sessions))) course allowed in
      let both : Some (opened.snapshot, opened.inode.vid) ≡ Some (false, check.vid) = sym (ap opened_as at) ∙ so in
      ap (λ (pair : Bool × ℕ). pair.0) (same_Some (opened.snapshot, opened.inode.vid) (false, check.vid) both)

  -- another request of the session isn't there
  pub check_alone : (q : ℕ) (other : Request) → tree.get host.node.requests q ≡ Some other → other.session ≡ request.session → req ≡ q
  check_alone q other there_too own =
      sym (well.alone.alone request.session req q other (well.alone.named req request there off) there_too own)

  -- whose lock the session has, since no command of it is there
  pub locked : HasLock moment.world.log host.node.outbox host.node.me request.session (epoch_of host.node.peer.entries) opened.inode.vid
  locked = ⊎_elim
      (λ (lock : HasLock moment.world.log host.node.outbox host.node.me request.session (epoch_of host.node.peer.entries) opened.inode.vid).
      lock)
      (λ (goes : IsLetGo host.node.requests request.session opened.inode.vid).
      let same : req ≡ goes.req = check_alone goes.req goes.request goes.there goes.of in
      let one : request ≡ goes.request
      = same_Some request goes.request (sym there ∙ ap (tree.get host.node.requests) same ∙ goes.there) in
      let both : Checking check ≡ Commanding goes.op = sym course ∙ ap (λ (r : Request). r.course) one ∙ goes.command in
      absurd (cc (both)))
      (subst (λ (b : Bool). IsDiskKept moment.world.log host.node.outbox host.node.peer.entries host.node.me host.node.requests
      request.session b opened.inode) check_working
      (((claims-in_run script range events start moment is trail).each n host at_host up).disks request.session opened at)).1

  pub check_holder : writer_of (log_effects moment.world.log) opened.inode.vid ≡ Some (holder_at host.node.me request.session)
  check_holder =
      lock-writer moment.world.log host.node.outbox host.node.me request.session (epoch_of host.node.peer.entries) opened.inode.vid locked

  -- so the session has the disk yet
  check_yet : IsYetOf (log_effects moment.world.log) n request.session opened
  check_yet working =
      let me : host.node.me.0 ≡ n
      = ((sound_along script range start (began-with_past script events start is) trail).each n host at_host).read.own in
      check_holder ∙ ap (λ (k : ℕ). Some (session_holder k request.session)) me

  -- of the entry of an object that is the disk's own by the table nothing else is to come
  pub check_entries : (good_id : ℕ → Bool)
      → TablesStayTheInodes (log_effects moment.world.log) good_id moment.world.hosts moment.past.attempts
      → good_id opened.inode.vid ≡ true → is_dead (log_effects moment.world.log) opened.inode.vid ≡ false → (index : ℕ)
      → index < objects_of opened.inode.spec → IsOwnByTable opened.inode index → (j : ℕ) (entry : AttemptRecord)
      → IsEntryToCome moment.world.hosts moment.past.attempts opened.inode.vid index j entry → entry_by index entry ≡ opened.inode.vid
  check_entries good_id tables good alive =
      own_alone (log_effects moment.world.log) good_id moment.world.hosts moment.past.attempts tables n host at_host up request.session
      opened at good alive check_yet

-- ---- behind a change

module _ (script : List Statement) (range : RunsAreInRange script) (events : List Move) (start before after : MomentWithPast)
    (is : run_with_past script events ≡ Some start) (trail : MomentTrail script start before)
    (change : MomentChange script start before after) (n : ℕ) (host : Host) (at_host : tree.get after.world.hosts n ≡ Some host)
    (up : host.is_lost ≡ false) (req index : ℕ) (request : Request) (there : tree.get host.node.requests req ≡ Some request)
    (opened : Disk) (at : (session_among request.session host.node.sessions).disk ≡ Some opened) (check : Check)
    (course : request.course ≡ Checking check) (few : index < OBJECTS_MAX) (new : AttemptRecord) (o : IsOpened script start after new)
    (object : object_of new ≡ object_number opened.inode.vid index) where
  abbrev work : Work
  work = record o.asked { stage = Open (attempt_in o.asked o.lined.node) }

  abbrev its : Host
  its = host_with_node o.stepping.host o.next.node

  its_there : tree.get after.world.hosts o.stepping.n ≡ Some (host_with_node o.stepping.host o.next.node)
  its_there =
      ap (λ (m : MomentWithPast). tree.get m.world.hosts o.stepping.n) o.moment_so
      ∙ get-insert_same start.world.hosts o.stepping.n its

  well_then : HasWellWorks host.node
  well_then = well_along script range start (began-with_past script events start is) (Then trail change) n host at_host

  -- at the check's node, for the check
  pub check_begins_there : (host_with_node o.stepping.host o.next.node ≡ host) × (req ≡ o.req)
  check_begins_there =
      let writes = (only_writer-in_run script range events start after is (Then trail change)).each o.stepping.n its its_there
      (not_lost o.stepping.host o.is.up) o.req work o.at_gateway o.making in
      let of_work : oid_of o.asked.work ≡ object_number opened.inode.vid index
      = ap (λ (a : AttemptRecord). object_of a) o.opened ∙ object in
      let vid_so : vid_of (oid_of o.asked.work) ≡ opened.inode.vid
      = ap vid_of of_work
      ∙ vid-of_object opened.inode.vid index (known_disk host.node well_then request.session opened at).disk.id few in
      let writer : session_holder o.stepping.n writes.request.session ≡ holder_at host.node.me request.session
      = same_Some (session_holder o.stepping.n writes.request.session) (holder_at host.node.me request.session)
      (sym writes.may.writer ∙ ap (writer_of (log_effects after.world.log)) vid_so
      ∙ check_holder script range events start after is (Then trail change) n host at_host up req request there opened at check course) in
      let me : host.node.me.0 ≡ n
      = ((sound_along script range start (began-with_past script events start is) (Then trail change)).each n host at_host).read.own in
      let node_so : o.stepping.n ≡ n = ap (λ (h : Holder). h.node.0) writer ∙ me in
      let host_so : its ≡ host
      = same_Some its host (sym its_there ∙ ap (tree.get after.world.hosts) node_so ∙ at_host) in
      let same : req ≡ o.req
      = check_alone script range events start after is (Then trail change) n host at_host up req request there opened at check course o.req
      writes.request (ap (λ (h : Host). tree.get h.node.requests o.req) (sym host_so) ∙ writes.there)
      (ap (λ (h : Holder). h.session) writer) in
      (host_so, same)

  pub check_begins_it : new.req ≡ req
  check_begins_it = ap (λ (a : AttemptRecord). a.req) (sym o.opened) ∙ sym check_begins_there.1
