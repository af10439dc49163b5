-- In every run in range: an attempt that begins on the inode of an open working disk, and covers an entry of its table, is of the request
-- that writes this entry; on the inode of an open snapshot none begins.
use Rattle.std.proofs.Common.{◌≡◌, ℕ, ◌<◌, Bool, true, false, List, Some, Option, IfSome, refl, sym, ap, subst, ◌∙◌, inl}
use Rattle.std.specs.FinMap as tree
use Rattle.std.proofs.lemmas.Option.{same_Some}
use Rattle.object_id.specs.Oid.{IsVid, inode_number, vid_of}
use Rattle.object_id.specs.declared.limits.TheConstants.{OBJECTS_MAX}
use Rattle.disk_lock.specs.declared.holder.Holder.{Holder}
use Rattle.cluster_script.specs.declared.statement.Statement.{Statement}
use Rattle.peer_proto.specs.Work.{oid_of}
use Rattle.peer_proto.specs.declared.work.ObjWork.{ObjWork}
use Rattle.gateway.specs.State.{Open, Work}
use Rattle.guest_driver.specs.declared.disk.Disk.{Disk}
use Rattle.guest_driver.specs.PieceWorks.{write_entry}
use Rattle.vdi_directory.specs.Decisions.{log_effects}
use Rattle.sheep_node.specs.Changes.{attempt_in}
use Rattle.sheep_node.specs.declared.course.Request.{Request}
use Rattle.sheep_node.specs.SessionQueues.{session_among}
use Rattle.sheep_world.specs.NodeCauses.{host_with_node}
use Rattle.sheep_world.specs.World.{Host}
use Rattle.sheep_world.specs.RunsWithAsks.{Move}
use Rattle.overlap_law.specs.Attempts.{AttemptRecord, object_of}
use Rattle.overlap_law.specs.Grants.{writer_of}
use Rattle.overlap_law.specs.MomentChanges.{MomentTrail, RunsAreInRange}
use Rattle.overlap_law.specs.NamedWorks.{HasEntry}
use Rattle.overlap_law.specs.Past.{MomentWithPast, run_with_past}
use Rattle.overlap_law.specs.Tables.{entry_unit, entry_by, writes_entry}
use Rattle.overlap_law.specs.ToCome.{IsEntryToCome, IsBeingEntered}
use Rattle.overlap_law.specs.ToDo.{entry_made}
use Rattle.overlap_law.specs.Words.{covers_unit}
use Rattle.overlap_law.specs.WriterClaims.{IsDiskKept}
use Rattle.overlap_law.specs.Writers.{session_holder}
use Rattle.overlap_law.proofs.CausedWorks.{HasWellWorks}
use Rattle.overlap_law.proofs.ClaimsInRuns.{claims-in_run}
use Rattle.overlap_law.proofs.ClosedSnapshots.{given-no_writer}
use Rattle.overlap_law.proofs.EntryWorks.{IsEntering, entering, known_disk, writes-so}
use Rattle.overlap_law.proofs.EntryWrites.{entry_own}
use Rattle.overlap_law.proofs.GrantedAttempts.{only_writer-in_run}
use Rattle.overlap_law.proofs.KnownDisks.{vid-of_inode}
use Rattle.overlap_law.proofs.NamedEntries.{opened_there, opened_up}
use Rattle.overlap_law.proofs.NewAttempts.{IsOpened}
use Rattle.overlap_law.proofs.NoRecoveredDue.{began-with_past}
use Rattle.overlap_law.proofs.OpenDisksInRuns.{disks_fit-in_run}
use Rattle.overlap_law.proofs.ReadInMoments.{HostsAreSound, kept_sound}
use Rattle.overlap_law.proofs.RunsByChanges.{on_the_way}
use Rattle.overlap_law.proofs.ShortTags.{short_in_run}
use Rattle.overlap_law.proofs.WaitedSteps.{Waits}
use Rattle.overlap_law.proofs.WorksAtCourses.{HaveAt}
use Rattle.overlap_law.proofs.WorksInMoments.{well_along}
use Rattle.overlap_law.proofs.DriverEntries.{entry_at}

module _ (script : List Statement) (range : RunsAreInRange script) (events : List Move) (start : MomentWithPast)
    (ran : run_with_past script events ≡ Some start) (moment : MomentWithPast) (trail : MomentTrail script start moment)
    (n : ℕ) (host : Host) (there : tree.get moment.world.hosts n ≡ Some host) (up : host.is_lost ≡ false)
    (waits : HaveAt Waits host.node.gateway.works host.node.requests host.node.sessions) (number : ℕ) (disk : Disk)
    (opened : (session_among number host.node.sessions).disk ≡ Some disk) (index : ℕ) (few : index < OBJECTS_MAX) (j : ℕ)
    (attempt : AttemptRecord)
    (comes : IsEntryToCome moment.world.hosts moment.past.attempts disk.inode.vid index j attempt)
    (o : IsOpened script start moment attempt) where
  well : HasWellWorks host.node
  well = well_along script range start (began-with_past script events start ran) trail n host there

  id : IsVid disk.inode.vid
  id = (known_disk host.node well number disk opened).disk.id

  abbrev other : Host
  other = host_with_node o.stepping.host o.next.node

  abbrev work : Work
  work = record o.asked { stage = Open (attempt_in o.asked o.lined.node) }

  object : oid_of o.asked.work ≡ inode_number disk.inode.vid
  object = ap (λ (a : AttemptRecord). object_of a) o.opened ∙ comes.object

  writer_so : (request : Request) × (tree.get (host_with_node o.stepping.host o.next.node).node.requests o.req ≡ Some request)
      × (writer_of (log_effects moment.world.log) disk.inode.vid ≡ Some (session_holder o.stepping.n request.session))
  writer_so =
      let writes = (only_writer-in_run script range events start moment ran trail).each o.stepping.n other
      (opened_there script start moment attempt o) (opened_up script start moment attempt o) o.req work o.at_gateway o.making in (
        writes.request,
        writes.there,
        ap (writer_of (log_effects moment.world.log)) (sym (ap vid_of object ∙ vid-of_inode disk.inode.vid id)) ∙ writes.may.writer,
      )

  -- none on a snapshot's
  pub none_on_snapshot : disk.snapshot ≡ true → ⊥
  none_on_snapshot snapshot =
      given-no_writer moment.world.log disk.inode.vid (session_holder o.stepping.n writer_so.0.session)
      (subst (λ (b : Bool). IsDiskKept moment.world.log host.node.outbox host.node.peer.entries host.node.me host.node.requests number b
      disk.inode) snapshot
      (((claims-in_run script range events start moment ran trail).each n host there up).disks number disk opened)) writer_so.2

  module _ (working : disk.snapshot ≡ false)
      (yet : writer_of (log_effects moment.world.log) disk.inode.vid ≡ Some (session_holder n number)) where
    abbrev request : Request
    request = writer_so.0

    same_holder : session_holder o.stepping.n writer_so.0.session ≡ session_holder n number
    same_holder =
        same_Some (session_holder o.stepping.n writer_so.0.session) (session_holder n number) (sym writer_so.2 ∙ yet)

    same_n : o.stepping.n ≡ n
    same_n = ap (λ (h : Holder). h.node.0) same_holder

    same_number : writer_so.0.session ≡ number
    same_number = ap (λ (h : Holder). h.session) same_holder

    same_host : host_with_node o.stepping.host o.next.node ≡ host
    same_host =
        same_Some other host
        (sym (opened_there script start moment attempt o) ∙ ap (tree.get moment.world.hosts) same_n ∙ there)

    got : tree.get host.node.gateway.works o.req ≡ Some (record o.asked { stage = Open (attempt_in o.asked o.lined.node) })
    got = ap (λ (h : Host). tree.get h.node.gateway.works o.req) (sym same_host) ∙ o.at_gateway

    asked : tree.get host.node.requests o.req ≡ Some writer_so.0
    asked = ap (λ (h : Host). tree.get h.node.requests o.req) (sym same_host) ∙ writer_so.1

    opened_by : (session_among writer_so.0.session host.node.sessions).disk ≡ Some disk
    opened_by = ap (λ (k : ℕ). (session_among k host.node.sessions).disk) same_number ∙ opened

    has : HasEntry o.asked.work disk.inode.vid index
    has = record {
      object = object;
      inside = few;
      covered = ap (λ (a : AttemptRecord). covers_unit (entry_unit index) a) o.opened ∙ comes.covers;
    }

    enters : IsEntering disk writer_so.0.course o.asked.work index
    enters =
        entering moment.world.log host.node ((claims-in_run script range events start moment ran trail).each n host there up)
        ((disks_fit-in_run script range events start moment ran trail).each n host there up) well o.req work got writer_so.0 asked
        (subst (λ (r : Option Request). IfSome r (λ (r : Request). Waits (session_among r.session host.node.sessions).disk r.course
        o.asked.work)) asked (waits o.req o.asked.work (inl (work, got, refl)))).0
        disk opened_by working o.making object
        (λ inode tag same.
        short_in_run script range events start moment ran trail n host there o.req o.asked.work (inl (work, got, refl)) inode tag same
        disk.inode.vid index has)
        index
        (λ piece same.
        (entry_at disk.inode piece id disk.inode.vid index
        (subst (λ (w : ObjWork). HasEntry w disk.inode.vid index) same has)).1)

    pub entered_now : IsBeingEntered n host.node disk.inode.vid index attempt
    entered_now = record {
      opened = record {
        req = o.req;
        work = work;
        there = got;
        writes = ap (writes_entry disk.inode.vid index) enters.writes
            ∙ ap (λ (k : ℕ). writes_entry disk.inode.vid k (write_entry disk.inode enters.piece)) enters.at
            ∙ writes-so disk.inode enters.piece;
      };
      gateway = ap (λ (a : AttemptRecord). a.gateway.0) (sym o.opened) ∙ ap (λ m. m.0) (sym o.me_so)
          ∙ ap (λ (h : Host). h.node.me.0) same_host
          ∙ ((on_the_way script HostsAreSound (kept_sound script range) events start moment ran trail).each n host there).read.own;
      of = ap (λ (a : AttemptRecord). a.req) (sym o.opened);
      own = ap (λ (a : AttemptRecord). entry_by index a) (sym o.opened) ∙ ap (entry_made index) enters.writes
          ∙ ap (λ (k : ℕ). entry_made k (write_entry disk.inode enters.piece)) enters.at
          ∙ entry_own disk.inode enters.piece id;
    }
