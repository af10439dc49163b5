-- Each open read of a session is on an id that the session may write, or on a disk that became a snapshot by what the node has read: for
-- a read or write reads what an entry of the open disk's table names, a check its own disk, and a command what it was granted or what
-- that is made from.
use Rattle.std.proofs.Common.{◌≡◌, ◌⊎◌, inl, inr, ⊎_elim, arith, ℕ, zero, suc, ◌<◌, Bool, true, false, List, [], ◌∷◌, All, length, Option}
use Rattle.std.proofs.Common.{Some, None, IfSome, unwrap_or, refl, sym, ap, subst, ◌∙◌}
use Rattle.std.specs.FinMap as tree
use Rattle.std.specs.List.{slice_index}
use Rattle.std.proofs.lemmas.List.Elements.{All-head, All-tail}
use Rattle.object_id.specs.declared.entry.Entry.{Entry}
use Rattle.object_id.specs.declared.limits.TheConstants.{OBJECTS_MAX}
use Rattle.object_id.specs.declared.oid.Vid.{Vid}
use Rattle.object_id.specs.Oid.{IsOid, vid_of, inode_number, object_number}
use Rattle.epoch_log.specs.Epochs.{epoch_of}
use Rattle.inode.specs.Layout.{IsEntry}
use Rattle.peer_proto.specs.declared.work.ObjWork.{ObjWork}
use Rattle.peer_proto.specs.declared.work.ObjWork.TheVariants as works
use Rattle.peer_proto.specs.Work.{oid_of}
use Rattle.vdi_directory.specs.Decisions.{log_effects}
use Rattle.gateway.specs.Work.{is_making}
use Rattle.gateway.specs.State.{Work}
use Rattle.guest_driver.specs.declared.act.DriverAct.TheVariants as acts
use Rattle.guest_driver.specs.declared.disk.Disk.{Disk}
use Rattle.guest_driver.specs.Driver as drivers
use Rattle.guest_driver.specs.Driver.{Driver, Reads, Writes, DriverStage, InPlace, Fetching, Creating, Entering}
use Rattle.guest_driver.specs.Course.{IsAwaitedByDriver, IsAwaitedAtDriverStage}
use Rattle.guest_driver.specs.OnDisk.{pieces_left}
use Rattle.guest_driver.specs.PieceWorks.{entry_of, object_bytes, read_piece, write_piece, read_object, write_entry}
use Rattle.guest_driver.specs.Pieces.{Piece}
use Rattle.disk_check.specs.Check as checks
use Rattle.disk_check.specs.Check.{Check, CheckStage, Comparing, WritingBack as Rewriting, left_of}
use Rattle.vdi_ops.specs.Op.{Task, Opening, WritingBack, Tagging, Copying, Making, OpStage, Asked, Working, Publishing, Answered, Op}
use Rattle.sheep_node.specs.declared.course.Course.{Course}
use Rattle.sheep_node.specs.declared.course.Course.TheVariants.{Waiting, Driving, Commanding, Checking, DoingWork, AwaitingDecision}
use Rattle.sheep_node.specs.declared.course.Request.{Request}
use Rattle.sheep_node.specs.declared.session.Session.{Session}
use Rattle.sheep_node.specs.SessionQueues.{session_among}
use Rattle.sheep_node.specs.SoundWorks.{IsSoundInode, HasSoundWorks}
use Rattle.sheep_node.specs.State.{Node, new_session}
use Rattle.sheep_node.proofs.SessionViews.{IsSeen}
use Rattle.overlap_law.specs.AwaitedEntries.{IsSessionsCommand}
use Rattle.overlap_law.specs.CommandDisks.{opened_as, opened_in, IsOpenAtCourse}
use Rattle.overlap_law.specs.Courses.{IsOfTask, IsOfStage, IsOfCheckStage, WaitsFor}
use Rattle.overlap_law.specs.LastReads.{was_snapped}
use Rattle.overlap_law.specs.WriterClaims.{HasLock, IsStageKept, IsLetGo, HasClaims}
use Rattle.overlap_law.specs.Writers.{MayWrite, IsMayWriteOf}
use Rattle.overlap_law.proofs.AllowedCourses.{IsAllowed, opened_by}
use Rattle.overlap_law.proofs.CausedWorks.{HasWellWorks}
use Rattle.overlap_law.proofs.DiskWalk.{IsAtStage}
use Rattle.overlap_law.proofs.GrantsOfCommands.{stage_may}
use Rattle.overlap_law.proofs.KnownDisks.{Few, FewAt, IsKnownCourse, vid-of_object}
use Rattle.overlap_law.proofs.SharedInRuns.{IsSharing}
use Rattle.overlap_law.proofs.SharedTables.{IsSharedEntry, IsSharedDisk, IsSharedTask, IsSharedStage}
use Rattle.overlap_law.proofs.WaitedSteps.{no_id, Waits}
use Rattle.overlap_law.proofs.WorksAtCourses.{HaveAt, IsAt}
use Rattle.overlap_law.proofs.WritersOfWorks.{its_course, locked_open, on_locked}
use Rattle.overlap_law.specs.RequestsOfScript.{is_of_client}

-- ---- numbers

-- what a table has at a place; beyond its end it has holes
pub entry_at : (P : ℕ → Type 0) → P 0 → (table : List ℕ) (index : ℕ) → All P table → P (slice_index table index)
entry_at P none [] index all = none
entry_at P none (entry ∷ table) zero all = All-head P entry table all
entry_at P none (entry ∷ table) (suc index) all = entry_at P none table index (All-tail P entry table all)

-- a hole has no object
pub hole_none : (index : ℕ) → index < OBJECTS_MAX → vid_of (object_number 0 index) ≡ 0
hole_none index few = omega (arith, few)

-- the id in the number of an inode
pub vid_in_inode : (vid : ℕ) → IsOid (inode_number vid) → vid_of (inode_number vid) ≡ vid
vid_in_inode vid is = let below = is.0 in let free = is.1.1 in omega (arith, below, free)

module _ (log : List Entry) (n : ℕ) (node : Node) (own : node.me.0 ≡ n) (epoch_so : node.peer.epoch ≡ epoch_of node.peer.entries)
    (commands_own : (req : ℕ) (request : Request) (op : Op) → tree.get node.requests req ≡ Some request → request.course ≡ Commanding op
    → IsSessionsCommand (log_effects node.peer.entries) node.me request.session op)
    (has : HasClaims log node.outbox node.peer.entries (length node.peer.entries) node.me node.requests node.sessions)
    (fits : (req : ℕ) (request : Request) → tree.get node.requests req ≡ Some request
    → IsOpenAtCourse (opened_in request.session node.sessions) request.course)
    (well : HasWellWorks node) (req : ℕ) (work : Work) (got : tree.get node.gateway.works req ≡ Some work)
    (request : Request) (there : tree.get node.requests req ≡ Some request) (reading : is_making work.work ≡ false)
    (own_course : is_of_client request.course ≡ false)
    (shared : IsSharing node)
    (waiting : HaveAt Waits node.gateway.works node.requests node.sessions) (sound : HasSoundWorks node) where
  abbrev pub IsKnownRead : Type 0
  IsKnownRead = IsMayWriteOf log n req work node ⊎ (was_snapped node.peer.entries (vid_of (oid_of work.work)) ≡ true)

  abbrev Locks : ℕ → Type 0
  Locks vid = HasLock log node.outbox node.me request.session (epoch_of node.peer.entries) vid

  abbrev open_disk : Option Disk
  open_disk = (session_among request.session node.sessions).disk

  -- what makes something
  makes : (what : ObjWork) → work.work ≡ what → is_making what ≡ true → IsKnownRead
  makes what is making = let makes : is_making work.work ≡ true = ap is_making is ∙ making in absurd (cc (reading, makes))

  valid_oid : (oid : ℕ) → oid_of work.work ≡ oid → IsOid oid
  valid_oid oid is = subst IsOid is (sound.open_works req work got).range.oid

  -- on a disk that is locked
  on_lock : (vid : ℕ) → vid_of (oid_of work.work) ≡ vid → Locks vid → IsKnownRead
  on_lock vid same lock =
      inl (record {
        request = request;
        there = there;
        may = on_locked log n node own epoch_so commands_own has fits well req work got request there vid same lock;
      })

  -- ---- on the open disk

  shared_disk : (disk : Disk) → (session_among request.session node.sessions).disk ≡ Some disk → IsSharedDisk node.peer.entries disk
  shared_disk disk opened = subst (λ (o : Option Disk). IfSome o (IsSharedDisk node.peer.entries)) opened (shared.disks request.session)

  sound_disk : (disk : Disk) → (session_among request.session node.sessions).disk ≡ Some disk → IsSoundInode disk.inode
  sound_disk disk opened = by_session (tree.get node.sessions request.session) refl opened
    where
      by_session : (o : Option Session) → tree.get node.sessions request.session ≡ o → (unwrap_or o new_session).disk ≡ Some disk
          → IsSoundInode disk.inode
      by_session None none opened = absurd (cc (opened))
      by_session (Some session) at opened =
          subst (λ (o : Option Disk). IfSome o (λ (d : Disk). IsSoundInode d.inode)) opened
          (sound.each_session request.session session at).disk

  module _ (none : (vid : ℕ) → IsLetGo node.requests request.session vid → ⊥) (disk : Disk)
      (opened : (session_among request.session node.sessions).disk ≡ Some disk) where
    -- its own id
    on_own : vid_of (oid_of work.work) ≡ disk.inode.vid → IsKnownRead
    on_own same = by_kind disk.snapshot refl
      where
        by_kind : (b : Bool) → disk.snapshot ≡ b → IsKnownRead
        by_kind true snapshot = inr (ap (was_snapped node.peer.entries) same ∙ (shared_disk disk opened).closed snapshot)
        by_kind false working =
            on_lock disk.inode.vid same
            (locked_open log n node own epoch_so commands_own has fits well req work got request there none disk.inode.vid
            (ap opened_as opened ∙ ap (λ (b : Bool). Some (b, disk.inode.vid)) working))

    -- what an entry names
    on_entry : (piece : Piece) → Few piece.index → oid_of work.work ≡ object_number (entry_of disk.inode piece) piece.index → IsKnownRead
    on_entry piece few is = ⊎_elim
        (λ (hole : entry_of disk.inode piece ≡ 0).
        let none : vid_of (object_number (entry_of disk.inode piece) piece.index) ≡ 0
        = ap (λ (k : ℕ). vid_of (object_number k piece.index)) hole ∙ hole_none piece.index few in
        absurd ((valid_oid (object_number (entry_of disk.inode piece) piece.index) is).2 none))
        (λ (names : (entry_of disk.inode piece ≡ disk.inode.vid) ⊎
        (was_snapped node.peer.entries (entry_of disk.inode piece) ≡ true)). ⊎_elim
        (λ (own_entry : entry_of disk.inode piece ≡ disk.inode.vid).
        on_own (ap vid_of is ∙ ap (λ (k : ℕ). vid_of (object_number k piece.index)) own_entry
        ∙ vid-of_object disk.inode.vid piece.index (sound_disk disk opened).ids.vid few))
        (λ (snapped : was_snapped node.peer.entries (entry_of disk.inode piece) ≡ true).
        inr (ap (was_snapped node.peer.entries) (ap vid_of is ∙ its_id) ∙ snapped)) names)
        (entry_at (IsSharedEntry node.peer.entries disk.inode.vid) (inl refl) disk.inode.table piece.index (shared_disk disk opened).table)
      where
        most : IsEntry (entry_of disk.inode piece)
        most = entry_at IsEntry (omega arith) disk.inode.table piece.index (sound_disk disk opened).ids.entries

        its_id : vid_of (object_number (entry_of disk.inode piece) piece.index) ≡ entry_of disk.inode piece
        its_id = omega (arith, most, few)

    -- ---- a read or write

    writing : (payload : List ℕ) (stage : DriverStage) (piece : Piece) → Few piece.index
        → IsAwaitedAtDriverStage disk.inode payload piece (acts.Work work.work) stage → IsKnownRead
    writing payload InPlace piece few is =
        let same : work.work ≡ write_piece disk.inode payload piece = cc (is) in makes (write_piece disk.inode payload piece) same refl
    writing payload Fetching piece few is =
        let same : work.work ≡ read_object disk.inode piece (entry_of disk.inode piece) = cc (is) in on_entry piece few (ap oid_of same)
    writing payload Creating piece few (offset, bytes, is) =
        let created : work.work
        ≡ works.Create (object_number disk.inode.vid piece.index) disk.inode.spec.policy (object_bytes disk.inode) offset bytes
        = cc (is) in
        makes (works.Create (object_number disk.inode.vid piece.index) disk.inode.spec.policy
        (object_bytes disk.inode) offset bytes) created refl
    writing payload Entering piece few is =
        let same : work.work ≡ write_entry disk.inode piece = cc (is) in makes (write_entry disk.inode piece) same refl

    driving : (driver : Driver) → All FewAt (pieces_left driver) → IsAwaitedByDriver disk.inode driver (acts.Work work.work) → IsKnownRead
    driving (Reads told piece rest) few is =
        let same : work.work ≡ read_piece disk.inode piece (entry_of disk.inode piece) = cc (is) in
        on_entry piece (All-head FewAt piece rest few) (ap oid_of same)
    driving (Writes payload stage piece rest) few is = writing payload stage piece (All-head FewAt piece rest few) is
    driving drivers.Answered few (reply, is) = absurd (cc (is))

  -- ---- a command

  module _ (op : Op) (command : request.course ≡ Commanding op) where
    kept : (vid : Vid) (task : Task) → op.stage ≡ Working vid task
        → IsStageKept log node.outbox node.peer.entries (length node.peer.entries) node.me request.session
        (opened_in request.session node.sessions)
        (Working vid task)
    kept vid task at =
        subst (IsStageKept log node.outbox node.peer.entries (length node.peer.entries) node.me request.session
        (opened_in request.session node.sessions)) at (has.commands req request op there command)

    shares : (vid : Vid) (task : Task) → op.stage ≡ Working vid task → IsSharedTask node.peer.entries vid task
    shares vid task at =
        subst (IsSharedStage node.peer.entries) at
        (subst (λ (o : Option Request). IsAtStage (IsSharedDisk node.peer.entries) (IsSharedStage node.peer.entries) o)
        (there ∙ ap (λ (course : Course). Some (record { session = request.session; course = course })) command) (shared.stages req))

    tasked : (vid : Vid) (task : Task) → op.stage ≡ Working vid task
        → IsOfTask [] no_id [] (session_among request.session node.sessions).disk vid task work.work → IsKnownRead
    tasked vid (Opening snapshot ids header) at is = by_kind snapshot refl
      where
        id : vid_of (oid_of work.work) ≡ vid.0
        id = ap vid_of (ap oid_of is) ∙ vid_in_inode vid.0 (valid_oid (inode_number vid.0) (ap oid_of is))

        by_kind : (b : Bool) → snapshot ≡ b → IsKnownRead
        by_kind true tagged =
            inr (ap (was_snapped node.peer.entries) id ∙ (shares vid (Opening snapshot ids header) at).closed tagged)
        by_kind false working =
            let stage : op.stage ≡ Working vid (Opening false ids header) =
            at ∙ ap (λ (b : Bool). Working vid (Opening b ids header)) working in
            let may = stage_may log n node own epoch_so request.session (opened_in request.session node.sessions) vid
            (Working vid (Opening false ids header)) refl (kept vid (Opening false ids header) stage) in
            inl (record {
              request = request;
              there = there;
              may = subst (λ (v : ℕ). MayWrite log n request.session v node) (sym id) may;
            })
    tasked vid (WritingBack inode) at is = makes _ is.work_of refl
    tasked vid (Tagging old inode) at is = makes _ is.work_of refl
    tasked vid (Copying ids header) at is =
        let id : vid_of (oid_of work.work) ≡ is.vid.0
        = ap vid_of (ap oid_of is.work_of) ∙ vid_in_inode is.vid.0 (valid_oid (inode_number is.vid.0) (ap oid_of is.work_of)) in
        inr (ap (was_snapped node.peer.entries) id
        ∙ subst (λ (o : Option Vid). IfSome o (λ (parent : Vid). was_snapped node.peer.entries parent.0 ≡ true)) is.there
        (shares vid (Copying ids header) at))
    tasked vid (Making entry made) at is = makes _ is.work_of refl

    staged : (stage : OpStage) → op.stage ≡ stage
        → IsOfStage [] no_id [] (session_among request.session node.sessions).disk stage work.work → IsKnownRead
    staged (Asked entry) at is = absurd is
    staged (Working vid task) at is = tasked vid task at is
    staged (Publishing entry made) at is = absurd is
    staged (Answered change) at is = absurd is

  -- ---- a check

  checked : (check : Check) (stage : CheckStage) → check.stage ≡ stage → request.course ≡ Checking check → (disk : Disk)
      → IsOfCheckStage disk check stage work.work → opened_in request.session node.sessions ≡ Some (false, check.vid)
      → IsKnownCourse well.known (Checking check) → IsKnownRead
  checked check (Comparing index later) stage at disk is working known =
      let within : All Few (index ∷ later) = subst (λ (s : CheckStage). All Few (left_of s)) stage known.within in
      on_lock check.vid (ap vid_of (ap oid_of is) ∙ vid-of_object check.vid index known.disk.id (All-head Few index later within))
      (locked_open log n node own epoch_so commands_own has fits well req work got request there
      (λ vid goes.
      let both = sym at ∙ its_course log n node own epoch_so commands_own has fits well req work got request there vid goes
      in absurd (cc (both)))
      check.vid working)
  checked check (Rewriting later) stage at disk is working known = makes _ is.work_of refl
  checked check checks.Answered stage at disk is working known = absurd is

  -- ---- each

  by_course : (course : Course) → request.course ≡ course
      → WaitsFor [] no_id [] (session_among request.session node.sessions).disk course work.work
      → IsAllowed (opened_in request.session node.sessions) course → IsKnownCourse well.known course → IsKnownRead
  by_course (Waiting ask) at waits allowed known = absurd waits
  by_course (Driving driver) at waits allowed known =
      driving
      (λ vid goes.
      let both = sym at ∙ its_course log n node own epoch_so commands_own has fits well req work got request there vid goes
      in absurd (cc (both)))
      waits.disk waits.there driver known waits.awaited
  by_course (Commanding op) at waits allowed known = staged op at op.stage refl waits
  by_course (Checking check) at waits allowed known = checked check check.stage refl at waits.disk waits.is allowed known
  by_course (DoingWork asked) at waits allowed known =
      let clients : is_of_client request.course ≡ true = ap is_of_client at in absurd (cc (clients, own_course))
  by_course (AwaitingDecision entry) at waits allowed known = absurd waits

  pub read_known : IsMayWriteOf log n req work node ⊎ (was_snapped node.peer.entries (vid_of (oid_of work.work)) ≡ true)
  read_known =
      by_course request.course refl
      (subst (λ (o : Option Request). IsAt Waits node.sessions o work.work) there (waiting req work.work (inl (work, got, refl)))).0
      (subst (IsSeen opened_by IsAllowed node.sessions) there (well.allowed req))
      (well.on_known.courses req request there)
