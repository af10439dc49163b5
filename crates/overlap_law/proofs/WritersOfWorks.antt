-- Each open create or write of a node is on an id that its request's session may write: in each world of a run in range, and at each moment
-- on the way of its events.
use Rattle.std.proofs.Common.{arith, ◌<◌}
use Rattle.object_id.specs.declared.limits.TheConstants.{OBJECTS_MAX}
use Rattle.std.proofs.Common.{◌≡◌, ◌⊎◌, inl, inr, ⊎_elim, ℕ, Bool, true, false, List, [], ◌∷◌, ◌++◌, All, Contains, length, Option, Some}
use Rattle.std.proofs.Common.{None, IfSome, unwrap_or, refl, sym, ap, subst, ◌∙◌}
use Rattle.std.specs.FinMap as tree
use Rattle.std.proofs.lemmas.List.Elements.{All-head, Contains-append_cases}
use Rattle.std.proofs.lemmas.Option.{same_Some}
use Rattle.proof_tools.proofs.Lists.{Contains-nil, Contains-cons_cases}
use Rattle.object_id.specs.declared.entry.Entry.{Entry}
use Rattle.object_id.specs.declared.entry.Entry.TheVariants.{Format, Join, Leave, Reweight, Recovered, Reserve, Publish, Clone, Snapshot}
use Rattle.object_id.specs.declared.entry.Entry.TheVariants.{Delete, Lock, Unlock}
use Rattle.object_id.specs.declared.oid.Vid.{Vid}
use Rattle.object_id.specs.Oid.{IsVid, vid_of, inode_number, object_number}
use Rattle.cluster_script.specs.declared.statement.Statement.{Statement}
use Rattle.epoch_log.specs.Epochs.{epoch_of}
use Rattle.inode.specs.Layout.{Content}
use Rattle.peer_proto.specs.declared.work.ObjWork.{ObjWork}
use Rattle.peer_proto.specs.declared.work.ObjWork.TheVariants as works
use Rattle.peer_proto.specs.Work.{oid_of}
use Rattle.vdi_directory.specs.declared.effect.Effect.{Effect}
use Rattle.vdi_directory.specs.declared.effect.Effect.TheVariants as effects
use Rattle.vdi_directory.specs.declared.effect.Grant.{Grant}
use Rattle.vdi_directory.specs.Decisions.{outcome, log_effects}
use Rattle.vdi_directory.specs.States as States
use Rattle.vdi_directory.specs.States.{state_of}
use Rattle.vdi_directory.proofs.DecisionLaws.{grant_outcome-unused, held-works}
use Rattle.vdi_directory.proofs.StateLemmas.{log_effects-none, log_effects-push}
use Rattle.gateway.specs.Work.{is_making}
use Rattle.gateway.specs.State.{Work}
use Rattle.guest_driver.specs.declared.disk.Disk.{Disk}
use Rattle.guest_driver.specs.Driver as drivers
use Rattle.guest_driver.specs.Driver.{Driver, Reads, Writes, DriverStage, InPlace, Fetching, Creating, Entering}
use Rattle.guest_driver.specs.PieceWorks.{object_bytes}
use Rattle.guest_driver.specs.Pieces.{Piece}
use Rattle.vdi_ops.specs.declared.act.OpAct.TheVariants as op_acts
use Rattle.vdi_ops.specs.Op.{Task, Opening, WritingBack, Tagging, Copying, Making, OpStage, Asked, Working, Publishing, Answered, Op}
use Rattle.vdi_ops.specs.Op.{IsAwaitedAtOpStage, IsWorkOfTask}
use Rattle.sheep_node.specs.declared.course.Course.{Course}
use Rattle.sheep_node.specs.declared.course.Course.TheVariants.{Waiting, Driving, Commanding, Checking, DoingWork, AwaitingDecision}
use Rattle.sheep_node.specs.declared.course.Request.{Request}
use Rattle.sheep_node.specs.declared.session.Session.{Session}
use Rattle.sheep_node.specs.Courses.{inode_open}
use Rattle.sheep_node.specs.May.{is_disk_course}
use Rattle.sheep_node.specs.OneWork.{may_work_at}
use Rattle.sheep_node.specs.SessionQueues.{session_among, command_in}
use Rattle.sheep_node.specs.State.{Node, new_session}
use Rattle.sheep_node.specs.WantedWorks.{IsWorkWanted, IsWantedAt, IsWorkOfWrite}
use Rattle.sheep_node.proofs.SessionViews.{IsSeen}
use Rattle.sheep_world.specs.Began.{Began}
use Rattle.sheep_world.specs.RunsWithAsks.{Move}
use Rattle.overlap_law.specs.AwaitedEntries.{WasReserved, IsSessionsEntry, IsSessionsStage, IsSessionsCommand, CommandsAreTheSessions}
use Rattle.overlap_law.specs.CommandDisks.{opened_as, opened_in, IsOpenAtStage, IsOpenAtCourse}
use Rattle.overlap_law.specs.Courses.{granted_at}
use Rattle.overlap_law.specs.Each.{EachUp}
use Rattle.overlap_law.specs.Holders.{is_create_work}
use Rattle.overlap_law.specs.Reached.{Hosts}
use Rattle.overlap_law.specs.Past.{MomentWithPast, run_with_past}
use Rattle.overlap_law.specs.MomentChanges as moments
use Rattle.overlap_law.specs.MomentChanges.{MomentChange, MomentTrail, RunsAreInRange}
use Rattle.overlap_law.specs.WriterClaims.{holder_at, HasLock, IsMakingKept, IsStageKept, LetsGo, IsLetGo, IsDiskKept, HasClaims}
use Rattle.overlap_law.specs.Writers.{MayWrite, WorksMayWrite}
use Rattle.overlap_law.proofs.AllowedCourses.{IsAllowed, opened_by}
use Rattle.overlap_law.proofs.AwaitedInRuns.{awaited_in_worlds, awaited_after, said_sessions}
use Rattle.overlap_law.proofs.CausedWorks.{HasWellWorks}
use Rattle.overlap_law.proofs.ClaimsInRuns.{AreClaimedAmong, claimed_in_worlds, claimed_after}
use Rattle.overlap_law.proofs.DatedEffects.{by_entries}
use Rattle.overlap_law.proofs.GrantsOfCommands.{locked_may, stage_may}
use Rattle.overlap_law.proofs.KnownDisks.{FewAt, IsKnownInode, IsKnownCourse, IsKnownStage, vid-of_object, vid-of_inode}
use Rattle.overlap_law.proofs.NoRecoveredDue.{began-with_past}
use Rattle.overlap_law.proofs.OpenDisksInRuns.{AreOpenAmong, open_in_worlds, open_after}
use Rattle.overlap_law.proofs.OwnMakings.{IsOwnStage, MakesOwn, MakesOwnAt}
use Rattle.overlap_law.proofs.WorksInMoments.{HaveWellWorks, well_in_world, well_after}
use Rattle.overlap_law.proofs.ReadInMoments.{HostsAreSound, sound_hosts, hosts_after_sound}
use Rattle.overlap_law.proofs.MakingEntries.{making_vid}

-- what is reserved is an id
reserved-is_id : (log : List Entry) (grant : Grant) → Contains (log_effects log) (effects.Reserved grant) → IsVid grant.reservation.vid.0
reserved-is_id =
    by_entries (λ (log : List Entry). (grant : Grant) → Contains (log_effects log) (effects.Reserved grant) → IsVid grant.reservation.vid.0)
    (λ grant there. absurd (Contains-nil (effects.Reserved grant)
    (subst (λ (all : List Effect). Contains all (effects.Reserved grant)) log_effects-none there)))
    one_more
  where
    one_more : (log : List Entry) (entry : Entry)
        → ((grant : Grant) → Contains (log_effects log) (effects.Reserved grant) → IsVid grant.reservation.vid.0)
        → (grant : Grant) → Contains (log_effects (log ++ entry ∷ [])) (effects.Reserved grant) → IsVid grant.reservation.vid.0
    one_more log entry before grant there = ⊎_elim
        (λ (old : Contains (log_effects log) (effects.Reserved grant)). before grant old)
        (λ (new : Contains ((outcome (log_effects log) entry).effect ∷ []) (effects.Reserved grant)). ⊎_elim
        (λ (is : (outcome (log_effects log) entry).effect ≡ effects.Reserved grant). (grant_outcome-unused log entry grant is).0)
        (λ (none : Contains [] (effects.Reserved grant)). absurd (Contains-nil (effects.Reserved grant) none))
        (Contains-cons_cases (outcome (log_effects log) entry).effect [] (effects.Reserved grant) new))
        (Contains-append_cases (log_effects log) ((outcome (log_effects log) entry).effect ∷ []) (effects.Reserved grant)
        (subst (λ (all : List Effect). Contains all (effects.Reserved grant)) (log_effects-push log entry) there))

module _ (log : List Entry) (n : ℕ) (node : Node) (own : node.me.0 ≡ n) (epoch_so : node.peer.epoch ≡ epoch_of node.peer.entries)
    (commands_own : (req : ℕ) (request : Request) (op : Op) → tree.get node.requests req ≡ Some request → request.course ≡ Commanding op
    → IsSessionsCommand (log_effects node.peer.entries) node.me request.session op)
    (has : HasClaims log node.outbox node.peer.entries (length node.peer.entries) node.me node.requests node.sessions)
    (fits : (req : ℕ) (request : Request) → tree.get node.requests req ≡ Some request
    → IsOpenAtCourse (opened_in request.session node.sessions) request.course)
    (well : HasWellWorks node) (req : ℕ) (work : Work) (got : tree.get node.gateway.works req ≡ Some work)
    (request : Request) (there : tree.get node.requests req ≡ Some request) where
  abbrev MayWriteIt : Type 0
  MayWriteIt = MayWrite log n request.session (vid_of (oid_of work.work)) node

  abbrev Locks : ℕ → Type 0
  Locks vid = HasLock log node.outbox node.me request.session (epoch_of node.peer.entries) vid

  -- who lets the disk go is this request
  pub its_course : (vid : ℕ) → (goes : IsLetGo node.requests request.session vid) → request.course ≡ Commanding goes.op
  its_course vid goes =
      let named : command_in request.session node.sessions ≡ Some goes.req
      = subst (λ (k : ℕ). command_in k node.sessions ≡ Some goes.req) goes.of
      (well.alone.named goes.req goes.request goes.there (ap is_disk_course goes.command)) in
      let same : req ≡ goes.req = well.alone.alone request.session goes.req req request named there refl in
      let one : request ≡ goes.request = same_Some request goes.request (sym there ∙ ap (tree.get node.requests) same ∙ goes.there) in
      ap (λ (r : Request). r.course) one ∙ goes.command

  abbrev LetsNone : Type 0
  LetsNone = (vid : ℕ) → IsLetGo node.requests request.session vid → ⊥

  -- the working disk that is open is locked
  pub locked_open : ((vid : ℕ) → IsLetGo node.requests request.session vid → ⊥) → (vid : ℕ)
      → opened_in request.session node.sessions ≡ Some (false, vid) → Locks vid
  locked_open none vid opened = by_disk (session_among request.session node.sessions).disk refl opened
    where
      by_disk : (disk : Option Disk) → (session_among request.session node.sessions).disk ≡ disk → opened_as disk ≡ Some (false, vid)
          → Locks vid
      by_disk None got opened = absurd (cc (opened))
      by_disk (Some disk) got opened =
          let both : (disk.snapshot, disk.inode.vid) ≡ (false, vid) = same_Some (disk.snapshot, disk.inode.vid) (false, vid) opened in
          by_kind (subst (λ (b : Bool). IsDiskKept log node.outbox node.peer.entries node.me node.requests request.session b disk.inode)
          (ap (λ (p : Bool × ℕ). p.0) both) (has.disks request.session disk got)) (ap (λ (p : Bool × ℕ). p.1) both)
        where
          by_kind : IsDiskKept log node.outbox node.peer.entries node.me node.requests request.session false disk.inode
              → disk.inode.vid ≡ vid → Locks vid
          by_kind (named, is) id = subst Locks id (⊎_elim
              (λ (lock : Locks disk.inode.vid). lock)
              (λ (goes : IsLetGo node.requests request.session disk.inode.vid). absurd (none disk.inode.vid goes)) is)

  -- and is known
  pub known_open : (disk : Disk) → (session_among request.session node.sessions).disk ≡ Some disk → IsKnownInode well.known disk.inode
  known_open disk opened = by_session (tree.get node.sessions request.session) refl opened
    where
      by_session : (o : Option Session) → tree.get node.sessions request.session ≡ o → (unwrap_or o new_session).disk ≡ Some disk
          → IsKnownInode well.known disk.inode
      by_session None none opened = absurd (cc (opened))
      by_session (Some session) there opened =
          subst (λ (o : Option Disk). IfSome o (λ (d : Disk). IsKnownInode well.known d.inode)) opened
          (well.on_known.each_session request.session session there).disk

  pub id_open : (vid : ℕ) → opened_in request.session node.sessions ≡ Some (false, vid) → IsVid vid
  id_open vid opened = by_disk (session_among request.session node.sessions).disk refl opened
    where
      by_disk : (disk : Option Disk) → (session_among request.session node.sessions).disk ≡ disk → opened_as disk ≡ Some (false, vid)
          → IsVid vid
      by_disk None got opened = absurd (cc (opened))
      by_disk (Some disk) got opened =
          let both : (disk.snapshot, disk.inode.vid) ≡ (false, vid) = same_Some (disk.snapshot, disk.inode.vid) (false, vid) opened in
          subst IsVid (ap (λ (p : Bool × ℕ). p.1) both) (known_open disk got).disk.id

  -- a work on what is locked
  pub on_locked : (vid : ℕ) → vid_of (oid_of work.work) ≡ vid → Locks vid → MayWriteIt
  on_locked vid same lock =
      subst (λ (v : ℕ). MayWrite log n request.session v node) (sym same) (locked_may log n node own epoch_so request.session vid lock)

  module _ (making : is_making work.work ≡ true) where
    -- the work is on an id that is locked, or creates an inode that the session may write
    abbrev WritesIt : Type 0
    WritesIt = Locks (vid_of (oid_of work.work))
        ⊎ ((is_create_work work.work ≡ true) × MayWriteIt × ((own : ℕ) × (oid_of work.work ≡ inode_number own)))

    locks_it : (vid : ℕ) → vid_of (oid_of work.work) ≡ vid → Locks vid → WritesIt
    locks_it vid same lock = inl (subst Locks (sym same) lock)

    -- what isn't made
    reads : (what : ObjWork) → work.work ≡ what → is_making what ≡ false → WritesIt
    reads what is read = let none : is_making work.work ≡ false = ap is_making is ∙ read in absurd (cc (none, making))

    -- ---- a read or write

    writing : (payload : List ℕ) (stage : DriverStage) (piece : Piece) (rest : List Piece)
        → request.course ≡ Driving (Writes payload stage piece rest)
        → (vid : ℕ) → opened_in request.session node.sessions ≡ Some (false, vid) → (disk : Disk)
        → (session_among request.session node.sessions).disk ≡ Some disk → IsWorkOfWrite disk.inode payload piece work.work stage
        → All FewAt (piece ∷ rest) → WritesIt
    writing payload stage piece rest at vid working disk opened wanted few = by_stage stage wanted
      where
        none : (of : ℕ) → IsLetGo node.requests request.session of → ⊥
        none of goes = let both = sym at ∙ its_course of goes in absurd (cc (both))

        same : disk.inode.vid ≡ vid
        same =
            ap (λ (p : Bool × ℕ). p.1)
            (same_Some (disk.snapshot, disk.inode.vid) (false, vid) (sym (ap opened_as opened) ∙ working))

        id : IsVid disk.inode.vid
        id = (known_open disk opened).disk.id

        on_object : oid_of work.work ≡ object_number disk.inode.vid piece.index → WritesIt
        on_object is =
            locks_it vid (ap vid_of is ∙ vid-of_object disk.inode.vid piece.index id (All-head FewAt piece rest few) ∙ same)
            (locked_open none vid working)

        by_stage : (stage : DriverStage) → IsWorkOfWrite disk.inode payload piece work.work stage → WritesIt
        by_stage InPlace is = on_object (ap oid_of is)
        by_stage Fetching is = reads _ is.1 refl
        by_stage Creating (offset, bytes, is) =
            let created : work.work ≡ works.Create (object_number disk.inode.vid piece.index) disk.inode.spec.policy
            (object_bytes disk.inode) offset bytes
            = cc (is) in
            on_object (ap oid_of created)
        by_stage Entering is =
            locks_it vid (ap vid_of (ap oid_of is) ∙ vid-of_inode disk.inode.vid id ∙ same) (locked_open none vid working)

    driving : (driver : Driver) → request.course ≡ Driving driver → IsAllowed (opened_in request.session node.sessions) (Driving driver)
        → (disk : Option Disk) → (session_among request.session node.sessions).disk ≡ disk
        → IsWorkWanted (inode_open disk) (Driving driver) work.work
        → IsKnownCourse well.known (Driving driver) → WritesIt
    driving driver at allowed None opened wanted few = absurd wanted
    driving (Reads told piece rest) at allowed (Some disk) opened wanted few = reads _ wanted.1 refl
    driving drivers.Answered at allowed (Some disk) opened wanted few = absurd wanted
    driving (Writes payload stage piece rest) at allowed (Some disk) opened wanted few =
        writing payload stage piece rest at allowed.0 allowed.1 disk opened wanted few

    -- ---- a command

    module _ (op : Op) (command : request.course ≡ Commanding op) (vid : Vid) (task : Task) (at : op.stage ≡ Working vid task) where
      kept : IsStageKept log node.outbox node.peer.entries (length node.peer.entries) node.me request.session
          (opened_in request.session node.sessions)
          (Working vid task)
      kept =
          subst (IsStageKept log node.outbox node.peer.entries (length node.peer.entries) node.me request.session
          (opened_in request.session node.sessions)) at
          (has.commands req request op there command)

      -- on the id that was granted
      on_granted : granted_at (Working vid task) ≡ Some vid → is_create_work work.work ≡ true → (own : ℕ)
          → oid_of work.work ≡ inode_number own → vid_of (oid_of work.work) ≡ vid.0 → WritesIt
      on_granted granted creates of object same = inr (
        creates,
        subst (λ (v : ℕ). MayWrite log n request.session v node) (sym same)
            (stage_may log n node own epoch_so request.session (opened_in request.session node.sessions) vid (Working vid task) granted
            kept),
        (of, object),
      )

      lets_none : (of : ℕ) → IsLetGo node.requests request.session of → ⊥
      lets_none of goes =
          let course : Commanding op ≡ Commanding goes.op = sym command ∙ its_course of goes in
          let same : op ≡ goes.op = cc (course) in
          subst (LetsGo of) (sym (ap (λ (o : Op). o.stage) same) ∙ at) goes.lets

    -- a task that makes something
    module _ (op : Op) (command : request.course ≡ Commanding op) where
      fits_at : (vid : Vid) (task : Task) → op.stage ≡ Working vid task
          → IsOpenAtStage (opened_in request.session node.sessions) (Working vid task)
      fits_at vid task at =
          subst (IsOpenAtStage (opened_in request.session node.sessions)) at
          (subst (IsOpenAtCourse (opened_in request.session node.sessions)) command (fits req request there))

      known_at : (vid : Vid) (task : Task) → op.stage ≡ Working vid task → IsKnownStage well.known (Working vid task)
      known_at vid task at =
          subst (IsKnownStage well.known) at (subst (IsKnownCourse well.known) command (well.on_known.courses req request there))

      sessions_at : (vid : Vid) (task : Task) → op.stage ≡ Working vid task
          → IsSessionsStage (log_effects node.peer.entries) node.me request.session (Working vid task)
      sessions_at vid task at =
          subst (IsSessionsStage (log_effects node.peer.entries) node.me request.session) at
          (commands_own req request op there command).stage

      -- the id of what is published was reserved
      reserved : (vid of : Vid) → WasReserved (log_effects node.peer.entries) node.me request.session of.0 → of ≡ vid → IsVid vid.0
      reserved vid of was same = subst IsVid (was.id ∙ ap (λ (v : Vid). v.0) same) (reserved-is_id node.peer.entries was.grant was.there)

      made_id : (vid : Vid) (entry : Entry) (made : Option Content)
          → IsMakingKept log node.outbox node.peer.entries (length node.peer.entries) node.me request.session
          (opened_in request.session node.sessions) vid entry made
          → IsSessionsEntry (log_effects node.peer.entries) node.me request.session entry → IsVid vid.0
      made_id vid (Format members) made kept own = absurd kept
      made_id vid (Join of zone vnodes) made kept own = absurd kept
      made_id vid (Leave of) made kept own = absurd kept
      made_id vid (Reweight of vnodes) made kept own = absurd kept
      made_id vid (Recovered of epoch) made kept own = absurd kept
      made_id vid (Reserve by of name origin) made kept own = absurd kept
      made_id vid (Publish by of) made kept own = reserved vid of own.1 kept.0
      made_id vid (Clone by of) made kept own = reserved vid of own.1 kept.0
      made_id vid (Snapshot by old of) made kept own = reserved vid of own.1 kept.0
      made_id vid (Delete by of name tag) made kept own = absurd kept
      made_id vid (Lock by of name tag) made kept own = absurd kept
      made_id vid (Unlock by of id) made kept own = absurd kept

      tasked : (vid : Vid) (task : Task) → op.stage ≡ Working vid task → IsWorkOfTask vid task work.work
          → MakesOwn (Commanding op) work.work → WritesIt
      tasked vid (Opening snapshot ids header) at is owns = reads _ is refl
      tasked vid (WritingBack inode) at is owns =
          locks_it vid.0
          (ap vid_of (ap oid_of is.work_of) ∙ vid-of_inode inode.vid (known_at vid (WritingBack inode) at).disk.id
          ∙ (fits_at vid (WritingBack inode) at).1) (kept op command vid (WritingBack inode) at).0
      tasked vid (Tagging old inode) at is owns =
          let opened = (fits_at vid (Tagging old inode) at).0 in
          locks_it old.0
          (ap vid_of (ap oid_of is.work_of ∙ ap inode_number is.same) ∙ vid-of_inode old.0 (id_open old.0 opened))
          (locked_open (lets_none op command vid (Tagging old inode) at) old.0 opened)
      tasked vid (Copying ids header) at is owns = reads _ is.work_of refl
      tasked vid (Making entry None) at is owns =
          let kept = kept op command vid (Making entry None) at in
          on_granted op command vid (Making entry None) at refl (ap is_create_work is.work_of) vid.0
          (subst (λ (stage : OpStage). IsOwnStage stage work.work) at owns)
          (ap vid_of (subst (λ (stage : OpStage). IsOwnStage stage work.work) at owns)
          ∙ vid-of_inode vid.0 (made_id vid entry None kept (sessions_at vid (Making entry None) at)))
      tasked vid (Making entry (Some inode)) at is owns =
          let kept = kept op command vid (Making entry (Some inode)) at in
          let same : inode ≡ is.inode = is.same inode refl in
          on_granted op command vid (Making entry (Some inode)) at refl (ap is_create_work is.work_of) is.inode.vid (ap oid_of is.work_of)
          (ap vid_of (ap oid_of is.work_of ∙ ap (λ (i : Content). inode_number i.vid) (sym same))
          ∙ vid-of_inode inode.vid (known_at vid (Making entry (Some inode)) at).disk.id
          ∙ making_vid log node.outbox node.peer.entries (length node.peer.entries) node.me request.session
          (opened_in request.session node.sessions) vid entry inode kept (fits_at vid (Making entry (Some inode)) at))

      staged : (stage : OpStage) → op.stage ≡ stage → IsAwaitedAtOpStage (op_acts.Work work.work) stage → MakesOwn (Commanding op) work.work
          → WritesIt
      staged (Asked entry) at wanted owns = absurd (cc (wanted))
      staged (Working vid task) at (other, same, is) owns =
          let one : other ≡ work.work = cc (same) in
          tasked vid task at (subst (IsWorkOfTask vid task) one is) owns
      staged (Publishing entry made) at wanted owns = absurd (cc (wanted))
      staged (Answered change) at (reply, same) owns = absurd (cc (same))

    -- ---- each

    by_course : (course : Course) → request.course ≡ course
        → IsWorkWanted (inode_open (session_among request.session node.sessions).disk) course work.work
        → IsAllowed (opened_in request.session node.sessions) course → MakesOwn course work.work → IsKnownCourse well.known course
        → WritesIt
    by_course (Waiting ask) at wanted allowed owns known = absurd wanted
    by_course (Driving driver) at wanted allowed owns known =
        driving driver at allowed (session_among request.session node.sessions).disk refl wanted known
    by_course (Commanding op) at wanted allowed owns known = staged op at op.stage refl wanted owns
    by_course (Checking check) at wanted allowed owns known =
        locks_it check.vid (owns making)
        (locked_open (λ vid goes. let both = sym at ∙ its_course vid goes in absurd (cc (both))) check.vid allowed)
    by_course (DoingWork asked) at wanted allowed owns known = reads asked wanted allowed
    by_course (AwaitingDecision entry) at wanted allowed owns known = absurd wanted

    writes_it : WritesIt
    writes_it =
        by_course request.course refl (subst (λ (o : Option Request). IsWantedAt node.sessions o work.work) there
        (well.wanted req work.work (inl (work, got, refl)))) (subst (IsSeen opened_by IsAllowed node.sessions) there (well.allowed req))
        (subst (λ (o : Option Request). MakesOwnAt o work.work) there (well.own req work.work (inl (work, got, refl))))
        (well.on_known.courses req request there)

    pub work_may : MayWrite log n request.session (vid_of (oid_of work.work)) node
    work_may = ⊎_elim
        (λ (lock : Locks (vid_of (oid_of work.work))). on_locked (vid_of (oid_of work.work)) refl lock)
        (λ (made : (is_create_work work.work ≡ true) × MayWriteIt × ((own : ℕ) × (oid_of work.work ≡ inode_number own))). made.1)
        writes_it

    -- what isn't created is of a working disk
    pub work_working : is_create_work work.work ≡ false → state_of (log_effects log) (vid_of (oid_of work.work)) ≡ States.Working
    work_working writes = ⊎_elim
        (λ (lock : Locks (vid_of (oid_of work.work))).
        held-works log (vid_of (oid_of work.work)) (holder_at node.me request.session) lock.held)
        (λ (made : (is_create_work work.work ≡ true) × MayWriteIt × ((own : ℕ) × (oid_of work.work ≡ inode_number own))).
        let creates = made.0 in absurd (cc (creates, writes)))
        writes_it

    -- and what is on an object of a disk is so too
    pub data_working : (vid index : ℕ) → IsVid vid → index < OBJECTS_MAX → oid_of work.work ≡ object_number vid index
        → state_of (log_effects log) vid ≡ States.Working
    data_working vid index id few object = ⊎_elim
        (λ (lock : Locks (vid_of (oid_of work.work))).
        ap (state_of (log_effects log)) (sym (ap vid_of object ∙ vid-of_object vid index id few))
        ∙ held-works log (vid_of (oid_of work.work)) (holder_at node.me request.session) lock.held)
        (λ (made : (is_create_work work.work ≡ true) × MayWriteIt × ((own : ℕ) × (oid_of work.work ≡ inode_number own))).
        let other = made.2.1 in
        let most = id.1 in
        absurd (omega (arith, most, few, object, other)))
        writes_it

-- a work's request is there
pub asked_for : (node : Node) → HasWellWorks node → (req : ℕ) (work : Work) → tree.get node.gateway.works req ≡ Some work
    → (request : Request) × (tree.get node.requests req ≡ Some request)
asked_for node well req work got = by_request (tree.get node.requests req) refl
  where
    by_request : (o : Option Request) → tree.get node.requests req ≡ o → (request : Request) × (tree.get node.requests req ≡ Some request)
    by_request None none =
        let may = well.one_work.open_works req work got in
        let never = ap may_work_at none in
        absurd (cc (may, never))
    by_request (Some request) there = (request, there)

-- in a moment
works_may : (moment : MomentWithPast) → HostsAreSound moment → AreClaimedAmong moment.world.log moment.world.hosts
    → AreOpenAmong moment.world.hosts
    → CommandsAreTheSessions moment.world.hosts → HaveWellWorks moment.world.hosts → WorksMayWrite moment.world.log moment.world.hosts
works_may moment sound claimed fit own well = record {
  each = λ n host there up req work got making.
      let read = (sound.each n host there).read in
      let (request, asked) = asked_for host.node (well n host there) req work got in
      record {
        request = request;
        there = asked;
        may =
            work_may moment.world.log n host.node read.own read.epoch_so (own.each n host there up) (claimed n host there up)
            (fit n host there) (well n host there) req work got request asked making;
      };
}

-- each open write, that creates nothing, is on an object of a working disk
abbrev pub WritesAreOfWorking : List Entry → Hosts → Type 0
WritesAreOfWorking log hosts =
    EachUp hosts (λ n node. (req : ℕ) (work : Work) → tree.get node.gateway.works req ≡ Some work → is_making work.work ≡ true
    → is_create_work work.work ≡ false → state_of (log_effects log) (vid_of (oid_of work.work)) ≡ States.Working)

writes_working : (moment : MomentWithPast) → HostsAreSound moment → AreClaimedAmong moment.world.log moment.world.hosts
    → AreOpenAmong moment.world.hosts
    → CommandsAreTheSessions moment.world.hosts → HaveWellWorks moment.world.hosts → WritesAreOfWorking moment.world.log moment.world.hosts
writes_working moment sound claimed fit own well n host there up req work got making writes =
    let read = (sound.each n host there).read in
    let (request, asked) = asked_for host.node (well n host there) req work got in
    work_working moment.world.log n host.node read.own read.epoch_so (own.each n host there up) (claimed n host there up) (fit n host there)
    (well n host there) req work got request asked making writes

-- each open create or write on an object of a disk, that is no inode, is of a working disk
abbrev pub DataIsOfWorking : List Entry → Hosts → Type 0
DataIsOfWorking log hosts =
    EachUp hosts (λ n node. (req : ℕ) (work : Work) → tree.get node.gateway.works req ≡ Some work → is_making work.work ≡ true
    → (vid index : ℕ) → IsVid vid → index < OBJECTS_MAX → oid_of work.work ≡ object_number vid index
    → state_of (log_effects log) vid ≡ States.Working)

data_of_working : (moment : MomentWithPast) → HostsAreSound moment → AreClaimedAmong moment.world.log moment.world.hosts
    → AreOpenAmong moment.world.hosts → CommandsAreTheSessions moment.world.hosts → HaveWellWorks moment.world.hosts
    → DataIsOfWorking moment.world.log moment.world.hosts
data_of_working moment sound claimed fit own well n host there up req work got making =
    let read = (sound.each n host there).read in
    let (request, asked) = asked_for host.node (well n host there) req work got in
    data_working moment.world.log n host.node read.own read.epoch_so (own.each n host there up) (claimed n host there up) (fit n host there)
    (well n host there) req work got request asked making

module _ (script : List Statement) (range : RunsAreInRange script) where
  -- as an event begins, and after each change of it
  module _ (start : MomentWithPast) (began : Began script start.world) where
    pub works_may-at_start : WorksMayWrite start.world.log start.world.hosts
    works_may-at_start =
        works_may start (sound_hosts script range start began) (claimed_in_worlds script range start.world began)
        (open_in_worlds script range start.world began) (said_sessions script range start.world.log start.world.hosts
        (awaited_in_worlds script range start.world began)) (well_in_world script range start.world began)

    pub works_may-after : {before after : MomentWithPast} → MomentChange script start before after
        → WorksMayWrite after.world.log after.world.hosts
    works_may-after {before} {after} change =
        works_may after (hosts_after_sound script range start began change) (claimed_after script range start began change)
        (open_after script range start began change)
        (said_sessions script range after.world.log after.world.hosts (awaited_after script range start began change))
        (well_after script range start began change)

    pub writes_working-after : {before after : MomentWithPast} → MomentChange script start before after
        → WritesAreOfWorking after.world.log after.world.hosts
    writes_working-after {before} {after} change =
        writes_working after (hosts_after_sound script range start began change) (claimed_after script range start began change)
        (open_after script range start began change)
        (said_sessions script range after.world.log after.world.hosts (awaited_after script range start began change))
        (well_after script range start began change)

    pub data_working-after : {before after : MomentWithPast} → MomentChange script start before after
        → DataIsOfWorking after.world.log after.world.hosts
    data_working-after {before} {after} change =
        data_of_working after (hosts_after_sound script range start began change) (claimed_after script range start began change)
        (open_after script range start began change)
        (said_sessions script range after.world.log after.world.hosts (awaited_after script range start began change))
        (well_after script range start began change)

    works_may-along : {moment : MomentWithPast} → MomentTrail script start moment → WorksMayWrite moment.world.log moment.world.hosts
    works_may-along moments.Still = works_may-at_start
    works_may-along (moments.Then trail change) = works_may-after change

  pub works_may-in_run : (events : List Move) (start moment : MomentWithPast) → run_with_past script events ≡ Some start
      → MomentTrail script start moment → WorksMayWrite moment.world.log moment.world.hosts
  works_may-in_run events start moment is trail = works_may-along start (began-with_past script events start is) trail
