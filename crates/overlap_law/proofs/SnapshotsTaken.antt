-- A session whose disk is made a snapshot by the entry that its node puts has that disk open, and nothing else of it goes on.
use Rattle.std.proofs.Common.{◌≡◌, ℕ, ◌+◌, ◌*◌, ◌==◌, Bool, true, false, All, List, ◌∷◌, length, Option, Some}
use Rattle.std.proofs.Common.{None, unwrap_or, refl, sym, ap, subst, ◌∙◌}
use Rattle.std.specs.FinMap as tree
use Rattle.std.specs.Ordering.{nat_cmp}
use Rattle.std.proofs.lemmas.Bool.{and_parts, eqb-true}
use Rattle.std.proofs.lemmas.List.Elements.{All-head}
use Rattle.std.proofs.lemmas.Option.{same_Some}
use Rattle.object_id.specs.declared.entry.Entry.{Entry}
use Rattle.object_id.specs.declared.entry.Entry.TheVariants.{Snapshot}
use Rattle.object_id.specs.declared.node.NodeId.{NodeId}
use Rattle.object_id.specs.declared.oid.Vid.{Vid}
use Rattle.object_id.specs.Oid.{IsVid, inode_number, vid_of}
use Rattle.inode.specs.declared.layout.TheConstants.{INODE_HEADER_BYTES}
use Rattle.inode.specs.Layout.{Content}
use Rattle.cluster_script.specs.declared.statement.Statement.{Statement}
use Rattle.disk_lock.specs.declared.holder.Holder.{Holder}
use Rattle.epoch_log.specs.Epochs.{epoch_of}
use Rattle.gateway.specs.State.{Work}
use Rattle.gateway.specs.Work.{is_making}
use Rattle.guest_driver.specs.declared.disk.Disk.{Disk}
use Rattle.peer_proto.specs.declared.work.ObjWork.{ObjWork}
use Rattle.peer_proto.specs.declared.work.ObjWork.TheVariants.{Create, Write, Read, ReadAll}
use Rattle.peer_proto.specs.Work.{oid_of}
use Rattle.vdi_directory.specs.Decisions.{log_effects}
use Rattle.vdi_ops.specs.Op.{Publishing, OpStage, Op}
use Rattle.sheep_node.specs.OwnEntries.{IsEntryOf}
use Rattle.sheep_node.specs.declared.course.Course.{Course}
use Rattle.sheep_node.specs.declared.course.Course.TheVariants.{Commanding}
use Rattle.sheep_node.specs.declared.course.Request.{Request}
use Rattle.sheep_node.specs.declared.session.Session.{Session}
use Rattle.sheep_node.specs.State.{new_session}
use Rattle.sheep_node.specs.May.{is_disk_course}
use Rattle.sheep_node.specs.SessionQueues.{CommandsAreAlone, command_in}
use Rattle.sheep_world.specs.Began.{Began}
use Rattle.sheep_world.specs.World.{Host}
use Rattle.sheep_world.proofs.NodesByTheLog.{knows_its_number}
use Rattle.sheep_world.specs.RunsWithAsks.{Move}
use Rattle.overlap_law.specs.CommandDisks.{opened_as, opened_in, IsOpenAtCourse, IsOpenAtStage}
use Rattle.overlap_law.specs.Courses.{IsOfStage, WaitsFor}
use Rattle.overlap_law.specs.MomentChanges.{RunsAreInRange}
use Rattle.overlap_law.specs.Past.{MomentWithPast, run_with_past}
use Rattle.overlap_law.specs.Tables.{writes_entry, IsEntryOpen}
use Rattle.overlap_law.specs.WriterClaims.{IsStageKept, HasClaims}
use Rattle.overlap_law.specs.Writers.{session_holder}
use Rattle.overlap_law.specs.Grants.{writer_of}
use Rattle.overlap_law.specs.MomentChanges as moments
use Rattle.overlap_law.proofs.AwaitedEntriesInMoments.{unread_of, own_entries}
use Rattle.overlap_law.proofs.AwaitedChanges.{AreAwaited}
use Rattle.overlap_law.proofs.AwaitedInRuns.{awaited_in_worlds}
use Rattle.overlap_law.proofs.ClaimPuts.{here_once}
use Rattle.overlap_law.proofs.ClaimsInRuns.{claims-in_run}
use Rattle.overlap_law.proofs.ClaimsOfPuts.{Publisher, publisher}
use Rattle.overlap_law.proofs.GrantedAttempts.{only_writer-in_run}
use Rattle.overlap_law.proofs.KeptIds.{lock-writer}
use Rattle.overlap_law.proofs.NoRecoveredDue.{began-with_past}
use Rattle.overlap_law.proofs.OpenDisksInRuns.{disks_fit-in_run}
use Rattle.overlap_law.proofs.KnownDisks.{vid-of_inode}
use Rattle.overlap_law.proofs.WaitedInRuns.{waited-in_run}
use Rattle.overlap_law.proofs.WaitedSteps.{no_id}
use Rattle.overlap_law.proofs.WholeInRuns.{sound_world}

-- a session's command waits for the entry by which the working disk of an id, which the session has open, becomes a snapshot
pub record IsTaking (moment : MomentWithPast) (n : ℕ) (host : Host) (vid : ℕ) : Type 0 where
  pub req : ℕ
  pub request : Request
  pub op : Op
  pub entry : Entry
  pub made : Option Content
  pub there : tree.get host.node.requests req ≡ Some request
  pub command : request.course ≡ Commanding op
  pub at : op.stage ≡ Publishing entry made
  pub session : Session
  pub of : tree.get host.node.sessions request.session ≡ Some session
  pub disk : Disk
  pub opened : session.disk ≡ Some disk
  pub working : disk.snapshot ≡ false
  pub own : disk.inode.vid ≡ vid
  pub writer : writer_of (log_effects moment.world.log) vid ≡ Some (session_holder n request.session)

-- what a session among some has open is a session's
pub opened_there : (sessions : tree.FinMap nat_cmp Session) (number vid : ℕ) (snapshot : Bool)
    → opened_in number sessions ≡ Some (snapshot, vid)
    → (session : Session) × (disk : Disk) × (tree.get sessions number ≡ Some session) × (session.disk ≡ Some disk)
    × (disk.snapshot ≡ snapshot) × (disk.inode.vid ≡ vid)
opened_there sessions number vid snapshot is = by_session (tree.get sessions number) refl is
  where
    by_disk : (session : Session) → tree.get sessions number ≡ Some session → (o : Option Disk) → session.disk ≡ o
        → opened_as o ≡ Some (snapshot, vid)
        → (session : Session) × (disk : Disk) × (tree.get sessions number ≡ Some session) × (session.disk ≡ Some disk)
        × (disk.snapshot ≡ snapshot) × (disk.inode.vid ≡ vid)
    by_disk session got None on is = absurd (cc (is))
    by_disk session got (Some disk) on is =
        let same : (disk.snapshot, disk.inode.vid) ≡ (snapshot, vid) = same_Some (disk.snapshot, disk.inode.vid) (snapshot, vid) is in
        (session, disk, got, on, ap (λ (p : Bool × ℕ). p.0) same, ap (λ (p : Bool × ℕ). p.1) same)

    by_session : (o : Option Session) → tree.get sessions number ≡ o → opened_as (unwrap_or o new_session).disk ≡ Some (snapshot, vid)
        → (session : Session) × (disk : Disk) × (tree.get sessions number ≡ Some session) × (session.disk ≡ Some disk)
        × (disk.snapshot ≡ snapshot) × (disk.inode.vid ≡ vid)
    by_session None got is = absurd (cc (is))
    by_session (Some session) got is = by_disk session got session.disk refl is

-- who writes an entry makes something of that inode
pub writes-making : (vid index : ℕ) (work : ObjWork) → writes_entry vid index work ≡ true → is_making work ≡ true
writes-making vid index (Create oid policy size offset bytes) is = absurd (cc (is))
writes-making vid index (Write oid policy offset bytes) is = refl
writes-making vid index (Read oid policy offset size) is = absurd (cc (is))
writes-making vid index (ReadAll oid policy size) is = absurd (cc (is))

pub writes-object : (vid index : ℕ) (work : ObjWork) → writes_entry vid index work ≡ true → oid_of work ≡ inode_number vid
writes-object vid index (Create oid policy size offset bytes) is = absurd (cc (is))
writes-object vid index (Write oid policy offset bytes) is =
    eqb-true oid (inode_number vid) (and_parts (oid == inode_number vid) (offset == INODE_HEADER_BYTES + 4 * index) is).0
writes-object vid index (Read oid policy offset size) is = absurd (cc (is))
writes-object vid index (ReadAll oid policy size) is = absurd (cc (is))

module _ (script : List Statement) (range : RunsAreInRange script) (events : List Move) (start : MomentWithPast)
    (is : run_with_past script events ≡ Some start) (n : ℕ) (host : Host) (there : tree.get start.world.hosts n ≡ Some host)
    (up : host.is_lost ≡ false) where
  began : Began script start.world
  began = began-with_past script events start is

  sole : CommandsAreAlone host.node
  sole = ((sound_world script range start.world began).hosts n host there).node.sole_commands

  -- who puts a snapshot's entry takes it
  module _ (by : NodeId) (old vid : Vid) (later : List Entry) (first : host.node.outbox ≡ Snapshot by old vid ∷ later) where
    own : All (IsEntryOf host.node.me) (Snapshot by old vid ∷ later)
    own = subst (All (IsEntryOf host.node.me)) first (own_entries script start.world began n host there).entries

    awaited : AreAwaited host.node.peer.entries host.node.me (unread_of start.world.log host.node) None host.node.me host.node.requests
        (Snapshot by old vid ∷ later)
    awaited =
        subst (λ (outbox : List Entry). AreAwaited host.node.peer.entries host.node.me (unread_of start.world.log host.node) None
        host.node.me
        host.node.requests outbox) first ((awaited_in_worlds script range start.world began).each n host there up)

    has : HasClaims start.world.log (Snapshot by old vid ∷ later) host.node.peer.entries (length host.node.peer.entries) host.node.me
        host.node.requests host.node.sessions
    has =
        subst (λ (outbox : List Entry). HasClaims start.world.log outbox host.node.peer.entries (length host.node.peer.entries) host.node.me
        host.node.requests host.node.sessions) first ((claims-in_run script range events start start is moments.Still).each n host there up)

    which : Publisher start.world.log (Snapshot by old vid) later host.node.peer.entries (length host.node.peer.entries) host.node.me
        (unread_of start.world.log host.node) host.node.requests host.node.sessions own awaited has
    which =
        publisher start.world.log (Snapshot by old vid) later host.node.peer.entries (length host.node.peer.entries) host.node.me
        (unread_of start.world.log host.node) host.node.requests host.node.sessions own awaited has (λ never. never)
        (All-head (IsEntryOf host.node.me) (Snapshot by old vid) later own)

    open_so : opened_in which.request.session host.node.sessions ≡ Some (false, old.0)
    open_so =
        (subst (IsOpenAtStage (opened_in which.request.session host.node.sessions)) which.at
        (subst (IsOpenAtCourse (opened_in which.request.session host.node.sessions)) which.command
        ((disks_fit-in_run script range events start start is moments.Still).each n host there up which.req which.request which.there))).0

    writer_so : writer_of (log_effects start.world.log) old.0 ≡ Some (session_holder n which.request.session)
    writer_so =
        let kept = subst (IsStageKept start.world.log (Snapshot by old vid ∷ later) host.node.peer.entries (length host.node.peer.entries)
        host.node.me which.request.session (opened_in which.request.session host.node.sessions)) which.at
        (has.commands which.req which.request which.op which.there which.command) in
        lock-writer start.world.log (Snapshot by old vid ∷ later) host.node.me which.request.session (epoch_of host.node.peer.entries) old.0
        (kept.of_disk (here_once start.world.log (Snapshot by old vid) later host.node.peer.entries (length host.node.peer.entries)
        host.node.me
        host.node.requests host.node.sessions own has))
        ∙ ap (λ (k : ℕ). Some (session_holder k which.request.session)) (knows_its_number script start.world began n host there)

    pub taking : IsTaking start n host old.0
    taking =
        let (session, disk, got, on, working, same) = opened_there host.node.sessions which.request.session old.0 false open_so in
        record {
          req = which.req;
          request = which.request;
          op = which.op;
          entry = Snapshot by old vid;
          made = which.made;
          there = which.there;
          command = which.command;
          at = which.at;
          session = session;
          of = got;
          disk = disk;
          opened = on;
          working = working;
          own = same;
          writer = writer_so;
        }

  -- its node writes no entry of that disk's inode
  module _ (vid index : ℕ) (takes : IsTaking start n host vid) (is_vid : IsVid vid) where
    pub none_entered : IsEntryOpen host.node vid index → ⊥
    none_entered entered =
        let work : Work = entered.work in
        let making = writes-making vid index work.work entered.writes in
        let writes = (only_writer-in_run script range events start start is moments.Still).each n host there up entered.req work
        entered.there making in
        let id : vid_of (oid_of work.work) ≡ vid
        = ap vid_of (writes-object vid index work.work entered.writes) ∙ vid-of_inode vid is_vid in
        let same : session_holder n writes.request.session ≡ session_holder n takes.request.session
        = same_Some (session_holder n writes.request.session) (session_holder n takes.request.session)
        (sym writes.may.writer ∙ ap (writer_of (log_effects start.world.log)) id ∙ takes.writer) in
        let command : command_in takes.request.session host.node.sessions ≡ Some takes.req
        = sole.named takes.req takes.request takes.there (ap is_disk_course takes.command) in
        let one : entered.req ≡ takes.req
        = sole.alone takes.request.session takes.req entered.req writes.request command writes.there
        (ap (λ (h : Holder). h.session) same) in
        let waits = (waited-in_run script range events start is).opened n host there up entered.req work entered.there in
        let request_so : waits.request ≡ takes.request
        = same_Some waits.request takes.request (sym waits.there ∙ ap (tree.get host.node.requests) one ∙ takes.there) in
        never waits.session.disk work.work waits.request.course takes.op (ap (λ (r : Request). r.course) request_so ∙ takes.command)
        takes.at waits.waits
      where
        never : (disk : Option Disk) (work : ObjWork) (course : Course) (op : Op) → course ≡ Commanding op
            → op.stage ≡ Publishing takes.entry takes.made
            → WaitsFor (log_effects start.world.log) no_id start.past.attempts disk course work → ⊥
        never disk work course op command at waits =
            subst (λ (stage : OpStage). IsOfStage (log_effects start.world.log) no_id start.past.attempts disk stage work) at
            (subst (λ (c : Course). WaitsFor (log_effects start.world.log) no_id start.past.attempts disk c work) command waits)
