-- A read or write of a session that has begun, at an object of the disk that the session has open, and another request that has an item in
-- a block of that object don't meet: at a node by the session's queue, and elsewhere since one session at most holds a disk.
use Rattle.std.proofs.Common.{◌≡◌, ◌≢◌, inl, inr, ⊎_elim, arith, ℕ, ◌+◌, ◌*◌, ◌/◌, ◌<◌, ◌==◌, Bool, true, false, List, ◌∷◌, length}
use Rattle.std.proofs.Common.{All, Contains, Option, Some, None, refl, sym, ap, subst, ◌∙◌}
use Rattle.std.specs.Prelude.{unwrap_or}
use Rattle.std.specs.FinMap as tree
use Rattle.std.proofs.lemmas.Bool.{and_from, eq-eqb}
use Rattle.std.proofs.lemmas.List.Elements.{All-head}
use Rattle.std.proofs.lemmas.Option.{same_Some}
use Rattle.disk_lock.specs.declared.holder.Holder.{Holder}
use Rattle.vdi_directory.specs.Effects.{holder_of}
use Rattle.vdi_directory.specs.Decisions.{log_effects}
use Rattle.cluster_script.specs.declared.statement.Statement.{Statement}
use Rattle.gateway_queue.specs.declared.queue.Queued.{Queued}
use Rattle.gateway_queue.specs.Queue.{Covers, may_run}
use Rattle.guest_driver.specs.declared.disk.Disk.{Disk}
use Rattle.guest_driver.specs.Driver.{Driver}
use Rattle.guest_driver.specs.OnDisk.{pieces_left}
use Rattle.guest_driver.specs.Pieces.{Piece}
use Rattle.peer_proto.specs.declared.guest.DiskAsk.{DiskAsk}
use Rattle.peer_proto.specs.declared.guest.DiskAsk.TheVariants as disk_asks
use Rattle.peer_proto.specs.declared.guest.VdiAsk.TheVariants as disk_commands
use Rattle.sheep_node.specs.declared.ask.Ask.{Ask}
use Rattle.sheep_node.specs.declared.ask.Ask.TheVariants as asks
use Rattle.sheep_node.specs.declared.course.Course.{Course}
use Rattle.sheep_node.specs.declared.course.Course.TheVariants.{Waiting, Driving, Commanding, Checking, DoingWork, AwaitingDecision}
use Rattle.sheep_node.specs.declared.course.Request.{Request}
use Rattle.sheep_node.specs.declared.session.Session.{Session}
use Rattle.sheep_node.specs.May.{is_disk_course}
use Rattle.sheep_node.specs.SessionQueues.{session_among, queue_in, is_disk_request_of, IsQueued}
use Rattle.sheep_node.specs.State.{Node, new_session}
use Rattle.sheep_node.proofs.SessionViews.{IsSeen}
use Rattle.sheep_world.specs.World.{Host}
use Rattle.sheep_world.specs.RunsWithAsks.{Move}
use Rattle.vdi_ops.specs.Op.{Op}
use Rattle.overlap_law.specs.MomentChanges.{MomentTrail, RunsAreInRange}
use Rattle.overlap_law.specs.Past.{MomentWithPast, run_with_past}
use Rattle.overlap_law.specs.RequestsOfScript.{IsCourseOfAsk}
use Rattle.overlap_law.specs.Sessions.{HoldsDisk, IsLettingGo}
use Rattle.overlap_law.specs.WriterClaims.{IsDiskKept}
use Rattle.overlap_law.specs.Writers.{session_holder}
use Rattle.overlap_law.specs.WrittenBlocks.{blocks_per_object}
use Rattle.overlap_law.proofs.AllowedCourses.{IsAllowed, opened_by}
use Rattle.overlap_law.proofs.AloneBlocks as blocks
use Rattle.overlap_law.proofs.CausedWorks.{HasWellWorks}
use Rattle.overlap_law.proofs.ClaimsInRuns.{claims-in_run}
use Rattle.overlap_law.proofs.CoursesOfScript.{asked_by}
use Rattle.overlap_law.proofs.CoveredCourses.{size_and_queue, shift_open, IsCovered}
use Rattle.overlap_law.proofs.CoveredPieces.{CoversPiece}
use Rattle.overlap_law.proofs.DisksOfWriters.{AsksToWrite, plain_course}
use Rattle.overlap_law.proofs.EntryWorks.{known_disk}
use Rattle.overlap_law.proofs.HeldDisks.{held-in_run}
use Rattle.overlap_law.proofs.HoldersInWorlds.{held_given}
use Rattle.overlap_law.proofs.NoRecoveredDue.{began-with_past}
use Rattle.overlap_law.proofs.PiecesUnderWay.{whole_blocks}
use Rattle.overlap_law.proofs.QueuesInMoments.{HasGoodQueues}
use Rattle.overlap_law.proofs.SessionsApart.{turns_apart}
use Rattle.overlap_law.proofs.SoundWorking.{working_course}
use Rattle.overlap_law.proofs.StandingMeets.{write_covers}
use Rattle.overlap_law.proofs.TablesOfReads.{queues_along}
use Rattle.overlap_law.proofs.WorksInMoments.{well_along}

-- ---- at a node

-- what the queue of its session has for a request covers an object
abbrev pub CoversIndex : Node → ℕ → ℕ → ℕ → Type 0
CoversIndex node session req index =
    (one : Queued) → Contains (queue_in session node.sessions) one → one.req ≡ req → Covers one index

-- a request is a read or write that may run, at an object
pub record RunsAt (node : Node) (session req index : ℕ) : Type 0 where
  pub course : Course
  pub got : tree.get node.requests req ≡ Some (record { session = session; course = course })
  pub on_disk : is_disk_course course ≡ true
  pub runs : may_run req (queue_in session node.sessions) ≡ true
  pub covers : CoversIndex node session req index

module _ (node : Node) (well : HasWellWorks node) (queues : HasGoodQueues node) where
  -- where a request is that isn't a command, no command goes on in its session
  pub none_beside : (req : ℕ) (request : Request) → tree.get node.requests req ≡ Some request
      → ((op : Op) → request.course ≡ Commanding op → ⊥) → (other : ℕ) (second : Request) (op : Op)
      → tree.get node.requests other ≡ Some second → second.session ≡ request.session → second.course ≡ Commanding op → ⊥
  none_beside req request got plain other second op found of command =
      let off : is_disk_course second.course ≡ false = ap is_disk_course command in
      let same : req ≡ other
      = well.alone.alone second.session other req request (well.alone.named other second found off) got (sym of) in
      let one : request ≡ second = same_Some request second (sym got ∙ ap (tree.get node.requests) same ∙ found) in
      plain op (ap (λ (r : Request). r.course) one ∙ command)

  -- what stands in its session's queue for a read or write
  queued : (session req : ℕ) (request : Request) → tree.get node.requests req ≡ Some request → request.session ≡ session
      → is_disk_course request.course ≡ true → IsQueued req (queue_in session node.sessions)
  queued session req request got of on =
      queues.queues.has session req
      (ap (is_disk_request_of session) got
      ∙ and_from (request.session == session) (is_disk_course request.course) (eq-eqb request.session session of) on)

  -- what it has for one that has begun
  pub covered : (req : ℕ) (request : Request) → tree.get node.requests req ≡ Some request
      → IsCovered req (size_and_queue (session_among request.session node.sessions)) request.course
  covered req request got = subst (IsSeen size_and_queue (IsCovered req) node.sessions) got (queues.covered req)

  -- two of a session don't meet: one that is no read or write is alone, and two of these take turns
  pub never_meet : (session req q index : ℕ) → req ≢ q → RunsAt node session req index → (other : Request)
      → tree.get node.requests q ≡ Some other → other.session ≡ session
      → (is_disk_course other.course ≡ true → may_run q (queue_in session node.sessions) ≡ true)
      → (is_disk_course other.course ≡ true → CoversIndex node session q index) → ⊥
  never_meet session req q index apart reads other got of runs covers = by_kind (is_disk_course other.course) refl
    where
      mine : Request
      mine = record { session = session; course = reads.course }

      by_kind : (b : Bool) → is_disk_course other.course ≡ b → ⊥
      by_kind false off =
          apart (well.alone.alone other.session q req mine (well.alone.named q other got off) reads.got (sym of))
      by_kind true on =
          let own = queued session req mine reads.got refl reads.on_disk in
          let its = queued session q other got of on in
          let queue : List Queued = queue_in session node.sessions in
          let differ : own.0.req ≢ its.0.req = λ (tie : own.0.req ≡ its.0.req). apart (sym own.2 ∙ tie ∙ its.2) in
          turns_apart queue own.0 its.0 (queues.once session) own.1 its.1 differ
          (ap (λ (k : ℕ). may_run k queue) own.2 ∙ reads.runs) (ap (λ (k : ℕ). may_run k queue) its.2 ∙ runs on) index
          (reads.covers own.0 own.1 own.2) (covers on its.0 its.1 its.2)

  -- a read or write that has begun runs at the piece that it is at
  pub runs_at_piece : (req : ℕ) (request : Request) → tree.get node.requests req ≡ Some request → (driver : Driver)
      → request.course ≡ Driving driver → (piece : Piece) (rest : List Piece) → pieces_left driver ≡ piece ∷ rest
      → RunsAt node request.session req piece.index
  runs_at_piece req request got driver course piece rest at_piece =
      let here : IsCovered req (size_and_queue (session_among request.session node.sessions)) (Driving driver)
      = subst (IsCovered req (size_and_queue (session_among request.session node.sessions))) course (covered req request got) in
      record {
        course = request.course;
        got = got;
        on_disk = ap is_disk_course course;
        runs = here.0;
        covers = λ one among own. All-head (CoversPiece one) piece rest (subst (All (CoversPiece one)) at_piece (here.1 one among own).0);
      }

-- ---- who writes a block of an object

-- a block is one of those of a write
pub record IsOwnBlock (offset : ℕ) (payload : List ℕ) (block : ℕ) : Type 0 where
  pub place : ℕ
  pub inside : place < length payload / 512
  pub at : block ≡ offset / 512 + place

-- what asks to write
pub record WritesIn (asked : Option Ask) (opened : Option Disk) (course : Course) (block : ℕ) : Type 0 where
  pub writes : AsksToWrite asked
  pub began : Option ℕ
  pub is : IsCourseOfAsk asked opened began course
  pub own : (offset : ℕ) (payload : List ℕ) → asked ≡ Some (asks.Disk (disk_asks.Write offset payload)) → IsOwnBlock offset payload block

module _ (script : List Statement) (range : RunsAreInRange script) (host : Host) (well : HasWellWorks host.node)
    (queues : HasGoodQueues host.node) (q : ℕ) (request : Request) (got : tree.get host.node.requests q ≡ Some request) (opened : Disk)
    (on : (session_among request.session host.node.sessions).disk ≡ Some opened) (index unit : ℕ)
    (inside : unit < blocks_per_object opened.inode.spec)
    (w : WritesIn (asked_by script q) (session_among request.session host.node.sessions).disk request.course
    (index * blocks_per_object opened.inode.spec + unit)) where
  abbrev place : Session
  place = session_among request.session host.node.sessions

  -- the queue covers the object for a write that has the block
  covers_written : (offset : ℕ) (payload : List ℕ) → asked_by script q ≡ Some (asks.Disk (disk_asks.Write offset payload))
      → CoversIndex host.node request.session q index
  covers_written offset payload is one among own =
      let block = w.own offset payload is in
      let shift = (known_disk host.node well request.session opened on).disk.spec_valid.shift.0 in
      let whole = whole_blocks script range q offset payload is host in
      write_covers q offset payload (asked_by script q) is place.disk w.began place.queue one among own opened.inode.spec.shift
      (ap shift_open on) index
      (blocks.first opened.inode.spec.shift offset index unit block.place payload (omega (arith, shift)) whole.0 inside block.inside
      block.at)
      (blocks.last opened.inode.spec.shift offset index unit block.place payload (omega (arith, shift)) whole.0 inside block.inside
      block.at)
      request.course w.is (covered host.node well queues q request got)

  pub writer_covers : is_disk_course request.course ≡ true → CoversIndex host.node request.session q index
  writer_covers on_disk = by_asked w.writes
    where
      none_checks : (course : Course) → is_disk_course course ≡ true → (checks : asked_by script q ≡ Some (asks.Vdi disk_commands.Check))
          → IsCourseOfAsk (asked_by script q) place.disk w.began course → ⊥
      none_checks (Waiting ask) disk checks is = let of = is.0 in cc (checks, of)
      none_checks (Driving driver) disk checks is = let of = is.of in cc (checks, of)
      none_checks (Commanding op) disk checks is = cc (disk)
      none_checks (Checking check) disk checks is = cc (disk)
      none_checks (DoingWork work) disk checks is = cc (disk)
      none_checks (AwaitingDecision entry) disk checks is = cc (disk)

      by_asked : AsksToWrite (asked_by script q) → CoversIndex host.node request.session q index
      by_asked (inl (offset, payload, is)) = covers_written offset payload is
      by_asked (inr checks) = absurd (none_checks request.course on_disk checks w.is)

  -- one that has begun may run
  pub writer_runs : ((ask : DiskAsk) → request.course ≡ Waiting ask → ⊥) → is_disk_course request.course ≡ true
      → may_run q (queue_in request.session host.node.sessions) ≡ true
  writer_runs begun on_disk = by_course request.course refl on_disk
    where
      by_course : (course : Course) → request.course ≡ course → is_disk_course course ≡ true
          → may_run q (queue_in request.session host.node.sessions) ≡ true
      by_course (Waiting ask) is disk = absurd (begun ask is)
      by_course (Driving driver) is disk =
          (subst (IsCovered q (size_and_queue place)) is (covered host.node well queues q request got)).0
      by_course (Commanding op) is disk = absurd (cc (disk))
      by_course (Checking check) is disk = absurd (cc (disk))
      by_course (DoingWork work) is disk = absurd (cc (disk))
      by_course (AwaitingDecision entry) is disk = absurd (cc (disk))

-- ---- at a moment on the way of an event

module _ (script : List Statement) (range : RunsAreInRange script) (events : List Move) (start moment : MomentWithPast)
    (ran : run_with_past script events ≡ Some start) (trail : MomentTrail script start moment) where
  well_here : (n : ℕ) (host : Host) → tree.get moment.world.hosts n ≡ Some host → HasWellWorks host.node
  well_here = well_along script range start (began-with_past script events start ran) trail

  queues_here : (n : ℕ) (host : Host) → tree.get moment.world.hosts n ≡ Some host → HasGoodQueues host.node
  queues_here = queues_along script range start (began-with_past script events start ran) trail

  module _ (n : ℕ) (host : Host) (there : tree.get moment.world.hosts n ≡ Some host) (up : host.is_lost ≡ false) (number : ℕ) (disk : Disk)
      (opened : (session_among number host.node.sessions).disk ≡ Some disk) where
    -- a session holds its working disk, where no command goes on in it
    pub held_then : disk.snapshot ≡ false
        → ((req : ℕ) (request : Request) (op : Op) → tree.get host.node.requests req ≡ Some request → request.session ≡ number
        → request.course ≡ Commanding op → ⊥)
        → holder_of (log_effects moment.world.log) disk.inode.vid ≡ Some (session_holder n number)
    held_then working none = by_session (tree.get host.node.sessions number) refl
      where
        by_session : (o : Option Session) → tree.get host.node.sessions number ≡ o
            → holder_of (log_effects moment.world.log) disk.inode.vid ≡ Some (session_holder n number)
        by_session None got =
            let closed : (session_among number host.node.sessions).disk ≡ None
            = ap (λ (o : Option Session). (unwrap_or o new_session).disk) got in
            absurd (cc (opened, closed))
        by_session (Some session) got =
            let own : session.disk ≡ Some disk
            = sym (ap (λ (o : Option Session). (unwrap_or o new_session).disk) got) ∙ opened in ⊎_elim
            (λ (holds : HoldsDisk moment.world.log n number disk.inode.vid host.node). holds.holder)
            (λ (goes : IsLettingGo host.node number). absurd (none goes.req goes.request goes.op goes.there goes.own goes.command))
            ((held-in_run script range events start moment ran trail).each n host there up number session disk got own working)

    -- and nobody holds a snapshot
    pub snapshot_free : disk.snapshot ≡ true → (holder : Holder)
        → holder_of (log_effects moment.world.log) disk.inode.vid ≡ Some holder → ⊥
    snapshot_free snapshot holder held =
        held_given moment.world.log disk.inode.vid holder held
        (subst (λ (b : Bool).
        IsDiskKept moment.world.log host.node.outbox host.node.peer.entries host.node.me host.node.requests number b disk.inode) snapshot
        (((claims-in_run script range events start moment ran trail).each n host there up).disks number disk opened))

  -- a request that writes a block of a disk, on the disk that its session has open
  pub record WritesAt (q vid block : ℕ) : Type 0 where
    pub n : ℕ
    pub host : Host
    pub there : tree.get moment.world.hosts n ≡ Some host
    pub up : host.is_lost ≡ false
    pub request : Request
    pub got : tree.get host.node.requests q ≡ Some request
    pub opened : Disk
    pub on : (session_among request.session host.node.sessions).disk ≡ Some opened
    pub same : opened.inode.vid ≡ vid
    pub writes : WritesIn (asked_by script q) (session_among request.session host.node.sessions).disk request.course block

  module _ (q vid block : ℕ) (w : WritesAt q vid block) where
    plain : (op : Op) → w.request.course ≡ Commanding op → ⊥
    plain =
        (plain_course (asked_by script q) w.writes.writes (session_among w.request.session w.host.node.sessions).disk w.writes.began
        w.request.course w.writes.is).plain

    -- the session holds it
    pub writer_holds : holder_of (log_effects moment.world.log) vid ≡ Some (session_holder w.n w.request.session)
    writer_holds =
        let well = well_here w.n w.host w.there in
        let allowed : IsAllowed (opened_by (session_among w.request.session w.host.node.sessions)) w.request.course
        = subst (IsSeen opened_by IsAllowed w.host.node.sessions) w.got (well.allowed q) in
        let working : w.opened.snapshot ≡ false
        = working_course (session_among w.request.session w.host.node.sessions).disk w.opened (asked_by script q) w.writes.began
        w.request.course w.on w.writes.writes w.writes.is allowed plain in
        ap (holder_of (log_effects moment.world.log)) (sym w.same)
        ∙ held_then w.n w.host w.there w.up w.request.session w.opened w.on working
        (none_beside w.host.node well (queues_here w.n w.host w.there) q w.request w.got plain)

  -- who has the disk open, with a read or write on it, is of the same session
  pub record IsSameSession (n number its_n its_number : ℕ) : Type 0 where
    pub node : its_n ≡ n
    pub session : its_number ≡ number

  pub same_session : (q block n : ℕ) (host : Host) → tree.get moment.world.hosts n ≡ Some host → host.is_lost ≡ false → (req : ℕ)
      (request : Request) → tree.get host.node.requests req ≡ Some request → is_disk_course request.course ≡ true → (opened : Disk)
      → (session_among request.session host.node.sessions).disk ≡ Some opened → (w : WritesAt q opened.inode.vid block)
      → IsSameSession n request.session w.n w.request.session
  same_session q block n host there up req request got on_disk opened on w = by_kind opened.snapshot refl
    where
      held : holder_of (log_effects moment.world.log) opened.inode.vid ≡ Some (session_holder w.n w.request.session)
      held = writer_holds q opened.inode.vid block w

      plain_here : (op : Op) → request.course ≡ Commanding op → ⊥
      plain_here op is = let off : is_disk_course request.course ≡ false = ap is_disk_course is in cc (off, on_disk)

      by_kind : (b : Bool) → opened.snapshot ≡ b → IsSameSession n request.session w.n w.request.session
      by_kind true snapshot =
          absurd (snapshot_free n host there up request.session opened on snapshot (session_holder w.n w.request.session) held)
      by_kind false working =
          let own = held_then n host there up request.session opened on working
          (none_beside host.node (well_here n host there) (queues_here n host there) req request got plain_here) in
          let same : session_holder w.n w.request.session ≡ session_holder n request.session
          = same_Some (session_holder w.n w.request.session) (session_holder n request.session) (sym held ∙ own) in
          record { node = ap (λ (h : Holder). h.node.0) same; session = ap (λ (h : Holder). h.session) same }

  -- so a read or write that has begun doesn't meet another request that has begun and writes a block of the object that it is at
  pub none_at : (n : ℕ) (host : Host) → tree.get moment.world.hosts n ≡ Some host → host.is_lost ≡ false → (req : ℕ)
      (request : Request) (driver : Driver) (piece : Piece) (rest : List Piece) (opened : Disk)
      → tree.get host.node.requests req ≡ Some request → (session_among request.session host.node.sessions).disk ≡ Some opened
      → request.course ≡ Driving driver → pieces_left driver ≡ piece ∷ rest → (unit q : ℕ) → unit < blocks_per_object opened.inode.spec
      → (w : WritesAt q opened.inode.vid (piece.index * blocks_per_object opened.inode.spec + unit)) → req ≢ q
      → ((ask : DiskAsk) → w.request.course ≡ Waiting ask → ⊥) → ⊥
  none_at n host there up req request driver piece rest opened got on course at_piece unit q inside w apart begun =
      never_meet host.node well queues request.session req q piece.index apart
      (runs_at_piece host.node well queues req request got driver course piece rest at_piece) w.request got_too same.session
      (λ (disk : is_disk_course w.request.course ≡ true).
      subst (λ (k : ℕ). may_run q (queue_in k host.node.sessions) ≡ true) same.session
      (writer_runs script range host well queues q w.request got_too opened on_too piece.index unit inside writes begun disk))
      (λ (disk : is_disk_course w.request.course ≡ true).
      subst (λ (k : ℕ). CoversIndex host.node k q piece.index) same.session
      (writer_covers script range host well queues q w.request got_too opened on_too piece.index unit inside writes disk))
    where
      well : HasWellWorks host.node
      well = well_here n host there

      queues : HasGoodQueues host.node
      queues = queues_here n host there

      same : IsSameSession n request.session w.n w.request.session
      same =
          same_session q (piece.index * blocks_per_object opened.inode.spec + unit) n host there up req request got
          (ap is_disk_course course) opened on w

      host_so : w.host ≡ host
      host_so = same_Some w.host host (sym w.there ∙ ap (tree.get moment.world.hosts) same.node ∙ there)

      got_too : tree.get host.node.requests q ≡ Some w.request
      got_too = ap (λ (h : Host). tree.get h.node.requests q) (sym host_so) ∙ w.got

      on_too : (session_among w.request.session host.node.sessions).disk ≡ Some opened
      on_too = ap (λ (k : ℕ). (session_among k host.node.sessions).disk) same.session ∙ on

      writes : WritesIn (asked_by script q) (session_among w.request.session host.node.sessions).disk w.request.course
          (piece.index * blocks_per_object opened.inode.spec + unit)
      writes = subst (λ (h : Host). WritesIn (asked_by script q) (session_among w.request.session h.node.sessions).disk w.request.course
          (piece.index * blocks_per_object opened.inode.spec + unit)) host_so w.writes
