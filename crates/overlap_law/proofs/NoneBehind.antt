-- No create or write is open on the object of a piece that a write has behind it: its session alone may write the disk, and what has begun
-- of a session meets on no index. So no attempt begins there.
use Rattle.std.proofs.Common.{◌≡◌, ◌≢◌, ◌⊎◌, inl, ⊎_elim, arith, ℕ, ◌<◌, ◌==◌, true, false, List, ◌∷◌, ◌++◌, length, All, Contains}
use Rattle.std.proofs.Common.{Option, Some, refl, sym, ap, subst, ◌∙◌}
use Rattle.std.specs.FinMap as tree
use Rattle.std.proofs.lemmas.Bool.{and_from, cases_eq, eq-eqb}
use Rattle.std.proofs.lemmas.List.Elements.{All-head, All-contains}
use Rattle.std.proofs.lemmas.Option.{same_Some}
use Rattle.proof_tools.proofs.FiniteMaps.{get-insert_same}
use Rattle.disk_lock.specs.declared.holder.Holder.{Holder}
use Rattle.object_id.specs.declared.limits.TheConstants.{OBJECTS_MAX}
use Rattle.object_id.specs.Oid.{IsVid, vid_of, inode_number, object_number}
use Rattle.cluster_script.specs.declared.statement.Statement.{Statement}
use Rattle.vdi_directory.specs.Decisions.{log_effects}
use Rattle.peer_proto.specs.declared.work.ObjWork.{ObjWork}
use Rattle.peer_proto.specs.declared.work.ObjWork.TheVariants as works
use Rattle.peer_proto.specs.Work.{oid_of}
use Rattle.gateway.specs.State.{Work, Open}
use Rattle.gateway.specs.Work.{is_making}
use Rattle.gateway_queue.specs.Queue.{may_run, Covers}
use Rattle.guest_driver.specs.declared.disk.Disk.{Disk}
use Rattle.guest_driver.specs.Driver as drivers
use Rattle.guest_driver.specs.Driver.{Driver, Reads, Writes, DriverStage, InPlace, Fetching, Creating, Entering}
use Rattle.guest_driver.specs.OnDisk.{pieces_left}
use Rattle.guest_driver.specs.PieceWorks.{object_bytes}
use Rattle.guest_driver.specs.Pieces.{Piece, pieces}
use Rattle.sheep_node.specs.declared.course.Course.{Course}
use Rattle.sheep_node.specs.declared.course.Course.TheVariants.{Waiting, Driving, Commanding, Checking, DoingWork, AwaitingDecision}
use Rattle.sheep_node.specs.declared.course.Request.{Request}
use Rattle.sheep_node.specs.Changes.{attempt_in}
use Rattle.sheep_node.specs.Courses.{inode_open}
use Rattle.sheep_node.specs.May.{is_disk_course}
use Rattle.sheep_node.specs.SessionQueues.{session_among, queue_in, is_disk_request_of, IsQueued}
use Rattle.sheep_node.specs.State.{Node}
use Rattle.sheep_node.specs.WantedWorks.{IsWorkWanted, IsWantedAt, IsWorkOfDriver, IsWorkOfWrite}
use Rattle.sheep_node.proofs.SessionViews.{IsSeen}
use Rattle.sheep_world.specs.NodeCauses.{host_with_node}
use Rattle.sheep_world.specs.World.{Host}
use Rattle.sheep_world.specs.RunsWithAsks.{Move}
use Rattle.overlap_law.specs.Attempts.{AttemptRecord, object_of}
use Rattle.overlap_law.specs.Grants.{writer_of}
use Rattle.overlap_law.specs.MomentChanges.{MomentChange, MomentTrail, Then, RunsAreInRange}
use Rattle.overlap_law.specs.Past.{MomentWithPast, run_with_past}
use Rattle.overlap_law.specs.WriterClaims.{holder_at}
use Rattle.overlap_law.specs.Writers.{session_holder}
use Rattle.overlap_law.proofs.AloneHolders.{write_holder}
use Rattle.overlap_law.proofs.AnswersInMoments.{not_lost}
use Rattle.overlap_law.proofs.CausedWorks.{HasWellWorks}
use Rattle.overlap_law.proofs.CoveredCourses.{size_and_queue, shift_open, IsCovered}
use Rattle.overlap_law.proofs.CoveredPieces.{CoversPiece}
use Rattle.overlap_law.proofs.DriverEntries.{no_inode}
use Rattle.overlap_law.proofs.EntryWorks.{known_disk}
use Rattle.overlap_law.proofs.GrantsOfCommands.{sound_along}
use Rattle.overlap_law.proofs.GrantedAttempts.{only_writer-in_run}
use Rattle.overlap_law.proofs.KnownDisks.{FewAt, IsKnownCourse, vid-of_object}
use Rattle.overlap_law.proofs.NewAttempts.{IsOpened}
use Rattle.overlap_law.proofs.NoRecoveredDue.{began-with_past}
use Rattle.overlap_law.proofs.PiecesBehind.{before_earlier, cut_once}
use Rattle.overlap_law.proofs.QueuesInMoments.{HasGoodQueues, queues_after}
use Rattle.overlap_law.proofs.SessionsApart.{turns_apart}
use Rattle.overlap_law.proofs.WorksInMoments.{well_after}

-- a piece is behind a write, or is made, and its entry is being written
abbrev pub IsBehind : List Piece → DriverStage → Piece → Piece → Type 0
IsBehind before stage piece one = Contains before one ⊎ ((stage ≡ Entering) × (one ≡ piece))

-- ---- in a node

module _ (node : Node) (well : HasWellWorks node) (queues : HasGoodQueues node) (req : ℕ) (request : Request)
    (there : tree.get node.requests req ≡ Some request) (opened : Disk)
    (at : (session_among request.session node.sessions).disk ≡ Some opened) (payload : List ℕ) (stage : DriverStage) (piece : Piece)
    (rest : List Piece) (course : request.course ≡ Driving (Writes payload stage piece rest)) (offset : ℕ) (before : List Piece)
    (cut : pieces opened.inode.spec.shift offset (length payload) ≡ before ++ piece ∷ rest) (one : Piece)
    (behind : IsBehind before stage piece one) where
  id : IsVid opened.inode.vid
  id = (known_disk node well request.session opened at).disk.id

  few_here : piece.index < OBJECTS_MAX
  few_here =
      All-head FewAt piece rest (subst (IsKnownCourse well.known) course (well.on_known.courses req request there))

  pub few_one : one.index < OBJECTS_MAX
  few_one = ⊎_elim
      (λ (among : Contains before one).
      let less = before_earlier opened.inode.spec.shift offset (length payload) before rest piece cut one among in
      let few = few_here in
      omega (arith, less, few))
      (λ (entered : (stage ≡ Entering) × (one ≡ piece)). subst (λ (p : Piece). p.index < OBJECTS_MAX) (sym entered.1) few_here)
      behind

  -- it is another object than that of the piece, but for a piece whose entry is being written
  other_index : (stage ≢ Entering) → one.index ≡ piece.index → ⊥
  other_index apart same = ⊎_elim
      (λ (among : Contains before one).
      let less = before_earlier opened.inode.spec.shift offset (length payload) before rest piece cut one among in
      omega (arith, less, same))
      (λ (entered : (stage ≡ Entering) × (one ≡ piece)). apart entered.0)
      behind

  -- what the queue has for the write covers it
  queued : IsQueued req (queue_in request.session node.sessions)
  queued =
      queues.queues.has request.session req
      (ap (is_disk_request_of request.session) there
      ∙ and_from (request.session == request.session) (is_disk_course request.course) (eq-eqb request.session request.session refl)
      (ap is_disk_course course))

  covered : IsCovered req (size_and_queue (session_among request.session node.sessions)) (Driving (Writes payload stage piece rest))
  covered =
      subst (IsCovered req (size_and_queue (session_among request.session node.sessions))) course
      (subst (IsSeen size_and_queue (IsCovered req) node.sessions) there (queues.covered req))

  covers : Covers queued.0 one.index
  covers = ⊎_elim
      (λ (among : Contains before one).
      let (start, front, other, all) = (covered.1 queued.0 queued.1 queued.2).1 opened.inode.spec.shift (ap shift_open at) in
      All-contains (CoversPiece queued.0) before one
      (subst (All (CoversPiece queued.0))
      (cut_once opened.inode.spec.shift offset start (length payload) before front rest piece cut other) all) among)
      (λ (entered : (stage ≡ Entering) × (one ≡ piece)).
      subst (CoversPiece queued.0) (sym entered.1)
      (All-head (CoversPiece queued.0) piece rest (covered.1 queued.0 queued.1 queued.2).0))
      behind

  -- a create or write of the session on its object
  module _ (q : ℕ) (work : Work) (got : tree.get node.gateway.works q ≡ Some work) (other : Request)
      (there_too : tree.get node.requests q ≡ Some other) (own : other.session ≡ request.session) (making : is_making work.work ≡ true)
      (object : oid_of work.work ≡ object_number opened.inode.vid one.index) where
    wanted : IsWorkWanted (inode_open (session_among other.session node.sessions).disk) other.course work.work
    wanted =
        subst (λ (o : Option Request). IsWantedAt node.sessions o work.work) there_too
        (well.wanted q work.work (inl (work, got, refl)))

    at_too : (session_among other.session node.sessions).disk ≡ Some opened
    at_too = ap (λ (k : ℕ). (session_among k node.sessions).disk) own ∙ at

    few_too : (driver : Driver) → other.course ≡ Driving driver → All FewAt (pieces_left driver)
    few_too driver is = subst (IsKnownCourse well.known) is (well.on_known.courses q other there_too)

    -- a read makes nothing
    reads : (what : ObjWork) → work.work ≡ what → is_making what ≡ false → ⊥
    reads what is read = let none : is_making work.work ≡ false = ap is_making is ∙ read in cc (none, making)

    -- the same object is one of the same index
    same_index : (index : ℕ) → index < OBJECTS_MAX → oid_of work.work ≡ object_number opened.inode.vid index → one.index ≡ index
    same_index index few of =
        let same : object_number opened.inode.vid one.index ≡ object_number opened.inode.vid index = sym object ∙ of in
        let few_own = few_one in
        omega (arith, few, few_own, same)

    entered_not : (at_piece : Piece) → oid_of work.work ≡ inode_number opened.inode.vid → ⊥
    entered_not at_piece of = no_inode opened.inode.vid one.index opened.inode.vid id few_one (sym object ∙ of)

    created_of : (made : Piece) (start : ℕ) (bytes : List ℕ) → work.work
        ≡ works.Create (object_number opened.inode.vid made.index) opened.inode.spec.policy (object_bytes opened.inode) start bytes
        → oid_of work.work ≡ object_number opened.inode.vid made.index
    created_of made start bytes is = ap oid_of is

    -- the write itself is at another object
    own_stage : (now : DriverStage) → stage ≡ now → IsWorkOfWrite opened.inode payload piece work.work now → ⊥
    own_stage InPlace now is =
        other_index (λ (entering : stage ≡ Entering). let never = sym now ∙ entering in absurd (cc (never)))
        (same_index piece.index few_here (ap oid_of is))
    own_stage Fetching now (vid, is) = reads _ is refl
    own_stage Creating now (start, bytes, is) =
        other_index (λ (entering : stage ≡ Entering). let never = sym now ∙ entering in absurd (cc (never)))
        (same_index piece.index few_here (created_of piece start bytes (cc (is))))
    own_stage Entering now is = entered_not piece (ap oid_of is)

    own_not : q ≡ req → ⊥
    own_not same =
        let found : other ≡ request = same_Some other request (sym there_too ∙ ap (tree.get node.requests) same ∙ there) in
        own_stage stage refl
        (subst (λ (c : Course). IsWorkWanted (inode_open (Some opened)) c work.work)
        (ap (λ (r : Request). r.course) found ∙ course)
        (subst (λ (o : Option Disk). IsWorkWanted (inode_open o) other.course work.work) at_too wanted))

    -- another request of the session is a read or write that has begun
    module _ (apart : q ≢ req) where
      alone_not : is_disk_course other.course ≡ false → ⊥
      alone_not off =
          apart (sym (well.alone.alone other.session q req request (well.alone.named q other there_too off) there (sym own)))

      at_index : (driver : Driver) → other.course ≡ Driving driver → All FewAt (pieces_left driver) → (its : Piece) (left : List Piece)
          → pieces_left driver ≡ its ∷ left → oid_of work.work ≡ object_number opened.inode.vid its.index → ⊥
      at_index driver driven few its left is of =
          let next : IsQueued q (queue_in request.session node.sessions)
          = queues.queues.has request.session q
          (ap (is_disk_request_of request.session) there_too
          ∙ and_from (other.session == request.session) (is_disk_course other.course) (eq-eqb other.session request.session own)
          (ap is_disk_course driven)) in
          let its_covered : IsCovered q (size_and_queue (session_among request.session node.sessions)) (Driving driver)
          = subst (IsCovered q (size_and_queue (session_among request.session node.sessions))) driven
          (subst (λ (k : ℕ). IsCovered q (size_and_queue (session_among k node.sessions)) other.course) own
          (subst (IsSeen size_and_queue (IsCovered q) node.sessions) there_too (queues.covered q))) in
          let its_few : its.index < OBJECTS_MAX = All-head FewAt its left (subst (All FewAt) is few) in
          let index : one.index ≡ its.index = same_index its.index its_few of in
          let its_covers : Covers next.0 its.index
          = All-head (CoversPiece next.0) its left
          (subst (All (CoversPiece next.0)) is (its_covered.1 next.0 next.1 next.2).0) in
          let differ : queued.0.req ≢ next.0.req
          = λ (tie : queued.0.req ≡ next.0.req). apart (sym next.2 ∙ sym tie ∙ queued.2) in
          turns_apart (queue_in request.session node.sessions) queued.0 next.0 (queues.once request.session) queued.1 next.1 differ
          (ap (λ (k : ℕ). may_run k (queue_in request.session node.sessions)) queued.2 ∙ covered.0)
          (ap (λ (k : ℕ). may_run k (queue_in request.session node.sessions)) next.2 ∙ its_covered.0) one.index covers
          (subst (Covers next.0) (sym index) its_covers)

      its_stage : (bytes : List ℕ) (its : Piece) (left : List Piece) (now : DriverStage)
          → other.course ≡ Driving (Writes bytes now its left) → IsWorkOfWrite opened.inode bytes its work.work now → ⊥
      its_stage bytes its left InPlace driven is =
          at_index (Writes bytes InPlace its left) driven (few_too (Writes bytes InPlace its left) driven) its left refl (ap oid_of is)
      its_stage bytes its left Fetching driven (vid, is) = reads _ is refl
      its_stage bytes its left Creating driven (start, made, is) =
          at_index (Writes bytes Creating its left) driven (few_too (Writes bytes Creating its left) driven) its left refl
          (created_of its start made (cc (is)))
      its_stage bytes its left Entering driven is = entered_not its (ap oid_of is)

      driven_not : (driver : Driver) → other.course ≡ Driving driver → IsWorkOfDriver opened.inode driver work.work → ⊥
      driven_not (Reads told its left) driven (vid, is) = reads _ is refl
      driven_not (Writes bytes now its left) driven is = its_stage bytes its left now driven is
      driven_not drivers.Answered driven is = is

      other_not : (now : Course) → other.course ≡ now → IsWorkWanted (inode_open (Some opened)) now work.work → ⊥
      other_not (Waiting ask) is wants = wants
      other_not (Driving driver) is wants = driven_not driver is wants
      other_not (Commanding op) is wants = alone_not (ap is_disk_course is)
      other_not (Checking check) is wants = alone_not (ap is_disk_course is)
      other_not (DoingWork asked) is wants = alone_not (ap is_disk_course is)
      other_not (AwaitingDecision entry) is wants = wants

    pub none_open : ⊥
    none_open = ⊎_elim
        (λ (same : q ≡ req). own_not same)
        (λ (apart : q ≢ req).
        other_not apart other.course refl
        (subst (λ (o : Option Disk). IsWorkWanted (inode_open o) other.course work.work) at_too wanted))
        (cases_eq q req)

-- ---- at a moment behind a change

module _ (script : List Statement) (range : RunsAreInRange script) (events : List Move) (start before after : MomentWithPast)
    (is : run_with_past script events ≡ Some start) (trail : MomentTrail script start before)
    (change : MomentChange script start before after)
    (n : ℕ) (host : Host) (at_host : tree.get after.world.hosts n ≡ Some host) (up : host.is_lost ≡ false) (req : ℕ) (request : Request)
    (there : tree.get host.node.requests req ≡ Some request) (opened : Disk)
    (at : (session_among request.session host.node.sessions).disk ≡ Some opened) (payload : List ℕ) (stage : DriverStage) (piece : Piece)
    (rest : List Piece) (course : request.course ≡ Driving (Writes payload stage piece rest)) where
  well : HasWellWorks host.node
  well = well_after script range start (began-with_past script events start is) change n host at_host

  -- its session may write its disk
  may_write : writer_of (log_effects after.world.log) opened.inode.vid ≡ Some (holder_at host.node.me request.session)
  may_write =
      write_holder script range events start after is (Then trail change) n host at_host up req request there opened at payload stage piece
      rest course

  module _ (offset : ℕ) (front : List Piece)
      (cut : pieces opened.inode.spec.shift offset (length payload) ≡ front ++ piece ∷ rest) (one : Piece)
      (behind : IsBehind front stage piece one) (new : AttemptRecord) (o : IsOpened script start after new)
      (object : object_of new ≡ object_number opened.inode.vid one.index) where
    abbrev work : Work
    work = record o.asked { stage = Open (attempt_in o.asked o.lined.node) }

    abbrev its : Host
    its = host_with_node o.stepping.host o.next.node

    its_there : tree.get after.world.hosts o.stepping.n ≡ Some (host_with_node o.stepping.host o.next.node)
    its_there =
        ap (λ (m : MomentWithPast). tree.get m.world.hosts o.stepping.n) o.moment_so
        ∙ get-insert_same start.world.hosts o.stepping.n its

    of_work : oid_of o.asked.work ≡ object_number opened.inode.vid one.index
    of_work = ap (λ (a : AttemptRecord). object_of a) o.opened ∙ object

    queues : HasGoodQueues host.node
    queues = queues_after script range start (began-with_past script events start is) change n host at_host

    few : one.index < OBJECTS_MAX
    few = few_one host.node well queues req request there opened at payload stage piece rest course offset front cut one behind

    pub none_begins : ⊥
    none_begins =
        let writes = (only_writer-in_run script range events start after is (Then trail change)).each o.stepping.n its its_there
        (not_lost o.stepping.host o.is.up) o.req work o.at_gateway o.making in
        let vid_so : vid_of (oid_of o.asked.work) ≡ opened.inode.vid
        = ap vid_of of_work
        ∙ vid-of_object opened.inode.vid one.index (known_disk host.node well request.session opened at).disk.id few in
        let writer : session_holder o.stepping.n writes.request.session ≡ holder_at host.node.me request.session
        = same_Some (session_holder o.stepping.n writes.request.session) (holder_at host.node.me request.session)
        (sym writes.may.writer ∙ ap (writer_of (log_effects after.world.log)) vid_so ∙ may_write) in
        let me : host.node.me.0 ≡ n
        = ((sound_along script range start (began-with_past script events start is) (Then trail change)).each n host at_host).read.own in
        let node_so : o.stepping.n ≡ n = ap (λ (h : Holder). h.node.0) writer ∙ me in
        let host_so : its ≡ host
        = same_Some its host (sym its_there ∙ ap (tree.get after.world.hosts) node_so ∙ at_host) in
        none_open host.node well queues req request there opened at payload stage piece rest course offset front cut one behind o.req work
        (ap (λ (h : Host). tree.get h.node.gateway.works o.req) (sym host_so) ∙ o.at_gateway) writes.request
        (ap (λ (h : Host). tree.get h.node.requests o.req) (sym host_so) ∙ writes.there) (ap (λ (h : Holder). h.session) writer) o.making
        of_work
