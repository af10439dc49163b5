-- No two open works of a session are on one object: both are of reads or writes. Of those that are on an inode the session's line lets one
-- be open, and the others are on the objects of their pieces, whose indexes are apart.
use Rattle.std.proofs.Common.{◌≡◌, ◌≢◌, ◌⊎◌, inl, inr, ⊎_elim, arith, ℕ, ◌≤◌, ◌<◌, ◌==◌, true, false, List, ◌∷◌, slice_get, All, Contains}
use Rattle.std.proofs.Common.{Option, Some, None, IfSome, unwrap_or, refl, sym, ap, subst, ◌∙◌}
use Rattle.std.specs.FinMap as tree
use Rattle.std.proofs.lemmas.Bool.{and_from, cases_lt, eq-eqb}
use Rattle.std.proofs.lemmas.List.Elements.{All-head}
use Rattle.std.proofs.lemmas.Option.{same_Some}
use Rattle.object_id.specs.declared.limits.TheConstants.{OBJECTS_MAX}
use Rattle.object_id.specs.declared.oid.Kind.{Kind}
use Rattle.object_id.specs.declared.oid.Kind.TheVariants.{Block, Inode}
use Rattle.object_id.specs.Oid.{IsVid, kind_of, inode_number, object_number}
use Rattle.peer_proto.specs.declared.work.ObjWork.{ObjWork}
use Rattle.peer_proto.specs.declared.work.ObjWork.TheVariants as works
use Rattle.peer_proto.specs.Work.{oid_of}
use Rattle.gateway.specs.State.{Work}
use Rattle.gateway_queue.specs.declared.queue.Queued.{Queued}
use Rattle.gateway_queue.specs.Queue.{may_run, Covers, AreApart}
use Rattle.guest_driver.specs.declared.disk.Disk.{Disk}
use Rattle.guest_driver.specs.Driver as drivers
use Rattle.guest_driver.specs.Driver.{Driver, Reads, Writes, DriverStage, InPlace, Fetching, Creating, Entering}
use Rattle.guest_driver.specs.InodeQueue.{is_inode}
use Rattle.guest_driver.specs.OnDisk.{pieces_left}
use Rattle.guest_driver.specs.PieceWorks.{object_bytes}
use Rattle.guest_driver.specs.Pieces.{Piece}
use Rattle.sheep_node.specs.declared.course.Course.{Course}
use Rattle.sheep_node.specs.declared.course.Course.TheVariants.{Waiting, Driving, Commanding, Checking, DoingWork, AwaitingDecision}
use Rattle.sheep_node.specs.declared.course.Request.{Request}
use Rattle.sheep_node.specs.declared.session.Session.{Session}
use Rattle.sheep_node.specs.Courses.{inode_open}
use Rattle.sheep_node.specs.May.{is_disk_course}
use Rattle.sheep_node.specs.SessionQueues.{session_among, queue_in, is_disk_request_of, IsQueued}
use Rattle.sheep_node.specs.State.{Node, new_session}
use Rattle.sheep_node.specs.WantedWorks.{IsWorkWanted, IsWantedAt, IsWorkOfWrite}
use Rattle.sheep_node.proofs.SessionViews.{IsSeen}
use Rattle.overlap_law.specs.Sessions.{AreOpen, AreOfOneSession}
use Rattle.overlap_law.proofs.AttemptLists.{place_of}
use Rattle.overlap_law.proofs.CausedWorks.{HasWellWorks}
use Rattle.overlap_law.proofs.CoveredCourses.{size_and_queue, IsCovered}
use Rattle.overlap_law.proofs.CoveredPieces.{CoversPiece}
use Rattle.overlap_law.proofs.KnownDisks.{FewAt, IsKnownInode, IsKnownCourse, kind-of_inode}
use Rattle.overlap_law.proofs.OneInodeWork.{one_on_inode}
use Rattle.overlap_law.proofs.QueueOnce.{IsOnce, runs_apart}
use Rattle.overlap_law.proofs.QueuesInMoments.{HasGoodQueues}

-- two requests of a queue that may both run have no index in common
pub turns_apart : (queue : List Queued) (one two : Queued) → IsOnce queue → Contains queue one → Contains queue two → one.req ≢ two.req
    → may_run one.req queue ≡ true → may_run two.req queue ≡ true → AreApart one two
turns_apart queue one two once there there_too apart may may_too =
    let (place, at) = place_of queue one there in
    let (other, at_too) = place_of queue two there_too in
    ⊎_elim
    (λ (before : place < other). runs_apart queue place other one two once before at at_too may_too)
    (λ (behind : other ≤ place).
    let differ : other ≢ place
    = λ (same : other ≡ place). apart (ap (λ (q : Queued). q.req)
    (same_Some one two (sym at ∙ ap (slice_get queue) (sym same) ∙ at_too))) in
    let flipped : AreApart two one = runs_apart queue other place two one once (omega (arith, behind, differ)) at_too at may in
    λ index own its. flipped index its own)
    (cases_lt place other)

-- a work is on the object of a piece, of whichever disk; or on an inode
abbrev IsOnPiece : Piece → ObjWork → Type 0
IsOnPiece piece work =
    ((vid : ℕ) × (oid_of work ≡ object_number vid piece.index)) ⊎ ((vid : ℕ) × IsVid vid × (oid_of work ≡ inode_number vid))

module _ (node : Node) (well : HasWellWorks node) (queues : HasGoodQueues node) (session : ℕ) where
  -- a read or write of the session is at a piece, and waits for a work on its object or on the disk's inode
  record IsAtPiece (req : ℕ) (work : ObjWork) : Type 0 where
    request : Request
    there : tree.get node.requests req ≡ Some request
    own : request.session ≡ session
    driver : Driver
    course : request.course ≡ Driving driver
    piece : Piece
    rest : List Piece
    left : pieces_left driver ≡ piece ∷ rest
    on : IsOnPiece piece work

  -- the disk that the session has open is known
  known_open : (disk : Disk) → (session_among session node.sessions).disk ≡ Some disk → IsKnownInode well.known disk.inode
  known_open disk opened = by_session (tree.get node.sessions session) refl opened
    where
      by_session : (o : Option Session) → tree.get node.sessions session ≡ o → (unwrap_or o new_session).disk ≡ Some disk
          → IsKnownInode well.known disk.inode
      by_session None none opened = absurd (cc (opened))
      by_session (Some found) there opened =
          subst (λ (o : Option Disk). IfSome o (λ (d : Disk). IsKnownInode well.known d.inode)) opened
          (well.on_known.each_session session found there).disk

  -- ---- a work beside another of its session

  module _ (req other : ℕ) (work : Work) (got : tree.get node.gateway.works req ≡ Some work) (request another : Request)
      (there : tree.get node.requests req ≡ Some request) (there_too : tree.get node.requests other ≡ Some another)
      (own : request.session ≡ session)
      (own_too : another.session ≡ session) (apart : req ≢ other) where
    -- its request is none that is alone
    beside : is_disk_course request.course ≡ false → ⊥
    beside off =
        apart (sym (well.alone.alone request.session req other another (well.alone.named req request there off) there_too
        (own_too ∙ sym own)))

    at_piece : (driver : Driver) → request.course ≡ Driving driver → (piece : Piece) (rest : List Piece) → pieces_left driver ≡ piece ∷ rest
        → IsOnPiece piece work.work → IsAtPiece req work.work
    at_piece driver at piece rest left on =
        record {
          request = request;
          there = there;
          own = own;
          driver = driver;
          course = at;
          piece = piece;
          rest = rest;
          left = left;
          on = on;
        }

    by_stage : (disk : Disk) → (session_among session node.sessions).disk ≡ Some disk
        → (payload : List ℕ) (piece : Piece) (stage : DriverStage)
        → IsWorkOfWrite disk.inode payload piece work.work stage → IsOnPiece piece work.work
    by_stage disk opened payload piece InPlace is = inl (disk.inode.vid, ap oid_of is)
    by_stage disk opened payload piece Fetching (vid, is) = inl (vid, ap oid_of is)
    by_stage disk opened payload piece Creating (offset, bytes, is) =
        let created : work.work ≡ works.Create (object_number disk.inode.vid piece.index) disk.inode.spec.policy (object_bytes disk.inode)
        offset bytes
        = cc (is) in
        inl (disk.inode.vid, ap oid_of created)
    by_stage disk opened payload piece Entering is = inr (disk.inode.vid, (known_open disk opened).disk.id, ap oid_of is)

    by_disk : (driver : Driver) → request.course ≡ Driving driver → (disk : Option Disk) → (session_among session node.sessions).disk ≡ disk
        → IsWorkWanted (inode_open disk) (Driving driver) work.work → IsAtPiece req work.work
    by_disk driver at None opened wanted = absurd wanted
    by_disk (Reads told piece rest) at (Some disk) opened wanted =
        at_piece (Reads told piece rest) at piece rest refl (inl (wanted.0, ap oid_of wanted.1))
    by_disk drivers.Answered at (Some disk) opened wanted = absurd wanted
    by_disk (Writes payload stage piece rest) at (Some disk) opened wanted =
        at_piece (Writes payload stage piece rest) at piece rest refl (by_stage disk opened payload piece stage wanted)

    by_course : (course : Course) → request.course ≡ course
        → IsWorkWanted (inode_open (session_among session node.sessions).disk) course work.work
        → IsAtPiece req work.work
    by_course (Waiting ask) at wanted = absurd wanted
    by_course (Driving driver) at wanted = by_disk driver at (session_among session node.sessions).disk refl wanted
    by_course (Commanding op) at wanted = absurd (beside (ap is_disk_course at))
    by_course (Checking check) at wanted = absurd (beside (ap is_disk_course at))
    by_course (DoingWork asked) at wanted = absurd (beside (ap is_disk_course at))
    by_course (AwaitingDecision entry) at wanted = absurd wanted

    is_at_piece : IsAtPiece req work.work
    is_at_piece =
        by_course request.course refl
        (subst (λ (k : ℕ). IsWorkWanted (inode_open (session_among k node.sessions).disk) request.course work.work) own
        (subst (λ (o : Option Request). IsWantedAt node.sessions o work.work) there (well.wanted req work.work (inl (work, got, refl)))))

  -- ---- what the queue has of it

  module _ (req : ℕ) (work : ObjWork) (p : IsAtPiece req work) where
    few : p.piece.index < OBJECTS_MAX
    few =
        All-head FewAt p.piece p.rest
        (subst (All FewAt) p.left (subst (IsKnownCourse well.known) p.course (well.on_known.courses req p.request p.there)))

    queued : IsQueued req (queue_in session node.sessions)
    queued =
        queues.queues.has session req
        (ap (is_disk_request_of session) p.there
        ∙ and_from (p.request.session == session) (is_disk_course p.request.course) (eq-eqb p.request.session session p.own)
        (ap is_disk_course p.course))

    covered : IsCovered req (size_and_queue (session_among session node.sessions)) (Driving p.driver)
    covered =
        subst (IsCovered req (size_and_queue (session_among session node.sessions))) p.course
        (subst (λ (k : ℕ). IsCovered req (size_and_queue (session_among k node.sessions)) p.request.course) p.own
        (subst (IsSeen size_and_queue (IsCovered req) node.sessions) p.there (queues.covered req)))

    covers : Covers queued.0 p.piece.index
    covers = All-head (CoversPiece queued.0) p.piece p.rest (subst (All (CoversPiece queued.0)) p.left
        (covered.1 queued.0 queued.1 queued.2).0)

    runs : may_run queued.0.req (queue_in session node.sessions) ≡ true
    runs = ap (λ (k : ℕ). may_run k (queue_in session node.sessions)) queued.2 ∙ covered.0

    -- what isn't on an inode is on the object of the piece
    on_block : kind_of (oid_of work) ≡ Block → (vid : ℕ) × (oid_of work ≡ object_number vid p.piece.index)
    on_block block = ⊎_elim
        (λ (object : (vid : ℕ) × (oid_of work ≡ object_number vid p.piece.index)). object)
        (λ (inode : (vid : ℕ) × IsVid vid × (oid_of work ≡ inode_number vid)).
        let table : kind_of (oid_of work) ≡ Inode = ap kind_of inode.2 ∙ kind-of_inode inode.0 inode.1 in
        absurd (cc (table, block))) p.on

  -- ---- two of them

  module _ (req other : ℕ) (work second : Work) (request another : Request) (are : AreOpen node req work other second)
      (of_one : AreOfOneSession node session req request other another) (same : oid_of work.work ≡ oid_of second.work) where
    one : IsAtPiece req work.work
    one =
        is_at_piece req other work are.first_one request another of_one.first_one of_one.second_one of_one.first_of of_one.second_of
        are.apart

    two : IsAtPiece other second.work
    two =
        is_at_piece other req second are.second_one another request of_one.second_one of_one.first_one of_one.second_of of_one.first_of
        (λ (tie : other ≡ req). are.apart (sym tie))

    -- on objects of pieces: their indexes are apart
    blocks_apart : kind_of (oid_of work.work) ≡ Block → ⊥
    blocks_apart block =
        let (vid, is) = on_block req work.work one block in
        let (of, is_too) = on_block other second.work two (ap kind_of (sym same) ∙ block) in
        let numbers : object_number vid one.piece.index ≡ object_number of two.piece.index = sym is ∙ same ∙ is_too in
        let least = few req work.work one in
        let least_too = few other second.work two in
        let index : two.piece.index ≡ one.piece.index = omega (arith, numbers, least, least_too) in
        let first = queued req work.work one in
        let next = queued other second.work two in
        let differ : first.0.req ≢ next.0.req = λ (tie : first.0.req ≡ next.0.req). are.apart (sym first.2 ∙ tie ∙ next.2) in
        turns_apart (queue_in session node.sessions) first.0 next.0 (queues.once session) first.1 next.1 differ (runs req work.work one)
        (runs other second.work two) one.piece.index (covers req work.work one) (subst (Covers next.0) index (covers other second.work two))

    -- on an inode: the session has one such work
    inodes_apart : kind_of (oid_of work.work) ≡ Inode → ⊥
    inodes_apart table =
        let table_too : kind_of (oid_of second.work) ≡ Inode = ap kind_of (sym same) ∙ table in
        let off = one_on_inode node queues.lines session req other work second request another are of_one (ap is_inode table) in
        let on = ap is_inode table_too in
        cc (on, off)

    by_kind : (kind : Kind) → kind_of (oid_of work.work) ≡ kind → ⊥
    by_kind Block block = blocks_apart block
    by_kind Inode table = inodes_apart table

    pub works_apart : ⊥
    works_apart = by_kind (kind_of (oid_of work.work)) refl
