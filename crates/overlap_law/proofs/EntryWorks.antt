-- An open work that has an entry of the inode of an open working disk is the write of that entry by a write of the session: commands of the
-- session have none meanwhile, since a tag has no entry, a disk is written back before it is open, and what is created is reserved.
use Rattle.std.proofs.Common.{◌≡◌, ⊎_elim, inl, arith, ℕ, ◌+◌, ◌*◌, ◌==◌, Bool, true, false, All, List, []}
use Rattle.std.proofs.Common.{◌∷◌, ◌++◌, length, Option, Some, None, IfSome, unwrap_or, refl, sym, ap, subst, ◌∙◌}
use Rattle.std.specs.FinMap as tree
use Rattle.std.proofs.lemmas.Bool.{and_parts, and_from, eqb-true, eq-eqb}
use Rattle.std.proofs.lemmas.List.Elements.{All-head, All-contains, Contains-append_right}
use Rattle.std.proofs.lemmas.Option.{same_Some}
use Rattle.proof_tools.proofs.Lists.{Contains-first}
use Rattle.object_id.specs.declared.entry.Entry.{Entry}
use Rattle.object_id.specs.declared.oid.Vid.{Vid}
use Rattle.object_id.specs.Oid.{IsVid, inode_number, object_number}
use Rattle.epoch_log.specs.Epochs.{epoch_of}
use Rattle.inode.specs.Layout.{Content}
use Rattle.inode.specs.declared.layout.TheConstants.{INODE_HEADER_BYTES, TEXT_BYTES}
use Rattle.peer_proto.specs.Work.{oid_of}
use Rattle.peer_proto.specs.declared.work.ObjWork.{ObjWork}
use Rattle.peer_proto.specs.declared.work.ObjWork.TheVariants as works
use Rattle.vdi_directory.specs.Decisions.{log_effects}
use Rattle.vdi_directory.specs.States.{state_of}
use Rattle.vdi_directory.specs.States.{rank}
use Rattle.vdi_directory.proofs.DecisionLaws.{held-works}
use Rattle.vdi_directory.proofs.LawfulEntries.{sound-log_effects}
use Rattle.gateway.specs.State.{Work}
use Rattle.gateway.specs.Work.{is_making}
use Rattle.guest_driver.specs.declared.disk.Disk.{Disk}
use Rattle.guest_driver.specs.Driver as drivers
use Rattle.guest_driver.specs.Driver.{Driver, Reads, Writes, InPlace, Fetching, Creating, Entering}
use Rattle.guest_driver.specs.OnDisk.{pieces_left}
use Rattle.guest_driver.specs.Pieces.{Piece}
use Rattle.guest_driver.specs.PieceWorks.{object_bytes, write_entry}
use Rattle.vdi_ops.specs.declared.act.OpAct.TheVariants as op_acts
use Rattle.vdi_ops.specs.InodeWorks.{write_tag}
use Rattle.vdi_ops.specs.Op.{Task, Opening, WritingBack, Tagging, Copying, Making, OpStage, Asked, Working, Publishing, Answered, Op}
use Rattle.vdi_ops.specs.Op.{IsAwaitedAtOpStage, IsWorkOfTask}
use Rattle.disk_check.specs.Check.{Check, CheckStage, Comparing}
use Rattle.disk_check.specs.Check as checks
use Rattle.disk_check.specs.Table.{own_indexes}
use Rattle.disk_check.proofs.TableLemmas.{own_indexes-own}
use Rattle.sheep_node.specs.declared.course.Course.{Course}
use Rattle.sheep_node.specs.declared.course.Course.TheVariants.{Waiting, Driving, Commanding, Checking, DoingWork, AwaitingDecision}
use Rattle.sheep_node.specs.declared.course.Request.{Request}
use Rattle.sheep_node.specs.declared.session.Session.{Session}
use Rattle.sheep_node.specs.Courses.{inode_open}
use Rattle.sheep_node.specs.May.{is_disk_course}
use Rattle.sheep_node.specs.SessionQueues.{session_among, command_in}
use Rattle.sheep_node.specs.State.{Node, new_session}
use Rattle.sheep_node.specs.WantedWorks.{IsWorkWanted, IsWantedAt, IsWorkOfDriver}
use Rattle.sheep_node.proofs.SessionViews.{IsSeen}
use Rattle.overlap_law.specs.CommandDisks.{opened_as, opened_in, IsOpenAtStage, IsOpenAtCourse}
use Rattle.overlap_law.specs.Courses.{WaitsFor, IsOfCheckStage, IsValueWrite}
use Rattle.overlap_law.specs.Tables.{writes_entry}
use Rattle.overlap_law.specs.WriterClaims.{HasLock, HasReservation, IsStageKept, LetsGo, IsLetGo, IsDiskKept, HasClaims}
use Rattle.overlap_law.proofs.AllowedCourses.{IsAllowed, opened_by}
use Rattle.overlap_law.proofs.CausedWorks.{HasWellWorks}
use Rattle.overlap_law.proofs.DriverEntries.{no_inode}
use Rattle.overlap_law.proofs.KnownDisks.{Few, FewAt, IsKnownInode, IsKnownCourse}
use Rattle.overlap_law.proofs.OwnMakings.{IsOwnStage, MakesOwn, MakesOwnAt}
use Rattle.overlap_law.proofs.WaitedSteps.{no_id}
use Rattle.overlap_law.proofs.WriterChanges.{found_reserved}
use Rattle.overlap_law.proofs.MakingEntries.{making_reserved, making_vid}

-- an open disk is known
pub known_disk : (node : Node) (well : HasWellWorks node) (number : ℕ) (disk : Disk) → (session_among number node.sessions).disk ≡ Some disk
    → IsKnownInode well.known disk.inode
known_disk node well number disk opened = by_session (tree.get node.sessions number) refl opened
  where
    by_session : (o : Option Session) → tree.get node.sessions number ≡ o → (unwrap_or o new_session).disk ≡ Some disk
        → IsKnownInode well.known disk.inode
    by_session None none opened = absurd (cc (opened))
    by_session (Some session) there opened =
        subst (λ (o : Option Disk). IfSome o (λ (d : Disk). IsKnownInode well.known d.inode)) opened
        (well.on_known.each_session number session there).disk

-- a write enters the entry of an index
pub record IsEntering (disk : Disk) (course : Course) (work : ObjWork) (index : ℕ) : Type 0 where
  pub payload : List ℕ
  pub piece : Piece
  pub rest : List Piece
  pub driving : course ≡ Driving (Writes payload Entering piece rest)
  pub writes : work ≡ write_entry disk.inode piece
  pub at : index ≡ piece.index

module _ (log : List Entry) (node : Node)
    (claims : HasClaims log node.outbox node.peer.entries (length node.peer.entries) node.me node.requests node.sessions)
    (fits : (req : ℕ) (request : Request) → tree.get node.requests req ≡ Some request
    → IsOpenAtCourse (opened_in request.session node.sessions) request.course)
    (well : HasWellWorks node) (req : ℕ) (work : Work) (got : tree.get node.gateway.works req ≡ Some work)
    (request : Request) (there : tree.get node.requests req ≡ Some request)
    (waits : WaitsFor [] no_id [] (session_among request.session node.sessions).disk request.course work.work)
    (disk : Disk) (opened : (session_among request.session node.sessions).disk ≡ Some disk) (working : disk.snapshot ≡ false)
    (making : is_making work.work ≡ true) (object : oid_of work.work ≡ inode_number disk.inode.vid)
    (untagged : (inode : Content) (tag : List ℕ) → work.work ≡ write_tag inode tag → ⊥) (index : ℕ)
    (at_index : (piece : Piece) → work.work ≡ write_entry disk.inode piece → index ≡ piece.index) where
  abbrev Enters : Course → Type 0
  Enters course = IsEntering disk course work.work index

  id : IsVid disk.inode.vid
  id = (known_disk node well request.session disk opened).disk.id

  opened_so : opened_in request.session node.sessions ≡ Some (false, disk.inode.vid)
  opened_so = ap opened_as opened ∙ ap (λ (b : Bool). Some (b, disk.inode.vid)) working

  -- a read makes nothing
  reads : {P : Type 0} (what : ObjWork) → work.work ≡ what → is_making what ≡ false → P
  reads what is read = let none : is_making work.work ≡ false = ap is_making is ∙ read in absurd (cc (none, making))

  -- ---- a read or write

  driving : (driver : Driver) → IsWorkOfDriver disk.inode driver work.work → All FewAt (pieces_left driver) → Enters (Driving driver)
  driving (Reads told piece rest) (vid, is) few = reads _ is refl
  driving (Writes payload InPlace piece rest) is few =
      no_inode disk.inode.vid piece.index disk.inode.vid id (All-head FewAt piece rest few) (sym (ap oid_of is) ∙ object)
  driving (Writes payload Fetching piece rest) (vid, is) few = reads _ is refl
  driving (Writes payload Creating piece rest) (offset, bytes, is) few =
      let created : work.work ≡ works.Create (object_number disk.inode.vid piece.index) disk.inode.spec.policy (object_bytes disk.inode)
      offset bytes = cc (is) in
      no_inode disk.inode.vid piece.index disk.inode.vid id (All-head FewAt piece rest few) (sym (ap oid_of created) ∙ object)
  driving (Writes payload Entering piece rest) is few = record {
    payload = payload;
    piece = piece;
    rest = rest;
    driving = refl;
    writes = is;
    at = at_index piece is;
  }
  driving drivers.Answered is few = absurd is

  driven : (driver : Driver) → IsWorkWanted (inode_open (session_among request.session node.sessions).disk) (Driving driver) work.work
      → IsKnownCourse well.known (Driving driver) → Enters (Driving driver)
  driven driver wanted few =
      driving driver (subst (λ (o : Option Disk). IsWorkWanted (inode_open o) (Driving driver) work.work) opened wanted) few

  -- ---- a command

  module _ (op : Op) (command : request.course ≡ Commanding op) (vid : Vid) (task : Task) (at : op.stage ≡ Working vid task) where
    -- it lets nothing go
    lets_none : IsLetGo node.requests request.session disk.inode.vid → ⊥
    lets_none goes =
        let named : command_in request.session node.sessions ≡ Some goes.req
        = subst (λ (k : ℕ). command_in k node.sessions ≡ Some goes.req) goes.of
        (well.alone.named goes.req goes.request goes.there (ap is_disk_course goes.command)) in
        let same : req ≡ goes.req = well.alone.alone request.session goes.req req request named there refl in
        let one : request ≡ goes.request = same_Some request goes.request (sym there ∙ ap (tree.get node.requests) same ∙ goes.there) in
        let course : Commanding op ≡ Commanding goes.op = sym command ∙ ap (λ (r : Request). r.course) one ∙ goes.command in
        let op_so : op ≡ goes.op = cc (course) in
        subst (LetsGo disk.inode.vid) (sym (ap (λ (o : Op). o.stage) op_so) ∙ at) goes.lets

    locked : HasLock log node.outbox node.me request.session (epoch_of node.peer.entries) disk.inode.vid
    locked = ⊎_elim
        (λ (lock : HasLock log node.outbox node.me request.session (epoch_of node.peer.entries) disk.inode.vid). lock)
        (λ (goes : IsLetGo node.requests request.session disk.inode.vid). absurd (lets_none goes))
        (subst (λ (b : Bool). IsDiskKept log node.outbox node.peer.entries node.me node.requests request.session b disk.inode) working
        (claims.disks request.session disk opened)).1

    unreserved : (of : ℕ) → of ≡ disk.inode.vid
        → HasReservation log node.outbox node.me request.session (epoch_of node.peer.entries) of → ⊥
    unreserved of same reserved =
        let low : rank (state_of (log_effects log) of) ≡ 1
        = ap rank (found_reserved (log_effects log) (sound-log_effects log) of reserved.reservation reserved.found) in
        let high : rank (state_of (log_effects log) of) ≡ 2
        = ap (λ (v : ℕ). rank (state_of (log_effects log) v)) same ∙ ap rank (held-works log disk.inode.vid _ locked.held) in
        omega (arith, low, high)

  module _ (op : Op) (command : request.course ≡ Commanding op) where
    kept_at : (stage : OpStage) → op.stage ≡ stage → IsStageKept log node.outbox node.peer.entries (length node.peer.entries) node.me
        request.session (opened_in request.session node.sessions) stage
    kept_at stage at =
        subst (IsStageKept log node.outbox node.peer.entries (length node.peer.entries) node.me request.session
        (opened_in request.session node.sessions)) at (claims.commands req request op there command)

    fits_at : (stage : OpStage) → op.stage ≡ stage → IsOpenAtStage (opened_in request.session node.sessions) stage
    fits_at stage at =
        subst (IsOpenAtStage (opened_in request.session node.sessions)) at
        (subst (IsOpenAtCourse (opened_in request.session node.sessions)) command (fits req request there))

    same_id : (vid : ℕ) → oid_of work.work ≡ inode_number vid → vid ≡ disk.inode.vid
    same_id vid is =
        let same : inode_number vid ≡ inode_number disk.inode.vid = sym is ∙ object in omega (arith, same)

    tasked : (vid : Vid) (task : Task) → op.stage ≡ Working vid task → IsWorkOfTask vid task work.work → IsOwnStage op.stage work.work → ⊥
    tasked vid (Opening snapshot ids header) at is owns = reads _ is refl
    tasked vid (WritingBack inode) at is owns =
        let none : opened_in request.session node.sessions ≡ None = (fits_at (Working vid (WritingBack inode)) at).0 in
        cc (none, opened_so)
    tasked vid (Tagging old inode) at is owns =
        untagged is.inode is.tag is.work_of
    tasked vid (Copying ids header) at is owns = reads _ is.work_of refl
    tasked vid (Making entry None) at is owns =
        unreserved op command vid (Making entry None) at vid.0
        (same_id vid.0 (subst (λ (stage : OpStage). IsOwnStage stage work.work) at owns))
        (making_reserved log node.outbox node.peer.entries (length node.peer.entries) node.me request.session
        (opened_in request.session node.sessions) vid entry None (kept_at (Working vid (Making entry None)) at))
    tasked vid (Making entry (Some inode)) at is owns =
        let kept = kept_at (Working vid (Making entry (Some inode))) at in
        let same : inode ≡ is.inode = is.same inode refl in
        let vid_so = making_vid log node.outbox node.peer.entries (length node.peer.entries) node.me request.session
        (opened_in request.session node.sessions) vid entry inode kept (fits_at (Working vid (Making entry (Some inode))) at) in
        unreserved op command vid (Making entry (Some inode)) at vid.0
        (sym vid_so ∙ ap (λ (i : Content). i.vid) same ∙ same_id is.inode.vid (ap oid_of is.work_of))
        (making_reserved log node.outbox node.peer.entries (length node.peer.entries) node.me request.session
        (opened_in request.session node.sessions) vid entry (Some inode) kept)

    staged : (stage : OpStage) → op.stage ≡ stage → IsAwaitedAtOpStage (op_acts.Work work.work) stage → IsOwnStage op.stage work.work → ⊥
    staged (Asked entry) at wanted owns = cc (wanted)
    staged (Working vid task) at (other, same, is) owns =
        let one : other ≡ work.work = cc (same) in
        tasked vid task at (subst (IsWorkOfTask vid task) one is) owns
    staged (Publishing entry made) at wanted owns = cc (wanted)
    staged (Answered change) at (reply, same) owns = cc (same)

  -- ---- a check

  value_apart : (open_disk : Disk) (check : Check) (later : List ℕ) → (session_among request.session node.sessions).disk ≡ Some open_disk
      → (v : IsValueWrite open_disk check later work.work) → IsVid check.vid → ⊥
  value_apart open_disk check later on v is_vid =
      let count = (known_disk node well request.session open_disk on).count in
      let all : All Few (own_indexes open_disk.inode)
      = λ k d within. let here = (own_indexes-own open_disk.inode k d within).0 in omega (arith, here, count) in
      let few : Few v.index
      = All-contains Few (v.before ++ v.index ∷ later) v.index (subst (All Few) (sym v.own) all)
      (Contains-append_right v.before (v.index ∷ later) v.index (Contains-first v.index v.index later refl)) in
      no_inode check.vid v.index disk.inode.vid is_vid few (sym (ap oid_of v.work_of) ∙ object)

  checked : (check : Check) (stage : CheckStage) (open_disk : Disk) → (session_among request.session node.sessions).disk ≡ Some open_disk
      → IsOfCheckStage open_disk check stage work.work → IsVid check.vid → ⊥
  checked check (Comparing of later) open_disk on is is_vid = reads _ is refl
  checked check (checks.WritingBack later) open_disk on is is_vid = value_apart open_disk check later on is is_vid
  checked check checks.Answered open_disk on is is_vid = is

  -- ---- each

  by_course : (course : Course) → request.course ≡ course
      → IsWorkWanted (inode_open (session_among request.session node.sessions).disk) course work.work
      → WaitsFor [] no_id [] (session_among request.session node.sessions).disk course work.work
      → IsAllowed (opened_in request.session node.sessions) course → MakesOwn course work.work → IsKnownCourse well.known course
      → Enters course
  by_course (Waiting ask) at wanted waits allowed owns known = absurd waits
  by_course (Driving driver) at wanted waits allowed owns known = driven driver wanted known
  by_course (Commanding op) at wanted waits allowed owns known = absurd (staged op at op.stage refl wanted owns)
  by_course (Checking check) at wanted waits allowed owns known =
      absurd (checked check check.stage waits.disk waits.there waits.is known.disk.id)
  by_course (DoingWork asked) at wanted waits allowed owns known = reads asked wanted allowed
  by_course (AwaitingDecision entry) at wanted waits allowed owns known = absurd waits

  pub entering : IsEntering disk request.course work.work index
  entering =
      by_course request.course refl
      (subst (λ (o : Option Request). IsWantedAt node.sessions o work.work) there (well.wanted req work.work (inl (work, got, refl)))) waits
      (subst (IsSeen opened_by IsAllowed node.sessions) there (well.allowed req))
      (subst (λ (o : Option Request). MakesOwnAt o work.work) there (well.own req work.work (inl (work, got, refl))))
      (well.on_known.courses req request there)

-- the write of an entry begins where that stands
abbrev pub from_of : ObjWork → ℕ
from_of (works.Create oid policy size offset bytes) = offset
from_of (works.Write oid policy offset bytes) = offset
from_of (works.Read oid policy offset size) = offset
from_of (works.ReadAll oid policy size) = 0

pub writes-from : (vid index : ℕ) (work : ObjWork) → writes_entry vid index work ≡ true → from_of work ≡ INODE_HEADER_BYTES + 4 * index
writes-from vid index (works.Create oid policy size offset bytes) is = absurd (cc (is))
writes-from vid index (works.Write oid policy offset bytes) is =
    eqb-true offset (INODE_HEADER_BYTES + 4 * index)
    (and_parts (oid == inode_number vid) (offset == INODE_HEADER_BYTES + 4 * index) is).1
writes-from vid index (works.Read oid policy offset size) is = absurd (cc (is))
writes-from vid index (works.ReadAll oid policy size) is = absurd (cc (is))

-- it is no tag, and of one piece
pub writes-untagged : (vid index : ℕ) (work : ObjWork) → writes_entry vid index work ≡ true → (inode : Content) (tag : List ℕ)
    → work ≡ write_tag inode tag → ⊥
writes-untagged vid index work is inode tag same =
    let at : INODE_HEADER_BYTES + 4 * index ≡ TEXT_BYTES = sym (writes-from vid index work is) ∙ ap from_of same in
    absurd (omega (arith, at))

pub writes-at : (vid index : ℕ) (work : ObjWork) → writes_entry vid index work ≡ true → (inode : Content) (piece : Piece)
    → work ≡ write_entry inode piece → index ≡ piece.index
writes-at vid index work is inode piece same =
    let at : INODE_HEADER_BYTES + 4 * index ≡ INODE_HEADER_BYTES + 4 * piece.index
    = sym (writes-from vid index work is) ∙ ap from_of same in
    omega (arith, at)

pub writes-so : (inode : Content) (piece : Piece) → writes_entry inode.vid piece.index (write_entry inode piece) ≡ true
writes-so inode piece =
    and_from (inode_number inode.vid == inode_number inode.vid)
    (INODE_HEADER_BYTES + 4 * piece.index == INODE_HEADER_BYTES + 4 * piece.index)
    (eq-eqb (inode_number inode.vid) (inode_number inode.vid) refl)
    (eq-eqb (INODE_HEADER_BYTES + 4 * piece.index) (INODE_HEADER_BYTES + 4 * piece.index) refl)
