-- To which object a write goes that a node comes to: the own one of an open disk, by its table or by the entry that was just written, or an
-- inode.
use Rattle.std.proofs.Common.{◌≡◌, ◌≢◌, ◌⊎◌, inl, inr, ⊎_elim, ℕ, ◌==◌, Bool, true, false, cond, List, [], ◌∷◌, ◌++◌, All, Contains, length}
use Rattle.std.proofs.Common.{filter, Option, Some, None, IfSome, unwrap_or, slice_index, refl, sym, ap, subst, ◌∙◌}
use Rattle.std.specs.List.{range_with_len}
use Rattle.std.specs.FinMap as tree
use Rattle.std.proofs.lemmas.Bool.{cases_eq, eqb-true}
use Rattle.std.proofs.lemmas.List.{get_or-set_other}
use Rattle.std.proofs.lemmas.List.Elements.{All-head, Contains-append_right}
use Rattle.std.proofs.lemmas.Option.{same_Some}
use Rattle.proof_tools.proofs.FiniteMaps.{get-insert_same}
use Rattle.proof_tools.proofs.Lists.{Contains-nil, Contains-first, Contains-cons_cases}
use Rattle.object_id.specs.declared.oid.Vid.{Vid}
use Rattle.object_id.specs.Oid.{IsVid, inode_number, object_number}
use Rattle.inode.specs.Layout.{Content}
use Rattle.peer_proto.specs.declared.work.ObjWork.{ObjWork}
use Rattle.peer_proto.specs.declared.work.ObjWork.TheVariants as works
use Rattle.peer_proto.specs.Work.{oid_of}
use Rattle.vdi_directory.specs.declared.effect.Effect.{Effect}
use Rattle.gateway.specs.declared.message.Status.{Status}
use Rattle.gateway.specs.Work.{is_making}
use Rattle.gateway.specs.State.{Work}
use Rattle.guest_driver.specs.declared.act.DriverAct.{DriverAct}
use Rattle.guest_driver.specs.declared.act.DriverAct.TheVariants as driver_acts
use Rattle.guest_driver.specs.declared.disk.Disk.{Disk}
use Rattle.guest_driver.specs.Course.{IsAwaitedByDriver, inode_after, Goes}
use Rattle.guest_driver.specs.OnDisk.{pieces_left}
use Rattle.guest_driver.specs.Pieces.{Piece}
use Rattle.guest_driver.specs.PieceWorks.{entry_of, read_piece, write_piece, read_object, object_bytes, write_entry}
use Rattle.guest_driver.specs.Driver as drivers
use Rattle.guest_driver.specs.Driver.{Driver, Reads, Writes, InPlace, Fetching, Creating, Entering, DriverStep, begin_driver}
use Rattle.guest_driver.specs.InodeQueue.{queue_after_end}
use Rattle.guest_driver.specs.InodeQueue as lines
use Rattle.guest_driver.proofs.CourseLemmas.{begin_goes, done_goes}
use Rattle.disk_check.specs.Check as checks
use Rattle.disk_check.specs.Check.{Check, CheckStage, begin_check, Comparing, WritingBack as Rewriting, read_copies, write_value}
use Rattle.disk_check.specs.declared.act.CheckAct.{CheckAct}
use Rattle.disk_check.specs.declared.act.CheckAct.TheVariants as check_acts
use Rattle.disk_check.specs.Table.{own_indexes}
use Rattle.vdi_ops.specs.declared.act.OpAct.{OpAct}
use Rattle.vdi_ops.specs.declared.act.OpAct.TheVariants as op_acts
use Rattle.vdi_ops.specs.InodeWorks.{read_inode, create_inode}
use Rattle.vdi_ops.specs.Op as ops
use Rattle.vdi_ops.specs.Op.{Task, Opening, WritingBack, Tagging, Copying, Making, OpStage, Asked, Working, Publishing, OpStep}
use Rattle.peer_service.specs.LogReading.{decision_on}
use Rattle.peer_service.specs.State.{effects_of}
use Rattle.sheep_node.specs.declared.ask.Ask.TheVariants as asks
use Rattle.sheep_node.specs.declared.course.Course.{Course}
use Rattle.sheep_node.specs.declared.course.Course.TheVariants.{Waiting, Driving, Commanding, Checking, DoingWork, AwaitingDecision}
use Rattle.sheep_node.specs.declared.course.Request.{Request}
use Rattle.sheep_node.specs.declared.input.Input.{Input}
use Rattle.sheep_node.specs.declared.input.Input.TheVariants as inputs
use Rattle.sheep_node.specs.declared.session.Session.{Session}
use Rattle.sheep_node.specs.Changes.{HasRequest, Outcome, ToWork, ToEntry, ToReply, outcome_of_driver, outcome_of_command, outcome_of_check}
use Rattle.sheep_node.specs.Changes.{without_ended_work, RequestSteps, DiskBegins, DiskGoesOn, CommandBegins, CommandGoesOn, CommandDecided}
use Rattle.sheep_node.specs.Changes.{CheckBegins, CheckGoesOn, ObjectBegins, ObjectIsDone, EntryBegins, EntryDecided, WorkIsNext, AtOnce}
use Rattle.sheep_node.specs.Changes.{InTurn, Again, AgainAlone}
use Rattle.sheep_node.specs.Courses.{inode_open}
use Rattle.sheep_node.specs.SessionQueues.{session_among}
use Rattle.sheep_node.specs.State.{Node, new_session}
use Rattle.sheep_node.specs.StepState.{StepState, session_in, with_sole_request}
use Rattle.sheep_node.specs.WantedWorks.{HasWork}
use Rattle.sheep_node.proofs.OneWorkParts.{Requests, Sessions}
use Rattle.sheep_node.proofs.SessionViews.{IsSeen}
use Rattle.overlap_law.specs.CommandDisks.{opened_as}
use Rattle.overlap_law.specs.Courses.{IsOfTask, IsOfStage, IsOfCheckStage}
use Rattle.overlap_law.specs.Holders.{is_create_work}
use Rattle.overlap_law.specs.ToDo.{IsOpen}
use Rattle.overlap_law.proofs.AllowedCourses.{IsAllowed, AreAllowed, opened_by}
use Rattle.overlap_law.proofs.CoursesOfAsks.{disk_in}
use Rattle.overlap_law.proofs.KnownDisks.{FewAt, IsKnownInode, IsKnownCourse, IsKnownStage, IsKnownTask}
use Rattle.overlap_law.proofs.KnownDiskSteps.{AreOnKnown}
use Rattle.overlap_law.proofs.WaitedSteps.{no_id, HasOwnDraftAt, IsOwnIn, Waits, IsOwnStep, IsOpWaitedAt, driver_begins-own}
use Rattle.overlap_law.proofs.WaitedSteps.{driver_goes_on-own, command_begins-waited, command_goes_on-waited, command_decided-waited}
use Rattle.overlap_law.proofs.WorksAtCourses.{IsAt, HaveAt, AtSoFar, IsOutcomeAt}

-- a work writes, and creates nothing
pub record IsWrite (work : ObjWork) : Type 0 where
  pub making : is_making work ≡ true
  pub writes : is_create_work work ≡ false

-- what reads, and what creates, is none
reads_not : (work what : ObjWork) → work ≡ what → is_making what ≡ false → IsWrite work → ⊥
reads_not work what same reads is = let none = ap is_making same ∙ reads in let some = is.making in cc (none, some)

creates_not : (work what : ObjWork) → work ≡ what → is_create_work what ≡ true → IsWrite work → ⊥
creates_not work what same creates is = let some = ap is_create_work same ∙ creates in let none = is.writes in cc (none, some)

-- an object of the index of which a table has the disk's own id
pub record IsOwnObject (inode : Content) (work : ObjWork) : Type 0 where
  pub index : ℕ
  pub own : slice_index inode.table index ≡ inode.vid
  pub object : oid_of work ≡ object_number inode.vid index

-- the inode of an id
abbrev pub IsInodeOf : ObjWork → Type 0
IsInodeOf work = (vid : ℕ) × IsVid vid × (oid_of work ≡ inode_number vid)

-- a write goes to an own object of an open disk, to the one of which the entry is being written, or to an inode
pub data WriteGoes (node : Node) (work : ObjWork) : Type 0 where
  ToOwn : (number : ℕ) (disk : Disk) → (session_among number node.sessions).disk ≡ Some disk → IsOwnObject disk.inode work
      → WriteGoes node work
  ToEntered : (inode : Content) (piece : Piece) → IsVid inode.vid → FewAt piece → IsOpen node (write_entry inode piece)
      → oid_of work ≡ object_number inode.vid piece.index → WriteGoes node work
  ToInode : IsInodeOf work → WriteGoes node work

-- ---- by what a request waits for

driver_goes : (inode : Content) (driver : Driver) (work : ObjWork) → IsAwaitedByDriver inode driver (driver_acts.Work work)
    → IsOwnIn inode driver
    → IsWrite work → IsOwnObject inode work ⊎ (oid_of work ≡ inode_number inode.vid)
driver_goes inode (Reads told piece rest) work is own write =
    absurd (reads_not work (read_piece inode piece (entry_of inode piece)) (cc (is)) refl write)
driver_goes inode (Writes payload InPlace piece rest) work is own write =
    let same : work ≡ write_piece inode payload piece = cc (is) in
    inl (record { index = piece.index; own = own; object = ap oid_of same })
driver_goes inode (Writes payload Fetching piece rest) work is own write =
    absurd (reads_not work (read_object inode piece (entry_of inode piece)) (cc (is)) refl write)
driver_goes inode (Writes payload Creating piece rest) work (offset, bytes, is) own write =
    absurd
    (creates_not work (works.Create (object_number inode.vid piece.index) inode.spec.policy (object_bytes inode) offset bytes) (cc (is))
    refl write)
driver_goes inode (Writes payload Entering piece rest) work is own write =
    let same : work ≡ write_entry inode piece = cc (is) in inr (ap oid_of same)
driver_goes inode drivers.Answered work (reply, is) own write = absurd (cc (is))

module _ (known now : List Effect) where
  task_goes : (opened : Option Disk) → ((disk : Disk) → opened ≡ Some disk → IsKnownInode known disk.inode) → (vid : Vid) (task : Task)
      (work : ObjWork) → IsOfTask [] no_id [] opened vid task work → IsKnownTask now vid task → IsWrite work → IsInodeOf work
  task_goes opened on vid (Opening snapshot ids header) work is knows write =
      absurd (reads_not work (read_inode vid.0 header.spec) is refl write)
  task_goes opened on vid (WritingBack inode) work is knows write = (inode.vid, knows.disk.id, ap oid_of is.work_of)
  task_goes opened on vid (Tagging old inode) work is knows write =
      (is.disk.inode.vid, (on is.disk is.there).disk.id, ap oid_of is.work_of)
  task_goes opened on vid (Copying ids header) work is knows write =
      absurd (reads_not work (read_inode is.vid.0 header.spec) is.work_of refl write)
  task_goes opened on vid (Making entry made) work is knows write = absurd (creates_not work (create_inode is.inode) is.work_of refl write)

  stage_goes : (opened : Option Disk) → ((disk : Disk) → opened ≡ Some disk → IsKnownInode known disk.inode) → (stage : OpStage)
      (work : ObjWork) → IsOfStage [] no_id [] opened stage work → IsKnownStage now stage
      → IsWrite work → IsInodeOf work
  stage_goes opened on (Asked entry) work is knows write = absurd is
  stage_goes opened on (Working vid task) work is knows write = task_goes opened on vid task work is knows write
  stage_goes opened on (Publishing entry made) work is knows write = absurd is
  stage_goes opened on (ops.Answered change) work is knows write = absurd is

-- what a test lets through passes
filter_passes : (p : ℕ → Bool) (xs : List ℕ) (x : ℕ) → Contains (filter p xs) x → p x ≡ true
filter_passes p [] x there = absurd (Contains-nil x there)
filter_passes p (y ∷ ys) x there = by_test (λ (later : Contains (filter p ys) x). filter_passes p ys x later) (p y) refl there
  where
    by_test : (Contains (filter p ys) x → p x ≡ true) → (b : Bool) → p y ≡ b → Contains (cond b (y ∷ filter p ys) (filter p ys)) x
        → p x ≡ true
    by_test rest true is there = ⊎_elim
        (λ (same : y ≡ x). ap p (sym same) ∙ is)
        (λ (later : Contains (filter p ys) x). rest later)
        (Contains-cons_cases y (filter p ys) x there)
    by_test rest false is there = rest there

-- an index of an own object has the disk's id in the table
pub own_there : (inode : Content) (before later : List ℕ) (index : ℕ) → before ++ index ∷ later ≡ own_indexes inode
    → slice_index inode.table index ≡ inode.vid
own_there inode before later index is =
    eqb-true (slice_index inode.table index) inode.vid
    (filter_passes (λ (k : ℕ). slice_index inode.table k == inode.vid) (range_with_len 0 (length inode.table)) index
    (subst (λ (list : List ℕ). Contains list index) is
    (Contains-append_right before (index ∷ later) index (Contains-first index index later refl))))

check_goes : (disk : Disk) (check : Check) (stage : CheckStage) (work : ObjWork) → IsOfCheckStage disk check stage work
    → check.vid ≡ disk.inode.vid → IsWrite work → IsOwnObject disk.inode work
check_goes disk check (Comparing index later) work is same write = absurd (reads_not work (read_copies check index) is refl write)
check_goes disk check (Rewriting later) work is same write = record {
  index = is.index;
  own = own_there disk.inode is.before later is.index is.own;
  object = ap oid_of is.work_of ∙ ap (λ (vid : ℕ). object_number vid is.index) same;
}
check_goes disk check checks.Answered work is same write = absurd is

-- ---- by what it waits for in a node

module _ (known : List Effect) (node : Node) (on_known : AreOnKnown known node) where
  -- the disk that a session has open is known
  pub known_open : (number : ℕ) (disk : Disk) → (session_among number node.sessions).disk ≡ Some disk → IsKnownInode known disk.inode
  known_open number disk opened = by_session (tree.get node.sessions number) refl opened
    where
      by_session : (o : Option Session) → tree.get node.sessions number ≡ o → (unwrap_or o new_session).disk ≡ Some disk
          → IsKnownInode known disk.inode
      by_session None none opened = absurd (cc (opened))
      by_session (Some session) there opened =
          subst (λ (o : Option Disk). IfSome o (λ (d : Disk). IsKnownInode known d.inode)) opened
          (on_known.each_session number session there).disk

  course_goes : (number : ℕ) (course : Course) (work : ObjWork) → Waits (session_among number node.sessions).disk course work
      → IsKnownCourse known course → IsAllowed (opened_as (session_among number node.sessions).disk) course → IsWrite work
      → WriteGoes node work
  course_goes number (Waiting ask) work waits knows allowed write = absurd waits.0
  course_goes number (Driving driver) work (is, (disk, opened, own)) knows allowed write =
      let same : is.disk ≡ disk = same_Some is.disk disk (sym is.there ∙ opened) in
      ⊎_elim
      (λ (object : IsOwnObject disk.inode work). ToOwn number disk opened object)
      (λ (inode : oid_of work ≡ inode_number disk.inode.vid). ToInode (disk.inode.vid, (known_open number disk opened).disk.id, inode))
      (driver_goes disk.inode driver work (subst (λ (d : Disk). IsAwaitedByDriver d.inode driver (driver_acts.Work work)) same is.awaited)
      own write)
  course_goes number (Commanding op) work waits knows allowed write =
      ToInode (stage_goes known known (session_among number node.sessions).disk (known_open number) op.stage work waits.0 knows write)
  course_goes number (Checking check) work (is, (disk, opened, vid)) knows allowed write =
      let same : is.disk ≡ disk = same_Some is.disk disk (sym is.there ∙ opened) in
      ToOwn number disk opened
      (check_goes disk check check.stage work (subst (λ (d : Disk). IsOfCheckStage d check check.stage work) same is.is) vid write)
  course_goes number (DoingWork asked) work waits knows allowed write =
      absurd (reads_not work asked waits.0 allowed write)
  course_goes number (AwaitingDecision entry) work waits knows allowed write = absurd waits.0

  -- a work that a request has
  pub work_goes : AreAllowed node.requests node.sessions → HaveAt Waits node.gateway.works node.requests node.sessions
      → (req : ℕ) (work : ObjWork)
      → HasWork req work node.gateway.works node.sessions → (request : Request) → tree.get node.requests req ≡ Some request → IsWrite work
      → WriteGoes node work
  work_goes allowed waits req work has request there write =
      course_goes request.session request.course work
      (subst (λ (o : Option Request). IsAt Waits node.sessions o work) there (waits req work has))
      (on_known.courses req request there)
      (subst (IsSeen opened_by IsAllowed node.sessions) there (allowed req)) write

-- ---- a step that a request takes

-- where a step of a request leads to, a write goes so from before it
abbrev pub OutcomeGoes : StepState → Outcome → Type 0
OutcomeGoes so_far (ToWork work) = IsWrite work → WriteGoes so_far.node work
OutcomeGoes so_far (ToEntry entry) = Unit {0}
OutcomeGoes so_far (ToReply reply) = Unit {0}

-- the session keeps its disk as a work ends
freed_disk : (session req : ℕ) (work : Work) (status : Status) (so_far : StepState)
    → (session_in session (without_ended_work session req work status so_far)).disk ≡ (session_in session so_far).disk
freed_disk session req work status so_far =
    ap (λ (o : Option Session). (unwrap_or o new_session).disk)
    (get-insert_same so_far.node.sessions session
    (record (session_in session so_far) { inode_queue = queue_after_end (session_in session so_far).inode_queue work.work }))

-- the request that is now in this course
seen_then : (Q : Option Disk → Course → Type 0) (sessions : Sessions) (number : ℕ) (session : Session) (req : ℕ) (course : Course)
    (requests : Requests)
    → IsSeen disk_in Q (tree.insert sessions number session) (tree.get
    (tree.insert requests req (record { session = number; course = course })) req)
    → Q session.disk course
seen_then Q sessions number session req course requests is =
    subst (λ (o : Option Session). Q (disk_in (unwrap_or o new_session)) course) (get-insert_same sessions number session)
    (subst (IsSeen disk_in Q (tree.insert sessions number session))
    (get-insert_same requests req (record { session = number; course = course })) is)

-- an own entry of the table that a driver leaves was there, or is the one that was written
abbrev IsEntered : Driver → ℕ → Type 0
IsEntered (Reads told piece rest) index = ⊥
IsEntered (Writes payload InPlace piece rest) index = ⊥
IsEntered (Writes payload Fetching piece rest) index = ⊥
IsEntered (Writes payload Creating piece rest) index = ⊥
IsEntered (Writes payload Entering piece rest) index = index ≡ piece.index
IsEntered drivers.Answered index = ⊥

entry_was : (inode : Content) (driver : Driver) (index : ℕ) → slice_index (inode_after inode driver).table index ≡ inode.vid
    → (slice_index inode.table index ≡ inode.vid) ⊎ IsEntered driver index
entry_was inode (Reads told piece rest) index is = inl is
entry_was inode (Writes payload InPlace piece rest) index is = inl is
entry_was inode (Writes payload Fetching piece rest) index is = inl is
entry_was inode (Writes payload Creating piece rest) index is = inl is
entry_was inode (Writes payload Entering piece rest) index is = ⊎_elim
    (λ (own : index ≡ piece.index). inr own)
    (λ (other : index ≢ piece.index). inl (sym (get_or-set_other inode.table piece.index index inode.vid 0 other) ∙ is))
    (cases_eq index piece.index)
entry_was inode drivers.Answered index is = inl is

vid_after : (inode : Content) (driver : Driver) → (inode_after inode driver).vid ≡ inode.vid
vid_after inode (Reads told piece rest) = refl
vid_after inode (Writes payload InPlace piece rest) = refl
vid_after inode (Writes payload Fetching piece rest) = refl
vid_after inode (Writes payload Creating piece rest) = refl
vid_after inode (Writes payload Entering piece rest) = refl
vid_after inode drivers.Answered = refl

-- the entry that a driver writes
entering_is : (inode : Content) (driver : Driver) (index : ℕ) (work : ObjWork) → IsEntered driver index
    → IsAwaitedByDriver inode driver (driver_acts.Work work) → All FewAt (pieces_left driver)
    → (piece : Piece) × FewAt piece × (index ≡ piece.index) × (work ≡ write_entry inode piece)
entering_is inode (Reads told piece rest) index work is awaited few = absurd is
entering_is inode (Writes payload InPlace piece rest) index work is awaited few = absurd is
entering_is inode (Writes payload Fetching piece rest) index work is awaited few = absurd is
entering_is inode (Writes payload Creating piece rest) index work is awaited few = absurd is
entering_is inode (Writes payload Entering piece rest) index work is awaited few = (piece, All-head FewAt piece rest few, is, cc (awaited))
entering_is inode drivers.Answered index work is awaited few = absurd is

module _ (known now : List Effect) (input : Input) (node : Node) (so_far : StepState) (on_known : AreOnKnown known so_far.node)
    (waits : AtSoFar Waits so_far)
    (none : (req session : ℕ) (work : ObjWork) → input ≡ inputs.Guest req session (asks.Object work) → is_making work ≡ false) where
  -- a read or write
  acted_goes : (session : ℕ) (disk : Disk) (step : DriverStep) → (session_in session so_far).disk ≡ Some disk
      → step.inode.vid ≡ disk.inode.vid
      → ((index : ℕ) (work : ObjWork) → slice_index step.inode.table index ≡ disk.inode.vid → oid_of work
      ≡ object_number disk.inode.vid index
      → WriteGoes so_far.node work)
      → (act : DriverAct) → IsAwaitedByDriver step.inode step.driver act → IsOwnStep step → OutcomeGoes so_far (outcome_of_driver act)
  acted_goes session disk step on same own_so (driver_acts.Work work) told own = λ write. ⊎_elim
      (λ (object : IsOwnObject step.inode work).
      own_so object.index work (object.own ∙ same) (object.object ∙ ap (λ (vid : ℕ). object_number vid object.index) same))
      (λ (inode : oid_of work ≡ inode_number step.inode.vid).
      ToInode (disk.inode.vid, (known_open known so_far.node on_known session disk on).disk.id, inode ∙ ap inode_number same))
      (driver_goes step.inode step.driver work told own write)
  acted_goes session disk step on same own_so (driver_acts.Reply reply) told own = tt

  -- a write's entry is written
  entered_goes : (session req : ℕ) (done : Work) (driver : Driver) (disk : Disk) → tree.get so_far.node.gateway.works req ≡ Some done
      → HasRequest session req (Driving driver) so_far → (session_in session so_far).disk ≡ Some disk → (index : ℕ) (work : ObjWork)
      → IsEntered driver index → oid_of work ≡ object_number disk.inode.vid index → WriteGoes so_far.node work
  entered_goes session req done driver disk at there on index work entered object =
      let now : Waits (session_in session so_far).disk (Driving driver) done.work
      = subst (λ (o : Option Request). IsAt Waits so_far.node.sessions o done.work) there (waits req done.work (inl (done, at, refl))) in
      let same : now.0.disk ≡ disk = same_Some now.0.disk disk (sym now.0.there ∙ on) in
      let (piece, few, is, one) = entering_is disk.inode driver index done.work entered
      (subst (λ (d : Disk). IsAwaitedByDriver d.inode driver (driver_acts.Work done.work)) same now.0.awaited)
      (on_known.courses req (record { session = session; course = Driving driver }) there) in
      ToEntered disk.inode piece (known_open known so_far.node on_known session disk on).disk.id few
      (record { req = req; open_work = done; there = at; same = one })
      (object ∙ ap (object_number disk.inode.vid) is)

  -- a command
  commanded_goes : (session req : ℕ) (step : OpStep) → IsKnownStage now step.op.stage
      → (act : OpAct) → IsOpWaitedAt (session_in session so_far).disk step.op act → OutcomeGoes so_far (outcome_of_command act)
  commanded_goes session req step knows (op_acts.Append entry) is = tt
  commanded_goes session req step knows (op_acts.Work work) is =
      λ write. ToInode (stage_goes known now (session_in session so_far).disk (known_open known so_far.node on_known session) step.op.stage
      work is.0 knows write)
  commanded_goes session req step knows (op_acts.Reply reply) is = tt

  -- a check
  checked_goes : (session req : ℕ) (check : Check) (before : StepState)
      → (session_in session before).disk ≡ (session_in session so_far).disk
      → (act : CheckAct) → IsOutcomeAt Waits req (outcome_of_check act) (with_sole_request session req (Checking check) before)
      → OutcomeGoes so_far (outcome_of_check act)
  checked_goes session req check before same (check_acts.Work work) is =
      λ write. (let (on, (disk, opened, vid)) = seen_then (λ (d : Option Disk) (of : Course). Waits d of work) before.node.sessions session
      (record (session_in session before) { command = Some req }) req (Checking check) before.node.requests is in
      let one : on.disk ≡ disk = same_Some on.disk disk (sym on.there ∙ opened) in
      ToOwn session disk (sym same ∙ opened)
      (check_goes disk check check.stage work (subst (λ (d : Disk). IsOfCheckStage d check check.stage work) one on.is) vid write))
  checked_goes session req check before same (check_acts.Reply found) is = tt

  module _ (outcome : (session req : ℕ) (next : Outcome) (moved : StepState) → RequestSteps input node so_far session req next moved
      → IsOutcomeAt Waits req next moved) where
    steps_go : (session req : ℕ) (next : Outcome) (moved : StepState)
        → ((request : Request) → tree.get moved.node.requests req ≡ Some request → IsKnownCourse now request.course)
        → RequestSteps input node so_far session req next moved → OutcomeGoes so_far next
    steps_go session req next moved later (DiskBegins ask disk there on may_run) =
        let step = begin_driver disk ask in
        let goes = begin_goes drivers.Answered disk ask in
        acted_goes session disk step on (ap (λ (inode : Content). inode.vid) goes.table)
        (λ index work own object. ToOwn session disk on
        (record { index = index; own = sym (ap (λ (inode : Content). slice_index inode.table index) goes.table) ∙ own; object = object }))
        step.act goes.told (driver_begins-own disk ask)
    steps_go session req next moved later (DiskGoesOn number work attempt status bytes driver disk step ends freed is) =
        let on : (session_in session so_far).disk ≡ Some disk = sym (freed_disk session req work status so_far) ∙ freed in
        let goes : Goes driver (inode_after disk.inode driver) step
        = subst (λ (o : Option DriverStep). IfSome o (λ step. Goes driver (inode_after disk.inode driver) step)) is
        (done_goes disk.inode bytes driver) in
        acted_goes session disk step on (ap (λ (inode : Content). inode.vid) goes.table ∙ vid_after disk.inode driver)
        (λ index other own object. ⊎_elim
        (λ (old : slice_index disk.inode.table index ≡ disk.inode.vid).
        ToOwn session disk on (record { index = index; own = old; object = object }))
        (λ (entered : IsEntered driver index).
        entered_goes session req work driver disk ends.ends.learns.there ends.ends.request on index other entered object)
        (entry_was disk.inode driver index (sym (ap (λ (inode : Content). slice_index inode.table index) goes.table) ∙ own)))
        step.act goes.told (driver_goes_on-own disk.inode bytes driver step is)
    steps_go session req next moved later (CommandBegins ask step arrival is) =
        commanded_goes session req step
        (later (record { session = session; course = Commanding step.op })
        (get-insert_same so_far.node.requests req (record { session = session; course = Commanding step.op }))) step.act
        (command_begins-waited (session_in session so_far).disk so_far.node.me session ask (inode_open (session_in session so_far).disk)
        step is)
    steps_go session req next moved later (CommandGoesOn number work attempt status bytes op step ends is) =
        let draft : HasOwnDraftAt op.stage
        = (subst (λ (o : Option Request). IsAt Waits so_far.node.sessions o work.work) ends.ends.request
        (waits req work.work (inl (work, ends.ends.learns.there, refl)))).1 in
        commanded_goes session req step
        (later (record { session = session; course = Commanding step.op })
        (get-insert_same so_far.node.requests req (record { session = session; course = Commanding step.op }))) step.act
        (command_goes_on-waited (session_in session so_far).disk bytes op step is draft)
    steps_go session req next moved later (CommandDecided entry op step from reading there awaits is) =
        commanded_goes session req step
        (later (record { session = session; course = Commanding step.op })
        (get-insert_same so_far.node.requests req (record { session = session; course = Commanding step.op }))) step.act
        (command_decided-waited (session_in session so_far).disk (effects_of so_far.node.peer) op step (decision_on entry node.peer) is)
    steps_go session req next moved later (CheckBegins inode arrival on) =
        checked_goes session req (begin_check inode).check so_far refl (begin_check inode).act
        (outcome session req next moved (CheckBegins inode arrival on))
    steps_go session req next moved later (CheckGoesOn number work attempt status bytes check step ends is) =
        checked_goes session req step.check (without_ended_work session req work status so_far) (freed_disk session req work status so_far)
        step.act (outcome session req next moved (CheckGoesOn number work attempt status bytes check step ends is))
    steps_go session req next moved later (ObjectBegins asked arrival) =
        λ write. absurd (reads_not asked asked refl (none req session asked arrival.from) write)
    steps_go session req next moved later (ObjectIsDone number work attempt status bytes asked ends) = tt
    steps_go session req next moved later (EntryBegins entry arrival) = tt
    steps_go session req next moved later (EntryDecided entry wanted from reading there awaits) = tt

    -- a work whose turn has come
    pub next_goes : AreAllowed so_far.node.requests so_far.node.sessions → (session req : ℕ) (asked : Work) (lined : StepState)
        → WorkIsNext input node so_far session req asked lined → (request : Request) → tree.get lined.node.requests req ≡ Some request
        → IsKnownCourse now request.course → IsWrite asked.work → WriteGoes so_far.node asked.work
    next_goes allowed session req asked lined (AtOnce work moved steps begins) request there knows write =
        steps_go session req (ToWork work) moved
        (λ other got. subst (λ (r : Request). IsKnownCourse now r.course) (same_Some request other (sym there ∙ got)) knows) steps write
    next_goes allowed session req asked lined (InTurn work later free is) request there knows write =
        let first : lines.Waiting = record { req = req; work = work } in
        work_goes known so_far.node on_known allowed waits req work
        (inr (
          session,
          subst (λ (list : List lines.Waiting). Contains list (record { req = req; work = work })) (sym is)
              (Contains-first first first later refl),
        ))
        request there write
    next_goes allowed session req asked lined (Again work course from next at has) request there knows write =
        work_goes known so_far.node on_known allowed waits req asked.work (inl (asked, at, refl)) request there write
    next_goes allowed session req asked lined (AgainAlone work from next at gone) request there knows write = absurd (cc (gone, there))
