-- In the middle of a step a read that may begin meets no write which has begun: what is written on the disk that its session has open is
-- written in the session, whose queue lets none of two begin that have an object in common; and a check is alone in its session.
use Rattle.std.proofs.Common.{◌≡◌, ◌≢◌, inr, arith, ℕ, ◌+◌, ◌*◌, ◌/◌, ◌%◌, ◌^◌, ◌<◌, ◌≤◌, ◌==◌, Bool, true, false, List, length}
use Rattle.std.proofs.Common.{Option, Some, None, refl, sym, ap, subst, ◌∙◌}
use Rattle.std.specs.FinMap as tree
use Rattle.std.proofs.lemmas.Bool.{and_from, eq-eqb}
use Rattle.std.proofs.lemmas.Option.{same_Some}
use Rattle.disk_lock.specs.declared.holder.Holder.{Holder}
use Rattle.epoch_log.specs.Epochs.{epoch_of}
use Rattle.cluster_script.specs.declared.statement.Statement.{Statement}
use Rattle.peer_proto.specs.declared.guest.DiskAsk.{DiskAsk}
use Rattle.peer_proto.specs.declared.guest.DiskAsk.TheVariants as disk_asks
use Rattle.peer_proto.specs.declared.guest.VdiAsk.TheVariants as disk_commands
use Rattle.peer_proto.specs.declared.work.ObjWork.{ObjWork}
use Rattle.gateway_queue.specs.declared.queue.Queued.{Queued}
use Rattle.gateway_queue.specs.Queue.{Covers, may_run}
use Rattle.disk_check.specs.Check.{Check}
use Rattle.guest_driver.specs.declared.disk.Disk.{Disk}
use Rattle.guest_driver.specs.Driver.{DriverStage, Reads, Writes, Answered}
use Rattle.guest_driver.specs.Pieces.{Piece}
use Rattle.sheep_node.specs.declared.ask.Ask.{Ask}
use Rattle.sheep_node.specs.declared.ask.Ask.TheVariants as asks
use Rattle.sheep_node.specs.declared.course.Course.{Course}
use Rattle.sheep_node.specs.declared.course.Course.TheVariants.{Waiting, Driving, Commanding, Checking, DoingWork, AwaitingDecision}
use Rattle.sheep_node.specs.declared.course.Request.{Request}
use Rattle.sheep_node.specs.Changes.{HasRequest}
use Rattle.sheep_node.specs.May.{is_disk_course}
use Rattle.sheep_node.specs.OneWork.{may_work, may_work_at}
use Rattle.sheep_node.specs.SessionQueues.{IsQueued, is_disk_request_of, queue_in, session_among}
use Rattle.sheep_node.specs.State.{session_at}
use Rattle.sheep_node.specs.StepState.{StepState}
use Rattle.sheep_node.proofs.SessionViews.{IsSeen}
use Rattle.sheep_world.specs.Began.{Began}
use Rattle.sheep_world.specs.HistoryAdditions.{disk_of}
use Rattle.sheep_world.specs.NodeCauses.{host_with_node, progress_at_cause}
use Rattle.sheep_world.specs.World.{Host}
use Rattle.sheep_world.specs.RunsWithAsks.{Move}
use Rattle.overlap_law.specs.HistoryGrowth.{world_at_cause}
use Rattle.overlap_law.specs.MomentChanges.{MomentTrail, RunsAreInRange}
use Rattle.overlap_law.specs.Past.{MomentWithPast, run_with_past}
use Rattle.overlap_law.specs.RequestsOfScript.{IsCourseOfAsk, IsOnDisk}
use Rattle.overlap_law.specs.StepMoments.{SteppingNode, IsStepping, StepsByChanges, LeadsInStep, first_in_step, last_in_step}
use Rattle.overlap_law.specs.StepMoments.{moment_in_step}
use Rattle.overlap_law.specs.WriterClaims.{HasLock, IsDiskKept, holder_at}
use Rattle.overlap_law.proofs.AloneCheckers as checkers
use Rattle.overlap_law.proofs.AloneHolders as holders
use Rattle.overlap_law.proofs.AnswersInMoments.{not_lost}
use Rattle.overlap_law.proofs.ApartNumbers.{AwaitsIt}
use Rattle.overlap_law.proofs.CausedWorks.{HasWellWorks}
use Rattle.overlap_law.proofs.ClaimsInRuns.{claims-in_run}
use Rattle.overlap_law.proofs.CoursesOfAsks.{IsPlacedAt, IsPlacedAs, placed_by_ask}
use Rattle.overlap_law.proofs.CoursesOfScript.{BeganOn, asked_by}
use Rattle.overlap_law.proofs.CoveredCourses.{IsCovered, shift_open, size_and_queue}
use Rattle.overlap_law.proofs.DisksOfWriters.{plain_course}
use Rattle.overlap_law.proofs.HoldersInWorlds.{held_given}
use Rattle.overlap_law.proofs.MomentTrails.{to_point}
use Rattle.overlap_law.proofs.NoRecoveredDue.{began-with_past}
use Rattle.overlap_law.proofs.PiecesUnderWay.{whole_blocks}
use Rattle.overlap_law.proofs.QueuesInMoments.{HasGoodQueues}
use Rattle.overlap_law.proofs.ReadsToldDisks.{at_host, began_on, placed_at}
use Rattle.overlap_law.proofs.SessionsApart.{turns_apart}
use Rattle.overlap_law.proofs.StandingMeets.{from_first, to_last, write_covers}
use Rattle.overlap_law.proofs.TablesOfReads.{locked, queues_along}
use Rattle.overlap_law.proofs.WorksInMoments.{well_along}

-- ---- who has a work, and asks to write

-- a write goes on, on the disk that its session has open
pub record IsWriting (opened : Option Disk) (began : Option ℕ) (course : Course) : Type 0 where
  pub on : IsOnDisk opened began
  pub payload : List ℕ
  pub stage : DriverStage
  pub piece : Piece
  pub rest : List Piece
  pub driven : course ≡ Driving (Writes payload stage piece rest)

is_writing : (asked : Option Ask) (offset : ℕ) (payload : List ℕ) → asked ≡ Some (asks.Disk (disk_asks.Write offset payload))
    → (opened : Option Disk) (began : Option ℕ) (course : Course) → IsCourseOfAsk asked opened began course → may_work course ≡ true
    → IsWriting opened began course
is_writing asked offset payload writes opened began (Waiting ask) is may = absurd (cc (may))
is_writing asked offset payload writes opened began (Driving (Reads told piece rest)) is may =
    let (start, size, reads, left) = is.is in
    let of = is.of in
    absurd (cc (writes, of, reads))
is_writing asked offset payload writes opened began (Driving (Writes bytes stage piece rest)) is may =
    record { on = is.on; payload = bytes; stage = stage; piece = piece; rest = rest; driven = refl }
is_writing asked offset payload writes opened began (Driving Answered) is may = absurd is.is
is_writing asked offset payload writes opened began (Commanding op) is may = let of = is.of in absurd (cc (writes, of))
is_writing asked offset payload writes opened began (Checking check) is may = let of = is.of in absurd (cc (writes, of))
is_writing asked offset payload writes opened began (DoingWork work) is may = absurd is
is_writing asked offset payload writes opened began (AwaitingDecision entry) is may = absurd is

-- a check goes on there
pub record IsCheckingOn (opened : Option Disk) (began : Option ℕ) (course : Course) : Type 0 where
  pub on : IsOnDisk opened began
  pub check : Check
  pub checks : course ≡ Checking check

pub is_checking : (asked : Option Ask) → asked ≡ Some (asks.Vdi disk_commands.Check) → (opened : Option Disk) (began : Option ℕ)
    (course : Course) → IsCourseOfAsk asked opened began course → IsCheckingOn opened began course
is_checking asked checks opened began (Waiting ask) is = let of = is.0 in absurd (cc (checks, of))
is_checking asked checks opened began (Driving driver) is = let of = is.of in absurd (cc (checks, of))
is_checking asked checks opened began (Commanding op) is =
    absurd ((plain_course asked (inr checks) opened began (Commanding op) is).plain op refl)
is_checking asked checks opened began (Checking check) is = record { on = is.on; check = check; checks = refl }
is_checking asked checks opened began (DoingWork work) is = absurd is
is_checking asked checks opened began (AwaitingDecision entry) is = absurd is

-- what a request writes of a block: it is a write that has the block, or a check
pub data WritesBlock (script : List Statement) (req block : ℕ) : Type 0 where
  AsWrite : (offset : ℕ) (payload : List ℕ) (place : ℕ) → asked_by script req ≡ Some (asks.Disk (disk_asks.Write offset payload))
      → place < length payload / 512 → block ≡ offset / 512 + place → WritesBlock script req block
  AsCheck : asked_by script req ≡ Some (asks.Vdi disk_commands.Check) → WritesBlock script req block

-- ---- a point of a step

module _ (script : List Statement) (range : RunsAreInRange script) (events : List Move) (start : MomentWithPast)
    (run : run_with_past script events ≡ Some start) (stepping : SteppingNode) (is : IsStepping script start.world stepping)
    (by : StepsByChanges stepping.cause) (x : StepState) (leads : LeadsInStep stepping (first_in_step stepping) x)
    (rest : LeadsInStep stepping x (last_in_step stepping)) where
  began : Began script start.world
  began = began-with_past script events start run

  abbrev here : MomentWithPast
  here = moment_in_step script stepping start x

  abbrev was : Host
  was = host_with_node stepping.host x.node

  trail : MomentTrail script start (moment_in_step script stepping start x)
  trail = to_point script start stepping is by leads rest

  there : tree.get (moment_in_step script stepping start x).world.hosts stepping.n ≡ Some (host_with_node stepping.host x.node)
  there = at_host script range events start run stepping is by x leads

  up : stepping.host.is_lost ≡ false
  up = not_lost stepping.host is.up

  pub well : HasWellWorks x.node
  well = well_along script range start began trail stepping.n was there

  queues : HasGoodQueues x.node
  queues = queues_along script range start began trail stepping.n was there

  -- the disk on which a request began is the one that its session has open
  abbrev pub IsBegunOn : ℕ → ℕ → Type 0
  IsBegunOn req vid = disk_of script req (world_at_cause start.world stepping.cause) ≡ Some vid

  pub same_disk : (req : ℕ) (opened : Option Disk) (disk : Option ℕ)
      → BeganOn script (progress_at_cause stepping.cause start.world) req disk → (on : IsOnDisk opened disk) → (vid : ℕ) → IsBegunOn req vid
      → on.disk.inode.vid ≡ vid
  same_disk req opened disk at on vid so =
      same_Some on.disk.inode.vid vid
      (sym on.same ∙ sym (began_on script range events start run stepping is by x leads req disk at) ∙ so)

  -- ---- one session has the disk

  abbrev Lock : ℕ → ℕ → Type 0
  Lock session vid =
      HasLock (moment_in_step script stepping start x).world.log x.node.outbox x.node.me session (epoch_of x.node.peer.entries) vid

  one_session : (session req : ℕ) (ask : DiskAsk) (disk : Disk) → HasRequest session req (Waiting ask) x
      → (session_among session x.node.sessions).disk ≡ Some disk → may_run req (queue_in session x.node.sessions) ≡ true → (other : ℕ)
      → Lock other disk.inode.vid → session ≡ other
  one_session session req ask disk got opened runs other lock = by_kind disk.snapshot refl
    where
      by_kind : (b : Bool) → disk.snapshot ≡ b → session ≡ other
      by_kind false working =
          let own = locked script range events start run here trail stepping.n was there up session disk opened req
          (record { session = session; course = Waiting ask }) got refl refl runs (λ payload piece rest same. cc (same)) working in
          ap (λ (h : Holder). h.session) (same_Some (holder_at x.node.me session) (holder_at x.node.me other) (sym own.held ∙ lock.held))
      by_kind true snapshot =
          absurd (held_given here.world.log disk.inode.vid (holder_at x.node.me other) lock.held
          (subst (λ (b : Bool).
          IsDiskKept here.world.log x.node.outbox x.node.peer.entries x.node.me x.node.requests session b disk.inode) snapshot
          (((claims-in_run script range events start here run trail).each stepping.n was there up).disks session disk opened)))

  -- ---- a request that has a work

  module _ (req number : ℕ) (asked : ObjWork) (awaits : AwaitsIt number x.node.gateway.works req asked) where
    pub begun : (request : Request) × (tree.get x.node.requests req ≡ Some request) × (may_work request.course ≡ true)
    begun = by_request (tree.get x.node.requests req) refl (well.one_work.open_works req awaits.work awaits.there)
      where
        by_request : (o : Option Request) → tree.get x.node.requests req ≡ o → may_work_at o ≡ true
            → (request : Request) × (tree.get x.node.requests req ≡ Some request) × (may_work request.course ≡ true)
        by_request None got may = absurd (cc (may))
        by_request (Some request) got may = (request, got, may)

    placed_so : IsPlacedAt (asked_by script) (BeganOn script (progress_at_cause stepping.cause start.world)) req
        (session_at begun.0.session x.node).disk begun.0.course
    placed_so = placed_at script range events start run stepping is by x leads begun.0.session req begun.0.course begun.1

    -- a write on this disk has its lock
    module _ (offset : ℕ) (payload : List ℕ) (writes : asked_by script req ≡ Some (asks.Disk (disk_asks.Write offset payload))) (vid : ℕ)
        (on_it : IsBegunOn req vid) where
      written_at : IsPlacedAs (asked_by script) (BeganOn script (progress_at_cause stepping.cause start.world)) req
          (session_at begun.0.session x.node).disk begun.0.course
      written_at =
          placed_by_ask (asked_by script) (BeganOn script (progress_at_cause stepping.cause start.world)) req
          (asks.Disk (disk_asks.Write offset payload)) writes
          (session_at begun.0.session x.node).disk begun.0.course placed_so

      writing : IsWriting (session_at begun.0.session x.node).disk written_at.0 begun.0.course
      writing =
          is_writing (asked_by script req) offset payload writes (session_at begun.0.session x.node).disk written_at.0 begun.0.course
          written_at.2 begun.2

      write_lock : Lock begun.0.session vid
      write_lock =
          subst (Lock begun.0.session)
          (same_disk req (session_at begun.0.session x.node).disk written_at.0 written_at.1 writing.on vid on_it)
          (holders.locked script range events start here run trail stepping.n was there up req begun.0 begun.1 writing.on.disk
          writing.on.there writing.payload writing.stage writing.piece writing.rest writing.driven)

    -- and so does a check
    module _ (checks : asked_by script req ≡ Some (asks.Vdi disk_commands.Check)) (vid : ℕ) (on_it : IsBegunOn req vid) where
      checked_at : IsPlacedAs (asked_by script) (BeganOn script (progress_at_cause stepping.cause start.world)) req
          (session_at begun.0.session x.node).disk begun.0.course
      checked_at =
          placed_by_ask (asked_by script) (BeganOn script (progress_at_cause stepping.cause start.world)) req
          (asks.Vdi disk_commands.Check) checks
          (session_at begun.0.session x.node).disk begun.0.course placed_so

      checking : IsCheckingOn (session_at begun.0.session x.node).disk checked_at.0 begun.0.course
      checking = is_checking (asked_by script req) checks (session_at begun.0.session x.node).disk checked_at.0 begun.0.course checked_at.2

      check_lock : Lock begun.0.session vid
      check_lock =
          subst (Lock begun.0.session)
          (same_disk req (session_at begun.0.session x.node).disk checked_at.0 checked_at.1 checking.on vid on_it)
          (checkers.locked script range events start here run trail stepping.n was there up req begun.0 begun.1 checking.on.disk
          checking.on.there checking.check checking.checks)

  -- ---- a read that may begin

  module _ (session reads offset size : ℕ) (disk : Disk) (got : HasRequest session reads (Waiting (disk_asks.Read offset size)) x)
      (opened : (session_among session x.node.sessions).disk ≡ Some disk)
      (runs : may_run reads (queue_in session x.node.sessions) ≡ true) (vid : ℕ) (its_disk : disk.inode.vid ≡ vid) where
    -- who has the lock of its disk is of its session
    own_session : (other : ℕ) → Lock other vid → session ≡ other
    own_session other lock =
        one_session session reads (disk_asks.Read offset size) disk got opened runs other (subst (Lock other) (sym its_disk) lock)

    queued : (q : ℕ) (course : Course) → HasRequest session q course x → is_disk_course course ≡ true
        → IsQueued q (queue_in session x.node.sessions)
    queued q course found on =
        queues.queues.has session q
        (ap (is_disk_request_of session) found
        ∙ and_from (session == session) (is_disk_course course) (eq-eqb session session refl) on)

    abbrev queue : List Queued
    queue = queue_in session x.node.sessions

    -- there is no write beside it that has a block in common with it
    pub no_write : (whole : offset % 512 ≡ 0) → (req number : ℕ) (asked : ObjWork) → AwaitsIt number x.node.gateway.works req asked
        → reads ≢ req → (from : ℕ) (payload : List ℕ) → asked_by script req ≡ Some (asks.Disk (disk_asks.Write from payload))
        → IsBegunOn req vid → (place own : ℕ) → place < length payload / 512 → own < size / 512
        → offset / 512 + own ≡ from / 512 + place → ⊥
    no_write whole req number asked awaits apart from payload writes on_it place own inside read same =
        let its = writing req number asked awaits from payload writes vid on_it in
        let its_session = own_session (begun req number asked awaits).0.session
        (write_lock req number asked awaits from payload writes vid on_it) in
        let driven : Course = Driving (Writes its.payload its.stage its.piece its.rest) in
        let there_too : HasRequest session req driven x
        = (begun req number asked awaits).1 ∙ (λ i. Some (record { session = (sym its_session) i; course = its.driven i })) in
        let (began_too, at_too, course_too) = placed_at script range events start run stepping is by x leads session req driven there_too in
        let covered : IsCovered reads (size_and_queue (session_among session x.node.sessions)) (Waiting (disk_asks.Read offset size))
        = subst (IsSeen size_and_queue (IsCovered reads) x.node.sessions) got (queues.covered reads) in
        let covered_too : IsCovered req (size_and_queue (session_among session x.node.sessions)) driven
        = subst (IsSeen size_and_queue (IsCovered req) x.node.sessions) there_too (queues.covered req) in
        let mine = queued reads (Waiting (disk_asks.Read offset size)) got refl in
        let other = queued req driven there_too refl in
        let wide : shift_open (session_among session x.node.sessions).disk ≡ Some disk.inode.spec.shift = ap shift_open opened in
        let shift = disk.inode.spec.shift in
        let whole_too = (whole_blocks script range req from payload writes stepping.host).0 in
        let begins : offset ≤ 512 * (from / 512 + place) = omega (arith, whole, same) in
        let ends : 512 * (from / 512 + place) < offset + size = omega (arith, read, same) in
        let begins_too : from ≤ 512 * (from / 512 + place) = omega (arith, whole_too) in
        let ends_too : 512 * (from / 512 + place) < from + length payload = omega (arith, inside) in
        let index = 512 * (from / 512 + place) / 2 ^ shift in
        turns_apart queue mine.0 other.0 (queues.once session) mine.1 other.1
        (λ (tie : mine.0.req ≡ other.0.req). apart (sym mine.2 ∙ tie ∙ other.2))
        (ap (λ (k : ℕ). may_run k queue) mine.2 ∙ runs) (ap (λ (k : ℕ). may_run k queue) other.2 ∙ covered_too.0) index
        (subst (λ (q : Queued). Covers q index) (sym (covered shift wide mine.0 mine.1 mine.2))
        (from_first shift offset size (from / 512 + place) begins ends, to_last shift offset size (from / 512 + place) begins ends))
        (write_covers req from payload (asked_by script req) writes (session_among session x.node.sessions).disk began_too queue other.0
        other.1 other.2 shift wide index (from_first shift from (length payload) (from / 512 + place) begins_too ends_too)
        (to_last shift from (length payload) (from / 512 + place) begins_too ends_too) driven course_too covered_too)

    -- nor a check
    pub no_check : (req number : ℕ) (asked : ObjWork) → AwaitsIt number x.node.gateway.works req asked → reads ≢ req
        → asked_by script req ≡ Some (asks.Vdi disk_commands.Check) → IsBegunOn req vid → ⊥
    no_check req number asked awaits apart checks on_it =
        let its = checking req number asked awaits checks vid on_it in
        let its_session = own_session (begun req number asked awaits).0.session (check_lock req number asked awaits checks vid on_it) in
        apart (sym (checkers.check_alone script range events start here run trail stepping.n was there up req
        (begun req number asked awaits).0 (begun req number asked awaits).1 its.on.disk its.on.there its.check its.checks reads
        (record { session = session; course = Waiting (disk_asks.Read offset size) }) got its_session))

  -- ---- a check on the disk

  -- who has begun to write there is the check
  module _ (session checker : ℕ) (check : Check) (got : HasRequest session checker (Checking check) x) (vid : ℕ)
      (its_disk : check.vid ≡ vid) where
    its_place : IsPlacedAt (asked_by script) (BeganOn script (progress_at_cause stepping.cause start.world)) checker
        (session_at session x.node).disk (Checking check)
    its_place = placed_at script range events start run stepping is by x leads session checker (Checking check) got

    its_lock : Lock session vid
    its_lock =
        subst (Lock session) (sym its_place.2.is.vid ∙ its_disk)
        (checkers.locked script range events start here run trail stepping.n was there up checker
        (record { session = session; course = Checking check }) got its_place.2.on.disk its_place.2.on.there check refl)

    pub is_the_writer : (req number : ℕ) (asked : ObjWork) → AwaitsIt number x.node.gateway.works req asked → (block : ℕ)
        → WritesBlock script req block → IsBegunOn req vid → checker ≡ req
    is_the_writer req number asked awaits block writer on_it =
        let lock : Lock (begun req number asked awaits).0.session vid = by_writer writer in
        let own : (begun req number asked awaits).0.session ≡ session
        = ap (λ (h : Holder). h.session)
        (same_Some (holder_at x.node.me (begun req number asked awaits).0.session) (holder_at x.node.me session)
        (sym lock.held ∙ its_lock.held)) in
        checkers.check_alone script range events start here run trail stepping.n was there up checker
        (record { session = session; course = Checking check }) got its_place.2.on.disk its_place.2.on.there check refl req
        (begun req number asked awaits).0 (begun req number asked awaits).1 own
      where
        by_writer : WritesBlock script req block → Lock (begun req number asked awaits).0.session vid
        by_writer (AsWrite offset payload place writes inside at) = write_lock req number asked awaits offset payload writes vid on_it
        by_writer (AsCheck checks) = check_lock req number asked awaits checks vid on_it
