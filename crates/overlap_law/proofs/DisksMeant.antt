-- In every run in range the disk that a request is on by its number is the one for which its node's work is.
use Rattle.std.proofs.Common.{◌≡◌, inl, arith, ℕ, ◌<◌, ◌≤◌, ◌++◌, Bool, true, false, cond, List, [], ◌∷◌, All, length, Option, Some, None}
use Rattle.std.proofs.Common.{option_map, refl, sym, ap, subst, ◌∙◌}
use Rattle.std.specs.FinMap as tree
use Rattle.std.proofs.lemmas.List.Elements.{All-head}
use Rattle.std.proofs.lemmas.Option.{same_Some}
use Rattle.object_id.specs.declared.limits.TheConstants.{OBJECTS_MAX}
use Rattle.object_id.specs.Oid.{vid_of}
use Rattle.cluster_script.specs.NumberedRequests.{is_disk_request}
use Rattle.cluster_script.specs.declared.statement.Statement.{Statement}
use Rattle.peer_proto.specs.Work.{oid_of}
use Rattle.gateway.specs.State.{Work}
use Rattle.guest_driver.specs.declared.disk.Disk.{Disk}
use Rattle.disk_check.specs.Check as checks
use Rattle.disk_check.specs.Check.{Check, CheckStage, Comparing, WritingBack as Rewriting, left_of}
use Rattle.disk_check.specs.Table.{own_indexes}
use Rattle.sheep_node.specs.declared.course.Course.{Course}
use Rattle.sheep_node.specs.declared.course.Course.TheVariants.{Waiting, Driving, Commanding, Checking, DoingWork, AwaitingDecision}
use Rattle.sheep_node.specs.declared.course.Request.{Request}
use Rattle.sheep_node.specs.May.{is_disk_course}
use Rattle.sheep_node.specs.SessionQueues.{session_among}
use Rattle.sheep_node.specs.State.{Node, session_at}
use Rattle.sheep_world.specs.Asking.{session_asking}
use Rattle.sheep_world.specs.Began.{Began}
use Rattle.sheep_world.specs.BegunRequests.{IsOfScript}
use Rattle.sheep_world.specs.Conditions.{is_disk_request_at}
use Rattle.sheep_world.specs.HistoryAdditions.{disk_of}
use Rattle.sheep_world.specs.World.{Host, World}
use Rattle.overlap_law.specs.Courses.{IsOfCheckStage, WaitsFor}
use Rattle.overlap_law.specs.MomentChanges.{RunsAreInRange}
use Rattle.overlap_law.specs.NoObjects.{disk_for, disk_meant}
use Rattle.overlap_law.specs.RequestsOfScript.{IsCourseOfAsk, indexes_left}
use Rattle.overlap_law.proofs.CausedWorks.{HasWellWorks}
use Rattle.overlap_law.proofs.CoursesOfAsks.{IsPlacedAs}
use Rattle.overlap_law.proofs.CoursesOfScript.{asked_by, BeganOn}
use Rattle.overlap_law.proofs.CreatesFirst.{inside}
use Rattle.overlap_law.proofs.KnownDisks.{Few, IsKnownInode, IsKnownCourse, vid-of_object}
use Rattle.overlap_law.proofs.PlacedOfScript.{placed_of_script}
use Rattle.overlap_law.proofs.SessionsOfRequests.{of_asking, of_test}
use Rattle.overlap_law.proofs.StartedOnce.{UnansweredAreOnce, disk_of_began}
use Rattle.overlap_law.proofs.UnansweredRequests.{requests_tied}
use Rattle.overlap_law.proofs.WaitedInRuns.{works_waited}
use Rattle.overlap_law.proofs.WaitedSteps.{no_id, Waits}
use Rattle.overlap_law.proofs.WorksAtCourses.{IsAt}
use Rattle.overlap_law.proofs.WorksInMoments.{well_in_world}
use Rattle.overlap_law.proofs.WriteObjects.{known_open, own_there}

module _ (script : List Statement) (range : RunsAreInRange script) (world : World) (began : Began script world)
    (apart : UnansweredAreOnce world.guests) (n : ℕ) (host : Host) (at : tree.get world.hosts n ≡ Some host) (req : ℕ) (work : Work)
    (got : tree.get host.node.gateway.works req ≡ Some work) (request : Request) (there : tree.get host.node.requests req ≡ Some request)
    (vid : ℕ) (meant : disk_meant script world req (oid_of work.work) ≡ Some vid) where
  abbrev node : Node
  node = host.node

  abbrev opened : Option Disk
  opened = (session_among request.session node.sessions).disk

  well : HasWellWorks node
  well = well_in_world script range world began n host at

  -- it is of the script, of which alone a disk is meant
  of_script : IsOfScript script req
  of_script = by_test (is_disk_request_at script req) refl meant
    where
      by_session : (o : Option ℕ) → session_asking script req ≡ o → option_map (λ (session : ℕ). vid_of (oid_of work.work)) o ≡ Some vid
          → IsOfScript script req
      by_session None asks is = absurd (cc (is))
      by_session (Some session) asks is = of_asking script req session asks

      by_test : (b : Bool) → is_disk_request_at script req ≡ b
          → cond b (disk_of script req world) (option_map (λ (session : ℕ). vid_of (oid_of work.work)) (session_asking script req))
          ≡ Some vid
          → IsOfScript script req
      by_test true test is = of_test script is_disk_request req test
      by_test false test is = by_session (session_asking script req) refl is

  placed : IsPlacedAs (asked_by script) (BeganOn script world.guests) req opened request.course
  placed = placed_of_script script range world began n host at req request there of_script

  waits : WaitsFor [] no_id [] opened request.course work.work
  waits =
      (subst (λ (o : Option Request). IsAt Waits node.sessions o work.work) there
      ((works_waited script range world began n host at).1 req work.work (inl (work, got, refl)))).0

  kind : is_disk_course request.course ≡ is_disk_request_at script req
  kind = (requests_tied script range world began n host at req request there of_script).kind

  -- ---- what a request is on by its number

  meant_by : (b : Bool) → is_disk_course request.course ≡ b
      → cond b (disk_of script req world) (option_map (λ (session : ℕ). vid_of (oid_of work.work)) (session_asking script req)) ≡ Some vid
  meant_by b is =
      subst (λ (disk : Bool).
      cond disk (disk_of script req world) (option_map (λ (session : ℕ). vid_of (oid_of work.work)) (session_asking script req)) ≡ Some vid)
      (sym kind ∙ is) meant

  named_by : (o : Option ℕ) → option_map (λ (session : ℕ). vid_of (oid_of work.work)) o ≡ Some vid → vid_of (oid_of work.work) ≡ vid
  named_by None is = absurd (cc (is))
  named_by (Some session) is = same_Some (vid_of (oid_of work.work)) vid is

  its_id : is_disk_course request.course ≡ false → vid_of (oid_of work.work) ≡ vid
  its_id is = named_by (session_asking script req) (meant_by false is)

  -- ---- a check

  -- what a check reads or writes is the disk's own
  checked : (check : Check) (disk : Disk) → opened ≡ Some disk → (stage : CheckStage) → check.stage ≡ stage → (before : List ℕ)
      → before ++ indexes_left check.stage ≡ own_indexes disk.inode → check.vid ≡ disk.inode.vid
      → IsKnownCourse well.known (Checking check) → IsOfCheckStage disk check stage work.work → check.vid ≡ vid_of (oid_of work.work)
  checked check disk on (Comparing index later) stage before indexes of_disk knows is =
      let within : All Few (index ∷ later) = subst (λ (s : CheckStage). All Few (left_of s)) stage knows.within in
      let few = All-head Few index later within in
      sym (ap vid_of (ap oid_of is) ∙ vid-of_object check.vid index knows.disk.id few)
  checked check disk on (Rewriting later) stage before indexes of_disk knows is =
      let known : IsKnownInode well.known disk.inode = known_open well.known node well.on_known request.session disk on in
      let own = own_there disk.inode is.before later is.index is.own in
      let least = known.disk.id.0 in
      let within : is.index < length disk.inode.table = inside disk.inode.table is.index disk.inode.vid own least in
      let most : length disk.inode.table ≤ OBJECTS_MAX = known.count in
      let few : Few is.index = omega (arith, within, most) in
      sym (ap vid_of (ap oid_of is.work_of) ∙ vid-of_object check.vid is.index knows.disk.id few)
  checked check disk on checks.Answered stage before indexes of_disk knows is = absurd is

  -- ---- each

  by_course : (course : Course) → request.course ≡ course → WaitsFor [] no_id [] opened course work.work
      → IsCourseOfAsk (asked_by script req) opened placed.0 course → IsKnownCourse well.known course
      → disk_for opened (oid_of work.work) course ≡ Some vid
  by_course (Waiting ask) is waiting on knows = absurd waiting
  by_course (Driving driver) is waiting on knows =
      ap (option_map (λ (disk : Disk). disk.inode.vid)) on.on.there ∙ sym on.on.same
      ∙ sym (disk_of_began script world apart req placed.0 placed.1) ∙ meant_by true (ap is_disk_course is)
  by_course (Commanding op) is waiting on knows = ap (λ (id : ℕ). Some id) (its_id (ap is_disk_course is))
  by_course (Checking check) is waiting on knows =
      let disk_so : on.on.disk ≡ waiting.disk = same_Some on.on.disk waiting.disk (sym on.on.there ∙ waiting.there) in
      let of_disk : check.vid ≡ waiting.disk.inode.vid = on.is.vid ∙ ap (λ (d : Disk). d.inode.vid) disk_so in
      let own = checked check waiting.disk waiting.there check.stage refl on.is.before
      (on.is.indexes ∙ ap (λ (d : Disk). own_indexes d.inode) disk_so) of_disk knows waiting.is in
      ap (λ (id : ℕ). Some id) (own ∙ its_id (ap is_disk_course is))
  by_course (DoingWork object) is waiting on knows = absurd on
  by_course (AwaitingDecision entry) is waiting on knows = absurd on

  pub disk_is : disk_for (session_at request.session node).disk (oid_of work.work) request.course ≡ Some vid
  disk_is = by_course request.course refl waits placed.2 (well.on_known.courses req request there)
