-- An attempt that begins on the inode of an id that is reserved to take a disk's place is of the command that makes it: the command's
-- session has the reservation, and no other work that a session may open creates that inode.
use Rattle.std.specs.FinMap as tree
use Rattle.std.proofs.Common.{◌≡◌, inl, arith, ℕ, Bool, true, false, All, List, length, Option, Some, None}
use Rattle.std.proofs.Common.{refl, sym, ap, subst, ◌∙◌}
use Rattle.std.proofs.lemmas.List.Elements.{All-head}
use Rattle.std.proofs.lemmas.Option.{same_Some}
use Rattle.object_id.specs.declared.entry.Entry.{Entry}
use Rattle.object_id.specs.declared.entry.Entry.TheVariants as entries
use Rattle.object_id.specs.declared.oid.Vid.{Vid}
use Rattle.object_id.specs.Oid.{IsVid, inode_number, vid_of}
use Rattle.cluster_script.specs.declared.statement.Statement.{Statement}
use Rattle.disk_lock.specs.declared.holder.Holder.{Holder}
use Rattle.guest_driver.specs.declared.act.DriverAct.{DriverAct}
use Rattle.guest_driver.specs.declared.disk.Disk.{Disk}
use Rattle.guest_driver.specs.Driver as drivers
use Rattle.guest_driver.specs.Driver.{Driver, InPlace, Fetching, Creating, Entering, Reads, Writes}
use Rattle.guest_driver.specs.OnDisk.{pieces_left}
use Rattle.inode.specs.Layout.{Content}
use Rattle.disk_check.specs.Check as checks
use Rattle.disk_check.specs.Check.{CheckStage}
use Rattle.gateway.specs.State.{Open, Work}
use Rattle.peer_proto.specs.Work.{oid_of}
use Rattle.peer_proto.specs.declared.work.ObjWork.{ObjWork}
use Rattle.vdi_directory.specs.declared.effect.Reservation.{Reservation}
use Rattle.vdi_directory.specs.declared.effect.Source.{Source}
use Rattle.vdi_directory.specs.declared.effect.Source.TheVariants as sources
use Rattle.vdi_directory.specs.Decisions.{log_effects}
use Rattle.vdi_directory.specs.Effects.{reservation_on, reservations_of}
use Rattle.vdi_directory.specs.States as states
use Rattle.vdi_directory.specs.States.{state_of}
use Rattle.vdi_ops.specs.declared.act.OpAct.TheVariants as op_acts
use Rattle.vdi_ops.specs.InodeWorks.{create_inode}
use Rattle.vdi_ops.specs.Op.{Task, Opening, WritingBack, Tagging, Copying, Making, OpStage, Asked, Working, Publishing, Answered, Op}
use Rattle.vdi_ops.specs.Op.{IsAwaitedAtOpStage, IsWorkOfTask}
use Rattle.sheep_node.specs.Changes.{attempt_in}
use Rattle.sheep_node.specs.Courses.{inode_open}
use Rattle.sheep_node.specs.SessionQueues.{session_among}
use Rattle.sheep_node.specs.WantedWorks.{IsWantedAt, IsWorkOfCheck, IsWorkOfDriver, IsWorkWanted}
use Rattle.sheep_node.specs.declared.course.Course.{Course}
use Rattle.sheep_node.specs.declared.course.Course.TheVariants.{Waiting, Driving, Commanding, Checking, DoingWork, AwaitingDecision}
use Rattle.sheep_node.specs.declared.course.Request.{Request}
use Rattle.sheep_node.specs.State.{Node}
use Rattle.sheep_node.proofs.SessionViews.{IsSeen}
use Rattle.sheep_world.specs.Began.{Began}
use Rattle.sheep_world.specs.NodeCauses.{host_with_node}
use Rattle.sheep_world.specs.World.{Host}
use Rattle.sheep_world.specs.RunsWithAsks.{Move}
use Rattle.overlap_law.specs.Attempts.{AttemptRecord, object_of}
use Rattle.overlap_law.specs.CommandDisks.{opened_in}
use Rattle.overlap_law.specs.Grants.{reserver, writer_of}
use Rattle.overlap_law.specs.Holders.{is_create_work}
use Rattle.overlap_law.specs.MomentChanges as moments
use Rattle.overlap_law.specs.MomentChanges.{MomentChange, MomentTrail, RunsAreInRange}
use Rattle.overlap_law.specs.Past.{MomentWithPast, run_with_past}
use Rattle.overlap_law.specs.WriterClaims.{IsMakingKept, IsStageKept}
use Rattle.overlap_law.specs.Writers.{session_holder}
use Rattle.overlap_law.proofs.AllowedCourses.{IsAllowed, opened_by}
use Rattle.overlap_law.proofs.CausedWorks.{HasWellWorks}
use Rattle.overlap_law.proofs.ClaimsInRuns.{claims-in_run}
use Rattle.overlap_law.proofs.DiskWalk.{IsAtStage}
use Rattle.overlap_law.proofs.DraftsOfLogs.{state_reserved}
use Rattle.overlap_law.proofs.DriverEntries.{no_inode, work_in}
use Rattle.overlap_law.proofs.EntryWorks.{known_disk}
use Rattle.overlap_law.proofs.GrantedAttempts.{only_writer-in_run}
use Rattle.overlap_law.proofs.KnownDisks.{FewAt, IsKnownCourse, vid-of_inode}
use Rattle.overlap_law.proofs.MakingStages.{IsMakingStage}
use Rattle.overlap_law.proofs.NamedEntries.{opened_there, opened_up}
use Rattle.overlap_law.proofs.NewAttempts.{IsOpened}
use Rattle.overlap_law.proofs.NoRecoveredDue.{began-with_past}
use Rattle.overlap_law.proofs.OwnMakings.{IsOwnStage, MakesOwn, MakesOwnAt}
use Rattle.overlap_law.proofs.PlacesGoOn.{IsPlaceYet}
use Rattle.overlap_law.proofs.ReadInMoments.{HostsAreSound, kept_sound}
use Rattle.overlap_law.proofs.ReservedMembers.{StandsReserved, reserved_writer}
use Rattle.overlap_law.proofs.RunsByChanges.{on_the_way}
use Rattle.overlap_law.proofs.SourcesInRuns.{IsSourced}
use Rattle.overlap_law.proofs.SourceStages.{IsAnyDisk, IsSourceMaking, IsSourceStage, StandsAs, stands_later}
use Rattle.overlap_law.proofs.WorksInMoments.{well_after}
use Rattle.overlap_law.proofs.WritersOfWorks.{writes_working-after}
use Rattle.peer_proto.specs.declared.work.ObjWork.TheVariants as works
use Rattle.gateway.specs.Work.{is_making}

-- an attempt is on the inode of an id that is reserved to take a disk's place
pub record IsOfPlace (moment : MomentWithPast) (attempt : AttemptRecord) (vid : ℕ) (r : Reservation) : Type 0 where
  pub id : IsVid vid
  pub stands : StandsReserved moment.world.log vid r
  pub old : Vid
  pub tag : List ℕ
  pub from : r.source ≡ sources.Snapshot old tag
  pub object : object_of attempt ≡ inode_number vid

-- a request's command makes the id's inode by this work, or waits for its publication
pub record IsPlacing (node : Node) (req : ℕ) (work : ObjWork) (vid session : ℕ) : Type 0 where
  pub inode : Content
  pub yet : IsPlaceYet req session inode node.requests
  pub own : inode.vid ≡ vid
  pub work_of : work ≡ create_inode inode

-- nor does what makes nothing
idle_creates : (work : ObjWork) → is_making work ≡ false → is_create_work work ≡ true → ⊥
idle_creates (works.Create oid policy size offset bytes) idle creates = cc (idle)
idle_creates (works.Write oid policy offset bytes) idle creates = cc (creates)
idle_creates (works.Read oid policy offset size) idle creates = cc (creates)
idle_creates (works.ReadAll oid policy size) idle creates = cc (creates)

-- a read or write creates no inode
no_drive : {P : Type 0} (inode : Content) (driver : Driver) (work : ObjWork) (vid : ℕ) → IsVid inode.vid → All FewAt (pieces_left driver)
    → IsWorkOfDriver inode driver work → is_create_work work ≡ true → oid_of work ≡ inode_number vid → P
no_drive inode (Reads told piece rest) work vid id few (of, is) creates object =
    let none = ap is_create_work is in absurd (cc (none, creates))
no_drive inode (Writes payload InPlace piece rest) work vid id few is creates object =
    let none = ap is_create_work is in absurd (cc (none, creates))
no_drive inode (Writes payload Fetching piece rest) work vid id few (of, is) creates object =
    let none = ap is_create_work is in absurd (cc (none, creates))
no_drive inode (Writes payload Creating piece rest) work vid id few (offset, bytes, is) creates object =
    let same = ap (λ (act : DriverAct). work_in act work) is in
    no_inode inode.vid piece.index vid id (All-head FewAt piece rest few) (sym (ap (λ (w : ObjWork). oid_of w) same) ∙ object)
no_drive inode (Writes payload Entering piece rest) work vid id few is creates object =
    let none = ap is_create_work is in absurd (cc (none, creates))
no_drive inode drivers.Answered work vid id few is creates object = absurd is

-- neither does a check
no_check : {P : Type 0} (check : checks.Check) (stage : CheckStage) (work : ObjWork) → IsWorkOfCheck check stage work
    → is_create_work work ≡ true → P
no_check check (checks.Comparing index later) work is creates = let none = ap is_create_work is in absurd (cc (none, creates))
no_check check (checks.WritingBack later) work (index, value, is) creates =
    let none = ap is_create_work is in absurd (cc (none, creates))
no_check check checks.Answered work is creates = absurd is

module _ (script : List Statement) (range : RunsAreInRange script) (events : List Move) (start before after : MomentWithPast)
    (ran : run_with_past script events ≡ Some start) (trail : MomentTrail script start before)
    (change : MomentChange script start before after) (attempt : AttemptRecord) (vid : ℕ) (r : Reservation)
    (p : IsOfPlace after attempt vid r) (o : IsOpened script start after attempt) (host : Host)
    (there : tree.get after.world.hosts r.by.0 ≡ Some host) (up : host.is_lost ≡ false) (sourced : IsSourced host.node) where
  began : Began script start.world
  began = began-with_past script events start ran

  trail_then : MomentTrail script start after
  trail_then = moments.Then trail change

  abbrev work : Work
  work = record o.asked { stage = Open (attempt_in o.asked o.lined.node) }

  object : oid_of o.asked.work ≡ inode_number vid
  object = ap (λ (a : AttemptRecord). object_of a) o.opened ∙ p.object

  id_so : vid_of (oid_of o.asked.work) ≡ vid
  id_so = ap vid_of object ∙ vid-of_inode vid p.id

  -- ---- whose it is

  record IsAsker : Type 0 where
    request : Request
    asked : tree.get host.node.requests o.req ≡ Some request
    session : request.session ≡ r.session
    open_there : tree.get host.node.gateway.works o.req ≡ Some work

  asker : IsAsker
  asker =
      let writes = (only_writer-in_run script range events start after ran trail_then).each o.stepping.n
      (host_with_node o.stepping.host o.next.node) (opened_there script start after attempt o) (opened_up script start after attempt o)
      o.req work o.at_gateway o.making in
      let holder : session_holder o.stepping.n writes.request.session ≡ reserver r
      = same_Some (session_holder o.stepping.n writes.request.session) (reserver r)
      (sym writes.may.writer ∙ ap (writer_of (log_effects after.world.log)) id_so ∙ reserved_writer after.world.log vid r p.stands) in
      let same : host_with_node o.stepping.host o.next.node ≡ host
      = same_Some (host_with_node o.stepping.host o.next.node) host
      (sym (opened_there script start after attempt o)
      ∙ ap (tree.get after.world.hosts) (ap (λ (h : Holder). h.node.0) holder) ∙ there) in
      record {
        request = writes.request;
        asked = ap (λ (h : Host). tree.get h.node.requests o.req) (sym same) ∙ writes.there;
        session = ap (λ (h : Holder). h.session) holder;
        open_there = ap (λ (h : Host). tree.get h.node.gateway.works o.req) (sym same) ∙ o.at_gateway;
      }

  well : HasWellWorks host.node
  well = well_after script range start began change r.by.0 host there

  reserved : state_of (log_effects after.world.log) vid ≡ states.Reserved r.by
  reserved = state_reserved after.world.log vid r p.stands

  -- it creates the inode
  creates : is_create_work o.asked.work ≡ true
  creates = by_test (is_create_work o.asked.work) refl
    where
      by_test : (b : Bool) → is_create_work o.asked.work ≡ b → is_create_work o.asked.work ≡ true
      by_test true is = is
      by_test false writes =
          let working : state_of (log_effects after.world.log) (vid_of (oid_of o.asked.work)) ≡ states.Working
          = writes_working-after script range start began change r.by.0 host there up o.req work asker.open_there o.making writes in
          let works : state_of (log_effects after.world.log) vid ≡ states.Working
          = ap (state_of (log_effects after.world.log)) (sym id_so) ∙ working in
          let is = reserved in
          absurd (cc (sym is ∙ works))

  abbrev Placing : Type 0
  Placing = IsPlacing host.node o.req o.asked.work vid r.session

  creates_not : {P : Type 0} → is_create_work o.asked.work ≡ false → P
  creates_not none = let is = creates in absurd (cc (none, is))

  -- ---- a command

  module _ (request : Request) (asked : tree.get host.node.requests o.req ≡ Some request) (session : request.session ≡ r.session) (op : Op)
      (command : request.course ≡ Commanding op) (of : Vid) (entry : Entry) where
    -- what it is made for, where no inode is to be open then
    none_made : op.stage ≡ Working of (Making entry None) → oid_of o.asked.work ≡ inode_number of.0 → Placing
    none_made at own =
        by_entry entry refl
        (subst (IsStageKept after.world.log host.node.outbox host.node.peer.entries (length host.node.peer.entries) host.node.me
        request.session (opened_in request.session host.node.sessions)) at
        (((claims-in_run script range events start after ran trail_then).each r.by.0 host there up).commands o.req request op asked
        command))
        (subst (IsSourceStage host.node.peer.entries) at
        (subst (λ (o : Option Request). IsAtStage IsAnyDisk (IsSourceStage host.node.peer.entries) o)
        (asked ∙ ap (λ (c : Course). Some (record { session = request.session; course = c })) command) (sourced.stages o.req)))
      where
        -- the id isn't reserved for that
        other : (given : Vid) (source : Source) → given ≡ of → StandsAs host.node.peer.entries given.0 source
            → source ≡ sources.Snapshot p.old p.tag
        other given source same stands =
            let front = ((on_the_way script HostsAreSound (kept_sound script range) events start after ran trail_then).each r.by.0 host
            there).read.front in
            let then : StandsAs after.world.log given.0 source
            = subst (λ (log : List Entry). StandsAs log given.0 source) (sym front.is)
            (stands_later host.node.peer.entries front.rest given.0 source stands) in
            let numbers : inode_number of.0 ≡ inode_number vid = sym own ∙ object in
            let id : of.0 ≡ vid = omega (arith, numbers) in
            sym (then.source_so r
            (ap (λ (v : ℕ). reservation_on (record { 0 = v }) (reservations_of (log_effects after.world.log)))
            (ap (λ (v : Vid). v.0) same ∙ id) ∙ p.stands)) ∙ p.from

        by_entry : (e : Entry) → entry ≡ e
            → IsMakingKept after.world.log host.node.outbox host.node.peer.entries (length host.node.peer.entries) host.node.me
            request.session (opened_in request.session host.node.sessions) of e None
            → IsSourceMaking host.node.peer.entries e → Placing
        by_entry (entries.Format members) so is made_for = absurd is
        by_entry (entries.Join node zone vnodes) so is made_for = absurd is
        by_entry (entries.Leave node) so is made_for = absurd is
        by_entry (entries.Reweight node vnodes) so is made_for = absurd is
        by_entry (entries.Recovered node epoch) so is made_for = absurd is
        by_entry (entries.Reserve by number name origin) so is made_for = absurd is
        by_entry (entries.Publish by given) so is made_for =
            let apart = other given sources.Fresh is.0 made_for in absurd (cc (apart))
        by_entry (entries.Clone by given) so is made_for =
            let apart = other given sources.Clone is.0 made_for in absurd (cc (apart))
        by_entry (entries.Snapshot by old given) so is made_for = let none = is.2.1 in absurd (cc (none))
        by_entry (entries.Delete by number name tag) so is made_for = absurd is
        by_entry (entries.Lock by number name tag) so is made_for = absurd is
        by_entry (entries.Unlock by number id) so is made_for = absurd is

    -- and where one is
    one_made : (inode : Content) → op.stage ≡ Working of (Making entry (Some inode))
        → IsWorkOfTask of (Making entry (Some inode)) o.asked.work → Placing
    one_made inode at is =
        let same : inode ≡ is.inode = is.same inode refl in
        let work_of : o.asked.work ≡ create_inode inode = is.work_of ∙ ap create_inode (sym same) in
        let numbers : inode_number inode.vid ≡ inode_number vid = sym (ap oid_of work_of) ∙ object in
        record {
          inode = inode;
          yet = record {
            op = op;
            there = asked ∙ ap (λ (c : Course). Some (record { session = request.session; course = c })) command
                ∙ ap (λ (k : ℕ). Some (record { session = k; course = Commanding op })) session;
            place = inl (subst (IsMakingStage inode) (sym at) refl);
          };
          own = omega (arith, numbers);
          work_of = work_of;
        }

  module _ (request : Request) (asked : tree.get host.node.requests o.req ≡ Some request) (session : request.session ≡ r.session) where
    tasked : (op : Op) → request.course ≡ Commanding op → (of : Vid) (task : Task) → op.stage ≡ Working of task
        → IsWorkOfTask of task o.asked.work → MakesOwn (Commanding op) o.asked.work → Placing
    tasked op command of (Opening snapshot ids header) at is owns = creates_not (ap is_create_work is)
    tasked op command of (WritingBack inode) at is owns = creates_not (ap is_create_work is.work_of)
    tasked op command of (Tagging old inode) at is owns = creates_not (ap is_create_work is.work_of)
    tasked op command of (Copying ids header) at is owns = creates_not (ap is_create_work is.work_of)
    tasked op command of (Making entry None) at is owns =
        none_made request asked session op command of entry at
        (subst (λ (stage : OpStage). IsOwnStage stage o.asked.work) at owns)
    tasked op command of (Making entry (Some inode)) at is owns = one_made request asked session op command of entry inode at is

    staged : (op : Op) → request.course ≡ Commanding op → (stage : OpStage) → op.stage ≡ stage
        → IsAwaitedAtOpStage (op_acts.Work o.asked.work) stage → MakesOwn (Commanding op) o.asked.work → Placing
    staged op command (Asked entry) at wanted owns = absurd (cc (wanted))
    staged op command (Working of task) at (other, same, is) owns =
        let one : other ≡ o.asked.work = cc (same) in
        tasked op command of task at (subst (IsWorkOfTask of task) one is) owns
    staged op command (Publishing entry made) at wanted owns = absurd (cc (wanted))
    staged op command (Answered change) at (reply, same) owns = absurd (cc (same))

    driving : (driver : Driver) → request.course ≡ Driving driver → (disk : Option Disk)
        → (session_among request.session host.node.sessions).disk ≡ disk → IsWorkWanted (inode_open disk) (Driving driver) o.asked.work
        → IsKnownCourse well.known (Driving driver) → Placing
    driving driver at None opened wanted few = absurd wanted
    driving driver at (Some disk) opened wanted few =
        no_drive disk.inode driver o.asked.work vid (known_disk host.node well request.session disk opened).disk.id few wanted creates
        object

    by_course : (course : Course) → request.course ≡ course
        → IsWorkWanted (inode_open (session_among request.session host.node.sessions).disk) course o.asked.work
        → IsAllowed (opened_in request.session host.node.sessions) course → MakesOwn course o.asked.work
        → IsKnownCourse well.known course → Placing
    by_course (Waiting ask) at wanted allowed owns known = absurd wanted
    by_course (Driving driver) at wanted allowed owns known =
        driving driver at (session_among request.session host.node.sessions).disk refl wanted known
    by_course (Commanding op) at wanted allowed owns known = staged op at op.stage refl wanted owns
    by_course (Checking check) at wanted allowed owns known = no_check check check.stage o.asked.work wanted creates
    by_course (DoingWork asked) at wanted allowed owns known = absurd (idle_creates o.asked.work (ap is_making wanted ∙ allowed) creates)
    by_course (AwaitingDecision entry) at wanted allowed owns known = absurd wanted

    placing : Placing
    placing =
        by_course request.course refl
        (subst (λ (q : Option Request). IsWantedAt host.node.sessions q o.asked.work) asked
        (well.wanted o.req o.asked.work (inl (work, asker.open_there, refl))))
        (subst (IsSeen opened_by IsAllowed host.node.sessions) asked (well.allowed o.req))
        (subst (λ (q : Option Request). MakesOwnAt q o.asked.work) asked
        (well.own o.req o.asked.work (inl (work, asker.open_there, refl))))
        (well.on_known.courses o.req request asked)

  pub begins_placing : IsPlacing host.node attempt.req attempt.work vid r.session
  begins_placing =
      subst (λ (a : AttemptRecord). IsPlacing host.node a.req a.work vid r.session) o.opened
      (placing asker.request asker.asked asker.session)
