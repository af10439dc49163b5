-- As a node goes on in its step, what the inode of an open disk may come to have stays the entry of the session's table, or the disk's own
-- id while this is being entered; if what a command opens then has its table. For a new attempt enters the own id; with its end the table
-- has that too, and none else is to come; and the attempts of a refused write come to nothing.
use Rattle.std.proofs.Common.{◌≡◌, ◌≢◌, ◌⊎◌, inl, inr, ⊎_elim, arith, ℕ, ◌<◌, ◌==◌, ◌||◌, Bool, true, false, Contains, List, ◌++◌}
use Rattle.std.proofs.Common.{length, Option, Some, IfSome, is_some, slice_index, slice_set, refl, sym, ap, subst, ◌∙◌}
use Rattle.std.specs.List.{list_any}
use Rattle.std.specs.FinMap as tree
use Rattle.std.proofs.lemmas.Bool.{cases_eq}
use Rattle.std.proofs.lemmas.List.Folds.{list_any-append}
use Rattle.std.proofs.lemmas.List.{get_or-set_same, get_or-set_other}
use Rattle.std.proofs.lemmas.Option.{same_Some}
use Rattle.proof_tools.proofs.FiniteMaps.{get-insert_same}
use Rattle.disk_lock.specs.declared.holder.Holder.{Holder}
use Rattle.object_id.specs.declared.cause.Cause.{Cause}
use Rattle.object_id.specs.Oid.{inode_number, vid_of}
use Rattle.object_id.specs.Spec.{objects_of}
use Rattle.inode.specs.Layout.{Content}
use Rattle.cluster_script.specs.declared.statement.Statement.{Statement}
use Rattle.peer_proto.specs.Work.{oid_of}
use Rattle.peer_proto.specs.declared.guest.GuestRsp.TheVariants as replies
use Rattle.peer_proto.specs.declared.work.ObjWork.{ObjWork}
use Rattle.gateway.specs.Attempt as gateways
use Rattle.gateway.specs.State.{Work}
use Rattle.gateway.specs.Work.{is_making}
use Rattle.gateway.specs.declared.message.Status.{Status}
use Rattle.guest_driver.specs.declared.disk.Disk.{Disk}
use Rattle.guest_driver.specs.Driver as drivers
use Rattle.guest_driver.specs.Driver.{Driver, DriverStep, Reads, Writes, InPlace, Fetching, Creating, Entering, driver_on_done, write_on}
use Rattle.guest_driver.specs.Driver.{read_on}
use Rattle.guest_driver.specs.Pieces.{Piece}
use Rattle.guest_driver.specs.PieceWorks.{write_entry, table_with_entry}
use Rattle.vdi_directory.specs.Decisions.{log_effects}
use Rattle.sheep_node.specs.declared.course.Course.TheVariants.{Driving}
use Rattle.sheep_node.specs.declared.course.Request.{Request}
use Rattle.sheep_node.specs.declared.input.Input.{Input}
use Rattle.sheep_node.specs.Changes as changes
use Rattle.sheep_node.specs.Changes.{IsSoundStep, EndsWork}
use Rattle.sheep_node.specs.Courses.{inode_open}
use Rattle.sheep_node.specs.SessionQueues.{session_among}
use Rattle.sheep_node.specs.State.{Node}
use Rattle.sheep_node.specs.StepState.{StepState}
use Rattle.sheep_node.specs.WantedWorks.{IsWantedAt, IsWorkWanted, IsWorkOfDriver}
use Rattle.sheep_node.proofs.OneWorkChanges.{StepHasOneWork}
use Rattle.sheep_node.proofs.NumberChanges.{both_in_chain}
use Rattle.sheep_world.specs.Began.{Began}
use Rattle.sheep_world.specs.NodeCauses.{input_of_cause, host_with_node}
use Rattle.sheep_world.specs.World.{Host}
use Rattle.sheep_world.specs.RunsWithAsks.{Move}
use Rattle.overlap_law.specs.Attempts.{AttemptRecord}
use Rattle.overlap_law.specs.Grants.{writer_of}
use Rattle.overlap_law.specs.Holders.{is_object_among, targets_by}
use Rattle.overlap_law.specs.MomentChanges as moments
use Rattle.overlap_law.specs.MomentChanges.{MomentChange, MomentTrail, RunsAreInRange}
use Rattle.overlap_law.specs.Past.{MomentWithPast, run_with_past}
use Rattle.overlap_law.specs.PastWords.{refused_in, refuses_request}
use Rattle.overlap_law.specs.ShapedAttempts.{AreShaped}
use Rattle.overlap_law.specs.StepMoments.{SteppingNode, IsStepping, StepsByChanges, LeadsInStep, IsWithinStep, first_in_step}
use Rattle.overlap_law.specs.StepMoments.{moment_in_step}
use Rattle.overlap_law.specs.Tables.{entry_unit, entry_by, writes_entry}
use Rattle.overlap_law.specs.TiedAttempts.{IsTied}
use Rattle.overlap_law.specs.ToCome.{IsToCome, IsEntryToCome, IsBeingEntered}
use Rattle.overlap_law.specs.ToDo.{entry_made}
use Rattle.overlap_law.specs.Units.{covers_by}
use Rattle.overlap_law.specs.Writers.{session_holder}
use Rattle.overlap_law.proofs.AnswersInMoments.{not_lost}
use Rattle.overlap_law.proofs.CausedWorks.{HasWellWorks, by_changes}
use Rattle.overlap_law.proofs.ClaimsInRuns.{claims-in_run}
use Rattle.overlap_law.proofs.CreatesFirst.{session_of}
use Rattle.overlap_law.proofs.DoneAlone.{done_alone}
use Rattle.overlap_law.proofs.DriverNames.{write_stays, read_stays}
use Rattle.overlap_law.proofs.EntryWorks.{IsEntering, entering, known_disk, writes-untagged, writes-at}
use Rattle.overlap_law.proofs.EntryWrites.{entry_own, entry_covered}
use Rattle.overlap_law.proofs.FinishedInMoments.{TermsHold, kept_terms}
use Rattle.overlap_law.proofs.GrantedAttempts.{only_writer-in_run}
use Rattle.overlap_law.proofs.KnownDisks.{IsKnownInode, vid-of_inode}
use Rattle.overlap_law.proofs.KnownSteps.{known_step}
use Rattle.overlap_law.proofs.LogsReservable.{LogIsReservable, kept_reservable}
use Rattle.overlap_law.proofs.NewAttempts.{WasAttempt}
use Rattle.overlap_law.proofs.NoRecoveredDue.{began-with_past}
use Rattle.overlap_law.proofs.OpenDisksInRuns.{disks_fit-in_run}
use Rattle.overlap_law.proofs.OpenTables.{whole_tables}
use Rattle.overlap_law.proofs.RefusedInMoments.{refused_of}
use Rattle.overlap_law.proofs.RefusedToNothing.{refused_to_nothing}
use Rattle.overlap_law.proofs.RunsByChanges.{on_the_way}
use Rattle.overlap_law.proofs.ShapedAttempts.{kept_shaped}
use Rattle.overlap_law.proofs.SnapshotsTaken.{writes-making, writes-object}
use Rattle.overlap_law.proofs.TiedInRuns.{kept_tied}
use Rattle.overlap_law.proofs.ToComeStays.{to_come_before}
use Rattle.overlap_law.proofs.TouchedInMoments.{refused_in_step}
use Rattle.overlap_law.proofs.UntouchedInRuns.{untouched-within}
use Rattle.overlap_law.proofs.WaitedInRuns.{works_wait}
use Rattle.overlap_law.proofs.WaitedSteps.{Waits}
use Rattle.overlap_law.proofs.WorksAtCourses.{HaveAt}
use Rattle.overlap_law.proofs.WorksGoOn.{IsDoneNow, WorkAfter, GoesOn, IsDone, IsRefused, work_after}
use Rattle.overlap_law.proofs.WorksInMoments.{well_along}
use Rattle.sheep_world.specs.Asking.{session_asking}
use Rattle.overlap_law.proofs.AttemptsOfScript.{AreForRequests, kept_for, change_for}

-- ---- what a driver leaves of the table

-- a driver whose entry was written
pub record HasEntered (inode : Content) (driver : Driver) (work : ObjWork) (step : DriverStep) : Type 0 where
  pub piece : Piece
  pub writes : work ≡ write_entry inode piece
  pub table : step.inode ≡ table_with_entry inode piece

pub entered_step : (inode : Content) (bytes payload : List ℕ) (piece : Piece) (rest : List Piece) (step : DriverStep)
    → driver_on_done inode bytes (Writes payload Entering piece rest) ≡ Some step → step.inode ≡ table_with_entry inode piece
unfolding driver_on_done
entered_step inode bytes payload piece rest step goes =
    ap (λ (s : DriverStep). s.inode) (sym (same_Some (write_on (table_with_entry inode piece) payload rest) step goes))
    ∙ write_stays (table_with_entry inode piece) payload rest

stays_or_entered : (inode : Content) (bytes : List ℕ) (driver : Driver) (work : ObjWork) (step : DriverStep)
    → driver_on_done inode bytes driver ≡ Some step → IsWorkOfDriver inode driver work
    → (step.inode ≡ inode) ⊎ HasEntered inode driver work step
unfolding driver_on_done
stays_or_entered inode bytes (Reads told piece rest) work step goes wants =
    inl (ap (λ (s : DriverStep). s.inode) (sym (same_Some (read_on inode (told ++ bytes) rest) step goes))
    ∙ read_stays inode (told ++ bytes) rest)
stays_or_entered inode bytes (Writes payload InPlace piece rest) work step goes wants =
    inl (ap (λ (s : DriverStep). s.inode) (sym (same_Some (write_on inode payload rest) step goes)) ∙ write_stays inode payload rest)
stays_or_entered inode bytes (Writes payload Fetching piece rest) work step goes wants =
    inl (ap (λ (s : DriverStep). s.inode) (sym (same_Some _ step goes)))
stays_or_entered inode bytes (Writes payload Creating piece rest) work step goes wants =
    inl (ap (λ (s : DriverStep). s.inode) (sym (same_Some _ step goes)))
stays_or_entered inode bytes (Writes payload Entering piece rest) work step goes wants =
    inr (record { piece = piece; writes = wants; table = entered_step inode bytes payload piece rest step goes })
stays_or_entered inode bytes drivers.Answered work step goes wants = absurd wants

among_more : (req : ℕ) (one more : List ℕ) → is_object_among req more ≡ true → is_object_among req (one ++ more) ≡ true
among_more req one more is = list_any-append (λ other. other == req) one more ∙ by_test (list_any (λ other. other == req) one) is
  where
    by_test : (b : Bool) {c : Bool} → c ≡ true → (b || c) ≡ true
    by_test true is = refl
    by_test false is = is

-- ---- a change of a step

module _ (script : List Statement) (range : RunsAreInRange script) (events : List Move) (start : MomentWithPast)
    (ran : run_with_past script events ≡ Some start) (on : SteppingNode) (is : IsStepping script start.world on)
    (by : StepsByChanges on.cause) (so_far next : StepState) (within : IsWithinStep on so_far next)
    (trail : MomentTrail script start (moment_in_step script on start so_far)) where
  abbrev here : MomentWithPast
  here = moment_in_step script on start so_far

  abbrev later : MomentWithPast
  later = moment_in_step script on start next

  abbrev was : Host
  was = host_with_node on.host so_far.node

  abbrev now : Host
  now = host_with_node on.host next.node

  abbrev input : Input
  input = input_of_cause on.cause

  abbrev node : Node
  node = on.host.node

  change : MomentChange script start (moment_in_step script on start so_far) (moment_in_step script on start next)
  change = moments.StepGoesOn on so_far next is by within

  trail_then : MomentTrail script start (moment_in_step script on start next)
  trail_then = moments.Then trail change

  leads_then : LeadsInStep on (first_in_step on) next
  leads_then = changes.Then within.leads within.change

  began : Began script start.world
  began = began-with_past script events start ran

  up : on.host.is_lost ≡ false
  up = not_lost on.host is.up

  was_there : tree.get (moment_in_step script on start so_far).world.hosts on.n ≡ Some (host_with_node on.host so_far.node)
  was_there = get-insert_same start.world.hosts on.n was

  now_there : tree.get (moment_in_step script on start next).world.hosts on.n ≡ Some (host_with_node on.host next.node)
  now_there = get-insert_same start.world.hosts on.n now

  sound : IsSoundStep input node
  sound = (known_step script range start.world began on is).sound

  good : StepHasOneWork so_far
  good = (both_in_chain input node sound so_far within.leads).0

  well : HasWellWorks so_far.node
  well = well_along script range start began trail on.n was was_there

  waits_here : HaveAt Waits so_far.node.gateway.works so_far.node.requests so_far.node.sessions
  waits_here =
      works_wait script range start.world began on.n on.host is.there is.up on.cause (by_changes on.cause by) is.caused so_far within.leads

  waits_then : HaveAt Waits next.node.gateway.works next.node.requests next.node.sessions
  waits_then =
      works_wait script range start.world began on.n on.host is.there is.up on.cause (by_changes on.cause by) is.caused next leads_then

  -- what may come then of an attempt that was there might come before
  pub might : (vid index j : ℕ) (attempt : AttemptRecord)
      → IsEntryToCome (moment_in_step script on start next).world.hosts (moment_in_step script on start next).past.attempts vid index j
      attempt
      → (w : WasAttempt (moment_in_step script on start so_far) j attempt)
      → IsEntryToCome (moment_in_step script on start so_far).world.hosts (moment_in_step script on start so_far).past.attempts vid index j
      w.was
  might vid index j attempt comes w =
      to_come_before script range start here later began change
      (on_the_way script TermsHold (kept_terms script range) events start here ran trail)
      (on_the_way script AreShaped (kept_shaped script range) events start here ran trail)
      (on_the_way script IsTied (kept_tied script range) events start here ran trail) (inode_number vid) (entry_unit index) j attempt comes
      w

  -- the attempts of a request that is refused by the change come to nothing
  refused_nothing : (q : ℕ) (cause : Cause) → Contains next.outputs.replies (q, replies.Refused cause) → (vid index j : ℕ)
      (attempt : AttemptRecord) → attempt.req ≡ q
      → IsEntryToCome (moment_in_step script on start next).world.hosts (moment_in_step script on start next).past.attempts vid index j
      attempt → ⊥
  refused_nothing q cause replied vid index j attempt own comes =
      let asked = change_for script range start here later began change
      (on_the_way script (AreForRequests script) (kept_for script range) events start here ran trail) j attempt comes.there in
      let refuses : refuses_request script (q, replies.Refused cause) ≡ true
      = ap is_some (ap (session_asking script) (sym own) ∙ asked.asking) in
      let among : is_object_among q (moment_in_step script on start next).past.refused ≡ true
      = ap (is_object_among q) (refused_in_step script on start next)
      ∙ among_more q start.past.refused (refused_in script next.outputs.replies)
      (refused_of script next.outputs.replies (q, replies.Refused cause) replied refuses) in
      let nothing = (refused_to_nothing (targets_by later.world.log) later.world.log
      (on_the_way script LogIsReservable (kept_reservable script range) events start later ran trail_then).all later.world.hosts
      later.world.wire later.past.refused later.past.attempts
      (on_the_way script IsTied (kept_tied script range) events start later ran trail_then).fates
      (on_the_way script AreShaped (kept_shaped script range) events start later ran trail_then).shape
      (untouched-within script range events start later ran trail_then) q among j attempt comes.there own).1 in
      let stands = comes.stands in
      cc (nothing, stands)

  -- ---- a disk that was open

  module _ (number : ℕ) (old : Disk) (opened : (session_among number so_far.node.sessions).disk ≡ Some old) (index : ℕ)
      (inside : index < objects_of old.inode.spec) where
    known_old : IsKnownInode well.known old.inode
    known_old = known_disk so_far.node well number old opened

    long : length old.inode.table ≡ objects_of old.inode.spec
    long =
        let (session, got, at) = session_of so_far.node number old opened in
        (whole_tables script range events start here ran trail).each on.n was was_there up number session old got at

    -- an entry that was written stands in the table
    entered_entry : (piece : Piece) → index ≡ piece.index
        → slice_index (table_with_entry old.inode piece).table index ≡ old.inode.vid
    entered_entry piece at =
        ap (λ (k : ℕ). slice_index (slice_set old.inode.table piece.index old.inode.vid) k) at
        ∙ get_or-set_same old.inode.table piece.index old.inode.vid 0 (let size = long in omega (arith, at, size, inside))

    -- what is being entered stays so, or is entered
    module _ (working : old.snapshot ≡ false)
        (yet : writer_of (log_effects (moment_in_step script on start so_far).world.log) old.inode.vid
        ≡ Some (session_holder on.n number)) (disk : Disk) (opened_then : (session_among number next.node.sessions).disk ≡ Some disk)
        (vid_so : disk.inode.vid ≡ old.inode.vid) (j : ℕ) (attempt : AttemptRecord)
        (comes : IsEntryToCome (moment_in_step script on start next).world.hosts (moment_in_step script on start next).past.attempts
        disk.inode.vid index j attempt) (w : WasAttempt (moment_in_step script on start so_far) j attempt)
        (entered : IsBeingEntered on.n so_far.node old.inode.vid index w.was) where
      abbrev q : ℕ
      q = entered.opened.req

      abbrev work : Work
      work = entered.opened.work

      making : is_making entered.opened.work.work ≡ true
      making = writes-making old.inode.vid index work.work entered.opened.writes

      object : oid_of entered.opened.work.work ≡ inode_number old.inode.vid
      object = writes-object old.inode.vid index work.work entered.opened.writes

      request_so : (request : Request) × (tree.get so_far.node.requests entered.opened.req ≡ Some request) × (request.session ≡ number)
      request_so =
          let writes = (only_writer-in_run script range events start here ran trail).each on.n was was_there up q work entered.opened.there
          making in
          let same : session_holder on.n writes.request.session ≡ session_holder on.n number
          = same_Some (session_holder on.n writes.request.session) (session_holder on.n number)
          (sym writes.may.writer
          ∙ ap (writer_of (log_effects here.world.log)) (ap vid_of object ∙ vid-of_inode old.inode.vid known_old.disk.id) ∙ yet) in
          (writes.request, writes.there, ap (λ (h : Holder). h.session) same)

      enters : IsEntering old request_so.0.course entered.opened.work.work index
      enters =
          entering here.world.log so_far.node ((claims-in_run script range events start here ran trail).each on.n was was_there up)
          ((disks_fit-in_run script range events start here ran trail).each on.n was was_there up) well q work entered.opened.there
          request_so.0
          request_so.1
          (subst (λ (r : Option Request). IfSome r (λ (r : Request). Waits (session_among r.session so_far.node.sessions).disk r.course
          work.work)) request_so.1 (waits_here q work.work (inl (work, entered.opened.there, refl)))).0
          old (ap (λ (k : ℕ). (session_among k so_far.node.sessions).disk) request_so.2 ∙ opened) working making object
          (writes-untagged old.inode.vid index work.work entered.opened.writes) index
          (writes-at old.inode.vid index work.work entered.opened.writes old.inode)

      abbrev driven : Driver
      driven = Writes enters.payload Entering enters.piece enters.rest

      asked : tree.get so_far.node.requests entered.opened.req
          ≡ Some (record { session = number; course = Driving (Writes enters.payload Entering enters.piece enters.rest) })
      asked = request_so.1 ∙ (λ i. Some (record { session = request_so.2 i; course = enters.driving i }))

      abbrev Then : Type 0
      Then = (entry_by index attempt ≡ slice_index disk.inode.table index) ⊎ IsBeingEntered on.n next.node disk.inode.vid index attempt

      done_now : IsDoneNow input node so_far entered.opened.req entered.opened.work next.node.sessions
          → entry_by index attempt ≡ slice_index disk.inode.table index
      done_now d =
          let mine : Request = record { session = number; course = Driving driven } in
          let its : Request = record { session = d.session; course = Driving d.driver } in
          let same : mine ≡ its = same_Some mine its (sym asked ∙ d.ends.ends.request) in
          let session_so : number ≡ d.session = ap (λ (r : Request). r.session) same in
          let course_so : Driving (Writes enters.payload Entering enters.piece enters.rest) ≡ Driving d.driver = ap (λ (r : Request).
          r.course) same in
          let driver_so : Writes enters.payload Entering enters.piece enters.rest ≡ d.driver = cc (course_so) in
          let disk_so : old ≡ d.disk
          = same_Some old d.disk
          (sym opened ∙ ap (λ (k : ℕ). (session_among k so_far.node.sessions).disk) session_so ∙ d.opened) in
          let goes : driver_on_done old.inode d.bytes driven ≡ Some d.step
          = (λ i. driver_on_done (disk_so i).inode d.bytes (driver_so i)) ∙ d.goes in
          let table : d.step.inode ≡ table_with_entry old.inode enters.piece
          = entered_step old.inode d.bytes enters.payload enters.piece enters.rest d.step goes in
          let then : disk ≡ record d.disk { inode = d.step.inode }
          = same_Some disk (record d.disk { inode = d.step.inode })
          (sym opened_then ∙ ap (λ (k : ℕ). (session_among k next.node.sessions).disk) session_so ∙ d.after) in
          ap (λ (a : AttemptRecord). entry_by index a) (sym w.same) ∙ entered.own
          ∙ sym (ap (λ (k : Disk). slice_index k.inode.table index) then ∙ ap (λ (i : Content). slice_index i.table index) table
          ∙ entered_entry enters.piece enters.at)

      by_after : WorkAfter input node so_far next entered.opened.req entered.opened.work → Then
      by_after (GoesOn still there same) = inr (record {
        opened = record {
          req = q;
          work = still;
          there = there;
          writes = ap (λ (v : ℕ). writes_entry v index still.work) vid_so ∙ ap (writes_entry old.inode.vid index) same
              ∙ entered.opened.writes;
        };
        gateway = ap (λ (a : AttemptRecord). a.gateway.0) (sym w.same) ∙ entered.gateway;
        of = ap (λ (a : AttemptRecord). a.req) (sym w.same) ∙ entered.of;
        own = ap (λ (a : AttemptRecord). entry_by index a) (sym w.same) ∙ entered.own ∙ sym vid_so;
      })
      by_after (IsDone d) = inl (done_now d)
      by_after (IsRefused cause replied) =
          absurd (refused_nothing q cause replied disk.inode.vid index j attempt
          (ap (λ (a : AttemptRecord). a.req) (sym w.same) ∙ entered.of) comes)

      pub entered_goes : (entry_by index attempt ≡ slice_index disk.inode.table index)
          ⊎ IsBeingEntered on.n next.node disk.inode.vid index attempt
      entered_goes =
          by_after (work_after input node sound so_far good q work entered.opened.there number driven asked old opened enters.writes next
          within.change)

    -- a write that has entered an entry has it alone
    module _ (req k : ℕ) (work : Work) (current : gateways.Attempt) (status : Status) (bytes : List ℕ) (driver : Driver) (step : DriverStep)
        (ends : EndsWork input node so_far number req k work current status (Driving driver) bytes)
        (goes : driver_on_done old.inode bytes driver ≡ Some step) where
      wants : IsWorkOfDriver old.inode driver work.work
      wants =
          subst (λ (o : Option Disk). IsWorkWanted (inode_open o) (Driving driver) work.work) opened
          (subst (λ (o : Option Request). IsWantedAt so_far.node.sessions o work.work) ends.ends.request
          (well.wanted req work.work (inl (work, ends.ends.learns.there, refl))))

      pub driven_table : (j : ℕ) (attempt : AttemptRecord)
          → IsEntryToCome (moment_in_step script on start so_far).world.hosts (moment_in_step script on start so_far).past.attempts
          old.inode.vid index j attempt → entry_by index attempt ≡ slice_index old.inode.table index
          → entry_by index attempt ≡ slice_index step.inode.table index
      driven_table j attempt comes own = ⊎_elim
          (λ (same : step.inode ≡ old.inode). own ∙ ap (λ (i : Content). slice_index i.table index) (sym same))
          (λ (e : HasEntered old.inode driver work.work step). ⊎_elim
          (λ (at : index ≡ e.piece.index).
          let written : attempt.work ≡ work.work
          = done_alone script range events start ran on is by so_far within.leads trail req k work current status ends.ends.learns ends.done
          (ap is_making e.writes) (entry_unit index)
          (ap (covers_by (entry_unit index)) e.writes ∙ ap (λ (u : ℕ). covers_by (entry_unit u) (write_entry old.inode e.piece)) at
          ∙ entry_covered old.inode e.piece known_old.disk.id) j attempt
          (subst (λ (o : ℕ). IsToCome here.world.hosts here.past.attempts o (entry_unit index) j attempt)
          (sym (ap oid_of e.writes)) comes) in
          ap (entry_made index) (written ∙ e.writes) ∙ ap (λ (u : ℕ). entry_made u (write_entry old.inode e.piece)) at
          ∙ entry_own old.inode e.piece known_old.disk.id
          ∙ sym (ap (λ (i : Content). slice_index i.table index) e.table ∙ entered_entry e.piece at))
          (λ (apart : index ≢ e.piece.index).
          own ∙ sym (ap (λ (i : Content). slice_index i.table index) e.table
          ∙ get_or-set_other old.inode.table e.piece.index index old.inode.vid 0 apart))
          (cases_eq index e.piece.index))
          (stays_or_entered old.inode bytes driver work.work step goes wants)
