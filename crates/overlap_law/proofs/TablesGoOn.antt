-- Over each change of a step of a run in range what the inodes of open disks may come to have stays what the sessions' tables have, or what
-- is being entered, if each disk that a command opens by it has its table.
use Rattle.std.proofs.Common.{◌≡◌, ◌≢◌, ◌⊎◌, inl, inr, ⊎_elim, arith, ℕ, ◌<◌, Bool, true, false, List, Option, Some, unwrap_or}
use Rattle.std.proofs.Common.{slice_index, refl, sym, ap, subst, ◌∙◌}
use Rattle.std.specs.FinMap as tree
use Rattle.proof_tools.proofs.FiniteMaps.{get-insert_same, get-insert_other, get-insert_cases}
use Rattle.object_id.specs.declared.entry.VdiSpec.{VdiSpec}
use Rattle.object_id.specs.declared.limits.TheConstants.{OBJECTS_MAX}
use Rattle.object_id.specs.Spec.{objects_of}
use Rattle.cluster_script.specs.declared.statement.Statement.{Statement}
use Rattle.guest_driver.specs.declared.disk.Disk.{Disk}
use Rattle.guest_driver.proofs.ExtentLemmas.{objects_most}
use Rattle.vdi_directory.specs.Dead.{is_dead}
use Rattle.vdi_directory.specs.Decisions.{log_effects}
use Rattle.sheep_node.specs.declared.course.Course.TheVariants.{Commanding}
use Rattle.sheep_node.specs.declared.session.Session.{Session}
use Rattle.sheep_node.specs.Changes as changes
use Rattle.sheep_node.specs.Changes.{EndsWork}
use Rattle.sheep_node.specs.SessionQueues.{session_among}
use Rattle.sheep_node.specs.State.{Node, new_session}
use Rattle.sheep_node.specs.StepState.{StepState}
use Rattle.sheep_node.proofs.WantedSteps.{driver_goes_on-wanted}
use Rattle.sheep_world.specs.Began.{Began}
use Rattle.sheep_world.specs.NodeCauses.{input_of_cause, host_with_node}
use Rattle.sheep_world.specs.World.{Host}
use Rattle.sheep_world.specs.RunsWithAsks.{Move}
use Rattle.overlap_law.specs.Attempts.{AttemptRecord}
use Rattle.overlap_law.specs.Grants.{writer_of}
use Rattle.overlap_law.specs.MomentChanges as moments
use Rattle.overlap_law.specs.MomentChanges.{MomentChange, MomentTrail, RunsAreInRange}
use Rattle.overlap_law.specs.OpenedTables.{OpensByWork, OpensNow, ByWork, ByEntry, HasItsTable, OpenedInodesHaveTables}
use Rattle.overlap_law.specs.Past.{MomentWithPast, run_with_past}
use Rattle.overlap_law.specs.StepMoments.{SteppingNode, IsStepping, StepsByChanges, IsWithinStep, moment_in_step}
use Rattle.overlap_law.specs.Tables.{entry_by, IsYetOf}
use Rattle.overlap_law.specs.ToCome.{IsEntryToCome, IsBeingEntered, TablesStayTheInodes}
use Rattle.overlap_law.specs.Writers.{session_holder}
use Rattle.overlap_law.proofs.AnswersInMoments.{not_lost}
use Rattle.overlap_law.proofs.CreatesFirst.{session_of}
use Rattle.overlap_law.proofs.DisksAfter.{DiskAfter, Stayed, Drove, Opened, disk_from}
use Rattle.overlap_law.proofs.EnteredNow.{none_on_snapshot, entered_now}
use Rattle.overlap_law.proofs.EntryWorks.{known_disk}
use Rattle.overlap_law.proofs.NewAttempts.{IsOpened, WasAttempt, come_from}
use Rattle.overlap_law.proofs.NoRecoveredDue.{began-with_past}
use Rattle.overlap_law.proofs.GuestsInMoments.{IsGoingOn}
use Rattle.overlap_law.proofs.PublishedTables.{published_in_run}
use Rattle.overlap_law.proofs.TablesStay.{tables_after}
use Rattle.overlap_law.proofs.TablesInSteps.{might, entered_goes, driven_table}
use Rattle.overlap_law.proofs.WaitedInRuns.{works_wait, works_waited}
use Rattle.overlap_law.proofs.WaitedSteps.{Waits}
use Rattle.overlap_law.proofs.CausedWorks.{by_changes}
use Rattle.overlap_law.proofs.WorksAtCourses.{HaveAt}
use Rattle.overlap_law.proofs.WorksInMoments.{well_along}

module _ (script : List Statement) (range : RunsAreInRange script) (events : List Move) (start : MomentWithPast)
    (ran : run_with_past script events ≡ Some start) (on : SteppingNode) (is : IsStepping script start.world on)
    (by : StepsByChanges on.cause) (so_far next : StepState) (within : IsWithinStep on so_far next)
    (trail : MomentTrail script start (moment_in_step script on start so_far)) (good_id : ℕ → Bool)
    (tables : TablesStayTheInodes (log_effects (moment_in_step script on start so_far).world.log) good_id
    (moment_in_step script on start so_far).world.hosts (moment_in_step script on start so_far).past.attempts) where
  abbrev here : MomentWithPast
  here = moment_in_step script on start so_far

  abbrev later : MomentWithPast
  later = moment_in_step script on start next

  abbrev was : Host
  was = host_with_node on.host so_far.node

  abbrev now : Host
  now = host_with_node on.host next.node

  change : MomentChange script start (moment_in_step script on start so_far) (moment_in_step script on start next)
  change = moments.StepGoesOn on so_far next is by within

  trail_then : MomentTrail script start (moment_in_step script on start next)
  trail_then = moments.Then trail change

  began : Began script start.world
  began = began-with_past script events start ran

  up : on.host.is_lost ≡ false
  up = not_lost on.host is.up

  was_there : tree.get (moment_in_step script on start so_far).world.hosts on.n ≡ Some (host_with_node on.host so_far.node)
  was_there = get-insert_same start.world.hosts on.n was

  now_there : tree.get (moment_in_step script on start next).world.hosts on.n ≡ Some (host_with_node on.host next.node)
  now_there = get-insert_same start.world.hosts on.n now

  waits_then : HaveAt Waits next.node.gateway.works next.node.requests next.node.sessions
  waits_then =
      works_wait script range start.world began on.n on.host is.there is.up on.cause (by_changes on.cause by) is.caused next
      (changes.Then within.leads within.change)

  abbrev ComesThen : ℕ → ℕ → ℕ → AttemptRecord → Type 0
  ComesThen vid index j attempt =
      IsEntryToCome (moment_in_step script on start next).world.hosts (moment_in_step script on start next).past.attempts vid index j
      attempt

  abbrev ComesHere : ℕ → ℕ → ℕ → AttemptRecord → Type 0
  ComesHere vid index j attempt =
      IsEntryToCome (moment_in_step script on start so_far).world.hosts (moment_in_step script on start so_far).past.attempts vid index j
      attempt

  abbrev Was : ℕ → AttemptRecord → Type 0
  Was j attempt = WasAttempt (moment_in_step script on start so_far) j attempt

  abbrev HasTable : ℕ → Node → Disk → ℕ → AttemptRecord → Type 0
  HasTable n node disk index attempt = (entry_by index attempt ≡ slice_index disk.inode.table index)
      ⊎ ((disk.snapshot ≡ false) × IsBeingEntered n node disk.inode.vid index attempt)

  -- an attempt that begins
  begins : (n : ℕ) (host : Host) → tree.get later.world.hosts n ≡ Some host → host.is_lost ≡ false
      → HaveAt Waits host.node.gateway.works host.node.requests host.node.sessions → (number index : ℕ) (disk : Disk)
      → (session_among number host.node.sessions).disk ≡ Some disk → index < objects_of disk.inode.spec
      → IsYetOf (log_effects (moment_in_step script on start next).world.log) n number disk → (j : ℕ) (attempt : AttemptRecord)
      → ComesThen disk.inode.vid index j attempt
      → IsOpened script start (moment_in_step script on start next) attempt → HasTable n host.node disk index attempt
  begins n host there up waits number index disk opened inside yet j attempt comes o = by_kind disk.snapshot refl
    where
      few : index < OBJECTS_MAX
      few =
          let well = well_along script range start began trail_then n host there in
          let most = objects_most disk.inode.spec (known_disk host.node well number disk opened).disk.spec_valid in
          omega (arith, inside, most)

      by_kind : (b : Bool) → disk.snapshot ≡ b → HasTable n host.node disk index attempt
      by_kind true snapshot =
          absurd (none_on_snapshot script range events start ran later trail_then n host there up waits number disk opened index few j
          attempt
          comes o snapshot)
      by_kind false working = inr (
        working,
        entered_now script range events start ran later trail_then n host there up waits number disk opened index few j attempt comes o
            working (yet working),
      )

  -- a disk that was open before, as it was or with another table
  module _ (number : ℕ) (old disk : Disk) (opened : (session_among number so_far.node.sessions).disk ≡ Some old)
      (opened_then : (session_among number next.node.sessions).disk ≡ Some disk) (snapshot_so : disk.snapshot ≡ old.snapshot)
      (vid_so : disk.inode.vid ≡ old.inode.vid) (spec_so : disk.inode.spec ≡ old.inode.spec) (good : good_id disk.inode.vid ≡ true)
      (lives : is_dead (log_effects (moment_in_step script on start next).world.log) disk.inode.vid ≡ false) (index : ℕ)
      (inside : index < objects_of disk.inode.spec)
      (yet : IsYetOf (log_effects (moment_in_step script on start next).world.log) on.n number disk)
      (table : (j : ℕ) (attempt : AttemptRecord) → ComesHere old.inode.vid index j attempt
      → entry_by index attempt ≡ slice_index old.inode.table index
      → entry_by index attempt ≡ slice_index disk.inode.table index) where
    stays : (j : ℕ) (attempt : AttemptRecord) → ComesThen disk.inode.vid index j attempt → Was j attempt
        → HasTable on.n next.node disk index attempt
    stays j attempt comes w =
        let (session, got, at) = session_of so_far.node number old opened in
        let before : ComesHere old.inode.vid index j w.was
        = subst (λ (v : ℕ). ComesHere v index j w.was) vid_so
        (might script range events start ran on is by so_far next within trail disk.inode.vid index j attempt comes w) in
        let yet_old : IsYetOf (log_effects here.world.log) on.n number old
        = λ working. ap (writer_of (log_effects here.world.log)) (sym vid_so) ∙ yet (snapshot_so ∙ working) in
        let inside_old : index < objects_of old.inode.spec = subst (λ (s : VdiSpec). index < objects_of s) spec_so inside in
        ⊎_elim
        (λ (own : entry_by index w.was ≡ slice_index old.inode.table index).
        inl (ap (λ (a : AttemptRecord). entry_by index a) (sym w.same) ∙ table j w.was before own))
        (λ (entered : (old.snapshot ≡ false) × IsBeingEntered on.n so_far.node old.inode.vid index w.was). ⊎_elim
        (λ (own : entry_by index attempt ≡ slice_index disk.inode.table index). inl own)
        (λ (still : IsBeingEntered on.n next.node disk.inode.vid index attempt). inr (snapshot_so ∙ entered.0, still))
        (entered_goes script range events start ran on is by so_far next within trail number old opened index inside_old entered.0
        (yet_old entered.0) disk opened_then vid_so j attempt comes w entered.1))
        (tables.each on.n was was_there up number index session old got at (ap good_id (sym vid_so) ∙ good)
        (ap (is_dead (log_effects here.world.log)) (sym vid_so) ∙ lives) inside_old yet_old j w.was before)

  module _ (opens : (number : ℕ) (disk : Disk) → OpensByWork (input_of_cause on.cause) on.host.node so_far number disk
      → HasItsTable good_id (moment_in_step script on start so_far) on.n number disk) where
    -- what takes the place of a disk has its table too
    opened_table : (number : ℕ) (disk : Disk) → OpensNow (input_of_cause on.cause) on.host.node so_far number disk
        → HasItsTable good_id (moment_in_step script on start so_far) on.n number disk
    opened_table number disk (ByWork work) = opens number disk work
    opened_table number disk (ByEntry req op entry inode there at same) = λ index good lives inside yet j attempt comes.
        (published_in_run script range events start here ran trail).each on.n was was_there up req index
        (record { session = number; course = Commanding op }) op entry inode there refl at
        (subst (λ (d : Disk). index < objects_of d.inode.spec) same inside)
        (ap (λ (d : Disk). writer_of (log_effects here.world.log) d.inode.vid) (sym same) ∙ yet (ap (λ (d : Disk). d.snapshot) same)) j
        attempt
        (subst (λ (d : Disk). IsEntryToCome here.world.hosts here.past.attempts d.inode.vid index j attempt) same comes)
        ∙ ap (λ (d : Disk). slice_index d.inode.table index) (sym same)

    own : (number index : ℕ) (session : Session) (disk : Disk) → tree.get next.node.sessions number ≡ Some session
        → session.disk ≡ Some disk → good_id disk.inode.vid ≡ true
        → is_dead (log_effects (moment_in_step script on start next).world.log) disk.inode.vid ≡ false
        → index < objects_of disk.inode.spec → IsYetOf (log_effects (moment_in_step script on start next).world.log) on.n number disk
        → (j : ℕ) (attempt : AttemptRecord) → ComesThen disk.inode.vid index j attempt → HasTable on.n next.node disk index attempt
    own number index session disk got at good lives inside yet j attempt comes = ⊎_elim
        (λ (w : Was j attempt).
        by_origin w (disk_from number disk (input_of_cause on.cause) on.host.node so_far next within.change opened_then))
        (λ (o : IsOpened script start (moment_in_step script on start next) attempt).
        begins on.n now now_there up waits_then number index disk opened_then inside yet j attempt comes o)
        (come_from script range start began change j attempt comes.there)
      where
        opened_then : (session_among number next.node.sessions).disk ≡ Some disk
        opened_then = ap (λ (o : Option Session). (unwrap_or o new_session).disk) got ∙ at

        by_origin : Was j attempt → DiskAfter (input_of_cause on.cause) on.host.node so_far number disk
            → HasTable on.n next.node disk index attempt
        by_origin w (Stayed same) =
            stays number disk disk same opened_then refl refl refl good lives index inside yet (λ k a before own. own) j attempt comes w
        by_origin w (Drove old req k work current status bytes driver step ends opened goes then) =
            let wanted = driver_goes_on-wanted old.inode bytes driver step goes in
            let spec_so : disk.inode.spec ≡ old.inode.spec = ap (λ (d : Disk). d.inode.spec) then ∙ wanted.spec in
            let inside_old : index < objects_of old.inode.spec = subst (λ (s : VdiSpec). index < objects_of s) spec_so inside in
            stays number old disk opened opened_then (ap (λ (d : Disk). d.snapshot) then) (ap (λ (d : Disk). d.inode.vid) then ∙ wanted.vid)
            spec_so good lives index inside yet
            (λ place a before own.
            driven_table script range events start ran on is by so_far next within trail number old opened index inside_old req k work
            current
            status bytes driver step ends goes place a before own
            ∙ sym (ap (λ (d : Disk). slice_index d.inode.table index) then)) j attempt comes w
        by_origin w (Opened now_open) =
            inl (ap (λ (a : AttemptRecord). entry_by index a) (sym w.same)
            ∙ opened_table number disk now_open index good lives inside yet j w.was
            (might script range events start ran on is by so_far next within trail disk.inode.vid index j attempt comes w))

    -- another node has its sessions as they were
    other : (n : ℕ) (host : Host) → n ≢ on.n → tree.get start.world.hosts n ≡ Some host → host.is_lost ≡ false
        → tree.get later.world.hosts n ≡ Some host
        → (number index : ℕ) (session : Session) (disk : Disk) → tree.get host.node.sessions number ≡ Some session
        → session.disk ≡ Some disk → good_id disk.inode.vid ≡ true
        → is_dead (log_effects (moment_in_step script on start next).world.log) disk.inode.vid ≡ false
        → index < objects_of disk.inode.spec → IsYetOf (log_effects (moment_in_step script on start next).world.log) n number disk
        → (j : ℕ) (attempt : AttemptRecord) → ComesThen disk.inode.vid index j attempt → HasTable n host.node disk index attempt
    other n host apart there host_up there_then number index session disk got at good lives inside yet j attempt comes = ⊎_elim
        (λ (w : Was j attempt). ⊎_elim
        (λ (own : entry_by index w.was ≡ slice_index disk.inode.table index).
        inl (ap (λ (a : AttemptRecord). entry_by index a) (sym w.same) ∙ own))
        (λ (entered : (disk.snapshot ≡ false) × IsBeingEntered n host.node disk.inode.vid index w.was). inr (
          entered.0,
          record {
            opened = entered.1.opened;
            gateway = ap (λ (a : AttemptRecord). a.gateway.0) (sym w.same) ∙ entered.1.gateway;
            of = ap (λ (a : AttemptRecord). a.req) (sym w.same) ∙ entered.1.of;
            own = ap (λ (a : AttemptRecord). entry_by index a) (sym w.same) ∙ entered.1.own;
          },
        ))
        (tables.each n host (get-insert_other start.world.hosts on.n was n apart ∙ there) host_up number index session disk got at good
        lives
        inside yet j w.was
        (might script range events start ran on is by so_far next within trail disk.inode.vid index j attempt comes w)))
        (λ (o : IsOpened script start (moment_in_step script on start next) attempt).
        begins n host there_then host_up (works_waited script range start.world began n host there).1 number index disk
        (ap (λ (o : Option Session). (unwrap_or o new_session).disk) got ∙ at) inside yet j attempt comes o)
        (come_from script range start began change j attempt comes.there)

    pub tables_go_on : TablesStayTheInodes (log_effects (moment_in_step script on start next).world.log) good_id
        (moment_in_step script on start next).world.hosts (moment_in_step script on start next).past.attempts
    tables_go_on = record {
      each = λ n host there host_up number index session disk got at good lives inside yet j attempt comes. ⊎_elim
          (λ (mine : (n ≡ on.n) × (now ≡ host)).
          subst (λ (k : ℕ). HasTable k host.node disk index attempt) (sym mine.0)
          (subst (λ (h : Host). HasTable on.n h.node disk index attempt) mine.1
          (own number index session disk (ap (λ (h : Host). tree.get h.node.sessions number) mine.1 ∙ got) at good lives inside
          (λ working. yet working ∙ ap (λ (k : ℕ). Some (session_holder k number)) mine.0) j attempt comes)))
          (λ (others : (n ≢ on.n) × (tree.get start.world.hosts n ≡ Some host)).
          other n host others.0 others.1 host_up there number index session disk got at good lives inside yet j attempt comes)
          (get-insert_cases start.world.hosts on.n now n host there);
    }

-- ---- each change

abbrev TablesHold : (ℕ → Bool) → MomentWithPast → Type 0
TablesHold good_id moment = TablesStayTheInodes (log_effects moment.world.log) good_id moment.world.hosts moment.past.attempts

pub tables_kept : (script : List Statement) → RunsAreInRange script → (events : List Move) (start before after : MomentWithPast)
    → run_with_past script events ≡ Some start → MomentTrail script start before → MomentChange script start before after
    → (good_id : ℕ → Bool) → OpenedInodesHaveTables script good_id start before
    → TablesStayTheInodes (log_effects before.world.log) good_id before.world.hosts before.past.attempts
    → TablesStayTheInodes (log_effects after.world.log) good_id after.world.hosts after.past.attempts
tables_kept script range events start before after ran trail change good_id opens tables =
    tables_after script range events start before after ran trail change good_id tables (λ g. goes g)
  where
    goes : IsGoingOn script start before after
        → TablesStayTheInodes (log_effects after.world.log) good_id after.world.hosts after.past.attempts
    goes g =
        subst (TablesHold good_id) (sym g.after_so)
        (tables_go_on script range events start ran g.stepping g.is g.by g.so_far g.next g.within
        (subst (MomentTrail script start) g.before_so trail) good_id (subst (TablesHold good_id) g.before_so tables)
        (λ number disk now_open.
        subst (λ (m : MomentWithPast). HasItsTable good_id m g.stepping.n number disk) g.before_so
        (opens g.stepping g.so_far g.is g.by g.within.leads g.before_so number disk now_open)))
