-- Every change leaves each work that is open, or waits for the inode, to a request that waits for it, on the disk that its session has
-- open.
use Rattle.std.proofs.Common.{◌≡◌, ◌≢◌, inl, ℕ, true, [], length, All, Option, Some, None, IfSome, refl, sym, ap, subst, ◌∙◌}
use Rattle.std.specs.FinMap as tree
use Rattle.std.proofs.lemmas.Option.{same_Some}
use Rattle.inode.specs.Layout.{Content}
use Rattle.peer_proto.specs.declared.work.ObjWork.{ObjWork}
use Rattle.peer_service.specs.State.{effects_of}
use Rattle.peer_service.specs.LogReading.{decision_on}
use Rattle.gateway.specs.Work.{bytes_of_work}
use Rattle.guest_driver.specs.declared.act.DriverAct.{DriverAct}
use Rattle.guest_driver.specs.declared.act.DriverAct.TheVariants as driver_acts
use Rattle.guest_driver.specs.declared.disk.Disk.{Disk}
use Rattle.guest_driver.specs.Course.{IsAwaitedByDriver, inode_after, Goes}
use Rattle.guest_driver.specs.OnDisk.{pieces_left}
use Rattle.guest_driver.specs.Pieces.{Piece}
use Rattle.guest_driver.specs.PieceWorks.{entry_of}
use Rattle.guest_driver.specs.Driver as drivers
use Rattle.guest_driver.specs.Driver.{Driver, DriverStep, begin_driver}
use Rattle.guest_driver.specs.InodeQueue.{queue_after_end}
use Rattle.guest_driver.proofs.CourseLemmas.{begin_goes, done_goes}
use Rattle.disk_check.specs.declared.act.CheckAct.{CheckAct}
use Rattle.disk_check.specs.declared.act.CheckAct.TheVariants as check_acts
use Rattle.disk_check.specs.Check.{CheckStep, begin_check, check_bytes_wanted}
use Rattle.vdi_ops.specs.declared.act.OpAct.{OpAct}
use Rattle.vdi_ops.specs.declared.act.OpAct.TheVariants as op_acts
use Rattle.vdi_ops.specs.Op as ops
use Rattle.vdi_ops.specs.Op.{OpStage, Asked, Working, Publishing, disk_change_at, OpStep, disk_change}
use Rattle.sheep_node.specs.declared.ask.Ask.{Ask}
use Rattle.sheep_node.specs.declared.ask.Ask.TheVariants as asks
use Rattle.sheep_node.specs.declared.input.Input.{Input}
use Rattle.sheep_node.specs.declared.course.Course.{Course}
use Rattle.sheep_node.specs.declared.course.Request.{Request}
use Rattle.sheep_node.specs.declared.session.Session.{Session}
use Rattle.sheep_node.specs.declared.course.Course.TheVariants.{Waiting, Driving, Commanding, Checking, DoingWork, AwaitingDecision}
use Rattle.sheep_node.specs.State.{Node}
use Rattle.sheep_node.specs.StepState.{StepState, session_in, with_sole_request}
use Rattle.sheep_node.specs.Courses.{after_driver_step, disk_after, inode_open, after_command_step}
use Rattle.sheep_node.specs.May.{May, is_disk_course}
use Rattle.sheep_node.specs.SessionQueues.{AreDiskRequests, QueuesAreDiskRequests, CommandsAreAlone}
use Rattle.sheep_node.specs.SoundWorks.{IsSoundWork, HasSoundWorks}
use Rattle.sheep_node.specs.Changes.{IsSoundStep, HasRequest, outcome_of_driver, outcome_of_command, outcome_of_check, without_ended_work}
use Rattle.sheep_node.specs.Changes.{DiskBegins, DiskGoesOn, CommandBegins, CommandGoesOn, CommandDecided, CheckBegins, CheckGoesOn}
use Rattle.sheep_node.specs.Changes.{ObjectBegins, ObjectIsDone, EntryBegins, EntryDecided, Leads, Still, Then}
use Rattle.sheep_node.proofs.GoingOn.{bytes_for_check}
use Rattle.sheep_node.proofs.OneWorkChanges.{HasNoWorkIn, steps_free}
use Rattle.sheep_node.proofs.SessionViews.{same_seen, free_seen, own_seen}
use Rattle.sheep_node.proofs.SoleCommands.{free}
use Rattle.sheep_node.proofs.SoleParts.{CommandsAre, IsFreeFor, same_command, command_is_free}
use Rattle.sheep_node.proofs.SoundChanges.{IsKnown}
use Rattle.sheep_node.proofs.WantedSteps.{driver_begins-wanted, driver_goes_on-wanted}
use Rattle.overlap_law.specs.Courses.{IsOfStage}
use Rattle.overlap_law.proofs.CoursesOfAsks.{disk_in, seen_moves, plain, PlacedSoFar, course_placed}
use Rattle.overlap_law.proofs.CoursesAtChanges.{on_working}
use Rattle.overlap_law.proofs.CoveredCourses.{CoveredSoFar}
use Rattle.overlap_law.proofs.DoneWorks.{bytes_long, wanted, same_disk}
use Rattle.overlap_law.proofs.QueueOnce.{AreOnceIn}
use Rattle.overlap_law.proofs.QueuedInSteps.{begun_at_others}
use Rattle.overlap_law.proofs.WaitedSteps.{no_id, HasOwnDraftAt, IsOwnIn, IsOfOwn, Waits, entries_stay, awaited_alike, own_alike, IsOwnStep}
use Rattle.overlap_law.proofs.WaitedSteps.{driver_begins-own, driver_goes_on-own, check_begins-vid, check_goes_on-vid, IsOpWaitedAt}
use Rattle.overlap_law.proofs.WaitedSteps.{command_begins-waited, command_goes_on-waited, command_decided-waited, IsCheckWaitedAt}
use Rattle.overlap_law.proofs.WaitedSteps.{check_begins-waited, check_goes_on-waited}
use Rattle.overlap_law.proofs.WorksAtCourses.{IsAt, AtSoFar, freed_at, moved_at, IsOutcomeAt, StepsKeepAt, change_keeps_at}

-- what is known beside it in the middle of a step
pub record IsWaitingWell (asked : ℕ → Option Ask) (Began : ℕ → Option ℕ → Type 0) (so_far : StepState) : Type 0 where
  pub known : IsKnown so_far
  pub sound : HasSoundWorks so_far.node
  pub queues : AreDiskRequests so_far.node.requests so_far.node.sessions
  pub once : AreOnceIn so_far.node.sessions
  pub covered : CoveredSoFar so_far
  pub placed : PlacedSoFar asked Began so_far

-- ---- a read or write takes a step

driven_waited : (number req : ℕ) (course : Course) (disk : Disk) (step : DriverStep) (so_far : StepState) → CommandsAre so_far
    → HasRequest number req course so_far → is_disk_course course ≡ true → (session_in number so_far).disk ≡ Some disk
    → step.inode.vid ≡ disk.inode.vid → step.inode.spec ≡ disk.inode.spec
    → ((q : ℕ) (others : Driver) → HasRequest number q (Driving others) so_far → q ≢ req
    → All (λ (piece : Piece). entry_of step.inode piece ≡ entry_of disk.inode piece) (pieces_left others))
    → IsAwaitedByDriver step.inode step.driver step.act → IsOwnStep step → HasNoWorkIn req (after_driver_step number req disk step so_far)
    → AtSoFar Waits so_far
    → AtSoFar Waits (after_driver_step number req disk step so_far)
    × IsOutcomeAt Waits req (outcome_of_driver step.act) (after_driver_step number req disk step so_far)
driven_waited number req course disk step so_far alone there is_disk on vid spec entries told own free all = (
  moved_at Waits req (record { session = number; course = Driving step.driver }) number after so_far free refl
      (λ q other work is. by_got q other work (tree.get so_far.node.requests q) refl is) all,
  by_act step.act told,
)
  where
    now : Disk
    now = record disk { inode = step.inode }

    after : Session
    after = record (session_in number so_far) { disk = Some (record disk { inode = step.inode }) }

    was_own : (opened : Disk) (others : Driver) → IsOfOwn (Some opened) (Driving others) → IsOwnIn opened.inode others
    was_own opened others (one, got, is) =
        subst (λ (d : Disk). IsOwnIn d.inode others) (sym (same_Some opened one got)) is

    by_course : (q : ℕ) (work : ObjWork) (of : Course) → q ≢ req → HasRequest number q of so_far → is_disk_course of ≡ true
        → Waits (Some disk) of work → Waits (Some now) of work
    by_course q work (Waiting ask) other there_too disk_too is = absurd is.0
    by_course q work (Driving others) other there_too disk_too is =
        let same : disk ≡ is.0.disk = same_Some disk is.0.disk is.0.there in
        let awaited : IsAwaitedByDriver disk.inode others (driver_acts.Work work)
        = subst (λ (d : Disk). IsAwaitedByDriver d.inode others (driver_acts.Work work)) (sym same) is.0.awaited in (
          record {
            disk = now;
            there = refl;
            awaited = awaited_alike disk.inode step.inode others work spec vid (entries q others there_too other) awaited;
          },
          (now, refl, own_alike disk.inode step.inode others vid (entries q others there_too other) (was_own disk others is.1)),
        )
    by_course q work (Commanding op) other there_too disk_too is = absurd (cc (disk_too))
    by_course q work (Checking check) other there_too disk_too is = absurd (cc (disk_too))
    by_course q work (DoingWork of) other there_too disk_too is = absurd (cc (disk_too))
    by_course q work (AwaitingDecision entry) other there_too disk_too is = absurd (cc (disk_too))

    by_got : (q : ℕ) → q ≢ req → (work : ObjWork) (o : Option Request) → tree.get so_far.node.requests q ≡ o
        → IsAt Waits so_far.node.sessions o work
        → IsAt Waits (tree.insert so_far.node.sessions number after) o work
    by_got q other work None got seen = tt
    by_got q other work (Some request) got seen =
        seen_moves (λ (d : Option Disk) (of : Course). Waits d of work) so_far.node.sessions number after request
        (λ here before.
        let there_too : HasRequest number q request.course so_far
        = got ∙ ap (λ (k : ℕ). Some (record { session = k; course = request.course })) here in
        by_course q work request.course other there_too (plain number req course so_far alone there is_disk q request got here)
        (subst (λ (d : Option Disk). Waits d request.course work) on before)) seen

    by_act : (act : DriverAct) → IsAwaitedByDriver step.inode step.driver act
        → IsOutcomeAt Waits req (outcome_of_driver act) (after_driver_step number req disk step so_far)
    by_act (driver_acts.Work work) told =
        own_seen disk_in (λ (d : Option Disk) (of : Course). Waits d of work) so_far.node.sessions number after req (Driving step.driver)
        so_far.node.requests (record { disk = now; there = refl; awaited = told }, (now, refl, own))
    by_act (driver_acts.Reply reply) told = tt

-- ---- a command does

-- where it waits for a work the open disk stays
still_open : (stage : OpStage) (disk : Option Disk) (work : ObjWork) → IsOfStage [] no_id [] disk stage work
    → IsOfStage [] no_id [] (disk_after (disk_change_at stage) disk) stage work
still_open (Asked entry) disk work is = absurd is
still_open (Working vid task) disk work is = is
still_open (Publishing entry opened) disk work is = absurd is
still_open (ops.Answered change) disk work is = absurd is

commanded_waited : (number req : ℕ) (step : OpStep) (so_far : StepState) → IsFreeFor number req so_far.node.requests
    → HasNoWorkIn req (after_command_step number req step so_far) → IsOpWaitedAt (session_in number so_far).disk step.op step.act
    → AtSoFar Waits so_far
    → AtSoFar Waits (after_command_step number req step so_far)
    × IsOutcomeAt Waits req (outcome_of_command step.act) (after_command_step number req step so_far)
commanded_waited number req step so_far alone free is all = (
  moved_at Waits req (record { session = number; course = Commanding step.op }) number after so_far free refl
      (λ q other work seen. free_seen disk_in (λ (d : Option Disk) (of : Course). Waits d of work) so_far.node.sessions number after req q
      so_far.node.requests alone other seen) all,
  by_act step.act is,
)
  where
    after : Session
    after = record (session_in number so_far) { disk = disk_after (disk_change step) (session_in number so_far).disk; command = Some req }

    by_act : (act : OpAct) → IsOpWaitedAt (session_in number so_far).disk step.op act
        → IsOutcomeAt Waits req (outcome_of_command act) (after_command_step number req step so_far)
    by_act (op_acts.Append entry) is = tt
    by_act (op_acts.Work work) is =
        own_seen disk_in (λ (d : Option Disk) (of : Course). Waits d of work) so_far.node.sessions number after req (Commanding step.op)
        so_far.node.requests (still_open step.op.stage (session_in number so_far).disk work is.0, is.1)
    by_act (op_acts.Reply reply) is = tt

-- ---- a request that is alone does

sole_waited : (number req : ℕ) (course : Course) (so_far : StepState) → HasNoWorkIn req (with_sole_request number req course so_far)
    → AtSoFar Waits so_far → AtSoFar Waits (with_sole_request number req course so_far)
sole_waited number req course so_far free all =
    let after : Session = record (session_in number so_far) { command = Some req } in
    moved_at Waits req (record { session = number; course = course }) number after so_far free refl
    (λ q other work seen. same_seen disk_in (λ (d : Option Disk) (of : Course). Waits d of work) so_far.node.sessions number after refl
    (tree.get so_far.node.requests q) seen) all

sole_outcome : (number req : ℕ) (course : Course) (work : ObjWork) (so_far : StepState) → Waits (session_in number so_far).disk course work
    → IsAt Waits (with_sole_request number req course so_far).node.sessions
    (tree.get (with_sole_request number req course so_far).node.requests req) work
sole_outcome number req course work so_far is =
    own_seen disk_in (λ (d : Option Disk) (of : Course). Waits d of work) so_far.node.sessions number
    (record (session_in number so_far) { command = Some req }) req course so_far.node.requests is

checked_outcome : (number req : ℕ) (step : CheckStep) (disk : Disk) (so_far : StepState) → (session_in number so_far).disk ≡ Some disk
    → step.check.vid ≡ disk.inode.vid → IsCheckWaitedAt disk step.check step.act
    → IsOutcomeAt Waits req (outcome_of_check step.act) (with_sole_request number req (Checking step.check) so_far)
checked_outcome number req step disk so_far on vid is = by_act step.act is
  where
    by_act : (act : CheckAct) → IsCheckWaitedAt disk step.check act
        → IsOutcomeAt Waits req (outcome_of_check act) (with_sole_request number req (Checking step.check) so_far)
    by_act (check_acts.Work work) is =
        sole_outcome number req (Checking step.check) work so_far (record { disk = disk; there = on; is = is }, (disk, on, vid))
    by_act (check_acts.Reply found) is = tt

-- ---- every step that a request takes

module _ (asked : ℕ → Option Ask) (Began : ℕ → Option ℕ → Type 0) {input : Input} {node : Node} (may : May input node)
    (queued : QueuesAreDiskRequests node) (sole : CommandsAreAlone node) (sound : IsSoundStep input node) where
  pub steps_waited : StepsKeepAt Waits input node (IsWaitingWell asked Began)
  steps_waited so_far session req next moved (DiskBegins ask disk there on may_run) all =
      let goes = begin_goes drivers.Answered disk ask in
      let wanted = driver_begins-wanted disk ask in
      driven_waited session req (Waiting ask) disk (begin_driver disk ask) so_far all.0.known.0.1 there refl on wanted.vid wanted.spec
      (λ q others there_too other.
      subst (λ (inode : Content). All (λ (piece : Piece). entry_of inode piece ≡ entry_of disk.inode piece) (pieces_left others))
      (sym goes.table)
      (λ k d within. refl)) goes.told (driver_begins-own disk ask)
      (steps_free so_far session req next moved (DiskBegins ask disk there on may_run) sound all.0.known.0.0).free all.1
  steps_waited so_far session req next moved (DiskGoesOn number work attempt status bytes driver disk step ends on is) all =
      let freed = without_ended_work session req work status so_far in
      let goes : Goes driver (inode_after disk.inode driver) step
      = subst (λ (o : Option DriverStep). IfSome o (λ step. Goes driver (inode_after disk.inode driver) step)) is
      (done_goes disk.inode bytes driver) in
      let wanted = driver_goes_on-wanted disk.inode bytes driver step is in
      let alone : CommandsAre freed
      = same_command so_far.node.requests so_far.node.sessions session
      (record (session_in session so_far) {
        inode_queue = queue_after_end
            (session_in session so_far).inode_queue work.work;
      }) refl all.0.known.0.1 in
      driven_waited session req (Driving driver) disk step freed alone ends.ends.request refl on wanted.vid wanted.spec
      (λ q others there_too other.
      subst (λ (inode : Content). All (λ (piece : Piece). entry_of inode piece ≡ entry_of disk.inode piece) (pieces_left others))
      (sym goes.table)
      (entries_stay disk.inode driver others
      (begun_at_others so_far all.0.queues all.0.once all.0.covered session req q driver others
      ends.ends.request there_too other))) goes.told (driver_goes_on-own disk.inode bytes driver step is)
      (steps_free so_far session req next moved
      (DiskGoesOn number work attempt status bytes driver disk step ends on is) sound all.0.known.0.0).free
      (freed_at Waits session req work status so_far all.1)
  steps_waited so_far session req next moved (CommandBegins ask step arrival is) all =
      commanded_waited session req step so_far (free may queued sole so_far session req (asks.Vdi ask) None arrival refl)
      (steps_free so_far session req next moved (CommandBegins ask step arrival is) sound all.0.known.0.0).free
      (command_begins-waited (session_in session so_far).disk so_far.node.me session ask
      (inode_open (session_in session so_far).disk) step is) all.1
  steps_waited so_far session req next moved (CommandGoesOn number work attempt status bytes op step ends is) all =
      let freed = without_ended_work session req work status so_far in
      let draft : HasOwnDraftAt op.stage
      = (subst (λ (o : Option Request). IsAt Waits so_far.node.sessions o work.work) ends.ends.request
      (all.1 req work.work (inl (work, ends.ends.learns.there, refl)))).1 in
      commanded_waited session req step freed (command_is_free session req (Commanding op) so_far ends.ends.request refl all.0.known.0.1)
      (steps_free so_far session req next moved (CommandGoesOn number work attempt status bytes op step ends is) sound all.0.known.0.0).free
      (command_goes_on-waited (session_in session freed).disk bytes op step is draft) (freed_at Waits session req work status so_far all.1)
  steps_waited so_far session req next moved (CommandDecided entry op step from read there waits is) all =
      commanded_waited session req step so_far (command_is_free session req (Commanding op) so_far there refl all.0.known.0.1)
      (steps_free so_far session req next moved (CommandDecided entry op step from read there waits is) sound all.0.known.0.0).free
      (command_decided-waited (session_in session so_far).disk (effects_of so_far.node.peer) op step (decision_on entry node.peer) is) all.1
  steps_waited so_far session req next moved (CheckBegins inode arrival on) all =
      let working = on_working (session_in session so_far).disk inode arrival.refused on in (
        sole_waited session req (Checking (begin_check inode).check) so_far
            (steps_free so_far session req next moved (CheckBegins inode arrival on) sound all.0.known.0.0).free all.1,
        checked_outcome session req (begin_check inode) working.disk so_far working.there
            (check_begins-vid inode ∙ ap (λ (i : Content). i.vid) (sym working.same)) (check_begins-waited working.disk inode),
      )
  steps_waited so_far session req next moved (CheckGoesOn number work attempt status bytes check step ends is) all =
      let freed = without_ended_work session req work status so_far in
      let one : IsSoundWork work = all.0.sound.open_works req work ends.ends.learns.there in
      let here = all.0.sound.courses req (record { session = session; course = Checking check }) ends.ends.request in
      let placed = course_placed asked Began session req (Checking check) so_far ends.ends.request all.0.placed in
      let given : length bytes ≡ bytes_of_work work.work
      = bytes_long sound so_far session req number work attempt status (Checking check) bytes ends all.0.known one in
      let waits : check_bytes_wanted check ≡ Some (length bytes)
      = bytes_for_check check check.stage work.work
      (wanted sound so_far session req number work attempt status (Checking check) bytes ends all.0.known one) refl here ∙ ap Some
      (sym given) in
      let on : (session_in session freed).disk ≡ Some placed.2.on.disk
      = same_disk sound so_far session req number work attempt status (Checking check) bytes ends all.0.known one ∙ placed.2.on.there in (
        sole_waited session req (Checking step.check) freed
            (steps_free so_far session req next moved
            (CheckGoesOn number work attempt status bytes check step ends is) sound all.0.known.0.0).free
            (freed_at Waits session req work status so_far all.1),
        checked_outcome session req step placed.2.on.disk freed on (check_goes_on-vid bytes check step is ∙ placed.2.is.vid)
            (check_goes_on-waited placed.2.on.disk bytes check step is placed.2.is here.spec waits),
      )
  steps_waited so_far session req next moved (ObjectBegins work arrival) all = (
    sole_waited session req (DoingWork work) so_far
        (steps_free so_far session req next moved (ObjectBegins work arrival) sound all.0.known.0.0).free all.1,
    sole_outcome session req (DoingWork work) work so_far (refl, tt),
  )
  steps_waited so_far session req next moved (ObjectIsDone number work attempt status bytes does ends) all =
      (freed_at Waits session req work status so_far all.1, tt)
  steps_waited so_far session req next moved (EntryBegins entry arrival) all = (
    sole_waited session req (AwaitingDecision entry) so_far
        (steps_free so_far session req next moved (EntryBegins entry arrival) sound all.0.known.0.0).free all.1,
    tt,
  )
  steps_waited so_far session req next moved (EntryDecided entry awaits from read there waits) all = (all.1, tt)

  -- along a chain
  pub waits_in_chain : {first so_far : StepState} → ((here : StepState) → Leads input node first here → IsWaitingWell asked Began here)
      → Leads input node first so_far → AtSoFar Waits first → AtSoFar Waits so_far
  waits_in_chain well Still all = all
  waits_in_chain well (Then {so_far} {next} leads change) all =
      change_keeps_at Waits sound (IsWaitingWell asked Began) (λ here known. known.known.0.0) steps_waited so_far next change
      (well so_far leads, waits_in_chain well leads all)
