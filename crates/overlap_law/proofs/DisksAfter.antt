-- Which disk a session has open after a change of its node: the one that it had, or that one after a step of a read or write, or one that
-- its command opens now. A snapshot's inode was read, a disk's was written back, or a disk was decided that takes the place of another.
use Rattle.std.specs.Option.{option_map_or}
use Rattle.std.specs.FinMap as tree
use Rattle.std.proofs.lemmas.Bool.{cases_eq}
use Rattle.std.proofs.lemmas.Option.{same_Some}
use Rattle.proof_tools.proofs.FiniteMaps.{get-insert_same, get-insert_other}
use Rattle.object_id.specs.declared.entry.Entry.{Entry}
use Rattle.object_id.specs.declared.oid.Vid.{Vid}
use Rattle.inode.specs.Layout.{Content}
use Rattle.peer_proto.specs.declared.guest.GuestRsp.{GuestRsp}
use Rattle.peer_service.specs.State.{effects_of}
use Rattle.peer_service.specs.LogReading.{decision_on}
use Rattle.gateway.specs.declared.message.Status.{Status}
use Rattle.gateway.specs.State.{Work}
use Rattle.guest_driver.specs.declared.disk.Disk.{Disk}
use Rattle.guest_driver.specs.InodeQueue as lines
use Rattle.peer_proto.specs.declared.guest.DiskAsk.{DiskAsk}
use Rattle.vdi_directory.specs.declared.decision.Decision.{Decision}
use Rattle.vdi_directory.specs.declared.effect.Effect.{Effect}
use Rattle.vdi_ops.specs.Steps.{done_at, task_done, decided_at, op_on_done, on_decision}
use Rattle.sheep_node.specs.declared.course.Course.TheVariants.{Commanding}
use Rattle.sheep_node.specs.declared.input.Input.{Input}
use Rattle.sheep_node.specs.declared.session.Session.{Session}
use Rattle.sheep_node.specs.State.{Node, new_session}
use Rattle.sheep_node.specs.StepState.{StepState, session_in, request_ended}
use Rattle.sheep_node.specs.Courses.{disk_after, inode_open, after_driver_step, after_command_step}
use Rattle.sheep_node.specs.Changes.{without_ended_work, Outcome}
use Rattle.sheep_node.specs.Changes.{RequestSteps, DiskBegins, DiskGoesOn, CommandBegins, CommandGoesOn, CommandDecided, CheckBegins}
use Rattle.sheep_node.specs.Changes.{CheckGoesOn, ObjectBegins, ObjectIsDone, EntryBegins, EntryDecided}
use Rattle.sheep_node.specs.Changes.{Change}
use Rattle.sheep_node.proofs.QueueChanges.{same_view}
use Rattle.sheep_node.proofs.OneWorkParts.{Sessions}
use Rattle.std.proofs.Common.{◌≡◌, ◌≢◌, ◌⊎◌, inl, inr, ⊎_elim, ℕ, true, false, List, Option, Some, None}
use Rattle.std.proofs.Common.{IfSome, unwrap_or, refl, sym, ap, subst, ◌∙◌}
use Rattle.gateway.specs.Attempt.{Attempt}
use Rattle.guest_driver.specs.Driver as drivers
use Rattle.guest_driver.specs.Driver.{Driver}
use Rattle.vdi_ops.specs.Op.{DiskChange, Stays, Opens, Closes, Op, OpStep, OpStage, Asked, Working, Publishing, Answered}
use Rattle.vdi_ops.specs.Op.{disk_change, disk_change_at}
use Rattle.vdi_ops.specs.Op.{Task, Opening, WritingBack, Tagging, Copying, Making}
use Rattle.sheep_node.specs.declared.course.Course.TheVariants.{Driving}
use Rattle.sheep_node.specs.Changes.{EndsWork}
use Rattle.sheep_node.specs.SessionQueues.{session_among}
use Rattle.overlap_law.specs.OpenedTables.{OpensNow, ReadsIt, WroteIt, ByWork, ByEntry}
use Rattle.overlap_law.proofs.ClosedFirstStages.{HoldsAtFirst, begins_so, first_decided}
use Rattle.overlap_law.proofs.DriverNames.{driver_begins-stays}
use Rattle.sheep_node.proofs.ChangeWalk.{kept_by_steps, change_holds}
use Rattle.guest_driver.specs.InodeQueue.{InodeQueue}
use Rattle.sheep_node.proofs.OneWorkParts.{Requests}

-- how a session comes to have this disk open
pub data DiskAfter (input : Input) (node : Node) (so_far : StepState) (q : ℕ) (disk : Disk) : Type 0 where
  Stayed : (session_among q so_far.node.sessions).disk ≡ Some disk → DiskAfter input node so_far q disk
  Drove : (was : Disk) (req number : ℕ) (work : Work) (attempt : Attempt) (status : Status) (bytes : List ℕ) (driver : Driver)
      (step : drivers.DriverStep) → EndsWork input node so_far q req number work attempt status (Driving driver) bytes
      → (session_among q so_far.node.sessions).disk ≡ Some was → drivers.driver_on_done was.inode bytes driver ≡ Some step
      → disk ≡ record was { inode = step.inode } → DiskAfter input node so_far q disk
  Opened : OpensNow input node so_far q disk → DiskAfter input node so_far q disk

-- ---- what a command opens

-- what becomes of the open disk is this one
abbrev OpensAs : Disk → DiskChange → Type 0
OpensAs disk Stays = ⊥
OpensAs disk (Opens snapshot inode) = disk ≡ record { inode = inode; snapshot = snapshot }
OpensAs disk Closes = ⊥

opened_by : (disk : Disk) (change : DiskChange) (o : Option Disk) → disk_after change o ≡ Some disk → (o ≡ Some disk) ⊎ OpensAs disk change
opened_by disk Stays o is = inl is
opened_by disk (Opens snapshot inode) o is = inr (sym (same_Some (record { inode = inode; snapshot = snapshot }) disk is))
opened_by disk Closes o is = absurd (cc (is))

module _ (opened : Disk) where
  abbrev OpensNone : OpStage → Type 0
  OpensNone stage = OpensAs opened (disk_change_at stage) → ⊥

  -- nothing at first
  opens_none : HoldsAtFirst (λ (stage : OpStage). OpensAs opened (disk_change_at stage) → ⊥)
  opens_none = record {
    stays = λ never. never;
    closes = λ never. never;
    opening = λ vid snapshot ids header never. never;
    tagging = λ vid old inode never. never;
    copying = λ vid ids header never. never;
    making = λ vid by never. never;
  }

  module _ (op : Op) where
    -- and of it what it was about to
    module _ (input : Input) (node : Node) (so_far : StepState) (q req : ℕ) where
      task_opens : (number : ℕ) (work : Work) (attempt : Attempt) (status : Status) (bytes : List ℕ) (of : Vid) (task : Task)
          → EndsWork input node so_far q req number work attempt status (Commanding op) bytes → op.stage ≡ Working of task
          → OpensAs opened (disk_change (task_done op of bytes task)) → OpensNow input node so_far q opened
      task_opens number work attempt status bytes of (Opening true ids header) ends at is =
          ByWork (ReadsIt req number work attempt status bytes op of ids header ends at is)
      task_opens number work attempt status bytes of (Opening false ids header) ends at never = absurd never
      task_opens number work attempt status bytes of (WritingBack inode) ends at is =
          ByWork (WroteIt req number work attempt status bytes op of inode ends at is)
      task_opens number work attempt status bytes of (Tagging old inode) ends at never = absurd never
      task_opens number work attempt status bytes of (Copying ids header) ends at never = absurd never
      task_opens number work attempt status bytes of (Making entry made) ends at never = absurd never

      goes_opens : (number : ℕ) (work : Work) (attempt : Attempt) (status : Status) (bytes : List ℕ) (step : OpStep)
          → EndsWork input node so_far q req number work attempt status (Commanding op) bytes → op_on_done bytes op ≡ Some step
          → OpensAs opened (disk_change step) → OpensNow input node so_far q opened
      unfolding op_on_done
      goes_opens number work attempt status bytes step ends next is = by_stage op.stage refl next
        where
          by_stage : (stage : OpStage) → op.stage ≡ stage → done_at bytes op stage ≡ Some step → OpensNow input node so_far q opened
          by_stage (Asked entry) at next = absurd (cc (next))
          by_stage (Working of task) at next =
              task_opens number work attempt status bytes of task ends at
              (subst (λ (s : OpStep). OpensAs opened (disk_change s)) (sym (same_Some (task_done op of bytes task) step next)) is)
          by_stage (Publishing entry made) at next = absurd (cc (next))
          by_stage (Answered change) at next = absurd (cc (next))

      published_opens : (entry : Entry) (made : Option Content) → op.stage ≡ Publishing entry made
          → tree.get so_far.node.requests req ≡ Some (record { session = q; course = Commanding op })
          → OpensAs opened (option_map_or (Opens false) made Stays) → OpensNow input node so_far q opened
      published_opens entry None at there never = absurd never
      published_opens entry (Some inode) at there is = ByEntry req op entry inode there at is

      decided_opens : (known : List Effect) (disk : Option Content) (decision : Decision) (step : OpStep)
          → tree.get so_far.node.requests req ≡ Some (record { session = q; course = Commanding op })
          → on_decision known disk decision op ≡ Some step → OpensAs opened (disk_change step) → OpensNow input node so_far q opened
      unfolding on_decision
      decided_opens known disk decision step there next is = by_stage op.stage refl next
        where
          by_stage : (stage : OpStage) → op.stage ≡ stage → decided_at known disk decision op stage ≡ Some step
              → OpensNow input node so_far q opened
          by_stage (Asked entry) at next =
              absurd (subst (λ (o : Option OpStep). IfSome o (λ (s : OpStep). OpensNone s.op.stage)) next
              (first_decided OpensNone opens_none op known disk entry decision) is)
          by_stage (Working of task) at next = absurd (cc (next))
          by_stage (Publishing entry made) at next =
              published_opens entry made at there
              (subst (λ (o : Option OpStep). IfSome o (λ (s : OpStep). OpensAs opened (disk_change s)
              → OpensAs opened (option_map_or (Opens false) made Stays))) next (λ same. same) is)
          by_stage (Answered change) at next = absurd (cc (next))

-- ---- over a change of a node

module _ (q : ℕ) (disk : Disk) (input : Input) (node : Node) where
  abbrev After : StepState → Type 0
  After so_far = DiskAfter input node so_far q disk

  module _ (origin : StepState) where
    abbrev AreFrom : Sessions → Type 0
    AreFrom sessions = (session_among q sessions).disk ≡ Some disk → After origin

    abbrev From : StepState → Type 0
    From so_far = AreFrom so_far.node.sessions

    alike_from : (sessions : Sessions) (number : ℕ) (session : Session) → session.disk ≡ (session_among number sessions).disk
        → AreFrom sessions → AreFrom (tree.insert sessions number session)
    alike_from sessions number session same from is =
        from (sym (same_view (λ (s : Session). s.disk) sessions number session same q) ∙ is)

    ended_from : (session req : ℕ) (reply : GuestRsp) (so_far : StepState) → From so_far → From (request_ended session req reply so_far)
    unfolding request_ended
    ended_from session req reply so_far from = alike_from so_far.node.sessions session _ refl from

    freed_from : (session req : ℕ) (work : Work) (status : Status) (so_far : StepState) → From so_far
        → From (without_ended_work session req work status so_far)
    freed_from session req work status so_far from = alike_from so_far.node.sessions session _ refl from

    -- another disk is put in the place of the session's
    put_from : (sessions : Sessions) (number : ℕ) (session : Session) → (q ≡ number → session.disk ≡ Some disk → After origin)
        → AreFrom sessions → AreFrom (tree.insert sessions number session)
    put_from sessions number session own from is = ⊎_elim
        (λ (here : q ≡ number).
        own here
        (sym (ap (λ (o : Option Session). (unwrap_or o new_session).disk) (get-insert_same sessions number session))
        ∙ ap (λ (k : ℕ). (session_among k (tree.insert sessions number session)).disk) (sym here) ∙ is))
        (λ (apart : q ≢ number).
        from (sym (ap (λ (o : Option Session). (unwrap_or o new_session).disk) (get-insert_other sessions number session q apart)) ∙ is))
        (cases_eq q number)

    command_from : (session req : ℕ) (step : OpStep) (so_far : StepState)
        → (q ≡ session → OpensAs disk (disk_change step) → After origin) → From so_far
        → From (after_command_step session req step so_far)
    command_from session req step so_far opens from =
        put_from so_far.node.sessions session (record (session_in session so_far) {
          disk = disk_after (disk_change step) (session_in session so_far).disk;
          command = Some req;
        })
        (λ own is. ⊎_elim
        (λ (had : (session_in session so_far).disk ≡ Some disk).
        from (ap (λ (k : ℕ). (session_among k so_far.node.sessions).disk) own ∙ had))
        (λ (now : OpensAs disk (disk_change step)). opens own now)
        (opened_by disk (disk_change step) (session_in session so_far).disk is)) from

  from_itself : (so_far : StepState) → From so_far so_far
  from_itself so_far is = Stayed is

  sole_from : (session req : ℕ) (origin so_far : StepState) → From origin so_far
      → AreFrom origin (tree.insert so_far.node.sessions session (record (session_in session so_far) { command = Some req }))
  sole_from session req origin so_far from =
      alike_from origin so_far.node.sessions session (record (session_in session so_far) { command = Some req }) refl from

  -- a read or write leaves its disk as it begins
  begins_from : (session req : ℕ) (ask : DiskAsk) (on : Disk) (so_far : StepState) → (session_in session so_far).disk ≡ Some on
      → From so_far (after_driver_step session req on (drivers.begin_driver on ask) so_far)
  begins_from session req ask on so_far opened =
      put_from so_far so_far.node.sessions session (record (session_in session so_far) {
        disk = Some (record on { inode = (drivers.begin_driver on ask).inode });
      })
      (λ own is.
      let same : Some on ≡ Some disk
      = ap (λ (i : Content). Some (record on { inode = i })) (sym (driver_begins-stays on ask)) ∙ is in
      Stayed (ap (λ (k : ℕ). (session_among k so_far.node.sessions).disk) own ∙ opened ∙ same)) (from_itself so_far)

  -- and changes it where a work of it is done
  drives_from : (so_far : StepState) (session req number : ℕ) (work : Work) (attempt : Attempt) (status : Status) (bytes : List ℕ)
      (driver : Driver) (was : Disk) (step : drivers.DriverStep)
      → EndsWork input node so_far session req number work attempt status (Driving driver) bytes
      → (session_in session (without_ended_work session req work status so_far)).disk ≡ Some was
      → drivers.driver_on_done was.inode bytes driver ≡ Some step
      → From so_far (after_driver_step session req was step (without_ended_work session req work status so_far))
  drives_from so_far session req number work attempt status bytes driver was step ends on is =
      put_from so_far freed.node.sessions session (record (session_in session freed) { disk = Some (record was { inode = step.inode }) })
      (λ own same.
      Drove was req number work attempt status bytes driver step
      (subst (λ (k : ℕ). EndsWork input node so_far k req number work attempt status (Driving driver) bytes) (sym own) ends)
      (ap (λ (k : ℕ). (session_among k so_far.node.sessions).disk) own
      ∙ sym (same_view (λ (s : Session). s.disk) so_far.node.sessions session
      (record (session_in session so_far) { inode_queue = lines.queue_after_end (session_in session so_far).inode_queue work.work }) refl
      session) ∙ on) is
      (sym (same_Some (record was { inode = step.inode }) disk same)))
      (freed_from so_far session req work status so_far (from_itself so_far))
    where
      freed : StepState
      freed = without_ended_work session req work status so_far

  steps_from : (so_far : StepState) (session req : ℕ) (next : Outcome) (moved : StepState)
      → RequestSteps input node so_far session req next moved → From so_far moved
  steps_from so_far session req next moved (DiskBegins ask on there opened may) = begins_from session req ask on so_far opened
  steps_from so_far session req next moved (DiskGoesOn number work attempt status bytes driver was step ends on is) =
      drives_from so_far session req number work attempt status bytes driver was step ends on is
  steps_from so_far session req next moved (CommandBegins ask step arrival is) =
      command_from so_far session req step so_far
      (λ own opens.
      absurd (begins_so (OpensNone disk) (λ entry never. never) so_far.node.me session ask (inode_open (session_in session so_far).disk)
      step is
      opens)) (from_itself so_far)
  steps_from so_far session req next moved (CommandGoesOn number work attempt status bytes op step ends is) =
      command_from so_far session req step (without_ended_work session req work status so_far)
      (λ own opens.
      Opened (goes_opens disk op input node so_far q req number work attempt status bytes step
      (subst (λ (k : ℕ). EndsWork input node so_far k req number work attempt status (Commanding op) bytes) (sym own) ends) is opens))
      (freed_from so_far session req work status so_far (from_itself so_far))
  steps_from so_far session req next moved (CommandDecided entry op step from read there waits is) =
      command_from so_far session req step so_far
      (λ own opens.
      Opened (decided_opens disk op input node so_far q req (effects_of so_far.node.peer) (inode_open (session_in session so_far).disk)
      (decision_on entry node.peer) step
      (there ∙ ap (λ (k : ℕ). Some (record { session = k; course = Commanding op })) (sym own)) is opens)) (from_itself so_far)
  steps_from so_far session req next moved (CheckBegins inode arrival on) = sole_from session req so_far so_far (from_itself so_far)
  steps_from so_far session req next moved (CheckGoesOn number work attempt status bytes check step ends is) =
      sole_from session req so_far (without_ended_work session req work status so_far)
      (freed_from so_far session req work status so_far (from_itself so_far))
  steps_from so_far session req next moved (ObjectBegins asked arrival) = sole_from session req so_far so_far (from_itself so_far)
  steps_from so_far session req next moved (ObjectIsDone number work attempt status bytes asked ends) =
      freed_from so_far session req work status so_far (from_itself so_far)
  steps_from so_far session req next moved (EntryBegins entry arrival) = sole_from session req so_far so_far (from_itself so_far)
  steps_from so_far session req next moved (EntryDecided entry wanted from read there waits) = from_itself so_far

  pub disk_from : (so_far next : StepState) → Change input node so_far next → From so_far next
  disk_from so_far next change =
      change_holds (λ (requests : Requests) (sessions : Sessions). AreFrom so_far sessions) lined so_far
      (kept_by_steps (λ (requests : Requests) (sessions : Sessions). AreFrom so_far sessions) lined so_far (steps_from so_far)
      (ended_from so_far)
      (λ session req ask on arrival there. alike_from so_far so_far.node.sessions session _ refl (from_itself so_far)))
      (from_itself so_far) next change
    where
      lined : (requests : Requests) (sessions : Sessions) (number : ℕ) (queue : InodeQueue) → AreFrom so_far sessions
          → AreFrom so_far (tree.insert sessions number (record (session_among number sessions) { inode_queue = queue }))
      lined requests sessions number queue =
          alike_from so_far sessions number (record (session_among number sessions) { inode_queue = queue }) refl
