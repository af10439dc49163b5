-- How a request's step comes to a work, in the middle of a node's step: a read or write begins or goes on; or a command's work is done,
-- its entry is decided, or a check begins or goes on. Of the works of commands and checks only the creation of an inode and what an opening
-- writes back have entries of an inode's table. What is shown of each work that requests ask for goes by these cases.
use Rattle.std.proofs.Common.{◌≡◌, ◌≢◌, inl, inr, arith, ℕ, true, false, List, Option, Some, None, IfSome, refl, sym, ap, subst, ◌∙◌}
use Rattle.std.specs.FinMap as tree
use Rattle.std.proofs.lemmas.Option.{same_Some}
use Rattle.proof_tools.proofs.FiniteMaps.{get-insert_same}
use Rattle.object_id.specs.declared.entry.Entry.{Entry}
use Rattle.object_id.specs.declared.oid.Vid.{Vid}
use Rattle.inode.specs.Layout.{Content}
use Rattle.vdi_directory.specs.declared.effect.Effect.{Effect}
use Rattle.vdi_directory.specs.declared.header.Header.{Header}
use Rattle.peer_proto.specs.declared.guest.DiskAsk.{DiskAsk}
use Rattle.peer_proto.specs.declared.work.ObjWork.{ObjWork}
use Rattle.peer_service.specs.LogReading.{decision_on}
use Rattle.peer_service.specs.State.{effects_of}
use Rattle.gateway.specs.Attempt as gateways
use Rattle.gateway.specs.State.{Work}
use Rattle.gateway.specs.declared.message.Status.{Status}
use Rattle.guest_driver.specs.Driver.{Driver, DriverStep, begin_driver, driver_on_done}
use Rattle.guest_driver.specs.declared.act.DriverAct.{DriverAct}
use Rattle.guest_driver.specs.declared.act.DriverAct.TheVariants as acts
use Rattle.guest_driver.specs.declared.disk.Disk.{Disk}
use Rattle.vdi_ops.specs.declared.act.OpAct.{OpAct}
use Rattle.vdi_ops.specs.declared.act.OpAct.TheVariants as op_acts
use Rattle.vdi_ops.specs.InodeWorks.{create_inode, write_back}
use Rattle.vdi_ops.specs.Op.{Opening, Working, Op}
use Rattle.vdi_ops.specs.Tables.{table_in, inode_by}
use Rattle.vdi_ops.proofs.WorkLemmas.{field_text}
use Rattle.disk_check.specs.Check.{begin_check}
use Rattle.disk_check.specs.declared.act.CheckAct.{CheckAct}
use Rattle.disk_check.specs.declared.act.CheckAct.TheVariants as check_acts
use Rattle.sheep_node.specs.declared.ask.Ask.TheVariants as asks
use Rattle.sheep_node.specs.declared.course.Course.{Course}
use Rattle.sheep_node.specs.declared.course.Course.TheVariants.{Waiting, Driving, Commanding, Checking, DoingWork}
use Rattle.sheep_node.specs.declared.course.Request.{Request}
use Rattle.sheep_node.specs.declared.input.Input.{Input}
use Rattle.sheep_node.specs.declared.input.Input.TheVariants as inputs
use Rattle.sheep_node.specs.AwaitedEntry.{waits_for_entry}
use Rattle.sheep_node.specs.Changes.{EndsWork, Outcome, ToWork, ToReply, ToEntry, outcome_of_driver, outcome_of_command, outcome_of_check}
use Rattle.sheep_node.specs.Changes.{RequestSteps, DiskBegins, DiskGoesOn, CommandBegins, CommandGoesOn, CommandDecided, CheckBegins}
use Rattle.sheep_node.specs.Changes.{CheckGoesOn, ObjectBegins, ObjectIsDone, EntryBegins, EntryDecided}
use Rattle.sheep_node.specs.Courses.{inode_open}
use Rattle.sheep_node.specs.LogReading.{entry_read}
use Rattle.sheep_node.specs.SessionQueues.{session_among}
use Rattle.sheep_node.specs.SoundWorks.{IsSoundStage}
use Rattle.sheep_node.specs.State.{Node}
use Rattle.sheep_node.specs.StepState.{StepState, session_in}
use Rattle.sheep_node.proofs.ValidityChanges.{AnySent, course_valid, inode_valid}
use Rattle.overlap_law.proofs.KnownDisks.{IsKnownInode, known_validity}
use Rattle.overlap_law.proofs.KnownDrivers.{IsWorkOfStep, on_known, disk_before_end, driver_begins-of_step, driver_goes_on-of_step}
use Rattle.overlap_law.proofs.OtherWorks.{HasNone, tag_none, read_none, begins_with_entry, CreatesDisk, IsOfDecision, ReadsIt, CreatesIt}
use Rattle.overlap_law.proofs.OtherWorks.{idle_none}
use Rattle.overlap_law.proofs.OtherWorks.{TagsIt, IsOfTask, WritesBackOrCreates, decided_work, done_work, check_begins_none}
use Rattle.overlap_law.proofs.OtherWorks.{check_goes_none}
use Rattle.overlap_law.proofs.WholeSteps.{IsWellKnown}
use Rattle.gateway.specs.Work.{is_making}

-- ---- the work of an act

abbrev work_of : ObjWork → Outcome → ObjWork
work_of none (ToWork work) = work
work_of none (ToEntry entry) = none
work_of none (ToReply reply) = none

pub act_of : (act : DriverAct) (work : ObjWork) → outcome_of_driver act ≡ ToWork work → act ≡ acts.Work work
act_of (acts.Work one) work is = ap (λ (outcome : Outcome). acts.Work (work_of one outcome)) is
act_of (acts.Reply reply) work is = absurd (cc (is))

pub command_act : (act : OpAct) (work : ObjWork) → outcome_of_command act ≡ ToWork work → act ≡ op_acts.Work work
command_act (op_acts.Append entry) work is = absurd (cc (is))
command_act (op_acts.Work one) work is = ap (λ (outcome : Outcome). op_acts.Work (work_of one outcome)) is
command_act (op_acts.Reply reply) work is = absurd (cc (is))

pub check_act : (act : CheckAct) (work : ObjWork) → outcome_of_check act ≡ ToWork work → act ≡ check_acts.Work work
check_act (check_acts.Work one) work is = ap (λ (outcome : Outcome). check_acts.Work (work_of one outcome)) is
check_act (check_acts.Reply found) work is = absurd (cc (is))

-- ---- the cases

-- a request is no read or write
abbrev pub IsNotDriven : ℕ → ℕ → StepState → Type 0
IsNotDriven session req so_far = (driver : Driver)
    → tree.get so_far.node.requests req ≢ Some (record { session = session; course = Driving driver })

module _ (input : Input) (node : Node) (so_far : StepState) (session req : ℕ) (work : ObjWork) where
  -- a read or write begins, or goes on, by a step of its driver
  pub data IsDriven (step : DriverStep) : Type 0 where
    DriverBegins : (ask : DiskAsk) (disk : Disk)
        → tree.get so_far.node.requests req ≡ Some (record { session = session; course = Waiting ask })
        → (session_in session so_far).disk ≡ Some disk → begin_driver disk ask ≡ step → IsDriven step
    DriverGoesOn : (number : ℕ) (done : Work) (attempt : gateways.Attempt) (status : Status) (bytes : List ℕ) (driver : Driver)
        (disk : Disk) → EndsWork input node so_far session req number done attempt status (Driving driver) bytes
        → (session_among session so_far.node.sessions).disk ≡ Some disk → driver_on_done disk.inode bytes driver ≡ Some step
        → IsDriven step

  -- a command or a check comes to the work
  pub data IsOfOther : Type 0 where
    WithoutEntry : HasNone work → IsOfOther
    TaskCreates : (number : ℕ) (done : Work) (attempt : gateways.Attempt) (status : Status) (bytes : List ℕ) (op : Op)
        → EndsWork input node so_far session req number done attempt status (Commanding op) bytes
        → (inode : Content) → work ≡ create_inode inode → IsOfTask op bytes inode → IsOfOther
    TaskWritesBack : (number : ℕ) (done : Work) (attempt : gateways.Attempt) (status : Status) (bytes : List ℕ) (op : Op)
        → EndsWork input node so_far session req number done attempt status (Commanding op) bytes
        → (vid : Vid) (ids : List ℕ) (header : Header) → op.stage ≡ Working vid (Opening false ids header)
        → work ≡ write_back (inode_by header vid.0 (table_in ids header.spec bytes)) bytes → IsOfOther
    DecisionCreates : (entry : Entry) (op : Op) → input ≡ inputs.LogEntry entry → so_far.node.peer ≡ (entry_read entry node).peer
        → waits_for_entry entry (Commanding op) ≡ true
        → CreatesDisk (effects_of so_far.node.peer) (decision_on entry node.peer) op work → IsOfOther

  pub data ComesToWork (moved : StepState) : Type 0 where
    OfDriver : (step : DriverStep)
        → tree.get moved.node.requests req ≡ Some (record { session = session; course = Driving step.driver })
        → IsWorkOfStep step work → IsDriven step → ComesToWork moved
    OfOther : IsNotDriven session req moved → IsOfOther → ComesToWork moved

-- ---- each step

module _ {known : List Effect} {input : Input} {node : Node} (so_far : StepState) (knows : IsWellKnown known input node so_far)
    (none : (req session : ℕ) (work : ObjWork) → input ≡ inputs.Guest req session (asks.Object work) → is_making work ≡ false)
    (session req : ℕ) (work : ObjWork) where
  -- whose course is another than a driver's
  undriven : (moved : StepState) (course : Course)
      → tree.get moved.node.requests req ≡ Some (record { session = session; course = course })
      → ((driver : Driver) → course ≢ Driving driver) → IsNotDriven session req moved
  undriven moved course there apart driver is =
      apart driver (ap (λ (request : Request). request.course)
      (same_Some (record { session = session; course = course }) (record { session = session; course = Driving driver })
      (sym there ∙ is)))

  commanded : (moved : StepState) (op : Op)
      → tree.get moved.node.requests req ≡ Some (record { session = session; course = Commanding op })
      → IsOfOther input node so_far session req work → ComesToWork input node so_far session req work moved
  commanded moved op there other = OfOther (undriven moved (Commanding op) there (λ driver same. cc (same))) other

  done : (number : ℕ) (ended : Work) (attempt : gateways.Attempt) (status : Status) (bytes : List ℕ) (op : Op)
      → EndsWork input node so_far session req number ended attempt status (Commanding op) bytes → WritesBackOrCreates op work bytes
      → IsOfOther input node so_far session req work
  done number ended attempt status bytes op ends (inl (inode, same, of)) =
      TaskCreates number ended attempt status bytes op ends inode same of
  done number ended attempt status bytes op ends (inr (vid, ids, header, at, same)) =
      TaskWritesBack number ended attempt status bytes op ends vid ids header at same

  decided : (entry : Entry) (op : Op) → input ≡ inputs.LogEntry entry → so_far.node.peer ≡ (entry_read entry node).peer
      → tree.get so_far.node.requests req ≡ Some (record { session = session; course = Commanding op })
      → waits_for_entry entry (Commanding op) ≡ true
      → IsOfDecision (effects_of so_far.node.peer) (inode_open (session_in session so_far).disk) (decision_on entry node.peer) op work
      → IsOfOther input node so_far session req work
  decided entry op from read there waits (ReadsIt vid spec same) = WithoutEntry (subst HasNone (sym same) (read_none vid spec))
  decided entry op from read there waits (CreatesIt creates) = DecisionCreates entry op from read waits creates
  decided entry op from read there waits (TagsIt inode by of name tag opened at same) =
      let known_inode : IsKnownInode known inode
      = subst (λ (o : Option Content). IfSome o (IsKnownInode known)) opened
      (inode_valid (known_validity known) AnySent session so_far (on_known so_far knows)) in
      let sound = subst IsSoundStage at (knows.sound.courses req (record { session = session; course = Commanding op }) there) in
      let short = (field_text tag sound).0 in
      WithoutEntry (subst HasNone (sym same) (tag_none inode tag known_inode.disk.id (omega (arith, short))))

  by_step : (next : Outcome) (moved : StepState) → RequestSteps input node so_far session req next moved → next ≡ ToWork work
      → ComesToWork input node so_far session req work moved
  by_step next moved (DiskBegins ask disk there at may) to =
      let step : DriverStep = begin_driver disk ask in
      OfDriver step (get-insert_same so_far.node.requests req (record { session = session; course = Driving step.driver }))
      (driver_begins-of_step so_far knows session req work ask disk there at (act_of step.act work to))
      (DriverBegins ask disk there at refl)
  by_step next moved (DiskGoesOn number ended attempt status bytes driver disk step ends at goes) to =
      let opened = disk_before_end so_far knows session req ended status disk at in
      OfDriver step (get-insert_same so_far.node.requests req (record { session = session; course = Driving step.driver }))
      (driver_goes_on-of_step so_far knows session req work bytes driver disk step ends.ends.request opened goes
      (act_of step.act work to))
      (DriverGoesOn number ended attempt status bytes driver disk ends opened goes)
  by_step next moved (CommandBegins ask step arrival goes) to =
      absurd (begins_with_entry so_far.node.me session ask (inode_open (session_in session so_far).disk) step goes work
      (command_act step.act work to))
  by_step next moved (CommandGoesOn number ended attempt status bytes op step ends goes) to =
      commanded moved step.op
      (get-insert_same so_far.node.requests req (record { session = session; course = Commanding step.op }))
      (done number ended attempt status bytes op ends (done_work None op step work (command_act step.act work to) bytes goes))
  by_step next moved (CommandDecided entry op step from read there waits goes) to =
      commanded moved step.op
      (get-insert_same so_far.node.requests req (record { session = session; course = Commanding step.op }))
      (decided entry op from read there waits
      (decided_work (inode_open (session_in session so_far).disk) op step work (command_act step.act work to)
      (effects_of so_far.node.peer) (decision_on entry node.peer) goes))
  by_step next moved (CheckBegins inode arrival at) to = OfOther
      (undriven moved (Checking (begin_check inode).check)
      (get-insert_same so_far.node.requests req (record { session = session; course = Checking (begin_check inode).check }))
      (λ driver same. cc (same)))
      (WithoutEntry (check_begins_none inode work (check_act (begin_check inode).act work to)))
  by_step next moved (CheckGoesOn number ended attempt status bytes check step ends goes) to =
      let of_known = course_valid (known_validity known) AnySent session req (Checking check) so_far ends.ends.request
      (on_known so_far knows) in
      OfOther
      (undriven moved (Checking step.check)
      (get-insert_same so_far.node.requests req (record { session = session; course = Checking step.check }))
      (λ driver same. cc (same)))
      (WithoutEntry (check_goes_none bytes check step work goes (check_act step.act work to) of_known.disk.id of_known.within))
  by_step next moved (ObjectBegins one arrival) to =
      let same : one ≡ work = cc (to) in
      OfOther
      (undriven moved (DoingWork one)
      (get-insert_same so_far.node.requests req (record { session = session; course = DoingWork one }))
      (λ driver same. cc (same)))
      (WithoutEntry (subst HasNone same (idle_none one (none req session one arrival.from))))
  by_step next moved (ObjectIsDone number ended attempt status bytes one ends) to = absurd (cc (to))
  by_step next moved (EntryBegins entry arrival) to = absurd (cc (to))
  by_step next moved (EntryDecided entry awaited from read there waits) to = absurd (cc (to))

  pub comes_to_work : (moved : StepState) → RequestSteps input node so_far session req (ToWork work) moved
      → ComesToWork input node so_far session req work moved
  comes_to_work moved steps = by_step (ToWork work) moved steps refl

  -- so that of a request whose course is no driver's is a command's or a check's
  pub comes_to_other : (moved : StepState) → RequestSteps input node so_far session req (ToWork work) moved
      → IsNotDriven session req moved → IsOfOther input node so_far session req work
  comes_to_other moved steps apart = by_case (comes_to_work moved steps)
    where
      by_case : ComesToWork input node so_far session req work moved → IsOfOther input node so_far session req work
      by_case (OfDriver step there so how) = absurd (apart step.driver there)
      by_case (OfOther undriven other) = other
