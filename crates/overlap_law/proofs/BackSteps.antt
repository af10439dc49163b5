-- What writes an inode back, as its disk is opened, has the entries of the table that the session then has, over each change of a step: it
-- has them as it is asked for, where what was read is as it counts.
use Rattle.std.proofs.Common.{◌≡◌, ℕ, ◌<◌, Bool, true, false, List, Option, Some, None, refl, sym, ap, subst, ◌∙◌}
use Rattle.std.specs.FinMap as tree
use Rattle.std.proofs.lemmas.Option.{same_Some}
use Rattle.proof_tools.proofs.FiniteMaps.{get-insert_same}
use Rattle.object_id.specs.declared.oid.Vid.{Vid}
use Rattle.object_id.specs.Spec.{objects_of}
use Rattle.inode.specs.Layout.{Content}
use Rattle.peer_proto.specs.declared.work.ObjWork.{ObjWork}
use Rattle.peer_service.specs.State.{effects_of}
use Rattle.peer_service.specs.LogReading.{decision_on}
use Rattle.gateway.specs.Attempt.{Attempt}
use Rattle.gateway.specs.State.{Work}
use Rattle.gateway.specs.declared.message.Status.{Status}
use Rattle.guest_driver.specs.declared.disk.Disk.{Disk}
use Rattle.guest_driver.specs.Driver.{begin_driver}
use Rattle.disk_check.specs.Check.{begin_check}
use Rattle.vdi_directory.specs.Dead.{is_dead}
use Rattle.vdi_directory.specs.declared.effect.Effect.{Effect}
use Rattle.vdi_directory.specs.declared.header.Header.{Header}
use Rattle.vdi_ops.specs.InodeWorks.{write_back}
use Rattle.vdi_ops.specs.Op.{Op, OpStep, OpStage, Asked, Working, Publishing, Answered, disk_change}
use Rattle.vdi_ops.specs.Op.{Task, Opening, WritingBack, Tagging, Copying, Making}
use Rattle.vdi_ops.specs.Steps.{done_at, task_done, op_on_done}
use Rattle.vdi_ops.specs.Tables.{table_in, inode_by}
use Rattle.vdi_ops.specs.declared.act.OpAct.TheVariants as op_acts
use Rattle.sheep_node.specs.Changes.{IsSoundStep, Outcome, ToWork, ToEntry, ToReply, EndsWork}
use Rattle.sheep_node.specs.Changes.{without_ended_work, DiskBegins, DiskGoesOn, CommandBegins}
use Rattle.sheep_node.specs.Changes.{CommandGoesOn, CommandDecided, CheckBegins, CheckGoesOn, ObjectBegins, ObjectIsDone, EntryBegins}
use Rattle.sheep_node.specs.Changes.{EntryDecided, Change}
use Rattle.sheep_node.specs.Courses.{disk_after, inode_open}
use Rattle.sheep_node.specs.State.{Node}
use Rattle.sheep_node.specs.StepState.{StepState, session_in}
use Rattle.sheep_node.specs.declared.course.Course.{Course}
use Rattle.sheep_node.specs.declared.course.Course.TheVariants.{Driving, Commanding, Checking, DoingWork, AwaitingDecision}
use Rattle.sheep_node.specs.declared.course.Request.{Request}
use Rattle.sheep_node.specs.declared.input.Input.{Input}
use Rattle.sheep_node.proofs.OneWorkChanges.{StepHasOneWork, steps_free}
use Rattle.overlap_law.specs.OpenedTables.{GivesEntry}
use Rattle.overlap_law.proofs.CommandWorks.{command_act}
use Rattle.overlap_law.proofs.MakingStages.{IsNoneAtFirst, none_begins, none_decided}
use Rattle.overlap_law.proofs.WorksAtCourses.{IsAt, AtSoFar, IsOutcomeAt, StepsKeepAt, freed_at, moved_at, change_keeps_at}

-- a command is about to open a disk whose inode is written back
abbrev pub IsBackStage : OpStage → Type 0
IsBackStage stage = (vid : Vid) × (inode : Content) × (stage ≡ Working vid (WritingBack inode))

pub no_back : IsNoneAtFirst IsBackStage
no_back = record {
  asked = λ entry is. let same = is.2 in cc (same);
  answered = λ change is. let same = is.2 in cc (same);
  opening = λ vid snapshot ids header is. let same = is.2 in cc (same);
  tagging = λ vid old inode is. let same = is.2 in cc (same);
  copying = λ vid ids header is. let same = is.2 in cc (same);
  making = λ vid entry is. let same = is.2 in cc (same);
}

-- it read the inode just now
pub record HasRead (op : Op) (bytes : List ℕ) (step : OpStep) (vid : Vid) (inode : Content) : Type 0 where
  pub ids : List ℕ
  pub header : Header
  pub at : op.stage ≡ Working vid (Opening false ids header)
  pub same : inode_by header vid.0 (table_in ids header.spec bytes) ≡ inode
  pub act : step.act ≡ op_acts.Work (write_back (inode_by header vid.0 (table_in ids header.spec bytes)) bytes)

module _ (op : Op) (bytes : List ℕ) (step : OpStep) (vid : Vid) (inode : Content) where
  read_task : (of : Vid) (task : Task) → op.stage ≡ Working of task → task_done op of bytes task ≡ step
      → (task_done op of bytes task).op.stage ≡ Working vid (WritingBack inode) → HasRead op bytes step vid inode
  read_task of (Opening true ids header) at is stage = absurd (cc (stage))
  read_task of (Opening false ids header) at is stage =
      let id : of ≡ vid = cc (stage) in
      let same : inode_by header of.0 (table_in ids header.spec bytes) ≡ inode = cc (stage) in
      record {
        ids = ids;
        header = header;
        at = at ∙ ap (λ (v : Vid). Working v (Opening false ids header)) id;
        same = ap (λ (v : Vid). inode_by header v.0 (table_in ids header.spec bytes)) (sym id) ∙ same;
        act = ap (λ (s : OpStep). s.act) (sym is)
            ∙ ap (λ (v : Vid). op_acts.Work (write_back (inode_by header v.0 (table_in ids header.spec bytes)) bytes)) id;
      }
  read_task of (WritingBack other) at is stage = absurd (cc (stage))
  read_task of (Tagging old other) at is stage = absurd (cc (stage))
  read_task of (Copying ids header) at is stage = absurd (cc (stage))
  read_task of (Making entry made) at is stage = absurd (cc (stage))

  pub has_read : op_on_done bytes op ≡ Some step → step.op.stage ≡ Working vid (WritingBack inode) → HasRead op bytes step vid inode
  unfolding op_on_done
  has_read next stage = by_stage op.stage refl next
    where
      by_stage : (at : OpStage) → op.stage ≡ at → done_at bytes op at ≡ Some step → HasRead op bytes step vid inode
      by_stage (Asked entry) at next = absurd (cc (next))
      by_stage (Working of task) at next =
          let is : task_done op of bytes task ≡ step = same_Some (task_done op of bytes task) step next in
          read_task of task at is (ap (λ (s : OpStep). s.op.stage) is ∙ stage)
      by_stage (Publishing entry made) at next = absurd (cc (next))
      by_stage (Answered change) at next = absurd (cc (next))

-- ---- works

module _ (effects : List Effect) (good_id : ℕ → Bool) where
  -- a work that writes an inode back has the entries of its table
  abbrev pub IsBack : Option Disk → Course → ObjWork → Type 0
  IsBack disk course work = (op : Op) (vid : Vid) (inode : Content) (index : ℕ) → course ≡ Commanding op
      → op.stage ≡ Working vid (WritingBack inode) → good_id inode.vid ≡ true → is_dead effects inode.vid ≡ false
      → index < objects_of inode.spec → GivesEntry inode index work

  module _ (input : Input) (node : Node) (sound : IsSoundStep input node) where
    -- what was read is as it is to be written back
    abbrev pub ReadsAreWhole : StepState → Type 0
    ReadsAreWhole so_far = (session req number : ℕ) (work : Work) (attempt : Attempt) (status : Status) (op : Op) (bytes : List ℕ) (vid :
        Vid)
        (ids : List ℕ) (header : Header) (index : ℕ)
        → EndsWork input node so_far session req number work attempt status (Commanding op) bytes
        → op.stage ≡ Working vid (Opening false ids header) → good_id vid.0 ≡ true → is_dead effects vid.0 ≡ false
        → index < objects_of header.spec
        → GivesEntry (inode_by header vid.0 (table_in ids header.spec bytes)) index
        (write_back (inode_by header vid.0 (table_in ids header.spec bytes)) bytes)

    abbrev pub KnowsBack : StepState → Type 0
    KnowsBack so_far = StepHasOneWork so_far × ReadsAreWhole so_far

    outcome_at : (req session : ℕ) (course : Course) (next : Outcome) (moved : StepState)
        → tree.get moved.node.requests req ≡ Some (record { session = session; course = course })
        → ((work : ObjWork) → next ≡ ToWork work → IsBack None course work) → IsOutcomeAt IsBack req next moved
    outcome_at req session course (ToWork work) moved got is =
        subst (λ (o : Option Request). IsAt IsBack moved.node.sessions o work) (sym got) (is work refl)
    outcome_at req session course (ToEntry entry) moved got is = tt
    outcome_at req session course (ToReply reply) moved got is = tt

    -- a course that is no command
    no_command : (course : Course) → ((op : Op) → course ≡ Commanding op → ⊥) → (work : ObjWork) → IsBack None course work
    no_command course none work op vid inode index same at good lives inside = absurd (none op same)

    steps_back : StepsKeepAt IsBack input node KnowsBack
    steps_back so_far session req next moved (DiskBegins ask disk there on may) (knows, all) =
        let free = (steps_free so_far session req next moved (DiskBegins ask disk there on may) sound knows.0).free in
        let course : Course = Driving (begin_driver disk ask).driver in (
          moved_at IsBack req (record { session = session; course = course }) session
              (record (session_in session so_far) { disk = Some (record disk { inode = (begin_driver disk ask).inode }) }) so_far free refl
              (λ q other work is. is) all,
          outcome_at req session course next moved
              (get-insert_same so_far.node.requests req (record { session = session; course = course }))
              (λ work to. no_command course (λ op same. cc (same)) work),
        )
    steps_back so_far session req next moved (DiskGoesOn number work attempt status bytes driver disk step ends on is) (knows, all) =
        let freed : StepState = without_ended_work session req work status so_far in
        let free = (steps_free so_far session req next moved
        (DiskGoesOn number work attempt status bytes driver disk step ends on is) sound knows.0).free in
        let course : Course = Driving step.driver in (
          moved_at IsBack req (record { session = session; course = course }) session
              (record (session_in session freed) { disk = Some (record disk { inode = step.inode }) }) freed free refl
              (λ q other work is. is) (freed_at IsBack session req work status so_far all),
          outcome_at req session course next moved
              (get-insert_same so_far.node.requests req (record { session = session; course = course }))
              (λ work to. no_command course (λ op same. cc (same)) work),
        )
    steps_back so_far session req next moved (CommandBegins ask step arrival is) (knows, all) =
        let free = (steps_free so_far session req next moved (CommandBegins ask step arrival is) sound knows.0).free in
        let course : Course = Commanding step.op in (
          moved_at IsBack req (record { session = session; course = course }) session (record (session_in session so_far) {
            disk = disk_after (disk_change step) (session_in session so_far).disk;
            command = Some req;
          }) so_far free refl (λ q other work is. is) all,
          outcome_at req session course next moved
              (get-insert_same so_far.node.requests req (record { session = session; course = course }))
              (λ work to op vid inode index same at good lives inside.
              let one : step.op ≡ op = cc (same) in
              absurd (none_begins IsBackStage no_back so_far.node.me session ask (inode_open (session_in session so_far).disk) step is
              (vid, inode, ap (λ (o : Op). o.stage) one ∙ at))),
        )
    steps_back so_far session req next moved (CommandGoesOn number work attempt status bytes op step ends is) (knows, all) =
        let freed : StepState = without_ended_work session req work status so_far in
        let free = (steps_free so_far session req next moved
        (CommandGoesOn number work attempt status bytes op step ends is) sound knows.0).free in
        let course : Course = Commanding step.op in (
          moved_at IsBack req (record { session = session; course = course }) session (record (session_in session freed) {
            disk = disk_after (disk_change step) (session_in session freed).disk;
            command = Some req;
          }) freed free refl (λ q other work is. is) (freed_at IsBack session req work status so_far all),
          outcome_at req session course next moved
              (get-insert_same so_far.node.requests req (record { session = session; course = course }))
              (λ asked to other vid inode index same at good lives inside.
              let one : step.op ≡ other = cc (same) in
              let r = has_read op bytes step vid inode is (ap (λ (o : Op). o.stage) one ∙ at) in
              let acts : op_acts.Work asked
              ≡ op_acts.Work (write_back (inode_by r.header vid.0 (table_in r.ids r.header.spec bytes)) bytes)
              = sym (command_act step.act asked to) ∙ r.act in
              let work_so : asked ≡ write_back (inode_by r.header vid.0 (table_in r.ids r.header.spec bytes)) bytes = cc (acts) in
              subst (λ (i : Content). GivesEntry i index asked) r.same
              (subst (GivesEntry (inode_by r.header vid.0 (table_in r.ids r.header.spec bytes)) index) (sym work_so)
              (knows.1 session req number work attempt status op bytes vid r.ids r.header index ends r.at
              (ap (λ (i : Content). good_id i.vid) r.same ∙ good) (ap (λ (i : Content). is_dead effects i.vid) r.same ∙ lives)
              (subst (λ (i : Content). index < objects_of i.spec) (sym r.same) inside)))),
        )
    steps_back so_far session req next moved (CommandDecided entry op step from read there waits is) (knows, all) =
        let free = (steps_free so_far session req next moved (CommandDecided entry op step from read there waits is) sound knows.0).free in
        let course : Course = Commanding step.op in (
          moved_at IsBack req (record { session = session; course = course }) session (record (session_in session so_far) {
            disk = disk_after (disk_change step) (session_in session so_far).disk;
            command = Some req;
          }) so_far free refl (λ q other work is. is) all,
          outcome_at req session course next moved
              (get-insert_same so_far.node.requests req (record { session = session; course = course }))
              (λ work to other vid inode index same at good lives inside.
              let one : step.op ≡ other = cc (same) in
              absurd (none_decided IsBackStage no_back op (effects_of so_far.node.peer) (inode_open (session_in session so_far).disk)
              (decision_on entry node.peer) step is (vid, inode, ap (λ (o : Op). o.stage) one ∙ at))),
        )
    steps_back so_far session req next moved (CheckBegins inode arrival on) (knows, all) =
        let free = (steps_free so_far session req next moved (CheckBegins inode arrival on) sound knows.0).free in
        let course : Course = Checking (begin_check inode).check in (
          moved_at IsBack req (record { session = session; course = course }) session (record (session_in session so_far) {
            command = Some
                req;
          })
              so_far free refl (λ q other work is. is) all,
          outcome_at req session course next moved
              (get-insert_same so_far.node.requests req (record { session = session; course = course }))
              (λ work to. no_command course (λ op same. cc (same)) work),
        )
    steps_back so_far session req next moved (CheckGoesOn number work attempt status bytes check step ends is) (knows, all) =
        let freed : StepState = without_ended_work session req work status so_far in
        let free = (steps_free so_far session req next moved
        (CheckGoesOn number work attempt status bytes check step ends is) sound knows.0).free in
        let course : Course = Checking step.check in (
          moved_at IsBack req (record { session = session; course = course }) session (record (session_in session freed) {
            command = Some
                req;
          })
              freed free refl (λ q other work is. is) (freed_at IsBack session req work status so_far all),
          outcome_at req session course next moved
              (get-insert_same so_far.node.requests req (record { session = session; course = course }))
              (λ work to. no_command course (λ op same. cc (same)) work),
        )
    steps_back so_far session req next moved (ObjectBegins asked arrival) (knows, all) =
        let free = (steps_free so_far session req next moved (ObjectBegins asked arrival) sound knows.0).free in
        let course : Course = DoingWork asked in (
          moved_at IsBack req (record { session = session; course = course }) session (record (session_in session so_far) {
            command = Some
                req;
          })
              so_far free refl (λ q other work is. is) all,
          outcome_at req session course next moved
              (get-insert_same so_far.node.requests req (record { session = session; course = course }))
              (λ work to. no_command course (λ op same. cc (same)) work),
        )
    steps_back so_far session req next moved (ObjectIsDone number work attempt status bytes asked ends) (knows, all) =
        (freed_at IsBack session req work status so_far all, tt)
    steps_back so_far session req next moved (EntryBegins entry arrival) (knows, all) =
        let free = (steps_free so_far session req next moved (EntryBegins entry arrival) sound knows.0).free in
        let course : Course = AwaitingDecision entry in (
          moved_at IsBack req (record { session = session; course = course }) session (record (session_in session so_far) {
            command = Some
                req;
          })
              so_far free refl (λ q other work is. is) all,
          tt,
        )
    steps_back so_far session req next moved (EntryDecided entry wanted from read there waits) (knows, all) = (all, tt)

    pub change_back : (so_far next : StepState) → Change input node so_far next → KnowsBack so_far → AtSoFar IsBack so_far
        → AtSoFar IsBack next
    change_back so_far next change knows all =
        change_keeps_at IsBack sound KnowsBack (λ now knows. knows.0) steps_back so_far next change (knows, all)
