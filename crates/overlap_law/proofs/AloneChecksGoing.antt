-- In the middle of a step: how a check goes on, to which works it comes, and that its session keeps its disk.
use Rattle.std.proofs.Common.{◌≡◌, ◌⊎◌, inl, inr, ⊎_elim, ℕ, ◌<◌, false, List, [], ◌∷◌, ◌++◌, Contains, Some, refl, sym, ap, subst}
use Rattle.std.proofs.Common.{◌^◌, None, length, true}
use Rattle.std.proofs.Common.{◌∙◌, arith}
use Rattle.std.specs.List.Sorted.{IsStrictlyIncreasing}
use Rattle.std.specs.FinMap as tree
use Rattle.std.proofs.lemmas.Option.{same_Some}
use Rattle.proof_tools.proofs.FiniteMaps.{get-insert_same}
use Rattle.object_id.specs.declared.limits.TheConstants.{OBJECTS_MAX}
use Rattle.object_id.specs.Oid.{IsVid}
use Rattle.object_id.specs.Spec.{IsSpec}
use Rattle.cluster_script.specs.declared.statement.Statement.{Statement}
use Rattle.disk_check.specs.Check.{Check, CheckStage, CheckStep, Comparing, WritingBack, Answered, check_done_at, check_on_done, left_of}
use Rattle.disk_check.specs.Check.{read_copies, write_value}
use Rattle.disk_check.specs.Value.{pieces_in, value_of}
use Rattle.disk_check.proofs.TableLemmas.{own_indexes-ascend}
use Rattle.peer_proto.specs.declared.guest.GuestRsp.TheVariants.{Checked}
use Rattle.peer_proto.specs.Work.{oid_of}
use Rattle.peer_proto.specs.declared.work.ObjWork.{ObjWork}
use Rattle.gateway.specs.Attempt as gateways
use Rattle.gateway.specs.State.{Work}
use Rattle.gateway.specs.Work.{is_making}
use Rattle.gateway.specs.declared.message.Status.{Status}
use Rattle.guest_driver.specs.declared.disk.Disk.{Disk}
use Rattle.sheep_node.specs.declared.ask.Ask.{Ask}
use Rattle.sheep_node.specs.declared.course.Course.{Course}
use Rattle.sheep_node.specs.declared.course.Course.TheVariants.{Waiting, Driving, Commanding, Checking}
use Rattle.sheep_node.specs.declared.course.Request.{Request}
use Rattle.sheep_node.specs.declared.input.Input.{Input}
use Rattle.sheep_node.specs.declared.input.Input.TheVariants as inputs
use Rattle.sheep_node.specs.Changes.{Arrival, EndsWork, HasRequest, IsTold, Outcome, ToWork, ToReply, RequestSteps, DiskBegins, DiskGoesOn}
use Rattle.sheep_node.specs.Changes.{CommandBegins, CommandGoesOn, CommandDecided, CheckBegins, CheckGoesOn, ObjectBegins, ObjectIsDone}
use Rattle.sheep_node.specs.Changes.{EntryBegins, EntryDecided, outcome_of_check}
use Rattle.sheep_node.specs.CheckWrites.{check_write_on, write_of_value}
use Rattle.sheep_node.specs.SessionQueues.{session_among}
use Rattle.sheep_node.specs.StepState.{StepState}
use Rattle.sheep_node.specs.WantedWorks.{HasWork, IsWorkOfCheck}
use Rattle.sheep_world.specs.Began.{Began}
use Rattle.sheep_world.specs.NodeCauses.{input_of_cause, host_with_node}
use Rattle.sheep_world.specs.RunsWithAsks.{Move}
use Rattle.overlap_law.specs.AloneChecksWritten.{MakesOnly, whole_object}
use Rattle.overlap_law.specs.MomentChanges.{MomentTrail, RunsAreInRange}
use Rattle.overlap_law.specs.OpenedTables.{OpensNow, ByWork, ByEntry, ReadsIt, WroteIt}
use Rattle.overlap_law.specs.Past.{MomentWithPast, run_with_past}
use Rattle.overlap_law.specs.RequestsOfScript.{IsCheckOf, indexes_left}
use Rattle.overlap_law.specs.StepMoments.{SteppingNode, IsStepping, StepsByChanges, IsWithinStep, moment_in_step}
use Rattle.overlap_law.specs.WrittenPieces.{HasPiece, IsWrittenAlone}
use Rattle.overlap_law.proofs.AheadOfChecks.{left_ascends}
use Rattle.overlap_law.proofs.AloneChecksFrames.{check_wants}
use Rattle.overlap_law.proofs.AloneChecksValues.{value_has}
use Rattle.overlap_law.proofs.AloneItemsInSteps.{course_in_step}
use Rattle.overlap_law.proofs.CausedWorks.{HasWellWorks, by_changes}
use Rattle.overlap_law.proofs.CheckedMoments as begun_values
use Rattle.overlap_law.proofs.CheckedSteps.{comes_now}
use Rattle.overlap_law.proofs.DisksAfter.{DiskAfter, Stayed, Drove, Opened, disk_from}
use Rattle.overlap_law.proofs.EntryWorks.{known_disk}
use Rattle.overlap_law.proofs.KnownSteps.{known_step}
use Rattle.overlap_law.proofs.NoRecoveredDue.{began-with_past}
use Rattle.overlap_law.proofs.WorksCome.{ComesNow, works_come}
use Rattle.overlap_law.proofs.WorksInMoments.{well_along}
use Rattle.overlap_law.proofs.WrittenAlone.{done_so}
use Rattle.overlap_law.proofs.CoursesOfAsks.{course_none}
use Rattle.overlap_law.proofs.CoursesOfScript.{asked_by}

-- ---- how a check goes on

-- from the comparison of an object to the write of its value, or from that to the next object, or to its answer
pub data CheckGoes (check then : Check) : Type 0 where
  ToWriting : (index : ℕ) (later : List ℕ) → check.stage ≡ Comparing index later → then.stage ≡ WritingBack later → CheckGoes check then
  ToNext : (later : List ℕ) → check.stage ≡ WritingBack later → left_of then.stage ≡ later
      → ((behind : List ℕ) → then.stage ≡ WritingBack behind → ⊥) → CheckGoes check then

pub check_goes : (bytes : List ℕ) (check : Check) (step : CheckStep) → check_on_done bytes check ≡ Some step → CheckGoes check step.check
unfolding check_on_done
check_goes bytes check step is = by_stage check.stage refl is
  where
    by_stage : (stage : CheckStage) → check.stage ≡ stage → check_done_at bytes check stage ≡ Some step → CheckGoes check step.check
    by_stage (Comparing index later) at is =
        subst (λ (s : CheckStep). CheckGoes check s.check) (same_Some _ step is) (ToWriting index later at refl)
    by_stage (WritingBack []) at is =
        subst (λ (s : CheckStep). CheckGoes check s.check) (same_Some _ step is) (ToNext [] at refl (λ behind same. cc (same)))
    by_stage (WritingBack (index ∷ later)) at is =
        subst (λ (s : CheckStep). CheckGoes check s.check) (same_Some _ step is)
        (ToNext (index ∷ later) at refl (λ behind same. cc (same)))
    by_stage Answered at is = absurd (cc (is))

module _ (script : List Statement) (range : RunsAreInRange script) (events : List Move) (start : MomentWithPast)
    (ran : run_with_past script events ≡ Some start) (on : SteppingNode) (is : IsStepping script start.world on)
    (by : StepsByChanges on.cause) (so_far next : StepState) (within : IsWithinStep on so_far next)
    (trail : MomentTrail script start (moment_in_step script on start so_far)) (req session : ℕ) (check : Check)
    (had : tree.get so_far.node.requests req ≡ Some (record { session = session; course = Checking check })) where
  abbrev its : Request
  its = record { session = session; course = Checking check }

  began : Began script start.world
  began = began-with_past script events start ran

  well : HasWellWorks so_far.node
  well =
      well_along script range start began trail on.n (host_with_node on.host so_far.node)
      (get-insert_same start.world.hosts on.n (host_with_node on.host so_far.node))

  same_course : (number : ℕ) (course : Course) → HasRequest number req course so_far → Checking check ≡ course
  same_course number course got =
      let other : Request = record { session = number; course = course } in
      ap (λ (r : Request). r.course) (same_Some its other (sym had ∙ got))

  -- it hasn't just arrived
  not_arrived : (number : ℕ) (ask : Ask) → Arrival (input_of_cause on.cause) on.host.node so_far number req ask None → ⊥
  not_arrived number ask arrival =
      let none = arrival.none (known_step script range start.world began on is).sound in
      cc (none, had)

  -- ---- to which works it comes

  -- to the write of the value of the object that it compares
  pub record IsNowWritten (work : ObjWork) : Type 0 where
    pub index : ℕ
    pub later : List ℕ
    pub value : List ℕ
    pub stage : check.stage ≡ Comparing index later
    pub same : work ≡ write_value check index value
    pub comes : check_write_on (input_of_cause on.cause) on.host.node ≡ Some (write_of_value req check (index, value))

  -- or to one that makes nothing
  abbrev ComesTo : ObjWork → Type 0
  ComesTo work = (is_making work ≡ false) ⊎ IsNowWritten work

  module _ (number k : ℕ) (work : Work) (attempt : gateways.Attempt) (status : Status) (bytes : List ℕ)
      (ends : EndsWork (input_of_cause on.cause) on.host.node so_far number req k work attempt status (Checking check) bytes) where
    comes_to : (index : ℕ) (later : List ℕ) → check.stage ≡ Comparing index later
        → check_write_on (input_of_cause on.cause) on.host.node
        ≡ Some (write_of_value req check (index, value_of check.spec.policy (pieces_in check.spec bytes)))
    comes_to index later at = ⊎_elim
        (λ (old : (was : Request) × (tree.get on.host.node.requests req ≡ Some was)).
        comes_now script range start.world began on.n on.host is.there is.up on.cause (by_changes on.cause by) is.caused req
        (begun_values.checks_so script range start.world began on.n on.host is.there is.up on.cause (by_changes on.cause by) is.caused
        so_far within.leads req session check had) old.0 old.1 so_far within.leads number k work attempt status bytes check ends index
        later at)
        (λ (new : (from : ℕ) × (ask : Ask) × (input_of_cause on.cause ≡ inputs.Guest req from ask)).
        absurd (subst (λ (i : Input). IsTold i k status) new.2 ends.ends.learns.told))
        (begun_values.here script range start.world began on.n on.host is.there is.up on.cause (by_changes on.cause by) is.caused so_far
        within.leads req session check had)

    goes_to : (step : CheckStep) → check_on_done bytes check ≡ Some step → (what : ObjWork) → outcome_of_check step.act ≡ ToWork what
        → ComesTo what
    unfolding check_on_done
    goes_to step goes what to = by_stage check.stage refl goes
      where
        acts : (made : CheckStep) → Some made ≡ Some step → outcome_of_check made.act ≡ ToWork what
        acts made so = ap (λ (s : CheckStep). outcome_of_check s.act) (same_Some made step so) ∙ to

        by_stage : (stage : CheckStage) → check.stage ≡ stage → check_done_at bytes check stage ≡ Some step → ComesTo what
        by_stage (Comparing index later) at goes =
            let both : ToWork (write_value check index (value_of check.spec.policy (pieces_in check.spec bytes))) ≡ ToWork what
            = acts _ goes in
            let same : write_value check index (value_of check.spec.policy (pieces_in check.spec bytes)) ≡ what = cc (both) in
            inr (record {
              index = index;
              later = later;
              value = value_of check.spec.policy (pieces_in check.spec bytes);
              stage = at;
              same = sym same;
              comes = comes_to index later at;
            })
        by_stage (WritingBack []) at goes =
            let both : ToReply (Checked check.found) ≡ ToWork what = acts _ goes in
            absurd (cc (both))
        by_stage (WritingBack (index ∷ later)) at goes =
            let both : ToWork (read_copies check index) ≡ ToWork what = acts _ goes in
            let same : read_copies check index ≡ what = cc (both) in
            inl (ap is_making (sym same))
        by_stage Answered at goes = absurd (cc (goes))

  by_steps : (number : ℕ) (outcome : Outcome) (moved : StepState) (what : ObjWork)
      → RequestSteps (input_of_cause on.cause) on.host.node so_far number req outcome moved → outcome ≡ ToWork what → ComesTo what
  by_steps number outcome moved what (DiskBegins ask disk got on_disk may) to =
      let same = same_course number (Waiting ask) got in absurd (cc (same))
  by_steps number outcome moved what (DiskGoesOn k work attempt status bytes driver disk step ends on_disk goes) to =
      let same = same_course number (Driving driver) ends.ends.request in absurd (cc (same))
  by_steps number outcome moved what (CommandBegins ask step arrival goes) to = absurd (not_arrived number _ arrival)
  by_steps number outcome moved what (CommandGoesOn k work attempt status bytes op step ends goes) to =
      let same = same_course number (Commanding op) ends.ends.request in absurd (cc (same))
  by_steps number outcome moved what (CommandDecided entry op step from read got waits goes) to =
      let same = same_course number (Commanding op) got in absurd (cc (same))
  by_steps number outcome moved what (CheckBegins inode arrival on_disk) to = absurd (not_arrived number _ arrival)
  by_steps number outcome moved what (CheckGoesOn k work attempt status bytes other step ends goes) to =
      let course = same_course number (Checking other) ends.ends.request in
      let own : other ≡ check = cc (course) in
      goes_to number k work attempt status bytes
      (subst (λ (c : Check). EndsWork (input_of_cause on.cause) on.host.node so_far number req k work attempt status (Checking c) bytes) own
      ends) step (ap (check_on_done bytes) (sym own) ∙ goes) what to
  by_steps number outcome moved what (ObjectBegins asked arrival) to = absurd (not_arrived number _ arrival)
  by_steps number outcome moved what (ObjectIsDone k work attempt status bytes asked ends) to = absurd (cc (to))
  by_steps number outcome moved what (EntryBegins entry arrival) to = absurd (cc (to))
  by_steps number outcome moved what (EntryDecided entry wanted from read got waits) to = absurd (cc (to))

  -- what it has to do behind the change it had, or comes to
  pub works_now : (work : ObjWork) → HasWork req work next.node.gateway.works next.node.sessions
      → HasWork req work so_far.node.gateway.works so_far.node.sessions ⊎ ((is_making work ≡ false) ⊎ IsNowWritten work)
  works_now work has = ⊎_elim
      (λ (old : HasWork req work so_far.node.gateway.works so_far.node.sessions). inl old)
      (λ (new : ComesNow (input_of_cause on.cause) on.host.node so_far req work).
      inr (by_steps new.session (ToWork work) new.moved work new.steps refl))
      (works_come (input_of_cause on.cause) on.host.node so_far next within.change req work has)

  -- ---- its disk

  none_other : (q : ℕ) (course : Course) → tree.get so_far.node.requests q ≡ Some (record { session = session; course = course })
      → Checking check ≡ course
  none_other q course got =
      let other : Request = record { session = session; course = course } in
      let same : req ≡ q = sym (well.alone.alone session req q other (well.alone.named req its had refl) got refl) in
      ap (λ (r : Request). r.course) (same_Some its other (sym had ∙ ap (tree.get so_far.node.requests) same ∙ got))

  pub keeps_disk : (opened : Disk) → (session_among session next.node.sessions).disk ≡ Some opened
      → (session_among session so_far.node.sessions).disk ≡ Some opened
  keeps_disk opened at =
      by_origin (disk_from session opened (input_of_cause on.cause) on.host.node so_far next within.change at)
    where
      opens_none : OpensNow (input_of_cause on.cause) on.host.node so_far session opened → ⊥
      opens_none (ByWork (ReadsIt q k work current status bytes op vid ids header ends stage same)) =
          let course = none_other q (Commanding op) ends.ends.request in cc (course)
      opens_none (ByWork (WroteIt q k work current status bytes op vid inode ends stage same)) =
          let course = none_other q (Commanding op) ends.ends.request in cc (course)
      opens_none (ByEntry q op entry inode there_too stage same) = let course = none_other q (Commanding op) there_too in cc (course)

      by_origin : DiskAfter (input_of_cause on.cause) on.host.node so_far session opened
          → (session_among session so_far.node.sessions).disk ≡ Some opened
      by_origin (Stayed same) = same
      by_origin (Drove found q k work current status bytes driver step ends on_disk goes then) =
          let course = none_other q (Driving driver) ends.ends.request in absurd (cc (course))
      by_origin (Opened now_open) = absurd (opens_none now_open)

  -- it is at an own object of the disk
  pub of_disk : (opened : Disk) → (session_among session so_far.node.sessions).disk ≡ Some opened → IsCheckOf opened check
  of_disk opened at =
      let (disk, course) = course_in_step script range events start ran on is by so_far within.leads req its had
      (course_none (asked_by script req) (Checking check) refl) in
      subst (λ (d : Disk). IsCheckOf d check) (same_Some course.on.disk opened (sym course.on.there ∙ at)) course.is

  -- which those left come behind
  pub not_later : (opened : Disk) → (session_among session so_far.node.sessions).disk ≡ Some opened → (index : ℕ) (later : List ℕ)
      → check.stage ≡ Comparing index later → Contains later index → ⊥
  not_later opened at index later stage among =
      let of = of_disk opened at in
      let all : IsStrictlyIncreasing (of.before ++ indexes_left check.stage)
      = subst IsStrictlyIncreasing (sym of.indexes) (own_indexes-ascend opened.inode) in
      let left : IsStrictlyIncreasing (of.before ++ index ∷ later)
      = subst (λ (s : CheckStage). IsStrictlyIncreasing (of.before ++ indexes_left s)) stage all in
      let less : index < index = left_ascends of.before index later left index among in
      omega (arith, less)

  -- ---- its value is written

  -- where the write of a value is done, the last attempt on the object wrote it
  pub value_done : (number k : ℕ) (work : Work) (attempt : gateways.Attempt) (status : Status) (bytes : List ℕ)
      → EndsWork (input_of_cause on.cause) on.host.node so_far number req k work attempt status (Checking check) bytes → (opened : Disk)
      → (session_among session so_far.node.sessions).disk ≡ Some opened → (rest : List ℕ) → check.stage ≡ WritingBack rest
      → (index : ℕ) (value : List ℕ) → index < OBJECTS_MAX → check.vid ≡ opened.inode.vid → check.spec ≡ opened.inode.spec
      → length value ≡ 2 ^ check.spec.shift → MakesOnly so_far.node req check index value
      → IsWrittenAlone (moment_in_step script on start so_far).past.attempts check.vid value (whole_object check.spec index)
  value_done number k work attempt status bytes ends opened at rest stage index value few vid spec long only =
      let known = (known_disk so_far.node well session opened at).disk in
      let has : HasWork req work.work so_far.node.gateway.works so_far.node.sessions = inl (work, ends.ends.learns.there, refl) in
      let (i, written, writes) = subst (λ (s : CheckStage). IsWorkOfCheck check s work.work) stage
      (check_wants so_far.node well req its had check refl work.work has) in
      let making : is_making work.work ≡ true = ap is_making writes in
      let what : work.work ≡ write_value check index value = only work.work has making in
      done_so script range events start ran on is by so_far within.leads trail req k work attempt status ends.ends.learns ends.done making
      check.vid value (whole_object check.spec index) (ap oid_of what)
      (subst (λ (w : ObjWork). HasPiece w value (whole_object check.spec index)) (sym what)
      (value_has check index value (subst IsVid (sym vid) known.id) (subst IsSpec (sym spec) known.spec_valid) few long))
