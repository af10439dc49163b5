-- What checks have begun to write stays being written, or written by the last attempts on its objects, as a node goes on in its step.
use Rattle.std.proofs.Common.{◌≡◌, ◌⊎◌, ⊎_elim, ℕ, ◌<◌, true, false, List, ◌∷◌, Contains, Some}
use Rattle.std.proofs.Common.{◌^◌, length}
use Rattle.std.proofs.Common.{refl, sym, ap, subst, ◌∙◌, arith}
use Rattle.std.specs.FinMap as tree
use Rattle.std.proofs.lemmas.Option.{same_Some}
use Rattle.proof_tools.proofs.FiniteMaps.{get-insert_same}
use Rattle.proof_tools.proofs.Lists.{Contains-cons}
use Rattle.object_id.specs.declared.limits.TheConstants.{OBJECTS_MAX}
use Rattle.object_id.specs.Oid.{object_number}
use Rattle.cluster_script.specs.declared.statement.Statement.{Statement}
use Rattle.disk_check.specs.Check.{Check, CheckStage, CheckStep, Comparing, WritingBack, Answered, left_of, read_copies, write_value}
use Rattle.disk_check.specs.Check.{check_on_done}
use Rattle.peer_proto.specs.Work.{oid_of}
use Rattle.peer_proto.specs.declared.work.ObjWork.{ObjWork}
use Rattle.gateway.specs.Attempt as gateways
use Rattle.gateway.specs.State.{Work}
use Rattle.gateway.specs.Work.{is_making}
use Rattle.gateway.specs.declared.message.Status.{Status}
use Rattle.guest_driver.specs.declared.disk.Disk.{Disk}
use Rattle.sheep_node.specs.declared.check_write.CheckWrite.{CheckWrite}
use Rattle.sheep_node.specs.declared.course.Course.TheVariants.{Checking}
use Rattle.sheep_node.specs.declared.course.Request.{Request}
use Rattle.sheep_node.specs.Changes.{EndsWork}
use Rattle.sheep_node.specs.CheckWrites.{check_write_on, write_of_value}
use Rattle.sheep_node.specs.SessionQueues.{session_among}
use Rattle.sheep_node.specs.StepState.{StepState}
use Rattle.sheep_node.specs.WantedWorks.{HasWork, IsWorkOfCheck}
use Rattle.sheep_world.specs.Began.{Began}
use Rattle.sheep_world.specs.NodeCauses.{input_of_cause, host_with_node}
use Rattle.sheep_world.specs.World.{Host}
use Rattle.sheep_world.specs.RunsWithAsks.{Move}
use Rattle.overlap_law.specs.AloneChecksWritten.{IsWritten, MakesNone, MakesOnly, whole_object}
use Rattle.overlap_law.specs.AloneChecksWritten.{WillBeWritten, IsBeingWritten, WasWritten}
use Rattle.overlap_law.specs.MomentChanges as moments
use Rattle.overlap_law.specs.MomentChanges.{MomentChange, MomentTrail, RunsAreInRange}
use Rattle.overlap_law.specs.Past.{MomentWithPast, run_with_past}
use Rattle.overlap_law.specs.StepMoments.{SteppingNode, IsStepping, StepsByChanges, IsWithinStep, moment_in_step}
use Rattle.overlap_law.specs.WrittenPieces.{IsWrittenAlone}
use Rattle.overlap_law.proofs.AloneChecksFrames.{alone_same, check_wants, still_alone, write_same}
use Rattle.overlap_law.proofs.AloneChecksGoing.{CheckGoes, ToWriting, ToNext, IsNowWritten, not_later}
use Rattle.overlap_law.proofs.AloneChecksGoing.{value_done, works_now}
use Rattle.overlap_law.proofs.AnswersInMoments.{not_lost}
use Rattle.overlap_law.proofs.CausedWorks.{HasWellWorks}
use Rattle.overlap_law.proofs.CheckedSteps.{IsSameDisk, goes_on-same}
use Rattle.overlap_law.proofs.NoRecoveredDue.{began-with_past}
use Rattle.overlap_law.proofs.WorksInMoments.{well_along}

-- the check of a request at a node comes to the write of a value over the object of an index, as that node steps
pub record ComesBy (on : SteppingNode) (n req index : ℕ) (value : List ℕ) : Type 0 where
  pub here : n ≡ on.n
  pub write : CheckWrite
  pub comes : check_write_on (input_of_cause on.cause) on.host.node ≡ Some write
  pub own : write.req ≡ req
  pub place : write.index ≡ index
  pub what : write.value ≡ value

module _ (script : List Statement) (range : RunsAreInRange script) (events : List Move) (start : MomentWithPast)
    (ran : run_with_past script events ≡ Some start) (on : SteppingNode) (is : IsStepping script start.world on)
    (by : StepsByChanges on.cause) (so_far next : StepState) (within : IsWithinStep on so_far next)
    (trail : MomentTrail script start (moment_in_step script on start so_far)) where
  abbrev here : MomentWithPast
  here = moment_in_step script on start so_far

  abbrev later : MomentWithPast
  later = moment_in_step script on start next

  change : MomentChange script start (moment_in_step script on start so_far) (moment_in_step script on start next)
  change = moments.StepGoesOn on so_far next is by within

  began : Began script start.world
  began = began-with_past script events start ran

  abbrev was : Host
  was = host_with_node on.host so_far.node

  abbrev now : Host
  now = host_with_node on.host next.node

  was_there : tree.get (moment_in_step script on start so_far).world.hosts on.n ≡ Some (host_with_node on.host so_far.node)
  was_there = get-insert_same start.world.hosts on.n was

  now_there : tree.get (moment_in_step script on start next).world.hosts on.n ≡ Some (host_with_node on.host next.node)
  now_there = get-insert_same start.world.hosts on.n now

  well : HasWellWorks so_far.node
  well = well_along script range start began trail on.n was was_there

  well_then : HasWellWorks next.node
  well_then = well_along script range start began (moments.Then trail change) on.n now now_there

  up : on.host.is_lost ≡ false
  up = not_lost on.host is.up

  -- ---- a check of the node that steps

  module _ (req session : ℕ) (check : Check)
      (had : tree.get so_far.node.requests req ≡ Some (record { session = session; course = Checking check })) (opened : Disk)
      (at_next : (session_among session next.node.sessions).disk ≡ Some opened) (index : ℕ) (value : List ℕ) (few : index < OBJECTS_MAX)
      (vid : check.vid ≡ opened.inode.vid) where
    abbrev its : Request
    its = record { session = session; course = Checking check }

    -- what is so of it
    abbrev Was : Type 0
    Was =
        IsWritten (ComesBy on on.n req index value) (moment_in_step script on start so_far).past.attempts so_far.node req check index value

    abbrev Now : Check → Type 0
    Now then =
        IsWritten (ComesBy on on.n req index value) (moment_in_step script on start next).past.attempts next.node req then index value

    works : (work : ObjWork) → HasWork req work next.node.gateway.works next.node.sessions
        → HasWork req work so_far.node.gateway.works so_far.node.sessions
        ⊎ ((is_making work ≡ false) ⊎ IsNowWritten script range events start ran on is by so_far next within trail req session check had
        work)
    works = works_now script range events start ran on is by so_far next within trail req session check had

    abbrev Writes : ObjWork → Type 0
    Writes = IsNowWritten script range events start ran on is by so_far next within trail req session check had

    -- over another object nothing comes
    none_comes : (other : List ℕ) → (Contains (left_of check.stage) index → ⊥) → MakesNone so_far.node req check index
        → HasWork req (write_value check index other) next.node.gateway.works next.node.sessions → ⊥
    none_comes other apart none has = ⊎_elim
        (λ (old : HasWork req (write_value check index other) so_far.node.gateway.works so_far.node.sessions). none other old)
        (λ (new : (is_making (write_value check index other) ≡ false) ⊎ Writes (write_value check index other)). ⊎_elim
        (λ (quiet : is_making (write_value check index other) ≡ false). absurd (cc (quiet)))
        (λ (w : Writes (write_value check index other)).
        let same = w.same in
        let both : object_number check.vid index ≡ object_number check.vid w.index = ap oid_of same in
        let own : w.index ≡ index = omega (arith, both) in
        apart (subst (Contains (left_of check.stage)) own
        (subst (λ (s : CheckStage). Contains (left_of s) w.index) (sym w.stage) (first w.index w.later))))
        new)
        (works (write_value check index other) has)
      where
        first : (i : ℕ) (rest : List ℕ) → Contains (i ∷ rest) i
        first i rest = (0, omega arith, refl)

    -- ---- it stays where it was

    module _ (there : tree.get next.node.requests req ≡ Some (record { session = session; course = Checking check })) where
      pub stays : Was → Now check
      stays (WillBeWritten later_ones stage comes) = WillBeWritten later_ones stage comes
      stays (IsBeingWritten later_ones stage apart only) =
          IsBeingWritten later_ones stage apart
          (λ work has making. ⊎_elim
          (λ (old : HasWork req work so_far.node.gateway.works so_far.node.sessions). only work old making)
          (λ (new : (is_making work ≡ false) ⊎ Writes work). ⊎_elim
          (λ (quiet : is_making work ≡ false). absurd (cc (quiet, making)))
          (λ (w : Writes work). let compares = w.stage in absurd (cc (compares, stage)))
          new)
          (works work has))
      stays (WasWritten apart none alone) =
          let none_then : MakesNone next.node req check index = λ other has. none_comes other apart none has in
          WasWritten apart none_then
          (still_alone script range events start here later ran trail change on.n now now_there up req its there opened at_next check refl
          index value few vid none_then alone)

    -- ---- it goes on

    module _ (number k : ℕ) (work : Work) (attempt : gateways.Attempt) (status : Status) (bytes : List ℕ) (step : CheckStep)
        (ends : EndsWork (input_of_cause on.cause) on.host.node so_far number req k work attempt status (Checking check) bytes)
        (goes : check_on_done bytes check ≡ Some step)
        (there : tree.get next.node.requests req ≡ Some (record { session = session; course = Checking step.check }))
        (at_here : (session_among session so_far.node.sessions).disk ≡ Some opened) (spec : check.spec ≡ opened.inode.spec)
        (long : length value ≡ 2 ^ check.spec.shift) where
      abbrev then : Check
      then = step.check

      same : IsSameDisk step.check check
      same = goes_on-same bytes check step goes

      as_it_was : (other : List ℕ) → HasWork req (write_value step.check index other) next.node.gateway.works next.node.sessions
          → HasWork req (write_value check index other) next.node.gateway.works next.node.sessions
      as_it_was other =
          subst (λ (w : ObjWork). HasWork req w next.node.gateway.works next.node.sessions) (write_same step.check check index other same)

      -- what it had to do
      had_to : (what : ObjWork) → HasWork req what so_far.node.gateway.works so_far.node.sessions → IsWorkOfCheck check check.stage what
      had_to = check_wants so_far.node well req its had check refl

      stays_alone : MakesNone next.node req step.check index
          → IsWrittenAlone (moment_in_step script on start so_far).past.attempts check.vid value (whole_object check.spec index)
          → IsWrittenAlone (moment_in_step script on start next).past.attempts step.check.vid value
          (whole_object step.check.spec index)
      stays_alone none alone =
          still_alone script range events start here later ran trail change on.n now now_there up req
          (record { session = session; course = Checking step.check }) there opened at_next step.check refl index value few
          (same.vid ∙ vid) none
          (alone_same (moment_in_step script on start so_far).past.attempts step.check check index value same alone)

      -- to the write of the value of the object that it compared
      module _ (i : ℕ) (rest : List ℕ) (stage : check.stage ≡ Comparing i rest) (then_at : step.check.stage ≡ WritingBack rest) where
        reads_here : (what : ObjWork) → HasWork req what so_far.node.gateway.works so_far.node.sessions → is_making what ≡ true → ⊥
        reads_here what has making =
            let reads : what ≡ read_copies check i
            = subst (λ (s : CheckStage). IsWorkOfCheck check s what) stage (had_to what has) in
            let quiet : is_making what ≡ false = ap is_making reads in
            cc (quiet, making)

        comes_to_it : ComesBy on on.n req index value → MakesOnly next.node req step.check index value
        comes_to_it comes what has making = ⊎_elim
            (λ (old : HasWork req what so_far.node.gateway.works so_far.node.sessions). absurd (reads_here what old making))
            (λ (new : (is_making what ≡ false) ⊎ Writes what). ⊎_elim
            (λ (quiet : is_making what ≡ false). absurd (cc (quiet, making)))
            (λ (w : Writes what).
            let made : write_of_value req check (w.index, w.value) ≡ comes.write
            = same_Some (write_of_value req check (w.index, w.value)) comes.write (sym w.comes ∙ comes.comes) in
            let place : w.index ≡ index = ap (λ (one : CheckWrite). one.index) made ∙ comes.place in
            let what_so : w.value ≡ value = ap (λ (one : CheckWrite). one.value) made ∙ comes.what in
            w.same ∙ (λ j. write_value check (place j) (what_so j)) ∙ sym (write_same step.check check index value same))
            new)
            (works what has)

        to_writing : Was → Now step.check
        to_writing (WillBeWritten later_ones at comes) =
            let both : Comparing index later_ones ≡ Comparing i rest = sym at ∙ stage in
            let own : index ≡ i = cc (both) in
            IsBeingWritten rest then_at
            (λ among.
            not_later script range events start ran on is by so_far next within trail req session check had opened at_here i rest stage
            (subst (Contains rest) own among))
            (comes_to_it comes)
        to_writing (IsBeingWritten later_ones at apart only) = absurd (cc (at, stage))
        to_writing (WasWritten apart none alone) =
            let none_then : MakesNone next.node req step.check index
            = λ other has. none_comes other apart none (as_it_was other has) in
            WasWritten
            (λ among.
            let behind : Contains rest index = subst (λ (s : CheckStage). Contains (left_of s) index) then_at among in
            apart (subst (λ (s : CheckStage). Contains (left_of s) index) (sym stage) (Contains-cons i rest index behind)))
            none_then (stays_alone none_then alone)

      -- to what comes next, when a value was written
      module _ (rest : List ℕ) (stage : check.stage ≡ WritingBack rest) (left : left_of step.check.stage ≡ rest)
          (quiet : (behind : List ℕ) → step.check.stage ≡ WritingBack behind → ⊥) where
        none_at : (other : List ℕ) (at : CheckStage) → step.check.stage ≡ at
            → IsWorkOfCheck step.check at (write_value step.check index other) → ⊥
        none_at other (Comparing i behind) at reads = cc (reads)
        none_at other (WritingBack behind) at writes = quiet behind at
        none_at other Answered at never = never

        none_then : MakesNone next.node req step.check index
        none_then other has =
            none_at other step.check.stage refl
            (check_wants next.node well_then req (record { session = session; course = Checking step.check }) there step.check refl
            (write_value step.check index other) has)

        done_now : MakesOnly so_far.node req check index value
            → IsWrittenAlone (moment_in_step script on start so_far).past.attempts check.vid value (whole_object check.spec index)
        done_now =
            value_done script range events start ran on is by so_far next within trail req session check had number k work attempt status
            bytes ends opened at_here rest stage index value few vid spec long

        to_next : Was → Now step.check
        to_next (WillBeWritten later_ones at comes) = absurd (cc (at, stage))
        to_next (IsBeingWritten later_ones at apart only) =
            let both : WritingBack later_ones ≡ WritingBack rest = sym at ∙ stage in
            let ones : later_ones ≡ rest = cc (both) in
            WasWritten
            (λ among. apart (subst (λ (list : List ℕ). Contains list index) (sym ones)
            (subst (λ (list : List ℕ). Contains list index) left among)))
            none_then (stays_alone none_then (done_now only))
        to_next (WasWritten apart none alone) =
            WasWritten
            (λ among.
            apart (subst (λ (s : CheckStage). Contains (left_of s) index) (sym stage)
            (subst (λ (list : List ℕ). Contains list index) left among)))
            none_then (stays_alone none_then alone)

      pub goes_so : CheckGoes check step.check → Was → Now step.check
      goes_so (ToWriting i rest stage then_at) = to_writing i rest stage then_at
      goes_so (ToNext rest stage left quiet) = to_next rest stage left quiet
