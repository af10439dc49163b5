-- In the middle of a step of a run in range the works that requests ask for next, and that are to create the inode of a reserved id, have
-- what is drawn from what the id is made from, if the inodes do that commands create.
use Rattle.std.proofs.Common.{◌≡◌, ℕ, Bool, Some, List, refl, sym, ap, subst, ◌∙◌, false}
use Rattle.std.proofs.Common.{All, true}
use Rattle.object_id.specs.Oid.{IsVid}
use Rattle.cluster_script.specs.declared.statement.Statement.{Statement}
use Rattle.vdi_directory.specs.Decisions.{log_effects}
use Rattle.peer_proto.specs.declared.work.ObjWork.{ObjWork}
use Rattle.guest_driver.specs.declared.act.DriverAct.{DriverAct}
use Rattle.guest_driver.specs.Driver.{Driver, Reads, Writes, Answered, InPlace, Fetching}
use Rattle.guest_driver.specs.Driver.{Creating, Entering}
use Rattle.sheep_node.specs.declared.input.Input.{Input}
use Rattle.sheep_node.specs.Changes.{ToWork, RequestSteps}
use Rattle.sheep_node.specs.State.{Node}
use Rattle.sheep_node.specs.StepState.{StepState}
use Rattle.sheep_node.specs.WantedWorks.{IsWorkOfDriver}
use Rattle.sheep_world.specs.NodeCauses.{input_of_cause}
use Rattle.sheep_world.specs.RunsWithAsks.{Move}
use Rattle.overlap_law.specs.MomentChanges.{MomentTrail, RunsAreInRange}
use Rattle.overlap_law.specs.Past.{MomentWithPast, run_with_past}
use Rattle.overlap_law.specs.StepMoments.{SteppingNode, IsStepping, StepsByChanges, LeadsInStep, first_in_step, moment_in_step}
use Rattle.overlap_law.proofs.DriverEntries.{no_inode, work_in}
use Rattle.overlap_law.proofs.KnownDisks.{FewAt}
use Rattle.inode.specs.Layout.{Content}
use Rattle.vdi_ops.specs.InodeWorks.{create_inode}
use Rattle.vdi_ops.specs.Tables.{holes, inode_by}
use Rattle.overlap_law.proofs.CausedWorks.{no_object}
use Rattle.std.proofs.lemmas.List.Elements.{All-head}
use Rattle.peer_proto.specs.Work.{oid_of}
use Rattle.guest_driver.specs.OnDisk.{pieces_left}
use Rattle.overlap_law.specs.Holders.{is_create_work}
use Rattle.overlap_law.specs.NamedWorks.{HasEntry}
use Rattle.overlap_law.specs.StayingDrafts.{CreatesDrawn, NewInodesAreDrawn}
use Rattle.overlap_law.proofs.StepsToWorks.{IsNotDriven, WithoutEntry, TaskCreates, TaskWritesBack, DecisionCreates, ComesToWork}
use Rattle.overlap_law.proofs.StepsToWorks.{OfDriver, OfOther, comes_to_work}
use Rattle.overlap_law.proofs.OpeningReads.{knows_well}

-- a read or write creates no inode
driver_none : (inode : Content) (driver : Driver) (work : ObjWork) → IsVid inode.vid → All FewAt (pieces_left driver)
    → IsWorkOfDriver inode driver work → is_create_work work ≡ true → (vid index : ℕ) → HasEntry work vid index → ⊥
driver_none inode (Reads told piece rest) work id few (of, is) creates vid index has =
    let none = ap is_create_work is in absurd (cc (none, creates))
driver_none inode (Writes payload InPlace piece rest) work id few is creates vid index has =
    let none = ap is_create_work is in absurd (cc (none, creates))
driver_none inode (Writes payload Fetching piece rest) work id few (of, is) creates vid index has =
    let none = ap is_create_work is in absurd (cc (none, creates))
driver_none inode (Writes payload Creating piece rest) work id few (offset, bytes, is) creates vid index has =
    let same = ap (λ (act : DriverAct). work_in act work) is in
    no_inode inode.vid piece.index vid id (All-head FewAt piece rest few) (sym (ap (λ (w : ObjWork). oid_of w) same) ∙ has.object)
driver_none inode (Writes payload Entering piece rest) work id few is creates vid index has =
    let none = ap is_create_work is in absurd (cc (none, creates))
driver_none inode Answered work id few is creates vid index has = absurd is

module _ (script : List Statement) (range : RunsAreInRange script) (events : List Move) (start : MomentWithPast)
    (ran : run_with_past script events ≡ Some start) (on : SteppingNode) (is : IsStepping script start.world on)
    (by : StepsByChanges on.cause) (so_far : StepState) (leads : LeadsInStep on (first_in_step on) so_far)
    (trail : MomentTrail script start (moment_in_step script on start so_far)) (good_id : ℕ → Bool)
    (inodes : NewInodesAreDrawn script good_id start (moment_in_step script on start so_far)) where
  abbrev here : MomentWithPast
  here = moment_in_step script on start so_far

  abbrev input : Input
  input = input_of_cause on.cause

  abbrev node : Node
  node = on.host.node

  abbrev Draws : ObjWork → Type 0
  Draws =
      CreatesDrawn (log_effects (moment_in_step script on start so_far).world.log) good_id
      (moment_in_step script on start so_far).world.hosts (moment_in_step script on start so_far).past.attempts

  creates_none : (work : ObjWork) → is_create_work work ≡ false → Draws work
  creates_none work none vid index draft creates has = absurd (cc (none, creates))

  pub asked_draw : (session req : ℕ) (work : ObjWork) (moved : StepState)
      → RequestSteps (input_of_cause on.cause) on.host.node so_far session req (ToWork work) moved
      → CreatesDrawn (log_effects (moment_in_step script on start so_far).world.log) good_id
      (moment_in_step script on start so_far).world.hosts (moment_in_step script on start so_far).past.attempts work
  asked_draw session req work moved steps =
      by_case (comes_to_work so_far (knows_well script range events start ran on is by so_far leads trail)
      (no_object script start.world on.n on.host on.cause is.caused) session req work moved steps)
    where
      created : (inode : Content) → IsNotDriven session req moved → work ≡ create_inode inode → Draws work
      created inode apart same =
          subst Draws (sym same)
          (inodes on so_far is by leads refl session req inode moved
          (subst (λ (w : ObjWork). RequestSteps input node so_far session req (ToWork w) moved) same steps) apart)

      by_case : ComesToWork (input_of_cause on.cause) on.host.node so_far session req work moved → Draws work
      by_case (OfDriver step there so how) = λ vid index draft creates has.
          absurd (driver_none step.inode step.driver work so.id so.few so.wanted creates vid index has)
      by_case (OfOther apart (WithoutEntry none)) = λ vid index draft creates has. absurd (none vid index has)
      by_case (OfOther apart (TaskCreates number done attempt status bytes op ends inode same of)) = created inode apart same
      by_case (OfOther apart (TaskWritesBack number done attempt status bytes op ends vid ids header at same)) =
          creates_none work (ap is_create_work same)
      by_case (OfOther apart (DecisionCreates entry op from read waits creates)) =
          created (inode_by creates.header creates.vid.0 (holes creates.header.spec)) apart creates.same
