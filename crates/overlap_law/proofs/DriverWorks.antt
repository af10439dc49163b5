-- In the middle of a step of a run in range the works that requests ask for next name what is made, if those of commands and checks do.
use Rattle.std.proofs.Common.{◌≡◌, ⊎_elim, ℕ, Bool, Option, Some, List, refl, sym, subst}
use Rattle.object_id.specs.Oid.{object_number}
use Rattle.cluster_script.specs.declared.statement.Statement.{Statement}
use Rattle.vdi_directory.specs.Decisions.{log_effects}
use Rattle.peer_proto.specs.declared.work.ObjWork.{ObjWork}
use Rattle.guest_driver.specs.declared.disk.Disk.{Disk}
use Rattle.guest_driver.specs.Driver.{Driver, DriverStep}
use Rattle.sheep_node.specs.declared.course.Course.TheVariants.{Driving}
use Rattle.sheep_node.specs.declared.input.Input.{Input}
use Rattle.sheep_node.specs.Changes.{EndsWork, ToWork, RequestSteps}
use Rattle.sheep_node.specs.Courses.{inode_open}
use Rattle.sheep_node.specs.SoundWorks.{IsSoundWork}
use Rattle.sheep_node.specs.State.{Node}
use Rattle.sheep_node.specs.StepState.{StepState}
use Rattle.sheep_node.specs.WantedWorks.{IsWorkOfDriver, IsWorkWanted}
use Rattle.sheep_node.proofs.WantedSteps.{driver_goes_on-wanted}
use Rattle.sheep_world.specs.NodeCauses.{input_of_cause}
use Rattle.sheep_world.specs.RunsWithAsks.{Move}
use Rattle.overlap_law.specs.Fates.{IsCreated}
use Rattle.overlap_law.specs.MomentChanges.{MomentTrail, RunsAreInRange}
use Rattle.overlap_law.specs.NamedWorks.{NamesWhatIsMade, AskedWorksNameWhatIsMade, OtherWorksNameWhatIsMade}
use Rattle.overlap_law.specs.Past.{MomentWithPast, run_with_past}
use Rattle.overlap_law.specs.StepMoments.{SteppingNode, IsStepping, StepsByChanges, LeadsInStep, first_in_step, moment_in_step}
use Rattle.overlap_law.proofs.DoneWorks.{wanted}
use Rattle.overlap_law.proofs.DriverEntries.{IsFresh, EntersNow, begins_fresh, goes_fresh, EntersMade, fresh_made, driver_names}
use Rattle.overlap_law.proofs.DriverEntries.{object_created}
use Rattle.overlap_law.proofs.OpeningReads.{step_known, knows_well}
use Rattle.overlap_law.proofs.CausedWorks.{no_object}
use Rattle.overlap_law.proofs.StepsToWorks.{IsDriven, DriverBegins, DriverGoesOn, ComesToWork, OfDriver, OfOther, comes_to_work}
pub use Rattle.overlap_law.proofs.StepsToWorks.{act_of}

module _ (script : List Statement) (range : RunsAreInRange script) (events : List Move) (start : MomentWithPast)
    (ran : run_with_past script events ≡ Some start) (on : SteppingNode) (is : IsStepping script start.world on)
    (by : StepsByChanges on.cause) (so_far : StepState) (leads : LeadsInStep on (first_in_step on) so_far)
    (trail : MomentTrail script start (moment_in_step script on start so_far)) (good_id : ℕ → Bool)
    (others : OtherWorksNameWhatIsMade script good_id start (moment_in_step script on start so_far)) where
  abbrev here : MomentWithPast
  here = moment_in_step script on start so_far

  abbrev input : Input
  input = input_of_cause on.cause

  abbrev node : Node
  node = on.host.node

  abbrev Names : ObjWork → Type 0
  Names =
      NamesWhatIsMade (log_effects (moment_in_step script on start so_far).world.log) good_id
      (moment_in_step script on start so_far).past.attempts so_far.node.peer.epoch

  abbrev Made : ℕ → Type 0
  Made oid = IsCreated (moment_in_step script on start so_far).past.attempts oid so_far.node.peer.epoch

  module _ (session req : ℕ) (work : ObjWork) where
    -- what a read or write enters was created
    entered : (step : DriverStep) → IsDriven (input_of_cause on.cause) on.host.node so_far session req work step
        → EntersMade (log_effects here.world.log) good_id here.past.attempts so_far.node.peer.epoch step.inode step.driver
    entered step (DriverBegins ask disk there at begins) =
        fresh_made (log_effects here.world.log) good_id here.past.attempts so_far.node.peer.epoch step.inode step.driver
        (subst (λ (s : DriverStep). IsFresh s.driver) begins (begins_fresh disk ask))
    entered step (DriverGoesOn number done attempt status bytes driver disk ends opened next) =
        let well = knows_well script range events start ran on is by so_far leads trail in
        let sound = (step_known script range events start ran on is by so_far leads trail).sound in
        let one : IsSoundWork done = well.sound.open_works req done ends.ends.learns.there in
        let wants : IsWorkOfDriver disk.inode driver done.work
        = subst (λ (o : Option Disk). IsWorkWanted (inode_open o) (Driving driver) done.work) opened
        (wanted sound so_far session req number done attempt status (Driving driver) bytes ends well.waits one) in ⊎_elim
        (λ (fresh : IsFresh step.driver).
        fresh_made (log_effects here.world.log) good_id here.past.attempts so_far.node.peer.epoch step.inode step.driver fresh)
        (λ (enters : EntersNow driver step.driver).
        subst (EntersMade (log_effects here.world.log) good_id here.past.attempts so_far.node.peer.epoch step.inode) (sym enters.enters)
        (subst (λ (v : ℕ). Made (object_number v enters.piece.index)) (sym (driver_goes_on-wanted disk.inode bytes driver step next).vid)
        (object_created script range events start ran on is by so_far leads trail session req number done attempt status enters.payload
        enters.piece enters.rest bytes
        (subst (λ (d : Driver). EndsWork input node so_far session req number done attempt status (Driving d) bytes) enters.created ends)
        disk.inode (subst (λ (d : Driver). IsWorkOfDriver disk.inode d done.work) enters.created wants))))
        (goes_fresh disk.inode bytes driver step next)

    asked : (moved : StepState) → RequestSteps (input_of_cause on.cause) on.host.node so_far session req (ToWork work) moved → Names work
    asked moved steps =
        by_case (comes_to_work so_far (knows_well script range events start ran on is by so_far leads trail)
        (no_object script start.world on.n on.host on.cause is.caused) session req work moved steps)
      where
        by_case : ComesToWork (input_of_cause on.cause) on.host.node so_far session req work moved → Names work
        by_case (OfDriver step there so how) =
            driver_names (log_effects here.world.log) good_id here.past.attempts so_far.node.peer.epoch step.inode step.driver work
            so.id so.few (entered step how) so.wanted
        by_case (OfOther apart other) = others on so_far is by leads refl session req work moved steps apart

-- ---- every moment in the middle of a step

pub asked_name : (script : List Statement) → RunsAreInRange script → (events : List Move) (start before : MomentWithPast)
    → run_with_past script events ≡ Some start → MomentTrail script start before → (good_id : ℕ → Bool)
    → OtherWorksNameWhatIsMade script good_id start before → AskedWorksNameWhatIsMade script good_id start before
asked_name script range events start before ran trail good_id others = λ on so_far is by leads same session req work moved steps.
    subst (λ (m : MomentWithPast). NamesWhatIsMade (log_effects m.world.log) good_id m.past.attempts so_far.node.peer.epoch work) (sym same)
    (asked script range events start ran on is by so_far leads (subst (MomentTrail script start) same trail) good_id
    (subst (OtherWorksNameWhatIsMade script good_id start) same others) session req work moved steps)
