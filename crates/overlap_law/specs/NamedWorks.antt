-- What the entries stand for that a work gives to an inode; and the works that requests ask for in the middle of a step.
use Rattle.std.specs.Prelude.{◌≡◌, ◌≢◌, ℕ, ◌<◌, Bool, true, List, Some}
use Rattle.std.specs.FinMap as tree
use Rattle.object_id.specs.declared.limits.TheConstants.{OBJECTS_MAX}
use Rattle.object_id.specs.Oid.{IsVid, inode_number, object_number}
use Rattle.cluster_script.specs.declared.statement.Statement.{Statement}
use Rattle.vdi_directory.specs.declared.effect.Effect.{Effect}
use Rattle.vdi_directory.specs.Chains.{is_above}
use Rattle.vdi_directory.specs.Decisions.{log_effects}
use Rattle.peer_proto.specs.declared.work.ObjWork.{ObjWork}
use Rattle.peer_proto.specs.Work.{oid_of}
use Rattle.inode.specs.Layout.{Content}
use Rattle.vdi_ops.specs.InodeWorks.{create_inode}
use Rattle.guest_driver.specs.Driver.{Driver}
use Rattle.sheep_node.specs.declared.course.Course.TheVariants.{Driving}
use Rattle.sheep_node.specs.Changes.{ToWork, RequestSteps}
use Rattle.sheep_node.specs.StepState.{StepState}
use Rattle.sheep_world.specs.NodeCauses.{input_of_cause}
use Rattle.overlap_law.specs.Attempts.{AttemptRecord}
use Rattle.overlap_law.specs.Fates.{IsCreated}
use Rattle.overlap_law.specs.Past.{MomentWithPast}
use Rattle.overlap_law.specs.StepMoments.{SteppingNode, IsStepping, StepsByChanges, LeadsInStep, first_in_step, moment_in_step}
use Rattle.overlap_law.specs.Tables.{entry_unit, StandsFor, EntriesAreMade}
use Rattle.overlap_law.specs.ToDo.{entry_made, WorksNameWhatIsMade}
use Rattle.overlap_law.specs.Units.{covers_by}

-- a work has the entry of an index in a disk's inode
pub record HasEntry (work : ObjWork) (vid index : ℕ) : Type 0 where
  pub object : oid_of work ≡ inode_number vid
  pub inside : index < OBJECTS_MAX
  pub covered : covers_by (entry_unit index) work ≡ true

-- the entries that a work gives stand for objects that were created by an epoch; those that say "own" also where the disk wasn't available
pub record NamesWhatIsMade (effects : List Effect) (good_id : ℕ → Bool) (attempts : List AttemptRecord) (epoch : ℕ) (work : ObjWork)
    : Type 0 where
  pub each : (vid index : ℕ) → HasEntry work vid index → good_id vid ≡ true → entry_made index work ≢ 0
      → StandsFor effects attempts vid index epoch (entry_made index work)
  pub own : (vid index : ℕ) → HasEntry work vid index → IsVid vid → entry_made index work ≡ vid
      → IsCreated attempts (object_number vid index) epoch

-- in the middle of whatever step of an event the work that a request asks for next does so
abbrev pub AskedWorksNameWhatIsMade : List Statement → (ℕ → Bool) → MomentWithPast → MomentWithPast → Type 0
AskedWorksNameWhatIsMade script good_id start before = (stepping : SteppingNode) (so_far : StepState)
    → IsStepping script start.world stepping → StepsByChanges stepping.cause → LeadsInStep stepping (first_in_step stepping) so_far
    → before ≡ moment_in_step script stepping start so_far
    → (session req : ℕ) (work : ObjWork) (moved : StepState)
    → RequestSteps (input_of_cause stepping.cause) stepping.host.node so_far session req (ToWork work) moved
    → NamesWhatIsMade (log_effects before.world.log) good_id before.past.attempts so_far.node.peer.epoch work

-- and so does the work that a request asks for which is no read or write: that of a command, or of a check
abbrev pub OtherWorksNameWhatIsMade : List Statement → (ℕ → Bool) → MomentWithPast → MomentWithPast → Type 0
OtherWorksNameWhatIsMade script good_id start before = (stepping : SteppingNode) (so_far : StepState)
    → IsStepping script start.world stepping → StepsByChanges stepping.cause → LeadsInStep stepping (first_in_step stepping) so_far
    → before ≡ moment_in_step script stepping start so_far
    → (session req : ℕ) (work : ObjWork) (moved : StepState)
    → RequestSteps (input_of_cause stepping.cause) stepping.host.node so_far session req (ToWork work) moved
    → ((driver : Driver) → tree.get moved.node.requests req ≢ Some (record { session = session; course = Driving driver }))
    → NamesWhatIsMade (log_effects before.world.log) good_id before.past.attempts so_far.node.peer.epoch work

-- and so does the inode that a command creates next, which is no read or write
abbrev pub NewInodesNameWhatIsMade : List Statement → (ℕ → Bool) → MomentWithPast → MomentWithPast → Type 0
NewInodesNameWhatIsMade script good_id start before = (stepping : SteppingNode) (so_far : StepState)
    → IsStepping script start.world stepping → StepsByChanges stepping.cause → LeadsInStep stepping (first_in_step stepping) so_far
    → before ≡ moment_in_step script stepping start so_far
    → (session req : ℕ) (inode : Content) (moved : StepState)
    → RequestSteps (input_of_cause stepping.cause) stepping.host.node so_far session req (ToWork (create_inode inode)) moved
    → ((driver : Driver) → tree.get moved.node.requests req ≢ Some (record { session = session; course = Driving driver }))
    → NamesWhatIsMade (log_effects before.world.log) good_id before.past.attempts so_far.node.peer.epoch (create_inode inode)

-- what is above a good id is good
abbrev pub AboveIsGood : List Effect → (ℕ → Bool) → Type 0
AboveIsGood effects good_id = (elder vid : ℕ) → is_above effects elder vid ≡ true → good_id vid ≡ true → good_id elder ≡ true

-- the entries that attempts gave to inodes, and those that works are to give to them, stand for objects that were created
pub record InodesNameWhatIsMade (live good_id : ℕ → Bool) (moment : MomentWithPast) : Type 0 where
  pub entries : EntriesAreMade (log_effects moment.world.log) live good_id moment.past.attempts
  pub named : WorksNameWhatIsMade (log_effects moment.world.log) good_id moment.world.hosts moment.past.attempts
