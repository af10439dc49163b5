-- In the middle of a step of a run in range, the works that commands and checks ask for next name what is made, if the inodes that
-- commands create do, and the entries that attempts gave to inodes.
use Rattle.std.proofs.Common.{◌≡◌, ℕ, Bool, false, Some, List, length, refl, sym, subst}
use Rattle.std.specs.FinMap as tree
use Rattle.proof_tools.proofs.FiniteMaps.{get-insert_same}
use Rattle.object_id.specs.declared.oid.Vid.{Vid}
use Rattle.inode.specs.Layout.{Content}
use Rattle.cluster_script.specs.declared.statement.Statement.{Statement}
use Rattle.vdi_directory.specs.declared.header.Header.{Header}
use Rattle.vdi_directory.specs.Dead.{is_dead}
use Rattle.vdi_directory.specs.Decisions.{log_effects}
use Rattle.vdi_directory.proofs.DecisionLaws.{held-works}
use Rattle.peer_proto.specs.declared.work.ObjWork.{ObjWork}
use Rattle.vdi_ops.specs.InodeWorks.{create_inode}
use Rattle.vdi_ops.specs.Op.{Opening, Working, Op}
use Rattle.vdi_ops.specs.Tables.{holes, inode_by}
use Rattle.sheep_node.specs.declared.course.Course.TheVariants.{Commanding}
use Rattle.sheep_node.specs.declared.input.Input.{Input}
use Rattle.sheep_node.specs.Changes.{ToWork, RequestSteps}
use Rattle.sheep_node.specs.State.{Node}
use Rattle.sheep_node.specs.StepState.{StepState}
use Rattle.sheep_world.specs.NodeCauses.{input_of_cause, host_with_node}
use Rattle.sheep_world.specs.World.{Host}
use Rattle.sheep_world.specs.RunsWithAsks.{Move}
use Rattle.overlap_law.specs.CommandDisks.{opened_in}
use Rattle.overlap_law.specs.MomentChanges.{MomentTrail, RunsAreInRange}
use Rattle.overlap_law.specs.NamedWorks.{NamesWhatIsMade, OtherWorksNameWhatIsMade, NewInodesNameWhatIsMade}
use Rattle.overlap_law.specs.OpenTables.{CallsLive}
use Rattle.overlap_law.specs.Past.{MomentWithPast, run_with_past}
use Rattle.overlap_law.specs.StepMoments.{SteppingNode, IsStepping, StepsByChanges, LeadsInStep, first_in_step, moment_in_step}
use Rattle.overlap_law.specs.Tables.{EntriesAreMade, OwnEntriesAreMade}
use Rattle.overlap_law.specs.WriterClaims.{IsStageKept}
use Rattle.overlap_law.proofs.AnswersInMoments.{not_lost}
use Rattle.overlap_law.proofs.CausedWorks.{no_object}
use Rattle.overlap_law.proofs.ClaimsInRuns.{claims-in_run}
use Rattle.overlap_law.proofs.DriverEntries.{names_none}
use Rattle.overlap_law.proofs.FrozenSnapshots.{working_lives}
use Rattle.overlap_law.proofs.OpeningReads.{knows_well}
use Rattle.overlap_law.proofs.WrittenBack.{written_back_names}
use Rattle.overlap_law.proofs.StepsToWorks.{IsNotDriven, IsOfOther, WithoutEntry, TaskCreates, TaskWritesBack, DecisionCreates}
use Rattle.overlap_law.proofs.StepsToWorks.{comes_to_other}
pub use Rattle.overlap_law.proofs.StepsToWorks.{command_act}

module _ (script : List Statement) (range : RunsAreInRange script) (events : List Move) (start : MomentWithPast)
    (ran : run_with_past script events ≡ Some start) (on : SteppingNode) (is : IsStepping script start.world on)
    (by : StepsByChanges on.cause) (so_far : StepState) (leads : LeadsInStep on (first_in_step on) so_far)
    (trail : MomentTrail script start (moment_in_step script on start so_far)) (live good_id : ℕ → Bool)
    (calls : CallsLive live (moment_in_step script on start so_far).world.log (moment_in_step script on start so_far).past.attempts)
    (entries_made : EntriesAreMade (log_effects (moment_in_step script on start so_far).world.log) live good_id
    (moment_in_step script on start so_far).past.attempts)
    (own_made : OwnEntriesAreMade live (moment_in_step script on start so_far).past.attempts)
    (inodes : NewInodesNameWhatIsMade script good_id start (moment_in_step script on start so_far)) where
  abbrev here : MomentWithPast
  here = moment_in_step script on start so_far

  abbrev was : Host
  was = host_with_node on.host so_far.node

  abbrev input : Input
  input = input_of_cause on.cause

  abbrev node : Node
  node = on.host.node

  abbrev Names : ObjWork → Type 0
  Names =
      NamesWhatIsMade (log_effects (moment_in_step script on start so_far).world.log) good_id
      (moment_in_step script on start so_far).past.attempts so_far.node.peer.epoch

  -- a disk that is being opened is held, so it isn't dead
  held_lives : (session req : ℕ) (op : Op) (vid : Vid) (ids : List ℕ) (header : Header)
      → tree.get so_far.node.requests req ≡ Some (record { session = session; course = Commanding op })
      → op.stage ≡ Working vid (Opening false ids header) → is_dead (log_effects here.world.log) vid.0 ≡ false
  held_lives session req op vid ids header there at =
      let seat : tree.get here.world.hosts on.n ≡ Some was = get-insert_same start.world.hosts on.n was in
      let claims = (claims-in_run script range events start here ran trail).each on.n was seat (not_lost on.host is.up) in
      let kept = subst (IsStageKept here.world.log so_far.node.outbox so_far.node.peer.entries
      (length so_far.node.peer.entries) so_far.node.me
      session (opened_in session so_far.node.sessions)) at
      (claims.commands req (record { session = session; course = Commanding op }) op there refl) in
      working_lives (log_effects here.world.log) vid.0 (held-works here.world.log vid.0 _ kept.0.held)

  module _ (session req : ℕ) (work : ObjWork) (moved : StepState)
      (steps : RequestSteps (input_of_cause on.cause) on.host.node so_far session req (ToWork work) moved)
      (apart : IsNotDriven session req moved) where
    created : (inode : Content) → work ≡ create_inode inode → Names work
    created inode same =
        subst Names (sym same)
        (inodes on so_far is by leads refl session req inode moved
        (subst (λ (w : ObjWork). RequestSteps input node so_far session req (ToWork w) moved) same steps) apart)

    by_case : IsOfOther (input_of_cause on.cause) on.host.node so_far session req work → Names work
    by_case (WithoutEntry none) =
        names_none (log_effects here.world.log) good_id here.past.attempts so_far.node.peer.epoch work none
    by_case (TaskCreates number done attempt status bytes op ends inode same of) = created inode same
    by_case (TaskWritesBack number done attempt status bytes op ends vid ids header at same) =
        subst Names (sym same)
        (written_back_names script range events start ran on is by so_far leads trail session req number done attempt status op bytes vid
        false ids header ends at (held_lives session req op vid ids header ends.ends.request at) live good_id calls entries_made own_made)
    by_case (DecisionCreates entry op from read waits creates) =
        created (inode_by creates.header creates.vid.0 (holes creates.header.spec)) creates.same

    other_named : Names work
    other_named =
        by_case (comes_to_other so_far (knows_well script range events start ran on is by so_far leads trail)
        (no_object script start.world on.n on.host on.cause is.caused) session req work moved steps apart)

-- ---- every moment in the middle of a step

pub others_name : (script : List Statement) → RunsAreInRange script → (events : List Move) (start before : MomentWithPast)
    → run_with_past script events ≡ Some start → MomentTrail script start before → (live good_id : ℕ → Bool)
    → CallsLive live before.world.log before.past.attempts
    → EntriesAreMade (log_effects before.world.log) live good_id before.past.attempts → OwnEntriesAreMade live before.past.attempts
    → NewInodesNameWhatIsMade script good_id start before → OtherWorksNameWhatIsMade script good_id start before
others_name script range events start before ran trail live good_id calls entries_made own_made inodes =
    λ on so_far is by leads same session req work moved steps apart.
    subst (λ (m : MomentWithPast). NamesWhatIsMade (log_effects m.world.log) good_id m.past.attempts so_far.node.peer.epoch work) (sym same)
    (other_named script range events start ran on is by so_far leads (subst (MomentTrail script start) same trail) live good_id
    (subst (λ (m : MomentWithPast). CallsLive live m.world.log m.past.attempts) same calls)
    (subst (λ (m : MomentWithPast). EntriesAreMade (log_effects m.world.log) live good_id m.past.attempts) same entries_made)
    (subst (λ (m : MomentWithPast). OwnEntriesAreMade live m.past.attempts) same own_made)
    (subst (NewInodesNameWhatIsMade script good_id start) same inodes) session req work moved steps apart)
