-- In each run in range, at each moment on the way of its events, the table of an open disk names none but the disk and those above it, and
-- has an entry for each object of the disk.
use Rattle.std.proofs.Common.{◌≡◌, ◌≢◌, ⊎_elim, inl, ℕ, List, ◌++◌, Option, Some, IfSome, refl, sym, ap, subst, ◌∙◌}
use Rattle.std.specs.FinMap as tree
use Rattle.proof_tools.proofs.FiniteMaps.{get-insert_same, get-insert_cases}
use Rattle.object_id.specs.declared.entry.Entry.{Entry}
use Rattle.cluster_script.specs.declared.statement.Statement.{Statement}
use Rattle.vdi_directory.specs.Decisions.{log_effects}
use Rattle.guest_driver.specs.declared.disk.Disk.{Disk}
use Rattle.sheep_node.specs.declared.session.Session.{Session}
use Rattle.sheep_node.specs.State.{Node}
use Rattle.sheep_node.specs.StepFacts.{read_after}
use Rattle.sheep_node.specs.StepState.{StepState}
use Rattle.sheep_node.proofs.StepResults.{step_reads}
use Rattle.sheep_world.specs.World.{Host, World}
use Rattle.sheep_world.specs.Began.{Began}
use Rattle.sheep_world.specs.EventKinds.{outcome_of_step}
use Rattle.sheep_world.specs.HostChanges.{host_after_step}
use Rattle.sheep_world.specs.NodeCauses.{input_of_cause, event_of_cause, host_with_node, log_after_cause}
use Rattle.sheep_world.proofs.BegunWorlds.{goes_on}
use Rattle.sheep_world.proofs.LogFrontLaws.{all_read}
use Rattle.sheep_world.specs.RunsWithAsks.{Move}
use Rattle.overlap_law.specs.MomentChanges.{MomentTrail, RunsAreInRange}
use Rattle.overlap_law.specs.OpenTables.{EntriesAreOfTheChain}
use Rattle.overlap_law.specs.Past.{MomentWithPast, run_with_past}
use Rattle.overlap_law.specs.Reached.{Hosts}
use Rattle.overlap_law.specs.StepMoments.{SteppingNode, IsStepping, StepsByChanges, LeadsInStep, first_in_step, hosts_in_step}
use Rattle.overlap_law.specs.Tables.{IsOfChain}
use Rattle.overlap_law.specs.WholeTables.{TablesAreWhole}
use Rattle.overlap_law.proofs.ChainTables.{HasChainTable, at_index, above_later}
use Rattle.overlap_law.proofs.GrantedEpochs.{spec_stays}
use Rattle.overlap_law.proofs.LogsOfMoments.{log_by_changes}
use Rattle.overlap_law.proofs.NoRecoveredDue.{began-with_past}
use Rattle.overlap_law.proofs.StepsInRuns.{knows_tables}
use Rattle.overlap_law.proofs.WholeInRuns.{nodes_whole}
use Rattle.overlap_law.proofs.WholeNodes.{AreWholeOn, whole_grows}
use Rattle.overlap_law.proofs.ClosedWorlds.{world_along}

-- the works of each node are whole by the log
abbrev pub AreWholeBy : List Entry → Hosts → Type 0
AreWholeBy log hosts = (n : ℕ) (host : Host) → tree.get hosts n ≡ Some host → AreWholeOn (log_effects log) host.node

-- they are so by a longer one
by_more : (log more : List Entry) (node : Node) → AreWholeOn (log_effects log) node → AreWholeOn (log_effects (log ++ more)) node
by_more log more =
    whole_grows (log_effects log) (log_effects (log ++ more)) (λ vid spec. spec_stays log more vid spec) (above_later log more)

module _ (script : List Statement) (range : RunsAreInRange script) where
  in_world : (world : World) → Began script world → AreWholeBy world.log world.hosts
  in_world world began n host there =
      let front = all_read script world began n host there in
      subst (λ (log : List Entry). AreWholeOn (log_effects log) host.node) (sym front.is)
      (by_more host.node.peer.entries front.rest host.node (nodes_whole script range world began n host there))

  module _ (start : MomentWithPast) (began : Began script start.world) where
    -- the node that steps, as far as it has come
    module _ (stepping : SteppingNode) (is : IsStepping script start.world stepping) (by : StepsByChanges stepping.cause)
        (so_far : StepState) (leads : LeadsInStep stepping (first_in_step stepping) so_far) where
      abbrev node : Node
      node = stepping.host.node

      abbrev read : List Entry
      read = read_after (input_of_cause stepping.cause) node.peer.entries

      own_so_far : AreWholeOn (log_effects read) so_far.node
      own_so_far = knows_tables script range start began stepping is by so_far leads

      -- by the log then
      own_then : AreWholeOn (log_effects (log_after_cause stepping.cause start.world.log)) so_far.node
      own_then =
          let after = outcome_of_step script stepping.n stepping.host stepping.cause start.world in
          let begun : Began script after.world
          = goes_on script (event_of_cause stepping.n stepping.cause) start.world after began is.made in
          let front = all_read script after.world begun stepping.n (host_after_step stepping.cause stepping.host)
          (get-insert_same start.world.hosts stepping.n (host_after_step stepping.cause stepping.host)) in
          let log : log_after_cause stepping.cause start.world.log ≡ read ++ front.rest
          = front.is ∙ ap (λ (entries : List Entry). entries ++ front.rest) (step_reads (input_of_cause stepping.cause) node) in
          subst (λ (log : List Entry). AreWholeOn (log_effects log) so_far.node) (sym log)
          (by_more read front.rest so_far.node own_so_far)

      in_step : AreWholeBy (log_after_cause stepping.cause start.world.log) (hosts_in_step stepping start.world so_far)
      in_step n host there = ⊎_elim
          (λ (own : (n ≡ stepping.n) × (host_with_node stepping.host so_far.node ≡ host)).
          subst (λ (h : Host). AreWholeOn (log_effects (log_after_cause stepping.cause start.world.log)) h.node) own.1 own_then)
          (λ (other : (n ≢ stepping.n) × (tree.get start.world.hosts n ≡ Some host)).
          subst (λ (log : List Entry). AreWholeOn (log_effects log) host.node) (sym (log_by_changes stepping.cause by start.world.log))
          (in_world start.world began n host other.1))
          (get-insert_cases start.world.hosts stepping.n (host_with_node stepping.host so_far.node) n host there)

    along_trail : {moment : MomentWithPast} → MomentTrail script start moment → AreWholeBy moment.world.log moment.world.hosts
    along_trail trail = world_along script (λ (world : World). AreWholeBy world.log world.hosts) in_world start began in_step trail

  -- ---- the disks that sessions have open

  module _ (log : List Entry) (hosts : Hosts) (all : AreWholeBy log hosts) (n : ℕ) (host : Host) (there : tree.get hosts n ≡ Some host)
      (number : ℕ) (session : Session) (got : tree.get host.node.sessions number ≡ Some session) (disk : Disk)
      (on : session.disk ≡ Some disk) where
    open_table : HasChainTable (log_effects log) disk.inode
    open_table =
        subst (λ (o : Option Disk). IfSome o (λ (disk : Disk). HasChainTable (log_effects log) disk.inode)) on
        ((all n host there).each_session number session got).disk

  module _ (events : List Move) (start moment : MomentWithPast) (ran : run_with_past script events ≡ Some start)
      (trail : MomentTrail script start moment) where
    pub whole_there : AreWholeBy moment.world.log moment.world.hosts
    whole_there = along_trail start (began-with_past script events start ran) trail

    pub entries_of_chain : EntriesAreOfTheChain (log_effects moment.world.log) moment.world.hosts
    entries_of_chain n host there up number index session disk got on within =
        at_index (IsOfChain (log_effects moment.world.log) disk.inode.vid) (inl refl) disk.inode.table index
        (open_table moment.world.log moment.world.hosts whole_there n host there number session got disk on).entries

    pub whole_tables : TablesAreWhole moment.world.hosts
    whole_tables = record {
      each = λ n host there up number session disk got on.
          (open_table moment.world.log moment.world.hosts whole_there n host there number session got disk on).whole;
    }
