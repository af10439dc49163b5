-- At each moment on the way of an event what a node works on, and what its sessions have open, is of disks that the log has made so.
use Rattle.std.proofs.Common.{◌≡◌, ◌≢◌, ⊎_elim, ℕ, List, ◌++◌, Some, sym, ap, subst, ◌∙◌}
use Rattle.std.specs.FinMap as tree
use Rattle.proof_tools.proofs.FiniteMaps.{get-insert_cases, get-insert_same}
use Rattle.object_id.specs.declared.entry.Entry.{Entry}
use Rattle.cluster_script.specs.declared.statement.Statement.{Statement}
use Rattle.guest_driver.specs.declared.disk.Disk.{Disk}
use Rattle.vdi_directory.specs.Decisions.{log_effects}
use Rattle.peer_service.specs.State.{effects_of}
use Rattle.sheep_node.specs.StepFacts.{read_after}
use Rattle.sheep_node.specs.SessionQueues.{session_among}
use Rattle.sheep_node.specs.StepState.{StepState}
use Rattle.sheep_node.proofs.StepResults.{step_reads}
use Rattle.sheep_world.specs.Began.{Began}
use Rattle.sheep_world.specs.EventKinds.{outcome_of_step}
use Rattle.sheep_world.specs.HostChanges.{host_after_step}
use Rattle.sheep_world.specs.NodeCauses.{input_of_cause, event_of_cause, host_with_node, world_after_cause}
use Rattle.sheep_world.specs.World.{Host, World}
use Rattle.sheep_world.proofs.BegunWorlds.{goes_on}
use Rattle.sheep_world.proofs.LogFrontLaws.{all_read}
use Rattle.overlap_law.specs.MomentChanges as moments
use Rattle.overlap_law.specs.MomentChanges.{MomentChange, RunsAreInRange}
use Rattle.overlap_law.specs.Past.{MomentWithPast}
use Rattle.overlap_law.specs.StepMoments.{SteppingNode, IsStepping, StepsByChanges, LeadsInStep, first_in_step, moment_in_step}
use Rattle.overlap_law.specs.Words.{Hosts}
use Rattle.overlap_law.proofs.CausedWorks.{known_then}
use Rattle.overlap_law.proofs.GrantedEpochs.{spec_stays}
use Rattle.overlap_law.proofs.KnownDisks.{IsKnownInode}
use Rattle.overlap_law.proofs.KnownDiskSteps.{AreOnKnown, all_grow, effects_after}
use Rattle.overlap_law.proofs.KnownDisksInRuns.{nodes_know}
use Rattle.overlap_law.proofs.LogsOfMoments.{log_by_changes}
use Rattle.overlap_law.proofs.WriteObjects.{known_open}
use Rattle.overlap_law.proofs.ClosedWorlds.{world_after, world_along}

-- each disk that a session has open was made so by a log
abbrev pub OpenDisksAreMade : List Entry → Hosts → Type 0
OpenDisksAreMade log hosts = (n : ℕ) (host : Host) → tree.get hosts n ≡ Some host → (number : ℕ) (disk : Disk)
    → (session_among number host.node.sessions).disk ≡ Some disk → IsKnownInode (log_effects log) disk.inode

-- all that nodes have is of disks that were
abbrev pub AreAllKnown : List Entry → Hosts → Type 0
AreAllKnown log hosts = (n : ℕ) (host : Host) → tree.get hosts n ≡ Some host → AreOnKnown (log_effects log) host.node

open_made : (log : List Entry) (hosts : Hosts) → AreAllKnown log hosts → OpenDisksAreMade log hosts
open_made log hosts all n host there number disk opened = known_open (log_effects log) host.node (all n host there) number disk opened

module _ (script : List Statement) (range : RunsAreInRange script) where
  known_in_world : (world : World) → Began script world → AreAllKnown world.log world.hosts
  known_in_world world began n host there =
      let front = all_read script world began n host there in
      subst (λ (log : List Entry). AreOnKnown (log_effects log) host.node) (sym front.is)
      (all_grow (effects_of host.node.peer) (log_effects (host.node.peer.entries ++ front.rest))
      (λ vid spec made. spec_stays host.node.peer.entries front.rest vid spec made) host.node
      (nodes_know script range world began n host there))

  pub made_in_world : (world : World) → Began script world → OpenDisksAreMade world.log world.hosts
  made_in_world world began = open_made world.log world.hosts (known_in_world world began)

  module _ (start : MomentWithPast) (began : Began script start.world) where
    known_in_step : (stepping : SteppingNode) → IsStepping script start.world stepping → StepsByChanges stepping.cause
        → (so_far : StepState) → LeadsInStep stepping (first_in_step stepping) so_far
        → AreAllKnown (moment_in_step script stepping start so_far).world.log (moment_in_step script stepping start so_far).world.hosts
    known_in_step stepping is by so_far leads n host there = ⊎_elim
        (λ (here : (n ≡ stepping.n) × (host_with_node stepping.host so_far.node ≡ host)).
        subst (λ (h : Host). AreOnKnown (log_effects log) h.node) here.1 own)
        (λ (other : (n ≢ stepping.n) × (tree.get start.world.hosts n ≡ Some host)).
        subst (λ (log : List Entry). AreOnKnown (log_effects log) host.node) (sym (log_by_changes stepping.cause by start.world.log))
        (known_in_world start.world began n host other.1))
        (get-insert_cases start.world.hosts stepping.n (host_with_node stepping.host so_far.node) n host there)
      where
        ended : Began script (world_after_cause script stepping.n stepping.host stepping.cause start.world)
        ended = goes_on script (event_of_cause stepping.n stepping.cause) start.world
            (outcome_of_step script stepping.n stepping.host stepping.cause start.world) began is.made

        log : List Entry
        log = (world_after_cause script stepping.n stepping.host stepping.cause start.world).log

        own : AreOnKnown (log_effects (world_after_cause script stepping.n stepping.host stepping.cause start.world).log) so_far.node
        own =
            let now = host_after_step stepping.cause stepping.host in
            let front = all_read script (world_after_cause script stepping.n stepping.host stepping.cause start.world) ended stepping.n now
            (get-insert_same start.world.hosts stepping.n now) in
            let read : (world_after_cause script stepping.n stepping.host stepping.cause start.world).log
            ≡ read_after (input_of_cause stepping.cause) stepping.host.node.peer.entries ++ front.rest
            = front.is
            ∙ ap (λ (entries : List Entry). entries ++ front.rest) (step_reads (input_of_cause stepping.cause) stepping.host.node) in
            subst (λ (l : List Entry). AreOnKnown (log_effects l) so_far.node) (sym read)
            (all_grow (effects_after (input_of_cause stepping.cause) stepping.host.node)
            (log_effects (read_after (input_of_cause stepping.cause) stepping.host.node.peer.entries ++ front.rest))
            (λ vid spec made.
            spec_stays (read_after (input_of_cause stepping.cause) stepping.host.node.peer.entries) front.rest vid spec made) so_far.node
            (known_then script range start.world began stepping.n stepping.host is.there is.up stepping.cause is.caused ended so_far leads))

    -- behind each change
    pub known_after : {before after : MomentWithPast} → MomentChange script start before after
        → AreAllKnown after.world.log after.world.hosts
    known_after change =
        world_after script (λ (world : World). AreAllKnown world.log world.hosts) known_in_world start began known_in_step change

    pub disks_after : {before after : MomentWithPast} → MomentChange script start before after
        → OpenDisksAreMade after.world.log after.world.hosts
    disks_after {before} {after} change = open_made after.world.log after.world.hosts (known_after change)

    pub known_along : {moment : MomentWithPast} → moments.MomentTrail script start moment
        → AreAllKnown moment.world.log moment.world.hosts
    known_along trail =
        world_along script (λ (world : World). AreAllKnown world.log world.hosts) known_in_world start began known_in_step trail
