-- In each world of a run in range, and at each moment on the way of its events, the works of a node are those that its requests wait for,
-- each with what its session may have open for it.
use Rattle.std.proofs.Common.{◌≡◌, ℕ, List, [], All, Some, subst, arith}
use Rattle.std.specs.FinMap as tree
use Rattle.std.proofs.lemmas.Bool.{le-leb}
use Rattle.proof_tools.proofs.FiniteMaps.{get-insert_same}
use Rattle.epoch_log.specs.Appending.{IsReservable}
use Rattle.cluster_script.specs.declared.statement.Statement.{Statement}
use Rattle.cluster_script.specs.Settings.{tries_of}
use Rattle.peer_service.specs.State.{effects_of}
use Rattle.sheep_node.specs.declared.input.Input.TheVariants as inputs
use Rattle.sheep_node.specs.declared.limits.TheConstants.{SENDS_MAX}
use Rattle.sheep_node.specs.State as nodes
use Rattle.sheep_node.specs.StepState.{StepState}
use Rattle.sheep_node.proofs.NumberChanges.{one_work_at_opening}
use Rattle.sheep_node.proofs.QueueChanges.{none_queued}
use Rattle.sheep_node.proofs.SoleCommands.{commands_alone_at_opening}
use Rattle.sheep_node.proofs.StepChain.{step_chain}
use Rattle.sheep_node.proofs.StepResults.{step_reads}
use Rattle.sheep_node.proofs.ValidLaws.{valid_disks_stay, valid_disks_at_opening}
use Rattle.sheep_world.specs.Began.{Began}
use Rattle.sheep_world.specs.EventKinds.{log_after_return, world_after_return, outcome_of_step}
use Rattle.sheep_world.specs.HostChanges.{HostsKeep, host_after_return}
use Rattle.sheep_world.specs.NodeCauses.{input_of_cause, event_of_cause, world_after_cause}
use Rattle.sheep_world.specs.Opening.{format_entry, initial_world}
use Rattle.sheep_world.specs.World.{Host, World}
use Rattle.sheep_world.proofs.BegunWorlds.{each_where, goes_on}
use Rattle.sheep_world.proofs.LogAtOpening.{opens_log, nodes-valid}
use Rattle.sheep_world.proofs.ValidNodes.{first_may}
use Rattle.overlap_law.specs.MomentChanges.{MomentChange, MomentTrail, RunsAreInRange}
use Rattle.overlap_law.specs.Past.{MomentWithPast}
use Rattle.overlap_law.specs.Reached.{Hosts}
use Rattle.overlap_law.specs.StepMoments.{SteppingNode, IsStepping, StepsByChanges, first_in_step, LeadsInStep}
use Rattle.overlap_law.proofs.AllowedCourses.{none_allowed, allowed_in_chain}
use Rattle.overlap_law.proofs.CausedWorks.{HasWellWorks, IsPlaced, back_allowed, by_changes, few_from, own_then, step_allowed, well_then}
use Rattle.overlap_law.proofs.KnownDiskSteps.{none_known}
use Rattle.overlap_law.proofs.KnownDisksInRuns.{nodes_know}
use Rattle.overlap_law.proofs.KnownSteps.{together}
use Rattle.overlap_law.proofs.OwnMakingChanges.{none_own, own_in_chain}
use Rattle.overlap_law.proofs.RoomOfSessions.{guests_sound}
use Rattle.overlap_law.proofs.ClosedWorlds.{hosts_after, hosts_along}

-- each node has its works so
abbrev pub HaveWellWorks : Hosts → Type 0
HaveWellWorks hosts = (n : ℕ) (host : Host) → tree.get hosts n ≡ Some host → HasWellWorks host.node

module _ (script : List Statement) (range : RunsAreInRange script) where
  abbrev PlacedWhereBegun : World → ℕ → Host → Type 0
  PlacedWhereBegun world n host = Began script world → IsPlaced host.node

  placed_kept : HostsKeep script (Began script) PlacedWhereBegun
  unfolding initial_world
  placed_kept = record {
    opens = λ member begun.
        let new = nodes.initial_node member.node (tries_of script) in
        let input = inputs.LogEntry (format_entry script) in
        let one = one_work_at_opening member.node (tries_of script) in
        let reservable = subst (All IsReservable) (step_reads input new)
        (valid_disks_stay input new tt (valid_disks_at_opening member.node (tries_of script))).read in (
          allowed_in_chain input new
              (record {
                numbers = le-leb 0 SENDS_MAX (omega arith);
                condition = first_may (format_entry script) [] (opens_log script range.is_script).log;
              })
              none_queued (commands_alone_at_opening member.node (tries_of script)) (λ req session work from. absurd (cc (from)))
              none_allowed _ (step_chain input new),
          own_in_chain input new (tt, one) (few_from input new reservable tt (none_known (effects_of new.peer))) none_own _
              (step_chain input new),
        );
    stays = λ event world made h began n host so begun. so began;
    steps = λ world n host cause began there up caused so next. (
      step_allowed script range world began n host there up cause caused next (so began),
      own_then script range world began n host there up cause caused next (so began) _ (step_chain (input_of_cause cause) host.node),
    );
    fails = λ world n host began so. so;
    returns = λ world n host began there so next.
        let log = log_after_return script n world in
        let input = inputs.Back log in
        let after = host_after_return log host in
        let reservable = subst (All IsReservable) (step_reads input host.node)
        (nodes-valid script range.is_script range.room (world_after_return script n host world) next n after
        (get-insert_same world.hosts n after)).read in (
          back_allowed log host.node,
          own_in_chain input host.node (tt, (together script range world began).driven n host there)
              (few_from input host.node reservable tt (nodes_know script range world began n host there)) (so began).1 _
              (step_chain input host.node),
        );
    joins = λ world n began control next. (none_allowed, none_own);
  }

  pub well_in_world : (world : World) → Began script world → HaveWellWorks world.hosts
  well_in_world world began n host there =
      let placed = each_where script (Began script) PlacedWhereBegun (λ world begun. begun) placed_kept world began n host there began in
      let guests = guests_sound script range world began n host there in
      record {
        one_work = ((together script range world began).driven n host there).driven;
        alone = guests.alone;
        wanted = guests.wanted;
        allowed = placed.0;
        own = placed.1;
        known = effects_of host.node.peer;
        on_known = nodes_know script range world began n host there;
      }

  -- ---- along trails

  module _ (start : MomentWithPast) (began : Began script start.world) where
    has_ended : (stepping : SteppingNode) → IsStepping script start.world stepping
        → Began script (world_after_cause script stepping.n stepping.host stepping.cause start.world)
    has_ended stepping is =
        goes_on script (event_of_cause stepping.n stepping.cause) start.world
        (outcome_of_step script stepping.n stepping.host stepping.cause start.world) began is.made

    pub in_step : (stepping : SteppingNode) → IsStepping script start.world stepping → StepsByChanges stepping.cause → (so_far : StepState)
        → LeadsInStep stepping (first_in_step stepping) so_far → HasWellWorks so_far.node
    in_step stepping is by so_far leads =
        let before = well_in_world start.world began stepping.n stepping.host is.there in
        well_then script range start.world began stepping.n stepping.host is.there is.up stepping.cause is.caused (has_ended stepping is)
        (before.allowed, before.own) (by_changes stepping.cause by) so_far leads

    pub well_after : {before after : MomentWithPast} → MomentChange script start before after → HaveWellWorks after.world.hosts
    well_after change = hosts_after script (λ (n : ℕ) (host : Host). HasWellWorks host.node) well_in_world start began in_step change

    pub well_along : {moment : MomentWithPast} → MomentTrail script start moment → HaveWellWorks moment.world.hosts
    well_along trail = hosts_along script (λ (n : ℕ) (host : Host). HasWellWorks host.node) well_in_world start began in_step trail
