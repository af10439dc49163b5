-- In each world of a run in range, and at each moment on the way of its events, commands are with what their sessions have open.
use Rattle.std.proofs.Common.{◌≡◌, ℕ, true, List, [], ◌∷◌, drop, length, Some}
use Rattle.std.specs.FinMap as tree
use Rattle.std.proofs.Math.Seq.{drop-length}
use Rattle.cluster_script.specs.declared.statement.Statement.{Statement}
use Rattle.cluster_script.specs.Settings.{tries_of}
use Rattle.sheep_node.specs.declared.input.Input.TheVariants as inputs
use Rattle.sheep_node.specs.Changes.{input_received, Leads}
use Rattle.sheep_node.specs.State as nodes
use Rattle.sheep_node.specs.StepFacts.{read_after}
use Rattle.sheep_node.specs.StepState.{StepState, at_first}
use Rattle.sheep_node.proofs.StepChain.{step_chain}
use Rattle.sheep_world.specs.World.{Host, World, is_host_up}
use Rattle.sheep_world.specs.Began.{Began}
use Rattle.sheep_world.specs.EventKinds.{log_after_return}
use Rattle.sheep_world.specs.HostChanges.{HostsKeep}
use Rattle.sheep_world.specs.NodeCauses.{NodeCause, input_of_cause, IsCause, log_after_cause}
use Rattle.sheep_world.specs.Opening.{format_entry}
use Rattle.sheep_world.proofs.BegunWorlds.{each_where}
use Rattle.sheep_world.specs.RunsWithAsks.{Move}
use Rattle.overlap_law.specs.CommandDisks.{OpenDisksFitCommands}
use Rattle.overlap_law.specs.Past.{MomentWithPast, run_with_past}
use Rattle.overlap_law.specs.MomentChanges.{MomentChange, MomentTrail, RunsAreInRange}
use Rattle.overlap_law.specs.Reached.{Hosts}
use Rattle.overlap_law.specs.StepMoments.{SteppingNode, IsStepping, first_in_step, LeadsInStep, StepsByChanges}
use Rattle.overlap_law.proofs.AwaitedEntriesInMoments.{meets_otherwise, meets, own_first}
use Rattle.overlap_law.proofs.AwaitedInputs.{back_awaited}
use Rattle.overlap_law.proofs.AwaitedInRuns.{opening_first, awaited_in_worlds}
use Rattle.overlap_law.proofs.NoRecoveredDue.{began-with_past}
use Rattle.overlap_law.proofs.OpenDiskChanges.{AreOpenSo, AreOpenSoFar, none_open, chain_open, received_open}
use Rattle.overlap_law.proofs.ClosedWorlds.{hosts_after, hosts_along}

-- each host's node is so
abbrev pub AreOpenAmong : Hosts → Type 0
AreOpenAmong hosts = (n : ℕ) (host : Host) → tree.get hosts n ≡ Some host → AreOpenSo host.node.requests host.node.sessions

module _ (script : List Statement) (range : RunsAreInRange script) where
  -- a step, as far as it has come
  step_open : (world : World) → Began script world → (n : ℕ) (host : Host) → tree.get world.hosts n ≡ Some host → is_host_up host ≡ true
      → AreOpenSo host.node.requests host.node.sessions → (cause : NodeCause) → IsCause script world n host cause → (so_far : StepState)
      → Leads (input_of_cause cause) host.node (input_received (input_of_cause cause) (at_first host.node)) so_far → AreOpenSoFar so_far
  step_open world began n host there up all cause so so_far leads =
      let input = input_of_cause cause in
      let read = read_after input host.node.peer.entries in
      chain_open read (drop (length read) (log_after_cause cause world.log)) input host.node
      (meets script range world began n host there up cause so) leads
      (own_first script range world began n host there up cause so (awaited_in_worlds script range world began))
      (received_open input host.node all)

  kept : HostsKeep script (Began script) (λ (world : World) (n : ℕ) (host : Host). AreOpenSo host.node.requests host.node.sessions)
  kept = record {
    opens = λ member.
        let new = nodes.initial_node member.node (tries_of script) in
        let input = inputs.LogEntry (format_entry script) in
        chain_open (format_entry script ∷ []) [] input new (meets_otherwise input new (λ req session ask from. absurd (cc (from))))
        (step_chain input new) (opening_first script range member.node) (received_open input new none_open);
    stays = λ event world made h began n host so. so;
    steps = λ world n host cause began there up caused so.
        step_open world began n host there up so cause caused _ (step_chain (input_of_cause cause) host.node);
    fails = λ world n host began so. so;
    returns = λ world n host began there so.
        let log = log_after_return script n world in
        let input = inputs.Back log in
        chain_open log (drop (length log) log) input host.node (meets_otherwise input host.node
        (λ req session ask from. absurd (cc (from)))) (step_chain input host.node)
        (back_awaited host.node log (drop (length log) log) (drop-length log)) (received_open input host.node so);
    joins = λ world n began control. none_open;
  }

  pub open_in_worlds : (world : World) → Began script world → AreOpenAmong world.hosts
  open_in_worlds =
      each_where script (Began script) (λ (world : World) (n : ℕ) (host : Host). AreOpenSo host.node.requests host.node.sessions)
      (λ world began. began) kept

  module _ (start : MomentWithPast) (began : Began script start.world) where
    in_step : (stepping : SteppingNode) → IsStepping script start.world stepping → StepsByChanges stepping.cause → (so_far : StepState)
        → LeadsInStep stepping (first_in_step stepping) so_far → AreOpenSo so_far.node.requests so_far.node.sessions
    in_step stepping is by so_far leads =
        step_open start.world began stepping.n stepping.host is.there is.up
        (open_in_worlds start.world began stepping.n stepping.host is.there) stepping.cause is.caused so_far leads

    pub open_after : {before after : MomentWithPast} → MomentChange script start before after → AreOpenAmong after.world.hosts
    open_after change =
        hosts_after script (λ (n : ℕ) (host : Host). AreOpenSo host.node.requests host.node.sessions) open_in_worlds start began in_step
        change

    along_trail : {moment : MomentWithPast} → MomentTrail script start moment → AreOpenAmong moment.world.hosts
    along_trail trail =
        hosts_along script (λ (n : ℕ) (host : Host). AreOpenSo host.node.requests host.node.sessions) open_in_worlds start began in_step
        trail

  pub disks_fit-in_run : (events : List Move) (start moment : MomentWithPast) → run_with_past script events ≡ Some start
      → MomentTrail script start moment → OpenDisksFitCommands moment.world.hosts
  disks_fit-in_run events start moment is trail = record {
    each = λ n host there up req request got. along_trail start (began-with_past script events start is) trail n host there req request got;
  }
