-- In each world of a run in range, and at each moment on the way of its events, the queues and lines of a node's sessions go with its
-- requests and works.
use Rattle.std.proofs.Common.{◌≡◌, arith, ℕ, true, List, [], Some}
use Rattle.std.specs.FinMap as tree
use Rattle.std.proofs.lemmas.Bool.{le-leb}
use Rattle.proof_tools.proofs.Booleans.{cond_either}
use Rattle.object_id.specs.declared.entry.Entry.{Entry}
use Rattle.cluster_script.specs.declared.statement.Statement.{Statement}
use Rattle.cluster_script.specs.Settings.{tries_of}
use Rattle.peer_proto.specs.declared.ask.PeerReq.{PeerReq}
use Rattle.sheep_node.specs.declared.input.Input.{Input}
use Rattle.sheep_node.specs.declared.input.Input.TheVariants as inputs
use Rattle.sheep_node.specs.declared.limits.TheConstants.{SENDS_MAX}
use Rattle.sheep_node.specs.Changes.{IsSoundStep, input_received, Leads}
use Rattle.sheep_node.specs.LogReading.{on_back}
use Rattle.sheep_node.specs.OpenLines.{LinesAreOpen, HasOpenLines}
use Rattle.sheep_node.specs.SessionQueues.{QueuesAreDiskRequests}
use Rattle.sheep_node.specs.State as nodes
use Rattle.sheep_node.specs.State.{Node}
use Rattle.sheep_node.specs.Step.{on_request, is_due, with_recovered, recovered_put, on_input, node_step}
use Rattle.sheep_node.specs.StepState.{StepState, at_first, with_node}
use Rattle.sheep_node.proofs.LineChanges.{StepIsLined, change_keeps_lined, none_lined}
use Rattle.sheep_node.proofs.NumberChanges.{one_work_at_opening}
use Rattle.sheep_node.proofs.OneWorkChanges.{StepHasOneWork, change_keeps_one_work, received_one_work}
use Rattle.sheep_node.proofs.QueueChanges.{none_queued}
use Rattle.sheep_node.proofs.ReceivedInputs.{received_keeps}
use Rattle.sheep_node.proofs.SoleCommands.{commands_alone_at_opening}
use Rattle.sheep_node.proofs.StepChain.{kept_by_chain, step_chain}
use Rattle.sheep_world.specs.Began.{Began}
use Rattle.sheep_world.specs.EventKinds.{log_after_return}
use Rattle.sheep_world.specs.HostChanges.{HostsKeep}
use Rattle.sheep_world.specs.NodeCauses.{NodeCause, GuestAsks, RequestComes, ReplyComes, LossIsTold, EntryIsRead, EntryIsPut, RecoveryTicks}
use Rattle.sheep_world.specs.NodeCauses.{WorkIsRetried, ClientAsks, input_of_cause, IsCause}
use Rattle.sheep_world.specs.Opening.{format_entry, initial_world}
use Rattle.sheep_world.specs.World.{Host, World, is_host_up}
use Rattle.sheep_world.proofs.BegunWorlds.{each_where}
use Rattle.sheep_world.proofs.LogAtOpening.{opens_log}
use Rattle.sheep_world.proofs.StepsByCause.{IsReady, sound_step}
use Rattle.sheep_world.proofs.ValidNodes.{first_may}
use Rattle.sheep_world.proofs.WireAtEvents.{is_ready}
use Rattle.overlap_law.specs.MomentChanges.{MomentChange, RunsAreInRange}
use Rattle.overlap_law.specs.Past.{MomentWithPast}
use Rattle.overlap_law.specs.Reached.{Hosts}
use Rattle.overlap_law.proofs.CausedWorks.{IsNotServed, by_changes, caused_may}
use Rattle.overlap_law.proofs.CoveredCourses.{AreCovered, CoveredSoFar, none_covered, covered_in_chain}
use Rattle.overlap_law.proofs.KnownSteps.{together}
use Rattle.overlap_law.proofs.QueueOnce.{AreOnceIn, once_so_far}
use Rattle.overlap_law.proofs.RoomOfSessions.{HasSoundGuests, guests_sound}
use Rattle.overlap_law.proofs.ClosedWorlds.{hosts_after}

-- a node's queues have its reads and writes, each once, and cover what they haven't come to; and its lines go with its works
pub record HasGoodQueues (node : Node) : Type 0 where
  pub queues : QueuesAreDiskRequests node
  pub once : AreOnceIn node.sessions
  pub covered : AreCovered node.requests node.sessions
  pub lines : HasOpenLines node

abbrev pub HaveGoodQueues : Hosts → Type 0
HaveGoodQueues hosts = (n : ℕ) (host : Host) → tree.get hosts n ≡ Some host → HasGoodQueues host.node

-- the lines, in the middle of a step
lined_in_chain : (input : Input) (node : Node) → IsSoundStep input node → HasOpenLines node → (so_far : StepState)
    → Leads input node (input_received input (at_first node)) so_far → StepIsLined so_far
lined_in_chain input node sound lined so_far leads =
    (kept_by_chain (λ so_far. StepHasOneWork so_far × StepIsLined so_far)
    (λ so_far next change all.
    (change_keeps_one_work so_far next change sound all.0, change_keeps_lined sound so_far next change all.0 all.1)) leads (
      received_one_work input node sound.1.driven,
      received_keeps (λ works requests sessions. LinesAreOpen works requests sessions) none_lined input node lined,
    )).1

-- ---- a request that is served leaves requests and sessions, and a node that comes back has none

due_covered : (so_far : StepState) → CoveredSoFar so_far → CoveredSoFar (recovered_put so_far)
unfolding recovered_put
due_covered so_far is = cond_either CoveredSoFar (is_due so_far.node) (with_recovered so_far) so_far is is

served_covered : (request : PeerReq) (node : Node) → AreCovered node.requests node.sessions
    → AreCovered (node_step (inputs.Request request) node).node.requests (node_step (inputs.Request request) node).node.sessions
unfolding node_step on_input on_request
served_covered request node is = due_covered (on_request request (at_first node)) is

back_covered : (entries : List Entry) (node : Node)
    → AreCovered (node_step (inputs.Back entries) node).node.requests (node_step (inputs.Back entries) node).node.sessions
unfolding node_step on_input on_back
back_covered entries node = due_covered (with_node (on_back entries node) (at_first node)) none_covered

module _ (script : List Statement) (range : RunsAreInRange script) where
  -- ---- a step

  module _ (world : World) (began : Began script world) (n : ℕ) (host : Host) (there : tree.get world.hosts n ≡ Some host)
      (up : is_host_up host ≡ true) where
    ready : IsReady script world n host
    ready = is_ready script world (together script range world began) n host there up

    guests : HasSoundGuests host.node
    guests = guests_sound script range world began n host there

    module _ (cause : NodeCause) (not : IsNotServed cause) (so : IsCause script world n host cause)
        (covered : AreCovered host.node.requests host.node.sessions)
        (so_far : StepState) (leads : Leads (input_of_cause cause) host.node (input_received (input_of_cause cause) (at_first host.node))
        so_far) where
      covered_then : CoveredSoFar so_far
      covered_then =
          covered_in_chain (input_of_cause cause) host.node (caused_may script range world began n host there up cause not so)
          (sound_step script world n host cause so ready) guests.queues guests.alone covered so_far leads

      pub queues_then : HasGoodQueues so_far.node
      queues_then =
          let sound = sound_step script world n host cause so ready in
          let both = once_so_far sound leads guests.queues guests.once in
          record {
            queues = both.0;
            once = both.1;
            covered = covered_then;
            lines = lined_in_chain (input_of_cause cause) host.node sound guests.lines so_far leads;
          }

    step_covered : (cause : NodeCause) → IsCause script world n host cause → AreCovered host.node.requests host.node.sessions
        → AreCovered (node_step (input_of_cause cause) host.node).node.requests (node_step (input_of_cause cause) host.node).node.sessions
    step_covered (GuestAsks session req ask) so covered =
        covered_then (GuestAsks session req ask) tt so covered _ (step_chain (input_of_cause (GuestAsks session req ask)) host.node)
    step_covered (RequestComes name to request) so covered = served_covered request host.node covered
    step_covered (ReplyComes name from rsp) so covered =
        covered_then (ReplyComes name from rsp) tt so covered _ (step_chain (input_of_cause (ReplyComes name from rsp)) host.node)
    step_covered (LossIsTold name packet) so covered =
        covered_then (LossIsTold name packet) tt so covered _ (step_chain (input_of_cause (LossIsTold name packet)) host.node)
    step_covered (EntryIsRead entry) so covered =
        covered_then (EntryIsRead entry) tt so covered _ (step_chain (input_of_cause (EntryIsRead entry)) host.node)
    step_covered (EntryIsPut entry) so covered =
        covered_then (EntryIsPut entry) tt so covered _ (step_chain (input_of_cause (EntryIsPut entry)) host.node)
    step_covered RecoveryTicks so covered = covered_then RecoveryTicks tt so covered _ (step_chain (input_of_cause RecoveryTicks) host.node)
    step_covered WorkIsRetried so covered = covered_then WorkIsRetried tt so covered _ (step_chain (input_of_cause WorkIsRetried) host.node)
    step_covered (ClientAsks req ask) so covered =
        covered_then (ClientAsks req ask) tt so covered _ (step_chain (input_of_cause (ClientAsks req ask)) host.node)

  -- ---- each world

  covered_kept : HostsKeep script (Began script) (λ (world : World) (n : ℕ) (host : Host). AreCovered host.node.requests host.node.sessions)
  unfolding initial_world
  covered_kept = record {
    opens = λ member.
        let new = nodes.initial_node member.node (tries_of script) in
        let input = inputs.LogEntry (format_entry script) in
        covered_in_chain input new
        (record {
          numbers = le-leb 0 SENDS_MAX (omega arith);
          condition = first_may (format_entry script) [] (opens_log script range.is_script).log;
        })
        (tt, one_work_at_opening member.node (tries_of script)) none_queued (commands_alone_at_opening member.node (tries_of script))
        none_covered _ (step_chain input new);
    stays = λ event world made h began n host so. so;
    steps = λ world n host cause began there up caused so. step_covered world began n host there up cause caused so;
    fails = λ world n host began so. so;
    returns = λ world n host began there so. back_covered (log_after_return script n world) host.node;
    joins = λ world n began control. none_covered;
  }

  pub covered_in_world : (world : World) → Began script world → (n : ℕ) (host : Host) → tree.get world.hosts n ≡ Some host
      → AreCovered host.node.requests host.node.sessions
  covered_in_world =
      each_where script (Began script) (λ (world : World) (n : ℕ) (host : Host). AreCovered host.node.requests host.node.sessions)
      (λ world began. began) covered_kept

  pub queues_in_world : (world : World) → Began script world → HaveGoodQueues world.hosts
  queues_in_world world began n host there =
      let guests = guests_sound script range world began n host there in
      record { queues = guests.queues; once = guests.once; covered = covered_in_world world began n host there; lines = guests.lines }

  -- ---- along trails

  module _ (start : MomentWithPast) (began : Began script start.world) where
    pub queues_after : {before after : MomentWithPast} → MomentChange script start before after → HaveGoodQueues after.world.hosts
    queues_after change =
        hosts_after script (λ (n : ℕ) (host : Host). HasGoodQueues host.node) queues_in_world start began
        (λ stepping is by so_far leads.
        queues_then start.world began stepping.n stepping.host is.there is.up stepping.cause (by_changes stepping.cause by) is.caused
        (covered_in_world start.world began stepping.n stepping.host is.there) so_far leads) change
