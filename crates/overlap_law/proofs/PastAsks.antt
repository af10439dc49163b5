-- In each world of a run in range a node waits for what it asked in an epoch that it came to, and what it sends in its next step is of such
-- an epoch too.
use Rattle.std.proofs.Common.{◌≡◌, ⊎_elim, arith, ℕ, ◌≤◌, true, List, [], ◌++◌, Contains, Option, Some, refl, sym, ap, subst, ◌∙◌}
use Rattle.std.specs.FinMap as tree
use Rattle.proof_tools.proofs.Booleans.{cond_either}
use Rattle.proof_tools.proofs.Lists.{Contains-nil}
use Rattle.object_id.specs.declared.entry.Member.{Member}
use Rattle.object_id.specs.declared.entry.Entry.TheVariants.{Format}
use Rattle.object_id.specs.declared.node.NodeId.{NodeId}
use Rattle.cluster_script.specs.declared.statement.Statement.{Statement}
use Rattle.cluster_script.specs.Settings.{tries_of, opening_members}
use Rattle.peer_proto.specs.declared.ask.PeerReq.{PeerReq}
use Rattle.peer_service.specs.LogReading.{read_entry, decision_on, without_objects}
use Rattle.gateway.specs.State as gateways
use Rattle.recovery.specs.State as recoveries
use Rattle.sheep_node.specs.declared.course.Request.{Request}
use Rattle.sheep_node.specs.declared.input.Input.TheVariants as inputs
use Rattle.sheep_node.specs.State as nodes
use Rattle.sheep_node.specs.State.{Node}
use Rattle.sheep_node.specs.StepState.{StepState, at_first, with_node}
use Rattle.sheep_node.specs.LogReading.{asker_of, decision_told, entry_read, on_log_entry}
use Rattle.sheep_node.specs.Step.{on_input, is_due, with_recovered, recovered_put, node_step}
use Rattle.sheep_node.proofs.StepChain.{step_chain}
use Rattle.sheep_world.specs.World.{Host, World, is_host_up}
use Rattle.sheep_world.specs.Opening.{initial_member_node}
use Rattle.sheep_world.specs.WireMatch.{asked_by, asked_by_gateway, asked_by_recovery}
use Rattle.sheep_world.specs.NodeCauses.{NodeCause, GuestAsks, RequestComes, ReplyComes, LossIsTold, EntryIsRead, EntryIsPut, RecoveryTicks}
use Rattle.sheep_world.specs.NodeCauses.{WorkIsRetried, ClientAsks, input_of_cause, event_of_cause, IsCause, world_after_cause}
use Rattle.sheep_world.specs.EventKinds.{log_after_return, outcome_of_step}
use Rattle.sheep_world.specs.HostChanges.{HostsKeep}
use Rattle.sheep_world.specs.Began.{Began}
use Rattle.sheep_world.proofs.BegunWorlds.{each_where, goes_on}
use Rattle.sheep_world.proofs.LostReplies.{asked_by-opening}
use Rattle.sheep_world.proofs.ReturningNodes.{asked_by-renewed, stepped_renewed}
use Rattle.sheep_world.proofs.StepsByCause.{served_silent}
use Rattle.sheep_world.proofs.WireAtOpening.{nobody_asks}
use Rattle.overlap_law.specs.StepMoments.{SteppingNode, IsStepping, StepsByChanges}
use Rattle.overlap_law.specs.MomentChanges.{RunsAreInRange}
use Rattle.overlap_law.proofs.AskedEpochs.{no_more, SendsInThePast, ticked_in_epoch, read_epoch, step_recovers, back_recovers}
use Rattle.overlap_law.proofs.EpochsRise.{stepped_rises}
use Rattle.overlap_law.proofs.KnownSteps.{known_at}
use Rattle.overlap_law.proofs.SendsOfChanges.{received_nothing, sends_in_epoch, put_sends}

-- what a node waits for, and its recovery, is of an epoch that the node came to
pub record AsksInThePast (node : Node) : Type 0 where
  pub asked : (send : NodeId × PeerReq) → Contains (asked_by node) send → send.1.epoch.0 ≤ node.peer.epoch
  pub recovers : node.recovery.epoch ≤ node.peer.epoch

asks_nothing : (node : Node) → asked_by node ≡ [] → node.recovery.epoch ≤ node.peer.epoch → AsksInThePast node
asks_nothing node none recovers = record {
  asked = λ send there. absurd (Contains-nil send (subst (λ (sends : List (NodeId × PeerReq)). Contains sends send) none there));
  recovers = recovers;
}

-- ---- an opening member

record IsIdle (me : NodeId) (tries : ℕ) (node : Node) : Type 0 where
  me_so : node.me ≡ me
  gateway_so : node.gateway ≡ gateways.initial_gateway me tries
  recovery_so : node.recovery ≡ recoveries.initial_recovery me
  epoch_so : node.peer.epoch ≡ 1

idle_asks : (me : NodeId) (tries : ℕ) (node : Node) → IsIdle me tries node → AsksInThePast node
idle_asks me tries node idle =
    let recovery : node.recovery.epoch ≡ 1 = ap (λ (r : recoveries.Recovery). r.epoch) idle.recovery_so in
    asks_nothing node
    ((λ i. asked_by_gateway (idle.me_so i) (idle.gateway_so i) ++ asked_by_recovery (idle.recovery_so i)) ∙ asked_by-opening me tries)
    (no_more (recovery ∙ sym idle.epoch_so))

read_idle : (me : NodeId) (tries : ℕ) (members : List Member) → IsIdle me tries (entry_read (Format members) (nodes.initial_node me tries))
unfolding entry_read read_entry without_objects
read_idle me tries members =
    record { me_so = refl; gateway_so = refl; recovery_so = refl; epoch_so = read_epoch (Format members) (nodes.initial_node me tries) }

put_idle : (me : NodeId) (tries : ℕ) (so_far : StepState) → IsIdle me tries so_far.node → IsIdle me tries (recovered_put so_far).node
unfolding recovered_put
put_idle me tries so_far idle =
    cond_either (λ (so_far : StepState). IsIdle me tries so_far.node) (is_due so_far.node) (with_recovered so_far) so_far
    (record { me_so = idle.me_so; gateway_so = idle.gateway_so; recovery_so = idle.recovery_so; epoch_so = idle.epoch_so }) idle

stepped_idle : (me : NodeId) (tries : ℕ) (members : List Member)
    → IsIdle me tries (node_step (inputs.LogEntry (Format members)) (nodes.initial_node me tries)).node
unfolding node_step on_input on_log_entry
stepped_idle me tries members =
    let node = nodes.initial_node me tries in
    let so_far = with_node (entry_read (Format members) node) (at_first node) in
    put_idle me tries
    (decision_told (decision_on (Format members) node.peer) (asker_of (Format members) node) so_far)
    (subst (λ (o : Option (ℕ × Request)). IsIdle me tries (decision_told (decision_on (Format members) node.peer) o so_far).node)
    (sym (nobody_asks (Format members) me tries)) (read_idle me tries members))

-- ---- a step

module _ (script : List Statement) (range : RunsAreInRange script) (world : World) (began : Began script world) where
  module _ (n : ℕ) (host : Host) (past : AsksInThePast host.node) where
    abbrev Rises : NodeCause → Type 0
    Rises cause = host.node.peer.epoch ≤ (node_step (input_of_cause cause) host.node).node.peer.epoch

    by_changes : (cause : NodeCause) → StepsByChanges cause → SendsInThePast (input_of_cause cause) host.node
    by_changes cause by send there =
        no_more (sends_in_epoch (received_nothing cause host.node by).1 (node_step (input_of_cause cause) host.node)
        (step_chain (input_of_cause cause) host.node) send there)

    no_sends : (sends : List (NodeId × PeerReq)) → sends ≡ [] → {P : Type 0} (send : NodeId × PeerReq) → Contains sends send → P
    no_sends sends none send there = absurd (Contains-nil send (subst (λ (all : List (NodeId × PeerReq)). Contains all send) none there))

    sends_past : (cause : NodeCause) → Rises cause → SendsInThePast (input_of_cause cause) host.node
    sends_past (GuestAsks session req ask) rises send there = by_changes (GuestAsks session req ask) tt send there
    sends_past (RequestComes name to request) rises send there =
        no_sends (node_step (inputs.Request request) host.node).outputs.sends (served_silent request host.node) send there
    sends_past (ReplyComes name from rsp) rises send there = by_changes (ReplyComes name from rsp) tt send there
    sends_past (LossIsTold name packet) rises send there = by_changes (LossIsTold name packet) tt send there
    sends_past (EntryIsRead entry) rises send there = by_changes (EntryIsRead entry) tt send there
    sends_past (EntryIsPut entry) rises send there =
        no_sends (node_step inputs.Put host.node).outputs.sends (put_sends host.node) send there
    sends_past RecoveryTicks rises send there =
        let own = ticked_in_epoch host.node send there in
        let before = past.recovers in
        omega (arith, own, before, rises)
    sends_past WorkIsRetried rises send there = by_changes WorkIsRetried tt send there
    sends_past (ClientAsks req ask) rises send there = by_changes (ClientAsks req ask) tt send there

    asks_after : (cause : NodeCause) → tree.get world.hosts n ≡ Some host → is_host_up host ≡ true → IsCause script world n host cause
        → Began script (world_after_cause script n host cause world) → AsksInThePast (node_step (input_of_cause cause) host.node).node
    asks_after cause there up caused next =
        let rises = stepped_rises script range world began n host cause there next in
        let known = known_at script range world began n host cause there up caused next in
        record {
          asked = λ send asks. ⊎_elim
              (λ old. let before = past.asked send old.0 in omega (arith, before, rises))
              (λ (new : Contains (node_step (input_of_cause cause) host.node).outputs.sends send). sends_past cause rises send new)
              (known.asking.asked send asks);
          recovers = step_recovers (input_of_cause cause) host.node rises past.recovers;
        }

-- ---- every world

module _ (script : List Statement) (range : RunsAreInRange script) where
  -- so it is of each host, in the worlds of a run
  abbrev AsksWhereBegun : World → ℕ → Host → Type 0
  AsksWhereBegun world n host = Began script world → AsksInThePast host.node

  asks_kept : HostsKeep script (Began script) AsksWhereBegun
  asks_kept = record {
    opens = λ member begun.
        idle_asks member.node (tries_of script) (initial_member_node script member)
        (stepped_idle member.node (tries_of script) (opening_members script));
    stays = λ event world made h began n host so begun. so began;
    steps = λ world n host cause began there up caused so next. asks_after script range world began n host (so began) cause there up caused
        next;
    fails = λ world n host began so. so;
    returns = λ world n host began there so next.
        let log = log_after_return script n world in
        asks_nothing (node_step (inputs.Back log) host.node).node
        (asked_by-renewed host.node.me host.node.gateway.tries (node_step (inputs.Back log) host.node).node
        (stepped_renewed log host.node).node_so) (no_more (back_recovers log host.node));
    joins = λ world n began control next.
        asks_nothing (nodes.initial_node (record { 0 = n }) (tries_of script)) (asked_by-opening (record { 0 = n }) (tries_of script))
        (no_more refl);
  }

  pub asks_in_past : (world : World) → Began script world → (n : ℕ) (host : Host) → tree.get world.hosts n ≡ Some host
      → AsksInThePast host.node
  asks_in_past world began n host there =
      each_where script (Began script) AsksWhereBegun (λ world begun. begun) asks_kept world began n host there began

  pub step_in_past : (world : World) (began : Began script world) (stepping : SteppingNode) → IsStepping script world stepping
      → SendsInThePast (input_of_cause stepping.cause) stepping.host.node
  step_in_past world began stepping is =
      sends_past script range world began stepping.n stepping.host (asks_in_past world began stepping.n stepping.host is.there)
      stepping.cause (stepped_rises script range world began stepping.n stepping.host stepping.cause is.there
      (goes_on script (event_of_cause stepping.n stepping.cause) world
      (outcome_of_step script stepping.n stepping.host stepping.cause world) began is.made))
