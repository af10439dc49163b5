-- In each world of a run in range the requests in the wire that ask for a row go to a target of their epoch, under the index of its part.
use Rattle.std.proofs.Common.{◌≡◌, arith, ℕ, ◌+◌, true, List, ◌++◌, length, filter, map, All, Some, sym, ap, subst, ◌∙◌}
use Rattle.std.specs.List.{enumerate_from}
use Rattle.std.specs.FinMap as tree
use Rattle.proof_tools.proofs.FiniteMaps.{get-insert_same}
use Rattle.object_id.specs.declared.entry.Entry.{Entry}
use Rattle.object_id.specs.declared.entry.Member.{Member}
use Rattle.object_id.specs.declared.node.NodeId.{NodeId}
use Rattle.object_id.specs.declared.policy.Policy.{Policy}
use Rattle.object_id.specs.Oid.{kind_of}
use Rattle.object_id.specs.Policy.{wanted_of}
use Rattle.epoch_log.specs.Appending.{IsReservable}
use Rattle.epoch_log.specs.Epochs.{begins_epoch, epoch_of, members_in}
use Rattle.epoch_log.proofs.EpochLemmas.{epoch_of-append}
use Rattle.hash_ring.specs.Circle.{hash_of_object}
use Rattle.hash_ring.specs.Placement.{targets_of}
use Rattle.vnode_table.specs.Epochs.{members_at}
use Rattle.vnode_table.specs.Targets.{targets_in}
use Rattle.cluster_script.specs.declared.statement.Statement.{Statement}
use Rattle.peer_proto.specs.declared.ask.PeerReq.{PeerReq}
use Rattle.peer_proto.specs.Work.{oid_of, policy_of}
use Rattle.vdi_directory.specs.Decisions.{log_effects}
use Rattle.peer_service.specs.State.{Peer}
use Rattle.gateway.specs.Work.{targets_asked}
use Rattle.gateway.specs.Attempt.{message_for, send_of}
use Rattle.gateway.specs.State.{Work}
use Rattle.sheep_node.specs.declared.input.Input.{Input}
use Rattle.sheep_node.specs.State.{Node}
use Rattle.sheep_node.specs.StepState.{StepState, at_first}
use Rattle.sheep_node.specs.StepFacts.{read_after, epochs_of, IsByTheLog}
use Rattle.sheep_node.specs.Step.{node_step}
use Rattle.sheep_node.specs.Changes.{input_received, with_open_attempt, WorkIsNext, Leads}
use Rattle.sheep_node.proofs.StepEffects.{Untouched, untouched_in}
use Rattle.sheep_node.proofs.StepResults.{step_peer, step_epochs, step_reads}
use Rattle.sheep_world.specs.World.{Host, World, is_host_up}
use Rattle.sheep_world.specs.LogFronts.{IsFront}
use Rattle.sheep_world.specs.NodeCauses.{NodeCause, input_of_cause, IsCause, world_after_cause}
use Rattle.sheep_world.specs.HostChanges.{host_after_step}
use Rattle.sheep_world.specs.Began.{Began, IsInvariant}
use Rattle.sheep_world.proofs.BegunWorlds.{goes_on, by_induction}
use Rattle.sheep_world.proofs.LogAtOpening.{log-holds, nodes-valid}
use Rattle.sheep_world.proofs.LogFrontLaws.{all_read}
use Rattle.sheep_world.proofs.NodesByTheLog.{by_the_log}
use Rattle.sheep_world.specs.RunsWithAsks.{Move}
use Rattle.overlap_law.specs.AskedTargets.{AsksTarget, AsksGoToTargets}
use Rattle.overlap_law.specs.Each.{policy_in}
use Rattle.overlap_law.specs.Holders.{targets_by}
use Rattle.overlap_law.specs.MomentChanges.{RunsAreInRange}
use Rattle.overlap_law.specs.Past.{MomentWithPast, run_with_past}
use Rattle.overlap_law.proofs.CausedWorks.{IsNotServed}
use Rattle.overlap_law.proofs.EpochsInRuns.{members_read}
use Rattle.overlap_law.proofs.KnownDiskSteps.{effects_after, work_known}
use Rattle.overlap_law.proofs.KnownDisksInRuns.{caused_known, read_reservable, nodes_know}
use Rattle.overlap_law.proofs.LackedAtEntries.{policy_stays}
use Rattle.overlap_law.proofs.NoRecoveredDue.{began-with_past}
use Rattle.overlap_law.proofs.PlacedRows.{some_by_policy}
use Rattle.overlap_law.proofs.SendsOfChanges.{in_order_so_far}
use Rattle.overlap_law.proofs.SendsOfWorks.{sends_for, steps_send}
use Rattle.overlap_law.proofs.SentByTheLog.{StepsSendSo, step_so, opens_so, asks_after}
use Rattle.overlap_law.proofs.SentToTargets.{SendGoesTo, targets_stay_asked, asks_no_row, policy_of_work, attempt_goes}
use Rattle.overlap_law.proofs.ShapedAttempts.{entered_newest}
use Rattle.overlap_law.proofs.WholeInRuns.{sound_world, from_beginning}
use Rattle.overlap_law.proofs.WholeSteps.{turn_whole}

-- by a log
abbrev IsTargetBy : List Entry → NodeId → PeerReq → Type 0
IsTargetBy log to request = AsksTarget log to request.epoch.0 request.ask

module _ (script : List Statement) (range : RunsAreInRange script) where
  module _ (world : World) (began : Began script world) where
    -- what a step sends
    module _ (n : ℕ) (host : Host) (there : tree.get world.hosts n ≡ Some host) (up : is_host_up host ≡ true) (cause : NodeCause)
        (caused : IsCause script world n host cause) (next : Began script (world_after_cause script n host cause world)) where
      abbrev input : Input
      input = input_of_cause cause

      abbrev entries : List Entry
      entries = read_after input host.node.peer.entries

      abbrev log_then : List Entry
      log_then = (world_after_cause script n host cause world).log

      abbrev last : Node
      last = (node_step input host.node).node

      reservable : All IsReservable entries
      reservable = read_reservable script range world n host cause next

      front : IsFront last.peer.entries log_then
      front = all_read script (world_after_cause script n host cause world) next n (host_after_step cause host)
          (get-insert_same world.hosts n (host_after_step cause host))

      log_so : log_then ≡ entries ++ front.rest
      log_so = front.is ∙ ap (λ (read : List Entry). read ++ front.rest) (step_reads input host.node)

      follows : IsByTheLog last
      follows =
          by_the_log script range.is_script range.room (world_after_cause script n host cause world) next n (host_after_step cause host)
          (get-insert_same world.hosts n (host_after_step cause host))

      module _ (so_far : StepState) (leads : Leads input host.node (input_received input (at_first host.node)) so_far) (session req : ℕ)
          (asked : Work) (lined : StepState) (comes : WorkIsNext input host.node so_far session req asked lined)
          (onward : Leads input host.node (input_received input (at_first host.node)) (with_open_attempt req asked lined)) where
        -- the node where an attempt opens knows what it knows at the end
        is_same : untouched_in (with_open_attempt req asked lined) ≡ untouched_in (input_received input (at_first host.node))
        is_same = (in_order_so_far (with_open_attempt req asked lined) onward).same

        peer_so : lined.node.peer ≡ last.peer
        peer_so = ap (λ (u : Untouched). u.peer) is_same ∙ sym (step_peer input host.node)

        epoch_so : lined.node.peer.epoch ≡ epoch_of entries
        epoch_so = ap (λ (p : Peer). p.epoch) peer_so ∙ follows.epoch_so ∙ ap epoch_of (step_reads input host.node)

        epochs_so : lined.node.epochs ≡ epochs_of entries
        epochs_so =
            ap (λ (u : Untouched). u.epochs) is_same ∙ sym (step_epochs input host.node) ∙ follows.epochs_so
            ∙ ap epochs_of (step_reads input host.node)

        targets_so : (oid : ℕ) (policy : Policy) → policy_in (log_effects entries) oid ≡ Some policy
            → targets_in lined.node.epochs lined.node.peer.epoch oid policy
            ≡ targets_by (entries ++ front.rest) lined.node.peer.epoch oid policy
        unfolding targets_in targets_by
        targets_so oid policy known =
            ap (λ (members : List Member). targets_of members (hash_of_object oid) (wanted_of policy (kind_of oid)))
            ((λ i. members_at (epochs_so i) (epoch_so i))
            ∙ members_read entries front.rest (epoch_of entries) (entered_newest entries (some_by_policy entries oid policy known))
            ∙ ap (members_in (entries ++ front.rest)) (sym epoch_so))

        -- so what it sends goes to targets
        opens : IsNotServed cause → All (SendGoesTo log_then) (sends_for asked lined.node)
        opens not =
            let known : policy_in (log_effects entries) (oid_of asked.work) ≡ Some (policy_of asked.work)
            = policy_of_work (log_effects entries) asked.work
            (from_beginning script range world began n host there up cause not caused (turn_whole input host.node) so_far leads session req
            asked lined comes)
            (work_known input host.node reservable
            (caused_known script range.is_script (effects_after input host.node) world n host cause
            (nodes-valid script range.is_script range.room world began n host there) caused)
            (nodes_know script range world began n host there) so_far leads session req asked lined comes) in
            let made : policy_in (log_effects log_then) (oid_of asked.work) ≡ Some (policy_of asked.work)
            = ap (λ (log : List Entry). policy_in (log_effects log) (oid_of asked.work)) log_so
            ∙ policy_stays entries front.rest (oid_of asked.work) (policy_of asked.work) known in
            let grows : epoch_of (entries ++ front.rest) ≡ epoch_of entries + length (filter begins_epoch front.rest)
            = epoch_of-append entries front.rest in
            let last_epoch : epoch_of log_then ≡ epoch_of (entries ++ front.rest) = ap epoch_of log_so in
            let now = epoch_so in
            let targets : targets_in lined.node.epochs lined.node.peer.epoch (oid_of asked.work) (policy_of asked.work)
            ≡ targets_by log_then lined.node.peer.epoch (oid_of asked.work) (policy_of asked.work)
            = targets_so (oid_of asked.work) (policy_of asked.work) known
            ∙ ap (λ (log : List Entry). targets_by log lined.node.peer.epoch (oid_of asked.work) (policy_of asked.work)) (sym log_so) in
            subst (λ (targets : List NodeId). All (SendGoesTo log_then)
            (map (send_of lined.node.gateway.me (record { 0 = lined.node.peer.epoch }) asked.work)
            (map (message_for asked.work) (enumerate_from lined.node.sends (targets_asked asked.work asked.ended targets))))) (sym targets)
            (attempt_goes log_then (log-holds script range.is_script range.room (world_after_cause script n host cause world) next).log
            lined.node.gateway.me (record { 0 = lined.node.peer.epoch }) asked.work (omega (arith, now, grows, last_epoch)) made
            lined.node.sends asked.ended)

      by_works : IsNotServed cause → All (SendGoesTo log_then) (input_received input (at_first host.node)).outputs.sends
          → All (SendGoesTo log_then) (node_step input host.node).outputs.sends
      by_works not received =
          steps_send (SendGoesTo log_then) input host.node
          (λ so_far leads session req asked lined comes enough onward. opens so_far leads session req asked lined comes onward not) received

    steps_send_so : StepsSendSo IsTargetBy script world
    steps_send_so n host there up cause caused next =
        let log : List Entry = (world_after_cause script n host cause world).log in
        step_so (IsTargetBy log) (λ known to request wanted is. asks_no_row log known to request.epoch.0 request.ask wanted is)
        cause host.node
        (λ not received. by_works n host there up cause caused next not received)

  -- ---- every world

  stays_so : IsInvariant script AsksGoToTargets
  stays_so = record {
    opens = record { each = opens_so IsTargetBy script };
    keeps = λ event world made began happened before. record {
      each = asks_after IsTargetBy
          (λ log more to request is. targets_stay_asked log more to request.epoch.0 request.ask is) script world began
          (steps_send_so world began) before.each event made happened
          (sound_world script range made.world (goes_on script event world made began happened)).sent;
    };
  }

  pub asks_go_to_targets : (world : World) → Began script world → AsksGoToTargets world
  asks_go_to_targets world began = by_induction script AsksGoToTargets stays_so world began

  pub targets-in_run : (events : List Move) (moment : MomentWithPast) → run_with_past script events ≡ Some moment
      → AsksGoToTargets moment.world
  targets-in_run events moment is = asks_go_to_targets moment.world (began-with_past script events moment is)
