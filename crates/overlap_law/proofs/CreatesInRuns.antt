-- In each world of a run the creates in the wire, and the rows of the nodes, are as the rows of their objects are, if nodes have rows of
-- few objects.
use Rattle.std.proofs.Common.{◌≡◌, ℕ, true, List, ◌++◌, All, Some, ap, ◌∙◌}
use Rattle.std.specs.FinMap as tree
use Rattle.proof_tools.proofs.FiniteMaps.{get-insert_same}
use Rattle.object_id.specs.declared.entry.Entry.{Entry}
use Rattle.object_id.specs.declared.node.NodeId.{NodeId}
use Rattle.epoch_log.specs.Appending.{IsReservable}
use Rattle.cluster_script.specs.declared.statement.Statement.{Statement}
use Rattle.cluster_script.specs.Language.{IsScript}
use Rattle.peer_proto.specs.declared.ask.PeerAsk.{PeerAsk}
use Rattle.peer_proto.specs.declared.ask.PeerAsk.TheVariants as asks
use Rattle.peer_proto.specs.declared.ask.PeerReq.{PeerReq}
use Rattle.peer_proto.specs.declared.work.ObjWork.{ObjWork}
use Rattle.vdi_directory.specs.declared.effect.Effect.{Effect}
use Rattle.vdi_directory.specs.Decisions.{log_effects}
use Rattle.sheep_node.specs.declared.event.Event.{Event}
use Rattle.sheep_node.specs.declared.input.Input.{Input}
use Rattle.sheep_node.specs.StepState.{at_first}
use Rattle.sheep_node.specs.StepFacts.{read_after}
use Rattle.sheep_node.specs.Step.{node_step}
use Rattle.sheep_node.specs.May.{May}
use Rattle.sheep_node.specs.Changes.{input_received}
use Rattle.sheep_node.proofs.StepResults.{step_reads}
use Rattle.sheep_node.proofs.ValidLaws.{reservable_after, valid_input}
use Rattle.sheep_world.specs.World.{Host, World, is_host_up}
use Rattle.sheep_world.specs.Opening.{initial_world}
use Rattle.sheep_world.specs.Step.{EventOutcome}
use Rattle.sheep_world.specs.NodeCauses.{NodeCause, input_of_cause, IsCause, world_after_cause}
use Rattle.sheep_world.specs.HostChanges.{host_after_step}
use Rattle.sheep_world.specs.Began.{Began, IsInvariant, MakesMove}
use Rattle.sheep_world.specs.LogHolds.{MayGrow}
use Rattle.sheep_world.specs.HoldsTogether.{RepliesFit}
use Rattle.sheep_world.proofs.BegunWorlds.{by_induction}
use Rattle.sheep_world.proofs.LogFrontLaws.{all_read}
use Rattle.sheep_world.proofs.LogAtOpening.{nodes-valid}
use Rattle.overlap_law.specs.RowsInRange.{RowsCanBeTold, CreatesAsRowsAre, CreatesAreInRange, ObjectsAreFew}
use Rattle.overlap_law.proofs.CausedWorks.{IsNotServed, not_served}
use Rattle.overlap_law.proofs.FittingReplies.{replies_fit}
use Rattle.overlap_law.proofs.GrantedEpochs.{spec_known, spec_stays}
use Rattle.overlap_law.proofs.KnownAsks.{IsKnownAsk}
use Rattle.overlap_law.proofs.KnownDisks.{IsKnownWork}
use Rattle.overlap_law.proofs.KnownDiskSteps.{effects_after, work_grows}
use Rattle.overlap_law.proofs.KnownDisksInRuns.{caused_known, nodes_know_by}
use Rattle.overlap_law.proofs.RowsInRuns.{EachHasRows, told_where_rows, create_stays, both_open, both_after}
use Rattle.overlap_law.proofs.SentByTheLog.{StepsSendSo, step_so, opens_so, asks_after}
use Rattle.overlap_law.proofs.SentCreates.{SentSo, step_sends_so}
use Rattle.overlap_law.proofs.SoundWorlds.{IsSoundWorld, asks_on_may, names_objects}

-- by a log
abbrev IsCreateBy : List Entry → NodeId → PeerReq → Type 0
IsCreateBy log to request = CreatesAsRowsAre (log_effects log) request.ask

-- a recovery creates nothing
asks_nothing : (effects known : List Effect) (ask : PeerAsk) (wanted : ℕ) → IsKnownAsk known ask wanted → CreatesAsRowsAre effects ask
asks_nothing effects known (asks.Create key size offset bytes) wanted is = absurd is
asks_nothing effects known (asks.Write key offset bytes) wanted is = absurd is
asks_nothing effects known (asks.Read key offset size) wanted is = absurd is
asks_nothing effects known asks.List wanted is = tt
asks_nothing effects known (asks.RecoverRead oid level) wanted is = tt

module _ (script : List Statement) (is_script : IsScript script) (grows : (world : World) → Began script world → MayGrow world) where
  module _ (world : World) (began : Began script world) (is : IsSoundWorld script world)
      (before : EachHasRows (log_effects world.log) world)
      (few : ObjectsAreFew world) (creates : CreatesAreInRange world) where
    abbrev replies : RepliesFit world
    replies = replies_fit script is_script grows world began is (told_where_rows world few before)

    -- what a step sends
    module _ (n : ℕ) (host : Host) (there : tree.get world.hosts n ≡ Some host) (up : is_host_up host ≡ true) (cause : NodeCause)
        (caused : IsCause script world n host cause) (next : Began script (world_after_cause script n host cause world)) where
      abbrev input : Input
      input = input_of_cause cause

      abbrev effects : List Effect
      effects = log_effects (world_after_cause script n host cause world).log

      later : (work : ObjWork) → IsKnownWork (effects_after input host.node) work → IsKnownWork effects work
      later work known =
          let front = all_read script (world_after_cause script n host cause world) next n (host_after_step cause host)
          (get-insert_same world.hosts n (host_after_step cause host)) in
          let read : (world_after_cause script n host cause world).log ≡ read_after input host.node.peer.entries ++ front.rest
          = front.is ∙ ap (λ (entries : List Entry). entries ++ front.rest) (step_reads input host.node) in
          work_grows (effects_after input host.node) effects
          (λ vid spec made. ap (λ (log : List Entry). spec_known (log_effects log) vid) read
          ∙ spec_stays (read_after input host.node.peer.entries) front.rest vid spec made) work known

      by_works : IsNotServed cause → All (SentSo effects) (input_received input (at_first host.node)).outputs.sends
          → All (SentSo effects) (node_step input host.node).outputs.sends
      by_works not received =
          let may : May input host.node
          = asks_on_may script is_script grows world began is replies n host there up cause caused (not_served cause not) in
          let sound = (is.hosts n host there).node in
          let reservable : All IsReservable (read_after input host.node.peer.entries)
          = reservable_after input host.node.peer.entries (valid_input input host.node may.condition sound.valid_disks.read)
          sound.valid_disks.read in
          step_sends_so effects input host.node may (names_objects script world n host cause caused) sound reservable
          (caused_known script is_script (effects_after input host.node) world n host cause
          (nodes-valid script is_script grows world began n host there) caused)
          (nodes_know_by script is_script grows world began n host there) later received

    steps_send_creates : StepsSendSo IsCreateBy script world
    steps_send_creates n host there up cause caused next =
        let log : List Entry = (world_after_cause script n host cause world).log in
        step_so (IsCreateBy log) (λ known to request wanted is. asks_nothing (log_effects log) known request.ask wanted is) cause host.node
        (λ not received. by_works n host there up cause caused next not received)

    module _ (event : Event) (made : EventOutcome) (happened : MakesMove script event world made)
        (after : IsSoundWorld script made.world) where
      pub creates_after : CreatesAreInRange made.world
      creates_after = record {
        each = asks_after IsCreateBy (λ log more to request made. create_stays log more request.ask made) script world began
            steps_send_creates creates.each event made happened after.sent;
      }

  -- ---- every world

  abbrev SoundWithCreates : World → Type 0
  SoundWithCreates world = IsSoundWorld script world × EachHasRows (log_effects world.log) world × CreatesAreInRange world

  pub opens_creates : CreatesAreInRange (initial_world script)
  opens_creates = record { each = opens_so IsCreateBy script }

  module _ (few : (world : World) → Began script world → ObjectsAreFew world) where
    all_invariant : IsInvariant script SoundWithCreates
    all_invariant = record {
      opens = (let both = both_open script is_script grows in (both.0, both.1, opens_creates));
      keeps = λ event world made began happened all.
          let both = both_after script is_script grows world began all.0 all.1 (few world began) all.2 event made happened in
          (both.0, both.1, creates_after world began all.0 all.1 (few world began) all.2 event made happened both.0);
    }

    pub creates_in_range : (world : World) → Began script world → CreatesAreInRange world
    creates_in_range world began = (by_induction script SoundWithCreates all_invariant world began).2

    pub rows_where_few : (world : World) → Began script world → RowsCanBeTold world
    rows_where_few world began = told_where_rows world (few world began) (by_induction script SoundWithCreates all_invariant world began).1
