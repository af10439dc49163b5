-- What is kept of a recovery and of what is pending by each step of its node holds of each node in every world of a run in range; and what
-- holds of a recovery with its peer in every world holds at each moment on the way of an event too.
use Rattle.std.proofs.Common.{◌≡◌, ℕ, List, [], Option, Some, sym, subst}
use Rattle.std.specs.FinMap as tree
use Rattle.object_id.specs.declared.node.NodeId.{NodeId}
use Rattle.cluster_script.specs.declared.statement.Statement.{Statement}
use Rattle.cluster_script.specs.Settings.{tries_of}
use Rattle.peer_service.specs.State.{Peer}
use Rattle.recovery.specs.State.{Recovery, initial_recovery}
use Rattle.sheep_node.specs.declared.input.Input.TheVariants as inputs
use Rattle.sheep_node.specs.State as nodes
use Rattle.sheep_node.specs.State.{Node}
use Rattle.sheep_world.specs.World.{Host, World}
use Rattle.sheep_world.specs.Opening.{format_entry, initial_world}
use Rattle.sheep_world.specs.NodeCauses.{input_of_cause}
use Rattle.sheep_world.specs.EventKinds.{log_after_return}
use Rattle.sheep_world.specs.HostChanges.{HostsKeep}
use Rattle.sheep_world.specs.Began.{Began}
use Rattle.sheep_world.proofs.BegunWorlds.{each_where}
use Rattle.sheep_world.specs.RunsWithAsks.{Move}
use Rattle.overlap_law.specs.Past.{MomentWithPast, run_with_past}
use Rattle.overlap_law.specs.MomentChanges.{MomentTrail, RunsAreInRange, KeptByChanges}
use Rattle.overlap_law.proofs.ListedNodes.{opening_lists}
use Rattle.overlap_law.proofs.NodePartsInMoments.{HasPartsOf}
use Rattle.overlap_law.proofs.NodesOnTheWay.{nodes-on_the_way, nodes-kept}
use Rattle.overlap_law.proofs.RecoveriesOfSteps.{KeptByRecoveries, step-recovery_so}
use Rattle.overlap_law.proofs.SoundNodes.{sound_in_worlds}

-- ---- every world

module _ (script : List Statement) (range : RunsAreInRange script) (R : Recovery → Option (List ℕ) → Type 0) (kept : KeptByRecoveries R)
    (first : (me : NodeId) → R (initial_recovery me) (Some [])) where
  recoveries_kept : HostsKeep script (Began script) (λ (world : World) (n : ℕ) (host : Host). R host.node.recovery host.node.peer.pending)
  unfolding initial_world
  recoveries_kept = record {
    opens = λ member.
        step-recovery_so R kept (nodes.initial_node member.node (tries_of script)) (opening_lists member.node (tries_of script)).asks_so
        (first member.node) (inputs.LogEntry (format_entry script));
    stays = λ event world made h began n host so. so;
    steps = λ world n host cause began there up caused so.
        step-recovery_so R kept host.node (sound_in_worlds script range world began n host there).lists.asks_so so (input_of_cause cause);
    fails = λ world n host began so. so;
    returns = λ world n host began there so.
        step-recovery_so R kept host.node (sound_in_worlds script range world began n host there).lists.asks_so so
        (inputs.Back (log_after_return script n world));
    joins = λ world n began control. first (record { 0 = n });
  }

  pub recoveries_so : (world : World) → Began script world → (n : ℕ) (host : Host) → tree.get world.hosts n ≡ Some host
      → R host.node.recovery host.node.peer.pending
  recoveries_so =
      each_where script (Began script) (λ (world : World) (n : ℕ) (host : Host). R host.node.recovery host.node.peer.pending)
      (λ world began. began) recoveries_kept

-- ---- every moment

module _ (script : List Statement) (Q : ℕ → Recovery → Peer → Type 0)
    (holds : (world : World) → Began script world → (n : ℕ) (host : Host) → tree.get world.hosts n ≡ Some host
    → Q n host.node.recovery host.node.peer) where
  same_so : (n : ℕ) (old new : Node) → HasPartsOf old new → Q n old.recovery old.peer → Q n new.recovery new.peer
  same_so n old new parts is =
      subst (λ (r : Recovery). Q n r new.peer) (sym parts.recovery) (subst (Q n old.recovery) (sym parts.peer) is)

  pub recoveries-on_the_way : (events : List Move) (start moment : MomentWithPast) → run_with_past script events ≡ Some start
      → MomentTrail script start moment → (n : ℕ) (host : Host) → tree.get moment.world.hosts n ≡ Some host
      → Q n host.node.recovery host.node.peer
  recoveries-on_the_way = nodes-on_the_way script (λ n node. Q n node.recovery node.peer) same_so holds

  -- so each change of a moment keeps it
  pub recoveries-kept : KeptByChanges script (λ (moment : MomentWithPast). (n : ℕ) (host : Host)
      → tree.get moment.world.hosts n ≡ Some host → Q n host.node.recovery host.node.peer)
  recoveries-kept = nodes-kept script (λ n node. Q n node.recovery node.peer) same_so holds
