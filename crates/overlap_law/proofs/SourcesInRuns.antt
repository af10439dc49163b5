-- In each world of a run in range what a command that makes an inode was granted its id for, by what its node has read.
use Rattle.std.proofs.Common.{◌≡◌, ℕ, List, Some, sym, subst}
use Rattle.std.specs.FinMap as tree
use Rattle.object_id.specs.declared.entry.Entry.{Entry}
use Rattle.cluster_script.specs.declared.statement.Statement.{Statement}
use Rattle.cluster_script.specs.Settings.{tries_of}
use Rattle.sheep_node.specs.declared.input.Input.{Input}
use Rattle.sheep_node.specs.declared.input.Input.TheVariants as inputs
use Rattle.sheep_node.specs.State as nodes
use Rattle.sheep_node.specs.State.{Node}
use Rattle.sheep_node.specs.Step.{node_step}
use Rattle.sheep_node.proofs.StepChain.{step_chain}
use Rattle.sheep_node.proofs.StepResults.{step_reads}
use Rattle.sheep_world.specs.Began.{Began}
use Rattle.sheep_world.specs.EventKinds.{log_after_return}
use Rattle.sheep_world.specs.HostChanges.{HostsKeep}
use Rattle.sheep_world.specs.NodeCauses.{input_of_cause}
use Rattle.sheep_world.specs.Opening.{format_entry, initial_world}
use Rattle.sheep_world.specs.World.{Host, World}
use Rattle.sheep_world.proofs.BegunWorlds.{each_where}
use Rattle.overlap_law.proofs.DiskWalk.{none_so}
use Rattle.overlap_law.proofs.SourceStages.{AreSourced, IsAnyDisk, IsSourceStage, sourced_in_chain}

abbrev pub IsSourced : Node → Type 0
IsSourced node = AreSourced node.peer.entries node.requests node.sessions

-- at the end of a step
stepped : (input : Input) (node : Node) → IsSourced node → IsSourced (node_step input node).node
stepped input node all =
    subst (λ (read : List Entry). AreSourced read (node_step input node).node.requests (node_step input node).node.sessions)
    (sym (step_reads input node)) (sourced_in_chain input node all (node_step input node) (step_chain input node))

module _ (script : List Statement) where
  abbrev SourcedIn : World → ℕ → Host → Type 0
  SourcedIn world n host = IsSourced host.node

  sourced_kept : HostsKeep script (Began script) SourcedIn
  unfolding initial_world
  sourced_kept = record {
    opens = λ member.
        let new = nodes.initial_node member.node (tries_of script) in
        stepped (inputs.LogEntry (format_entry script)) new (none_so IsAnyDisk (IsSourceStage new.peer.entries));
    stays = λ event world made h began n host so. so;
    steps = λ world n host cause began there up caused so. stepped (input_of_cause cause) host.node so;
    fails = λ world n host began so. so;
    returns = λ world n host began there so. stepped (inputs.Back (log_after_return script n world)) host.node so;
    joins = λ world n began control.
        let new = nodes.initial_node (record { 0 = n }) (tries_of script) in none_so IsAnyDisk (IsSourceStage new.peer.entries);
  }

  pub sourced_in_world : (world : World) → Began script world → (n : ℕ) (host : Host) → tree.get world.hosts n ≡ Some host
      → IsSourced host.node
  sourced_in_world = each_where script (Began script) SourcedIn (λ world begun. begun) sourced_kept
