-- In each world of a run in range what sessions have open, and what commands go on with, has tables whose entries name nothing, the disk
-- itself, or a disk that became a snapshot by what the node has read.
use Rattle.std.proofs.Common.{◌≡◌, ℕ, List, Some, sym, ap, subst, ◌∙◌}
use Rattle.std.specs.FinMap as tree
use Rattle.object_id.specs.declared.entry.Entry.{Entry}
use Rattle.object_id.specs.declared.entry.Entry.TheVariants as entries
use Rattle.cluster_script.specs.declared.statement.Statement.{Statement}
use Rattle.cluster_script.specs.Settings.{tries_of}
use Rattle.sheep_node.specs.declared.input.Input.{Input}
use Rattle.sheep_node.specs.declared.input.Input.TheVariants as inputs
use Rattle.sheep_node.specs.Changes.{input_received, Leads}
use Rattle.sheep_node.specs.State as nodes
use Rattle.sheep_node.specs.State.{Node}
use Rattle.sheep_node.specs.Step.{node_step}
use Rattle.sheep_node.specs.StepFacts.{read_after}
use Rattle.sheep_node.specs.StepState.{StepState, at_first}
use Rattle.sheep_node.proofs.StepChain.{step_chain}
use Rattle.sheep_node.proofs.StepResults.{step_reads}
use Rattle.sheep_world.specs.Began.{Began}
use Rattle.sheep_world.specs.EventKinds.{log_after_return}
use Rattle.sheep_world.specs.HostChanges.{HostsKeep}
use Rattle.sheep_world.specs.NodeCauses.{NodeCause, GuestAsks, RequestComes, ReplyComes, LossIsTold, EntryIsRead, EntryIsPut, RecoveryTicks}
use Rattle.sheep_world.specs.NodeCauses.{WorkIsRetried, ClientAsks, input_of_cause, IsCause}
use Rattle.sheep_world.specs.Opening.{format_entry, initial_world}
use Rattle.sheep_world.specs.World.{Host, World}
use Rattle.sheep_world.proofs.BegunWorlds.{each_where}
use Rattle.overlap_law.specs.MomentChanges.{RunsAreInRange}
use Rattle.overlap_law.proofs.DiskWalk.{none_so}
use Rattle.overlap_law.proofs.SharedSteps.{AreSharing, ReadsTaken, shared_in_chain}
use Rattle.overlap_law.proofs.SharedTables.{IsSharedDisk, IsSharedStage}
use Rattle.overlap_law.proofs.TakenSnapshots.{taken_by_reading}

-- a node's, by what it has read
abbrev pub IsSharing : Node → Type 0
IsSharing node = AreSharing node.peer.entries node.requests node.sessions

module _ (script : List Statement) (range : RunsAreInRange script) where
  pub caused_taken : (world : World) → Began script world → (n : ℕ) (host : Host) → tree.get world.hosts n ≡ Some host → (cause : NodeCause)
      → IsCause script world n host cause → ReadsTaken (input_of_cause cause) host.node
  caused_taken world began n host there (GuestAsks session req ask) so entry from = absurd (cc (from))
  caused_taken world began n host there (RequestComes name to request) so entry from = absurd (cc (from))
  caused_taken world began n host there (ReplyComes name of rsp) so entry from = absurd (cc (from))
  caused_taken world began n host there (LossIsTold name packet) so entry from = absurd (cc (from))
  caused_taken world began n host there (EntryIsRead next) so entry from =
      let same : next ≡ entry = cc (from) in
      taken_by_reading script range world began n host there entry (so ∙ ap (λ (e : Entry). Some e) same)
  caused_taken world began n host there (EntryIsPut next) so entry from = absurd (cc (from))
  caused_taken world began n host there RecoveryTicks so entry from = absurd (cc (from))
  caused_taken world began n host there WorkIsRetried so entry from = absurd (cc (from))
  caused_taken world began n host there (ClientAsks req ask) so entry from = absurd (cc (from))

  abbrev SharingWhereBegun : World → ℕ → Host → Type 0
  SharingWhereBegun world n host = Began script world → IsSharing host.node

  -- at the end of a step
  stepped : (input : Input) (node : Node) → ReadsTaken input node → IsSharing node → IsSharing (node_step input node).node
  stepped input node taken all =
      subst (λ (read : List Entry). AreSharing read (node_step input node).node.requests (node_step input node).node.sessions)
      (sym (step_reads input node)) (shared_in_chain input node taken all (node_step input node) (step_chain input node))

  sharing_kept : HostsKeep script (Began script) SharingWhereBegun
  unfolding initial_world
  sharing_kept = record {
    opens = λ member begun.
        let new = nodes.initial_node member.node (tries_of script) in
        stepped (inputs.LogEntry (format_entry script)) new
        (λ entry from by old vid is. let snaps : inputs.LogEntry (format_entry script) ≡ inputs.LogEntry (entries.Snapshot by old vid)
        = from ∙ ap inputs.LogEntry is in absurd (cc (snaps)))
        (none_so (IsSharedDisk new.peer.entries) (IsSharedStage new.peer.entries));
    stays = λ event world made h began n host so begun. so began;
    steps = λ world n host cause began there up caused so next.
        stepped (input_of_cause cause) host.node (caused_taken world began n host there cause caused) (so began);
    fails = λ world n host began so. so;
    returns = λ world n host began there so next.
        stepped (inputs.Back (log_after_return script n world)) host.node (λ entry from by old vid is. absurd (cc (from))) (so began);
    joins = λ world n began control next.
        let new = nodes.initial_node (record { 0 = n }) (tries_of script) in
        none_so (IsSharedDisk new.peer.entries) (IsSharedStage new.peer.entries);
  }

  pub sharing_in_world : (world : World) → Began script world → (n : ℕ) (host : Host) → tree.get world.hosts n ≡ Some host
      → IsSharing host.node
  sharing_in_world world began n host there =
      each_where script (Began script) SharingWhereBegun (λ world begun. begun) sharing_kept world began n host there began

  -- in the middle of a step
  pub sharing_then : (world : World) → Began script world → (n : ℕ) (host : Host) → tree.get world.hosts n ≡ Some host → (cause : NodeCause)
      → IsCause script world n host cause → (so_far : StepState)
      → Leads (input_of_cause cause) host.node (input_received (input_of_cause cause) (at_first host.node)) so_far
      → AreSharing (read_after (input_of_cause cause) host.node.peer.entries) so_far.node.requests so_far.node.sessions
  sharing_then world began n host there cause so so_far leads =
      shared_in_chain (input_of_cause cause) host.node (caused_taken world began n host there cause so)
      (sharing_in_world world began n host there) so_far leads
