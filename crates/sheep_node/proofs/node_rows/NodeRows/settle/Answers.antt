use Rattle.std.proofs.Common.{ap, sym, subst, ◌∙◌, List}
use Rattle.object_id.specs.declared.entry.Entry.{Entry}
use Rattle.vdi_directory.specs.Decisions.{log_effects}
use Rattle.vdi_directory.specs.DirectoryState.{AreLocks}
use Rattle.peer_service.specs.State.{Peer}
use Rattle.sheep_node.specs.KeptLog.{IsTallySoFar}
use Rattle.sheep_node.proofs.KeptLogs.{entries_settled}
use Rattle.sheep_node.proofs.node_rows.NodeRows.settle.Goals as goal

pub invariant_of-self : goal.invariant_of-self
invariant_of-self g c =
    subst (λ (entries : List Entry). IsTallySoFar entries c.self.inside.tally × AreLocks (log_effects entries) c.self.inside.locks)
    (sym (ap (λ (peer : Peer). peer.entries) c.settle.ensures ∙ entries_settled c.settled-settled.result.0 c.self.inside.peer)) c.self.invariant
