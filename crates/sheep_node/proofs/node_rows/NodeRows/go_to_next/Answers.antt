use Rattle.std.proofs.Common.{ap, sym, subst, ◌∙◌, List}
use Rattle.object_id.specs.declared.entry.Entry.{Entry}
use Rattle.vdi_directory.specs.Decisions.{log_effects}
use Rattle.vdi_directory.specs.DirectoryState.{AreLocks}
use Rattle.vnode_table.specs.Targets.{targets_in}
use Rattle.peer_service.specs.State.{Peer}
use Rattle.sheep_node.specs.KeptLog.{IsTallySoFar}
use Rattle.sheep_node.proofs.KeptLogs.{entries_in_next}
use Rattle.sheep_node.proofs.node_rows.NodeRows.go_to_next.Goals as goal

pub invariant_of-self-2 : goal.invariant_of-self-2
invariant_of-self-2 g c =
    subst (λ (entries : List Entry). IsTallySoFar entries c.self.inside.tally × AreLocks (log_effects entries) c.self.inside.locks)
    (sym (ap (λ (peer : Peer). peer.entries) c.in_ok-enter.ensures.ok
    ∙ entries_in_next c.args.me (targets_in c.self.inside.place) c.self.inside.peer)) c.self.invariant
