use Rattle.std.proofs.Common.{sym, subst, List}
use Rattle.object_id.specs.declared.entry.Entry.{Entry}
use Rattle.vdi_directory.specs.Decisions.{log_effects}
use Rattle.vdi_directory.specs.DirectoryState.{AreLocks}
use Rattle.sheep_node.specs.KeptLog.{IsTallySoFar}
use Rattle.sheep_node.proofs.PeerLog.{served_entries}
use Rattle.sheep_node.proofs.node_rows.NodeRows.serve.Goals as goal

pub invariant_of-self : goal.invariant_of-self
invariant_of-self g c =
    subst (λ (entries : List Entry). IsTallySoFar entries c.self.inside.tally × AreLocks (log_effects entries) c.self.inside.locks)
    (sym (served_entries c.serve.result c.self.inside.peer c.serve.new.self c.args.request.now c.serve.ensures.peer c.serve.ensures.err))
    c.self.invariant
