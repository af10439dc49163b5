use Rattle.std.proofs.Common.{sym, subst, List}
use Rattle.std.specs.FinMap as tree
use Rattle.object_id.specs.declared.entry.Entry.{Entry}
use Rattle.vdi_directory.specs.Decisions.{log_effects}
use Rattle.vdi_directory.specs.DirectoryState.{AreLocks}
use Rattle.peer_service.proofs.BackLemmas.{nothing_held}
use Rattle.peer_service.proofs.log_reading.directory_of.Goals as goal

pub loop-entry-init : goal.loop-entry-init
loop-entry-init c = record {
  directory = c.new-directory.ensures;
  locks = subst (λ held. AreLocks (log_effects c.new-directory.result) held) (sym c.new-locks.ensures)
      (subst (λ (entries : List Entry). AreLocks (log_effects entries) tree.empty) (sym c.new-directory.ensures) nothing_held);
}
