use Rattle.std.proofs.Common.{◌≡◌, [], ap, sym, subst, List}
use Rattle.std.specs.FinMap as tree
use Rattle.object_id.specs.declared.entry.Entry.{Entry}
use Rattle.object_store.specs.Store.{OpenUpTo}
use Rattle.object_store.proofs.StoreLaws.{OpenUpTo-empty}
use Rattle.vdi_directory.specs.Decisions.{log_effects}
use Rattle.vdi_directory.specs.DirectoryState.{AreLocks}
use Rattle.peer_service.specs.State.{Peer}
use Rattle.peer_service.proofs.BackLemmas.{nothing_held}
use Rattle.sheep_node.proofs.state.NodeRows+NodeStore.new.Goals as goal

pub new-requires : goal.new-requires
new-requires c = subst (OpenUpTo 1) (sym c.new-store.ensures) (OpenUpTo-empty 1)

pub invariant_of-result : goal.invariant_of-result
invariant_of-result c =
    let none : c.new.result.entries ≡ [] = ap (λ (peer : Peer). peer.entries) c.new.ensures in (
      none,
      subst (λ held. AreLocks (log_effects c.new.result.entries) held) (sym c.new-3.ensures)
          (subst (λ (entries : List Entry). AreLocks (log_effects entries) tree.empty) (sym none) nothing_held),
    )
