use Rattle.std.proofs.Common.{◌+◌, sym, subst}
use Rattle.std.specs.Prelude.{IsTrue}
use Rattle.vnode_table.specs.Epochs.{is_entered}
use Rattle.sheep_node.specs.RecoveryView.{PlacedPeer}
use Rattle.sheep_node.proofs.NewestEpochs.{newest_is_entered}
use Rattle.sheep_node.proofs.node_rows.NodeRows.go_to_newest.Goals as goal

pub go_to_next-requires : goal.go_to_next-requires
go_to_next-requires g c =
    subst (λ (placed : PlacedPeer). IsTrue (is_entered placed.epochs (placed.peer.epoch + 1))) (sym c.in_ok-enter_newest.ensures)
    (newest_is_entered c.args.self.now c.requires)
