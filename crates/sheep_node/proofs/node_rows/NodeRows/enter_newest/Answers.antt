use Rattle.std.proofs.Common.{◌≡◌, ap, sym, subst, ◌∙◌, List, arith}
use Rattle.object_id.specs.declared.entry.Entry.{Entry}
use Rattle.epoch_log.specs.Appending.{IsLog}
use Rattle.epoch_log.specs.Epochs.{epoch_of}
use Rattle.hash_ring.specs.Placement.{AreWeighted}
use Rattle.sheep_node.specs.RecoveryView.{PlacedPeer}
use Rattle.sheep_node.proofs.LogsRead.{weighted}
use Rattle.sheep_node.proofs.node_rows.NodeRows.enter_newest.Goals as goal

pub enter-requires-clause-members : goal.enter-requires-clause-members
enter-requires-clause-members g c =
    let entries : List Entry = c.entries-entries.result.now in
    let read : entries ≡ c.args.self.now.peer.entries
    = c.entries-entries.ensures ∙ c.directory.ensures ∙ ap (λ (placed : PlacedPeer). placed.peer.entries) c.self.view_is in
    let newest : c.epoch-epoch.result.0 ≡ epoch_of entries = c.epoch-epoch.ensures in
    subst AreWeighted (sym c.members.ensures) (weighted entries c.epoch-epoch.result.0 (subst IsLog (sym read) c.requires.log) (omega arith))
