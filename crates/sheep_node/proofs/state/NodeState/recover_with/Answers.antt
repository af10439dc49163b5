use Rattle.std.proofs.Common.{◌≡◌, ℕ, ap, false, ◌∙◌, List}
use Rattle.object_id.specs.declared.node.NodeId.{NodeId}
use Rattle.object_id.specs.declared.entry.Entry.{Entry}
use Rattle.vnode_table.specs.Epochs.{EpochMembers}
use Rattle.recovery.specs.State.{Recovery}
use Rattle.recovery.specs.Steps.{recovery_from_epoch}
use Rattle.recovery.specs.Kept.{recovery_state}
use Rattle.sheep_node.specs.State.{Node}
use Rattle.sheep_node.specs.RecoveryView.{PlacedPeer, shown_peer, shown_node, placed_peer_of, recovery_state_of}
use Rattle.sheep_node.specs.KeptLog.{with_placed}
use Rattle.sheep_node.proofs.NewestEpochs.{begun_in_node}
use Rattle.sheep_node.proofs.state.NodeState.recover_with.Goals as goal

pub returns : goal.returns
returns c =
    let nodes : List NodeId = c.args.nodes.now in
    let node : Node = c.args.self.now in
    let rows : PlacedPeer = c.replace-rows.result in
    let placed : PlacedPeer = c.begin.new.rows in
    let recovery : Recovery = c.begin.new.self in
    let same_rows : rows ≡ placed_peer_of node = c.replace-rows.ensures.value ∙ ap placed_peer_of c.self.view_is in
    let same_recovery : c.self.inside.recovery ≡ node.recovery = ap (λ (node : Node). node.recovery) c.self.view_is in
    let begun : recovery_state recovery (shown_peer placed) ≡ recovery_from_epoch node.peer.epoch nodes (recovery_state_of node)
    = c.in_ok-begin.ensures.ok
    ∙ ap (λ (epoch : ℕ). recovery_from_epoch epoch nodes (recovery_state c.self.inside.recovery (shown_peer rows))) c.epoch.ensures
    ∙ ap (λ (rows : PlacedPeer). recovery_from_epoch rows.peer.epoch nodes (recovery_state c.self.inside.recovery (shown_peer rows))) same_rows
    ∙ ap (λ (recovery : Recovery). recovery_from_epoch node.peer.epoch nodes (recovery_state recovery (shown_node node))) same_recovery in
    let entries : placed.peer.entries ≡ node.peer.entries
    = ap (λ (rest : List Entry × List EpochMembers). rest.0) c.in_ok-begin.ensures.rest
    ∙ ap (λ (placed : PlacedPeer). placed.peer.entries) same_rows in
    let epochs : placed.epochs ≡ node.epochs
    = ap (λ (rest : List Entry × List EpochMembers). rest.1) c.in_ok-begin.ensures.rest
    ∙ ap (λ (placed : PlacedPeer). placed.epochs) same_rows in
    ap (λ (node : Node). record (with_placed placed node) { recovery = recovery; recovered = false }) c.self.view_is
    ∙ begun_in_node nodes node recovery placed begun entries epochs
