-- What a node's recovery sees of its node, and the node with what the recovery made of that.
use Rattle.std.specs.Prelude.{List}
use Rattle.vnode_table.specs.Epochs.{EpochMembers}
use Rattle.vnode_table.specs.Targets.{targets_in}
use Rattle.peer_service.specs.State as peers
use Rattle.peer_service.specs.State.{Peer, is_dead_object, length_of_rows}
use Rattle.recovery.specs.Shown.{NodeView}
use Rattle.recovery.specs.State.{RecoveryState}
use Rattle.sheep_node.specs.State.{Node}

-- a peer, with the epochs that its node entered
pub record PlacedPeer : Type 0 where
  pub peer : Peer
  pub epochs : List EpochMembers

-- such a peer, as a recovery sees it
abbrev pub shown_peer : PlacedPeer → NodeView
shown_peer placed = record {
  epoch = placed.peer.epoch;
  settled = placed.peer.settled;
  rows = placed.peer.rows;
  pending = placed.peer.pending;
  policy_of = peers.object_policy placed.peer;
  is_dead = is_dead_object placed.peer;
  size_of = length_of_rows placed.peer;
  targets = targets_in placed.epochs;
}

-- a node's peer, with the node's epochs
abbrev pub placed_peer_of : Node → PlacedPeer
placed_peer_of node = record { peer = node.peer; epochs = node.epochs }

-- a node, as its recovery sees it
abbrev pub shown_node : Node → NodeView
shown_node node = shown_peer (placed_peer_of node)

-- the node's recovery, with what it sees
abbrev pub recovery_state_of : Node → RecoveryState
recovery_state_of node = record { recovery = node.recovery; shown = shown_node node }

-- rows and what is pending go back from the recovery to the peer
abbrev pub with_recovered_rows : RecoveryState → Peer → Peer
with_recovered_rows state peer = record peer { rows = state.shown.rows; pending = state.shown.pending }

-- the node after a step of its recovery
abbrev pub with_state : RecoveryState → Node → Node
with_state state node = record node { recovery = state.recovery; peer = with_recovered_rows state node.peer }
